use Rattle.std.proofs.Common.{◌≡◌, ◌∙◌, ap, sym, arith}
use Rattle.outside.specs.Count.{raised}
use Rattle.outside.specs.MemoryShelf.{fails_next, after_fetch}
use Rattle.outside.proofs.Files.{found-fails_next, after_fetch-fails, after_fetch-other}
use Rattle.outside.proofs.memory_shelf.MemoryShelf.begin_fetch.Goals as goal

pub returns-then-fails-clause-fails : goal.returns-then-fails-clause-fails
returns-then-fails-clause-fails c =
    let counted : c.saturating_add-self-inside.result ≡ raised c.self.inside.fetches = omega arith in
    found-fails_next c.self.inside _ _ counted c.contains-fails.ensures ∙ ap fails_next c.self.view_is

pub returns-then-fails-clause-after : goal.returns-then-fails-clause-after
returns-then-fails-clause-after c =
    let counted : c.saturating_add-self-inside.result ≡ raised c.self.inside.fetches = omega arith in
    let risen : c.saturating_add-self-inside-then-fails.result ≡ raised c.self.inside.faults = omega arith in
    let found = found-fails_next c.self.inside _ _ counted c.contains-fails.ensures in
    after_fetch-fails c.self.inside _ _ counted risen (sym found ∙ c.if-fails.true) ∙ ap after_fetch c.self.view_is

pub returns-else-fails-clause-fails : goal.returns-else-fails-clause-fails
returns-else-fails-clause-fails c =
    let counted : c.saturating_add-self-inside.result ≡ raised c.self.inside.fetches = omega arith in
    found-fails_next c.self.inside _ _ counted c.contains-fails.ensures ∙ ap fails_next c.self.view_is

pub returns-else-fails-clause-after : goal.returns-else-fails-clause-after
returns-else-fails-clause-after c =
    let counted : c.saturating_add-self-inside.result ≡ raised c.self.inside.fetches = omega arith in
    let found = found-fails_next c.self.inside _ _ counted c.contains-fails.ensures in
    after_fetch-other c.self.inside _ counted (sym found ∙ c.if-fails.false) ∙ ap after_fetch c.self.view_is
