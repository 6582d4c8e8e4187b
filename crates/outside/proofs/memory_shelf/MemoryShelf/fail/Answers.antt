use Rattle.std.proofs.Common.{◌∙◌, ap}
use Rattle.std.specs.Ordering.{nat_cmp}
use Rattle.std.specs.FinSet as set
use Rattle.outside.specs.MemoryShelf.{ShelfState}
use Rattle.outside.proofs.Files.{shelf_state, from_list-insert}
use Rattle.outside.proofs.memory_shelf.MemoryShelf.fail.Goals as goal

pub returns-clause-ok : goal.returns-clause-ok
returns-clause-ok c =
    let inserted = from_list-insert c.self.inside.failing c.insert.new.self c.args.fetch c.in_ok-insert.ensures.updates in
    ap (λ (numbers : set.FinSet nat_cmp). record (shelf_state c.self.inside) { failing = numbers }) inserted
    ∙ ap (λ (shelf : ShelfState). record shelf { failing = set.insert shelf.failing c.args.fetch }) c.self.view_is
