use Rattle.std.proofs.Common.{ℕ, sym, subst, ◌==◌}
use mathlib.Core.Option.{none}
use prog.Atomic.{either}
use Rattle.atomic_table.specs.Table.{Allows, step}
use Rattle.table_rule.specs.declared.layout.Layout.{Layout}
use Rattle.unique_table.specs.Taking.{IsTable, Told}
use Rattle.unique_table.proofs.Taking.{takes}
use Rattle.unique_table.proofs.step.exchange.Goals as goal

pub compare_exchange-requires : goal.compare_exchange-requires
compare_exchange-requires g c =
    let slots : ℕ = c.args.words.now.table_id.slots in
    let me = c.args.place.now.me in
    let L : Layout = g.E.Taking.layout in
    let f : ℕ → ℕ = λ n. either (n == 0) c.args.new n in (
      c.requires.own,
      c.requires.within,
      subst (λ (k : Layout). Allows (IsTable k) slots c.args.place.now.id me c.args.word f (Told L g.E.Taking.event (step slots c.args.word 0 c.args.new none) me)) (sym c.requires.key) (takes L slots c.args.place.now.id me c.args.word 0 c.args.new f g.E.Taking.event c.requires.allowed),
    )
