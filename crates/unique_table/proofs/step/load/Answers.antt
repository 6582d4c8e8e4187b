use Rattle.std.proofs.Common.{ℕ, sym, subst}
use mathlib.Core.Option.{none}
use Rattle.atomic_table.specs.Table.{Allows, step}
use Rattle.table_rule.specs.declared.layout.Layout.{Layout}
use Rattle.unique_table.specs.Taking.{IsTable, Told}
use Rattle.unique_table.proofs.Taking.{takes}
use Rattle.unique_table.proofs.step.load.Goals as goal

pub load-requires : goal.load-requires
load-requires g c =
    let slots : ℕ = c.args.words.now.table_id.slots in
    let me = c.args.place.now.me in
    let L : Layout = g.E.Taking.layout in (
      c.requires.own,
      c.requires.within,
      subst (λ (k : Layout). Allows (IsTable k) slots c.args.place.now.id me c.args.word (λ n. n) (Told L g.E.Taking.event (step slots c.args.word 0 0 none) me)) (sym c.requires.key) (takes L slots c.args.place.now.id me c.args.word 0 0 (λ n. n) g.E.Taking.event c.requires.allowed),
    )
