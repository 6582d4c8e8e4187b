use Rattle.std.proofs.Common.{ℕ, sym, subst}
use mathlib.Core.Option.{none}
use Rattle.atomic_table.specs.Table.{Allows, step}
use Rattle.table_rule.specs.declared.layout.Layout.{Layout}
use Rattle.unique_table.specs.Taking.{IsTable, ToldWriter}
use Rattle.unique_table.proofs.Taking.{writes}
use Rattle.unique_table.proofs.step.store.Goals as goal

pub store-requires : goal.store-requires
store-requires g c =
    let slots : ℕ = c.args.words.now.table_id.slots in
    let me = c.args.place.now.me in
    let L : Layout = g.E.Taking.layout in (
      c.requires.own,
      c.requires.within,
      subst (λ (k : Layout). Allows (IsTable k) slots c.args.place.now.id me c.args.word (λ _. c.args.new) (λ _. ToldWriter L g.E.Taking.event (step slots c.args.word c.args.new 0 none) me c.args.new)) (sym c.requires.key) (writes L slots c.args.place.now.id me c.args.word c.args.new g.E.Taking.event c.requires.allowed),
    )
