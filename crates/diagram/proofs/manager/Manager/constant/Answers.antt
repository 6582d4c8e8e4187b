use Rattle.std.proofs.Common.{sym, subst, length, drop}
use Rattle.tables.specs.Table.{constant_table}
use Rattle.diagram.specs.View.{StandsAt, IsGood}
use Rattle.diagram.proofs.PartLaws.{constant_stands}
use Rattle.diagram.proofs.manager.Manager.constant.Goals as goal

pub returns-clause-table : goal.returns-clause-table
returns-clause-table g c = λ l within.
    let k = g.K.Kind.NAME in
    let v = c.args.self.now in
    let good = subst (IsGood k) c.self.view_is c.self.invariant.good in
    subst (StandsAt k v l (constant_table (length (drop l v.letters)) c.args.value)) (sym c.constant.ensures)
    (constant_stands k v l c.args.value good.allowed good.store.no_zero within)
