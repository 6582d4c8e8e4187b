use Rattle.std.proofs.Common.{sym, subst}
use Rattle.diagram.specs.Calls.{KeepsGood}
use Rattle.diagram.specs.View.{View}
use Rattle.diagram.proofs.RememberedLaws.{all_stay}
use Rattle.diagram.proofs.StoreLaws.{interned_keeps, interned_marks}
use Rattle.diagram.proofs.manager.Manager.intern.Goals as goal

pub invariant_of-self : goal.invariant_of-self
invariant_of-self g c =
    let k = g.K.Kind.NAME in
    let v : View = record { store = g.S.Store.view c.self.inside.store; letters = c.self.inside.levels } in
    let w = g.S.Store.view c.intern.new.self in
    let good = subst (λ (x : View). KeepsGood k x c.args.body.now) (sym c.self.view_is) c.requires in
    record {
      good = good w c.intern.result c.intern.ensures;
      marked = interned_marks v.store w c.args.body.now c.intern.result c.self.inside.marks c.intern.ensures c.self.invariant.marked;
      right = all_stay k v (record { store = w; letters = v.letters }) c.self.inside.cache (interned_keeps v w c.args.body.now c.intern.result c.intern.ensures) c.self.invariant.right;
    }
