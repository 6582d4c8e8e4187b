use Rattle.std.proofs.Common.{sym, subst}
use Rattle.kind_laws.specs.Plain.{plain}
use Rattle.diagram.specs.Remembered.{IsKept}
use Rattle.diagram.specs.View.{View}
use Rattle.diagram.proofs.RememberedLaws.{kept_right}
use Rattle.diagram.proofs.manager.Manager.remember.Goals as goal

pub invariant_of-self : goal.invariant_of-self
invariant_of-self g c =
    let k = g.K.Kind.NAME in
    let v : View = record { store = g.S.Store.view c.self.inside.store; letters = c.self.inside.levels } in
    let r = plain g.K.Kind.extra_of c.args.answer in
    let is = subst (λ (x : View). IsKept k x c.args.key.now r) (sym c.self.view_is) c.requires in
    record {
      good = c.self.invariant.good;
      marked = c.self.invariant.marked;
      right = kept_right is.operation k v is.first is.second r c.self.inside.cache c.keep.new.self c.args.key.now c.pack.result c.self.invariant.right is.is_key c.pack.ensures.words
          c.pack.ensures.fits is.first_good is.second_good is.is_result c.keep.ensures;
    }
