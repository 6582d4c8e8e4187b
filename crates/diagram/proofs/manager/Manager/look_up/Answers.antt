use Rattle.std.proofs.Common.{sym, subst}
use Rattle.kind_laws.specs.Plain.{PlainEdge, plain}
use Rattle.diagram.specs.Remembered.{IsResult}
use Rattle.diagram.specs.View.{View}
use Rattle.diagram.proofs.RememberedLaws.{found_result, are_edge_words}
use Rattle.diagram.proofs.manager.Manager.look_up.Goals as goal

pub unpack-requires : goal.unpack-requires
unpack-requires g c =
    let v : View = record { store = g.S.Store.view c.self.inside.store; letters = c.self.inside.levels } in
    are_edge_words g.K.Kind.NAME v c.args.key.now c.in-Some.words (c.self.invariant.right c.args.key.now c.in-Some.words c.in-Some.ensures)

pub returns-in-Some : goal.returns-in-Some
returns-in-Some g c = λ o a b is_key.
    let k = g.K.Kind.NAME in
    let v : View = record { store = g.S.Store.view c.self.inside.store; letters = c.self.inside.levels } in
    let right = c.self.invariant.right c.args.key.now c.in-Some.words c.in-Some.ensures in
    let found = found_result o k v a b c.args.key.now c.in-Some.words is_key right in
    subst (λ (x : View). IsResult o k x a b (plain g.K.Kind.extra_of c.unpack.result)) c.self.view_is
    (subst (λ (e : PlainEdge). IsResult o k v a b e) (sym (c.unpack.ensures right.result right.fits right.words)) found)
