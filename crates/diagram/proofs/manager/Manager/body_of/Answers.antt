use Rattle.std.proofs.Common.{◌≡◌, sym, ◌∙◌, subst}
use Rattle.std.specs.Prelude.{Some}
use Rattle.std.proofs.lemmas.Option.{same_Some}
use Rattle.record_store.specs.StoreView.{find_in}
use Rattle.kind_laws.specs.Body.{body_of}
use Rattle.kind_laws.specs.Plain.{plain}
use Rattle.diagram.specs.View.{View}
use Rattle.diagram.proofs.LevelLaws.{node_known}
use Rattle.diagram.proofs.manager.Manager.body_of.Goals as goal

pub fields-requires : goal.fields-requires
fields-requires g c =
    let n = node_known g.K.Kind.NAME c.args.self.now (plain g.K.Kind.extra_of c.args.edge) c.requires.good c.requires.no_leaf in
    (body_of n.fields, subst (λ (v : View). find_in v.store c.args.edge.node ≡ Some (body_of n.fields)) (sym c.self.view_is) n.known)

pub returns-clause-body : goal.returns-clause-body
returns-clause-body g c =
    let n = node_known g.K.Kind.NAME c.args.self.now (plain g.K.Kind.extra_of c.args.edge) c.requires.good c.requires.no_leaf in
    let known = subst (λ (v : View). find_in v.store c.args.edge.node ≡ Some (body_of n.fields)) (sym c.self.view_is) n.known in
    (n.fields, n.fits, n.zeros, same_Some _ _ (sym c.fields.ensures.body ∙ known))
