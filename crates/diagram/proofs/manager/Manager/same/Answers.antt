use Rattle.std.proofs.Common.{◌≡◌, ℤ, true, ap, sym, ◌∙◌, subst, refl}
use Rattle.std.proofs.lemmas.Bool.{and_from, and_parts, eq-eqb, eqb-true}
use Rattle.std.specs.Ordering.{int_eq}
use Rattle.tables.proofs.TreeLaws.{int_eq-same, int_eq-refl}
use Rattle.kind_laws.specs.Plain.{PlainEdge, plain, plain_edge}
use Rattle.diagram.specs.View.{IsGood}
use Rattle.diagram.proofs.SameLaws.{same_tells}
use Rattle.diagram.proofs.manager.Manager.same.Goals as goal

pub returns : goal.returns
returns g c = λ l t u h e.
    let k = g.K.Kind.NAME in
    let number = g.K.Kind.extra_of in
    let laws = g.met.K.Kind g.world.𝓛 g.world.𝓜 g.world.𝓡 ((λ s x. x), (λ x. x), (λ x. x), λ x. x) in
    let a = c.args.a in
    let b = c.args.b in
    let good = subst (IsGood k) c.self.view_is c.self.invariant.good in
    let tells = same_tells k c.args.self.now (plain number a) (plain number b) good l t u h e in (
      λ yes.
          let all = and_parts _ _ (sym c.eq.ensures ∙ yes) in
          let rest = and_parts _ _ all.1 in
          let weight = int_eq-same a.weight b.weight all.0 in
          let extra = (laws.extra_eq a.extra b.extra).0 rest.0 in
          let node = eqb-true a.node b.node (and_parts _ _ rest.1).0 in
          tells.0 (ap (λ (w : ℤ). plain_edge w (number a.extra) a.node) weight
          ∙ ap (λ x. plain_edge b.weight (number x) a.node) extra ∙ ap (plain_edge b.weight (number b.extra)) node),
      λ same.
          let edges = tells.1 same in
          let weight : a.weight ≡ b.weight = ap (λ (x : PlainEdge). x.root.weight) edges in
          let extra = laws.extra_tells a.extra b.extra (ap (λ (x : PlainEdge). x.root.extra) edges) in
          let node : a.node ≡ b.node = ap (λ (x : PlainEdge). x.node) edges in
          c.eq.ensures ∙ and_from _ _ (subst (λ (z : ℤ). int_eq a.weight z ≡ true) weight (int_eq-refl a.weight))
          (and_from _ _ ((laws.extra_eq a.extra b.extra).1 extra) (and_from _ _ (eq-eqb a.node b.node node) refl)),
    )
