use Rattle.std.proofs.Common.{sym, ◌∙◌, pos}
use Rattle.tables.proofs.TreeLaws.{int_eq-same}
use Rattle.k_star_bmd.proofs.JoinLaws.{divides_low, divides_high, undivided, divided_by_one, some_weight, divided-alone}
use Rattle.k_star_bmd.proofs.k_star_bmd.KStarBmdKind.take_scale.Goals as goal
use Rattle.k_star_bmd.proofs.k_star_bmd.KStarBmdKind.take_scale.Goals.{then-eq-2-via-then-eq-2, then-eq-2-via-else-eq-2+then-eq-3}

pub returns-then-ne-clause-rest : goal.returns-then-ne-clause-rest
returns-then-ne-clause-rest c =
    c.make_edge-rest.ensures
    ∙ divided-alone c.args.edge.weight c.args.edge.extra c.args.edge.node
    (int_eq-same c.args.edge.extra (pos 0) (sym c.eq.ensures ∙ c.if-eq.true)) (some_weight c.args.edge.weight (sym c.ne.ensures ∙ c.if-ne.true))

pub returns-then-eq-2-clause-rest : goal.returns-then-eq-2-clause-rest
returns-then-eq-2-clause-rest c =
    let a = c.args.edge.weight in
    let x = c.args.edge.extra in
    let n = c.args.edge.node in
    let g = c.signed_gcd-scale.result in
    let is = c.signed_gcd-scale.ensures in
    elim c.then-eq-2.branch [
      | then-eq-2-via-then-eq-2 w ↦ undivided a x n g is (int_eq-same g (pos 0) (sym c.eq-2.ensures ∙ w.if-eq-2.true))
      | then-eq-2-via-else-eq-2+then-eq-3 w ↦ divided_by_one a x n g is (int_eq-same g (pos 1) (sym w.eq-else-eq-2.ensures ∙ w.if-eq-3.true))
    ]

pub exact_div-weight-requires-clause-divides : goal.exact_div-weight-requires-clause-divides
exact_div-weight-requires-clause-divides c = divides_low c.args.edge.weight c.args.edge.extra (pos 0) c.signed_gcd-scale.result c.signed_gcd-scale.ensures

pub exact_div-extra-requires-clause-divides : goal.exact_div-extra-requires-clause-divides
exact_div-extra-requires-clause-divides c = divides_high c.args.edge.weight c.args.edge.extra (pos 0) c.signed_gcd-scale.result c.signed_gcd-scale.ensures
