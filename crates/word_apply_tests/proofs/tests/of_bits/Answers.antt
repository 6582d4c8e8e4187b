use Rattle.std.proofs.Common.{subst, sym, arith}
use Rattle.word_apply.specs.Applied.{AreEdges, plain_edges}
use Rattle.word_apply.proofs.EdgeLists.{one_more_edge}
use Rattle.word_apply_tests.proofs.tests.of_bits.Goals as goal

pub gate-requires-clause-good : goal.gate-requires-clause-good
gate-requires-clause-good g c κs within =
    let k = g.K.Kind.NAME in
    let of = g.K.Kind.extra_of in
    let v = c.args.builder.now in
    let none = subst (λ (es : _). AreEdges k v (plain_edges of es)) (sym c.new-edges.ensures.items) tt in
    let first = one_more_edge k v of _ _ c.constant.result c.in_ok-push.ensures.items none (_, c.constant.ensures.table 0 (omega arith)) in
    let second = one_more_edge k v of _ _ c.constant-2.result c.in_ok-push-2.ensures.items first (_, c.constant-2.ensures.table 0 (omega arith)) in
    let third = one_more_edge k v of _ _ c.constant-3.result c.in_ok-push-3.ensures.items second (_, c.constant-3.ensures.table 0 (omega arith)) in
    subst (λ (es : _). AreEdges k v (plain_edges of es)) (sym c.as_slice.ensures.value) third
