use Rattle.std.proofs.Common.{subst, sym}
use Rattle.diagram.proofs.LevelLaws.{good_at}
use Rattle.kind_laws.specs.Plain.{plain}
use Rattle.word_apply.specs.Applied.{AreEdges, plain_edges}
use Rattle.word_apply.proofs.EdgeLists.{one_more_edge}
use Rattle.word_apply_tests.proofs.tests.of_variable.Goals as goal

pub gate-requires-clause-good : goal.gate-requires-clause-good
gate-requires-clause-good g c κs within =
    let k = g.K.Kind.NAME in
    let of = g.K.Kind.extra_of in
    let w = c.var.new.self in
    let none = subst (λ (es : _). AreEdges k w (plain_edges of es)) (sym c.new-inputs.ensures.items) tt in
    let one = one_more_edge k w of _ _ c.in_ok-x.x c.in_ok-push.ensures.items none (good_at k w (plain of c.in_ok-x.x) 0 _ c.in_ok-x.ensures.table.stands) in
    subst (λ (es : _). AreEdges k w (plain_edges of es)) (sym c.as_slice.ensures.value) one
