use Rattle.std.proofs.Common.{[], subst, sym}
use Rattle.diagram.proofs.LevelLaws.{still_edge, good_at}
use Rattle.diagram.proofs.StoreLaws.{keeps_on}
use Rattle.kind_laws.specs.Plain.{plain}
use Rattle.word_apply.specs.Applied.{AreEdges, plain_edges}
use Rattle.word_apply.proofs.EdgeLists.{one_more_edge}
use Rattle.word_apply_tests.proofs.tests.two_variables.Goals as goal

pub returns-in_err-y-clause-keeps : goal.returns-in_err-y-clause-keeps
returns-in_err-y-clause-keeps g c = keeps_on c.args.builder.now c.var.new.self c.var-2.new.self c.in_ok-x.ensures.keeps c.in_err-y.ensures.keeps

pub returns-in_err-push-clause-keeps : goal.returns-in_err-push-clause-keeps
returns-in_err-push-clause-keeps g c = keeps_on c.args.builder.now c.var.new.self c.var-2.new.self c.in_ok-x.ensures.keeps c.in_ok-y.ensures.keeps

pub returns-in_err-push-2-clause-keeps : goal.returns-in_err-push-2-clause-keeps
returns-in_err-push-2-clause-keeps g c = keeps_on c.args.builder.now c.var.new.self c.var-2.new.self c.in_ok-x.ensures.keeps c.in_ok-y.ensures.keeps

pub returns-clause-keeps : goal.returns-clause-keeps
returns-clause-keeps g c = keeps_on c.args.builder.now c.var.new.self c.var-2.new.self c.in_ok-x.ensures.keeps c.in_ok-y.ensures.keeps

pub returns-clause-good : goal.returns-clause-good
returns-clause-good g c =
    let k = g.K.Kind.NAME in
    let of = g.K.Kind.extra_of in
    let w = c.var-2.new.self in
    let x = still_edge k c.var.new.self w (plain of c.in_ok-x.x) c.in_ok-y.ensures.keeps (good_at k c.var.new.self (plain of c.in_ok-x.x) 0 _ c.in_ok-x.ensures.table.stands) in
    let y = good_at k w (plain of c.in_ok-y.y) 0 _ c.in_ok-y.ensures.table.stands in
    let none = subst (λ (es : _). AreEdges k w (plain_edges of es)) (sym c.new-edges.ensures.items) tt in
    one_more_edge k w of _ _ c.in_ok-y.y c.in_ok-push-2.ensures.items (one_more_edge k w of _ _ c.in_ok-x.x c.in_ok-push.ensures.items none x) y
