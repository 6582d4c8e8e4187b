use Rattle.std.proofs.Common.{◌-◌, List, ◌∙◌, length, take, drop, subst, sym}
use Rattle.std.specs.Prelude.{Ok}
use Rattle.diagram.proofs.LevelLaws.{good_at}
use Rattle.diagram.proofs.StoreLaws.{keeps_on}
use Rattle.checks.specs.Work.{gate_table}
use Rattle.kind_laws.specs.Plain.{plain, answered}
use Rattle.word_apply.specs.Applied.{plain_edges, AreEdges, IsOfAll, gate_work_at}
use Rattle.word_apply.proofs.EdgeLists.{first_and_rest, all_somewhere}
use Rattle.word_apply.proofs.FoldCalls.{gate_refuses, gate_folded, gate_negated}
use Rattle.word_apply.proofs.fold.gate.Goals as goal

pub returns-in_err-folded-in-len1-up-clause-gate : goal.returns-in_err-folded-in-len1-up-clause-gate
returns-in_err-folded-in-len1-up-clause-gate g c =
    let k = g.K.Kind.NAME in
    let of = g.K.Kind.extra_of in
    let v = c.args.builder.now in
    let w = c.fold.new.builder in
    let inputs = c.args.inputs.now in
    let all = first_and_rest inputs c.first-item.result c.in-len1-up.len_at_least c.first-item.is in
    subst (λ (es : List _). IsOfAll (λ l. gate_table c.args.word) (gate_work_at c.args.word v.letters) k v w (plain_edges of es) (answered (plain of) c.from_residual.result)) (sym all)
    (gate_refuses c.args.word k v w (plain of c.first-item.result) (plain_edges of (take (length inputs - 1) (drop 1 inputs))) (plain of) c.from_residual.result
    c.in_err-folded-in-len1-up.field-0.0 c.from_residual.ensures.1 c.in_err-folded-in-len1-up.ensures.keeps c.in_err-folded-in-len1-up.ensures.fold)

pub not-requires-after_bounds : goal.not-requires-after_bounds
not-requires-after_bounds g c = λ lives bounds.
    let k = g.K.Kind.NAME in
    let of = g.K.Kind.extra_of in
    let inputs = c.args.inputs.now in
    let all = first_and_rest inputs c.first-item.result c.in-len1-up.len_at_least c.first-item.is in
    let good = subst (λ (es : List _). AreEdges k c.args.builder.now (plain_edges of es)) all c.requires.good in
    let first = good.0 in
    let rest = all_somewhere k c.args.builder.now (plain_edges of (take (length inputs - 1) (drop 1 inputs))) good.1 in
    good_at k c.fold.new.builder (plain of c.in_ok-folded-in-len1-up.folded) 0 _ (c.in_ok-folded-in-len1-up.ensures.fold 0 first.0 rest.0 first.1 rest.1).stands

pub returns-then-is_negated-clause-keeps : goal.returns-then-is_negated-clause-keeps
returns-then-is_negated-clause-keeps g c =
    keeps_on c.args.builder.now c.fold.new.builder c.not.new.builder c.in_ok-folded-in-len1-up.ensures.keeps c.not.ensures.keeps

pub returns-then-is_negated-clause-gate : goal.returns-then-is_negated-clause-gate
returns-then-is_negated-clause-gate g c =
    let k = g.K.Kind.NAME in
    let of = g.K.Kind.extra_of in
    let v = c.args.builder.now in
    let x = c.not.new.builder in
    let inputs = c.args.inputs.now in
    let all = first_and_rest inputs c.first-item.result c.in-len1-up.len_at_least c.first-item.is in
    let result = answered (plain of) c.not.result in
    subst (λ (es : List _). IsOfAll (λ l. gate_table c.args.word) (gate_work_at c.args.word v.letters) k v x (plain_edges of es) result) (sym all)
    (gate_negated c.args.word k v c.fold.new.builder x (plain of c.first-item.result) (plain of c.in_ok-folded-in-len1-up.folded)
    (plain_edges of (take (length inputs - 1) (drop 1 inputs))) result (sym c.is_negated.ensures ∙ c.if-is_negated.true)
    c.in_ok-folded-in-len1-up.ensures.keeps c.not.ensures.keeps c.in_ok-folded-in-len1-up.ensures.fold c.not.ensures.negation)

pub returns-clause-gate : goal.returns-clause-gate
returns-clause-gate g c =
    let k = g.K.Kind.NAME in
    let of = g.K.Kind.extra_of in
    let v = c.args.builder.now in
    let w = c.fold.new.builder in
    let inputs = c.args.inputs.now in
    let all = first_and_rest inputs c.first-item.result c.in-len1-up.len_at_least c.first-item.is in
    let folded = plain of c.in_ok-folded-in-len1-up.folded in
    subst (λ (es : List _). IsOfAll (λ l. gate_table c.args.word) (gate_work_at c.args.word v.letters) k v w (plain_edges of es) (Ok folded)) (sym all)
    (gate_folded c.args.word k v w (plain of c.first-item.result) (plain_edges of (take (length inputs - 1) (drop 1 inputs))) (Ok folded)
    (sym c.is_negated.ensures ∙ c.if-is_negated.false) c.in_ok-folded-in-len1-up.ensures.keeps c.in_ok-folded-in-len1-up.ensures.fold)
