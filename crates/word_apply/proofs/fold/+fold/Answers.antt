use Rattle.std.proofs.Common.{◌-◌, List, [], length, take, drop, subst, sym}
use Rattle.std.specs.Prelude.{Ok}
use Rattle.diagram.proofs.LevelLaws.{good_at}
use Rattle.diagram.proofs.StoreLaws.{keeps_itself, keeps_on}
use Rattle.checks.specs.Work.{fold_table}
use Rattle.kind_laws.specs.Plain.{plain, answered}
use Rattle.word_apply.specs.Applied.{plain_edges, AreEdges, IsOfRest, fold_work_at}
use Rattle.word_apply.proofs.EdgeLists.{first_and_rest, still_edges, shorter, is_empty}
use Rattle.word_apply.proofs.FoldCalls.{fold_of_none, fold_refuses, fold_answers}
use Rattle.word_apply.proofs.fold.+fold.Goals as goal

pub returns-in_err-folded-in-len1-up-clause-fold : goal.returns-in_err-folded-in-len1-up-clause-fold
returns-in_err-folded-in-len1-up-clause-fold g t c =
    let k = g.K.Kind.NAME in
    let of = g.K.Kind.extra_of in
    let v = c.args.builder.now in
    let w = c.one_step.new.builder in
    let rest = c.args.rest.now in
    let first = plain of c.args.first in
    let all = first_and_rest rest c.next-item.result c.in-len1-up.len_at_least c.next-item.is in
    subst (λ (es : List _). IsOfRest (fold_table c.args.word) (fold_work_at c.args.word v.letters) k v w first (plain_edges of es) (answered (plain of) c.from_residual.result))
    (sym all)
    (fold_refuses c.args.word k v w first (plain of c.next-item.result) (plain_edges of (take (length rest - 1) (drop 1 rest))) (plain of) c.from_residual.result
    c.in_err-folded-in-len1-up.field-0.0 c.from_residual.ensures.1 c.in_err-folded-in-len1-up.ensures.keeps c.in_err-folded-in-len1-up.ensures.step)

pub fold-requires-clause-first_good : goal.fold-requires-clause-first_good
fold-requires-clause-first_good g t c κs within =
    let k = g.K.Kind.NAME in
    let of = g.K.Kind.extra_of in
    let rest = c.args.rest.now in
    let all = first_and_rest rest c.next-item.result c.in-len1-up.len_at_least c.next-item.is in
    let first = c.requires.first_good in
    let next = (subst (λ (es : List _). AreEdges k c.args.builder.now (plain_edges of es)) all c.requires.rest_good).0 in
    good_at k c.one_step.new.builder (plain of c.in_ok-folded-in-len1-up.folded) 0 _ (c.in_ok-folded-in-len1-up.ensures.step 0 first.0 next.0 first.1 next.1).stands

pub fold-requires-clause-rest_good : goal.fold-requires-clause-rest_good
fold-requires-clause-rest_good g t c κs within =
    let k = g.K.Kind.NAME in
    let of = g.K.Kind.extra_of in
    let v = c.args.builder.now in
    let rest = c.args.rest.now in
    let all = first_and_rest rest c.next-item.result c.in-len1-up.len_at_least c.next-item.is in
    let more = (subst (λ (es : List _). AreEdges k v (plain_edges of es)) all c.requires.rest_good).1 in
    still_edges k v c.one_step.new.builder (plain_edges of (take (length rest - 1) (drop 1 rest))) c.in_ok-folded-in-len1-up.ensures.keeps more

pub returns-in-empty-clause-fold : goal.returns-in-empty-clause-fold
returns-in-empty-clause-fold g t c =
    let k = g.K.Kind.NAME in
    let of = g.K.Kind.extra_of in
    let v = c.args.builder.now in
    let first = plain of c.args.first in
    subst (λ (es : List _). IsOfRest (fold_table c.args.word) (fold_work_at c.args.word v.letters) k v v first (plain_edges of es) (Ok first))
    (sym (is_empty c.args.rest.now c.in-empty.len_below)) (fold_of_none c.args.word k v first)

pub returns-in_ok-folded-in-len1-up-clause-keeps : goal.returns-in_ok-folded-in-len1-up-clause-keeps
returns-in_ok-folded-in-len1-up-clause-keeps g t c =
    keeps_on c.args.builder.now c.one_step.new.builder c.fold.new.builder c.in_ok-folded-in-len1-up.ensures.keeps c.fold.ensures.keeps

pub returns-in_ok-folded-in-len1-up-clause-fold : goal.returns-in_ok-folded-in-len1-up-clause-fold
returns-in_ok-folded-in-len1-up-clause-fold g t c =
    let k = g.K.Kind.NAME in
    let of = g.K.Kind.extra_of in
    let v = c.args.builder.now in
    let w = c.one_step.new.builder in
    let x = c.fold.new.builder in
    let rest = c.args.rest.now in
    let first = plain of c.args.first in
    let all = first_and_rest rest c.next-item.result c.in-len1-up.len_at_least c.next-item.is in
    let result = answered (plain of) c.fold.result in
    subst (λ (es : List _). IsOfRest (fold_table c.args.word) (fold_work_at c.args.word v.letters) k v x first (plain_edges of es) result) (sym all)
    (fold_answers c.args.word k v w x first (plain of c.next-item.result) (plain of c.in_ok-folded-in-len1-up.folded)
    (plain_edges of (take (length rest - 1) (drop 1 rest))) result c.in_ok-folded-in-len1-up.ensures.keeps c.fold.ensures.keeps
    c.in_ok-folded-in-len1-up.ensures.step c.fold.ensures.fold)
