use Rattle.std.proofs.Common.{sym, ap, ◌∙◌, ◌++◌, [], ◌∷◌, ◌<◌, ◌≤◌, length, take, arith}
use Rattle.std.proofs.lemmas.List.{take_all, take_more}
use Rattle.std.proofs.lemmas.Option.{get_or_from_slice_get}
use Rattle.check_run.proofs.decide.levels_of.Goals as goal

pub loop-level-preserved : goal.loop-level-preserved
loop-level-preserved c =
    let level = c.loop-level.level in
    let letters = c.args.spec.now.letters in
    let d = c.letter.result in
    let low : level < length letters = omega (arith, c.loop-level-test.true, c.order.ensures.well_formed.one_letter_each, ap length c.order.ensures.order) in
    c.in_ok-push.ensures.items ∙ ap (λ ds. ds ++ d ∷ []) c.loop-level.invariant
    ∙ ap (λ x. take level letters ++ x ∷ []) (sym (get_or_from_slice_get letters level d d c.letter.ensures)) ∙ sym (take_more letters level d low)

pub returns-in-Ok-clause-letters : goal.returns-in-Ok-clause-letters
returns-in-Ok-clause-letters c =
    let letters = c.args.spec.now.letters in
    let all : length letters ≤ c.loop-level.level =
    omega (arith, c.loop-level-test.false, c.order.ensures.well_formed.one_letter_each, ap length c.order.ensures.order) in
    c.in-Ok.ensures.letters ∙ c.deref.ensures.value ∙ c.loop-level.invariant ∙ take_all c.loop-level.level letters all

pub returns-in-Ok-clause-as_many : goal.returns-in-Ok-clause-as_many
returns-in-Ok-clause-as_many c =
    let letters = c.args.spec.now.letters in
    let all : length letters ≤ c.loop-level.level =
    omega (arith, c.loop-level-test.false, c.order.ensures.well_formed.one_letter_each, ap length c.order.ensures.order) in
    ap length (c.in-Ok.ensures.letters ∙ c.deref.ensures.value ∙ c.loop-level.invariant ∙ take_all c.loop-level.level letters all)
    ∙ c.order.ensures.well_formed.one_letter_each
