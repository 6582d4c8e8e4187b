use Rattle.std.proofs.Common.{◌∙◌, ◌++◌, ◌∷◌, [], slice_index, sym, ap, arith}
use Rattle.std.proofs.lemmas.Bool.{not-true, not-false}
use Rattle.std.proofs.lemmas.Grind.{common_steps}
use Rattle.std.proofs.lemmas.List.Folds.{list_any-append}
use Rattle.spec_lang.proofs.Onces.{each_once-new, each_once-known}
use Rattle.spec_lang.proofs.named.each_once.Goals as goal
use Rattle.spec_lang.proofs.named.each_once.Goals.{then-branch+in_ok-push, else-branch}

pub loop-number-preserved : goal.loop-number-preserved
loop-number-preserved c = (
  elim c.if-branch.branch [
    | then-branch+in_ok-push w ↦
        ap (λ v. v.items) w.found-is ∙ w.in_ok-push.ensures.items ∙ ap (λ found. found ++ slice_index c.args.numbers.now c.loop-number.number-index ∷ []) c.loop-number.invariant.0
        ∙ sym (each_once-new c.args.numbers.now c.loop-number.number-index c.loop-number-test.true (sym (c.loop-number.invariant.1 _) ∙ not-true _ (sym c.in_ok-insert.ensures.added ∙ w.if-branch.true)))
    | else-branch w ↦
        ap (λ v. v.items) w.found-is ∙ c.loop-number.invariant.0
        ∙ sym (each_once-known c.args.numbers.now c.loop-number.number-index c.loop-number-test.true (sym (c.loop-number.invariant.1 _) ∙ not-false _ (sym c.in_ok-insert.ensures.added ∙ w.if-branch.false)))
  ],
  λ q. grind (arith, common_steps, list_any-append, c.loop-number.invariant.1 q),
)
