use Rattle.std.proofs.Common.{◌≡◌, ℕ, List, sym, subst, ap, ◌∙◌, rules, refl}
use Rattle.std.specs.Prelude.{replicate}
use Rattle.table_rule.specs.Laws.{IsViewOf}
use Rattle.table_rule.specs.Views.{fresh}
use Rattle.table_rule.specs.declared.view.PassView.{PassView}
use Rattle.unique_table.proofs.Possible.{opens, first_possible}
use Rattle.unique_table.proofs.table.blank.Goals as goal

pub of_words-requires : goal.of_words-requires
of_words-requires c =
    let count = c.words_of.ensures in
    opens c.args.layout c.as_slice.result.now c.requires.layout (c.as_slice.ensures.value ∙ c.in_ok-words.ensures.items_if_clones_equal (search rules) ∙ ap (λ (n : ℕ). replicate n 0) count)

pub invariant_of-result-2 : goal.invariant_of-result-2
invariant_of-result-2 c =
    let e = c.in_ok-table.ensures.4 in
    (subst (IsViewOf c.args.layout) (ap (λ (m : PassView × List (ℕ × Unit {0})). m.0) (sym e)) (first_possible c.args.layout c.requires.layout), ap (λ (m : PassView × List (ℕ × Unit {0})). m.1) e, subst (λ (v : PassView). v ≡ fresh v.tokens) (ap (λ (m : PassView × List (ℕ × Unit {0})). m.0) (sym e)) refl)
