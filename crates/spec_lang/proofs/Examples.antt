-- The half adder's specification is well formed, and over the half adder.
use Rattle.std.proofs.Common.{ℕ, ◌<◌, ◌≤◌, List, [], ◌∷◌, All, refl}
use Rattle.std.proofs.Math.Dec.{lit<, lit≤}
use Rattle.std.proofs.lemmas.List.Elements.{All-cons, All-nil}
use Rattle.circuits.specs.Examples.{half}
use Rattle.spec_lang.proofs.Orders.{range_is_order}
use Rattle.spec_lang.specs.Size.{check_size}
use Rattle.spec_lang.specs.declared.limits.TheConstants.{MOST_SYMBOLS}
use Rattle.spec_lang.specs.Specification.{Word, half_adder, half_adder_check, single}
use Rattle.spec_lang.specs.WellFormed.{IsSizedWord, NamesWords, IsWellFormed, IsOver}

sized : (name : List ℕ) (net : ℕ) → IsSizedWord (single name net)
sized name net = record { some = lit< tt; few = lit≤ tt }

two : (P : ℕ → Type 0) (a b : ℕ) → P a → P b → All P (a ∷ b ∷ [])
two P a b p q = All-cons P a (b ∷ []) p (All-cons P b [] q (All-nil P))

four : (P : Word → Type 0) (a b c d : Word) → P a → P b → P c → P d → All P (a ∷ b ∷ c ∷ d ∷ [])
four P a b c d p q r s = All-cons P a (b ∷ c ∷ d ∷ []) p (All-cons P b (c ∷ d ∷ []) q (All-cons P c (d ∷ []) r (All-cons P d [] s (All-nil P))))

half_adder_well_formed : IsWellFormed half_adder
half_adder_well_formed = record {
  order = range_is_order 2;
  one_letter_each = refl;
  few_words = lit≤ tt;
  few_checks = lit≤ tt;
  each_word = four IsSizedWord _ _ _ _ (sized _ 0) (sized _ 1) (sized _ 2) (sized _ 3);
  each_check = All-cons (NamesWords 4) half_adder_check [] (record { left = two (λ w. w < 4) 2 3 (lit< tt) (lit< tt); right = two (λ w. w < 4) 0 1 (lit< tt) (lit< tt) }) (All-nil (NamesWords 4));
  few_symbols = All-cons (λ check. check_size check ≤ MOST_SYMBOLS) half_adder_check [] (lit≤ tt) (All-nil (λ check. check_size check ≤ MOST_SYMBOLS));
}

one : (net : ℕ) → net < 4 → All (λ net. net < 4) (net ∷ [])
one net below = All-cons (λ net. net < 4) net [] below (All-nil (λ net. net < 4))

half_adder_over : IsOver half half_adder
half_adder_over = record { inputs = refl; nets = four (λ w. All (λ net. net < 4) w.nets) _ _ _ _ (one 0 (lit< tt)) (one 1 (lit< tt)) (one 2 (lit< tt)) (one 3 (lit< tt)) }
