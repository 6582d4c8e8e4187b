-- At bits, each step of a polynomial is the truth function on two bits, and so its fold that on all.
use Rattle.std.specs.Prelude.{◌≡◌, ℕ, ◌+◌, ◌<◌, ◌%◌, ◌==◌, ℤ, Bool, true, false, not, cond, ◌&&◌, ◌||◌, List, [], ◌∷◌, map, length, fold, refl}
use Rattle.std.proofs.Common.{sym, ◌∙◌, ap, arith}
use Rattle.circuits.specs.Polynomial.{polynomial, step, number_of, negation}
use Rattle.circuits.specs.Truth.{truth, all_are_1, some_is_1, an_odd_number_is_1}
use Rattle.circuits.specs.declared.gate_word.GateWord.{GateWord}
use Rattle.circuits.specs.declared.gate_word.GateWord.TheVariants.{And, Nand, Or, Nor, Xor, Xnor, Not, Buff}

-- a fold whose step is `both` on bits
fold_of_bits : (f : ℤ → ℤ → ℤ) (both : Bool → Bool → Bool) →
    ((a b : Bool) → f (number_of a) (number_of b) ≡ number_of (both a b)) →
    (a : Bool) (bits : List Bool) → fold f (number_of a) (map number_of bits) ≡ number_of (fold both a bits)
fold_of_bits f both same a [] = refl
fold_of_bits f both same a (b ∷ bits) = ap (λ x. fold f x (map number_of bits)) (same a b) ∙ fold_of_bits f both same (both a b) bits

and_step : (a b : Bool) → step And (number_of a) (number_of b) ≡ number_of (a && b)
and_step false false = refl
and_step false true = refl
and_step true false = refl
and_step true true = refl

or_step : (a b : Bool) → step Or (number_of a) (number_of b) ≡ number_of (a || b)
or_step false false = refl
or_step false true = refl
or_step true false = refl
or_step true true = refl

abbrev differ : Bool → Bool → Bool
differ false b = b
differ true b = not b

xor_step : (a b : Bool) → step Xor (number_of a) (number_of b) ≡ number_of (differ a b)
xor_step false false = refl
xor_step false true = refl
xor_step true false = refl
xor_step true true = refl

and_fold : (a : Bool) (bits : List Bool) → fold (λ x y. x && y) a bits ≡ all_are_1 (a ∷ bits)
and_fold false [] = refl
and_fold true [] = refl
and_fold false (b ∷ bits) = and_fold false bits
and_fold true (b ∷ bits) = and_fold b bits

or_fold : (a : Bool) (bits : List Bool) → fold (λ x y. x || y) a bits ≡ some_is_1 (a ∷ bits)
or_fold false [] = refl
or_fold true [] = refl
or_fold false (b ∷ bits) = or_fold b bits
or_fold true (b ∷ bits) = or_fold true bits

-- a count from n on has the parity of n
abbrev ones_from : ℕ → List Bool → ℕ
ones_from n bits = fold (λ (count : ℕ) bit. count + cond bit 1 0) n bits

ones_by_two : (n : ℕ) (bits : List Bool) → ones_from (2 + n) bits % 2 ≡ ones_from n bits % 2
ones_by_two n [] = omega arith
ones_by_two n (b ∷ bits) = ap (λ m. ones_from m bits % 2) (same b) ∙ ones_by_two (n + cond b 1 0) bits
  where
    same : (b : Bool) → 2 + n + cond b 1 0 ≡ 2 + (n + cond b 1 0)
    same b = omega arith

xor_fold : (a : Bool) (bits : List Bool) → fold differ a bits ≡ an_odd_number_is_1 (a ∷ bits)
xor_fold false [] = refl
xor_fold true [] = refl
xor_fold false (b ∷ bits) = xor_fold b bits
xor_fold true (false ∷ bits) = xor_fold true bits
xor_fold true (true ∷ bits) = xor_fold false bits ∙ ap (λ n. n == 1) (sym (ones_by_two 0 bits))

first_kept : (word : GateWord) (same : (a b : ℤ) → step word a b ≡ a) (a : ℤ) (inputs : List ℤ) → fold (step word) a inputs ≡ a
first_kept word same a [] = refl
first_kept word same a (b ∷ inputs) = ap (λ x. fold (step word) x inputs) (same a b) ∙ first_kept word same a inputs

negation_of_bit : (a : Bool) → negation (number_of a) ≡ number_of (not a)
negation_of_bit false = refl
negation_of_bit true = refl

and_all : (a : Bool) (bits : List Bool) → fold (step And) (number_of a) (map number_of bits) ≡ number_of (all_are_1 (a ∷ bits))
and_all a bits = fold_of_bits (step And) (λ x y. x && y) and_step a bits ∙ ap number_of (and_fold a bits)

or_all : (a : Bool) (bits : List Bool) → fold (step Or) (number_of a) (map number_of bits) ≡ number_of (some_is_1 (a ∷ bits))
or_all a bits = fold_of_bits (step Or) (λ x y. x || y) or_step a bits ∙ ap number_of (or_fold a bits)

xor_all : (a : Bool) (bits : List Bool) → fold (step Xor) (number_of a) (map number_of bits) ≡ number_of (an_odd_number_is_1 (a ∷ bits))
xor_all a bits = fold_of_bits (step Xor) differ xor_step a bits ∙ ap number_of (xor_fold a bits)

negated : (x : ℤ) (a : Bool) → x ≡ number_of a → negation x ≡ number_of (not a)
negated x a same = ap negation same ∙ negation_of_bit a

polynomial_at_bits : (word : GateWord) (a : Bool) (bits : List Bool) → polynomial word (map number_of (a ∷ bits)) ≡ number_of (truth word (a ∷ bits))
polynomial_at_bits And a bits = and_all a bits
polynomial_at_bits Nand a bits = negated _ _ (and_all a bits)
polynomial_at_bits Or a bits = or_all a bits
polynomial_at_bits Nor a bits = negated _ _ (or_all a bits)
polynomial_at_bits Xor a bits = xor_all a bits
polynomial_at_bits Xnor a bits = negated _ _ (xor_all a bits)
polynomial_at_bits Not a bits = negated _ _ (first_kept Not (λ x y. refl) (number_of a) (map number_of bits))
polynomial_at_bits Buff a bits = first_kept Buff (λ x y. refl) (number_of a) (map number_of bits)

pub polynomial-is_truth : (word : GateWord) (bits : List Bool) → 0 < length bits → polynomial word (map number_of bits) ≡ number_of (truth word bits)
polynomial-is_truth word [] some = absurd (omega arith)
polynomial-is_truth word (a ∷ bits) some = polynomial_at_bits word a bits
