-- What a gate's word computes, as a polynomial over the integers.
use Rattle.std.specs.Prelude.{◌≡◌, ℤ, pos, negsuc, ◌+ℤ◌, ◌-ℤ◌, ◌*ℤ◌, Bool, true, false, List, [], ◌∷◌, fold, if◌then◌else◌, refl}
use Rattle.circuits.specs.declared.gate_word.GateWord.{GateWord}
use Rattle.circuits.specs.declared.gate_word.GateWord.TheVariants.{And, Nand, Or, Nor, Xor, Xnor, Not, Buff}

abbrev pub number_of : Bool → ℤ
number_of false = pos 0
number_of true = pos 1

-- the words that are 1 minus another
abbrev pub is_negated : GateWord → Bool
is_negated And = false
is_negated Nand = true
is_negated Or = false
is_negated Nor = true
is_negated Xor = false
is_negated Xnor = true
is_negated Not = true
is_negated Buff = false

abbrev pub negation : ℤ → ℤ
negation a = pos 1 -ℤ a

-- one step of the fold, before the negation: the polynomial of AND, OR or XOR on two inputs. NOT and BUFF have one input, and take no step.
abbrev pub step : GateWord → ℤ → ℤ → ℤ
step And a b = a *ℤ b
step Nand a b = a *ℤ b
step Or a b = a +ℤ b -ℤ a *ℤ b
step Nor a b = a +ℤ b -ℤ a *ℤ b
step Xor a b = a +ℤ b -ℤ pos 2 *ℤ (a *ℤ b)
step Xnor a b = a +ℤ b -ℤ pos 2 *ℤ (a *ℤ b)
step Not a b = a
step Buff a b = a

-- from the left: the first two, then the result with the third, and so on
abbrev pub folded : GateWord → List ℤ → ℤ
folded word [] = pos 0
folded word (a ∷ inputs) = fold (step word) a inputs

abbrev pub polynomial : GateWord → List ℤ → ℤ
polynomial word inputs = if is_negated word then negation (folded word inputs) else folded word inputs

or-at : polynomial Or (pos 3 ∷ pos 5 ∷ []) ≡ negsuc 6
or-at = refl

xor-at : polynomial Xor (pos 3 ∷ pos 5 ∷ pos 1 ∷ []) ≡ pos 23
xor-at = refl

nand-at : polynomial Nand (pos 3 ∷ pos 5 ∷ pos 2 ∷ []) ≡ negsuc 28
nand-at = refl

nor-at : polynomial Nor (pos 4 ∷ []) ≡ negsuc 2
nor-at = refl

not-at : polynomial Not (pos 1 ∷ []) ≡ pos 0
not-at = refl
