-- What the evaluation of a check answers.
use Rattle.std.specs.Prelude.{◌≡◌, ℕ, ℤ, pos, Bool, true, false, ◌&&◌, List, [], ◌∷◌, Option, Result, Ok, Err, IfSome, IsTrue, ⊤, codes, refl}
use Rattle.std.specs.Result.{OkIff}
use Rattle.circuits.specs.Examples.{half}
use Rattle.spec_lang.specs.declared.eval_error.EvalError.{EvalError}
use Rattle.spec_lang.specs.declared.eval_error.EvalError.TheVariants.{Overflow, Memory}
use Rattle.spec_lang.specs.Formula.{Formula, number, sum}
use Rattle.spec_lang.specs.Placed.{net_values}
use Rattle.spec_lang.specs.Specification.{Word, Check, half_adder, half_adder_check}
use Rattle.spec_lang.specs.Value.{value, all_in_range}

-- The values where all is in range, and an overflow only where something is not. Want of memory is answered anywhere.
abbrev pub IsEvaluated : Result (ℤ × ℤ) EvalError → Bool → ℤ × ℤ → Type 0
IsEvaluated (Ok found) within values = IsTrue within × (found ≡ values)
IsEvaluated (Err Overflow) within values = within ≡ false
IsEvaluated (Err Memory) within values = ⊤

-- the values of both sides of a check, exactly where the value of each sub-formula of either is in range
abbrev pub AreValues : {E : Type 0} → List Word → Option Check → List Bool → Result (ℤ × ℤ) E → Type 0
AreValues words check values r = IfSome check (λ sides. OkIff r
    (IsTrue (all_in_range words values sides.left && all_in_range words values sides.right))
    (value words values sides.left, value words values sides.right))

-- the same of an evaluation that takes memory
abbrev pub AreEvaluated : List Word → Option Check → List Bool → Result (ℤ × ℤ) EvalError → Type 0
AreEvaluated words check values r = IfSome check (λ sides. IsEvaluated r
    (all_in_range words values sides.left && all_in_range words values sides.right)
    (value words values sides.left, value words values sides.right))

abbrev pub eval_error_text : EvalError → List ℕ
eval_error_text Overflow = codes "a value needs more than 127 bits"
eval_error_text Memory = codes "out of memory"

-- both sides of the half adder at a = 1, b = 1
abbrev at_11 : List Bool
at_11 = net_values half half_adder (true ∷ true ∷ [])

evaluated-half : IsEvaluated (Ok (pos 2, pos 2))
    (all_in_range half_adder.words at_11 half_adder_check.left && all_in_range half_adder.words at_11 half_adder_check.right)
    (value half_adder.words at_11 half_adder_check.left, value half_adder.words at_11 half_adder_check.right)
evaluated-half = (refl, refl)

-- 2^127-1 + 1
abbrev too_great : Formula
too_great = sum (number (pos 170141183460469231731687303715884105727)) (number (pos 1))

evaluated-too_great : IsEvaluated (Err Overflow) (all_in_range [] [] too_great && all_in_range [] [] (number (pos 0))) (value [] [] too_great, pos 0)
evaluated-too_great = refl

text-of_overflow : eval_error_text Overflow ≡ codes "a value needs more than 127 bits"
text-of_overflow = refl
