-- What is answered to a check.
use Rattle.std.specs.Prelude.{◌≡◌, ℕ, pos, true, false, [], ◌∷◌, List, codes, length, Some, slice_get, refl}
use Rattle.std.proofs.Common.{lit≤}
use Rattle.circuits.specs.Circuit.{Circuit}
use Rattle.circuits.specs.Examples.{half}
use Rattle.spec_lang.specs.Formula.{number, word, sum}
use Rattle.spec_lang.specs.Specification.{Check, Specification, half_adder, half_adder_check, specification, Word}
use Rattle.word_base.specs.declared.decomp.Decomp.TheVariants.{P}
use Rattle.word_base.specs.declared.kind_name.KindName.{KindName}
use Rattle.word_base.specs.declared.kind_name.KindName.TheVariants.{Hdd}
use Rattle.word_base.specs.Range.{InRange}
use Rattle.checks.specs.Answer.{answer}
use Rattle.checks.specs.Limits.{over, short}
use Rattle.checks.specs.declared.method.Method.TheVariants.{Forward}
use Rattle.checks.specs.declared.verdict.Verdict.{Verdict}
use Rattle.checks.specs.declared.verdict.Verdict.TheVariants.{Equal, Different, Overflow, Full}

-- An overflow only where the check is over the range of weights, a full store only where it is short of cells, and else
-- the answer, whose values are weights
abbrev pub IsVerdictOf : KindName → ℕ → Circuit → Specification → Check → Verdict → Type 0
IsVerdictOf k cells c s check Overflow = over k Forward c s check ≡ true
IsVerdictOf k cells c s check Full = short k Forward 1 cells c s check ≡ true
IsVerdictOf k cells c s check (Equal nodes) = Equal nodes ≡ answer k c s check
IsVerdictOf k cells c s check (Different left right at) =
    InRange left × InRange right × (Different left right at ≡ answer k c s check)

-- there is a check of this number, counted from 0, and the verdict is of it
abbrev pub IsReported : KindName → ℕ → Circuit → Specification → ℕ → Verdict → Type 0
IsReported k cells c s place verdict =
    (check : Check) × (slice_get s.checks place ≡ Some check) × IsVerdictOf k cells c s check verdict

-- one verdict for each check, in their order
pub record AreReported (k : KindName) (cells : ℕ) (c : Circuit) (s : Specification) (verdicts : List Verdict) : Type 0 where
  pub one_each : length verdicts ≡ length s.checks
  pub each : (place : ℕ) (verdict : Verdict) → slice_get verdicts place ≡ Some verdict → IsReported k cells c s place verdict

-- no limit has its cause in the check
pub record MeetsNoLimit (k : KindName) (cells : ℕ) (c : Circuit) (s : Specification) (check : Check) : Type 0 where
  pub not_over : over k Forward c s check ≡ false
  pub not_short : short k Forward 1 cells c s check ≡ false

half-meets_no_limit : MeetsNoLimit Hdd 256 half half_adder half_adder_check
half-meets_no_limit = record { not_over = refl; not_short = refl }

half-is_equal : IsReported Hdd 256 half half_adder 0 (Equal 2)
half-is_equal = (half_adder_check, refl, refl)

-- the carry counted once
abbrev carry_once : Check
carry_once = record { left = sum (word 2) (word 3); right = sum (word 0) (word 1) }

-- two inputs with their usual letters
abbrev of_two : List Word → Check → Specification
of_two words check = specification (0 ∷ 1 ∷ []) (P ∷ P ∷ []) words (check ∷ [])

once-differs : IsVerdictOf Hdd 256 half (of_two half_adder.words carry_once) carry_once (Different (pos 1) (pos 2) (true ∷ true ∷ []))
once-differs = (lit≤ tt, lit≤ tt, refl)

-- a sum that is no weight, over two inputs
abbrev pair : Circuit
pair = record { inputs = codes "a" ∷ codes "b" ∷ []; gates = []; outputs = [] }

abbrev too_great : Check
too_great = record { left = sum (number (pos 170141183460469231731687303715884105727)) (number (pos 1)); right = number (pos 1) }

great-is_over : IsVerdictOf Hdd 256 pair (of_two [] too_great) too_great Overflow
great-is_over = refl

-- ten nodes are needed
half-is_short : IsVerdictOf Hdd 10 half half_adder half_adder_check Full
half-is_short = refl
