-- What is answered to a check.
use Rattle.std.specs.Prelude.{◌≡◌, ℕ, ℤ, pos, negsuc, Bool, true, false, List, [], ◌∷◌, length, Option, Some, None, if◌then◌else◌, refl}
use Rattle.std.specs.Option.{option_map_or}
use Rattle.std.specs.Ordering.{int_eq}
use Rattle.circuits.specs.Circuit.{Circuit}
use Rattle.circuits.specs.Examples.{half}
use Rattle.spec_lang.specs.Specification.{Check, Specification, half_adder, half_adder_check}
use Rattle.tables.specs.Canonical.{node_count}
use Rattle.tables.specs.Table.{Table, entry, halves}
use Rattle.word_base.specs.declared.kind_name.KindName.{KindName}
use Rattle.word_base.specs.declared.kind_name.KindName.TheVariants.{Hdd}
use Rattle.checks.specs.Sides.{side}
use Rattle.checks.specs.declared.verdict.Verdict.{Verdict}
use Rattle.checks.specs.declared.verdict.Verdict.TheVariants.{Equal, Different}

-- where two tables differ: the bits from the top level down, and both entries
pub record Difference : Type 0 where
  pub at : List Bool
  pub left : ℤ
  pub right : ℤ

abbrev pub with_bit : Bool → Difference → Difference
with_bit bit d = record { at = bit ∷ d.at; left = d.left; right = d.right }

-- the difference in the low halves, and else the one in the high halves
abbrev pub first_of_halves : Option Difference → Option Difference → Option Difference
first_of_halves (Some d) high = Some (with_bit false d)
first_of_halves None (Some d) = Some (with_bit true d)
first_of_halves None None = None

-- the first difference in the order of the entries, of two tables over the same levels
abbrev pub first_difference : Table → Table → Option Difference
first_difference (entry x) (entry y) = if int_eq x y then None else Some (record { at = []; left = x; right = y })
first_difference (halves a b) (halves c d) = first_of_halves (first_difference a c) (first_difference b d)
first_difference (entry x) (halves c d) = None
first_difference (halves a b) (entry y) = None

-- ---- for the law that what is found is the first difference
-- the entry at the bits, the top level's first
abbrev pub entry_at : Table → List Bool → ℤ
entry_at (entry x) bits = x
entry_at (halves lo hi) [] = pos 0
entry_at (halves lo hi) (false ∷ bits) = entry_at lo bits
entry_at (halves lo hi) (true ∷ bits) = entry_at hi bits

-- of two lists of as many bits: the entry at the first stands before the entry at the second
abbrev pub IsBefore : List Bool → List Bool → Type 0
IsBefore [] bits = ⊥
IsBefore (bit ∷ bits) [] = ⊥
IsBefore (false ∷ bits) (false ∷ others) = IsBefore bits others
IsBefore (false ∷ bits) (true ∷ others) = Unit {0}
IsBefore (true ∷ bits) (false ∷ others) = ⊥
IsBefore (true ∷ bits) (true ∷ others) = IsBefore bits others

-- over n levels: both entries at the bits, which differ, and all entries before them are the same
pub record IsFirstDifference (n : ℕ) (t u : Table) (d : Difference) : Type 0 where
  pub full : length d.at ≡ n
  pub left : entry_at t d.at ≡ d.left
  pub right : entry_at u d.at ≡ d.right
  pub differ : d.left ≡ d.right → ⊥
  pub same_before : (bits : List Bool) → length bits ≡ n → IsBefore bits d.at → entry_at t bits ≡ entry_at u bits

-- ---- the answer
-- the answer to a check that meets no limit: the sides are equal, with the number of different nodes of the left side's
-- canonical diagram, or they differ, with both values and the bits of the inputs from the top level down
abbrev pub answer : KindName → Circuit → Specification → Check → Verdict
answer k c s check =
    option_map_or (λ d. Different d.left d.right d.at)
    (first_difference (side c s check.left) (side c s check.right))
    (Equal (node_count k s.letters (side c s check.left)))

second_entry : first_difference (halves (entry (pos 1)) (entry (pos 2))) (halves (entry (pos 1)) (entry (negsuc 0)))
    ≡ Some (record { at = true ∷ []; left = pos 2; right = negsuc 0 })
second_entry = refl

third_entry : entry_at (halves (halves (entry (pos 3)) (entry (pos 1))) (halves (entry (pos 4)) (entry (pos 6)))) (true ∷ false ∷ []) ≡ pos 4
third_entry = refl

second_before_third : IsBefore (false ∷ true ∷ []) (true ∷ false ∷ []) ≡ Unit {0}
second_before_third = refl

half-answer : answer Hdd half half_adder half_adder_check ≡ Equal 2
half-answer = refl
