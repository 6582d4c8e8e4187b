-- The two sides of a check, as tables over the inputs in the order of the specification.
use Rattle.std.specs.Prelude.{◌≡◌, ℕ, pos, [], ◌∷◌, length, refl}
use Rattle.circuits.specs.Circuit.{Circuit}
use Rattle.circuits.specs.Examples.{half}
use Rattle.circuits.specs.Polynomial.{number_of}
use Rattle.circuits.specs.Valuation.{bit_of}
use Rattle.spec_lang.specs.Formula.{Formula}
use Rattle.spec_lang.specs.Placed.{net_values}
use Rattle.spec_lang.specs.Specification.{Specification, half_adder, half_adder_check}
use Rattle.spec_lang.specs.Value.{value}
use Rattle.tables.specs.Table.{Table, tabulate, entries}

-- the table of a net
abbrev pub net_table : Circuit → Specification → ℕ → Table
net_table c s net = tabulate (length s.order) (λ bits. number_of (bit_of (net_values c s bits) net))

-- the table of a formula
abbrev pub side : Circuit → Specification → Formula → Table
side c s formula = tabulate (length s.order) (λ bits. value s.words (net_values c s bits) formula)

half-left : entries (side half half_adder half_adder_check.left) ≡ pos 0 ∷ pos 1 ∷ pos 1 ∷ pos 2 ∷ []
half-left = refl

half-right : side half half_adder half_adder_check.right ≡ side half half_adder half_adder_check.left
half-right = refl

half-carry : entries (net_table half half_adder 3) ≡ pos 0 ∷ pos 0 ∷ pos 0 ∷ pos 1 ∷ []
half-carry = refl
