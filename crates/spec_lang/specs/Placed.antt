-- The values of all nets, where the bits of the inputs come in the order of a specification.
use Rattle.std.specs.Prelude.{◌≡◌, ℕ, ◌+◌, ◌==◌, Bool, true, false, List, [], ◌∷◌, map, if◌then◌else◌, refl}
use Rattle.std.specs.List.{range_with_len}
use Rattle.circuits.specs.Circuit.{Circuit, input_count}
use Rattle.circuits.specs.Examples.{half}
use Rattle.circuits.specs.Valuation.{bit_of, valuation}
use Rattle.spec_lang.specs.Specification.{Specification, half_adder}

-- the first place of a number in a list, and the list's length where it has none
abbrev pub place_in : List ℕ → ℕ → ℕ
place_in [] n = 0
place_in (m ∷ ms) n = if m == n then 0 else place_in ms n + 1

-- the values of the numbers below count, where the bits are those of the listed ones in order; 0 for the others
abbrev pub placed : ℕ → List ℕ → List Bool → List Bool
placed count listed bits = map (λ n. bit_of bits (place_in listed n)) (range_with_len 0 count)

-- the values of all nets, where the bits are those of the inputs from the top level down
abbrev pub net_values : Circuit → Specification → List Bool → List Bool
net_values c s bits = valuation c (placed (input_count c) s.order bits)

placed-third : placed 3 (2 ∷ 0 ∷ []) (true ∷ false ∷ []) ≡ false ∷ false ∷ true ∷ []
placed-third = refl

-- the inputs, the sum and the carry
half-values : net_values half half_adder (true ∷ false ∷ []) ≡ true ∷ false ∷ true ∷ false ∷ []
half-values = refl
