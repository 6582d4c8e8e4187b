-- The gates of the multiplier: a partial product for each pair of bits, then rows of adders, each of which adds the partial
-- products of its row to what the row above left.
use Rattle.std.specs.Prelude.{◌≡◌, ℕ, ◌+◌, ◌-◌, ◌==◌, nat_lt, List, [], ◌∷◌, ◌++◌, length, map, Option, Some, None, option_to_list, if◌then◌else◌, refl}
use Rattle.std.specs.List.{flat_map, range_with_len}
use Rattle.multiplier.specs.declared.gate.Gate.{Gate}
use Rattle.multiplier.specs.declared.gate.Operation.TheVariants.{And, Or, Xor}
use Rattle.multiplier.specs.declared.net.Net.{Net}
use Rattle.multiplier.specs.declared.net.Net.TheVariants.{A, B, Partial, Sum, Carry, FirstSum, FirstCarry, SecondCarry}
use Rattle.multiplier.specs.Gates.{gate}

abbrev pub partial_product : ℕ → ℕ → Gate
partial_product row column = gate (Partial column row) And (A column) (B row)

abbrev pub partial_row : ℕ → ℕ → List Gate
partial_row size row = map (partial_product row) (range_with_len 0 size)

abbrev pub partial_products : ℕ → List Gate
partial_products size = flat_map (partial_row size) (range_with_len 0 size)

-- two bits, to their sum and carry
abbrev pub half_adder : ℕ → ℕ → Net → Net → List Gate
half_adder row column u v = gate (Sum row column) Xor u v ∷ gate (Carry row column) And u v ∷ []

-- three bits, to their sum and carry, by two half adders
abbrev pub full_adder : ℕ → ℕ → Net → Net → Net → List Gate
full_adder row column x y z =
    gate (FirstSum row column) Xor x y
    ∷ gate (Sum row column) Xor (FirstSum row column) z
    ∷ gate (FirstCarry row column) And x y
    ∷ gate (SecondCarry row column) And (FirstSum row column) z
    ∷ gate (Carry row column) Or (FirstCarry row column) (SecondCarry row column)
    ∷ []

-- what comes from the row above (for row 1, the partial products of row 0): its bit one column on; in the last column its last carry,
-- which row 0 has not
abbrev pub above : ℕ → ℕ → ℕ → Option Net
above size row column =
    if nat_lt (column + 1) size
    then Some (if row == 1 then Partial (column + 1) 0 else Sum (row - 1) (column + 1))
    else (if row == 1 then None else Some (Carry (row - 1) column))

-- the carry of the column before
abbrev pub beside : ℕ → ℕ → Option Net
beside row column = if column == 0 then None else Some (Carry row (column - 1))

-- the bits that are added at a row and a column
abbrev pub addends : ℕ → ℕ → ℕ → List Net
addends size row column = Partial column row ∷ option_to_list (above size row column) ++ option_to_list (beside row column)

-- the adder of so many bits
abbrev pub adder_of : ℕ → ℕ → List Net → List Gate
adder_of row column (u ∷ v ∷ []) = half_adder row column u v
adder_of row column (x ∷ y ∷ z ∷ []) = full_adder row column x y z
adder_of row column _ = []

abbrev pub adder : ℕ → ℕ → ℕ → List Gate
adder size row column = adder_of row column (addends size row column)

abbrev pub adder_row : ℕ → ℕ → List Gate
adder_row size row = flat_map (adder size row) (range_with_len 0 size)

abbrev pub adders : ℕ → List Gate
adders size = flat_map (adder_row size) (range_with_len 1 (size - 1))

abbrev pub gates : ℕ → List Gate
gates size = partial_products size ++ adders size

-- what is added at each column of both rows, for three bits
first_row_of_three : map (addends 3 1) (range_with_len 0 3)
    ≡ (Partial 0 1 ∷ Partial 1 0 ∷ []) ∷ (Partial 1 1 ∷ Partial 2 0 ∷ Carry 1 0 ∷ []) ∷ (Partial 2 1 ∷ Carry 1 1 ∷ []) ∷ []
first_row_of_three = refl

last_row_of_three : map (addends 3 2) (range_with_len 0 3)
    ≡ (Partial 0 2 ∷ Sum 1 1 ∷ []) ∷ (Partial 1 2 ∷ Sum 1 2 ∷ Carry 2 0 ∷ []) ∷ (Partial 2 2 ∷ Carry 1 2 ∷ Carry 2 1 ∷ []) ∷ []
last_row_of_three = refl

gates_by_size : map (λ size. length (gates size)) (2 ∷ 3 ∷ 16 ∷ []) ≡ 8 ∷ 30 ∷ 1408 ∷ []
gates_by_size = refl
