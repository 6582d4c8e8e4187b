-- The nets of a multiplier of two words of so many bits: how each is written, and which are its inputs and its product.
use Rattle.std.specs.Prelude.{◌≡◌, ℕ, ◌-◌, List, [], ◌∷◌, ◌++◌, codes, decimal, map, refl}
use Rattle.std.specs.Fmt.{digits}
use Rattle.std.specs.List.{range_with_len}
use Rattle.multiplier.specs.declared.net.Net.{Net}
use Rattle.multiplier.specs.declared.net.Net.TheVariants.{A, B, Partial, Sum, Carry, FirstSum, FirstCarry, SecondCarry}

-- two numbers
abbrev pub place : ℕ → ℕ → List ℕ
place first second = decimal first ++ codes "_" ++ decimal second

abbrev pub net_text : Net → List ℕ
net_text (A bit) = codes "a" ++ decimal bit
net_text (B bit) = codes "b" ++ decimal bit
net_text (Partial column row) = codes "p" ++ place column row
net_text (Sum row column) = codes "s" ++ place row column
net_text (Carry row column) = codes "c" ++ place row column
net_text (FirstSum row column) = codes "t" ++ place row column
net_text (FirstCarry row column) = codes "d" ++ place row column
net_text (SecondCarry row column) = codes "e" ++ place row column

-- the bits of each operand, lowest first
abbrev pub word_a : ℕ → List Net
word_a size = map A (range_with_len 0 size)

abbrev pub word_b : ℕ → List Net
word_b size = map B (range_with_len 0 size)

abbrev pub inputs : ℕ → List Net
inputs size = word_a size ++ word_b size

-- the bits of the product, lowest first: the lowest sum of each row, then the other sums of the last row and its last carry
abbrev pub product : ℕ → List Net
product size =
    Partial 0 0 ∷ map (λ row. Sum row 0) (range_with_len 1 (size - 1))
    ++ map (λ column. Sum (size - 1) column) (range_with_len 1 (size - 1))
    ++ Carry (size - 1) (size - 1) ∷ []

a_bit : net_text (A 15) ≡ codes "a15"
unfolding digits
a_bit = refl

-- the number of the column stands first in a partial product, and that of the row elsewhere
a_partial_product : net_text (Partial 2 13) ≡ codes "p2_13"
unfolding digits
a_partial_product = refl

nets_of_an_adder : map net_text (Sum 1 2 ∷ Carry 1 2 ∷ FirstSum 1 2 ∷ FirstCarry 1 2 ∷ SecondCarry 1 2 ∷ [])
    ≡ codes "s1_2" ∷ codes "c1_2" ∷ codes "t1_2" ∷ codes "d1_2" ∷ codes "e1_2" ∷ []
unfolding digits
nets_of_an_adder = refl

product_of_three : product 3 ≡ Partial 0 0 ∷ Sum 1 0 ∷ Sum 2 0 ∷ Sum 2 1 ∷ Sum 2 2 ∷ Carry 2 2 ∷ []
product_of_three = refl
