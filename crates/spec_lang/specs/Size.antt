-- How large a formula is, and the sides of a check together.
use Rattle.std.specs.Prelude.{◌≡◌, ℕ, ◌+◌, ◌≤◌, max, refl}
use Rattle.spec_lang.specs.Formula.{Formula, number, word, negative, sum, difference, product}
use Rattle.spec_lang.specs.Specification.{Check, half_adder_check}

-- the numbers, words and operations in a formula; each is written with a symbol of its own
abbrev pub size : Formula → ℕ
size (number z) = 1
size (word w) = 1
size (negative a) = size a + 1
size (sum a b) = size a + size b + 1
size (difference a b) = size a + size b + 1
size (product a b) = size a + size b + 1

-- both sides and the sign between them: no more than the symbols that the check is written with
abbrev pub check_size : Check → ℕ
check_size check = size check.left + size check.right + 1

-- how far down a formula goes, and so a walk over it
abbrev pub depth : Formula → ℕ
depth (number z) = 1
depth (word w) = 1
depth (negative a) = depth a + 1
depth (sum a b) = max (depth a) (depth b) + 1
depth (difference a b) = max (depth a) (depth b) + 1
depth (product a b) = max (depth a) (depth b) + 1

-- so the limit of a check's size bounds how far down its sides go
abbrev pub DepthIsAtMostSize : Type 0
DepthIsAtMostSize = (formula : Formula) → depth formula ≤ size formula

-- s + 2*c == a + b
half_adder_size : check_size half_adder_check ≡ 9
half_adder_size = refl

-- w1 - w0 * -w1
size-of_difference : size (difference (word 1) (product (word 0) (negative (word 1)))) ≡ 6
size-of_difference = refl

depth-of_difference : depth (difference (word 1) (product (word 0) (negative (word 1)))) ≡ 4
depth-of_difference = refl
