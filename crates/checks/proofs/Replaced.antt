-- The top variable of a function is replaced alike at each letter.
use Rattle.std.specs.Prelude.{◌≡◌, ℕ, zero, suc, ℤ, ◌+ℤ◌, ◌-ℤ◌, ◌*ℤ◌, [], ◌∷◌, refl}
use Rattle.word_base.specs.declared.decomp.Decomp.TheVariants.{S, P, N}
use Rattle.integers.proofs.Solver.{variable, ◌⊕◌, ◌⊖◌, ◌⊗◌, solve}
use Rattle.std.proofs.Common.{ap}
use Rattle.tables.proofs.TableLaws.{both_halves}
use Rattle.tables.specs.Table.{Table, entry, halves, IsOver, plus, minus, times}
use Rattle.checks.specs.Laws.{TopVariableReplaced}

of_entries : (x y z : ℤ) → (y +ℤ (x -ℤ y)) -ℤ z *ℤ (x -ℤ y) ≡ x +ℤ z *ℤ (y -ℤ x)
of_entries x y z =
    let a = variable 0 in
    let b = variable 1 in
    let c = variable 2 in
    solve (x ∷ y ∷ z ∷ []) ((b ⊕ (a ⊖ b)) ⊖ c ⊗ (a ⊖ b)) (a ⊕ c ⊗ (b ⊖ a)) refl

-- at negative Davio
from_the_sum : (n : ℕ) (lo hi p : Table) → IsOver n lo → IsOver n hi → IsOver n p →
    minus (plus hi (minus lo hi)) (times p (minus lo hi)) ≡ plus lo (times p (minus hi lo))
from_the_sum zero (entry x) (entry y) (entry z) o q r = ap entry (of_entries x y z)
from_the_sum zero (halves a b) hi p o q r = absurd o
from_the_sum zero (entry x) (halves a b) p o q r = absurd q
from_the_sum zero (entry x) (entry y) (halves a b) o q r = absurd r
from_the_sum (suc n) (entry x) hi p o q r = absurd o
from_the_sum (suc n) (halves a b) (entry y) p o q r = absurd q
from_the_sum (suc n) (halves a b) (halves c d) (entry z) o q r = absurd r
from_the_sum (suc n) (halves a b) (halves c d) (halves e f) o q r =
    both_halves (from_the_sum n a c e o.0 q.0 r.0) (from_the_sum n b d f o.1 q.1 r.1)

pub top_variable_replaced : TopVariableReplaced
top_variable_replaced n S lo hi p o q r = refl
top_variable_replaced n P lo hi p o q r = refl
top_variable_replaced n N lo hi p o q r = from_the_sum n lo hi p o q r
