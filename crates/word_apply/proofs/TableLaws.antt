-- Operations entry by entry that are made of others, and the tables of gates and words.
use Rattle.std.proofs.Common.{◌≡◌, refl, sym, ap, ℕ, zero, suc, ◌∙◌, ◌+◌, ◌*◌, ◌^◌, ℤ, pos, ◌+ℤ◌, ◌*ℤ◌, List, ◌∷◌, true, false, add-one, arith}
use Rattle.std.proofs.Math.Nat.{two-pow-succ}
use Rattle.checks.specs.Work.{step_table, fold_table, gate_table}
use Rattle.circuits.specs.Polynomial.{is_negated, negation}
use Rattle.circuits.specs.declared.gate_word.GateWord.{GateWord}
use Rattle.circuits.specs.declared.gate_word.GateWord.TheVariants.{Or, Xor}
use Rattle.tables.specs.Pieces.{like}
use Rattle.tables.specs.Table.{Table, entry, halves, IsOver, each, zip_with, plus, minus, times, multiple, constant_table}
use Rattle.tables.proofs.TableLaws.{both_halves}

zip_both : (f g h : ℤ → ℤ → ℤ) (n : ℕ) (t u : Table) → IsOver n t → IsOver n u →
    zip_with f (zip_with g t u) (zip_with h t u) ≡ zip_with (λ x y. f (g x y) (h x y)) t u
zip_both f g h zero (entry x) (entry y) o p = refl
zip_both f g h zero (halves a b) u o p = absurd o
zip_both f g h zero (entry x) (halves c d) o p = absurd p
zip_both f g h (suc n) (entry x) u o p = absurd o
zip_both f g h (suc n) (halves a b) (entry y) o p = absurd p
zip_both f g h (suc n) (halves a b) (halves c d) o p = both_halves (zip_both f g h n a c o.0 p.0) (zip_both f g h n b d o.1 p.1)

each_zip : (f : ℤ → ℤ) (g : ℤ → ℤ → ℤ) (n : ℕ) (t u : Table) → IsOver n t → IsOver n u →
    each f (zip_with g t u) ≡ zip_with (λ x y. f (g x y)) t u
each_zip f g zero (entry x) (entry y) o p = refl
each_zip f g zero (halves a b) u o p = absurd o
each_zip f g zero (entry x) (halves c d) o p = absurd p
each_zip f g (suc n) (entry x) u o p = absurd o
each_zip f g (suc n) (halves a b) (entry y) o p = absurd p
each_zip f g (suc n) (halves a b) (halves c d) o p = both_halves (each_zip f g n a c o.0 p.0) (each_zip f g n b d o.1 p.1)

-- ---- gates
pub like_minus : (t : Table) → minus (like t (pos 1)) t ≡ each negation t
like_minus (entry x) = refl
like_minus (halves a b) = both_halves (like_minus a) (like_minus b)

pub constant_like : (n : ℕ) (c : ℤ) (t : Table) → IsOver n t → constant_table n c ≡ like t c
constant_like zero c (entry x) o = refl
constant_like zero c (halves a b) o = absurd o
constant_like (suc n) c (entry x) o = absurd o
constant_like (suc n) c (halves a b) o = both_halves (constant_like n c a o.0) (constant_like n c b o.1)

pub or-table : (n : ℕ) (t u : Table) → IsOver n t → IsOver n u → minus (plus t u) (times t u) ≡ step_table Or t u
or-table n t u o p = zip_both _ (λ x y. x +ℤ y) (λ x y. x *ℤ y) n t u o p

pub xor-table : (n : ℕ) (t u : Table) → IsOver n t → IsOver n u → minus (plus t u) (multiple (pos 2) (times t u)) ≡ step_table Xor t u
xor-table n t u o p =
    ap (minus (plus t u)) (each_zip (λ z. pos 2 *ℤ z) (λ x y. x *ℤ y) n t u o p) ∙ zip_both _ (λ x y. x +ℤ y) (λ x y. pos 2 *ℤ (x *ℤ y)) n t u o p

-- an operation that is its first operand
pub first_of_both : (f : ℤ → ℤ → ℤ) → ((x y : ℤ) → f x y ≡ x) → (n : ℕ) (t u : Table) → IsOver n t → IsOver n u → zip_with f t u ≡ t
first_of_both f same zero (entry x) (entry y) o p = ap entry (same x y)
first_of_both f same zero (halves a b) u o p = absurd o
first_of_both f same zero (entry x) (halves c d) o p = absurd p
first_of_both f same (suc n) (entry x) u o p = absurd o
first_of_both f same (suc n) (halves a b) (entry y) o p = absurd p
first_of_both f same (suc n) (halves a b) (halves c d) o p = both_halves (first_of_both f same n a c o.0 p.0) (first_of_both f same n b d o.1 p.1)

pub negated_table : (word : GateWord) (t : Table) (ts : List Table) → is_negated word ≡ true → each negation (fold_table word t ts) ≡ gate_table word (t ∷ ts)
negated_table word t ts h = rw h (sym (like_minus (fold_table word t ts)))

pub plain_table : (word : GateWord) (t : Table) (ts : List Table) → is_negated word ≡ false → fold_table word t ts ≡ gate_table word (t ∷ ts)
plain_table word t ts h = rw h

-- ---- words
pub doubled : (exponent : ℕ) → 2 * 2 ^ exponent ≡ 2 ^ (exponent + 1)
doubled exponent = rw add-one (omega (arith, two-pow-succ exponent))
