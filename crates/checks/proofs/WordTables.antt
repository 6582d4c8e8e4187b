-- The table of a word is added up from those of its nets, the lowest first.
use Rattle.std.specs.Prelude.{◌≡◌, ℕ, zero, suc, ◌+◌, ◌*◌, ◌^◌, ◌<◌, pos, ◌+ℤ◌, ◌*ℤ◌, Bool, true, false, cond, List, [], ◌∷◌, ◌++◌, map, length, take, fold, slice_index_or, refl}
use Rattle.std.specs.List.{enumerate_from}
use Rattle.std.proofs.Common.{sym, ◌∙◌, ap, arith, add-one}
use Rattle.std.proofs.Math.Nat.{mul_comm, mul_assoc, pow-succ', two-pow-succ}
use Rattle.std.proofs.lemmas.List.Sums.{fold-append}
use Rattle.circuits.specs.Polynomial.{number_of}
use Rattle.circuits.specs.Valuation.{bit_of}
use Rattle.spec_lang.specs.Placed.{net_values}
use Rattle.spec_lang.specs.Value.{digit_of, word_value, nets_of}
use Rattle.tables.proofs.TableLaws.{times_one}
use Rattle.tables.specs.Table.{Table, plus, multiple, tabulate}
use Rattle.checks.proofs.Tabulated.{tabulate-same, each-tabulate, zip_with-tabulate}
use Rattle.checks.specs.Laws.{WordTables}
use Rattle.checks.specs.Work.{multiples, sums_from, partial_sums, sum_table, word_table}

-- ---- multiples
doubled : (k n : ℕ) → 2 * k * 2 ^ n ≡ k * 2 ^ suc n
doubled k n = ap (λ (j : ℕ). j * 2 ^ n) (mul_comm 2 k) ∙ mul_assoc k 2 (2 ^ n) ∙ ap (λ (j : ℕ). k * j) (sym (pow-succ' 2 n))

multiples-append : (k : ℕ) (ts : List Table) (t : Table) → multiples k (ts ++ t ∷ []) ≡ multiples k ts ++ multiple (pos (k * 2 ^ length ts)) t ∷ []
multiples-append k [] t = ap (λ (j : ℕ). multiple (pos j) t ∷ []) (omega arith)
multiples-append k (u ∷ ts) t =
    ap (λ us. multiple (pos k) u ∷ us)
    (multiples-append (2 * k) ts t ∙ ap (λ (j : ℕ). multiples (2 * k) ts ++ multiple (pos j) t ∷ []) (doubled k (length ts)))

multiples-at : (k : ℕ) (ts : List Table) (i : ℕ) (d : Table) → i < length ts → slice_index_or (multiples k ts) i d ≡ multiple (pos (k * 2 ^ i)) (slice_index_or ts i d)
multiples-at k [] i d low = absurd (omega arith)
multiples-at k (t ∷ ts) zero d low = ap (λ (j : ℕ). multiple (pos j) t) (omega arith)
multiples-at k (t ∷ ts) (suc i) d low =
    multiples-at (2 * k) ts i d (omega arith) ∙ ap (λ (j : ℕ). multiple (pos j) (slice_index_or ts i d)) (doubled k i)

multiples-take : (k : ℕ) (ts : List Table) (i : ℕ) → take i (multiples k ts) ≡ multiples k (take i ts)
multiples-take k [] zero = refl
multiples-take k [] (suc i) = refl
multiples-take k (t ∷ ts) zero = refl
multiples-take k (t ∷ ts) (suc i) = ap (λ us. multiple (pos k) t ∷ us) (multiples-take (2 * k) ts i)

length-multiples : (k : ℕ) (ts : List Table) → length (multiples k ts) ≡ length ts
length-multiples k [] = refl
length-multiples k (t ∷ ts) = ap suc (length-multiples (2 * k) ts)

-- ---- sums
sums_from-at : (sum : Table) (ts : List Table) (i : ℕ) (d : Table) → i < length ts → slice_index_or (sums_from sum ts) i d ≡ fold plus sum (take (suc i) ts)
sums_from-at sum [] i d low = absurd (omega arith)
sums_from-at sum (t ∷ ts) zero d low = refl
sums_from-at sum (t ∷ ts) (suc i) d low = sums_from-at (plus sum t) ts i d (omega arith)

partial_sums-at : (ts : List Table) (i : ℕ) (d : Table) → i < length ts → slice_index_or (partial_sums ts) i d ≡ sum_table (take (suc i) ts)
partial_sums-at [] i d low = absurd (omega arith)
partial_sums-at (t ∷ ts) zero d low = refl
partial_sums-at (t ∷ ts) (suc i) d low = sums_from-at t ts i d (omega arith)

sum_table-append : (ts : List Table) (t : Table) → 0 < length ts → sum_table (ts ++ t ∷ []) ≡ plus (sum_table ts) t
sum_table-append [] t some = absurd (omega arith)
sum_table-append (u ∷ ts) t some = fold-append plus u ts (t ∷ [])

-- ---- the value of a word
weighted_bit : (k : ℕ) (bit : Bool) → pos k *ℤ number_of bit ≡ pos (k * cond bit 1 0)
weighted_bit k true = refl
weighted_bit k false = refl

multiple-tabulate : (k n : ℕ) (values : List Bool → List Bool) (net : ℕ) →
    multiple (pos k) (tabulate n (λ bits. number_of (bit_of (values bits) net))) ≡ tabulate n (λ bits. pos (k * digit_of (values bits) net))
multiple-tabulate k n values net =
    each-tabulate (λ x. pos k *ℤ x) n (λ bits. number_of (bit_of (values bits) net))
    ∙ tabulate-same n (λ bits. pos k *ℤ number_of (bit_of (values bits) net)) (λ bits. pos (k * digit_of (values bits) net)) (λ bits many. weighted_bit k (bit_of (values bits) net))

-- from place i on, added to what came before
from_place : (n : ℕ) (values : List Bool → List Bool) (nets : List ℕ) (i : ℕ) (before : List Bool → ℕ) →
    fold plus (tabulate n (λ bits. pos (before bits))) (multiples (2 ^ i) (map (λ net. tabulate n (λ bits. number_of (bit_of (values bits) net))) nets))
    ≡ tabulate n (λ bits. pos (fold (λ a (i, net). a + 2 ^ i * digit_of (values bits) net) (before bits) (enumerate_from i nets)))
from_place n values [] i before = refl
from_place n values (net ∷ nets) i before =
    let tables = map (λ net. tabulate n (λ bits. number_of (bit_of (values bits) net))) nets in
    let sum = tabulate n (λ bits. pos (before bits)) in
    let power : 2 * 2 ^ i ≡ 2 ^ (i + 1) = rw add-one (omega (arith, two-pow-succ i)) in
    ap (λ t. fold plus (plus sum t) (multiples (2 * 2 ^ i) tables)) (multiple-tabulate (2 ^ i) n values net)
    ∙ ap (λ t. fold plus t (multiples (2 * 2 ^ i) tables)) (zip_with-tabulate (λ x y. x +ℤ y) n (λ bits. pos (before bits)) (λ bits. pos (2 ^ i * digit_of (values bits) net)))
    ∙ ap (λ (k : ℕ). fold plus (tabulate n (λ bits. pos (before bits + 2 ^ i * digit_of (values bits) net))) (multiples k tables)) power
    ∙ from_place n values nets (i + 1) (λ bits. before bits + 2 ^ i * digit_of (values bits) net)

word-tabulate : (n : ℕ) (values : List Bool → List Bool) (nets : List ℕ) → 0 < length nets →
    word_table (map (λ net. tabulate n (λ bits. number_of (bit_of (values bits) net))) nets) ≡ tabulate n (λ bits. pos (word_value (values bits) nets))
word-tabulate n values [] some = absurd (omega arith)
word-tabulate n values (net ∷ nets) some =
    let tables = map (λ net. tabulate n (λ bits. number_of (bit_of (values bits) net))) nets in
    let first : tabulate n (λ bits. pos (1 * digit_of (values bits) net)) ≡ tabulate n (λ bits. pos (0 + 2 ^ 0 * digit_of (values bits) net)) =
    tabulate-same n (λ bits. pos (1 * digit_of (values bits) net)) (λ bits. pos (0 + 2 ^ 0 * digit_of (values bits) net)) (λ bits many. ap pos (omega arith)) in
    ap (λ t. fold plus t (multiples 2 tables)) (multiple-tabulate 1 n values net ∙ first)
    ∙ from_place n values nets 1 (λ bits. 0 + 2 ^ 0 * digit_of (values bits) net)

pub word_tables : WordTables
word_tables = record {
  of_word = λ c s w some. sym (word-tabulate (length s.order) (net_values c s) (nets_of s.words w) some);
  of_one = times_one;
  of_one_more = λ ts t some.
      ap sum_table (multiples-append 1 ts t)
      ∙ sum_table-append (multiples 1 ts) (multiple (pos (1 * 2 ^ length ts)) t) (omega (arith, length-multiples 1 ts))
      ∙ ap (λ (k : ℕ). plus (word_table ts) (multiple (pos k) t)) (omega arith);
  multiple_at = λ ts i d low. multiples-at 1 ts i d low ∙ ap (λ (k : ℕ). multiple (pos k) (slice_index_or ts i d)) (omega arith);
  partial_sum_at = λ ts i d low.
      partial_sums-at (multiples 1 ts) i d (omega (arith, length-multiples 1 ts))
      ∙ ap sum_table (multiples-take 1 ts (suc i))
      ∙ ap (λ (k : ℕ). word_table (take k ts)) (sym (add-one i));
}
