-- The first difference of two tables is found, and the walk by parts goes to it.
use Rattle.std.specs.Prelude.{◌≡◌, ℕ, zero, suc, ℤ, ◌-ℤ◌, Bool, true, false, List, [], ◌∷◌, length, Option, Some, None, if◌then◌else◌, refl}
use Rattle.std.specs.Ordering.{int_eq}
use Rattle.std.proofs.Common.{sym, ◌∙◌, ap, subst, arith}
use Rattle.std.proofs.lemmas.Bool.{and_from, and_parts, false≢true}
use Rattle.std.proofs.lemmas.Bool.Decides.{Decides-int_eq}
use Rattle.std.proofs.lemmas.Int.{ints}
use Rattle.word_base.specs.declared.decomp.Decomp.{Decomp}
use Rattle.word_base.specs.declared.decomp.Decomp.TheVariants.{S, P, N}
use Rattle.tables.proofs.TableLaws.{both_halves, plus-minus, IsOver-zip_with}
use Rattle.tables.proofs.TreeLaws.{int_eq-same, int_eq-refl}
use Rattle.tables.specs.Table.{Table, entry, halves, IsOver, plus, minus, same_table}
use Rattle.checks.specs.Answer.{Difference, IsFirstDifference, IsBefore, with_bit, first_of_halves, first_difference, entry_at}
use Rattle.checks.specs.Laws.{FirstDifferenceFound, WalkFindsFirst}
use Rattle.checks.specs.Work.{walk_bits}

-- ---- the same table
pub same_table-same : (t u : Table) → same_table t u ≡ true → t ≡ u
same_table-same (entry x) (entry y) h = ap entry (int_eq-same x y h)
same_table-same (halves a b) (halves c d) h =
    both_halves (same_table-same a c (and_parts _ _ h).0) (same_table-same b d (and_parts (same_table a c) _ h).1)
same_table-same (entry x) (halves c d) h = cc
same_table-same (halves a b) (entry y) h = cc

pub same_table-refl : (t : Table) → same_table t t ≡ true
same_table-refl (entry x) = int_eq-refl x
same_table-refl (halves a b) = and_from _ _ (same_table-refl a) (same_table-refl b)

-- ---- no difference
abbrev at_entries : Bool → ℤ → ℤ → Option Difference
at_entries same x y = if same then None else Some (record { at = []; left = x; right = y })

none_of_same : (t : Table) → first_difference t t ≡ None
none_of_same (entry x) = ap (λ same. at_entries same x x) (int_eq-refl x)
none_of_same (halves a b) = ap (λ low. first_of_halves low (first_difference b b)) (none_of_same a) ∙ ap (first_of_halves None) (none_of_same b)

at_entries-none : (same : Bool) (x y : ℤ) → at_entries same x y ≡ None → same ≡ true
at_entries-none true x y h = refl
at_entries-none false x y h = cc

halves-none : (low high : Option Difference) → first_of_halves low high ≡ None → (low ≡ None) × (high ≡ None)
halves-none (Some l) high h = cc
halves-none None (Some d) h = cc
halves-none None None h = (refl, refl)

same_if_none : (n : ℕ) (t u : Table) → IsOver n t → IsOver n u → first_difference t u ≡ None → t ≡ u
same_if_none zero (entry x) (entry y) o p h = ap entry (int_eq-same x y (at_entries-none (int_eq x y) x y h))
same_if_none zero (halves a b) u o p h = absurd o
same_if_none zero (entry x) (halves c d) o p h = absurd p
same_if_none (suc n) (entry x) u o p h = absurd o
same_if_none (suc n) (halves a b) (entry y) o p h = absurd p
same_if_none (suc n) (halves a b) (halves c d) o p h =
    let both = halves-none (first_difference a c) (first_difference b d) h in
    both_halves (same_if_none n a c o.0 p.0 both.0) (same_if_none n b d o.1 p.1 both.1)

-- ---- the first
at_entries-some : (same : Bool) (x y : ℤ) (d : Difference) → at_entries same x y ≡ Some d →
    (same ≡ false) × (record { at = []; left = x; right = y } ≡ d)
at_entries-some true x y d h = cc
at_entries-some false x y d h = (refl, cc)

nothing_before : (bits : List Bool) → IsBefore bits [] → ⊥
nothing_before [] h = h
nothing_before (a ∷ bits) h = h

at_entry : (x y : ℤ) → int_eq x y ≡ false → IsFirstDifference 0 (entry x) (entry y) (record { at = []; left = x; right = y })
at_entry x y apart = record {
  full = refl;
  left = refl;
  right = refl;
  differ = λ e. false≢true (sym apart ∙ (Decides-int_eq x y).1 e);
  same_before = λ bits many before. absurd (nothing_before bits before);
}

before_in_low : (n : ℕ) (a b c e : Table) (l : Difference) → IsFirstDifference n a c l → (bits : List Bool) → length bits ≡ suc n →
    IsBefore bits (false ∷ l.at) → entry_at (halves a b) bits ≡ entry_at (halves c e) bits
before_in_low n a b c e l is [] many before = absurd before
before_in_low n a b c e l is (false ∷ bits) many before = is.same_before bits (omega arith) before
before_in_low n a b c e l is (true ∷ bits) many before = absurd before

before_in_high : (n : ℕ) (a b c e : Table) (h : Difference) → a ≡ c → IsFirstDifference n b e h → (bits : List Bool) → length bits ≡ suc n →
    IsBefore bits (true ∷ h.at) → entry_at (halves a b) bits ≡ entry_at (halves c e) bits
before_in_high n a b c e h same is [] many before = absurd before
before_in_high n a b c e h same is (false ∷ bits) many before = ap (λ t. entry_at t bits) same
before_in_high n a b c e h same is (true ∷ bits) many before = is.same_before bits (omega arith) before

in_low : (n : ℕ) (a b c e : Table) (l : Difference) → IsFirstDifference n a c l → IsFirstDifference (suc n) (halves a b) (halves c e) (with_bit false l)
in_low n a b c e l is = record {
  full = ap suc is.full;
  left = is.left;
  right = is.right;
  differ = is.differ;
  same_before = before_in_low n a b c e l is;
}

in_high : (n : ℕ) (a b c e : Table) (h : Difference) → a ≡ c → IsFirstDifference n b e h → IsFirstDifference (suc n) (halves a b) (halves c e) (with_bit true h)
in_high n a b c e h same is = record {
  full = ap suc is.full;
  left = is.left;
  right = is.right;
  differ = is.differ;
  same_before = before_in_high n a b c e h same is;
}

in_halves : (n : ℕ) (a b c e : Table) (d : Difference) (low high : Option Difference) →
    (low ≡ None → a ≡ c) →
    ((l : Difference) → low ≡ Some l → IsFirstDifference n a c l) →
    ((h : Difference) → high ≡ Some h → IsFirstDifference n b e h) →
    first_of_halves low high ≡ Some d → IsFirstDifference (suc n) (halves a b) (halves c e) d
in_halves n a b c e d (Some l) high same of_low of_high h =
    let is : with_bit false l ≡ d = cc in
    subst (IsFirstDifference (suc n) (halves a b) (halves c e)) is (in_low n a b c e l (of_low l refl))
in_halves n a b c e d None (Some l) same of_low of_high h =
    let is : with_bit true l ≡ d = cc in
    subst (IsFirstDifference (suc n) (halves a b) (halves c e)) is (in_high n a b c e l (same refl) (of_high l refl))
in_halves n a b c e d None None same of_low of_high h = cc

found : (n : ℕ) (t u : Table) (d : Difference) → IsOver n t → IsOver n u → first_difference t u ≡ Some d → IsFirstDifference n t u d
found zero (entry x) (entry y) d o p h =
    let is = at_entries-some (int_eq x y) x y d h in
    subst (IsFirstDifference 0 (entry x) (entry y)) is.1 (at_entry x y is.0)
found zero (halves a b) u d o p h = absurd o
found zero (entry x) (halves c e) d o p h = absurd p
found (suc n) (entry x) u d o p h = absurd o
found (suc n) (halves a b) (entry y) d o p h = absurd p
found (suc n) (halves a b) (halves c e) d o p h =
    in_halves n a b c e d (first_difference a c) (first_difference b e)
    (same_if_none n a c o.0 p.0)
    (λ l. found n a c l o.0 p.0)
    (λ k. found n b e k o.1 p.1) h

pub first_difference_found : FirstDifferenceFound
first_difference_found = record { none_of_same = none_of_same; same_if_none = same_if_none; found = found }

-- ---- the bits of the first difference
abbrev bits_of : Option Difference → Option (List Bool)
bits_of None = None
bits_of (Some d) = Some d.at

abbrev turned : Option (List Bool) → Option (List Bool) → Option (List Bool)
turned (Some l) high = Some (false ∷ l)
turned None (Some h) = Some (true ∷ h)
turned None None = None

bits_of-halves : (low high : Option Difference) → bits_of (first_of_halves low high) ≡ turned (bits_of low) (bits_of high)
bits_of-halves (Some l) high = refl
bits_of-halves None (Some h) = refl
bits_of-halves None None = refl

bits_of-none : (d : Option Difference) → bits_of d ≡ None → d ≡ None
bits_of-none None h = refl
bits_of-none (Some d) h = cc

bits_of-entries : (same : Bool) (x y z w : ℤ) → bits_of (at_entries same x y) ≡ bits_of (at_entries same z w)
bits_of-entries true x y z w = refl
bits_of-entries false x y z w = refl

same_truth : (a b : Bool) → (a ≡ true → b ≡ true) → (b ≡ true → a ≡ true) → a ≡ b
same_truth true b to back = sym (to refl)
same_truth false true to back = back refl
same_truth false false to back = refl

int_eq-minus : (x y z : ℤ) → int_eq (x -ℤ z) (y -ℤ z) ≡ int_eq x y
int_eq-minus x y z = same_truth (int_eq (x -ℤ z) (y -ℤ z)) (int_eq x y)
    (λ h. let e : x -ℤ z ≡ y -ℤ z = int_eq-same (x -ℤ z) (y -ℤ z) h in let f : x ≡ y = omega (arith, ints) in (Decides-int_eq x y).1 f)
    (λ h. (Decides-int_eq (x -ℤ z) (y -ℤ z)).1 (ap (λ w. w -ℤ z) (int_eq-same x y h)))

-- what is taken away from both does not matter
bits_of-minus : (n : ℕ) (t u v : Table) → IsOver n t → IsOver n u → IsOver n v →
    bits_of (first_difference (minus t v) (minus u v)) ≡ bits_of (first_difference t u)
bits_of-minus zero (entry x) (entry y) (entry z) o p q =
    ap (λ same. bits_of (at_entries same (x -ℤ z) (y -ℤ z))) (int_eq-minus x y z) ∙ bits_of-entries (int_eq x y) (x -ℤ z) (y -ℤ z) x y
bits_of-minus zero (halves a b) u v o p q = absurd o
bits_of-minus zero (entry x) (halves a b) v o p q = absurd p
bits_of-minus zero (entry x) (entry y) (halves a b) o p q = absurd q
bits_of-minus (suc n) (entry x) u v o p q = absurd o
bits_of-minus (suc n) (halves a b) (entry x) v o p q = absurd p
bits_of-minus (suc n) (halves a b) (halves c d) (entry x) o p q = absurd q
bits_of-minus (suc n) (halves a b) (halves c d) (halves e f) o p q =
    let low = bits_of-minus n a c e o.0 p.0 q.0 in
    let high = bits_of-minus n b d f o.1 p.1 q.1 in
    bits_of-halves (first_difference (minus a e) (minus c e)) (first_difference (minus b f) (minus d f))
    ∙ ap (λ x. turned x (bits_of (first_difference (minus b f) (minus d f)))) low
    ∙ ap (turned (bits_of (first_difference a c))) high
    ∙ sym (bits_of-halves (first_difference a c) (first_difference b d))

-- ---- the walk
-- The walk turns to the low halves where these differ, and else to the high ones, and goes on by the first difference
-- there
turn : (n : ℕ) (a b c e : Table) (low high bits : List Bool) → IsOver n a → IsOver n c →
    ((rest : List Bool) → bits_of (first_difference a c) ≡ Some rest → low ≡ rest) →
    (a ≡ c → (rest : List Bool) → bits_of (first_difference b e) ≡ Some rest → high ≡ rest) →
    bits_of (first_difference (halves a b) (halves c e)) ≡ Some bits →
    (if same_table a c then true ∷ high else false ∷ low) ≡ bits
turn n a b c e low high bits o p of_low of_high h =
    by_bit (same_table a c) (first_difference a c) (first_difference b e) (same_table-same a c)
    (λ none. ap (same_table a) (sym (same_if_none n a c o p none)) ∙ same_table-refl a)
    (λ same. ap (first_difference a) (sym (same_table-same a c same)) ∙ none_of_same a)
    of_low of_high (sym (bits_of-halves (first_difference a c) (first_difference b e)) ∙ h)
  where
    by_bit : (same : Bool) (l k : Option Difference) → (same ≡ true → a ≡ c) → (l ≡ None → same ≡ true) → (same ≡ true → l ≡ None) →
        ((rest : List Bool) → bits_of l ≡ Some rest → low ≡ rest) →
        (a ≡ c → (rest : List Bool) → bits_of k ≡ Some rest → high ≡ rest) →
        turned (bits_of l) (bits_of k) ≡ Some bits → (if same then true ∷ high else false ∷ low) ≡ bits
    by_bit true (Some l) k is from to lows highs f = let e : Some l ≡ None = to refl in cc
    by_bit true None (Some k) is from to lows highs f = ap (λ rest. true ∷ rest) (highs (is refl) k.at refl) ∙ cc
    by_bit true None None is from to lows highs f = cc
    by_bit false (Some l) k is from to lows highs f = ap (λ rest. false ∷ rest) (lows l.at refl) ∙ cc
    by_bit false None k is from to lows highs f = absurd (false≢true (from refl))

-- the bits of a step and of the steps after it, case by case
step_cases : (ds : List Decomp) (same : Bool) (a b c e : Table) →
    same ∷ walk_bits ds (if same then b else a) (if same then e else c) ≡ (if same then true ∷ walk_bits ds b e else false ∷ walk_bits ds a c)
step_cases ds true a b c e = refl
step_cases ds false a b c e = refl

goes : (ds : List Decomp) (t u : Table) (bits : List Bool) → IsOver (length ds) t → IsOver (length ds) u →
    bits_of (first_difference t u) ≡ Some bits → walk_bits ds t u ≡ bits
goes [] (entry x) (entry y) bits o p h = one_entry (int_eq x y) h
  where
    one_entry : (same : Bool) → bits_of (at_entries same x y) ≡ Some bits → [] ≡ bits
    one_entry true e = cc
    one_entry false e = cc
goes [] (halves a b) u bits o p h = absurd o
goes [] (entry x) (halves c e) bits o p h = absurd p
goes (d ∷ ds) (entry x) u bits o p h = absurd o
goes (d ∷ ds) (halves a b) (entry y) bits o p h = absurd p
goes (S ∷ ds) (halves a b) (halves c e) bits o p h =
    step_cases ds (same_table a c) a b c e
    ∙ turn (length ds) a b c e (walk_bits ds a c) (walk_bits ds b e) bits o.0 p.0
    (λ rest. goes ds a c rest o.0 p.0) (λ same rest. goes ds b e rest o.1 p.1) h
goes (P ∷ ds) (halves a b) (halves c e) bits o p h =
    step_cases ds (same_table a c) a (minus b a) c (minus e c)
    ∙ turn (length ds) a b c e (walk_bits ds a c) (walk_bits ds (minus b a) (minus e c)) bits o.0 p.0
    (λ rest. goes ds a c rest o.0 p.0)
    (λ same rest there. goes ds (minus b a) (minus e c) rest
    (IsOver-zip_with (length ds) (λ x y. x -ℤ y) b a o.1 o.0)
    (IsOver-zip_with (length ds) (λ x y. x -ℤ y) e c p.1 p.0)
    (ap (λ v. bits_of (first_difference (minus b a) (minus e v))) (sym same) ∙ bits_of-minus (length ds) b e a o.1 p.1 o.0 ∙ there)) h
goes (N ∷ ds) (halves a b) (halves c e) bits o p h =
    let go = λ (x y : Table). if same_table x y then true ∷ walk_bits ds b e else false ∷ walk_bits ds x y in
    step_cases ds (same_table (plus b (minus a b)) (plus e (minus c e))) (plus b (minus a b)) b (plus e (minus c e)) e
    ∙ ap (λ x. go x (plus e (minus c e))) (plus-minus (length ds) b a o.1 o.0)
    ∙ ap (go a) (plus-minus (length ds) e c p.1 p.0)
    ∙ turn (length ds) a b c e (walk_bits ds a c) (walk_bits ds b e) bits o.0 p.0
    (λ rest. goes ds a c rest o.0 p.0) (λ same rest. goes ds b e rest o.1 p.1) h

pub walk_finds_first : WalkFindsFirst
walk_finds_first ds t u d o p h = goes ds t u d.at o p (ap bits_of h)
