-- Laws of tables: sums and differences, functions of entries, parts, multiples, and tables raised by a constant.
use Rattle.std.proofs.Common.{◌≡◌, refl, sym, ◌∙◌, ap, ℕ, zero, suc, ℤ, pos, ◌+ℤ◌, ◌-ℤ◌, ◌*ℤ◌, arith}
use Rattle.std.proofs.lemmas.Int.{ints}
use Rattle.integers.proofs.Ring.{*ℤ-distrib_sub_left, *ℤ_assoc, *ℤ_left_comm}
use Rattle.word_base.specs.declared.decomp.Decomp.{Decomp}
use Rattle.word_base.specs.declared.decomp.Decomp.TheVariants.{S, P, N}
use Rattle.tables.specs.Table.{Table, entry, halves, IsOver, each, multiple, zip_with, plus, minus, part0, part1, merged, constant_table}
use Rattle.tables.specs.Factors.{raised_by}
use Rattle.tables.specs.Laws.{ProductsOfMultiples, RaisedTablesAreSums, SumsOfRaisedTables}

-- two equations between the halves
pub both_halves : {a b c d : Table} → a ≡ c → b ≡ d → halves a b ≡ halves c d
both_halves p q = cc (p, q)

-- ---- functions of entries
pub each-same : (f g : ℤ → ℤ) → ((x : ℤ) → f x ≡ g x) → (t : Table) → each f t ≡ each g t
each-same f g h (entry x) = ap entry (h x)
each-same f g h (halves lo hi) = both_halves (each-same f g h lo) (each-same f g h hi)

pub each-identity : (f : ℤ → ℤ) → ((x : ℤ) → f x ≡ x) → (t : Table) → each f t ≡ t
each-identity f h (entry x) = ap entry (h x)
each-identity f h (halves lo hi) = both_halves (each-identity f h lo) (each-identity f h hi)

pub times_one : (t : Table) → multiple (pos 1) t ≡ t
times_one t = each-identity (λ x. pos 1 *ℤ x) (λ x. omega (arith, ints)) t

pub each-each : (f g : ℤ → ℤ) (t : Table) → each f (each g t) ≡ each (λ x. f (g x)) t
each-each f g (entry x) = refl
each-each f g (halves lo hi) = both_halves (each-each f g lo) (each-each f g hi)

pub IsOver-each : (n : ℕ) (f : ℤ → ℤ) (t : Table) → IsOver n t → IsOver n (each f t)
IsOver-each zero f (entry x) o = tt
IsOver-each zero f (halves lo hi) o = o
IsOver-each (suc n) f (entry x) o = o
IsOver-each (suc n) f (halves lo hi) o = (IsOver-each n f lo o.0, IsOver-each n f hi o.1)

-- ---- sums and differences
pub IsOver-zip_with : (n : ℕ) (f : ℤ → ℤ → ℤ) (t u : Table) → IsOver n t → IsOver n u → IsOver n (zip_with f t u)
IsOver-zip_with zero f (entry x) (entry y) o p = tt
IsOver-zip_with zero f (halves a b) u o p = absurd o
IsOver-zip_with zero f (entry x) (halves c d) o p = absurd p
IsOver-zip_with (suc n) f (entry x) u o p = absurd o
IsOver-zip_with (suc n) f (halves a b) (entry y) o p = absurd p
IsOver-zip_with (suc n) f (halves a b) (halves c d) o p =
    (IsOver-zip_with n f a c o.0 p.0, IsOver-zip_with n f b d o.1 p.1)

-- what is added is the difference
pub minus-plus : (n : ℕ) (t u : Table) → IsOver n t → IsOver n u → minus (plus t u) t ≡ u
minus-plus zero (entry x) (entry y) o p = ap entry (omega (arith, ints))
minus-plus zero (halves a b) u o p = absurd o
minus-plus zero (entry x) (halves c d) o p = absurd p
minus-plus (suc n) (entry x) u o p = absurd o
minus-plus (suc n) (halves a b) (entry y) o p = absurd p
minus-plus (suc n) (halves a b) (halves c d) o p = both_halves (minus-plus n a c o.0 p.0) (minus-plus n b d o.1 p.1)

pub plus-minus : (n : ℕ) (t u : Table) → IsOver n t → IsOver n u → plus t (minus u t) ≡ u
plus-minus zero (entry x) (entry y) o p = ap entry (omega (arith, ints))
plus-minus zero (halves a b) u o p = absurd o
plus-minus zero (entry x) (halves c d) o p = absurd p
plus-minus (suc n) (entry x) u o p = absurd o
plus-minus (suc n) (halves a b) (entry y) o p = absurd p
plus-minus (suc n) (halves a b) (halves c d) o p = both_halves (plus-minus n a c o.0 p.0) (plus-minus n b d o.1 p.1)

pub minus-self : (n : ℕ) (t : Table) → IsOver n t → minus t t ≡ constant_table n (pos 0)
minus-self zero (entry x) o = ap entry (omega (arith, ints))
minus-self zero (halves a b) o = absurd o
minus-self (suc n) (entry x) o = absurd o
minus-self (suc n) (halves a b) o = both_halves (minus-self n a o.0) (minus-self n b o.1)

-- a function that takes a sum to a sum, of two functions, does so entry by entry
pub each-plus : (n : ℕ) (f g : ℤ → ℤ) → ((x y : ℤ) → f (x +ℤ y) ≡ f x +ℤ g y) → (t u : Table) → IsOver n t → IsOver n u →
    each f (plus t u) ≡ plus (each f t) (each g u)
each-plus zero f g h (entry x) (entry y) o p = ap entry (h x y)
each-plus zero f g h (halves a b) u o p = absurd o
each-plus zero f g h (entry x) (halves c d) o p = absurd p
each-plus (suc n) f g h (entry x) u o p = absurd o
each-plus (suc n) f g h (halves a b) (entry y) o p = absurd p
each-plus (suc n) f g h (halves a b) (halves c d) o p = both_halves (each-plus n f g h a c o.0 p.0) (each-plus n f g h b d o.1 p.1)

-- ---- constants
pub each-constant_table : (f : ℤ → ℤ) (n : ℕ) (c : ℤ) → each f (constant_table n c) ≡ constant_table n (f c)
each-constant_table f zero c = refl
each-constant_table f (suc n) c = both_halves (each-constant_table f n c) (each-constant_table f n c)

-- ---- parts
pub part0-merged : (d : Decomp) (p q : Table) → part0 d (merged d p q) ≡ p
part0-merged S p q = refl
part0-merged P p q = refl
part0-merged N p q = refl

pub part1-merged : (n : ℕ) (d : Decomp) (p q : Table) → IsOver n p → IsOver n q → part1 d (merged d p q) ≡ q
part1-merged n S p q o r = refl
part1-merged n P p q o r = minus-plus n p q o r
part1-merged n N p q o r = minus-plus n p q o r

pub merged-parts : (n : ℕ) (d : Decomp) (t : Table) → IsOver (suc n) t → merged d (part0 d t) (part1 d t) ≡ t
merged-parts n d (entry x) o = absurd o
merged-parts n S (halves lo hi) o = refl
merged-parts n P (halves lo hi) o = both_halves refl (plus-minus n lo hi o.0 o.1)
merged-parts n N (halves lo hi) o = both_halves (plus-minus n hi lo o.1 o.0) refl

-- a table is determined by its parts
pub same_parts : (n : ℕ) (d : Decomp) (t u : Table) → IsOver (suc n) t → IsOver (suc n) u →
    part0 d t ≡ part0 d u → part1 d t ≡ part1 d u → t ≡ u
same_parts n d t u o r e f =
    sym (merged-parts n d t o) ∙ ap (λ (p : Table). merged d p (part1 d t)) e ∙ ap (λ (q : Table). merged d (part0 d u) q) f ∙ merged-parts n d u r

pub IsOver-merged : (n : ℕ) (d : Decomp) (p q : Table) → IsOver n p → IsOver n q → IsOver (suc n) (merged d p q)
IsOver-merged n S p q o r = (o, r)
IsOver-merged n P p q o r = (o, IsOver-zip_with n (λ x y. x +ℤ y) p q o r)
IsOver-merged n N p q o r = (IsOver-zip_with n (λ x y. x +ℤ y) p q o r, o)

pub IsOver-part0 : (n : ℕ) (d : Decomp) (t : Table) → IsOver (suc n) t → IsOver n (part0 d t)
IsOver-part0 n d (entry x) o = absurd o
IsOver-part0 n S (halves lo hi) o = o.0
IsOver-part0 n P (halves lo hi) o = o.0
IsOver-part0 n N (halves lo hi) o = o.1

pub IsOver-part1 : (n : ℕ) (d : Decomp) (t : Table) → IsOver (suc n) t → IsOver n (part1 d t)
IsOver-part1 n d (entry x) o = absurd o
IsOver-part1 n S (halves lo hi) o = o.1
IsOver-part1 n P (halves lo hi) o = IsOver-zip_with n (λ x y. x -ℤ y) hi lo o.1 o.0
IsOver-part1 n N (halves lo hi) o = IsOver-zip_with n (λ x y. x -ℤ y) lo hi o.0 o.1

-- the first at Shannon, whose high part is a half, and else the second
abbrev pub at_high_part : {A : Type 0} → Decomp → A → A → A
at_high_part S x y = x
at_high_part P x y = y
at_high_part N x y = y

pub each-merged : (n : ℕ) (d : Decomp) (f g : ℤ → ℤ) → ((x y : ℤ) → f (x +ℤ y) ≡ f x +ℤ g y) → (p q : Table) → IsOver n p → IsOver n q →
    each f (merged d p q) ≡ merged d (each f p) (each (at_high_part d f g) q)
each-merged n S f g h p q o r = refl
each-merged n P f g h p q o r = both_halves refl (each-plus n f g h p q o r)
each-merged n N f g h p q o r = both_halves (each-plus n f g h p q o r) refl

-- ---- multiples
pub part0-each : (d : Decomp) (f : ℤ → ℤ) (t : Table) → part0 d (each f t) ≡ each f (part0 d t)
part0-each d f (entry x) = refl
part0-each S f (halves lo hi) = refl
part0-each P f (halves lo hi) = refl
part0-each N f (halves lo hi) = refl

minus-multiple : (s : ℤ) (t u : Table) → minus (multiple s t) (multiple s u) ≡ multiple s (minus t u)
minus-multiple s (entry x) (entry y) = ap entry (sym (*ℤ-distrib_sub_left s x y))
minus-multiple s (entry x) (halves c d) = refl
minus-multiple s (halves a b) (entry y) = refl
minus-multiple s (halves a b) (halves c d) = both_halves (minus-multiple s a c) (minus-multiple s b d)

pub part1-multiple : (d : Decomp) (s : ℤ) (t : Table) → part1 d (multiple s t) ≡ multiple s (part1 d t)
part1-multiple d s (entry x) = refl
part1-multiple S s (halves lo hi) = refl
part1-multiple P s (halves lo hi) = minus-multiple s hi lo
part1-multiple N s (halves lo hi) = minus-multiple s lo hi

pub products_of_multiples : ProductsOfMultiples
products_of_multiples zero s r (entry x) (entry y) o p = ap entry (*ℤ_assoc s x (r *ℤ y) ∙ ap (λ (z : ℤ). s *ℤ z) (*ℤ_left_comm x r y))
products_of_multiples zero s r (halves a b) u o p = absurd o
products_of_multiples zero s r (entry x) (halves c d) o p = absurd p
products_of_multiples (suc n) s r (entry x) u o p = absurd o
products_of_multiples (suc n) s r (halves a b) (entry y) o p = absurd p
products_of_multiples (suc n) s r (halves a b) (halves c d) o p =
    both_halves (products_of_multiples n s r a c o.0 p.0) (products_of_multiples n s r b d o.1 p.1)

-- ---- tables raised by a constant
pub raised_tables_are_sums : RaisedTablesAreSums
raised_tables_are_sums c (entry x) = ap entry (omega (arith, ints))
raised_tables_are_sums c (halves lo hi) = both_halves (raised_tables_are_sums c lo) (raised_tables_are_sums c hi)

minus-raised : (n : ℕ) (c : ℤ) (t u : Table) → IsOver n t → IsOver n u → minus (raised_by c t) (raised_by c u) ≡ minus t u
minus-raised zero c (entry x) (entry y) o p = ap entry (omega (arith, ints))
minus-raised zero c (halves a b) u o p = absurd o
minus-raised zero c (entry x) (halves e f) o p = absurd p
minus-raised (suc n) c (entry x) u o p = absurd o
minus-raised (suc n) c (halves a b) (entry y) o p = absurd p
minus-raised (suc n) c (halves a b) (halves e f) o p = both_halves (minus-raised n c a e o.0 p.0) (minus-raised n c b f o.1 p.1)

-- what is added to both halves is no part of their difference
pub part1-raised : (n : ℕ) (d : Decomp) (c : ℤ) (t : Table) → IsOver (suc n) t → part1 d (raised_by c t) ≡ at_high_part d (raised_by c (part1 d t)) (part1 d t)
part1-raised n d c (entry x) o = absurd o
part1-raised n S c (halves lo hi) o = refl
part1-raised n P c (halves lo hi) o = minus-raised n c hi lo o.1 o.0
part1-raised n N c (halves lo hi) o = minus-raised n c lo hi o.0 o.1

pub sums_of_raised_tables : SumsOfRaisedTables
sums_of_raised_tables zero c e (entry x) (entry y) o p = ap entry (omega (arith, ints))
sums_of_raised_tables zero c e (halves a b) u o p = absurd o
sums_of_raised_tables zero c e (entry x) (halves f g) o p = absurd p
sums_of_raised_tables (suc n) c e (entry x) u o p = absurd o
sums_of_raised_tables (suc n) c e (halves a b) (entry y) o p = absurd p
sums_of_raised_tables (suc n) c e (halves a b) (halves f g) o p =
    both_halves (sums_of_raised_tables n c e a f o.0 p.0) (sums_of_raised_tables n c e b g o.1 p.1)
