-- Tables of integers over levels, and their two parts at a decomposition.
use Rattle.std.specs.Prelude.{◌≡◌, ℕ, zero, suc, ◌+◌, ℤ, pos, negsuc, neg_ℤ, ◌+ℤ◌, ◌-ℤ◌, ◌*ℤ◌, List, [], ◌∷◌, ◌++◌, Bool, true, false, ◌&&◌, refl}
use Rattle.std.specs.Ordering.{int_eq}
use Rattle.word_base.specs.declared.decomp.Decomp.{Decomp}
use Rattle.word_base.specs.declared.decomp.Decomp.TheVariants.{S, P, N}

-- one entry, or the half where the variable of the top level is 0 and the half where it is 1
pub data Table : Type 0 where
  entry : ℤ → Table
  halves : Table → Table → Table

-- the entries in order: the bits from the top level down are the digits of an entry's place
abbrev pub entries : Table → List ℤ
entries (entry x) = x ∷ []
entries (halves lo hi) = entries lo ++ entries hi

-- over so many levels
abbrev pub IsOver : ℕ → Table → Type 0
IsOver zero (entry x) = Unit {0}
IsOver zero (halves lo hi) = ⊥
IsOver (suc n) (entry x) = ⊥
IsOver (suc n) (halves lo hi) = IsOver n lo × IsOver n hi

-- a function of each entry
abbrev pub each : (ℤ → ℤ) → Table → Table
each f (entry x) = entry (f x)
each f (halves lo hi) = halves (each f lo) (each f hi)

-- entry by entry, of two tables over the same levels
abbrev pub zip_with : (ℤ → ℤ → ℤ) → Table → Table → Table
zip_with f (entry x) (entry y) = entry (f x y)
zip_with f (halves a b) (halves c d) = halves (zip_with f a c) (zip_with f b d)
zip_with f (entry x) (halves c d) = entry x
zip_with f (halves a b) (entry y) = entry y

abbrev pub plus : Table → Table → Table
plus = zip_with (λ x y. x +ℤ y)

abbrev pub minus : Table → Table → Table
minus = zip_with (λ x y. x -ℤ y)

abbrev pub times : Table → Table → Table
times = zip_with (λ x y. x *ℤ y)

abbrev pub opposite : Table → Table
opposite = each neg_ℤ

abbrev pub multiple : ℤ → Table → Table
multiple k = each (λ x. k *ℤ x)

-- Shannon (S): lo and hi; positive Davio (P): lo and hi - lo; negative Davio (N): hi and lo - hi
abbrev pub part0 : Decomp → Table → Table
part0 d (entry x) = entry x
part0 S (halves lo hi) = lo
part0 P (halves lo hi) = lo
part0 N (halves lo hi) = hi

abbrev pub part1 : Decomp → Table → Table
part1 d (entry x) = entry x
part1 S (halves lo hi) = hi
part1 P (halves lo hi) = minus hi lo
part1 N (halves lo hi) = minus lo hi

-- the table whose parts are the two
abbrev pub merged : Decomp → Table → Table → Table
merged S p q = halves p q
merged P p q = halves p (plus p q)
merged N p q = halves (plus p q) p

abbrev pub same_table : Table → Table → Bool
same_table (entry x) (entry y) = int_eq x y
same_table (halves a b) (halves c d) = same_table a c && same_table b d
same_table (entry x) (halves c d) = false
same_table (halves a b) (entry y) = false

-- the table of so many levels whose entry at the bits, the top level's first, is a function of them
abbrev pub tabulate : ℕ → (List Bool → ℤ) → Table
tabulate zero f = entry (f [])
tabulate (suc n) f = halves (tabulate n (λ bits. f (false ∷ bits))) (tabulate n (λ bits. f (true ∷ bits)))

abbrev pub constant_table : ℕ → ℤ → Table
constant_table n c = tabulate n (λ bits. c)

-- the table over so many levels of the variable of one of them, counted from the top; 0 everywhere past the last level
abbrev pub variable_table : ℕ → ℕ → Table
variable_table zero level = entry (pos 0)
variable_table (suc n) zero = halves (constant_table n (pos 0)) (constant_table n (pos 1))
variable_table (suc n) (suc level) = halves (variable_table n level) (variable_table n level)

abbrev ramp : Table
ramp = halves (halves (entry (pos 3)) (entry (pos 1))) (halves (entry (pos 4)) (entry (pos 6)))

ramp-entries : entries ramp ≡ pos 3 ∷ pos 1 ∷ pos 4 ∷ pos 6 ∷ []
ramp-entries = refl

-- the number whose binary digits follow those of another
abbrev digits_after : ℕ → List Bool → ℕ
digits_after n [] = n
digits_after n (false ∷ bits) = digits_after (n + n) bits
digits_after n (true ∷ bits) = digits_after (n + n + 1) bits

-- the bits of an entry are the digits of its place: those of the third entry are 1 and 0
ramp-tabulated : tabulate 2 (λ bits. pos (digits_after 0 bits)) ≡ halves (halves (entry (pos 0)) (entry (pos 1))) (halves (entry (pos 2)) (entry (pos 3)))
ramp-tabulated = refl

second_variable : entries (variable_table 2 1) ≡ pos 0 ∷ pos 1 ∷ pos 0 ∷ pos 1 ∷ []
second_variable = refl

first_variable : entries (variable_table 2 0) ≡ pos 0 ∷ pos 0 ∷ pos 1 ∷ pos 1 ∷ []
first_variable = refl

ramp-moment : entries (part1 P ramp) ≡ pos 1 ∷ pos 5 ∷ []
ramp-moment = refl

ramp-negative_davio : entries (part0 N ramp) ++ entries (part1 N ramp) ≡ pos 4 ∷ pos 6 ∷ negsuc 0 ∷ negsuc 4 ∷ []
ramp-negative_davio = refl

ramp-merged : merged N (part0 N ramp) (part1 N ramp) ≡ ramp
ramp-merged = refl
