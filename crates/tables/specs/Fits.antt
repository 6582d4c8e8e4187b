-- Which tables have a canonical diagram within the range of weights, and the content of a table.
use Rattle.std.specs.Prelude.{◌≡◌, ℕ, ℤ, pos, negsuc, ◌-ℤ◌, List, [], ◌∷◌, Bool, true, false, ◌&&◌, unsigned_abs, refl}
use Rattle.integers.specs.Gcd.{gcd}
use Rattle.word_base.specs.Range.{in_range}
use Rattle.word_base.specs.declared.decomp.Decomp.{Decomp}
use Rattle.word_base.specs.declared.decomp.Decomp.TheVariants.{S, P, N}
use Rattle.word_base.specs.declared.kind_name.KindName.{KindName}
use Rattle.word_base.specs.declared.kind_name.KindName.TheVariants.{Evbdd, StarBmd, Hdd, KStarBmd}
use Rattle.tables.specs.Table.{Table, entry, halves, part0, part1}
use Rattle.tables.specs.Tree.{Weights, Tree}
use Rattle.tables.specs.Canonical.{canonical}

abbrev pub weights_in_range : Weights → Bool
weights_in_range w = in_range w.weight && in_range w.extra

-- at Shannon in an EVBDD and a K*BMD, whether the difference of the additive root weights of the two halves is in range
abbrev pub difference_in_range : KindName → Decomp → Tree → Tree → Bool
difference_in_range Evbdd d low high = in_range (high.root.weight -ℤ low.root.weight)
difference_in_range StarBmd d low high = true
difference_in_range Hdd d low high = true
difference_in_range KStarBmd S low high = in_range (high.root.extra -ℤ low.root.extra)
difference_in_range KStarBmd P low high = true
difference_in_range KStarBmd N low high = true

-- For the table and each part of parts of it, the root weights of the canonical diagram are in range, and so is that difference
abbrev pub fits : KindName → List Decomp → Table → Bool
fits k ds (entry x) = weights_in_range (canonical k ds 0 (entry x)).root
fits k [] (halves lo hi) = true
fits k (d ∷ ds) (halves lo hi) =
    let p = part0 d (halves lo hi) in
    let q = part1 d (halves lo hi) in
    weights_in_range (canonical k (d ∷ ds) 0 (halves lo hi)).root
    && (difference_in_range k d (canonical k ds 1 p) (canonical k ds 1 q) && (fits k ds p && fits k ds q))

-- the greatest common divisor of the magnitudes of the entries, 0 where all are 0
abbrev pub content : Table → ℕ
content (entry x) = unsigned_abs x
content (halves lo hi) = gcd (content lo) (content hi)

abbrev two : ℤ → ℤ → Table
two x y = halves (entry x) (entry y)

-- 2^127 is no weight of a hybrid diagram: here it is the difference of 2^127-1 and -1
hdd-limit : fits Hdd (P ∷ []) (two (negsuc 0) (pos 170141183460469231731687303715884105727)) ≡ false
hdd-limit = refl

-- nor of a *BMD, though a divisor may be taken out
star_bmd-limit : fits StarBmd (P ∷ []) (two (negsuc 0) (pos 170141183460469231731687303715884105727)) ≡ false
star_bmd-limit = refl

-- the difference of two halves that are in range
evbdd-limit : fits Evbdd (S ∷ []) (two (negsuc 0) (pos 170141183460469231731687303715884105727)) ≡ false
evbdd-limit = refl

k_star_bmd-limit : fits KStarBmd (S ∷ []) (two (negsuc 0) (pos 170141183460469231731687303715884105727)) ≡ false
k_star_bmd-limit = refl

-- 2^127 is the difference of 2^127-1 and -1 here too, but no root weight
k_star_bmd-difference : fits KStarBmd (S ∷ P ∷ []) (halves (two (negsuc 0) (pos 0)) (two (pos 170141183460469231731687303715884105727) (pos 170141183460469231731687303715884105726))) ≡ false
k_star_bmd-difference = refl

below-limit : fits KStarBmd (S ∷ []) (two (pos 0) (pos 170141183460469231731687303715884105727)) ≡ true
below-limit = refl

content-of_six_and_four : content (halves (two (pos 6) (negsuc 3)) (two (pos 0) (pos 10))) ≡ 2
content-of_six_and_four = refl
