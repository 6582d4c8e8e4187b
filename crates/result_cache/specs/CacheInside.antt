-- How the fields of a `ResultCache` are seen as its places, and what holds of them.
use Rattle.std.specs.Prelude.{◌≡◌, ℕ, zero, suc, ◌≤◌, ◌<◌, ◌^◌, List, [], ◌∷◌, length, map, min, slice_get, slice_index, sum_by, Option, None, refl}
use Rattle.std.specs.Int.{IsPowerOfTwo}
use Rattle.result_cache.specs.Cache.{Places}
use Rattle.result_cache.specs.declared.cache.Entry.{Entry}

-- 0 is an empty place, and a further number counts the entries from 1
abbrev pub place_at : List Entry → ℕ → Option Entry
place_at entries zero = None
place_at entries (suc k) = slice_get entries k

abbrev pub places : List ℕ → List Entry → Places
places index entries = map (place_at entries) index

-- each taken place has an entry of its own
pub record IsSound (index : List ℕ) (entries : List Entry) (capacity : ℕ) : Type 0 where
  pub power : IsPowerOfTwo (length index)
  pub few : length index ≤ 2 ^ 20
  pub taken : sum_by (min 1) index ≡ length entries
  pub ids : (p : ℕ) → slice_index index p ≤ length entries
  pub apart : (p q : ℕ) → 0 < slice_index index p → slice_index index p ≡ slice_index index q → p ≡ q
  pub capacious : length index ≤ capacity

taken-counts : sum_by (min 1) (0 ∷ 2 ∷ 0 ∷ 1 ∷ []) ≡ 2
taken-counts = refl
