-- How the buckets of a `SoloStore` lead to its bodies.
use Rattle.std.specs.Prelude.{◌≡◌, ℕ, ◌+◌, ◌<◌, ◌≤◌, ◌^◌, List, [], ◌∷◌, length, min, refl, slice_get, slice_index, sum_by, Some}
use Rattle.std.specs.Int.{IsPowerOfTwo}
use Rattle.record_store.specs.Path.{path_bucket}

-- the bucket is on the path of the body, behind taken buckets alone
pub record IsReached (buckets : List ℕ) (body : List ℕ) (bucket : ℕ) : Type 0 where
  pub distance : ℕ
  pub here : path_bucket body (length buckets) distance ≡ bucket
  pub taken : (d : ℕ) → d < distance → 0 < slice_index buckets (path_bucket body (length buckets) d)

-- how many buckets are taken
abbrev pub taken_count : List ℕ → ℕ
taken_count buckets = sum_by (min 1) buckets

two_are_taken : taken_count (0 ∷ 2 ∷ 0 ∷ 1 ∷ []) ≡ 2
two_are_taken = refl

-- A bucket holds 0 or the id of a body, where id k + 1 is that of the body at k. Each body is reached at its id's
-- bucket, none stands twice, and a bucket is empty
pub record IsIndex (buckets : List ℕ) (bodies : List (List ℕ)) : Type 0 where
  pub power : IsPowerOfTwo (length buckets)
  pub few : length buckets < 2 ^ 32
  pub more : length bodies < length buckets
  pub taken : taken_count buckets ≡ length bodies
  pub ids : (b : ℕ) → slice_index buckets b ≤ length bodies
  pub placed : (k : ℕ) (body : List ℕ) → slice_get bodies k ≡ Some body → (b : ℕ) × (slice_index buckets b ≡ k + 1) × IsReached buckets body b
  pub distinct : (i j : ℕ) (body : List ℕ) → slice_get bodies i ≡ Some body → slice_get bodies j ≡ Some body → i ≡ j
