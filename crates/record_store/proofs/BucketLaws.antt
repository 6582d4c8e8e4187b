-- Where a path leads, and what it passes.
use Rattle.std.proofs.Common.{◌≡◌, ℕ, zero, suc, ◌+◌, ◌-◌, ◌%◌, ◌<◌, ◌≤◌, List, [], ◌∷◌, length, get_or, min, slice_get, Some, true, false, refl, sym, ap, subst, ◌∙◌, ⊎_elim, arith, bit_and}
use Rattle.std.proofs.Math.Nat.{mod-lt, mod-eq_of_lt, add-mod_right}
use Rattle.std.proofs.lemmas.Bool.{cases_lt, false≢true}
use Rattle.std.proofs.lemmas.List.Sums.{sum_by-cons}
use Rattle.std.proofs.lemmas.Nat.{and_mask}
use Rattle.std.proofs.lemmas.Option.{slice_get-get_or, get_or_from_slice_get}
use Rattle.std.proofs.lemmas.Slice.Eq.{bytes_eq-Decides}
use Rattle.std.specs.Int.{IsPowerOfTwo}
use Rattle.std.specs.Str.{bytes_eq}
use Rattle.record_store.specs.Buckets.{IsIndex, taken_count}
use Rattle.record_store.specs.Path.{hash_of, path_bucket, start_of}
use Rattle.record_store.specs.Probe.{IsNew}

-- a mask takes the remainder by a power of two
pub mask_is_mod : (n b : ℕ) → IsPowerOfTwo b → bit_and n (b - 1) ≡ n % b
mask_is_mod n b p = subst (λ m. bit_and n (m - 1) ≡ n % m) (sym p.1) (and_mask n p.0)

-- the bucket that the masks give
pub masked_bucket : (h b distance : ℕ) (body : List ℕ) → h ≡ hash_of body → IsPowerOfTwo b → bit_and (bit_and h (b - 1) + distance) (b - 1) ≡ path_bucket body b distance
masked_bucket h b distance body e p =
    mask_is_mod (bit_and h (b - 1) + distance) b p
    ∙ ap (λ s. (s + distance) % b) (mask_is_mod h b p ∙ ap (λ n. n % b) e)

-- from each start there is a distance to each bucket
pub distance_to : (start b bucket : ℕ) → start < b → bucket < b → (d : ℕ) × (d < b) × ((start + d) % b ≡ bucket)
distance_to start b bucket within h =
    ⊎_elim
    (λ (below : bucket < start).
    let e : start + (bucket + b - start) ≡ bucket + b = omega arith in
    (bucket + b - start, omega arith, ap (λ n. n % b) e ∙ add-mod_right bucket b ∙ mod-eq_of_lt h))
    (λ (above : start ≤ bucket).
    let e : start + (bucket - start) ≡ bucket = omega arith in
    (bucket - start, omega arith, ap (λ n. n % b) e ∙ mod-eq_of_lt h))
    (cases_lt bucket start)

-- where not all buckets are taken, one is empty
pub empty_bucket : (buckets : List ℕ) → taken_count buckets < length buckets → (b : ℕ) × (b < length buckets) × (get_or buckets b 0 ≡ 0)
empty_bucket [] h = absurd (omega arith)
empty_bucket (zero ∷ buckets) h = (0, omega arith, refl)
empty_bucket (suc id ∷ buckets) h =
    let rest = empty_bucket buckets (omega (arith, sum_by-cons (min 1) (suc id) buckets)) in
    (suc rest.0, omega (arith, rest.1), rest.2)

-- the path has passed taken buckets alone, whose bodies are others
abbrev pub HasPassed : List ℕ → List (List ℕ) → List ℕ → ℕ → Type 0
HasPassed buckets bodies body distance =
    (d : ℕ) → d < distance →
    (0 < get_or buckets (path_bucket body (length buckets) d) 0)
    × (slice_get bodies (get_or buckets (path_bucket body (length buckets) d) 0 - 1) ≡ Some body → ⊥)

-- it has not passed all buckets
pub passed_below : (buckets : List ℕ) (bodies : List (List ℕ)) (body : List ℕ) (distance : ℕ) → IsIndex buckets bodies → HasPassed buckets bodies body distance → distance < length buckets
passed_below buckets bodies body distance index passed =
    let some : taken_count buckets < length buckets = omega (arith, index.taken, index.more) in
    let empty = empty_bucket buckets some in
    let start : start_of body (length buckets) < length buckets = mod-lt _ (omega (arith, index.more)) in
    let there = distance_to (start_of body (length buckets)) (length buckets) empty.0 start empty.1 in
    ⊎_elim
    (λ (below : distance < length buckets). below)
    (λ (above : length buckets ≤ distance).
    let taken : 0 < get_or buckets (path_bucket body (length buckets) there.0) 0 = (passed there.0 (omega (arith, there.1))).0 in
    let is : get_or buckets (path_bucket body (length buckets) there.0) 0 ≡ 0 = ap (λ b. get_or buckets b 0) there.2 ∙ empty.2 in
    absurd (omega (arith, taken, is)))
    (cases_lt distance (length buckets))

-- at an empty bucket the body is new
pub new_at_empty : (buckets : List ℕ) (bodies : List (List ℕ)) (body : List ℕ) (distance : ℕ) → IsIndex buckets bodies → HasPassed buckets bodies body distance → get_or buckets (path_bucket body (length buckets) distance) 0 ≡ 0 → IsNew bodies body
new_at_empty buckets bodies body distance index passed empty k is =
    let place = index.placed k body is in
    let reached = place.2 in
    let id : get_or buckets (path_bucket body (length buckets) reached.distance) 0 ≡ k + 1 = ap (λ b. get_or buckets b 0) reached.here ∙ place.1 in
    ⊎_elim
    (λ (before : reached.distance < distance).
    (passed reached.distance before).1 (ap (λ n. slice_get bodies (n - 1)) id ∙ ap (slice_get bodies) (omega arith) ∙ is))
    (λ (after : distance ≤ reached.distance).
    ⊎_elim
    (λ (later : distance < reached.distance).
    let taken : 0 < get_or buckets (path_bucket body (length buckets) distance) 0 = reached.taken distance later in
    absurd (omega (arith, taken, empty)))
    (λ (here : reached.distance ≤ distance).
    let same : reached.distance ≡ distance = omega arith in
    let zero_id : get_or buckets (path_bucket body (length buckets) reached.distance) 0 ≡ 0 = ap (λ d. get_or buckets (path_bucket body (length buckets) d) 0) same ∙ empty in
    absurd (omega (arith, id, zero_id)))
    (cases_lt distance reached.distance))
    (cases_lt reached.distance distance)

-- what a comparison with the body at a place tells
pub found_body : (bodies : List (List ℕ)) (place : ℕ) (body : List ℕ) → place < length bodies → true ≡ bytes_eq (get_or bodies place []) body → slice_get bodies place ≡ Some body
found_body bodies place body within e =
    slice_get-get_or bodies place [] within ∙ ap Some ((bytes_eq-Decides (get_or bodies place []) body).0 (sym e))

pub other_body : (bodies : List (List ℕ)) (place : ℕ) (body : List ℕ) → false ≡ bytes_eq (get_or bodies place []) body → slice_get bodies place ≡ Some body → ⊥
other_body bodies place body e is =
    false≢true (e ∙ (bytes_eq-Decides (get_or bodies place []) body).1 (get_or_from_slice_get bodies place body [] is))
