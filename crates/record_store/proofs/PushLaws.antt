-- What a list, and an index of it, keep where a body is pushed.
use Rattle.std.proofs.Common.{◌≡◌, ◌≢◌, ◌⊎◌, ℕ, zero, suc, ◌+◌, ◌*◌, ◌<◌, ◌≤◌, List, [], ◌∷◌, ◌++◌, length, get_or, set, min, slice_get, Some, refl, sym, ap, subst, ◌∙◌, inl, inr, ⊎_elim, arith, get_or-set_same, get_or-set_other, length-set}
use Rattle.std.proofs.lemmas.Bool.{cases_eq}
use Rattle.std.proofs.lemmas.List.{length_push}
use Rattle.std.proofs.lemmas.List.Sums.{sum_by-set}
use Rattle.std.proofs.lemmas.Option.{none-some, same_Some}
use Rattle.std.specs.Int.{IsPowerOfTwo, IsNextPowerOfTwo}
use Rattle.record_store.specs.Buckets.{IsIndex, IsReached, taken_count}
use Rattle.record_store.specs.Path.{path_bucket}
use Rattle.record_store.specs.Probe.{IsNew}
use Rattle.record_store.specs.SoloInside.{IsSound}

module _ {A : Type 0} where
  pub slice_get_kept : (xs : List A) (y : A) (k : ℕ) (x : A) → slice_get xs k ≡ Some x → slice_get (xs ++ y ∷ []) k ≡ Some x
  slice_get_kept [] y k x e = absurd (none-some x e)
  slice_get_kept (z ∷ xs) y zero x e = e
  slice_get_kept (z ∷ xs) y (suc k) x e = slice_get_kept xs y k x e

  pub slice_get_last : (xs : List A) (y : A) → slice_get (xs ++ y ∷ []) (length xs) ≡ Some y
  slice_get_last [] y = refl
  slice_get_last (z ∷ xs) y = slice_get_last xs y

  pub slice_get_push : (xs : List A) (y : A) (k : ℕ) (x : A) → slice_get (xs ++ y ∷ []) k ≡ Some x → (slice_get xs k ≡ Some x) ⊎ ((k ≡ length xs) × (y ≡ x))
  slice_get_push [] y zero x e = inr (refl, same_Some y x e)
  slice_get_push [] y (suc k) x e = absurd (none-some x e)
  slice_get_push (z ∷ xs) y zero x e = inl e
  slice_get_push (z ∷ xs) y (suc k) x e =
      ⊎_elim
      (λ (old : slice_get xs k ≡ Some x). inl old)
      (λ (last : (k ≡ length xs) × (y ≡ x)). inr (ap suc last.0, last.1))
      (slice_get_push xs y k x e)

module _ (buckets : List ℕ) (bucket id : ℕ) (within : bucket < length buckets) (empty : get_or buckets bucket 0 ≡ 0) where
  -- a taken bucket keeps its id
  keeps_id : (b n : ℕ) → get_or buckets b 0 ≡ suc n → get_or (set buckets bucket id) b 0 ≡ suc n
  keeps_id b n is =
      let apart : b ≢ bucket = λ same. absurd (omega (arith, sym is ∙ ap (λ p. get_or buckets p 0) same ∙ empty)) in
      get_or-set_other buckets bucket b id 0 apart ∙ is

  keeps_taken : 0 < id → (b : ℕ) → 0 < get_or buckets b 0 → 0 < get_or (set buckets bucket id) b 0
  keeps_taken some b taken =
      ⊎_elim
      (λ (same : b ≡ bucket). subst (λ p. 0 < get_or (set buckets bucket id) p 0) (sym same) (subst (λ n. 0 < n) (sym (get_or-set_same buckets bucket id 0 within)) some))
      (λ (apart : b ≡ bucket → ⊥). subst (λ n. 0 < n) (sym (get_or-set_other buckets bucket b id 0 apart)) taken)
      (cases_eq b bucket)

  keeps_reached : 0 < id → (body : List ℕ) (b : ℕ) → IsReached buckets body b → IsReached (set buckets bucket id) body b
  keeps_reached some body b r =
      let same : length (set buckets bucket id) ≡ length buckets = length-set buckets bucket id in
      record {
        distance = r.distance;
        here = ap (λ n. path_bucket body n r.distance) same ∙ r.here;
        taken = λ d before. keeps_taken some (path_bucket body (length (set buckets bucket id)) d) (subst (λ n. 0 < get_or buckets (path_bucket body n d) 0) (sym same) (r.taken d before));
      }

  -- one bucket more is taken
  one_more_taken : 0 < id → taken_count (set buckets bucket id) ≡ taken_count buckets + 1
  one_more_taken some =
      let sums = sum_by-set (min 1) buckets bucket id 0 within in
      let none : min 1 (get_or buckets bucket 0) ≡ 0 = ap (min 1) empty in
      omega (arith, sums, none)

-- a new body's id goes into the empty bucket at the end of its path
pub index_push : (buckets : List ℕ) (bodies : List (List ℕ)) (body : List ℕ) (bucket : ℕ) → IsIndex buckets bodies → bucket < length buckets → get_or buckets bucket 0 ≡ 0 → IsReached buckets body bucket → IsNew bodies body → length bodies + 1 < length buckets → IsIndex (set buckets bucket (length bodies + 1)) (bodies ++ body ∷ [])
index_push buckets bodies body bucket index within empty reached new room =
    let id : ℕ = length bodies + 1 in
    let some : 0 < length bodies + 1 = omega arith in
    let same : length (set buckets bucket id) ≡ length buckets = length-set buckets bucket id in
    let pushed : length (bodies ++ body ∷ []) ≡ length bodies + 1 = length_push bodies body in
    record {
      power = subst IsPowerOfTwo (sym same) index.power;
      few = omega (arith, same, index.few);
      more = omega (arith, same, pushed);
      taken = one_more_taken buckets bucket id within empty some ∙ ap (λ n. n + 1) index.taken ∙ sym pushed;
      ids = λ b.
          ⊎_elim
          (λ (at : b ≡ bucket). omega (arith, ap (λ p. get_or (set buckets bucket id) p 0) at, get_or-set_same buckets bucket id 0 within, pushed))
          (λ (apart : b ≡ bucket → ⊥). omega (arith, get_or-set_other buckets bucket b id 0 apart, index.ids b, pushed))
          (cases_eq b bucket);
      placed = λ k other is.
          ⊎_elim
          (λ (old : slice_get bodies k ≡ Some other).
          let place = index.placed k other old in
          (place.0, keeps_id buckets bucket id within empty place.0 k (place.1 ∙ omega arith) ∙ omega arith, keeps_reached buckets bucket id within empty some other place.0 place.2))
          (λ (last : (k ≡ length bodies) × (body ≡ other)).
          (bucket, get_or-set_same buckets bucket id 0 within ∙ ap (λ n. n + 1) (sym last.0), subst (λ o. IsReached (set buckets bucket id) o bucket) last.1 (keeps_reached buckets bucket id within empty some body bucket reached)))
          (slice_get_push bodies body k other is);
      distinct = λ i j other at_i at_j.
          ⊎_elim
          (λ (old_i : slice_get bodies i ≡ Some other).
          ⊎_elim
          (λ (old_j : slice_get bodies j ≡ Some other). index.distinct i j other old_i old_j)
          (λ (last : (j ≡ length bodies) × (body ≡ other)). absurd (new i (old_i ∙ ap Some (sym last.1))))
          (slice_get_push bodies body j other at_j))
          (λ (last : (i ≡ length bodies) × (body ≡ other)).
          ⊎_elim
          (λ (old_j : slice_get bodies j ≡ Some other). absurd (new j (old_j ∙ ap Some (sym last.1))))
          (λ (last_j : (j ≡ length bodies) × (body ≡ other)). last.0 ∙ sym last_j.0)
          (slice_get_push bodies body j other at_j))
          (slice_get_push bodies body i other at_i);
    }

-- the fields stay sound
pub sound_push : (buckets : List ℕ) (bodies new : List (List ℕ)) (body : List ℕ) (bucket id cells old_capacity capacity : ℕ) → IsSound buckets bodies cells old_capacity → bucket < length buckets → get_or buckets bucket 0 ≡ 0 → IsReached buckets body bucket → IsNew bodies body → length bodies < cells → id ≡ length bodies + 1 → new ≡ bodies ++ body ∷ [] → old_capacity ≤ capacity → IsSound (set buckets bucket id) new cells capacity
sound_push buckets bodies new body bucket id cells old_capacity capacity held within empty reached fresh below next pushed grows =
    let index = index_push buckets bodies body bucket held.index within empty reached fresh (omega (arith, held.bucket_count.1, held.some_cells)) in
    let all : IsSound (set buckets bucket (length bodies + 1)) (bodies ++ body ∷ []) cells capacity = record {
      index = index;
      within = omega (arith, length_push bodies body);
      some_cells = held.some_cells;
      cells_within = held.cells_within;
      bucket_count = subst (IsNextPowerOfTwo (2 * cells)) (sym (length-set buckets bucket (length bodies + 1))) held.bucket_count;
      capacious = omega (arith, held.capacious);
    } in
    subst (λ n. IsSound (set buckets bucket n) new cells capacity) (sym next)
    (subst (λ bs. IsSound (set buckets bucket (length bodies + 1)) bs cells capacity) (sym pushed) all)
