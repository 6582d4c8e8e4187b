-- What a cache holds at first, and after a value was kept.
use Rattle.std.proofs.Common.{◌≡◌, ℕ, zero, suc, List, [], ◌∷◌, length, set, replicate, slice_get, Some, None, refl, sym, ap, ◌∙◌, inl, inr, length-set}
use Rattle.std.specs.Prelude.{Option, ◌⊎◌}
use Rattle.std.proofs.lemmas.Bool.{cases_eq}
use Rattle.std.proofs.lemmas.Option.{none-some, same_Some}
use Rattle.result_cache.specs.Cache.{Places, Holds, kept}
use Rattle.result_cache.specs.Place.{place_of}
use Rattle.result_cache.specs.declared.key.CacheKey.{CacheKey}
use Rattle.result_cache.specs.declared.cache.Entry.{Entry}

pub nothing_held : (n : ℕ) (key : CacheKey) (value : List ℕ) → Holds (replicate n None) key value → ⊥
nothing_held n key value h = none_at n (place_of key (length (replicate n None))) h
  where
    none_at : (m p : ℕ) → slice_get (replicate {A = Option Entry} m None) p ≡ Some (Some (record { key = key; value = value })) → ⊥
    none_at zero p g = none-some _ g
    none_at (suc m) zero g = none-some _ (same_Some _ _ g)
    none_at (suc m) (suc p) g = none_at m p g

-- after a value was kept, what the cache holds is that value, or what it held before
pub held_after : (cache : Places) (key other : CacheKey) (value found : List ℕ) → Holds (kept cache key value) other found →
    ((other ≡ key) × (found ≡ value)) ⊎ Holds cache other found
held_after cache key other value found h =
    let p : ℕ = place_of key (length cache) in
    let e : Entry = record { key = key; value = value } in
    let q : ℕ = place_of other (length (kept cache key value)) in
    let same : q ≡ place_of other (length cache) = ap (place_of other) (length-set cache p (Some e)) in
    elim (cases_eq q p) [
      | inl is ↦
          let found_here : slice_get (set cache p (Some e)) p ≡ Some (Some (record { key = other; value = found })) = ap (slice_get (set cache p (Some e))) (sym is) ∙ h in
          let entries = same_Some _ _ (same_Some _ _ (sym (put_here cache p e found_here) ∙ found_here)) in
          inl (sym (ap (λ (x : Entry). x.key) entries), sym (ap (λ (x : Entry). x.value) entries))
      | inr apart ↦ inr (ap (slice_get cache) (sym same) ∙ sym (set_there cache p q e apart) ∙ h)
    ]
  where
    set_there : (xs : Places) (k j : ℕ) (e : Entry) → (j ≡ k → ⊥) → slice_get (set xs k (Some e)) j ≡ slice_get xs j
    set_there [] k j e other = refl
    set_there (x ∷ xs) zero zero e other = absurd (other refl)
    set_there (x ∷ xs) zero (suc j) e other = refl
    set_there (x ∷ xs) (suc k) zero e other = refl
    set_there (x ∷ xs) (suc k) (suc j) e other = set_there xs k j e (λ same. other (ap suc same))

    put_here : {x : Option Entry} (xs : Places) (k : ℕ) (e : Entry) → slice_get (set xs k (Some e)) k ≡ Some x → slice_get (set xs k (Some e)) k ≡ Some (Some e)
    put_here [] k e found = absurd (none-some _ found)
    put_here (y ∷ xs) zero e found = refl
    put_here (y ∷ xs) (suc k) e found = put_here xs k e found
