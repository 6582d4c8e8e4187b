-- What a cache of results means.
use Rattle.std.specs.Prelude.{◌≡◌, ℕ, List, [], ◌∷◌, length, set, slice_get, Option, Some, None, refl}
use Rattle.record_store.specs.Path.{mixed}
use Rattle.result_cache.specs.Place.{place_of, sum_key}
use Rattle.result_cache.specs.declared.key.CacheKey.{CacheKey}
use Rattle.result_cache.specs.declared.cache.Entry.{Entry}

-- its places: each is empty, or has a key and the value that was kept last for it
abbrev pub Places : Type 0
Places = List (Option Entry)

-- the value stands for the key at the key's place
abbrev pub Holds : Places → CacheKey → List ℕ → Type 0
Holds cache key value = slice_get cache (place_of key (length cache)) ≡ Some (Some (record { key = key; value = value }))

-- the answer is the value that stands for the key, and none only where there is no such value
abbrev pub Looks : Places → CacheKey → Option (List ℕ) → Type 0
Looks cache key (Some value) = Holds cache key value
Looks cache key None = (value : List ℕ) → Holds cache key value → ⊥

-- the key's place, and no other, is written
abbrev pub kept : Places → CacheKey → List ℕ → Places
kept cache key value = set cache (place_of key (length cache)) (Some (record { key = key; value = value }))

-- at place 1 of 2
sum_kept : kept (None ∷ None ∷ []) sum_key (4 ∷ 0 ∷ 0 ∷ 0 ∷ 9 ∷ []) ≡ None ∷ Some (record { key = sum_key; value = 4 ∷ 0 ∷ 0 ∷ 0 ∷ 9 ∷ [] }) ∷ []
unfolding mixed
sum_kept = refl

sum_held : Holds (kept (None ∷ None ∷ []) sum_key (4 ∷ [])) sum_key (4 ∷ [])
unfolding mixed
sum_held = refl
