-- At which place a key stands.
use Rattle.std.specs.Prelude.{◌≡◌, ℕ, ◌^◌, List, [], ◌∷◌, ◌++◌, map, refl}
use Rattle.record_store.specs.Path.{mixed, start_of}
use Rattle.result_cache.specs.declared.key.CacheKey.{CacheKey}

-- the operation, and the words of its operands
abbrev pub key_words : CacheKey → List ℕ
key_words key = key.op ∷ (key.first ++ key.second)

-- the place of a key among so many: the remainder of the hash of its words
abbrev pub place_of : CacheKey → ℕ → ℕ
place_of key places = start_of (key_words key) places

abbrev pub sum_key : CacheKey
sum_key = record { op = 1; first = 2 ∷ 0 ∷ 0 ∷ 0 ∷ 7 ∷ []; second = 1 ∷ 0 ∷ 0 ∷ 0 ∷ 9 ∷ [] }

places_of_sum : map (place_of sum_key) (1 ∷ 2 ∷ 2 ^ 16 ∷ 2 ^ 20 ∷ []) ≡ 0 ∷ 1 ∷ 32151 ∷ 490903 ∷ []
unfolding mixed
places_of_sum = refl
