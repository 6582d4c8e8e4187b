-- A cache as its places: at first, where a key is looked for, and after a value was kept.
use Rattle.std.proofs.Common.{◌≡◌, ◌≢◌, ℕ, zero, suc, ◌+◌, ◌-◌, ◌*◌, ◌<◌, ◌≤◌, ◌^◌, List, [], ◌∷◌, ◌++◌, length, get_or, set, map, min, replicate, slice_get, Some, None, refl, sym, ap, subst, ◌∙◌, inl, inr, arith, get_or-set_same, get_or-set_other, length-set}
use Rattle.std.specs.Prelude.{Option, ◌⊎◌}
use Rattle.std.proofs.Math.Nat.{mod-lt}
use Rattle.std.proofs.lemmas.Bool.{cases_eq}
use Rattle.std.proofs.lemmas.List.{length_push, length-replicate, map-set}
use Rattle.std.proofs.lemmas.List.Folds.{sum_by-replicate}
use Rattle.std.proofs.lemmas.List.Sums.{sum_by-set, sum_by-cons}
use Rattle.std.proofs.lemmas.Nat.{pow_pos}
use Rattle.std.proofs.lemmas.Option.{none-some, same_Some, slice_get-get_or, get_or_from_slice_get}
use Rattle.std.specs.Int.{IsPowerOfTwo}
use Rattle.std.specs.List.{sum_by}
use Rattle.record_store.proofs.PushLaws.{slice_get_kept, slice_get_last}
use Rattle.record_store.specs.Path.{hash_of}
use Rattle.result_cache.specs.Cache.{Places, Holds, kept}
use Rattle.result_cache.specs.CacheInside.{place_at, places, IsSound}
use Rattle.result_cache.specs.Place.{key_words, place_of}
use Rattle.result_cache.specs.declared.key.CacheKey.{CacheKey}
use Rattle.result_cache.specs.declared.cache.Entry.{Entry}

-- ---- at first
abbrev pub zeros : ℕ → List ℕ
zeros n = replicate n 0

pub empty_places : (n : ℕ) (entries : List Entry) → places (zeros n) entries ≡ replicate n None
empty_places zero entries = refl
empty_places (suc n) entries = ap (λ (ps : Places). None ∷ ps) (empty_places n entries)

zero_at : (n p : ℕ) → get_or (zeros n) p 0 ≡ 0
zero_at zero p = refl
zero_at (suc n) zero = refl
zero_at (suc n) (suc p) = zero_at n p

pub empty_sound : (n capacity : ℕ) → IsPowerOfTwo n → n ≤ 2 ^ 20 → n ≤ capacity → IsSound (zeros n) [] capacity
empty_sound n capacity power few capacious =
    let count : length (zeros n) ≡ n = length-replicate {A = ℕ} n 0 in
    record {
      power = subst IsPowerOfTwo (sym count) power;
      few = omega arith;
      taken = let none : sum_by (min 1) (zeros n) ≡ n * 0 = sum_by-replicate (min 1) n 0 in omega arith;
      ids = λ p. let z : get_or (zeros n) p 0 ≡ 0 = zero_at n p in omega arith;
      apart = λ p q some same. let z : get_or (zeros n) p 0 ≡ 0 = zero_at n p in absurd (omega arith);
      capacious = omega arith;
    }

-- ---- the place of a key
pub place_within : (key : CacheKey) (n : ℕ) → 0 < n → place_of key n < n
place_within key n some = mod-lt (hash_of (key_words key)) some

pub some_places : (index : List ℕ) → IsPowerOfTwo (length index) → 0 < length index
some_places index power = subst (λ n. 0 < n) (sym power.1) (pow_pos power.0)

-- the number at the key's place
pub number_read : (index : List ℕ) (key : CacheKey) (place len number : ℕ) → IsPowerOfTwo (length index) → len ≡ length index → place ≡ place_of key len →
    number ≡ get_or index place number → get_or index (place_of key (length index)) 0 ≡ number
number_read index key place len number power whole is read =
    let p : ℕ = place_of key (length index) in
    let at : place ≡ p = is ∙ ap (place_of key) whole in
    let within : p < length index = place_within key (length index) (some_places index power) in
    get_or_from_slice_get index p number 0 (slice_get-get_or index p number within ∙ ap Some (sym (read ∙ ap (λ q. get_or index q number) at)))

length-places : (index : List ℕ) (entries : List Entry) → length (places index entries) ≡ length index
length-places [] entries = refl
length-places (i ∷ index) entries = ap suc (length-places index entries)

at_place : (index : List ℕ) (entries : List Entry) (p : ℕ) → p < length index → slice_get (places index entries) p ≡ Some (place_at entries (get_or index p 0))
at_place [] entries p within = absurd (omega arith)
at_place (i ∷ index) entries zero within = refl
at_place (i ∷ index) entries (suc p) within = at_place index entries p (omega arith)

-- what stands at the key's place
pub at_key : (index : List ℕ) (entries : List Entry) (key : CacheKey) → 0 < length index →
    slice_get (places index entries) (place_of key (length (places index entries))) ≡ Some (place_at entries (get_or index (place_of key (length index)) 0))
at_key index entries key some =
    ap (λ n. slice_get (places index entries) (place_of key n)) (length-places index entries) ∙ at_place index entries (place_of key (length index)) (place_within key (length index) some)

-- what stands at a taken place
taken_at : (entries : List Entry) (n : ℕ) → 0 < n → place_at entries n ≡ slice_get entries (n - 1)
taken_at entries zero some = absurd (omega arith)
taken_at entries (suc k) some = let e : k ≡ suc k - 1 = omega arith in ap (slice_get entries) e

-- ---- what a look tells
pub nothing_read : (index : List ℕ) (entries : List Entry) (key : CacheKey) (value : List ℕ) → 0 < length index → get_or index (place_of key (length index)) 0 ≡ 0 →
    Holds (places index entries) key value → ⊥
nothing_read index entries key value some empty h =
    let at = at_key index entries key some in
    none-some _ (sym (ap (place_at entries) empty) ∙ same_Some _ _ (sym at ∙ h))

-- the entry of the key's place
pub entry_read : (index : List ℕ) (entries : List Entry) (key : CacheKey) (entry : Entry) (n : ℕ) → 0 < length index → get_or index (place_of key (length index)) 0 ≡ n → 0 < n →
    n ≤ length entries → entry ≡ get_or entries (n - 1) entry → slice_get (places index entries) (place_of key (length (places index entries))) ≡ Some (Some entry)
entry_read index entries key entry n some is taken within read =
    let below : n - 1 < length entries = omega arith in
    at_key index entries key some ∙ ap Some (ap (place_at entries) is ∙ taken_at entries n taken ∙ slice_get-get_or entries (n - 1) entry below ∙ ap Some (sym read))

pub same_key : (key other : CacheKey) → key.op ≡ other.op → key.first ≡ other.first → key.second ≡ other.second → key ≡ other
same_key key other p q r =
    let make : ℕ → List ℕ → List ℕ → CacheKey = λ a b c. record { op = a; first = b; second = c } in
    ap (λ (x : ℕ). make x key.first key.second) p ∙ ap (λ (x : List ℕ). make other.op x key.second) q ∙ ap (make other.op other.first) r

pub value_read : (cache : Places) (key : CacheKey) (entry : Entry) → slice_get cache (place_of key (length cache)) ≡ Some (Some entry) → entry.key ≡ key → Holds cache key entry.value
value_read cache key entry at same =
    let make : CacheKey → Entry = λ k. record { key = k; value = entry.value } in
    at ∙ ap (λ (k : CacheKey). Some (Some (make k))) same

pub other_read : (cache : Places) (key : CacheKey) (entry : Entry) (value : List ℕ) → slice_get cache (place_of key (length cache)) ≡ Some (Some entry) →
    Holds cache key value → entry.key ≡ key
other_read cache key entry value at h = ap (λ (e : Entry). e.key) (same_Some _ _ (same_Some _ _ (sym at ∙ h)))

-- ---- what a value that is kept changes
-- two ways to read the places agree where they do at each number
same_places : (f g : ℕ → Option Entry) (index : List ℕ) → ((q : ℕ) → f (get_or index q 0) ≡ g (get_or index q 0)) → map f index ≡ map g index
same_places f g [] same = refl
same_places f g (i ∷ index) same =
    ap (λ (x : Option Entry). x ∷ map f index) (same 0) ∙ ap (λ (xs : Places). g i ∷ xs) (same_places f g index (λ q. same (suc q)))

slice_get-set_same : (entries : List Entry) (k : ℕ) (e : Entry) → k < length entries → slice_get (set entries k e) k ≡ Some e
slice_get-set_same [] k e within = absurd (omega arith)
slice_get-set_same (x ∷ entries) zero e within = refl
slice_get-set_same (x ∷ entries) (suc k) e within = slice_get-set_same entries k e (omega arith)

slice_get-set_other : (entries : List Entry) (k j : ℕ) (e : Entry) → j ≢ k → slice_get (set entries k e) j ≡ slice_get entries j
slice_get-set_other [] k j e other = refl
slice_get-set_other (x ∷ entries) zero zero e other = absurd (other refl)
slice_get-set_other (x ∷ entries) zero (suc j) e other = refl
slice_get-set_other (x ∷ entries) (suc k) zero e other = refl
slice_get-set_other (x ∷ entries) (suc k) (suc j) e other = slice_get-set_other entries k j e (λ same. other (ap suc same))

-- at another number the entry stays
other_number : (entries : List Entry) (k n : ℕ) (e : Entry) → (n ≡ suc k → ⊥) → place_at (set entries k e) n ≡ place_at entries n
other_number entries k zero e other = refl
other_number entries k (suc j) e other = slice_get-set_other entries k j e (λ same. other (ap suc same))

put_taken : (entries : List Entry) (k : ℕ) (e : Entry) → k < length entries → (index : List ℕ) (p : ℕ) → p < length index → get_or index p 0 ≡ suc k →
    ((q : ℕ) → get_or index q 0 ≡ suc k → q ≡ p) → places index (set entries k e) ≡ set (places index entries) p (Some e)
put_taken entries k e within [] p below is alone = absurd (omega arith)
put_taken entries k e within (i ∷ index) zero below is alone =
    ap (λ (x : Option Entry). x ∷ places index (set entries k e)) (ap (place_at (set entries k e)) is ∙ slice_get-set_same entries k e within)
    ∙ ap (λ (xs : Places). Some e ∷ xs)
    (same_places (place_at (set entries k e)) (place_at entries) index
    (λ q. other_number entries k (get_or index q 0) e (λ same. let clash : suc q ≡ 0 = alone (suc q) same in absurd (omega arith))))
put_taken entries k e within (i ∷ index) (suc p) below is alone =
    ap (λ (x : Option Entry). x ∷ places index (set entries k e)) (other_number entries k i e (λ same. let clash : 0 ≡ suc p = alone 0 same in absurd (omega arith)))
    ∙ ap (λ (xs : Places). place_at entries i ∷ xs)
    (put_taken entries k e within index p (omega arith) is (λ q same. let next : suc q ≡ suc p = alone (suc q) same in omega arith))

-- a taken place gets another entry
pub kept_taken : (index : List ℕ) (entries : List Entry) (capacity : ℕ) (key : CacheKey) (value : List ℕ) (n : ℕ) → IsSound index entries capacity → 0 < length index →
    get_or index (place_of key (length index)) 0 ≡ n → 0 < n → places index (set entries (n - 1) (record { key = key; value = value })) ≡ kept (places index entries) key value
kept_taken index entries capacity key value n held some is taken =
    let e : Entry = record { key = key; value = value } in
    let p : ℕ = place_of key (length index) in
    let below : p < length index = place_within key (length index) some in
    let bound : get_or index p 0 ≤ length entries = held.ids p in
    let within : n - 1 < length entries = omega arith in
    let next : n ≡ suc (n - 1) = omega arith in
    let positive : 0 < get_or index p 0 = subst (λ (x : ℕ). 0 < x) (sym is) taken in
    put_taken entries (n - 1) e within index p below (is ∙ next) (λ q same. sym (held.apart p q positive (is ∙ next ∙ sym same)))
    ∙ ap (λ m. set (places index entries) (place_of key m) (Some e)) (sym (length-places index entries))

pub sound_taken : (index : List ℕ) (entries : List Entry) (capacity k : ℕ) (e : Entry) → IsSound index entries capacity → IsSound index (set entries k e) capacity
sound_taken index entries capacity k e held =
    let same : length (set entries k e) ≡ length entries = length-set entries k e in
    record {
      power = held.power;
      few = held.few;
      taken = held.taken ∙ sym same;
      ids = λ p. let bound = held.ids p in omega arith;
      apart = held.apart;
      capacious = held.capacious;
    }

-- a number within the entries reads what it did before one more was pushed
within_number : (entries : List Entry) (e : Entry) (n : ℕ) → n ≤ length entries → place_at (entries ++ e ∷ []) n ≡ place_at entries n
within_number entries e zero within = refl
within_number entries e (suc k) within =
    let below : k < length entries = omega arith in
    let d : Entry = get_or entries k e in
    slice_get_kept entries e k d (slice_get-get_or entries k e below) ∙ sym (slice_get-get_or entries k e below)

-- an empty place gets an entry of its own
pub kept_new : (index : List ℕ) (entries new : List Entry) (capacity : ℕ) (key : CacheKey) (value : List ℕ) (n : ℕ) → IsSound index entries capacity →
    new ≡ entries ++ record { key = key; value = value } ∷ [] → n ≡ length entries + 1 →
    places (set index (place_of key (length index)) n) new ≡ kept (places index entries) key value
kept_new index entries new capacity key value n held pushed next =
    let e : Entry = record { key = key; value = value } in
    let p : ℕ = place_of key (length index) in
    let read : ℕ → Option Entry = place_at (entries ++ e ∷ []) in
    let last : n ≡ suc (length entries) = omega arith in
    ap (places (set index p n)) pushed ∙ map-set read index p n
    ∙ ap (λ (xs : Places). set xs p (read n)) (same_places read (place_at entries) index (λ q. within_number entries e (get_or index q 0) (held.ids q)))
    ∙ ap (set (places index entries) p) (ap read last ∙ slice_get_last entries e)
    ∙ ap (λ m. set (places index entries) (place_of key m) (Some e)) (sym (length-places index entries))

count_within : (index : List ℕ) → sum_by (min 1) index ≤ length index
count_within [] = omega arith
count_within (i ∷ index) = let rest = count_within index in let all : sum_by (min 1) (i ∷ index) ≡ min 1 i + sum_by (min 1) index = sum_by-cons (min 1) i index in omega arith

-- where a place is empty there is room for its entry
pub room_left : (index : List ℕ) (p : ℕ) → p < length index → get_or index p 0 ≡ 0 → sum_by (min 1) index < length index
room_left [] p below empty = absurd (omega arith)
room_left (i ∷ index) zero below empty =
    let rest = count_within index in let all : sum_by (min 1) (i ∷ index) ≡ min 1 i + sum_by (min 1) index = sum_by-cons (min 1) i index in let none : i ≡ 0 = empty in omega arith
room_left (i ∷ index) (suc p) below empty =
    let rest = room_left index p (omega arith) empty in let all : sum_by (min 1) (i ∷ index) ≡ min 1 i + sum_by (min 1) index = sum_by-cons (min 1) i index in omega arith

pub sound_new : (index : List ℕ) (entries new : List Entry) (old_capacity capacity p n : ℕ) (e : Entry) → IsSound index entries old_capacity → p < length index → get_or index p 0 ≡ 0 →
    new ≡ entries ++ e ∷ [] → n ≡ length entries + 1 → old_capacity ≤ capacity → IsSound (set index p n) new capacity
sound_new index entries new old_capacity capacity p n e held below empty pushed next grows =
    let same : length (set index p n) ≡ length index = length-set index p n in
    let more : length new ≡ length entries + 1 = ap length pushed ∙ length_push entries e in
    let sums : sum_by (min 1) (set index p n) + min 1 (get_or index p 0) ≡ sum_by (min 1) index + min 1 n = sum_by-set (min 1) index p n 0 below in
    let here : get_or (set index p n) p 0 ≡ n = get_or-set_same index p n 0 below in
    let counts = held.taken in
    record {
      power = subst IsPowerOfTwo (sym same) held.power;
      few = let f = held.few in omega arith;
      taken = omega arith;
      ids = λ q. elim (cases_eq q p) [
        | inl is ↦ let at : get_or (set index p n) q 0 ≡ n = ap (λ x. get_or (set index p n) x 0) is ∙ here in omega arith
        | inr other ↦ let at : get_or (set index p n) q 0 ≡ get_or index q 0 = get_or-set_other index p q n 0 other in let bound = held.ids q in omega arith
      ];
      apart = λ q r some same_number. apart q r some same_number (cases_eq q p) (cases_eq r p);
      capacious = let c = held.capacious in omega arith;
    }
  where
    apart : (q r : ℕ) → 0 < get_or (set index p n) q 0 → get_or (set index p n) q 0 ≡ get_or (set index p n) r 0 → (q ≡ p) ⊎ (q ≡ p → ⊥) → (r ≡ p) ⊎ (r ≡ p → ⊥) → q ≡ r
    apart q r some same_number (inl a) (inl b) = a ∙ sym b
    apart q r some same_number (inl a) (inr b) =
        let first : get_or (set index p n) q 0 ≡ n = ap (λ x. get_or (set index p n) x 0) a ∙ get_or-set_same index p n 0 below in
        let second : get_or (set index p n) r 0 ≡ get_or index r 0 = get_or-set_other index p r n 0 b in
        let bound = held.ids r in absurd (omega arith)
    apart q r some same_number (inr a) (inl b) =
        let first : get_or (set index p n) r 0 ≡ n = ap (λ x. get_or (set index p n) x 0) b ∙ get_or-set_same index p n 0 below in
        let second : get_or (set index p n) q 0 ≡ get_or index q 0 = get_or-set_other index p q n 0 a in
        let bound = held.ids q in absurd (omega arith)
    apart q r some same_number (inr a) (inr b) =
        let first = get_or-set_other index p q n 0 a in
        let second = get_or-set_other index p r n 0 b in
        held.apart q r (subst (λ (x : ℕ). 0 < x) first some) (sym first ∙ same_number ∙ second)
