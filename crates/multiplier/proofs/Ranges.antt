-- Lists that grow by what stands for the next number of a range.
use Rattle.std.proofs.Common.{◌≡◌, ℕ, zero, suc, ◌+◌, List, [], ◌∷◌, ◌++◌, map, sym, ap, ◌∙◌, append_assoc, arith}
use Rattle.std.specs.List.{flat_map, range_with_len}
use Rattle.std.proofs.lemmas.List.{flat_map_more}
use Rattle.std.proofs.lemmas.List.FromFn.{map-range_with_len_more}

pub range_with_len-more : (a n j : ℕ) → a + n ≡ j → range_with_len a (suc n) ≡ range_with_len a n ++ j ∷ []
range_with_len-more a zero j at = ap (λ k. k ∷ []) (omega arith)
range_with_len-more a (suc n) j at = ap (λ ks. a ∷ ks) (range_with_len-more (a + 1) n j (omega arith))

-- a list that goes on with the next element
pub map-more : {X : Type 0} (f : ℕ → X) (n : ℕ) (start old new : List X)
    → old ≡ start ++ map f (range_with_len 0 n) → new ≡ old ++ f n ∷ [] → new ≡ start ++ map f (range_with_len 0 (n + 1))
map-more f n start old new is_old is_new =
    is_new
    ∙ ap (λ xs. xs ++ f n ∷ []) is_old
    ∙ append_assoc start (map f (range_with_len 0 n)) (f n ∷ [])
    ∙ ap (λ xs. start ++ xs) (sym (map-range_with_len_more f 0 n n (omega arith)))

-- a list that goes on with the next list
pub flat_map-more : {X : Type 0} (f : ℕ → List X) (a n m j : ℕ) (start old new : List X) → a + n ≡ j → m ≡ suc n →
    old ≡ start ++ flat_map f (range_with_len a n) → new ≡ old ++ f j → new ≡ start ++ flat_map f (range_with_len a m)
flat_map-more f a n m j start old new at one_more is_old is_new =
    is_new
    ∙ ap (λ xs. xs ++ f j) is_old
    ∙ flat_map_more f start (range_with_len a n) j
    ∙ ap (λ ks. start ++ flat_map f ks) (sym (range_with_len-more a n j at) ∙ ap (range_with_len a) (sym one_more))
