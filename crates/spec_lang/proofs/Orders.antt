-- The inputs in the order of their numbers.
use Rattle.std.proofs.Common.{◌≡◌, ℕ, ◌+◌, ◌<◌, get_or, false, eqb, zero, suc, [], ◌∷◌, ◌++◌, ap, add-one, ◌∙◌, arith}
use Rattle.std.specs.List.{range_with_len}
use Rattle.std.proofs.lemmas.Bool.Decides.{nat_tests}
use Rattle.std.proofs.lemmas.List.FromFn.{length-range_with_len, get_or-range_with_len}
use Rattle.std.proofs.lemmas.Map.Keys.{IsDistinct-from_apart}
use Rattle.spec_lang.specs.WellFormed.{IsOrder}

apart : (i j : ℕ) → i < j → eqb i j ≡ false
apart i j low = grind (arith, nat_tests)

place_is : (n k net : ℕ) → k < n → get_or (range_with_len 0 n) k net ≡ net → net < n
place_is n k net within at =
    let e = get_or-range_with_len 0 n k net within in
    omega arith

pub range_is_order : (n : ℕ) → IsOrder (range_with_len 0 n)
range_is_order n =
    let len = length-range_with_len 0 n in
    record {
      no_input_twice = IsDistinct-from_apart eqb (range_with_len 0 n) (λ i j d low within.
          rw (get_or-range_with_len 0 n i d (omega arith), get_or-range_with_len 0 n j d (omega arith)) (apart (0 + i) (0 + j) (omega arith)));
      each_input = λ net. (
        (λ (k, within, at). let below : net < n = place_is n k net (omega arith) at in omega arith),
        (λ below. (net, below, get_or-range_with_len 0 n net net (omega arith) ∙ omega arith)),
      );
    }

one_more : (a n j : ℕ) → a + n ≡ j → range_with_len a (suc n) ≡ range_with_len a n ++ j ∷ []
one_more a zero j e = let same : a ≡ j = omega arith in ap (λ k. k ∷ []) same
one_more a (suc n) j e = ap (λ more. a ∷ more) (one_more (a + 1) n j (omega arith))

pub range_with_len-more : (n : ℕ) → range_with_len 0 (n + 1) ≡ range_with_len 0 n ++ n ∷ []
range_with_len-more n = rw add-one (one_more 0 n n (omega arith))
