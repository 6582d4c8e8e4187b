-- An order line without a fault lists each input once.
use Rattle.std.proofs.Common.{◌≡◌, ℕ, zero, suc, ◌<◌, ◌==◌, Bool, true, false, not, ◌||◌, List, [], ◌∷◌, length, get_or, eqb, nat_le, refl, sym, ap, ◌∙◌, arith, ⊎_elim}
use Rattle.std.specs.List.{list_any, range_with_len, IsDistinct, AllByRecursion}
use Rattle.std.proofs.lemmas.Bool.{or_parts, leb-false, eqb-true, or_cases, not-false}
use Rattle.std.proofs.lemmas.Cmp.{nat_eq_equiv}
use Rattle.std.proofs.lemmas.List.FromFn.{length-range_with_len, get_or-range_with_len}
use Rattle.std.proofs.lemmas.Map.Steps.{length-le_from_distinct_below, le-length_from_below}
use Rattle.std.proofs.lemmas.Map.Views.{Contains-from_any, list_any-from_Contains}
use Rattle.spec_grammar.specs.Faults.{has_other_net, has_repetition, lacks_input, is_no_order}
use Rattle.spec_grammar.specs.GoodDraft.{ListsInputs}

pub none_at : {X : Type 0} (p : X → Bool) (xs : List X) (i : ℕ) (d : X) → i < length xs → list_any p xs ≡ false → p (get_or xs i d) ≡ false
none_at p [] i d below e = absurd (omega arith)
none_at p (x ∷ xs) zero d below e = (or_parts (p x) (list_any p xs) e).0
none_at p (x ∷ xs) (suc i) d below e = none_at p xs i d (omega arith) (or_parts (p x) (list_any p xs) e).1

flipped : (m n : ℕ) → (m == n) ≡ (n == m)
flipped m n = nat_eq_equiv.symm m n

any_flipped : (n : ℕ) (ns : List ℕ) → list_any (λ m. m == n) ns ≡ list_any (eqb n) ns
any_flipped n [] = refl
any_flipped n (m ∷ ns) = ap (λ b. b || list_any (λ k. k == n) ns) (flipped m n) ∙ ap (λ b. eqb n m || b) (any_flipped n ns)

apart : (n : ℕ) (ns : List ℕ) → list_any (λ m. m == n) ns ≡ false → AllByRecursion (λ m. eqb n m ≡ false) ns
apart n [] e = tt
apart n (m ∷ ns) e = let parts = or_parts (m == n) (list_any (λ k. k == n) ns) e in (sym (flipped m n) ∙ parts.0, apart n ns parts.1)

distinct : (ns : List ℕ) → has_repetition ns ≡ false → IsDistinct eqb ns
unfolding IsDistinct
distinct [] e = tt
distinct (n ∷ ns) e = let parts = or_parts (list_any (λ m. m == n) ns) (has_repetition ns) e in (apart n ns parts.0, distinct ns parts.1)

below : (inputs n : ℕ) (ns : List ℕ) → has_other_net inputs ns ≡ false → list_any (eqb n) ns ≡ true → n < inputs
below inputs n [] other e = absurd (cc)
below inputs n (m ∷ ns) other e =
    let parts = or_parts (nat_le inputs m) (has_other_net inputs ns) other in
    ⊎_elim
    (λ here. let same : n ≡ m = eqb-true n m here in let small : m < inputs = leb-false inputs m parts.0 in omega arith)
    (λ later. below inputs n ns parts.1 later)
    (or_cases (eqb n m) (list_any (eqb n) ns) e)

there : (inputs n : ℕ) (ns : List ℕ) → lacks_input inputs ns ≡ false → n < inputs → list_any (eqb n) ns ≡ true
there inputs n ns e small =
    let len = length-range_with_len 0 inputs in
    let at = none_at (λ n. not (list_any (λ m. m == n) ns)) (range_with_len 0 inputs) n 0 (omega arith) e in
    let is : get_or (range_with_len 0 inputs) n 0 ≡ n = get_or-range_with_len 0 inputs n 0 small ∙ omega arith in
    sym (any_flipped n ns) ∙ not-false (list_any (λ m. m == n) ns) (sym (ap (λ k. not (list_any (λ m. m == k) ns)) is) ∙ at)

pub lists_inputs : (inputs : ℕ) (ns : List ℕ) → is_no_order inputs ns ≡ false → ListsInputs inputs ns
lists_inputs inputs ns e =
    let two = or_parts (has_other_net inputs ns || has_repetition ns) (lacks_input inputs ns) e in
    let one = or_parts (has_other_net inputs ns) (has_repetition ns) two.0 in
    let once = distinct ns one.1 in
    let most = length-le_from_distinct_below ns inputs once (λ n is. below inputs n ns one.0 is) in
    let least = le-length_from_below ns inputs (λ n small. there inputs n ns two.1 small) in
    record {
      order = record {
        no_input_twice = once;
        each_input = λ n. (
          (λ is. let small = below inputs n ns one.0 (list_any-from_Contains nat_eq_equiv n ns is) in omega arith),
          (λ small. Contains-from_any eqb-true n ns (there inputs n ns two.1 (omega arith))),
        );
      };
      one_each = omega arith;
    }
