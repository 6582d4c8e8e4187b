-- What is in a list of nets.
use Rattle.std.specs.Prelude.{◌≡◌, ℕ, zero, suc, ◌+◌, ◌-◌, ◌<◌, ◌≤◌, ◌⊎◌, Bool, true, false, ◌||◌, List, [], ◌∷◌, ◌++◌, length, nat_eq, find, Some, None, Contains, slice_index_or, refl}
use Rattle.std.specs.Cmp.{nat_eq_equiv}
use Rattle.std.specs.List.{list_all, IsDistinct}
use Rattle.std.proofs.Common.{sym, ◌∙◌, ap, inl, inr, ⊎_elim, arith, eqb-true}
use Rattle.std.proofs.lemmas.Bool.{false≢true, or_cases, and_cases, or_left, or_right, cases_Bool, cond-true, cond-false}
use Rattle.std.proofs.lemmas.List.FromFn.{length-range_with_len, get_or-range_with_len}
use Rattle.std.proofs.lemmas.List.Elements.{All-contains}
use Rattle.std.proofs.lemmas.List.Sums.{AllPass-from_list_all}
use Rattle.std.proofs.lemmas.List.Folds.{list_any-append}
use Rattle.std.proofs.lemmas.Map.Made.{length-le_from_is_member}
use Rattle.std.proofs.lemmas.Map.Views.{Contains-from_any, list_any-from_Contains}
use Rattle.circuits.specs.Circuit.{Circuit, IsGate, input_count, gate_nets}
use Rattle.circuits.specs.Order.{is_among}

pub Contains-cons : {X : Type 0} (y : X) (xs : List X) (x : X) → Contains xs x → Contains (y ∷ xs) x
Contains-cons y xs x has = (suc has.0, omega arith, has.2)

pub Contains-head : {X : Type 0} (x : X) (xs : List X) → Contains (x ∷ xs) x
Contains-head x xs = (0, omega arith, refl)

pub Contains-from_among : (nets : List ℕ) (net : ℕ) → is_among nets net ≡ true → Contains nets net
Contains-from_among nets net found = Contains-from_any (λ x y same. eqb-true x y same) net nets found

pub among-from_Contains : (nets : List ℕ) (net : ℕ) → Contains nets net → is_among nets net ≡ true
among-from_Contains nets net has = list_any-from_Contains nat_eq_equiv net nets has

pub among-append : (nets more : List ℕ) (net : ℕ) → is_among (nets ++ more) net ≡ true → (is_among nets net ≡ true) ⊎ (is_among more net ≡ true)
among-append nets more net found = or_cases _ _ (sym (list_any-append (nat_eq net) nets more) ∙ found)

pub among-append_left : (nets more : List ℕ) (net : ℕ) → is_among nets net ≡ true → is_among (nets ++ more) net ≡ true
among-append_left nets more net found = list_any-append (nat_eq net) nets more ∙ or_left _ _ found

pub among-append_right : (nets more : List ℕ) (net : ℕ) → is_among more net ≡ true → is_among (nets ++ more) net ≡ true
among-append_right nets more net found = list_any-append (nat_eq net) nets more ∙ or_right _ _ found

-- what a list has that is longer by one is the last or was there before
pub among_push : (nets : List ℕ) (net q : ℕ) → is_among (nets ++ net ∷ []) q ≡ true → (is_among nets q ≡ true) ⊎ (q ≡ net)
among_push nets net q found = ⊎_elim (λ before. inl before) last (among-append nets (net ∷ []) q found)
  where
    last : (nat_eq q net || false) ≡ true → (is_among nets q ≡ true) ⊎ (q ≡ net)
    last same = ⊎_elim (λ e. inr (eqb-true q net e)) (λ never. cc) (or_cases (nat_eq q net) false same)

-- what `find` gives is of the list, and passes the test
pub find-Some : {X : Type 0} (test : X → Bool) (xs : List X) (x : X) → find test xs ≡ Some x → Contains xs x × (test x ≡ true)
find-Some test [] x found = absurd cc
find-Some {X} test (y ∷ xs) x found = ⊎_elim here (there (find-Some test xs x)) (cases_Bool (test y))
  where
    here : test y ≡ true → Contains (y ∷ xs) x × (test x ≡ true)
    here pass =
        let same : Some y ≡ Some x = sym (cond-true (test y) (Some y) (find test xs) pass) ∙ found in
        let is : y ≡ x = cc in
        ((0, omega arith, is), sym (ap test is) ∙ pass)

    there : (find test xs ≡ Some x → Contains xs x × (test x ≡ true)) → test y ≡ false → Contains (y ∷ xs) x × (test x ≡ true)
    there rest fails =
        let later = rest (sym (cond-false (test y) (Some y) (find test xs) fails) ∙ found) in
        (Contains-cons y xs x later.0, later.1)

pub Contains-cases : {X : Type 0} (y : X) (xs : List X) (x : X) → Contains (y ∷ xs) x → (y ≡ x) ⊎ Contains xs x
Contains-cases {X} y xs x has = go has.0 has.1 has.2
  where
    go : (k : ℕ) → k < length (y ∷ xs) → slice_index_or (y ∷ xs) k x ≡ x → (y ≡ x) ⊎ Contains xs x
    go zero low at = inl at
    go (suc k) low at = inr (k, omega arith, at)

pub Contains-nil : {X : Type 0} (x : X) → Contains [] x → ⊥
Contains-nil x has = omega arith

-- where `find` gives nothing, no element passes
pub find-None : {X : Type 0} (test : X → Bool) (xs : List X) → find test xs ≡ None → (x : X) → Contains xs x → test x ≡ false
find-None test [] none x has = absurd (Contains-nil x has)
find-None {X} test (y ∷ xs) none x has = ⊎_elim passes (fails (λ later there. find-None test xs later x there)) (cases_Bool (test y))
  where
    passes : test y ≡ true → test x ≡ false
    passes pass = let same : Some y ≡ None = sym (cond-true (test y) (Some y) (find test xs) pass) ∙ none in absurd cc

    fails : (find test xs ≡ None → Contains xs x → test x ≡ false) → test y ≡ false → test x ≡ false
    fails rest fail = ⊎_elim
        (λ here. ap test (sym here) ∙ fail)
        (λ there. rest (sym (cond-false (test y) (Some y) (find test xs) fail) ∙ none) there)
        (Contains-cases y xs x has)

pub list_all-true : {X : Type 0} (test : X → Bool) (xs : List X) → list_all test xs ≡ true → (x : X) → Contains xs x → test x ≡ true
list_all-true test xs all x has = All-contains (λ y. test y ≡ true) xs x (AllPass-from_list_all test xs all) has

pub list_all-false : {X : Type 0} (test : X → Bool) (xs : List X) → list_all test xs ≡ false → (x : X) × Contains xs x × (test x ≡ false)
list_all-false test [] fail = absurd (false≢true (sym fail))
list_all-false test (y ∷ xs) fail = ⊎_elim
    (λ here. (y, Contains-head y xs, here))
    (λ there. let rest = list_all-false test xs there in (rest.0, Contains-cons y xs rest.0 rest.1, rest.2))
    (and_cases (test y) (list_all test xs) fail)

pub Contains-gate_nets : (c : Circuit) (net : ℕ) → IsGate c net → Contains (gate_nets c) net
Contains-gate_nets c net is = (net - input_count c, omega (arith, length-range_with_len (input_count c) (length c.gates)), get_or-range_with_len (input_count c) (length c.gates) (net - input_count c) net (omega arith) ∙ omega arith)

pub IsGate-from_gate_nets : (c : Circuit) (net : ℕ) → Contains (gate_nets c) net → IsGate c net
IsGate-from_gate_nets c net has =
    let low : has.0 < length c.gates = omega (arith, has.1, length-range_with_len (input_count c) (length c.gates)) in
    let at : net ≡ input_count c + has.0 = sym has.2 ∙ get_or-range_with_len (input_count c) (length c.gates) has.0 net low in
    (omega arith, omega arith)

pub none_apart : IsDistinct nat_eq []
unfolding IsDistinct
none_apart = tt

-- a list of gates that has none twice is no longer than there are gates
pub length-gates : (c : Circuit) (nets : List ℕ) → IsDistinct nat_eq nets → ((net : ℕ) → is_among nets net ≡ true → IsGate c net) → length nets ≤ length c.gates
length-gates c nets apart gates =
    let short : length nets ≤ length (gate_nets c) = length-le_from_is_member nat_eq_equiv nets (gate_nets c) apart (λ q found. among-from_Contains (gate_nets c) q (Contains-gate_nets c q (gates q found))) in
    omega (arith, length-range_with_len (input_count c) (length c.gates))
