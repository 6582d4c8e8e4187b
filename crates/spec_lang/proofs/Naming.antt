-- The words and nets that a check names are those of its sides.
use Rattle.std.proofs.Common.{◌≡◌, refl, sym, ◌∙◌, ap, subst, ℕ, ◌<◌, Bool, true, false, not, List, [], ◌∷◌, ◌++◌, cond, inl, inr}
use Rattle.std.specs.Prelude.{◌⊎◌, ◌==◌, Contains, filter, flat_map}
use Rattle.std.proofs.lemmas.Bool.{eqb-true}
use Rattle.std.proofs.lemmas.List.Elements.{Contains-append_left, Contains-append_right, Contains-append_cases, All-contains}
use Rattle.circuits.proofs.Cones.{flat_map-from, flat_map-has}
use Rattle.circuits.proofs.Members.{Contains-cases, Contains-cons, Contains-head, Contains-nil, Contains-from_among, among-from_Contains}
use Rattle.spec_lang.specs.Named.{each_once, namings, words_named, words_of_check, nets_named}
use Rattle.spec_lang.specs.Specification.{Check, Specification}
use Rattle.spec_lang.specs.Value.{nets_of}
use Rattle.spec_lang.specs.WellFormed.{NamesWords}

-- ---- what a test lets through
kept-has : (p : ℕ → Bool) (y : ℕ) (ys : List ℕ) (x : ℕ) (b : Bool) → p y ≡ b → p x ≡ true → (y ≡ x) ⊎ Contains ys x → Contains (cond b (y ∷ ys) ys) x
kept-has p y ys x true is passes (inl here) = subst (λ z. Contains (z ∷ ys) x) (sym here) (Contains-head x ys)
kept-has p y ys x true is passes (inr more) = Contains-cons y ys x more
kept-has p y ys x false is passes (inr more) = more
kept-has p y ys x false is passes (inl here) = absurd (let no : p x ≡ false = ap p (sym here) ∙ is in cc)

later : {A B C : Type 0} → A ⊎ B → (B → C) → A ⊎ C
later (inl a) f = inl a
later (inr b) f = inr (f b)

pub filter-has : (p : ℕ → Bool) (xs : List ℕ) (x : ℕ) → Contains xs x → p x ≡ true → Contains (filter p xs) x
filter-has p [] x has passes = absurd (Contains-nil x has)
filter-has p (y ∷ ys) x has passes =
    kept-has p y (filter p ys) x (p y) refl passes (later (Contains-cases y ys x has) (λ more. filter-has p ys x more passes))

kept-from : (y : ℕ) (zs : List ℕ) (x : ℕ) (b : Bool) → Contains (cond b (y ∷ zs) zs) x → (y ≡ x) ⊎ Contains zs x
kept-from y zs x true has = Contains-cases y zs x has
kept-from y zs x false has = inr has

filter-from : (p : ℕ → Bool) (xs : List ℕ) (x : ℕ) → Contains (filter p xs) x → Contains xs x
filter-from p [] x has = has
filter-from p (y ∷ ys) x has =
    elim (kept-from y (filter p ys) x (p y) has) as (λ _. Contains (y ∷ ys) x) [
      | inl here ↦ subst (λ z. Contains (z ∷ ys) x) (sym here) (Contains-head x ys)
      | inr more ↦ Contains-cons y ys x (filter-from p ys x more)
    ]

-- ---- each number once
others-have : (y : ℕ) (ys : List ℕ) (x : ℕ) (b : Bool) → (y == x) ≡ b → (y ≡ x) ⊎ Contains ys x → Contains (y ∷ filter (λ w. not (y == w)) ys) x
others-have y ys x true is any = subst (λ z. Contains (z ∷ filter (λ w. not (y == w)) ys) x) (sym (eqb-true y x is)) (Contains-head x _)
others-have y ys x false is (inl here) = subst (λ z. Contains (z ∷ filter (λ w. not (y == w)) ys) x) (sym here) (Contains-head x _)
others-have y ys x false is (inr more) = Contains-cons y _ x (filter-has (λ w. not (y == w)) ys x more (ap not is))

each_once-has : (xs : List ℕ) (x : ℕ) → Contains xs x → Contains (each_once xs) x
each_once-has [] x has = has
each_once-has (y ∷ ys) x has = others-have y (each_once ys) x (y == x) refl (later (Contains-cases y ys x has) (λ more. each_once-has ys x more))

each_once-from : (xs : List ℕ) (x : ℕ) → Contains (each_once xs) x → Contains xs x
each_once-from [] x has = has
each_once-from (y ∷ ys) x has =
    elim (Contains-cases y (filter (λ w. not (y == w)) (each_once ys)) x has) as (λ _. Contains (y ∷ ys) x) [
      | inl here ↦ subst (λ z. Contains (z ∷ ys) x) (sym here) (Contains-head x ys)
      | inr more ↦ Contains-cons y ys x (each_once-from ys x (filter-from (λ w. not (y == w)) (each_once ys) x more))
    ]

-- ---- words
-- what is asked of all words of the sides holds of each named one
pub named_within : (words : ℕ) (check : Check) (w : ℕ) → NamesWords words check → Contains (words_of_check check) w → w < words
named_within words check w all has =
    elim (Contains-append_cases (words_named check.left) (words_named check.right) w (each_once-from _ w has)) as (λ _. w < words) [
      | inl left ↦ All-contains (λ (n : ℕ). n < words) (namings check.left) w all.left (each_once-from (namings check.left) w left)
      | inr right ↦ All-contains (λ (n : ℕ). n < words) (namings check.right) w all.right (each_once-from (namings check.right) w right)
    ]

pub left_named : (check : Check) (w : ℕ) → Contains (namings check.left) w → Contains (words_of_check check) w
left_named check w has =
    each_once-has _ w (Contains-append_left (words_named check.left) (words_named check.right) w (each_once-has (namings check.left) w has))

pub right_named : (check : Check) (w : ℕ) → Contains (namings check.right) w → Contains (words_of_check check) w
right_named check w has =
    each_once-has _ w (Contains-append_right (words_named check.left) (words_named check.right) w (each_once-has (namings check.right) w has))

-- ---- nets
pub net_of_word_named : (s : Specification) (check : Check) (w net : ℕ) → Contains (words_of_check check) w → Contains (nets_of s.words w) net → Contains (nets_named s check) net
net_of_word_named s check w net has of =
    let numbers = words_named check.left ++ words_named check.right in
    each_once-has (flat_map (nets_of s.words) numbers) net
    (Contains-from_among (flat_map (nets_of s.words) numbers) net (flat_map-has (nets_of s.words) numbers w net (each_once-from numbers w has) of))

-- each named net is one of a named word
pub named_net_from : (s : Specification) (check : Check) (net : ℕ) → Contains (nets_named s check) net → (w : ℕ) × Contains (words_of_check check) w × Contains (nets_of s.words w) net
named_net_from s check net has =
    let numbers = words_named check.left ++ words_named check.right in
    let from = flat_map-from (nets_of s.words) numbers net (among-from_Contains (flat_map (nets_of s.words) numbers) net (each_once-from (flat_map (nets_of s.words) numbers) net has)) in
    (from.0, each_once-has numbers from.0 from.1, from.2)
