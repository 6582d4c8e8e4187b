-- The first place that passes a test, as a way to cut a list.
use Rattle.std.proofs.Common.{◌≡◌, ℕ, suc, ◌+◌, Bool, true, false, not, cond, List, [], ◌∷◌, ◌++◌, length, take, drop, Option, Some, None, option_map, ltb, refl, sym, ap, ◌∙◌, ⊎_elim, arith, position}
use Rattle.std.specs.List.{list_all, position_or_len}
use Rattle.std.proofs.Math.Numerals.{one-add}
use Rattle.std.proofs.lemmas.Bool.{cases_Bool, ltb-false}
use Rattle.std.proofs.lemmas.List.Sums.{prefix_len-le-length}
use Rattle.std.proofs.lemmas.Bool.Decides.{nat_tests}

one_less : (m n : ℕ) → ltb (1 + m) (suc n) ≡ ltb m n
one_less m n = grind (arith, nat_tests)

map-cond : (b : Bool) (n : ℕ) → option_map (λ k. k + 1) (cond b (Some n) None) ≡ cond b (Some (n + 1)) None
map-cond true n = refl
map-cond false n = refl

step_from : (b : Bool) (n m : ℕ) → cond (ltb (cond (not b) (1 + n) 0) (suc m)) (Some (cond (not b) (1 + n) 0)) None ≡ cond b (Some 0) (option_map (λ k. k + 1) (cond (ltb n m) (Some n) None))
step_from true n m = grind (arith, nat_tests)
step_from false n m = ap (λ b. cond b (Some (1 + n)) None) (one_less n m) ∙ ap (λ k. cond (ltb n m) (Some k) None) (omega arith) ∙ sym (map-cond (ltb n m) n)

pub position-cons : {X : Type 0} (p : X → Bool) (x : X) (xs : List X) → position p (x ∷ xs) ≡ cond (p x) (Some 0) (option_map (λ k. k + 1) (position p xs))
position-cons p x xs = step_from (p x) (position_or_len p xs) (length xs)

-- a front of which no element passes, then one that passes, and a rest
pub record SplitsAt {X : Type 0} (p : X → Bool) (xs : List X) (k : ℕ) : Type 0 where
  pub before : list_all (λ x. not (p x)) (take k xs) ≡ true
  pub here : X
  pub passes : p here ≡ true
  pub whole : xs ≡ take k xs ++ here ∷ drop (suc k) xs

grown : {X : Type 0} (p : X → Bool) (x : X) (xs : List X) (j k : ℕ) → p x ≡ false → j + 1 ≡ k → SplitsAt p xs j → SplitsAt p (x ∷ xs) k
grown p x xs j k fails e s =
    let k_is : k ≡ suc j = omega arith in
    rw k_is (record {
      before = rw fails s.before;
      here = s.here;
      passes = s.passes;
      whole = ap (λ ys. x ∷ ys) s.whole;
    })

split_from : {X : Type 0} (p : X → Bool) (x : X) (xs : List X) (k : ℕ) (b : Bool) (o : Option ℕ) → ((j : ℕ) → position p xs ≡ Some j → SplitsAt p xs j)
    → p x ≡ b → position p xs ≡ o → cond b (Some 0) (option_map (λ j. j + 1) o) ≡ Some k → SplitsAt p (x ∷ xs) k
split_from p x xs k true o more passes found f = let k_is : k ≡ 0 = cc in rw k_is (record { before = refl; here = x; passes = passes; whole = refl })
split_from p x xs k false None more fails found f = absurd (cc)
split_from p x xs k false (Some j) more fails found f = grown p x xs j k fails (cc) (more j found)

pub splits : {X : Type 0} (p : X → Bool) (xs : List X) (k : ℕ) → position p xs ≡ Some k → SplitsAt p xs k
splits p [] k e = absurd (cc)
splits p (x ∷ xs) k e = split_from p x xs k (p x) (position p xs) (splits p xs) refl refl (sym (position-cons p x xs) ∙ e)

nowhere_from : {X : Type 0} (p : X → Bool) (x : X) (xs : List X) (b : Bool) (o : Option ℕ) → (position p xs ≡ None → list_all (λ x. not (p x)) xs ≡ true)
    → p x ≡ b → position p xs ≡ o → cond b (Some 0) (option_map (λ j. j + 1) o) ≡ None → list_all (λ x. not (p x)) (x ∷ xs) ≡ true
nowhere_from p x xs true o more passes found f = absurd (cc)
nowhere_from p x xs false None more fails found f = rw fails (more found)
nowhere_from p x xs false (Some j) more fails found f = absurd (cc)

pub passes_nowhere : {X : Type 0} (p : X → Bool) (xs : List X) → position p xs ≡ None → list_all (λ x. not (p x)) xs ≡ true
passes_nowhere p [] e = refl
passes_nowhere p (x ∷ xs) e = nowhere_from p x xs (p x) (position p xs) (passes_nowhere p xs) refl refl (sym (position-cons p x xs) ∙ e)

pub none_at_length : {X : Type 0} (p : X → Bool) (xs : List X) → position p xs ≡ None → length xs ≡ position_or_len p xs
none_at_length p xs e =
    let n = position_or_len p xs in
    let at_most = prefix_len-le-length (λ x. not (p x)) xs in
    ⊎_elim
    (λ t. let found : position p xs ≡ Some n = ap (λ b. cond b (Some n) None) t in absurd (cc))
    (λ f. omega (arith, ltb-false n (length xs) f, at_most))
    (cases_Bool (ltb n (length xs)))

-- the first place that passes is later by one, or the first
pub place_later : (p : ℕ → Bool) (b : ℕ) (text : List ℕ) → p b ≡ false → position_or_len p (b ∷ text) ≡ suc (position_or_len p text)
place_later p b text e = ap (λ v. cond (not v) (1 + position_or_len p text) 0) e ∙ one-add (position_or_len p text)

pub place_first : (p : ℕ → Bool) (b : ℕ) (text : List ℕ) → p b ≡ true → position_or_len p (b ∷ text) ≡ 0
place_first p b text e = ap (λ v. cond (not v) (1 + position_or_len p text) 0) e
