-- The value of a word from its nets, and that of a formula from its parts.
use Rattle.std.proofs.Common.{◌≡◌, ℕ, zero, suc, ◌+◌, ◌*◌, ◌^◌, ◌<◌, ◌≤◌, ℤ, pos, negsuc, neg_ℤ, Bool, true, false, ◌&&◌, List, [], ◌∷◌, ◌++◌, length, take, get_or, Result, Ok, Err, IsTrue, refl, sym, ap, ◌∙◌, subst, arith, add-one, ltb, unsigned_abs, cond}
use Rattle.std.specs.List.{enumerate_from, sum_by}
use Rattle.std.specs.Result.{OkIff, IsErr}
use Rattle.std.proofs.Math.Nat.{pow-le-pow_right, two-pow-succ}
use Rattle.std.proofs.lemmas.Bool.{and_parts, ltb-true, lt-ltb}
use Rattle.std.proofs.lemmas.List.{take_more, take_all, length-take-le}
use Rattle.std.proofs.lemmas.List.Sums.{sum_by-append}
use Rattle.circuits.specs.Valuation.{bit_of}
use Rattle.spec_lang.specs.Formula.{Formula, number, word, negative, sum, difference, product}
use Rattle.spec_lang.specs.Specification.{Word}
use Rattle.spec_lang.specs.Value.{digit_of, word_value, value, all_in_range}
use Rattle.spec_lang.proofs.Words.{word_value_below}
use Rattle.word_base.specs.Range.{InRange, in_range}

enumerate_from-push : {X : Type 0} (n : ℕ) (xs : List X) (x : X) (m : ℕ) → n + length xs ≡ m → enumerate_from n (xs ++ x ∷ []) ≡ enumerate_from n xs ++ (m, x) ∷ []
enumerate_from-push n [] x m e = let same : n ≡ m = omega (arith, e) in ap (λ k. (k, x) ∷ []) same
enumerate_from-push n (y ∷ xs) x m e = ap (λ more. (n, y) ∷ more) (enumerate_from-push (n + 1) xs x m (let f : n + (length xs + 1) ≡ m = rw add-one e in omega arith))

word_value-push : (values : List Bool) (nets : List ℕ) (net : ℕ) → word_value values (nets ++ net ∷ []) ≡ word_value values nets + 2 ^ length nets * digit_of values net
word_value-push values nets net =
    let f = λ (p : ℕ × ℕ). 2 ^ p.0 * digit_of values p.1 in
    ap (sum_by f) (enumerate_from-push 0 nets net (length nets) (omega arith))
    ∙ sum_by-append f (enumerate_from 0 nets) ((length nets, net) ∷ [])
    ∙ ap (λ n. word_value values nets + n) (omega arith)

pub word_value-more : (values : List Bool) (nets : List ℕ) (i : ℕ) → i < length nets → word_value values (take (i + 1) nets) ≡ word_value values (take i nets) + 2 ^ i * digit_of values (get_or nets i 0)
word_value-more values nets i below =
    let net = get_or nets i 0 in
    ap (word_value values) (take_more nets i 0 below)
    ∙ word_value-push values (take i nets) net
    ∙ ap (λ n. word_value values (take i nets) + 2 ^ n * digit_of values net) (length-take-le i nets (omega arith))

-- so far the value is below the weight of the next net
pub word_value-take : (values : List Bool) (nets : List ℕ) (i : ℕ) → i ≤ length nets → word_value values (take i nets) < 2 ^ i
word_value-take values nets i within = subst (λ n. word_value values (take i nets) < 2 ^ n) (length-take-le i nets within) (word_value_below values (take i nets))

pub weight-le : (i : ℕ) → i ≤ 127 → 2 ^ i ≤ 2 ^ 127
weight-le i within = pow-le-pow_right (omega arith) within

-- what is in range as a whole
pub whole_in_range : (words : List Word) (values : List Bool) (f : Formula) → all_in_range words values f ≡ true → in_range (value words values f) ≡ true
whole_in_range words values (number z) e = e
whole_in_range words values (word w) e = e
whole_in_range words values (negative a) e = (and_parts (all_in_range words values a) (in_range (value words values (negative a))) e).1
whole_in_range words values (sum a b) e = (and_parts (all_in_range words values a && all_in_range words values b) (in_range (value words values (sum a b))) e).1
whole_in_range words values (difference a b) e = (and_parts (all_in_range words values a && all_in_range words values b) (in_range (value words values (difference a b))) e).1
whole_in_range words values (product a b) e = (and_parts (all_in_range words values a && all_in_range words values b) (in_range (value words values (product a b))) e).1

pub first_of : (a b c : Bool) → (a && b && c) ≡ true → a ≡ true
first_of a b c e = (and_parts a b (and_parts (a && b) c e).0).0

pub second_of : (a b c : Bool) → (a && b && c) ≡ true → b ≡ true
second_of a b c e = (and_parts a b (and_parts (a && b) c e).0).1

pub err_since : {T E : Type 0} (r : Result T E) (P : Type 0) (v : T) → IsErr r → ¬ P → OkIff r P v
err_since (Ok x) P v e never = absurd (cc)
err_since (Err x) P v e never = never

unsigned_abs-neg : (z : ℤ) → unsigned_abs (neg_ℤ z) ≡ unsigned_abs z
unsigned_abs-neg (pos zero) = refl
unsigned_abs-neg (pos (suc n)) = refl
unsigned_abs-neg (negsuc n) = refl

all_of_neg : (p : Bool) (z : ℤ) → p ≡ true → in_range z ≡ true → (p && in_range (neg_ℤ z)) ≡ true
all_of_neg p z e f = rw e (ap (λ n. ltb n (2 ^ 127)) (unsigned_abs-neg z) ∙ f)

pub neg_is : (words : List Word) (values : List Bool) (a : Formula) (x r : ℤ) → all_in_range words values a ≡ true → x ≡ value words values a → r ≡ neg_ℤ x
    → IsTrue (all_in_range words values (negative a)) × (r ≡ value words values (negative a))
neg_is words values a x r all e f = (all_of_neg (all_in_range words values a) (value words values a) all (whole_in_range words values a all), f ∙ ap neg_ℤ e)

pub in_range-from : (z : ℤ) → InRange z → in_range z ≡ true
in_range-from z within = lt-ltb (unsigned_abs z) (2 ^ 127) within

result_is : {E : Type 0} (p q : Bool) (z : ℤ) (r : Result ℤ E) → p ≡ true → q ≡ true → OkIff r (InRange z) z → OkIff r (IsTrue (p && q && in_range z)) z
result_is p q z (Ok x) e f ok = (rw (e, f) (in_range-from z ok.0), ok.1)
result_is p q z (Err d) e f never = λ h. never (ltb-true (unsigned_abs z) (2 ^ 127) (and_parts (p && q) (in_range z) h).1)

-- an operation on the values of two operands
pub both_are : {E : Type 0} (op : ℤ → ℤ → ℤ) (p q : Bool) (x y u v : ℤ) (r : Result ℤ E) → p ≡ true → x ≡ u → q ≡ true → y ≡ v
    → OkIff r (InRange (op x y)) (op x y) → OkIff r (IsTrue (p && q && in_range (op u v))) (op u v)
both_are op p q x y u v r e x_is f y_is ok =
    let P : ℤ → Type 0 = λ z. OkIff r (IsTrue (p && q && in_range z)) z in
    subst P (ap (λ x. op x y) x_is ∙ ap (op u) y_is) (result_is p q (op x y) r e f ok)

-- the total so far and the weight of the next net
abbrev pub IsTotalSoFar : List Bool → List ℕ → ℕ → ℕ → ℕ → Type 0
IsTotalSoFar values nets i total weight = (total ≡ word_value values (take i nets)) × (weight ≡ 2 ^ i)

pub total-fits : (values : List Bool) (nets : List ℕ) (i total weight : ℕ) → i < length nets → length nets ≤ 127 → IsTotalSoFar values nets i total weight → total + weight < 2 ^ 128
total-fits values nets i total weight below few so_far =
    let taken = word_value-take values nets i (omega arith) in
    let at_most = weight-le i (omega arith) in
    let first = so_far.0 in
    let second = so_far.1 in
    let bound : total + weight < 2 ^ 127 + 2 ^ 127 = omega arith in
    bound

pub weight-fits : (i weight : ℕ) → i < 127 → weight ≡ 2 ^ i → weight * 2 < 2 ^ 128
weight-fits i weight within e = let at_most = weight-le (i + 1) (omega arith) in let next : 2 ^ (i + 1) ≡ 2 ^ i + 2 ^ i = rw add-one (two-pow-succ i) in let bound : weight * 2 ≤ 2 ^ 127 = omega arith in omega arith

pub next_total : (values : List Bool) (nets : List ℕ) (i total weight : ℕ) → i < length nets → IsTotalSoFar values nets i total weight
    → IsTotalSoFar values nets (i + 1) (total + weight * digit_of values (get_or nets i 0)) (weight * 2)
next_total values nets i total weight below so_far =
    let digit = digit_of values (get_or nets i 0) in
    let doubled : 2 ^ i * 2 ≡ 2 ^ (i + 1) = rw add-one (omega (arith, two-pow-succ i)) in
    (ap (λ n. n + weight * digit) so_far.0 ∙ ap (λ n. word_value values (take i nets) + n * digit) so_far.1 ∙ sym (word_value-more values nets i below), ap (λ n. n * 2) so_far.1 ∙ doubled)

pub total_with : (total weight : ℕ) (values : List Bool) (net : ℕ) → bit_of values net ≡ true → total + weight * digit_of values net ≡ total + weight
total_with total weight values net e = ap (λ b. total + weight * cond b 1 0) e ∙ omega arith

pub total_without : (total weight : ℕ) (values : List Bool) (net : ℕ) → bit_of values net ≡ false → total + weight * digit_of values net ≡ total
total_without total weight values net e = ap (λ b. total + weight * cond b 1 0) e ∙ omega arith

pub whole_total : (values : List Bool) (nets : List ℕ) (i total weight : ℕ) → length nets ≤ i → IsTotalSoFar values nets i total weight → total ≡ word_value values nets
whole_total values nets i total weight past so_far = so_far.0 ∙ ap (word_value values) (take_all i nets past)

pub total-below : (values : List Bool) (nets : List ℕ) (i total weight : ℕ) → i ≤ length nets → length nets ≤ 127 → IsTotalSoFar values nets i total weight → total < 2 ^ 127
total-below values nets i total weight within few so_far =
    let taken = word_value-take values nets i within in
    let at_most = weight-le i (omega arith) in
    let first = so_far.0 in
    omega arith
