-- How many inputs and gates the multiplier has.
use Rattle.std.proofs.Common.{◌≡◌, ℕ, zero, suc, ◌+◌, ◌-◌, ◌*◌, ◌<◌, ◌≤◌, ◌==◌, nat_lt, Bool, true, false, cond, List, [], ◌∷◌, ◌++◌, length, Option, Some, None, refl, ap, length-append, arith}
use Rattle.std.specs.Option.{option_to_list, is_some}
use Rattle.std.specs.List.{flat_map, range_with_len}
use Rattle.std.proofs.lemmas.List.FromFn.{length-map-range_with_len}
use Rattle.std.proofs.lemmas.Bool.{lt-ltb, le-ltb, ne_eqb}
use Rattle.multiplier.specs.declared.gate.Gate.{Gate}
use Rattle.multiplier.specs.declared.net.Net.{Net}
use Rattle.multiplier.specs.declared.net.Net.TheVariants.{A, B, Partial}
use Rattle.multiplier.specs.Adders.{above, adder, adder_of, adder_row, adders, beside, gates, partial_product, partial_products, partial_row}
use Rattle.multiplier.specs.Nets.{inputs, word_a, word_b}

-- lists of one length each, joined
length-flat_map_same : {X : Type 0} (f : ℕ → List X) (c a n : ℕ) → ((k : ℕ) → a ≤ k → k < a + n → length (f k) ≡ c)
    → length (flat_map f (range_with_len a n)) ≡ n * c
length-flat_map_same f c a zero same = omega arith
length-flat_map_same f c a (suc n) same =
    let here : length (f a) ≡ c = same a (omega arith) (omega arith) in
    let more : length (flat_map f (range_with_len (a + 1) n)) ≡ n * c =
    length-flat_map_same f c (a + 1) n (λ k low high. same k (omega arith) (omega arith)) in
    omega (arith, length-append (f a) (flat_map f (range_with_len (a + 1) n)))

-- one list more at the end
length-flat_map_more : {X : Type 0} (f : ℕ → List X) (a n : ℕ)
    → length (flat_map f (range_with_len a (suc n))) ≡ length (flat_map f (range_with_len a n)) + length (f (a + n))
length-flat_map_more f a zero =
    let at : length (f a) ≡ length (f (a + 0)) = ap (λ k. length (f k)) (omega arith) in
    omega (arith, length-append (f a) [])
length-flat_map_more f a (suc n) =
    let at : length (f (a + 1 + n)) ≡ length (f (a + suc n)) = ap (λ k. length (f k)) (omega arith) in
    let more = length-flat_map_more f (a + 1) n in
    omega (arith, length-append (f a) (flat_map f (range_with_len (a + 1) (suc n))), length-append (f a) (flat_map f (range_with_len (a + 1) n)))

-- the adder of a bit and what there is of two others
abbrev adder_with : ℕ → ℕ → Net → Option Net → Option Net → List Gate
adder_with row column own y z = adder_of row column (own ∷ option_to_list y ++ option_to_list z)

-- an adder of three bits has five gates, one of two bits two
of_three : (row column : ℕ) (own : Net) (y z : Option Net) → is_some y ≡ true → is_some z ≡ true
    → length (adder_with row column own y z) ≡ 5
of_three row column own (Some y) (Some z) hy hz = refl
of_three row column own (Some y) None hy hz = cc
of_three row column own None z hy hz = cc

of_first_two : (row column : ℕ) (own : Net) (y z : Option Net) → is_some y ≡ true → is_some z ≡ false
    → length (adder_with row column own y z) ≡ 2
of_first_two row column own (Some y) None hy hz = refl
of_first_two row column own (Some y) (Some z) hy hz = cc
of_first_two row column own None z hy hz = cc

of_last_two : (row column : ℕ) (own : Net) (y z : Option Net) → is_some y ≡ false → is_some z ≡ true
    → length (adder_with row column own y z) ≡ 2
of_last_two row column own None (Some z) hy hz = refl
of_last_two row column own None None hy hz = cc
of_last_two row column own (Some y) z hy hz = cc

-- one of two nets is a net
some_of_both : (b : Bool) (x y : Net) → is_some (cond b (Some x) (Some y)) ≡ true
some_of_both true x y = refl
some_of_both false x y = refl

above_within : (size row column : ℕ) → column + 1 < size → is_some (above size row column) ≡ true
above_within size row column h =
    let e : nat_lt (column + 1) size ≡ true = lt-ltb (column + 1) size h in rw e

above_behind_first : (size row column : ℕ) → 2 ≤ row → is_some (above size row column) ≡ true
above_behind_first size row column h =
    let e : (row == 1) ≡ false = ne_eqb row 1 (λ is. omega arith) in rw e (some_of_both (nat_lt (column + 1) size) _ _)

above_first_ends : (size column : ℕ) → size ≤ column + 1 → is_some (above size 1 column) ≡ false
above_first_ends size column h =
    let e : nat_lt (column + 1) size ≡ false = le-ltb (column + 1) size h in rw e

beside_some : (row column : ℕ) → 1 ≤ column → is_some (beside row column) ≡ true
beside_some row column h =
    let e : (column == 0) ≡ false = ne_eqb column 0 (λ is. omega arith) in rw e

adder_of_three : (size row column : ℕ) → is_some (above size row column) ≡ true → 1 ≤ column → length (adder size row column) ≡ 5
adder_of_three size row column from_above behind =
    of_three row column (Partial column row) (above size row column) (beside row column) from_above (beside_some row column behind)

adder_of_first_column : (size row : ℕ) → is_some (above size row 0) ≡ true → length (adder size row 0) ≡ 2
adder_of_first_column size row from_above = of_first_two row 0 (Partial 0 row) (above size row 0) (beside row 0) from_above refl

adder_at_first_end : (size column : ℕ) → size ≤ column + 1 → 1 ≤ column → length (adder size 1 column) ≡ 2
adder_at_first_end size column end behind =
    of_last_two 1 column (Partial column 1) (above size 1 column) (beside 1 column) (above_first_ends size column end) (beside_some 1 column behind)

-- the first row: two bits at both ends
first_row : (m : ℕ) → length (adder_row (suc (suc m)) 1) ≡ 4 + m * 5
first_row m =
    let size : ℕ = suc (suc m) in
    let f : ℕ → List Gate = adder size 1 in
    let first : length (f 0) ≡ 2 = adder_of_first_column size 1 (above_within size 1 0 (omega arith)) in
    let middle : length (flat_map f (range_with_len 1 m)) ≡ m * 5 =
    length-flat_map_same f 5 1 m (λ k low high. adder_of_three size 1 k (above_within size 1 k (omega arith)) low) in
    let last : length (f (1 + m)) ≡ 2 = adder_at_first_end size (1 + m) (omega arith) (omega arith) in
    omega (arith, length-append (f 0) (flat_map f (range_with_len 1 (suc m))), length-flat_map_more f 1 m)

-- a row behind it: two bits at the lowest place
other_row : (m row : ℕ) → 2 ≤ row → length (adder_row (suc (suc m)) row) ≡ 2 + suc m * 5
other_row m row behind =
    let size : ℕ = suc (suc m) in
    let f : ℕ → List Gate = adder size row in
    let first : length (f 0) ≡ 2 = adder_of_first_column size row (above_behind_first size row 0 behind) in
    let others : length (flat_map f (range_with_len 1 (suc m))) ≡ suc m * 5 =
    length-flat_map_same f 5 1 (suc m) (λ k low high. adder_of_three size row k (above_behind_first size row k behind) low) in
    omega (arith, length-append (f 0) (flat_map f (range_with_len 1 (suc m))))

partials : (size : ℕ) → length (partial_products size) ≡ size * size
partials size =
    length-flat_map_same (partial_row size) size 0 size (λ k low high. length-map-range_with_len (partial_product k) 0 size)

adders_count : (m : ℕ) → length (adders (suc (suc m))) ≡ 4 + m * 5 + m * (2 + suc m * 5)
adders_count m =
    let f : ℕ → List Gate = adder_row (suc (suc m)) in
    let others : length (flat_map f (range_with_len 2 m)) ≡ m * (2 + suc m * 5) =
    length-flat_map_same f (2 + suc m * 5) 2 m (λ k low high. other_row m k low) in
    let all : length (flat_map f (range_with_len 1 (suc m))) ≡ 4 + m * 5 + m * (2 + suc m * 5) =
    omega (arith, length-append (f 1) (flat_map f (range_with_len 2 m)), first_row m) in
    let less : suc (suc m) - 1 ≡ suc m = omega arith in
    rw less all

pub gate_count : (size : ℕ) → 2 ≤ size → 6 * size * size - 8 * size ≡ length (gates size)
gate_count zero h = absurd (omega arith)
gate_count (suc zero) h = absurd (omega arith)
gate_count (suc (suc m)) h =
    let size : ℕ = suc (suc m) in
    omega (arith, length-append (partial_products size) (adders size), partials size, adders_count m)

pub input_count : (size : ℕ) → 2 * size ≡ length (inputs size)
input_count size =
    omega (arith, length-append (word_a size) (word_b size), length-map-range_with_len A 0 size, length-map-range_with_len B 0 size)
