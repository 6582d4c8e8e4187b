-- The bits of the inputs by number, placed level by level.
use Rattle.std.specs.Prelude.{◌≡◌, ◌≢◌, ℕ, zero, suc, ◌+◌, ◌<◌, ◌==◌, nat_eq, Bool, true, false, cond, List, [], ◌∷◌, length, Some, slice_get, refl}
use Rattle.std.specs.List.{AllByRecursion, IsDistinct}
use Rattle.std.proofs.Common.{sym, ◌∙◌, ap, subst, get_or, set, arith, add-one, below_more, length-set, get_or-set_other, get_or-set_same}
use Rattle.std.proofs.lemmas.Grind.{get_or_default_zero}
use Rattle.std.proofs.lemmas.List.Elements.{Contains-get_or}
use Rattle.std.proofs.lemmas.List.FromFn.{fill_by_all, length-map-range_with_len}
use Rattle.std.proofs.lemmas.Map.Keys.{IsDistinct-head, IsDistinct-tail}
use Rattle.std.proofs.lemmas.Option.{same_Some, slice_get-get_or}
use Rattle.circuits.specs.Valuation.{bit_of}
use Rattle.spec_lang.specs.Placed.{place_in, placed}
use Rattle.spec_lang.specs.WellFormed.{IsOrder}

-- as many bits are placed as there are numbers
pub length-placed : (count : ℕ) (listed : List ℕ) (bits : List Bool) → length (placed count listed bits) ≡ count
length-placed count listed bits = length-map-range_with_len (λ n. bit_of bits (place_in listed n)) 0 count

-- ---- the place of a number in a list without repetition
not_here : (b : Bool) (n : ℕ) → b ≡ false → cond b 0 (n + 1) ≡ n + 1
not_here b n e = rw e refl

pub place_in-at : (xs : List ℕ) (i net : ℕ) → IsDistinct nat_eq xs → slice_get xs i ≡ Some net → place_in xs net ≡ i
place_in-at [] i net distinct at = absurd (cc)
place_in-at (x ∷ xs) zero net distinct at =
    let same : x ≡ net = same_Some x net at in
    let here : (x == net) ≡ true = grind (arith, same) in rw here refl
place_in-at (x ∷ xs) (suc i) net distinct at =
    let other : (x == net) ≡ false = apart xs i (IsDistinct-head nat_eq x xs distinct) at in
    not_here (x == net) (place_in xs net) other ∙ ap (λ (n : ℕ). n + 1) (place_in-at xs i net (IsDistinct-tail nat_eq x xs distinct) at) ∙ add-one i
  where
    apart : (ys : List ℕ) (j : ℕ) → AllByRecursion (λ y. nat_eq x y ≡ false) ys → slice_get ys j ≡ Some net → (x == net) ≡ false
    apart [] j all get = absurd (cc)
    apart (y ∷ ys) zero all get = (let same : y ≡ net = cc in subst (λ (k : ℕ). (x == k) ≡ false) same all.0)
    apart (y ∷ ys) (suc j) all get = apart ys j all.1 get

place_at : (order : List ℕ) (i net : ℕ) → IsOrder order → i < length order → get_or order i 0 ≡ net → place_in order net ≡ i
place_at order i net is low here = place_in-at order i net is.no_input_twice (slice_get-get_or order i 0 low ∙ ap Some here)

-- ---- the levels of an order
-- each level has an input
pub input_of_level : (order : List ℕ) (i : ℕ) → IsOrder order → i < length order → get_or order i 0 < length order
input_of_level order i is low = (is.each_input (get_or order i 0)).0 (Contains-get_or order i 0 low)

other_level : (order : List ℕ) (i j : ℕ) → IsOrder order → i < j → j < length order → get_or order i 0 ≢ get_or order j 0
other_level order i j is before low = λ same.
    let first = place_at order i (get_or order j 0) is (omega arith) same in
    let second = place_at order j (get_or order j 0) is low refl in
    omega arith

-- the inputs of the first levels have their bits
pub record ArePlaced (order : List ℕ) (bits : List Bool) (levels : ℕ) (inputs : List Bool) : Type 0 where
  pub many : length inputs ≡ length order
  pub each : (i : ℕ) → i < levels → bit_of inputs (get_or order i 0) ≡ bit_of bits i

pub placed-none : (order : List ℕ) (bits inputs : List Bool) → length inputs ≡ length order → ArePlaced order bits 0 inputs
placed-none order bits inputs many = record { many = many; each = λ i low. absurd (omega arith) }

pub placed-more : (order : List ℕ) (bits : List Bool) (level : ℕ) (inputs : List Bool) → IsOrder order → level < length order → ArePlaced order bits level inputs →
    ArePlaced order bits (level + 1) (set inputs (get_or order level 0) (bit_of bits level))
placed-more order bits level inputs is low so_far =
    record { many = length-set inputs (get_or order level 0) (bit_of bits level) ∙ so_far.many; each = below_more _ _ earlier here }
  where
    earlier : (i : ℕ) → i < level → bit_of (set inputs (get_or order level 0) (bit_of bits level)) (get_or order i 0) ≡ bit_of bits i
    earlier i before = get_or-set_other inputs (get_or order level 0) (get_or order i 0) (bit_of bits level) false (other_level order i level is before low) ∙ so_far.each i before

    here : bit_of (set inputs (get_or order level 0) (bit_of bits level)) (get_or order level 0) ≡ bit_of bits level
    here = get_or-set_same inputs (get_or order level 0) (bit_of bits level) false (let input = input_of_level order level is low in let many = so_far.many in omega arith)

pub placed-all : (order : List ℕ) (bits : List Bool) (level : ℕ) (inputs : List Bool) → IsOrder order → level ≡ length order → ArePlaced order bits level inputs →
    inputs ≡ placed (length order) order bits
placed-all order bits level inputs is whole all = fill_by_all (λ net. bit_of bits (place_in order net)) inputs (length order) false all.many each
  where
    each : (net : ℕ) → net < length order → get_or inputs net false ≡ bit_of bits (place_in order net)
    each net low =
        let found = (is.each_input net).1 low in
        let here : get_or order found.0 0 ≡ net = grind (arith, get_or_default_zero order found.0 net found.1, found.2) in
        ap (bit_of inputs) (sym here) ∙ all.each found.0 (omega (arith, found.1, whole)) ∙ ap (bit_of bits) (sym (place_at order found.0 net is found.1 here))
