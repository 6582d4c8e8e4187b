-- Worked checks: node counts, first differences, and work counted by hand.
use Rattle.std.specs.Prelude.{◌≡◌, ℕ, ◌+◌, pos, negsuc, true, false, List, [], ◌∷◌, length, codes, refl}
use Rattle.std.specs.List.{list_all}
use Rattle.circuits.specs.Circuit.{Circuit}
use Rattle.circuits.specs.Examples.{gate, half, c17}
use Rattle.circuits.specs.declared.gate_word.GateWord.TheVariants.{And, Nor, Or, Not}
use Rattle.spec_lang.specs.Formula.{Formula, number, word, sum, difference, product}
use Rattle.spec_lang.specs.Specification.{Check, Specification, single, half_adder, half_adder_check}
use Rattle.tables.specs.Table.{entry, halves}
use Rattle.tables.specs.Tree.{leaf, node, weights}
use Rattle.word_base.specs.declared.decomp.Decomp.{Decomp}
use Rattle.word_base.specs.declared.decomp.Decomp.TheVariants.{N, P, S}
use Rattle.word_base.specs.declared.kind_name.KindName.{KindName}
use Rattle.word_base.specs.declared.kind_name.KindName.TheVariants.{Evbdd, StarBmd, Hdd, KStarBmd}
use Rattle.checks.specs.declared.method.Method.TheVariants.{Forward, Backward}
use Rattle.checks.specs.Answer.{IsFirstDifference, answer}
use Rattle.checks.specs.declared.verdict.Verdict.TheVariants.{Equal, Different}
use Rattle.checks.proofs.FirstDifference.{first_difference_found}
use Rattle.checks.specs.Backward.{backward_letters, backward_nets, backward_work}
use Rattle.checks.specs.Forward.{building_work, forward_work, input_work}
use Rattle.checks.specs.Limits.{need, nodes_of, over, passes, piece_fits, short}

-- 2^126 times a formula
abbrev great : Formula → Formula
great f = product (number (pos 85070591730234615865843651857942052864)) f

-- two inputs and no gate; an inverter; z = NOR(a, b); no net at all
abbrev pair : Circuit
pair = record { inputs = codes "a" ∷ codes "b" ∷ []; gates = []; outputs = [] }

abbrev inverter : Circuit
inverter = record { inputs = codes "a" ∷ []; gates = gate (codes "y") Not (0 ∷ []) ∷ []; outputs = [] }

abbrev nor2 : Circuit
nor2 = record { inputs = codes "a" ∷ codes "b" ∷ []; gates = gate (codes "z") Nor (0 ∷ 1 ∷ []) ∷ []; outputs = [] }

abbrev nothing : Circuit
nothing = record { inputs = []; gates = []; outputs = [] }

-- the half adder with an OR where the XOR stands
abbrev half_or : Circuit
half_or = record {
  inputs = codes "a" ∷ codes "b" ∷ [];
  gates = gate (codes "s") Or (0 ∷ 1 ∷ []) ∷ gate (codes "c") And (0 ∷ 1 ∷ []) ∷ [];
  outputs = 2 ∷ 3 ∷ [];
}

-- ---- the half adder
half_or-differs : answer StarBmd half_or half_adder half_adder_check ≡ Different (pos 3) (pos 2) (true ∷ true ∷ [])
half_or-differs = refl

-- A product over two levels goes through 31 tables: itself, 7 for each of the four products of parts over one level
-- (itself, 1 for each of four products of entries, and the two cross terms), and the two cross terms. With its operands
-- that is 33. So the XOR has 33 and 4 of its own, the AND 33. Beside them stand the two inputs' variables, 3 tables for
-- each of the four words of one net, the constant 2, its product with c (33), and the sums on both sides (3 each):
-- 2 + 37 + 33 + 12 + 1 + 33 + 3 + 3
half-work : length (forward_work half half_adder half_adder_check) ≡ 124
half-work = refl

-- both sides are equal, so there is no walk: all of this is their building
half-building : building_work half half_adder half_adder_check ≡ forward_work half half_adder half_adder_check
half-building = refl

-- The nodes of these tables' diagrams are those of b, a, a*b, a + b, a + b - 2*a*b, and of 1 - 2*b below the last
half-need : need StarBmd Forward half half_adder half_adder_check ≡ 6
half-need = refl

half-in_range : over StarBmd Forward half half_adder half_adder_check ≡ false
half-in_range = refl

-- six cells are too few, since a full store may be met at the sixth; with two workers one may hold 256 more
half-short : short StarBmd Forward 1 6 half half_adder half_adder_check ≡ true
half-short = refl

half-not_short : short StarBmd Forward 1 7 half half_adder half_adder_check ≡ false
half-not_short = refl

half-short_of_two : short StarBmd Forward 2 262 half half_adder half_adder_check ≡ true
half-short_of_two = refl

half-not_short_of_two : short StarBmd Forward 2 263 half half_adder half_adder_check ≡ false
half-not_short_of_two = refl

-- backward its need is 10, and two passes serve any number of workers above one
half-short_backward : short StarBmd Backward 3 266 half half_adder half_adder_check ≡ true
half-short_backward = refl

half-not_short_backward : short StarBmd Backward 3 267 half half_adder half_adder_check ≡ false
half-not_short_backward = refl

-- from the top level down c, s, a and b
half-levels : backward_nets half half_adder half_adder_check ≡ 3 ∷ 2 ∷ 0 ∷ 1 ∷ []
half-levels = refl

half-letters : backward_letters Evbdd half half_adder half_adder_check ≡ S ∷ S ∷ P ∷ P ∷ []
half-letters = refl

-- a gate and words that the check does not name are no part of its work: s == s has the variables of both inputs, the XOR (37)
-- and 3 tables of its word, and a level for s alone above those of the inputs
abbrev same_sum : Check
same_sum = record { left = word 2; right = word 2 }

same_sum-work : length (forward_work half half_adder same_sum) ≡ 42
same_sum-work = refl

same_sum-levels : backward_nets half half_adder same_sum ≡ 2 ∷ 0 ∷ 1 ∷ []
same_sum-levels = refl

-- ---- an inverter, with the words y and a
abbrev inverted : Check → Specification
inverted check = record { order = 0 ∷ []; letters = P ∷ []; words = single (codes "y") 1 ∷ single (codes "a") 0 ∷ []; checks = check ∷ [] }

-- y == 1 - a
abbrev complement : Check
complement = record { left = word 0; right = difference (number (pos 1)) (word 1) }

inverter-equal : answer StarBmd inverter (inverted complement) complement ≡ Equal 1
inverter-equal = refl

-- The levels are y and a. A product over the level of a goes through 7 tables, and 9 with its operands. On either side the
-- cut of y has the cut function, its two parts and the variable of a (4), the NOT (4), the product of the polynomial
-- with the high part (9) and its sum with the low part (3): 20. The left side has the variable of y and 3 tables of its word
-- beside that, the right side the variable of a, 3 tables of its word, the constant 1 and a difference (4):
-- 20 + 1 + 3 + 20 + 1 + 3 + 1 + 4
inverter-backward_work : length (backward_work StarBmd inverter (inverted complement) complement) ≡ 53
inverter-backward_work = refl

-- At Shannon a product over the level of a goes through 3 tables, and 5 with its operands; beside it stands the difference of
-- the cut function's parts (4). So each side has 4 + 4 + 4 + 5 + 3 tables of the cut, which is 20 too
abbrev inverted_at_shannon : Check → Specification
inverted_at_shannon check = record { order = 0 ∷ []; letters = S ∷ []; words = single (codes "y") 1 ∷ single (codes "a") 0 ∷ []; checks = check ∷ [] }

shannon-backward_work : length (backward_work Evbdd inverter (inverted_at_shannon complement) complement) ≡ 53
shannon-backward_work = refl

-- y == a differs, so that the walk at the level of a and below it is work: twice 20 + 1 + 3, and 4
abbrev unchanged : Check
unchanged = record { left = word 0; right = word 1 }

shannon-backward_walk : length (backward_work Evbdd inverter (inverted_at_shannon unchanged) unchanged) ≡ 52
shannon-backward_walk = refl

-- the variable of a, the NOT (4), 3 tables of each word, and the walk
shannon-forward_walk : length (forward_work inverter (inverted_at_shannon unchanged) unchanged) ≡ 15
shannon-forward_walk = refl

-- 2^126 times y and 2^126 times a: at no assignment both are 1, but the backward method has y and a as variables
abbrev never_both : Check
never_both = record { left = sum (great (word 0)) (great (word 1)); right = great (number (pos 1)) }

never_both-forward : over Evbdd Forward inverter (inverted_at_shannon never_both) never_both ≡ false
never_both-forward = refl

never_both-backward : over Evbdd Backward inverter (inverted_at_shannon never_both) never_both ≡ true
never_both-backward = refl

-- y - 2 == 0 - a
abbrev less_two : Check
less_two = record { left = difference (word 0) (number (pos 2)); right = difference (number (pos 0)) (word 1) }

inverter-differs : answer StarBmd inverter (inverted less_two) less_two ≡ Different (negsuc 0) (pos 0) (false ∷ [])
inverter-differs = refl

-- ---- constants
abbrev constants : Check
constants = record { left = number (pos 3); right = number (pos 3) }

abbrev of_pair : List ℕ → Check → Specification
of_pair order check = record { order = order; letters = P ∷ P ∷ []; words = single (codes "a") 0 ∷ []; checks = check ∷ [] }

constants-equal : answer StarBmd pair (of_pair (0 ∷ 1 ∷ []) constants) constants ≡ Equal 0
constants-equal = refl

abbrev one_is_two : Check
one_is_two = record { left = number (pos 1); right = number (pos 2) }

nothing-differs : answer StarBmd nothing (record { order = []; letters = []; words = []; checks = one_is_two ∷ [] }) one_is_two ≡ Different (pos 1) (pos 2) []
nothing-differs = refl

-- ---- the order of the inputs: a == 0 with a above b, and with b above a
abbrev is_zero : Check
is_zero = record { left = word 0; right = number (pos 0) }

a_first : answer StarBmd pair (of_pair (0 ∷ 1 ∷ []) is_zero) is_zero ≡ Different (pos 1) (pos 0) (true ∷ false ∷ [])
a_first = refl

b_first : answer StarBmd pair (of_pair (1 ∷ 0 ∷ []) is_zero) is_zero ≡ Different (pos 1) (pos 0) (false ∷ true ∷ [])
b_first = refl

-- ---- z == (1 - a)*(1 - b) for a NOR, with positive and with negative Davio
abbrev nor_check : Check
nor_check = record {
  left = word 2;
  right = product (difference (number (pos 1)) (word 0)) (difference (number (pos 1)) (word 1));
}

abbrev of_nor : Decomp → Specification
of_nor d = record {
  order = 0 ∷ 1 ∷ [];
  letters = d ∷ d ∷ [];
  words = single (codes "a") 0 ∷ single (codes "b") 1 ∷ single (codes "z") 2 ∷ [];
  checks = nor_check ∷ [];
}

nor-positive_davio : answer Hdd nor2 (of_nor P) nor_check ≡ Equal 3
nor-positive_davio = refl

nor-negative_davio : answer Hdd nor2 (of_nor N) nor_check ≡ Equal 2
nor-negative_davio = refl

-- ---- the output 22 of C17 is 1 - p*q, with p and q its nets 10 and 16
abbrev c17_check : Check
c17_check = record { left = word 0; right = difference (number (pos 1)) (product (word 1) (word 2)) }

abbrev of_c17 : Specification
of_c17 = record {
  order = 0 ∷ 1 ∷ 2 ∷ 3 ∷ 4 ∷ [];
  letters = P ∷ P ∷ P ∷ P ∷ P ∷ [];
  words = single (codes "g") 9 ∷ single (codes "p") 5 ∷ single (codes "q") 7 ∷ [];
  checks = c17_check ∷ [];
}

c17-equal : answer StarBmd c17 of_c17 c17_check ≡ Equal 8
c17-equal = refl

-- ---- 2^127-1 + 1 is no weight
abbrev too_great : Check
too_great = record { left = sum (number (pos 170141183460469231731687303715884105727)) (number (pos 1)); right = number (pos 0) }

too_great-over : over KStarBmd Backward pair (of_pair (0 ∷ 1 ∷ []) too_great) too_great ≡ true
too_great-over = refl

-- where both sides are the same, no value is asked, but the table of the sum is work
abbrev too_great_twice : Check
too_great_twice = record { left = too_great.left; right = too_great.left }

too_great_twice-over : over Hdd Forward pair (of_pair (0 ∷ 1 ∷ []) too_great_twice) too_great_twice ≡ true
too_great_twice-over = refl

-- ---- a table is judged, and its nodes are counted, by the letters from its level on
shannon-below : piece_fits Hdd (P ∷ S ∷ []) (record { level = 1; table = halves (entry (negsuc 0)) (entry (pos 170141183460469231731687303715884105727)) }) ≡ true
shannon-below = refl

davio-below : piece_fits Hdd (S ∷ P ∷ []) (record { level = 1; table = halves (entry (negsuc 0)) (entry (pos 170141183460469231731687303715884105727)) }) ≡ false
davio-below = refl

-- 5 and 7 are the halves at Shannon; with the high part 2 at positive Davio they are another node, of the same level
nodes-below : nodes_of Hdd (P ∷ S ∷ []) (record { level = 1; table = halves (entry (pos 5)) (entry (pos 7)) } ∷ record { level = 1; table = entry (pos 5) } ∷ [])
    ≡ node 1 (weights (pos 5) (pos 0)) leaf (weights (pos 7) (pos 0)) leaf ∷ []
nodes-below = refl

-- ---- 2^126*a + 2^126*b is 2^127 where both are 1, though each table that it goes through fits
abbrev great_sum : Formula
great_sum = sum (great (word 0)) (great (word 1))

-- the same but where both are 1
abbrev great_either : Formula
great_either = sum (great (word 0)) (great (difference (word 1) (product (word 0) (word 1))))

abbrev great_left : Check
great_left = record { left = great_sum; right = great_either }

abbrev great_right : Check
great_right = record { left = great_either; right = great_sum }

abbrev of_both : Check → Specification
of_both check = record { order = 0 ∷ 1 ∷ []; letters = P ∷ P ∷ []; words = single (codes "a") 0 ∷ single (codes "b") 1 ∷ []; checks = check ∷ [] }

great_left-fits : list_all (piece_fits Hdd (P ∷ P ∷ [])) (forward_work pair (of_both great_left) great_left) ≡ true
great_left-fits = refl

great_left-over : over Hdd Forward pair (of_both great_left) great_left ≡ true
great_left-over = refl

great_right-over : over Hdd Forward pair (of_both great_right) great_right ≡ true
great_right-over = refl

-- ---- the work of a check in which one of two inputs stands, and which differs
is_zero-input : length (input_work pair (of_pair (0 ∷ 1 ∷ []) is_zero) is_zero) ≡ 1
is_zero-input = refl

-- both tables at each of three levels
is_zero-walk : length (forward_work pair (of_pair (0 ∷ 1 ∷ []) is_zero) is_zero) ≡ length (building_work pair (of_pair (0 ∷ 1 ∷ []) is_zero) is_zero) + 6
is_zero-walk = refl

-- ---- passes over the table of nodes
forward-passes_of_three : passes Forward 3 ≡ 3
forward-passes_of_three = refl

backward-passes_of_one : passes Backward 1 ≡ 1
backward-passes_of_one = refl

backward-passes_of_three : passes Backward 3 ≡ 2
backward-passes_of_three = refl

-- ---- the second entries are the first that differ
second_is_first : IsFirstDifference 1 (halves (entry (pos 1)) (entry (pos 2))) (halves (entry (pos 1)) (entry (negsuc 0)))
    (record { at = true ∷ []; left = pos 2; right = negsuc 0 })
second_is_first = first_difference_found.found 1 _ _ _ (tt, tt) (tt, tt) refl
