-- Checks of small netlists, as another program computed them from the same definitions: the need, whether the check is over
-- the range of weights, and the answer. Each specification stands above its data, its lines parted by /.
use Rattle.std.specs.Prelude.{◌≡◌, pos, negsuc, true, false, [], ◌∷◌, codes, refl}
use Rattle.circuits.specs.Circuit.{Circuit}
use Rattle.circuits.specs.Examples.{gate, half}
use Rattle.circuits.specs.declared.gate_word.GateWord.TheVariants.{And, Nand, Or, Nor, Xor, Xnor, Not}
use Rattle.spec_lang.specs.Formula.{number, word, negative, sum, difference, product}
use Rattle.spec_lang.specs.Specification.{Check, Specification}
use Rattle.word_base.specs.declared.decomp.Decomp.{Decomp}
use Rattle.word_base.specs.declared.decomp.Decomp.TheVariants.{S, P}
use Rattle.word_base.specs.declared.kind_name.KindName.TheVariants.{Evbdd, StarBmd, Hdd, KStarBmd}
use Rattle.checks.specs.declared.method.Method.TheVariants.{Forward, Backward}
use Rattle.checks.specs.Answer.{answer}
use Rattle.checks.specs.declared.verdict.Verdict.TheVariants.{Equal, Different}
use Rattle.checks.specs.Limits.{need, over}

abbrev full : Circuit
full = record { inputs = (codes "a" ∷ codes "b" ∷ codes "ci" ∷ []); gates = (gate (codes "x") Xor (0 ∷ 1 ∷ []) ∷ gate (codes "s") Xor (3 ∷ 2 ∷ []) ∷ gate (codes "g") And (0 ∷ 1 ∷ []) ∷ gate (codes "h") And (3 ∷ 2 ∷ []) ∷ gate (codes "co") Or (5 ∷ 6 ∷ []) ∷ []); outputs = [] }

abbrev mix : Circuit
mix = record { inputs = (codes "p" ∷ codes "q" ∷ []); gates = (gate (codes "n") Not (0 ∷ []) ∷ gate (codes "y") Nor (2 ∷ 1 ∷ 0 ∷ []) ∷ gate (codes "z") Nand (3 ∷ []) ∷ gate (codes "w") Xnor (4 ∷ 1 ∷ []) ∷ []); outputs = [] }

-- HALF: word a = a / word b = b / word s = s / word c = c / check s + 2*c == a + b
abbrev check_0 : Check
check_0 = record { left = (sum (word 2) (product (number (pos 2)) (word 3))); right = (sum (word 0) (word 1)) }

abbrev spec_check_0 : Decomp → Specification
spec_check_0 d = record { order = (0 ∷ 1 ∷ []); letters = (d ∷ d ∷ []); words = ((record { name = codes "a"; nets = (0 ∷ []) }) ∷ (record { name = codes "b"; nets = (1 ∷ []) }) ∷ (record { name = codes "s"; nets = (2 ∷ []) }) ∷ (record { name = codes "c"; nets = (3 ∷ []) }) ∷ []); checks = check_0 ∷ [] }

-- HALF: word a = a / word b = b / word s = s / word c = c / check s + c == a + b
abbrev check_1 : Check
check_1 = record { left = (sum (word 2) (word 3)); right = (sum (word 0) (word 1)) }

abbrev spec_check_1 : Decomp → Specification
spec_check_1 d = record { order = (0 ∷ 1 ∷ []); letters = (d ∷ d ∷ []); words = ((record { name = codes "a"; nets = (0 ∷ []) }) ∷ (record { name = codes "b"; nets = (1 ∷ []) }) ∷ (record { name = codes "s"; nets = (2 ∷ []) }) ∷ (record { name = codes "c"; nets = (3 ∷ []) }) ∷ []); checks = check_1 ∷ [] }

-- HALF: word a = a / word s = s c / check s*s - a == -a + 3*s
abbrev check_2 : Check
check_2 = record { left = (difference (product (word 1) (word 1)) (word 0)); right = (sum (negative (word 0)) (product (number (pos 3)) (word 1))) }

abbrev spec_check_2 : Decomp → Specification
spec_check_2 d = record { order = (0 ∷ 1 ∷ []); letters = (d ∷ d ∷ []); words = ((record { name = codes "a"; nets = (0 ∷ []) }) ∷ (record { name = codes "s"; nets = (2 ∷ 3 ∷ []) }) ∷ []); checks = check_2 ∷ [] }

-- FULL: word s = s co / word a = a / word b = b / word d = ci / check s == a + b + d
abbrev check_3 : Check
check_3 = record { left = (word 0); right = (sum (sum (word 1) (word 2)) (word 3)) }

abbrev spec_check_3 : Decomp → Specification
spec_check_3 d = record { order = (0 ∷ 1 ∷ 2 ∷ []); letters = (d ∷ d ∷ d ∷ []); words = ((record { name = codes "s"; nets = (4 ∷ 7 ∷ []) }) ∷ (record { name = codes "a"; nets = (0 ∷ []) }) ∷ (record { name = codes "b"; nets = (1 ∷ []) }) ∷ (record { name = codes "d"; nets = (2 ∷ []) }) ∷ []); checks = check_3 ∷ [] }

-- FULL: order ci a b / word s = s co / word a = a / word b = b / check s == a + b
abbrev check_4 : Check
check_4 = record { left = (word 0); right = (sum (word 1) (word 2)) }

abbrev spec_check_4 : Decomp → Specification
spec_check_4 d = record { order = (2 ∷ 0 ∷ 1 ∷ []); letters = (d ∷ d ∷ d ∷ []); words = ((record { name = codes "s"; nets = (4 ∷ 7 ∷ []) }) ∷ (record { name = codes "a"; nets = (0 ∷ []) }) ∷ (record { name = codes "b"; nets = (1 ∷ []) }) ∷ []); checks = check_4 ∷ [] }

-- MIX: word y = y z w / word p = p q p / check y*p == p*y
abbrev check_5 : Check
check_5 = record { left = (product (word 0) (word 1)); right = (product (word 1) (word 0)) }

abbrev spec_check_5 : Decomp → Specification
spec_check_5 d = record { order = (0 ∷ 1 ∷ []); letters = (d ∷ d ∷ []); words = ((record { name = codes "y"; nets = (3 ∷ 4 ∷ 5 ∷ []) }) ∷ (record { name = codes "p"; nets = (0 ∷ 1 ∷ 0 ∷ []) }) ∷ []); checks = check_5 ∷ [] }

-- MIX: word y = y / word w = w / check y - w == 85070591730234615865843651857942052864 * w * 2
abbrev check_6 : Check
check_6 = record { left = (difference (word 0) (word 1)); right = (product (product (number (pos 85070591730234615865843651857942052864)) (word 1)) (number (pos 2))) }

abbrev spec_check_6 : Decomp → Specification
spec_check_6 d = record { order = (0 ∷ 1 ∷ []); letters = (d ∷ d ∷ []); words = ((record { name = codes "y"; nets = (3 ∷ []) }) ∷ (record { name = codes "w"; nets = (5 ∷ []) }) ∷ []); checks = check_6 ∷ [] }

half_evbdd_backward_1-need : need Evbdd Backward half (spec_check_0 S) check_0 ≡ 17
half_evbdd_backward_1-need = refl

half_evbdd_backward_1-over : over Evbdd Backward half (spec_check_0 S) check_0 ≡ false
half_evbdd_backward_1-over = refl

half_evbdd_backward_1-answer : answer Evbdd half (spec_check_0 S) check_0 ≡ Equal 2
half_evbdd_backward_1-answer = refl

half_star_bmd_forward_2-need : need StarBmd Forward half (spec_check_0 P) check_0 ≡ 6
half_star_bmd_forward_2-need = refl

half_star_bmd_forward_2-over : over StarBmd Forward half (spec_check_0 P) check_0 ≡ false
half_star_bmd_forward_2-over = refl

half_star_bmd_forward_2-answer : answer StarBmd half (spec_check_0 P) check_0 ≡ Equal 2
half_star_bmd_forward_2-answer = refl

half_star_bmd_backward_3-need : need StarBmd Backward half (spec_check_0 P) check_0 ≡ 10
half_star_bmd_backward_3-need = refl

half_star_bmd_backward_3-over : over StarBmd Backward half (spec_check_0 P) check_0 ≡ false
half_star_bmd_backward_3-over = refl

half_star_bmd_backward_3-answer : answer StarBmd half (spec_check_0 P) check_0 ≡ Equal 2
half_star_bmd_backward_3-answer = refl

half_hdd_backward_5-need : need Hdd Backward half (spec_check_0 P) check_0 ≡ 15
half_hdd_backward_5-need = refl

half_hdd_backward_5-over : over Hdd Backward half (spec_check_0 P) check_0 ≡ false
half_hdd_backward_5-over = refl

half_hdd_backward_5-answer : answer Hdd half (spec_check_0 P) check_0 ≡ Equal 2
half_hdd_backward_5-answer = refl

half_k_star_bmd_backward_7-need : need KStarBmd Backward half (spec_check_0 P) check_0 ≡ 9
half_k_star_bmd_backward_7-need = refl

half_k_star_bmd_backward_7-over : over KStarBmd Backward half (spec_check_0 P) check_0 ≡ false
half_k_star_bmd_backward_7-over = refl

half_k_star_bmd_backward_7-answer : answer KStarBmd half (spec_check_0 P) check_0 ≡ Equal 2
half_k_star_bmd_backward_7-answer = refl

half_hdd_forward_12-need : need Hdd Forward half (spec_check_1 P) check_1 ≡ 12
half_hdd_forward_12-need = refl

half_hdd_forward_12-over : over Hdd Forward half (spec_check_1 P) check_1 ≡ false
half_hdd_forward_12-over = refl

half_hdd_forward_12-answer : answer Hdd half (spec_check_1 P) check_1 ≡ Different (pos 1) (pos 2) (true ∷ true ∷ [])
half_hdd_forward_12-answer = refl

half_k_star_bmd_backward_15-need : need KStarBmd Backward half (spec_check_1 P) check_1 ≡ 10
half_k_star_bmd_backward_15-need = refl

half_k_star_bmd_backward_15-over : over KStarBmd Backward half (spec_check_1 P) check_1 ≡ false
half_k_star_bmd_backward_15-over = refl

half_k_star_bmd_backward_15-answer : answer KStarBmd half (spec_check_1 P) check_1 ≡ Different (pos 1) (pos 2) (true ∷ true ∷ [])
half_k_star_bmd_backward_15-answer = refl

half_evbdd_backward_17-need : need Evbdd Backward half (spec_check_2 S) check_2 ≡ 48
half_evbdd_backward_17-need = refl

half_evbdd_backward_17-over : over Evbdd Backward half (spec_check_2 S) check_2 ≡ false
half_evbdd_backward_17-over = refl

half_evbdd_backward_17-answer : answer Evbdd half (spec_check_2 S) check_2 ≡ Different (pos 1) (pos 3) (false ∷ true ∷ [])
half_evbdd_backward_17-answer = refl

half_star_bmd_forward_18-need : need StarBmd Forward half (spec_check_2 P) check_2 ≡ 10
half_star_bmd_forward_18-need = refl

half_star_bmd_forward_18-over : over StarBmd Forward half (spec_check_2 P) check_2 ≡ false
half_star_bmd_forward_18-over = refl

half_star_bmd_forward_18-answer : answer StarBmd half (spec_check_2 P) check_2 ≡ Different (pos 1) (pos 3) (false ∷ true ∷ [])
half_star_bmd_forward_18-answer = refl

half_k_star_bmd_backward_23-need : need KStarBmd Backward half (spec_check_2 P) check_2 ≡ 20
half_k_star_bmd_backward_23-need = refl

half_k_star_bmd_backward_23-over : over KStarBmd Backward half (spec_check_2 P) check_2 ≡ false
half_k_star_bmd_backward_23-over = refl

half_k_star_bmd_backward_23-answer : answer KStarBmd half (spec_check_2 P) check_2 ≡ Different (pos 1) (pos 3) (false ∷ true ∷ [])
half_k_star_bmd_backward_23-answer = refl

full_star_bmd_forward_26-need : need StarBmd Forward full (spec_check_3 P) check_3 ≡ 18
full_star_bmd_forward_26-need = refl

full_star_bmd_forward_26-over : over StarBmd Forward full (spec_check_3 P) check_3 ≡ false
full_star_bmd_forward_26-over = refl

full_star_bmd_forward_26-answer : answer StarBmd full (spec_check_3 P) check_3 ≡ Equal 3
full_star_bmd_forward_26-answer = refl

full_hdd_forward_28-need : need Hdd Forward full (spec_check_3 P) check_3 ≡ 38
full_hdd_forward_28-need = refl

full_hdd_forward_28-over : over Hdd Forward full (spec_check_3 P) check_3 ≡ false
full_hdd_forward_28-over = refl

full_hdd_forward_28-answer : answer Hdd full (spec_check_3 P) check_3 ≡ Equal 3
full_hdd_forward_28-answer = refl

full_evbdd_forward_32-need : need Evbdd Forward full (spec_check_4 S) check_4 ≡ 24
full_evbdd_forward_32-need = refl

full_evbdd_forward_32-over : over Evbdd Forward full (spec_check_4 S) check_4 ≡ false
full_evbdd_forward_32-over = refl

full_evbdd_forward_32-answer : answer Evbdd full (spec_check_4 S) check_4 ≡ Different (pos 1) (pos 0) (true ∷ false ∷ false ∷ [])
full_evbdd_forward_32-answer = refl

full_hdd_forward_36-need : need Hdd Forward full (spec_check_4 P) check_4 ≡ 25
full_hdd_forward_36-need = refl

full_hdd_forward_36-over : over Hdd Forward full (spec_check_4 P) check_4 ≡ false
full_hdd_forward_36-over = refl

full_hdd_forward_36-answer : answer Hdd full (spec_check_4 P) check_4 ≡ Different (pos 1) (pos 0) (true ∷ false ∷ false ∷ [])
full_hdd_forward_36-answer = refl

mix_evbdd_forward_40-need : need Evbdd Forward mix (spec_check_5 S) check_5 ≡ 19
mix_evbdd_forward_40-need = refl

mix_evbdd_forward_40-over : over Evbdd Forward mix (spec_check_5 S) check_5 ≡ false
mix_evbdd_forward_40-over = refl

mix_evbdd_forward_40-answer : answer Evbdd mix (spec_check_5 S) check_5 ≡ Equal 3
mix_evbdd_forward_40-answer = refl

mix_k_star_bmd_forward_46-need : need KStarBmd Forward mix (spec_check_5 P) check_5 ≡ 9
mix_k_star_bmd_forward_46-need = refl

mix_k_star_bmd_forward_46-over : over KStarBmd Forward mix (spec_check_5 P) check_5 ≡ false
mix_k_star_bmd_forward_46-over = refl

mix_k_star_bmd_forward_46-answer : answer KStarBmd mix (spec_check_5 P) check_5 ≡ Equal 2
mix_k_star_bmd_forward_46-answer = refl

mix_evbdd_forward_48-need : need Evbdd Forward mix (spec_check_6 S) check_6 ≡ 14
mix_evbdd_forward_48-need = refl

mix_evbdd_forward_48-over : over Evbdd Forward mix (spec_check_6 S) check_6 ≡ true
mix_evbdd_forward_48-over = refl

mix_evbdd_forward_48-answer : answer Evbdd mix (spec_check_6 S) check_6 ≡ Different (negsuc 0) (pos 170141183460469231731687303715884105728) (false ∷ true ∷ [])
mix_evbdd_forward_48-answer = refl

mix_hdd_forward_52-need : need Hdd Forward mix (spec_check_6 P) check_6 ≡ 19
mix_hdd_forward_52-need = refl

mix_hdd_forward_52-over : over Hdd Forward mix (spec_check_6 P) check_6 ≡ true
mix_hdd_forward_52-over = refl

mix_hdd_forward_52-answer : answer Hdd mix (spec_check_6 P) check_6 ≡ Different (negsuc 0) (pos 170141183460469231731687303715884105728) (false ∷ true ∷ [])
mix_hdd_forward_52-answer = refl

mix_k_star_bmd_forward_54-need : need KStarBmd Forward mix (spec_check_6 P) check_6 ≡ 6
mix_k_star_bmd_forward_54-need = refl

mix_k_star_bmd_forward_54-over : over KStarBmd Forward mix (spec_check_6 P) check_6 ≡ true
mix_k_star_bmd_forward_54-over = refl

mix_k_star_bmd_forward_54-answer : answer KStarBmd mix (spec_check_6 P) check_6 ≡ Different (negsuc 0) (pos 170141183460469231731687303715884105728) (false ∷ true ∷ [])
mix_k_star_bmd_forward_54-answer = refl
