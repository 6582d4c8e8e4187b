-- The tables of a check's work by the backward method: each side is built with each net as a variable, and then the
-- top variable is replaced by its gate's polynomial, until inputs alone are left.
use Rattle.std.specs.Prelude.{ℕ, ◌+◌, List, [], ◌∷◌, ◌++◌, map, reverse, flat_map, length, replicate, drop}
use Rattle.std.specs.Option.{option_map_or}
use Rattle.circuits.specs.Circuit.{Circuit, Gate, net_count, gate_of}
use Rattle.circuits.specs.Cone.{cone}
use Rattle.spec_lang.specs.Formula.{Formula}
use Rattle.spec_lang.specs.Named.{words_named, nets_named, nets_of_side}
use Rattle.spec_lang.specs.Placed.{place_in, placed}
use Rattle.spec_lang.specs.Specification.{Check, Specification}
use Rattle.spec_lang.specs.Value.{value, nets_of}
use Rattle.tables.specs.Table.{Table, plus, minus, times, part0, part1, tabulate, variable_table}
use Rattle.word_base.specs.Kind.{usual_letter}
use Rattle.word_base.specs.declared.decomp.Decomp.{Decomp}
use Rattle.word_base.specs.declared.decomp.Decomp.TheVariants.{S, P, N}
use Rattle.word_base.specs.declared.kind_name.KindName.{KindName}
use Rattle.tables.specs.Pieces.{Piece, pieces, add_work, sub_work, mul_work}
use Rattle.checks.specs.Work.{gate_table, gate_work, word_work}
use Rattle.checks.specs.FormulaWork.{formula_work}
use Rattle.checks.specs.Forward.{difference_work}

-- the gates of the check's cone, from the top level down
abbrev pub cut_gates : Circuit → Specification → Check → List ℕ
cut_gates c s check = reverse (cone c (nets_named s check))

-- the net of each level: those gates, and then the inputs
abbrev pub backward_nets : Circuit → Specification → Check → List ℕ
backward_nets c s check = cut_gates c s check ++ s.order

abbrev pub backward_letters : KindName → Circuit → Specification → Check → List Decomp
backward_letters k c s check = replicate (length (cut_gates c s check)) (usual_letter k) ++ s.letters

-- the table of a net's variable over levels with these nets
abbrev pub variable : List ℕ → ℕ → Table
variable nets net = variable_table (length nets) (place_in nets net)

-- a formula with each net as a variable
abbrev pub cut_side : Circuit → Specification → List ℕ → Formula → Table
cut_side c s nets formula = tabulate (length nets) (λ bits. value s.words (placed (net_count c) nets bits) formula)

-- The cut function with its top variable replaced by p: the low half, and p times what the high half has more. At
-- negative Davio the low half is the sum of both parts, and the high part what the low half has more
abbrev pub replaced : Decomp → Table → Table → Table
replaced S f p = plus (part0 S f) (times p (minus (part1 S f) (part0 S f)))
replaced P f p = plus (part0 P f) (times p (part1 P f))
replaced N f p = minus (plus (part0 N f) (part1 N f)) (times p (part1 N f))

abbrev pub replace_work : Decomp → List Decomp → ℕ → Table → Table → List Piece
replace_work S ds l f p =
    let change = minus (part1 S f) (part0 S f) in
    sub_work l (part1 S f) (part0 S f) ++ mul_work ds l p change ++ add_work l (part0 S f) (times p change)
replace_work P ds l f p = mul_work ds l p (part1 P f) ++ add_work l (part0 P f) (times p (part1 P f))
replace_work N ds l f p =
    let product = times p (part1 N f) in
    add_work l (part0 N f) (part1 N f) ++ mul_work ds l p (part1 N f) ++ sub_work l (plus (part0 N f) (part1 N f)) product

-- One gate of the cut, whose level is l: the cut function and its parts, the variables of the gate's inputs, the steps
-- of its polynomial and of the replacement. The nets and the letters are those of the levels below
abbrev pub cut_gate_work : Decomp → List Decomp → List ℕ → ℕ → Table → Gate → List Piece
cut_gate_work d ds nets l f gate =
    let inputs = map (variable nets) gate.inputs in
    pieces l (f ∷ []) ++ pieces (l + 1) (part0 d f ∷ part1 d f ∷ inputs)
    ++ gate_work gate.word ds (l + 1) inputs
    ++ replace_work d ds (l + 1) f (gate_table gate.word inputs)

-- all gates of the cut from a level on, where f is the cut function
abbrev pub cut_work : Decomp → Circuit → List ℕ → List ℕ → List Decomp → ℕ → Table → List Piece
cut_work d c [] inputs ds l f = []
cut_work d c (g ∷ gs) inputs ds l f =
    let below = drop 1 ds in
    let nets = gs ++ inputs in
    option_map_or
    (λ gate. cut_gate_work d below nets l f gate
    ++ cut_work d c gs inputs below (l + 1) (replaced d f (gate_table gate.word (map (variable nets) gate.inputs))))
    (gate_of c g) []

abbrev pub side_work : KindName → Circuit → Specification → Check → Formula → List Piece
side_work k c s check formula =
    let gates = cut_gates c s check in
    let nets = backward_nets c s check in
    let ds = backward_letters k c s check in
    pieces 0 (map (variable nets) (nets_of_side s formula))
    ++ flat_map (λ w. word_work 0 (map (variable nets) (nets_of s.words w))) (words_named formula)
    ++ formula_work ds 0 (cut_side c s nets) formula
    ++ cut_work (usual_letter k) c gates s.order ds 0 (cut_side c s nets formula)

abbrev pub backward_work : KindName → Circuit → Specification → Check → List Piece
backward_work k c s check =
    side_work k c s check check.left ++ side_work k c s check check.right
    ++ difference_work (length (cut_gates c s check)) c s check
