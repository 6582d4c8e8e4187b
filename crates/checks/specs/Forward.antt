-- The tables of a check's work by the forward method, from the inputs to the outputs.
use Rattle.std.specs.Prelude.{◌≡◌, ℕ, List, [], ◌∷◌, ◌++◌, map, filter, flat_map, if◌then◌else◌, refl}
use Rattle.std.specs.List.{range_with_len}
use Rattle.std.specs.Option.{option_map_or}
use Rattle.circuits.specs.Circuit.{Circuit, input_count, gate_of}
use Rattle.circuits.specs.Examples.{half}
use Rattle.circuits.specs.Cone.{cone, is_in_cone}
use Rattle.spec_lang.specs.Named.{nets_named, words_of_check}
use Rattle.spec_lang.specs.Specification.{Check, Specification}
use Rattle.spec_lang.specs.Value.{nets_of}
use Rattle.tables.specs.Table.{Table, same_table, variable_table}
use Rattle.word_base.specs.declared.decomp.Decomp.{Decomp}
use Rattle.word_base.specs.declared.decomp.Decomp.TheVariants.{P}
use Rattle.checks.specs.Sides.{net_table, side}
use Rattle.tables.specs.Pieces.{Piece, pieces, mul_work}
use Rattle.checks.specs.Work.{gate_work, word_work, walk}
use Rattle.checks.specs.FormulaWork.{formula_work}

-- the variable of each input in the cone
abbrev pub input_work : Circuit → Specification → Check → List Piece
input_work c s check =
    pieces 0 (map (net_table c s) (filter (is_in_cone c (nets_named s check)) (range_with_len 0 (input_count c))))

-- the steps of the fold of a net's gate, by the letters of the levels and the tables of the nets
abbrev pub net_work : Circuit → List Decomp → (ℕ → Table) → ℕ → List Piece
net_work c letters table net = option_map_or (λ gate. gate_work gate.word letters 0 (map table gate.inputs)) (gate_of c net) []

-- the steps of all gates of the check's cone
abbrev pub cone_work : Circuit → Specification → Check → List Piece
cone_work c s check = flat_map (net_work c s.letters (net_table c s)) (cone c (nets_named s check))

abbrev pub word_work_of : Circuit → Specification → ℕ → List Piece
word_work_of c s w = word_work 0 (map (net_table c s) (nets_of s.words w))

-- the walk to the first difference, where there is one
abbrev pub difference_work : ℕ → Circuit → Specification → Check → List Piece
difference_work l c s check =
    let left = side c s check.left in
    let right = side c s check.right in
    if same_table left right then [] else walk s.letters l left right

-- the work of building both sides
abbrev pub building_work : Circuit → Specification → Check → List Piece
building_work c s check =
    input_work c s check
    ++ cone_work c s check
    ++ flat_map (word_work_of c s) (words_of_check check)
    ++ formula_work s.letters 0 (side c s) check.left
    ++ formula_work s.letters 0 (side c s) check.right

abbrev pub forward_work : Circuit → Specification → Check → List Piece
forward_work c s check = building_work c s check ++ difference_work 0 c s check

-- the AND of the half adder multiplies the variables that it reads
half-carry_work : net_work half (P ∷ P ∷ []) (variable_table 2) 3 ≡ mul_work (P ∷ P ∷ []) 0 (variable_table 2 0) (variable_table 2 1)
half-carry_work = refl

-- an input has no gate
half-input_work : net_work half (P ∷ P ∷ []) (variable_table 2) 0 ≡ []
half-input_work = refl
