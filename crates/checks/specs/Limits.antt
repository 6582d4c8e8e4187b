-- When a limit may be answered in place of a check's answer.
use Rattle.std.specs.Prelude.{ℕ, ◌+◌, ◌-◌, ◌*◌, ◌==◌, Bool, true, not, ◌&&◌, ◌||◌, List, [], ◌∷◌, length, drop, if◌then◌else◌, nat_le}
use Rattle.std.specs.List.{list_all}
use Rattle.std.specs.Option.{option_map_or}
use Rattle.circuits.specs.Circuit.{Circuit}
use Rattle.spec_lang.specs.Placed.{net_values}
use Rattle.spec_lang.specs.Specification.{Check, Specification}
use Rattle.spec_lang.specs.Value.{all_in_range}
use Rattle.tables.specs.Tree.{Shape}
use Rattle.tables.specs.Canonical.{canonical, add_nodes}
use Rattle.tables.specs.Fits.{fits}
use Rattle.tables.specs.Pieces.{Piece}
use Rattle.word_base.specs.declared.decomp.Decomp.{Decomp}
use Rattle.word_base.specs.declared.kind_name.KindName.{KindName}
use Rattle.checks.specs.declared.method.Method.{Method}
use Rattle.checks.specs.declared.method.Method.TheVariants.{Forward, Backward}
use Rattle.checks.specs.Sides.{side}
use Rattle.checks.specs.Answer.{first_difference}
use Rattle.checks.specs.Forward.{forward_work}
use Rattle.checks.specs.Backward.{backward_letters, backward_work}

abbrev pub work : KindName → Method → Circuit → Specification → Check → List Piece
work k Forward c s check = forward_work c s check
work k Backward c s check = backward_work k c s check

abbrev pub work_letters : KindName → Method → Circuit → Specification → Check → List Decomp
work_letters k Forward c s check = s.letters
work_letters k Backward c s check = backward_letters k c s check

-- whether the table fits the kind
abbrev pub piece_fits : KindName → List Decomp → Piece → Bool
piece_fits k ds piece = fits k (drop piece.level ds) piece.table

-- whether the values of all sub-formulas of both sides are in range at the first difference, where there is one
abbrev pub values_in_range : Circuit → Specification → Check → Bool
values_in_range c s check =
    option_map_or
    (λ d. let values = net_values c s d.at in
    all_in_range s.words values check.left && all_in_range s.words values check.right)
    (first_difference (side c s check.left) (side c s check.right)) true

-- the check is over the range of weights: some table of its work does not fit, or some value does not
abbrev pub over : KindName → Method → Circuit → Specification → Check → Bool
over k m c s check =
    not (list_all (piece_fits k (work_letters k m c s check)) (work k m c s check)) || not (values_in_range c s check)

-- the different nodes of the canonical diagrams of all tables
abbrev pub nodes_of : KindName → List Decomp → List Piece → List Shape
nodes_of k ds [] = []
nodes_of k ds (piece ∷ rest) =
    add_nodes (canonical k (drop piece.level ds) piece.level piece.table).shape (nodes_of k ds rest)

-- how many nodes the check's work has
abbrev pub need : KindName → Method → Circuit → Specification → Check → ℕ
need k m c s check = length (nodes_of k (work_letters k m c s check) (work k m c s check))

-- how many passes over the table of nodes a method has
abbrev pub passes : Method → ℕ → ℕ
passes Forward workers = workers
passes Backward workers = if workers == 1 then 1 else 2

-- the cells that a pass takes at a time
abbrev pub chunk : ℕ
chunk = 256

-- the check is short of cells: each pass but one may hold a chunk that it does not fill
abbrev pub short : KindName → Method → ℕ → ℕ → Circuit → Specification → Check → Bool
short k m workers cells c s check = nat_le cells (need k m c s check + chunk * (passes m workers - 1))
