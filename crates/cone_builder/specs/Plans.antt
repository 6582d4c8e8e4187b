-- What a check needs of its netlist, and what the building of this gives. Private functions and proofs use it.
use Rattle.word_base.specs.declared.kind_name.KindName.{KindName}
use Rattle.std.specs.Prelude.{◌≡◌, ℕ, ◌<◌, true, false, Bool, List, [], ◌∷◌, length, All, Contains, OnOk, Result, refl}
use Rattle.checks.specs.Forward.{net_work}
use Rattle.circuits.specs.Circuit.{Circuit, IsGate, input_count, net_count}
use Rattle.circuits.specs.Cone.{cone, is_in_cone}
use Rattle.circuits.specs.Valuation.{bit_of}
use Rattle.spec_lang.specs.Specification.{Specification}
use Rattle.diagram.specs.Answers.{Causes}
use Rattle.diagram.specs.View.{View}
use Rattle.kind_laws.specs.Plain.{PlainEdge}
use Rattle.tables.specs.Pieces.{Piece, pieces}
use Rattle.tables.specs.Table.{Table}
use Rattle.word_apply.specs.Applied.{AreEdges}
use Rattle.cone_builder.specs.Built.{AreBuilt, AreGates, AreVariables, ComeAfter, is_marked, or_listed}
use Rattle.cone_builder.specs.Causes.{Includes, limit_met}
use Rattle.cone_builder.specs.declared.build_error.BuildError.{BuildError}
use Rattle.cone_builder.specs.declared.plan.Plan.{Plan}

-- all inputs in order, which nets are needed, and the gates in order
pub record PlainPlan : Type 0 where
  pub order : List ℕ
  pub marks : List Bool
  pub gates : List ℕ

abbrev pub plain_plan : Plan → PlainPlan
plain_plan plan = record { order = plan.order.now; marks = plan.marks.now; gates = plan.gates.now }

-- the input is needed
abbrev pub is_needed : PlainPlan → ℕ → Bool
is_needed plan = is_marked plan.order plan.marks

-- a needed input, or a gate of the plan
abbrev pub is_planned : PlainPlan → ℕ → Bool
is_planned plan = or_listed (is_needed plan) plan.gates

-- the plan has inputs, marks and gates of the circuit
pub record IsPlan (c : Circuit) (plan : PlainPlan) : Type 0 where
  pub order : length plan.order ≡ input_count c
  pub inputs : All (λ net. net < input_count c) plan.order
  pub marks : length plan.marks ≡ net_count c
  pub gates : All (IsGate c) plan.gates

-- the plan of the nets that are named: the specification's order, all that these nets reach, and their cone
pub record IsPlanOf (c : Circuit) (s : Specification) (named : List ℕ) (plan : PlainPlan) : Type 0 where
  pub order : plan.order ≡ s.order
  pub marks : (net : ℕ) → net < net_count c → bit_of plan.marks net ≡ is_in_cone c named net
  pub gates : plan.gates ≡ cone c named

-- tables of nets that a plan's order can build: those of variables, and of gates that come after all that they read
pub record CanBuild (c : Circuit) (v : View) (plan : PlainPlan) (table : ℕ → Table) : Type 0 where
  pub variables : AreVariables v plan.order table
  pub gates : AreGates c table
  pub after : ComeAfter c (is_needed plan) plan.gates

-- the pieces have the work of each input and each gate of the plan
pub record CoversPlan (c : Circuit) (v : View) (plan : PlainPlan) (table : ℕ → Table) (ps : List Piece) : Type 0 where
  pub inputs : (net : ℕ) → is_needed plan net ≡ true → Includes ps (pieces 0 (table net ∷ []))
  pub gates : (net : ℕ) → Contains plan.gates net → Includes ps (net_work c v.letters table net)

-- the edges of all that is planned stand for its tables, and all that was made and refused has its cause in the plan's work
pub record BuildsPlan (k : KindName) (c : Circuit) (old new : View) (plan : PlainPlan) (edges : List PlainEdge) {X : Type 0} (result : Result X BuildError) : Type 0 where
  pub good : OnOk result (AreEdges k new edges)
  pub built : OnOk result ((table : ℕ → Table) → CanBuild c old plan table → AreBuilt k new table (is_planned plan) edges)
  pub causes : (table : ℕ → Table) (ps : List Piece) → CanBuild c old plan table → CoversPlan c old plan table ps → Causes k old new ps (limit_met result)

-- of the inputs 0 and 1 the second is needed, and the gate 2
abbrev some_plan : PlainPlan
some_plan = record { order = 1 ∷ 0 ∷ []; marks = false ∷ true ∷ true ∷ []; gates = 2 ∷ [] }

a-needed_input : is_needed some_plan 1 ≡ true
a-needed_input = refl

an-input_that_is_not : is_planned some_plan 0 ≡ false
an-input_that_is_not = refl

a-planned_gate : is_planned some_plan 2 ≡ true
a-planned_gate = refl
