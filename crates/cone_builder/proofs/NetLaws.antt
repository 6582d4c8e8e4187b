-- The nets that a check needs: their order, their tables, and which of them are built.
use Rattle.word_base.specs.declared.kind_name.KindName.{KindName}
use Rattle.std.proofs.Common.{◌≡◌, refl, sym, ◌∙◌, ap, subst, ℕ, zero, suc, ◌+◌, ◌-◌, ◌<◌, ◌≤◌, pos, Bool, true, false, ◌&&◌, List, [], ◌∷◌, ◌++◌, length, take, drop, get_or, arith, inl, inr, ⊎_elim, map}
use Rattle.std.specs.Prelude.{◌⊎◌, All, Contains, Err, IfSome, Ok, OnOk, Option, Result, Some, None, slice_get, nat_lt}
use Rattle.std.proofs.lemmas.Bool.{ltb-true, or_left, or_right}
use Rattle.std.proofs.lemmas.Bool.Decides.{nat_tests}
use Rattle.std.proofs.lemmas.List.{length-drop, append-nil, take_all}
use Rattle.std.proofs.Math.Seq.{drop-length}
use Rattle.std.proofs.lemmas.List.Elements.{All-from_get_or, All-contains, All-head, All-tail, Contains-get_or}
use Rattle.std.proofs.lemmas.Option.{get_or_from_slice_get, slice_get_cases}
use Rattle.circuits.specs.Circuit.{Circuit, Gate, IsGate, gate_of, input_count, net_count}
use Rattle.circuits.specs.Cone.{cone, is_in_cone, IsReachedFrom}
use Rattle.circuits.specs.Sound.{IsSound}
use Rattle.circuits.specs.Order.{IsAccepted, IsInput, step, is_among}
use Rattle.circuits.specs.Valuation.{bit_of}
use Rattle.circuits.proofs.Cones.{cone-complete, is_in_cone-reached}
use Rattle.circuits.proofs.Descent.{reaches_on}
use Rattle.circuits.proofs.Members.{Contains-from_among, Contains-nil, among-from_Contains}
use Rattle.spec_lang.specs.Named.{nets_named}
use Rattle.spec_lang.specs.Specification.{Check, Specification, Word}
use Rattle.spec_lang.specs.Value.{nets_of}
use Rattle.spec_lang.specs.WellFormed.{IsOver, IsWellFormed}
use Rattle.spec_lang.proofs.Naming.{named_net_from}
use Rattle.spec_lang.proofs.Placed.{place_in-at}
use Rattle.tables.specs.Table.{Table, variable_table}
use Rattle.checks.specs.Sides.{net_table}
use Rattle.checks.specs.Work.{gate_table}
use Rattle.checks.proofs.GateTables.{gate_tables}
use Rattle.checks.proofs.InputTables.{input_tables}
use Rattle.diagram.specs.View.{View}
use Rattle.kind_laws.specs.Plain.{PlainEdge}
use Rattle.word_apply.specs.Applied.{AreEdges}
use Rattle.cone_builder.specs.Built.{AreBuilt, AreGates, AreVariables, ComeAfter, NetsAreBuilt, is_marked, or_listed}
use Rattle.cone_builder.specs.Plans.{BuildsPlan, CanBuild, IsPlanOf, PlainPlan, is_planned}
use Rattle.cone_builder.specs.declared.build_error.BuildError.{BuildError}
use Rattle.cone_builder.proofs.BuiltLaws.{fewer_built}
use Rattle.cone_builder.proofs.GateLaws.{reads_some}

-- ---- the variables
pub below_length : {X : Type 0} (xs : List X) (i : ℕ) (net : X) → slice_get xs i ≡ Some net → i < length xs
below_length [] i net at = absurd (cc)
below_length (x ∷ xs) zero net at = omega arith
below_length (x ∷ xs) (suc i) net at = let low = below_length xs i net at in omega arith

pub are_variables : (c : Circuit) (s : Specification) (v : View) → IsOver c s → IsWellFormed s → v.letters ≡ s.letters → AreVariables v s.order (net_table c s)
are_variables c s v over good letters = λ level net at.
    let low : level < length s.order = below_length s.order level net at in
    let has = subst (λ (n : ℕ). Contains s.order n) (get_or_from_slice_get s.order level net 0 at) (Contains-get_or s.order level 0 low) in
    let input : net < input_count c = rw (← over.inputs) ((good.order.each_input net).0 has) in
    let many : length v.letters ≡ length s.order = ap length letters ∙ good.one_letter_each in
    input_tables c s net input ∙ ap (variable_table (length s.order)) (place_in-at s.order level net good.order.no_input_twice at)
    ∙ ap (λ (n : ℕ). variable_table n level) (sym many)

-- ---- the gates
gates_at : (c : Circuit) (s : Specification) (net : ℕ) (o : Option Gate) → IsSound c → IsAccepted c → gate_of c net ≡ o →
    IfSome o (λ gate. net_table c s net ≡ gate_table gate.word (map (net_table c s) gate.inputs))
gates_at c s net None sound accepted is = tt
gates_at c s net (Some gate) sound accepted is = gate_tables c s net gate accepted is (reads_some c net gate sound is)

pub are_gates : (c : Circuit) (s : Specification) → IsSound c → IsAccepted c → AreGates c (net_table c s)
are_gates c s sound accepted = λ net. gates_at c s net (gate_of c net) sound accepted refl

pub all_gates : (c : Circuit) (nets gates : List ℕ) → IsAccepted c → gates ≡ cone c nets → All (IsGate c) gates
all_gates c nets gates accepted is =
    subst (All (IsGate c)) (sym is)
    (All-from_get_or (IsGate c) (cone c nets) 0 (λ i low. (((cone-complete c nets accepted).each (get_or (cone c nets) i 0)).0 (Contains-get_or (cone c nets) i 0 low)).0))

-- ---- which nets are built
input_marked : (c : Circuit) (s : Specification) (nets : List ℕ) (marks : List Bool) (net : ℕ) → IsOver c s → IsWellFormed s →
    ((n : ℕ) → n < net_count c → bit_of marks n ≡ is_in_cone c nets n) → net < input_count c → IsReachedFrom c nets net → is_marked s.order marks net ≡ true
input_marked c s nets marks net over good tells input reached =
    let listed = among-from_Contains s.order net ((good.order.each_input net).1 (rw over.inputs input)) in
    let low : net < net_count c = omega (arith, input) in
    both (is_among s.order net) (bit_of marks net) listed (tells net low ∙ (is_in_cone-reached c nets net).1 reached)
  where
    both : (a b : Bool) → a ≡ true → b ≡ true → (a && b) ≡ true
    both a b e f = rw (e, f) refl

pub come_after : (c : Circuit) (s : Specification) (nets gates : List ℕ) (marks : List Bool) → IsOver c s → IsWellFormed s → IsAccepted c →
    ((n : ℕ) → n < net_count c → bit_of marks n ≡ is_in_cone c nets n) → gates ≡ cone c nets → ComeAfter c (is_marked s.order marks) gates
come_after c s nets gates marks over good accepted tells is =
    subst (ComeAfter c (is_marked s.order marks)) (sym is) (λ place net at input reads.
    let topological = cone-complete c nets accepted in
    let low = below_length (cone c nets) place net at in
    let has = subst (λ (n : ℕ). Contains (cone c nets) n) (get_or_from_slice_get (cone c nets) place net 0 at) (Contains-get_or (cone c nets) place 0 low) in
    let reached : IsReachedFrom c nets input = on net input ((topological.each net).0 has).1 reads in
    ⊎_elim
    (λ first. or_left (is_marked s.order marks input) (is_among (take place (cone c nets)) input) (input_marked c s nets marks input over good tells first reached))
    (λ before. or_right (is_marked s.order marks input) (is_among (take place (cone c nets)) input) (among-from_Contains (take place (cone c nets)) input before))
    (topological.after_inputs place net input at reads))
  where
    on : (net input : ℕ) → IsReachedFrom c nets net → IsInput c net input → IsReachedFrom c nets input
    on net input (inl given) reads = inr (net, given, step reads)
    on net input (inr from) reads = inr (from.0, from.1, reaches_on from.2 reads)

-- a net of a check's words is one of the circuit
pub nets_below : (words : List Word) (n w net : ℕ) → All (λ (x : Word). All (λ m. m < n) x.nets) words → Contains (nets_of words w) net → net < n
nets_below [] n w net all has = absurd (Contains-nil net has)
nets_below (x ∷ xs) n zero net all has = All-contains (λ (m : ℕ). m < n) x.nets net (All-head (λ (y : Word). All (λ m. m < n) y.nets) x xs all) has
nets_below (x ∷ xs) n (suc w) net all has = nets_below xs n w net (All-tail (λ (y : Word). All (λ m. m < n) y.nets) x xs all) has

pub named_below : (c : Circuit) (s : Specification) (check : Check) (net : ℕ) → IsOver c s → Contains (nets_named s check) net → net < net_count c
named_below c s check net over has =
    let from = named_net_from s check net has in
    nets_below s.words (net_count c) from.0 net over.nets from.2

below_or_not : (m n : ℕ) → (m < n) ⊎ (n ≤ m)
below_or_not m n = cases (nat_lt m n) refl
  where
    cases : (b : Bool) → nat_lt m n ≡ b → (m < n) ⊎ (n ≤ m)
    cases true is = inl (ltb-true m n is)
    cases false is = inr (grind (arith, nat_tests))

pub named_built : (c : Circuit) (s : Specification) (nets gates : List ℕ) (marks : List Bool) (net : ℕ) → IsOver c s → IsWellFormed s → IsAccepted c →
    ((n : ℕ) → n < net_count c → bit_of marks n ≡ is_in_cone c nets n) → gates ≡ cone c nets → net < net_count c → is_among nets net ≡ true →
    or_listed (is_marked s.order marks) gates net ≡ true
named_built c s nets gates marks net over good accepted tells is low named =
    ⊎_elim
    (λ first. or_left (is_marked s.order marks net) (is_among gates net) (input_marked c s nets marks net over good tells first given))
    (λ gate. or_right (is_marked s.order marks net) (is_among gates net)
    (among-from_Contains gates net (subst (λ (ns : List ℕ). Contains ns net) (sym is) (((cone-complete c nets accepted).each net).1 ((gate, low), given)))))
    (below_or_not net (input_count c))
  where
    given : IsReachedFrom c nets net
    given = inl (Contains-from_among nets net named)

-- ---- what the check's nets are built from
pub if_some_at : {X : Type 0} (o : Option X) (x : X) (P : X → Type 0) → o ≡ Some x → IfSome o P → P x
if_some_at o x P is h = subst (λ (p : Option _). IfSome p P) is h

pub if_some_from : {X : Type 0} (o : Option X) (x : X) (P : X → Type 0) → o ≡ Some x → P x → IfSome o P
if_some_from o x P is h = subst (λ (p : Option _). IfSome p P) (sym is) h

pub check_there : (s : Specification) (number : ℕ) → number < length s.checks → (check : Check) × (slice_get s.checks number ≡ Some check)
check_there s number low =
    elim (slice_get_cases s.checks number).1 as (λ _. (check : Check) × (slice_get s.checks number ≡ Some check)) [
      | inl there ↦ (there.0, there.2)
      | inr past ↦ absurd (omega (arith, low, past.0))
    ]

pub all_named_below : (c : Circuit) (s : Specification) (number : ℕ) (named : List ℕ) → IsOver c s → number < length s.checks →
    IfSome (slice_get s.checks number) (λ check. named ≡ nets_named s check) → All (λ net. net < net_count c) named
all_named_below c s number named over low is =
    let check = check_there s number low in
    let same : named ≡ nets_named s check.0 = if_some_at (slice_get s.checks number) check.0 (λ x. named ≡ nets_named s x) check.1 is in
    All-from_get_or (λ net. net < net_count c) named 0
    (λ i below. named_below c s check.0 (get_or named i 0) over (subst (λ (ns : List ℕ). Contains ns (get_or named i 0)) same (Contains-get_or named i 0 below)))

pub all_inputs : (c : Circuit) (s : Specification) → IsOver c s → IsWellFormed s → All (λ net. net < input_count c) s.order
all_inputs c s over good =
    All-from_get_or (λ net. net < input_count c) s.order 0
    (λ i low. rw (← over.inputs) ((good.order.each_input (get_or s.order i 0)).0 (Contains-get_or s.order i 0 low)))

pub written_back : {X : Type 0} (n : ℕ) (old new : List X) → n ≡ length old → length new ≡ length old → take n (new ++ drop (length new) old) ≡ new
written_back n old new whole same =
    ap (λ rest. take n (new ++ rest)) (ap (λ (j : ℕ). drop j old) same ∙ drop-length old)
    ∙ ap (take n) (append-nil new) ∙ take_all n new (omega (arith, whole, same))

-- ---- the plan of a check
-- a plan, by the lists that its parts were made of
pub is_plan_of : (c : Circuit) (s : Specification) (named from_marks from_gates order gates listed : List ℕ) (marks bits : List Bool) → order ≡ s.order → from_marks ≡ named →
    marks ≡ bits → ((net : ℕ) → net < net_count c → bit_of bits net ≡ is_in_cone c from_marks net) → from_gates ≡ named → gates ≡ listed → listed ≡ cone c from_gates →
    IsPlanOf c s named (record { order = order; marks = marks; gates = gates })
is_plan_of c s named from_marks from_gates order gates listed marks bits ordered same_marks is_bits tells same_gates is_listed is_cone =
    record {
      order = ordered;
      marks = λ net low. ap (λ (all : List Bool). bit_of all net) is_bits ∙ tells net low ∙ ap (λ (ns : List ℕ). is_in_cone c ns net) same_marks;
      gates = is_listed ∙ is_cone ∙ ap (cone c) same_gates;
    }

pub can_build : (c : Circuit) (s : Specification) (named : List ℕ) (plan : PlainPlan) (v : View) → IsOver c s → IsWellFormed s → IsSound c → IsAccepted c →
    v.letters ≡ s.letters → IsPlanOf c s named plan → CanBuild c v plan (net_table c s)
can_build c s named plan v over good sound accepted letters is =
    subst (λ (order : List ℕ). CanBuild c v (record plan { order = order }) (net_table c s)) (sym is.order)
    (record {
      variables = are_variables c s v over good letters;
      gates = are_gates c s sound accepted;
      after = come_after c s named plan.gates plan.marks over good accepted is.marks is.gates;
    })

pub nets_are_built : {X : Type 0} (k : KindName) (c : Circuit) (s : Specification) (number : ℕ) (named : List ℕ) (plan : PlainPlan) (v w : View) (edges : List PlainEdge) (result : Result X BuildError) →
    IsOver c s → IsWellFormed s → IsSound c → IsAccepted c → v.letters ≡ s.letters → number < length s.checks →
    IfSome (slice_get s.checks number) (λ check. named ≡ nets_named s check) → IsPlanOf c s named plan → length edges ≡ net_count c →
    BuildsPlan k c v w plan edges result → OnOk result (NetsAreBuilt k c s number w edges)
nets_are_built k c s number named plan v w edges (Err e) over good sound accepted letters low is planned many builds = tt
nets_are_built k c s number named plan v w edges (Ok x) over good sound accepted letters low is planned many builds =
    let check = check_there s number low in
    let same : named ≡ nets_named s check.0 = if_some_at (slice_get s.checks number) check.0 (λ x. named ≡ nets_named s x) check.1 is in
    record {
      many = many;
      good = builds.good;
      built = subst (λ (o : Option Check). IfSome o (λ x. AreBuilt k w (net_table c s) (is_among (nets_named s x)) edges)) (sym check.1)
          (fewer_built k w (net_table c s) (is_planned plan) (is_among (nets_named s check.0)) edges
          (λ net p.
          subst (λ (order : List ℕ). is_planned (record plan { order = order }) net ≡ true) (sym planned.order)
          (named_built c s named plan.gates plan.marks net over good accepted planned.marks planned.gates
          (named_below c s check.0 net over (Contains-from_among (nets_named s check.0) net p)) (subst (λ (ns : List ℕ). is_among ns net ≡ true) (sym same) p)))
          (builds.built (net_table c s) (can_build c s named plan v over good sound accepted letters planned)));
    }
