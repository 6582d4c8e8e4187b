use Rattle.std.proofs.Common.{◌≡◌, ◌∙◌, sym, ap, subst, ℕ, ◌+◌, ◌<◌, List, Bool, length, arith}
use Rattle.std.specs.Prelude.{All, Ok, slice_get}
use Rattle.std.proofs.lemmas.List.{length-map, length-replicate}
use Rattle.circuits.specs.Circuit.{input_count, net_count}
use Rattle.circuits.specs.Cone.{cone, is_in_cone}
use Rattle.circuits.specs.Valuation.{bit_of}
use Rattle.spec_lang.specs.Named.{nets_named}
use Rattle.kind_laws.specs.Plain.{plain}
use Rattle.word_apply.specs.Applied.{AreEdges, plain_edges}
use Rattle.cone_builder.specs.Built.{AreBuilt, AreVariables, ComeAfter, NetsAreBuilt, is_marked, or_listed}
use Rattle.cone_builder.specs.Causes.{limit_met}
use Rattle.cone_builder.specs.Plans.{IsPlan, IsPlanOf, PlainPlan}
use Rattle.cone_builder.proofs.BuiltLaws.{plain_replicate}
use Rattle.cone_builder.proofs.CauseLaws.{causes_answered, error_refused}
use Rattle.cone_builder.proofs.InputLaws.{repeated_good}
use Rattle.cone_builder.proofs.NetLaws.{all_named_below, all_inputs, all_gates, if_some_at, is_plan_of, nets_are_built, written_back}
use Rattle.cone_builder.proofs.WorkLaws.{nets_caused}
use Rattle.cone_builder.proofs.expressions.build_nets.Goals as goal

pub reached-requires : goal.reached-requires
reached-requires g c =
    subst (All (λ net. net < net_count c.args.netlist.now)) (sym c.deref.ensures.value)
    (all_named_below c.args.netlist.now c.args.spec.now c.args.check c.in_ok-named.named.items c.requires.over c.requires.check c.in_ok-named.ensures)

pub cone-requires : goal.cone-requires
cone-requires g c =
    subst (All (λ net. net < net_count c.args.netlist.now)) (sym c.deref-2.ensures.value)
    (all_named_below c.args.netlist.now c.args.spec.now c.args.check c.in_ok-named.named.items c.requires.over c.requires.check c.in_ok-named.ensures)

pub build_into-requires-clause-plan : goal.build_into-requires-clause-plan
build_into-requires-clause-plan g c κs within_bounds =
    record {
      order = ap length c.order.ensures.order ∙ c.requires.over.inputs;
      inputs = subst (All (λ net. net < input_count c.args.netlist.now)) (sym c.order.ensures.order)
          (all_inputs c.args.netlist.now c.args.spec.now c.requires.over c.order.ensures.well_formed);
      marks = ap length c.deref-3.ensures.value ∙ c.in_ok-marks.ensures.length;
      gates = all_gates c.args.netlist.now c.deref-2.result.now c.deref-4.result.now c.gates.ensures.accepted (c.deref-4.ensures.value ∙ c.in_ok-gates.ensures.gates);
    }

pub build_into-requires-clause-good : goal.build_into-requires-clause-good
build_into-requires-clause-good g c κs within_bounds =
    let of = g.K.Kind.extra_of in
    let is = ap (plain_edges of) (c.as_mut_slice.ensures.value ∙ c.in_ok-edges.ensures) ∙ plain_replicate of (c.inputs.result + c.gates.result) c.constant.result in
    subst (AreEdges g.K.Kind.NAME c.args.builder.now) (sym is)
    (repeated_good g.K.Kind.NAME c.args.builder.now _ (plain of c.constant.result) (_, c.constant.ensures.table 0 (omega arith)))

pub returns-clause-built : goal.returns-clause-built
returns-clause-built g c =
    let count : c.inputs.result + c.gates.result ≡ net_count c.args.netlist.now = ap (λ (n : ℕ). n + c.gates.result) c.inputs.ensures.inputs ∙ ap (λ (n : ℕ). input_count c.args.netlist.now + n) c.gates.ensures.gates in
    let items : length c.in_ok-edges.edges.items ≡ net_count c.args.netlist.now =
    ap length c.in_ok-edges.ensures ∙ length-replicate (c.inputs.result + c.gates.result) c.constant.result ∙ count in
    let same : length c.build_into.new.edges ≡ length c.in_ok-edges.edges.items = c.build_into.auto.edges ∙ ap length c.as_mut_slice.ensures.value in
    let k = g.K.Kind.NAME in
    let of = g.K.Kind.extra_of in
    let n = c.args.netlist.now in
    let s = c.args.spec.now in
    let plan : PlainPlan = record { order = c.order.result.now; marks = c.deref-3.result.now; gates = c.deref-4.result.now } in
    let is : IsPlanOf n s c.in_ok-named.named.items plan =
    is_plan_of n s c.in_ok-named.named.items c.deref.result.now c.deref-2.result.now c.order.result.now c.deref-4.result.now c.in_ok-gates.gates.items c.deref-3.result.now
    c.in_ok-marks.marks.items c.order.ensures.order c.deref.ensures.value c.deref-3.ensures.value c.in_ok-marks.ensures.marks c.deref-2.ensures.value c.deref-4.ensures.value
    c.in_ok-gates.ensures.gates in
    let new = plain_edges of c.build_into.new.edges in
    subst (NetsAreBuilt k n s c.args.check c.build_into.new.builder)
    (ap (plain_edges of) (sym (written_back c.in_ok-edges.edges.len c.in_ok-edges.edges.items c.build_into.new.edges c.in_ok-edges.edges.ok.0 same)))
    (nets_are_built {X = Unit {0}} k n s c.args.check c.in_ok-named.named.items plan c.args.builder.now c.build_into.new.builder new (Ok tt)
    c.requires.over c.order.ensures.well_formed c.gates.ensures.sound c.gates.ensures.accepted c.requires.levels c.requires.check c.in_ok-named.ensures is
    (length-map c.build_into.new.edges (plain of) ∙ (same ∙ items)) c.in_ok-build_into.ensures.builds)

pub returns-in_err-build_into-clause-causes : goal.returns-in_err-build_into-clause-causes
returns-in_err-build_into-clause-causes g c = λ sides ps is inputs works.
    let k = g.K.Kind.NAME in
    let n = c.args.netlist.now in
    let s = c.args.spec.now in
    let v = c.args.builder.now in
    let w = c.build_into.new.builder in
    let plan : PlainPlan = record { order = c.order.result.now; marks = c.deref-3.result.now; gates = c.deref-4.result.now } in
    let planned : IsPlanOf n s c.in_ok-named.named.items plan =
    is_plan_of n s c.in_ok-named.named.items c.deref.result.now c.deref-2.result.now c.order.result.now c.deref-4.result.now c.in_ok-gates.gates.items c.deref-3.result.now
    c.in_ok-marks.marks.items c.order.ensures.order c.deref.ensures.value c.deref-3.ensures.value c.in_ok-marks.ensures.marks c.deref-2.ensures.value c.deref-4.ensures.value
    c.in_ok-gates.ensures.gates in
    let call = nets_caused k n s sides c.in_ok-named.named.items plan v w (plain_edges g.K.Kind.extra_of c.build_into.new.edges) c.build_into.result ps
    c.requires.over c.order.ensures.well_formed c.gates.ensures.sound c.gates.ensures.accepted c.requires.levels
    (if_some_at (slice_get s.checks c.args.check) sides (λ x. c.in_ok-named.named.items ≡ nets_named s x) is c.in_ok-named.ensures) planned c.build_into.ensures.builds
    inputs works in
    error_refused k v w ps c.from_residual-in_err-build_into.result c.build_into.result c.in_err-build_into.field-0.0 c.in_err-build_into.was c.from_residual-in_err-build_into.ensures.1 call

pub returns-clause-causes : goal.returns-clause-causes
returns-clause-causes g c = λ sides ps is inputs works.
    let k = g.K.Kind.NAME in
    let n = c.args.netlist.now in
    let s = c.args.spec.now in
    let v = c.args.builder.now in
    let w = c.build_into.new.builder in
    let plan : PlainPlan = record { order = c.order.result.now; marks = c.deref-3.result.now; gates = c.deref-4.result.now } in
    let planned : IsPlanOf n s c.in_ok-named.named.items plan =
    is_plan_of n s c.in_ok-named.named.items c.deref.result.now c.deref-2.result.now c.order.result.now c.deref-4.result.now c.in_ok-gates.gates.items c.deref-3.result.now
    c.in_ok-marks.marks.items c.order.ensures.order c.deref.ensures.value c.deref-3.ensures.value c.in_ok-marks.ensures.marks c.deref-2.ensures.value c.deref-4.ensures.value
    c.in_ok-gates.ensures.gates in
    let call = nets_caused k n s sides c.in_ok-named.named.items plan v w (plain_edges g.K.Kind.extra_of c.build_into.new.edges) c.build_into.result ps
    c.requires.over c.order.ensures.well_formed c.gates.ensures.sound c.gates.ensures.accepted c.requires.levels
    (if_some_at (slice_get s.checks c.args.check) sides (λ x. c.in_ok-named.named.items ≡ nets_named s x) is c.in_ok-named.ensures) planned c.build_into.ensures.builds
    inputs works in
    causes_answered k v w ps (limit_met c.build_into.result) tt call
