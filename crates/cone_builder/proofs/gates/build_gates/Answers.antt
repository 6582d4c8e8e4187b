use Rattle.std.proofs.Common.{◌≡◌, refl, sym, ◌∙◌, subst, take, get_or, List, ℕ, arith}
use Rattle.std.proofs.lemmas.List.{take_all, length-map}
use Rattle.std.specs.Prelude.{Ok}
use Rattle.diagram.proofs.StoreLaws.{keeps_on}
use Rattle.kind_laws.specs.Plain.{plain}
use Rattle.word_apply.specs.Applied.{plain_edges}
use Rattle.cone_builder.specs.Built.{AreBuilt, or_listed}
use Rattle.cone_builder.specs.Causes.{limit_met}
use Rattle.cone_builder.proofs.CauseLaws.{error_refused, next_gate_causes}
use Rattle.cone_builder.proofs.GateLaws.{no_gates, one_more_gate}
use Rattle.cone_builder.proofs.gates.build_gates.Goals as goal

pub loop-net-init : goal.loop-net-init
loop-net-init g c = no_gates g.K.Kind.NAME c.args.netlist.now c.args.builder.now c.args.gates.now (plain_edges g.K.Kind.extra_of c.args.edges.now) c.requires.good

pub loop-net-preserved : goal.loop-net-preserved
loop-net-preserved g c =
    let k = g.K.Kind.NAME in
    let of = g.K.Kind.extra_of in
    let place = c.loop-net.net-index in
    let net = get_or c.args.gates.now place 0 in
    let old = plain_edges of c.args.edges.now in
    let edges = plain_edges of c.loop-net.edges in
    let new = plain_edges of c.build_gate.new.edges in
    let long = length-map c.build_gate.new.edges (plain of) ∙ c.build_gate.auto.edges ∙ sym (length-map c.loop-net.edges (plain of)) in
    one_more_gate k c.args.netlist.now c.args.builder.now c.loop-net.builder c.build_gate.new.builder c.args.gates.now place net old edges new c.loop-net-test.true refl
    c.loop-net.invariant c.in_ok-build_gate.ensures.keeps long c.in_ok-build_gate.ensures.good c.in_ok-build_gate.ensures.built
    (next_gate_causes k c.args.netlist.now c.args.builder.now c.loop-net.builder c.build_gate.new.builder c.args.gates.now place net old edges (Ok tt)
    c.loop-net-test.true refl c.loop-net.invariant c.in_ok-build_gate.ensures.keeps c.in_ok-build_gate.ensures.causes)

pub returns-clause-built : goal.returns-clause-built
returns-clause-built g c = λ table built are h after.
    let k = g.K.Kind.NAME in
    let of = g.K.Kind.extra_of in
    let all : take c.loop-net.net-index c.args.gates.now ≡ c.args.gates.now = take_all c.loop-net.net-index c.args.gates.now (omega arith) in
    subst (λ (listed : List ℕ). AreBuilt k c.loop-net.builder table (or_listed built listed) (plain_edges of c.loop-net.edges)) all
    (c.loop-net.invariant.built table built are h after)

pub returns-in_err-build_gate-clause-causes : goal.returns-in_err-build_gate-clause-causes
returns-in_err-build_gate-clause-causes g c = λ table built ps are h after each_of.
    let k = g.K.Kind.NAME in
    let of = g.K.Kind.extra_of in
    let place = c.loop-net.net-index in
    error_refused k c.args.builder.now c.build_gate.new.builder ps c.from_residual.result c.build_gate.result c.in_err-build_gate.field-0.0 c.in_err-build_gate.was
    c.from_residual.ensures.1
    (next_gate_causes k c.args.netlist.now c.args.builder.now c.loop-net.builder c.build_gate.new.builder c.args.gates.now place (get_or c.args.gates.now place 0)
    (plain_edges of c.args.edges.now) (plain_edges of c.loop-net.edges) (limit_met c.build_gate.result) c.loop-net-test.true refl c.loop-net.invariant
    c.build_gate.ensures.keeps c.build_gate.ensures.causes table built ps are h after each_of)

pub returns-clause-causes : goal.returns-clause-causes
returns-clause-causes g c = c.loop-net.invariant.caused

pub returns-in_err-build_gate-clause-keeps : goal.returns-in_err-build_gate-clause-keeps
returns-in_err-build_gate-clause-keeps g c = keeps_on c.args.builder.now c.loop-net.builder c.build_gate.new.builder c.loop-net.invariant.keeps c.build_gate.ensures.keeps
