use Rattle.std.proofs.Common.{◌≡◌, refl, ◌∙◌, sym, ap, subst, length, map, List, [], ◌∷◌, arith}
use Rattle.std.specs.Prelude.{slice_index_or, Ok, Err}
use Rattle.std.proofs.lemmas.List.{length-map}
use Rattle.std.proofs.lemmas.List.Elements.{Contains-get_or}
use Rattle.diagram.proofs.LevelLaws.{good_at}
use Rattle.checks.specs.Work.{gate_table}
use Rattle.circuits.specs.Circuit.{Gate, name_of}
use Rattle.kind_laws.specs.Plain.{PlainEdge, plain}
use Rattle.word_apply.specs.Applied.{AreEdges, IsOfAll, plain_edges, gate_work_at}
use Rattle.word_apply.proofs.EdgeLists.{still_edges, all_somewhere}
use Rattle.cone_builder.specs.Built.{AreBuilt, or_listed}
use Rattle.cone_builder.proofs.BuiltLaws.{gathered_good, with_edge, no_edge, plain_set}
use Rattle.cone_builder.proofs.CauseLaws.{causes_answered, limit_refused, gate_causes}
use Rattle.cone_builder.proofs.GateLaws.{inputs_within, reads_some, gate_built}
use Rattle.cone_builder.proofs.gates.build_gate.Goals as goal

pub gather-requires-after_bounds : goal.gather-requires-after_bounds
gather-requires-after_bounds g c = λ lives bounds j d low.
    let n = c.args.netlist.now in
    let gate : Gate = record { name = name_of n c.args.net; word = c.gate-word.result.0; inputs = c.gate-word.result.1.now } in
    inputs_within n c.args.net gate (length c.args.edges.now) c.requires.sound c.gate-word.ensures c.requires.many _ (Contains-get_or gate.inputs j d low)

pub gate-requires-clause-good : goal.gate-requires-clause-good
gate-requires-clause-good g c κs within_bounds =
    let k = g.K.Kind.NAME in
    let of = g.K.Kind.extra_of in
    let v = c.args.builder.now in
    let n = c.args.netlist.now in
    let net = c.args.net in
    let edges = plain_edges of c.args.edges.now in
    let gate : Gate = record { name = name_of n net; word = c.gate-word.result.0; inputs = c.gate-word.result.1.now } in
    let within = inputs_within n net gate (length edges) c.requires.sound c.gate-word.ensures (length-map c.args.edges.now (plain of) ∙ c.requires.many) in
    let is : plain_edges of c.as_slice.result.now ≡ map (λ m. slice_index_or edges m no_edge) gate.inputs =
    ap (plain_edges of) c.as_slice.ensures.value ∙ c.in_ok-gather.ensures no_edge in
    subst (AreEdges k v) (sym is) (gathered_good k v edges no_edge gate.inputs c.requires.good within)

pub gate-requires-clause-some : goal.gate-requires-clause-some
gate-requires-clause-some g c κs within_bounds =
    let k = g.K.Kind.NAME in
    let of = g.K.Kind.extra_of in
    let v = c.args.builder.now in
    let n = c.args.netlist.now in
    let net = c.args.net in
    let edges = plain_edges of c.args.edges.now in
    let gate : Gate = record { name = name_of n net; word = c.gate-word.result.0; inputs = c.gate-word.result.1.now } in
    let within = inputs_within n net gate (length edges) c.requires.sound c.gate-word.ensures (length-map c.args.edges.now (plain of) ∙ c.requires.many) in
    let is : plain_edges of c.as_slice.result.now ≡ map (λ m. slice_index_or edges m no_edge) gate.inputs =
    ap (plain_edges of) c.as_slice.ensures.value ∙ c.in_ok-gather.ensures no_edge in
    let some = reads_some n net gate c.requires.sound c.gate-word.ensures in
    let as_many : length c.as_slice.result.now ≡ length gate.inputs =
    sym (length-map c.as_slice.result.now (plain of)) ∙ ap length is ∙ length-map gate.inputs (λ m. slice_index_or edges m no_edge) in
    omega (arith, some, as_many)

pub returns-clause-good : goal.returns-clause-good
returns-clause-good g c =
    let k = g.K.Kind.NAME in
    let of = g.K.Kind.extra_of in
    let v = c.args.builder.now in
    let n = c.args.netlist.now in
    let net = c.args.net in
    let edges = plain_edges of c.args.edges.now in
    let gate : Gate = record { name = name_of n net; word = c.gate-word.result.0; inputs = c.gate-word.result.1.now } in
    let within = inputs_within n net gate (length edges) c.requires.sound c.gate-word.ensures (length-map c.args.edges.now (plain of) ∙ c.requires.many) in
    let is : plain_edges of c.as_slice.result.now ≡ map (λ m. slice_index_or edges m no_edge) gate.inputs =
    ap (plain_edges of) c.as_slice.ensures.value ∙ c.in_ok-gather.ensures no_edge in
    let w = c.gate.new.builder in
    let edge = plain of c.in_ok-edges.field-0 in
    let inputs = gathered_good k v edges no_edge gate.inputs c.requires.good within in
    let tables = all_somewhere k v (plain_edges of c.as_slice.result.now) (subst (AreEdges k v) (sym is) inputs) in
    let good = good_at k w edge 0 _ (c.in_ok-edges.ensures.gate 0 tables.0 (omega arith) tables.1).stands in
    subst (AreEdges k w) (sym (plain_set of c.args.edges.now net c.in_ok-edges.field-0))
    (with_edge k w edges net edge (still_edges k v w edges c.in_ok-edges.ensures.keeps c.requires.good) good)

pub returns-clause-built : goal.returns-clause-built
returns-clause-built g c = λ table built are h reads.
    let k = g.K.Kind.NAME in
    let of = g.K.Kind.extra_of in
    let v = c.args.builder.now in
    let n = c.args.netlist.now in
    let net = c.args.net in
    let edges = plain_edges of c.args.edges.now in
    let gate : Gate = record { name = name_of n net; word = c.gate-word.result.0; inputs = c.gate-word.result.1.now } in
    let within = inputs_within n net gate (length edges) c.requires.sound c.gate-word.ensures (length-map c.args.edges.now (plain of) ∙ c.requires.many) in
    let is : plain_edges of c.as_slice.result.now ≡ map (λ m. slice_index_or edges m no_edge) gate.inputs =
    ap (plain_edges of) c.as_slice.ensures.value ∙ c.in_ok-gather.ensures no_edge in
    let w = c.gate.new.builder in
    let edge = plain of c.in_ok-edges.field-0 in
    let made = subst (λ (es : List PlainEdge). IsOfAll (λ l. gate_table gate.word) (gate_work_at gate.word v.letters) k v w es (Ok edge)) is c.in_ok-edges.ensures.gate in
    subst (AreBuilt k w table (or_listed built (net ∷ []))) (sym (plain_set of c.args.edges.now net c.in_ok-edges.field-0))
    (gate_built k n v w net gate edges no_edge edge c.gate-word.ensures c.in_ok-edges.ensures.keeps within made table built are h reads)

pub returns-in_err-edges-clause-causes : goal.returns-in_err-edges-clause-causes
returns-in_err-edges-clause-causes g c = λ table built ps h reads includes.
    let k = g.K.Kind.NAME in
    let of = g.K.Kind.extra_of in
    let v = c.args.builder.now in
    let n = c.args.netlist.now in
    let net = c.args.net in
    let edges = plain_edges of c.args.edges.now in
    let gate : Gate = record { name = name_of n net; word = c.gate-word.result.0; inputs = c.gate-word.result.1.now } in
    let within = inputs_within n net gate (length edges) c.requires.sound c.gate-word.ensures (length-map c.args.edges.now (plain of) ∙ c.requires.many) in
    let is : plain_edges of c.as_slice.result.now ≡ map (λ m. slice_index_or edges m no_edge) gate.inputs =
    ap (plain_edges of) c.as_slice.ensures.value ∙ c.in_ok-gather.ensures no_edge in
    let w = c.gate.new.builder in
    let e = c.in_err-edges.field-0.0 in
    let made = subst (λ (es : List PlainEdge). IsOfAll (λ l. gate_table gate.word) (gate_work_at gate.word v.letters) k v w es (Err e)) is c.in_err-edges.ensures.gate in
    limit_refused {X = PlainEdge} k v w ps c.from_residual-in_err-edges.result (Err e) e refl c.from_residual-in_err-edges.ensures.1
    (gate_causes k n v w net gate edges no_edge (Err e) c.gate-word.ensures c.in_err-edges.ensures.keeps within made table built ps h reads includes)

pub returns-clause-causes : goal.returns-clause-causes
returns-clause-causes g c = λ table built ps h reads includes.
    let k = g.K.Kind.NAME in
    let of = g.K.Kind.extra_of in
    let v = c.args.builder.now in
    let n = c.args.netlist.now in
    let net = c.args.net in
    let edges = plain_edges of c.args.edges.now in
    let gate : Gate = record { name = name_of n net; word = c.gate-word.result.0; inputs = c.gate-word.result.1.now } in
    let within = inputs_within n net gate (length edges) c.requires.sound c.gate-word.ensures (length-map c.args.edges.now (plain of) ∙ c.requires.many) in
    let is : plain_edges of c.as_slice.result.now ≡ map (λ m. slice_index_or edges m no_edge) gate.inputs =
    ap (plain_edges of) c.as_slice.ensures.value ∙ c.in_ok-gather.ensures no_edge in
    let w = c.gate.new.builder in
    let edge = plain of c.in_ok-edges.field-0 in
    let made = subst (λ (es : List PlainEdge). IsOfAll (λ l. gate_table gate.word) (gate_work_at gate.word v.letters) k v w es (Ok edge)) is c.in_ok-edges.ensures.gate in
    causes_answered k v w ps (Ok edge) tt
    (gate_causes k n v w net gate edges no_edge (Ok edge) c.gate-word.ensures c.in_ok-edges.ensures.keeps within made table built ps h reads includes)
