use Rattle.std.proofs.Common.{◌≡◌, refl, sym, ◌∙◌, subst, take, get_or, List, ℕ, ◌+◌, arith}
use Rattle.std.specs.Prelude.{slice_set, Ok, Err}
use Rattle.std.proofs.lemmas.List.{take_all}
use Rattle.std.proofs.lemmas.Option.{slice_get-get_or}
use Rattle.diagram.proofs.CallLaws.{causes_of}
use Rattle.diagram.proofs.StoreLaws.{keeps_on}
use Rattle.kind_laws.specs.Plain.{PlainEdge, plain}
use Rattle.tables.specs.Pieces.{pieces}
use Rattle.word_apply.specs.Applied.{plain_edges}
use Rattle.cone_builder.specs.Built.{AreBuilt, is_marked}
use Rattle.cone_builder.proofs.BuiltLaws.{plain_set}
use Rattle.cone_builder.proofs.CauseLaws.{causes_answered, limit_came_up, next_input_causes}
use Rattle.cone_builder.proofs.InputLaws.{InputsSoFar, marked_input, unmarked_input}
use Rattle.cone_builder.proofs.inputs.build_inputs.Goals.{then-marks-net+in_ok-edges, else-marks-net}
use Rattle.cone_builder.proofs.inputs.build_inputs.Goals as goal

pub loop-level-preserved : goal.loop-level-preserved
loop-level-preserved g c =
    let k = g.K.Kind.NAME in
    let of = g.K.Kind.extra_of in
    let level = c.loop-level.level in
    let order = c.args.order.now in
    let marks = c.args.marks.now in
    let net = get_or order level 0 in
    let start = c.args.builder.now in
    let v = c.loop-level.builder in
    let old = plain_edges of c.args.edges.now in
    let edges = plain_edges of c.loop-level.edges in
    let at = slice_get-get_or order level 0 c.loop-level-test.true in
    elim c.if-marks-net.branch [
      | then-marks-net+in_ok-edges w ↦
          let edge = w.in_ok-edges.field-0 in
          let put = plain_set of c.loop-level.edges net edge in
          rw (w.builder-is, w.edges-is)
          (subst (λ (es : List PlainEdge). InputsSoFar k start w.var.new.self order marks (level + 1) old es) (sym put)
          (marked_input k start v w.var.new.self order marks level net old edges (plain of edge) c.loop-level-test.true refl at c.loop-level.invariant
          w.in_ok-edges.ensures.keeps w.in_ok-edges.ensures.table.stands
          (λ table ps are each_of.
          causes_answered k start w.var.new.self ps (Ok (plain of edge)) tt
          (next_input_causes k start v w.var.new.self order marks level net old edges (Ok (plain of edge)) c.loop-level-test.true refl at w.if-marks-net.true
          c.loop-level.invariant w.in_ok-edges.ensures.keeps (causes_of k v w.var.new.self _ 0 _ (Ok (plain of edge)) w.in_ok-edges.ensures.table) table ps are each_of))))
      | else-marks-net w ↦
          rw (w.builder-is, w.edges-is)
          (unmarked_input k start v order marks level net old edges c.loop-level-test.true refl w.if-marks-net.false c.loop-level.invariant)
    ]

pub returns-clause-built : goal.returns-clause-built
returns-clause-built g c = λ table are.
    let k = g.K.Kind.NAME in
    let of = g.K.Kind.extra_of in
    let all : take c.loop-level.level c.args.order.now ≡ c.args.order.now = take_all c.loop-level.level c.args.order.now (omega arith) in
    subst (λ (listed : List ℕ). AreBuilt k c.loop-level.builder table (is_marked listed c.args.marks.now) (plain_edges of c.loop-level.edges)) all
    (c.loop-level.invariant.built table are)

pub returns-in_err-edges-clause-keeps : goal.returns-in_err-edges-clause-keeps
returns-in_err-edges-clause-keeps g c = keeps_on c.args.builder.now c.loop-level.builder c.var.new.self c.loop-level.invariant.keeps c.in_err-edges.ensures.keeps

pub returns-in_err-edges-clause-causes : goal.returns-in_err-edges-clause-causes
returns-in_err-edges-clause-causes g c = λ table ps are each_of.
    let k = g.K.Kind.NAME in
    let of = g.K.Kind.extra_of in
    let level = c.loop-level.level in
    let order = c.args.order.now in
    let net = get_or order level 0 in
    let e = c.in_err-edges.field-0.0 in
    limit_came_up {X = PlainEdge} k c.args.builder.now c.var.new.self ps c.from_residual.result (Err e) e refl c.from_residual.ensures.1
    (next_input_causes k c.args.builder.now c.loop-level.builder c.var.new.self order c.args.marks.now level net (plain_edges of c.args.edges.now)
    (plain_edges of c.loop-level.edges) (Err e) c.loop-level-test.true refl (slice_get-get_or order level 0 c.loop-level-test.true) c.if-marks-net.true
    c.loop-level.invariant c.in_err-edges.ensures.keeps
    (causes_of k c.loop-level.builder c.var.new.self _ 0 _ (Err e) c.in_err-edges.ensures.table) table ps are each_of)

pub returns-clause-causes : goal.returns-clause-causes
returns-clause-causes g c = c.loop-level.invariant.caused
