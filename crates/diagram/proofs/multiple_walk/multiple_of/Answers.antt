use Rattle.std.proofs.Common.{◌≡◌, refl, sym, ◌∙◌, ap, subst, ◌-◌, length, arith}
use Rattle.std.specs.Prelude.{Ok}
use Rattle.std.proofs.Math.ListN.{set}
use Rattle.tables.specs.Table.{multiple}
use Rattle.tables.specs.Pieces.{scale_work}
use Rattle.kind_laws.specs.Plain.{plain}
use Rattle.diagram.specs.Multiples.{MultipleCall, IsWaiting, plain_multiple, GoesOn, multiples}
use Rattle.diagram.proofs.ChainLaws.{one_fewer}
use Rattle.diagram.proofs.EachLaws.{refused_each}
use Rattle.diagram.proofs.MultipleSteps.{multiple_laws}
use Rattle.diagram.proofs.StoreLaws.{keeps_on}
use Rattle.diagram.proofs.WalkSteps.{way_starts, way_begins, way_begin_refused, way_innermost, way_ends, way_goes_below, way_answers, way_refused, fewer_begins, fewer_below, fewer_answers}
use Rattle.diagram.proofs.multiple_walk.multiple_of.Goals as goal

pub loop-step-init : goal.loop-step-init
loop-step-init g c = record {
  way = way_starts (multiples c.args.factor g.K.Kind.NAME g.K.Kind.extra_of) c.args.manager.now c.clear.new.self.items c.args.a c.clear.ensures.items c.requires.good;
  room = c.clear.ensures.capacity;
}

pub begin-requires-clause-room : goal.begin-requires-clause-room
begin-requires-clause-room g c κs within =
    let way = c.loop-step.invariant.way in
    omega (arith, ap length way.keeps.letters, c.loop-step.invariant.room, c.requires.room)

pub returns-in_err-next-in-Below-clause-multiple : goal.returns-in_err-next-in-Below-clause-multiple
returns-in_err-next-in-Below-clause-multiple g c =
    let k = g.K.Kind.NAME in
    let of = g.K.Kind.extra_of in
    let factor = c.args.factor in
    let walking = multiples factor k of in
    let laws = multiple_laws factor k of in
    let first : MultipleCall = record { view = c.args.manager.now; operands = plain of c.args.a } in
    let v = c.loop-step.manager in
    let frames = c.loop-step.frames.items in
    let step = c.loop-step.step in
    let way = c.loop-step.invariant.way in
    let part = c.in-Below.part in
    let e = c.in_err-next-in-Below.field-0.0 in
    refused_each k (multiple factor) (scale_work factor) c.args.manager.now c.begin.new.manager (plain of c.args.a) (plain of) c.from_residual.result e c.from_residual.ensures.1
    (way_begin_refused walking laws first v c.begin.new.manager frames step part e c.in-Below.is c.in_err-next-in-Below.ensures.unchanged way
    c.in_err-next-in-Below.ensures.begins)

pub loop-step-smaller-in-Below : goal.loop-step-smaller-in-Below
loop-step-smaller-in-Below g c =
    let k = g.K.Kind.NAME in
    let of = g.K.Kind.extra_of in
    let factor = c.args.factor in
    let walking = multiples factor k of in
    let laws = multiple_laws factor k of in
    let first : MultipleCall = record { view = c.args.manager.now; operands = plain of c.args.a } in
    let v = c.loop-step.manager in
    let frames = c.loop-step.frames.items in
    let step = c.loop-step.step in
    let way = c.loop-step.invariant.way in
    let part = c.in-Below.part in
    fewer_begins walking laws v c.begin.new.manager frames c.begin.new.frames.items step part c.in_ok-next-in-Below.next c.in-Below.is
    c.in_ok-next-in-Below.ensures.unchanged c.in_ok-next-in-Below.ensures.begins

pub loop-step-preserved-in-Below : goal.loop-step-preserved-in-Below
loop-step-preserved-in-Below g c =
    let k = g.K.Kind.NAME in
    let of = g.K.Kind.extra_of in
    let factor = c.args.factor in
    let walking = multiples factor k of in
    let laws = multiple_laws factor k of in
    let first : MultipleCall = record { view = c.args.manager.now; operands = plain of c.args.a } in
    let v = c.loop-step.manager in
    let frames = c.loop-step.frames.items in
    let step = c.loop-step.step in
    let way = c.loop-step.invariant.way in
    let part = c.in-Below.part in
    record {
      way = way_begins walking laws first v c.begin.new.manager frames c.begin.new.frames.items step part c.in_ok-next-in-Below.next c.in-Below.is
          c.in_ok-next-in-Below.ensures.unchanged way c.in_ok-next-in-Below.ensures.begins;
      room = c.in_ok-next-in-Below.ensures.room ∙ c.loop-step.invariant.room;
    }

pub returns-then-waiting-eq0-clause-multiple : goal.returns-then-waiting-eq0-clause-multiple
returns-then-waiting-eq0-clause-multiple g c =
    let k = g.K.Kind.NAME in
    let of = g.K.Kind.extra_of in
    let factor = c.args.factor in
    let walking = multiples factor k of in
    let first : MultipleCall = record { view = c.args.manager.now; operands = plain of c.args.a } in
    let v = c.loop-step.manager in
    let frames = c.loop-step.frames.items in
    let step = c.loop-step.step in
    let way = c.loop-step.invariant.way in
    let known = c.in-Answer.multiple in
    let waiting = c.len-waiting.result in
    let count : waiting ≡ length frames = c.len-waiting.ensures ∙ c.loop-step.frames.ok.0 in
    way_ends walking first v frames step known c.in-Answer.is (sym count ∙ c.if-waiting-eq0.true) way

pub resume-requires-clause-waiting : goal.resume-requires-clause-waiting
resume-requires-clause-waiting g c κs within =
    let k = g.K.Kind.NAME in
    let of = g.K.Kind.extra_of in
    let factor = c.args.factor in
    let walking = multiples factor k of in
    let first : MultipleCall = record { view = c.args.manager.now; operands = plain of c.args.a } in
    let v = c.loop-step.manager in
    let frames = c.loop-step.frames.items in
    let step = c.loop-step.step in
    let way = c.loop-step.invariant.way in
    let known = c.in-Answer.multiple in
    let waiting = c.len-waiting.result in
    let count : waiting ≡ length frames = c.len-waiting.ensures ∙ c.loop-step.frames.ok.0 in
    let frame = c.index_mut.result.now in
    let m = way_innermost walking first v frames step known frame waiting c.in-Answer.is count c.if-waiting-eq0.false c.index_mut.ensures.value way in
    record { outer = m.outer; inner = m.inner; waits = m.waits; keeps = m.inner_keeps; is_known = m.is_known }

pub returns-in_err-part-in-Answer-clause-keeps : goal.returns-in_err-part-in-Answer-clause-keeps
returns-in_err-part-in-Answer-clause-keeps g c =
    keeps_on c.args.manager.now c.loop-step.manager c.resume.new.manager c.loop-step.invariant.way.keeps c.in_err-part-in-Answer.ensures.keeps

pub returns-in_err-part-in-Answer-clause-multiple : goal.returns-in_err-part-in-Answer-clause-multiple
returns-in_err-part-in-Answer-clause-multiple g c =
    let k = g.K.Kind.NAME in
    let of = g.K.Kind.extra_of in
    let factor = c.args.factor in
    let walking = multiples factor k of in
    let laws = multiple_laws factor k of in
    let first : MultipleCall = record { view = c.args.manager.now; operands = plain of c.args.a } in
    let v = c.loop-step.manager in
    let frames = c.loop-step.frames.items in
    let step = c.loop-step.step in
    let way = c.loop-step.invariant.way in
    let known = c.in-Answer.multiple in
    let waiting = c.len-waiting.result in
    let count : waiting ≡ length frames = c.len-waiting.ensures ∙ c.loop-step.frames.ok.0 in
    let frame = c.index_mut.result.now in
    let m = way_innermost walking first v frames step known frame waiting c.in-Answer.is count c.if-waiting-eq0.false c.index_mut.ensures.value way in
    let at : IsWaiting factor k v (plain_multiple of frame) (plain of known) =
    record { outer = m.outer; inner = m.inner; waits = m.waits; keeps = m.inner_keeps; is_known = m.is_known } in
    let w = c.resume.new.manager in
    let e = c.in_err-part-in-Answer.field-0.0 in
    refused_each k (multiple factor) (scale_work factor) c.args.manager.now w (plain of c.args.a) (plain of) c.from_residual-in_err-part-in-Answer.result e c.from_residual-in_err-part-in-Answer.ensures.1
    (way_refused walking laws first v w frames known frame e m c.in_err-part-in-Answer.ensures.keeps (c.in_err-part-in-Answer.ensures.resumes at))

pub loop-step-smaller-in-Below-2 : goal.loop-step-smaller-in-Below-2
loop-step-smaller-in-Below-2 g c =
    let k = g.K.Kind.NAME in
    let of = g.K.Kind.extra_of in
    let factor = c.args.factor in
    let walking = multiples factor k of in
    let laws = multiple_laws factor k of in
    let first : MultipleCall = record { view = c.args.manager.now; operands = plain of c.args.a } in
    let v = c.loop-step.manager in
    let frames = c.loop-step.frames.items in
    let step = c.loop-step.step in
    let way = c.loop-step.invariant.way in
    let known = c.in-Answer.multiple in
    let waiting = c.len-waiting.result in
    let count : waiting ≡ length frames = c.len-waiting.ensures ∙ c.loop-step.frames.ok.0 in
    let frame = c.index_mut.result.now in
    let m = way_innermost walking first v frames step known frame waiting c.in-Answer.is count c.if-waiting-eq0.false c.index_mut.ensures.value way in
    let at : IsWaiting factor k v (plain_multiple of frame) (plain of known) =
    record { outer = m.outer; inner = m.inner; waits = m.waits; keeps = m.inner_keeps; is_known = m.is_known } in
    let w = c.resume.new.manager in
    let next = c.resume.new.frame in
    let part = c.in-Below-2.part in
    let goes = subst (λ x. GoesOn factor k of m.outer w (plain_multiple of frame) (plain_multiple of next) (Ok x)) c.in-Below-2.is (c.in_ok-part-in-Answer.ensures.resumes at) in
    fewer_below walking laws first v w frames (set frames (waiting - 1) next) step known part frame next waiting c.in-Answer.is m c.in_ok-part-in-Answer.ensures.keeps count refl
    goes.0 goes.1 (one_fewer frame.has_low next.has_low goes.2 goes.3)

pub loop-step-preserved-in-Below-2 : goal.loop-step-preserved-in-Below-2
loop-step-preserved-in-Below-2 g c =
    let k = g.K.Kind.NAME in
    let of = g.K.Kind.extra_of in
    let factor = c.args.factor in
    let walking = multiples factor k of in
    let laws = multiple_laws factor k of in
    let first : MultipleCall = record { view = c.args.manager.now; operands = plain of c.args.a } in
    let v = c.loop-step.manager in
    let frames = c.loop-step.frames.items in
    let step = c.loop-step.step in
    let way = c.loop-step.invariant.way in
    let known = c.in-Answer.multiple in
    let waiting = c.len-waiting.result in
    let count : waiting ≡ length frames = c.len-waiting.ensures ∙ c.loop-step.frames.ok.0 in
    let frame = c.index_mut.result.now in
    let m = way_innermost walking first v frames step known frame waiting c.in-Answer.is count c.if-waiting-eq0.false c.index_mut.ensures.value way in
    let at : IsWaiting factor k v (plain_multiple of frame) (plain of known) =
    record { outer = m.outer; inner = m.inner; waits = m.waits; keeps = m.inner_keeps; is_known = m.is_known } in
    let w = c.resume.new.manager in
    let next = c.resume.new.frame in
    let part = c.in-Below-2.part in
    let goes = subst (λ x. GoesOn factor k of m.outer w (plain_multiple of frame) (plain_multiple of next) (Ok x)) c.in-Below-2.is (c.in_ok-part-in-Answer.ensures.resumes at) in
    record {
      way = way_goes_below walking laws first v w frames (set frames (waiting - 1) next) known part frame next waiting m c.in_ok-part-in-Answer.ensures.keeps count refl goes.0 goes.1;
      room = c.loop-step.invariant.room;
    }

pub loop-step-smaller : goal.loop-step-smaller
loop-step-smaller g c =
    let k = g.K.Kind.NAME in
    let of = g.K.Kind.extra_of in
    let factor = c.args.factor in
    let walking = multiples factor k of in
    let first : MultipleCall = record { view = c.args.manager.now; operands = plain of c.args.a } in
    let v = c.loop-step.manager in
    let frames = c.loop-step.frames.items in
    let step = c.loop-step.step in
    let way = c.loop-step.invariant.way in
    let known = c.in-Answer.multiple in
    let waiting = c.len-waiting.result in
    let count : waiting ≡ length frames = c.len-waiting.ensures ∙ c.loop-step.frames.ok.0 in
    let frame = c.index_mut.result.now in
    let m = way_innermost walking first v frames step known frame waiting c.in-Answer.is count c.if-waiting-eq0.false c.index_mut.ensures.value way in
    fewer_answers walking first v c.resume.new.manager frames c.truncate.new.self.items step known c.in-Answer-2.multiple frame c.resume.new.frame waiting c.in-Answer.is m
    c.in_ok-part-in-Answer.ensures.keeps count c.truncate.ensures.items

pub loop-step-preserved : goal.loop-step-preserved
loop-step-preserved g c =
    let k = g.K.Kind.NAME in
    let of = g.K.Kind.extra_of in
    let factor = c.args.factor in
    let walking = multiples factor k of in
    let laws = multiple_laws factor k of in
    let first : MultipleCall = record { view = c.args.manager.now; operands = plain of c.args.a } in
    let v = c.loop-step.manager in
    let frames = c.loop-step.frames.items in
    let step = c.loop-step.step in
    let way = c.loop-step.invariant.way in
    let known = c.in-Answer.multiple in
    let waiting = c.len-waiting.result in
    let count : waiting ≡ length frames = c.len-waiting.ensures ∙ c.loop-step.frames.ok.0 in
    let frame = c.index_mut.result.now in
    let m = way_innermost walking first v frames step known frame waiting c.in-Answer.is count c.if-waiting-eq0.false c.index_mut.ensures.value way in
    let at : IsWaiting factor k v (plain_multiple of frame) (plain of known) =
    record { outer = m.outer; inner = m.inner; waits = m.waits; keeps = m.inner_keeps; is_known = m.is_known } in
    let w = c.resume.new.manager in
    let next = c.resume.new.frame in
    let answer = subst (λ x. GoesOn factor k of m.outer w (plain_multiple of frame) (plain_multiple of next) (Ok x)) c.in-Answer-2.is (c.in_ok-part-in-Answer.ensures.resumes at) in
    record {
      way = way_answers walking laws first v w frames c.truncate.new.self.items known c.in-Answer-2.multiple frame next waiting m c.in_ok-part-in-Answer.ensures.keeps count
          c.truncate.ensures.items answer;
      room = c.truncate.ensures.capacity ∙ c.loop-step.invariant.room;
    }
