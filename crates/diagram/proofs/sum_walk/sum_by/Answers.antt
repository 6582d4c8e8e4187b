use Rattle.std.proofs.Common.{◌≡◌, refl, sym, ◌∙◌, ap, subst, ◌-◌, length, arith}
use Rattle.std.specs.Prelude.{Ok}
use Rattle.std.proofs.Math.ListN.{set}
use Rattle.tables.specs.Table.{plus}
use Rattle.kind_laws.specs.Plain.{plain}
use Rattle.diagram.specs.SumFrames.{SumCall, IsWaiting, plain_sum, GoesOn, sums}
use Rattle.diagram.specs.Sums.{sum_work}
use Rattle.diagram.proofs.ChainLaws.{one_fewer}
use Rattle.diagram.proofs.StoreLaws.{keeps_on}
use Rattle.diagram.proofs.SumCalls.{refused_both}
use Rattle.diagram.proofs.SumSteps.{sum_laws}
use Rattle.diagram.proofs.WalkSteps.{way_starts, way_begins, way_begin_refused, way_innermost, way_ends, way_goes_below, way_answers, way_refused, fewer_begins, fewer_below, fewer_answers}
use Rattle.diagram.proofs.sum_walk.sum_by.Goals as goal

pub loop-step-init : goal.loop-step-init
loop-step-init g c = record {
  way = way_starts (sums c.args.walk g.K.Kind.NAME g.K.Kind.extra_of) c.args.manager.now c.clear.new.self.items (c.args.a, c.args.b) c.clear.ensures.items (c.requires.a_good, c.requires.b_good);
  room = c.clear.ensures.capacity;
}

pub begin-requires-clause-room : goal.begin-requires-clause-room
begin-requires-clause-room g c κs within =
    let way = c.loop-step.invariant.way in
    omega (arith, ap length way.keeps.letters, c.loop-step.invariant.room, c.requires.room)

pub returns-in_err-next-in-Below-clause-sum : goal.returns-in_err-next-in-Below-clause-sum
returns-in_err-next-in-Below-clause-sum g c =
    let k = g.K.Kind.NAME in
    let of = g.K.Kind.extra_of in
    let walk = c.args.walk in
    let walking = sums walk k of in
    let laws = sum_laws walk k of in
    let first : SumCall = record { view = c.args.manager.now; operands = (plain of c.args.a, plain of c.args.b) } in
    let v = c.loop-step.manager in
    let frames = c.loop-step.frames.items in
    let step = c.loop-step.step in
    let way = c.loop-step.invariant.way in
    let parts = c.in-Below.parts in
    let e = c.in_err-next-in-Below.field-0.0 in
    refused_both k plus (sum_work walk) c.args.manager.now c.begin.new.manager (plain of c.args.a) (plain of c.args.b) (plain of) c.from_residual.result e c.from_residual.ensures.1
    (way_begin_refused walking laws first v c.begin.new.manager frames step parts e c.in-Below.is c.in_err-next-in-Below.ensures.unchanged way
    c.in_err-next-in-Below.ensures.begins)

pub loop-step-smaller-in-Below : goal.loop-step-smaller-in-Below
loop-step-smaller-in-Below g c =
    let k = g.K.Kind.NAME in
    let of = g.K.Kind.extra_of in
    let walk = c.args.walk in
    let walking = sums walk k of in
    let laws = sum_laws walk k of in
    let first : SumCall = record { view = c.args.manager.now; operands = (plain of c.args.a, plain of c.args.b) } in
    let v = c.loop-step.manager in
    let frames = c.loop-step.frames.items in
    let step = c.loop-step.step in
    let way = c.loop-step.invariant.way in
    let parts = c.in-Below.parts in
    fewer_begins walking laws v c.begin.new.manager frames c.begin.new.frames.items step parts c.in_ok-next-in-Below.next c.in-Below.is
    c.in_ok-next-in-Below.ensures.unchanged c.in_ok-next-in-Below.ensures.begins

pub loop-step-preserved-in-Below : goal.loop-step-preserved-in-Below
loop-step-preserved-in-Below g c =
    let k = g.K.Kind.NAME in
    let of = g.K.Kind.extra_of in
    let walk = c.args.walk in
    let walking = sums walk k of in
    let laws = sum_laws walk k of in
    let first : SumCall = record { view = c.args.manager.now; operands = (plain of c.args.a, plain of c.args.b) } in
    let v = c.loop-step.manager in
    let frames = c.loop-step.frames.items in
    let step = c.loop-step.step in
    let way = c.loop-step.invariant.way in
    let parts = c.in-Below.parts in
    record {
      way = way_begins walking laws first v c.begin.new.manager frames c.begin.new.frames.items step parts c.in_ok-next-in-Below.next c.in-Below.is
          c.in_ok-next-in-Below.ensures.unchanged way c.in_ok-next-in-Below.ensures.begins;
      room = c.in_ok-next-in-Below.ensures.room ∙ c.loop-step.invariant.room;
    }

pub returns-then-waiting-eq0-clause-sum : goal.returns-then-waiting-eq0-clause-sum
returns-then-waiting-eq0-clause-sum g c =
    let k = g.K.Kind.NAME in
    let of = g.K.Kind.extra_of in
    let walk = c.args.walk in
    let walking = sums walk k of in
    let first : SumCall = record { view = c.args.manager.now; operands = (plain of c.args.a, plain of c.args.b) } in
    let v = c.loop-step.manager in
    let frames = c.loop-step.frames.items in
    let step = c.loop-step.step in
    let way = c.loop-step.invariant.way in
    let sum = c.in-Answer.sum in
    let waiting = c.len-waiting.result in
    let count : waiting ≡ length frames = c.len-waiting.ensures ∙ c.loop-step.frames.ok.0 in
    way_ends walking first v frames step sum c.in-Answer.is (sym count ∙ c.if-waiting-eq0.true) way

pub resume-requires-clause-waiting : goal.resume-requires-clause-waiting
resume-requires-clause-waiting g c κs within =
    let k = g.K.Kind.NAME in
    let of = g.K.Kind.extra_of in
    let walk = c.args.walk in
    let walking = sums walk k of in
    let first : SumCall = record { view = c.args.manager.now; operands = (plain of c.args.a, plain of c.args.b) } in
    let v = c.loop-step.manager in
    let frames = c.loop-step.frames.items in
    let step = c.loop-step.step in
    let way = c.loop-step.invariant.way in
    let sum = c.in-Answer.sum in
    let waiting = c.len-waiting.result in
    let count : waiting ≡ length frames = c.len-waiting.ensures ∙ c.loop-step.frames.ok.0 in
    let frame = c.index_mut.result.now in
    let m = way_innermost walking first v frames step sum frame waiting c.in-Answer.is count c.if-waiting-eq0.false c.index_mut.ensures.value way in
    record { outer = m.outer; inner = m.inner; waits = m.waits; keeps = m.inner_keeps; is_known = m.is_known }

pub returns-in_err-parts-in-Answer-clause-keeps : goal.returns-in_err-parts-in-Answer-clause-keeps
returns-in_err-parts-in-Answer-clause-keeps g c =
    keeps_on c.args.manager.now c.loop-step.manager c.resume.new.manager c.loop-step.invariant.way.keeps c.in_err-parts-in-Answer.ensures.keeps

pub returns-in_err-parts-in-Answer-clause-sum : goal.returns-in_err-parts-in-Answer-clause-sum
returns-in_err-parts-in-Answer-clause-sum g c =
    let k = g.K.Kind.NAME in
    let of = g.K.Kind.extra_of in
    let walk = c.args.walk in
    let walking = sums walk k of in
    let laws = sum_laws walk k of in
    let first : SumCall = record { view = c.args.manager.now; operands = (plain of c.args.a, plain of c.args.b) } in
    let v = c.loop-step.manager in
    let frames = c.loop-step.frames.items in
    let step = c.loop-step.step in
    let way = c.loop-step.invariant.way in
    let sum = c.in-Answer.sum in
    let waiting = c.len-waiting.result in
    let count : waiting ≡ length frames = c.len-waiting.ensures ∙ c.loop-step.frames.ok.0 in
    let frame = c.index_mut.result.now in
    let m = way_innermost walking first v frames step sum frame waiting c.in-Answer.is count c.if-waiting-eq0.false c.index_mut.ensures.value way in
    let at : IsWaiting walk k v (plain_sum of frame) (plain of sum) =
    record { outer = m.outer; inner = m.inner; waits = m.waits; keeps = m.inner_keeps; is_known = m.is_known } in
    let w = c.resume.new.manager in
    let e = c.in_err-parts-in-Answer.field-0.0 in
    refused_both k plus (sum_work walk) c.args.manager.now w (plain of c.args.a) (plain of c.args.b) (plain of) c.from_residual-in_err-parts-in-Answer.result e c.from_residual-in_err-parts-in-Answer.ensures.1
    (way_refused walking laws first v w frames sum frame e m c.in_err-parts-in-Answer.ensures.keeps (c.in_err-parts-in-Answer.ensures.resumes at))

pub loop-step-smaller-in-Below-2 : goal.loop-step-smaller-in-Below-2
loop-step-smaller-in-Below-2 g c =
    let k = g.K.Kind.NAME in
    let of = g.K.Kind.extra_of in
    let walk = c.args.walk in
    let walking = sums walk k of in
    let laws = sum_laws walk k of in
    let first : SumCall = record { view = c.args.manager.now; operands = (plain of c.args.a, plain of c.args.b) } in
    let v = c.loop-step.manager in
    let frames = c.loop-step.frames.items in
    let step = c.loop-step.step in
    let way = c.loop-step.invariant.way in
    let sum = c.in-Answer.sum in
    let waiting = c.len-waiting.result in
    let count : waiting ≡ length frames = c.len-waiting.ensures ∙ c.loop-step.frames.ok.0 in
    let frame = c.index_mut.result.now in
    let m = way_innermost walking first v frames step sum frame waiting c.in-Answer.is count c.if-waiting-eq0.false c.index_mut.ensures.value way in
    let at : IsWaiting walk k v (plain_sum of frame) (plain of sum) =
    record { outer = m.outer; inner = m.inner; waits = m.waits; keeps = m.inner_keeps; is_known = m.is_known } in
    let w = c.resume.new.manager in
    let next = c.resume.new.frame in
    let parts = c.in-Below-2.parts in
    let goes = subst (λ x. GoesOn walk k of m.outer w (plain_sum of frame) (plain_sum of next) (Ok x)) c.in-Below-2.is (c.in_ok-parts-in-Answer.ensures.resumes at) in
    fewer_below walking laws first v w frames (set frames (waiting - 1) next) step sum parts frame next waiting c.in-Answer.is m c.in_ok-parts-in-Answer.ensures.keeps count refl
    goes.0 goes.1 (one_fewer frame.has_low next.has_low goes.2 goes.3)

pub loop-step-preserved-in-Below-2 : goal.loop-step-preserved-in-Below-2
loop-step-preserved-in-Below-2 g c =
    let k = g.K.Kind.NAME in
    let of = g.K.Kind.extra_of in
    let walk = c.args.walk in
    let walking = sums walk k of in
    let laws = sum_laws walk k of in
    let first : SumCall = record { view = c.args.manager.now; operands = (plain of c.args.a, plain of c.args.b) } in
    let v = c.loop-step.manager in
    let frames = c.loop-step.frames.items in
    let step = c.loop-step.step in
    let way = c.loop-step.invariant.way in
    let sum = c.in-Answer.sum in
    let waiting = c.len-waiting.result in
    let count : waiting ≡ length frames = c.len-waiting.ensures ∙ c.loop-step.frames.ok.0 in
    let frame = c.index_mut.result.now in
    let m = way_innermost walking first v frames step sum frame waiting c.in-Answer.is count c.if-waiting-eq0.false c.index_mut.ensures.value way in
    let at : IsWaiting walk k v (plain_sum of frame) (plain of sum) =
    record { outer = m.outer; inner = m.inner; waits = m.waits; keeps = m.inner_keeps; is_known = m.is_known } in
    let w = c.resume.new.manager in
    let next = c.resume.new.frame in
    let parts = c.in-Below-2.parts in
    let goes = subst (λ x. GoesOn walk k of m.outer w (plain_sum of frame) (plain_sum of next) (Ok x)) c.in-Below-2.is (c.in_ok-parts-in-Answer.ensures.resumes at) in
    record {
      way = way_goes_below walking laws first v w frames (set frames (waiting - 1) next) sum parts frame next waiting m c.in_ok-parts-in-Answer.ensures.keeps count refl goes.0 goes.1;
      room = c.loop-step.invariant.room;
    }

pub loop-step-smaller : goal.loop-step-smaller
loop-step-smaller g c =
    let k = g.K.Kind.NAME in
    let of = g.K.Kind.extra_of in
    let walk = c.args.walk in
    let walking = sums walk k of in
    let first : SumCall = record { view = c.args.manager.now; operands = (plain of c.args.a, plain of c.args.b) } in
    let v = c.loop-step.manager in
    let frames = c.loop-step.frames.items in
    let step = c.loop-step.step in
    let way = c.loop-step.invariant.way in
    let sum = c.in-Answer.sum in
    let waiting = c.len-waiting.result in
    let count : waiting ≡ length frames = c.len-waiting.ensures ∙ c.loop-step.frames.ok.0 in
    let frame = c.index_mut.result.now in
    let m = way_innermost walking first v frames step sum frame waiting c.in-Answer.is count c.if-waiting-eq0.false c.index_mut.ensures.value way in
    fewer_answers walking first v c.resume.new.manager frames c.truncate.new.self.items step sum c.in-Answer-2.sum frame c.resume.new.frame waiting c.in-Answer.is m
    c.in_ok-parts-in-Answer.ensures.keeps count c.truncate.ensures.items

pub loop-step-preserved : goal.loop-step-preserved
loop-step-preserved g c =
    let k = g.K.Kind.NAME in
    let of = g.K.Kind.extra_of in
    let walk = c.args.walk in
    let walking = sums walk k of in
    let laws = sum_laws walk k of in
    let first : SumCall = record { view = c.args.manager.now; operands = (plain of c.args.a, plain of c.args.b) } in
    let v = c.loop-step.manager in
    let frames = c.loop-step.frames.items in
    let step = c.loop-step.step in
    let way = c.loop-step.invariant.way in
    let sum = c.in-Answer.sum in
    let waiting = c.len-waiting.result in
    let count : waiting ≡ length frames = c.len-waiting.ensures ∙ c.loop-step.frames.ok.0 in
    let frame = c.index_mut.result.now in
    let m = way_innermost walking first v frames step sum frame waiting c.in-Answer.is count c.if-waiting-eq0.false c.index_mut.ensures.value way in
    let at : IsWaiting walk k v (plain_sum of frame) (plain of sum) =
    record { outer = m.outer; inner = m.inner; waits = m.waits; keeps = m.inner_keeps; is_known = m.is_known } in
    let w = c.resume.new.manager in
    let next = c.resume.new.frame in
    let answer = subst (λ x. GoesOn walk k of m.outer w (plain_sum of frame) (plain_sum of next) (Ok x)) c.in-Answer-2.is (c.in_ok-parts-in-Answer.ensures.resumes at) in
    record {
      way = way_answers walking laws first v w frames c.truncate.new.self.items sum c.in-Answer-2.sum frame next waiting m c.in_ok-parts-in-Answer.ensures.keeps count
          c.truncate.ensures.items answer;
      room = c.truncate.ensures.capacity ∙ c.loop-step.invariant.room;
    }
