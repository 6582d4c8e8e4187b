use Rattle.std.proofs.Common.{◌≡◌, vec_capacity}
use Rattle.kind_laws.specs.Plain.{plain}
use Rattle.diagram.specs.Frames.{IsUnderWay, steps_left}
use Rattle.diagram.specs.Multiples.{multiples}
use Rattle.diagram.proofs.multiple_walk.multiple_of.Given as goal

abbrev pub invariant-loop-step : goal.invariant-loop-step
invariant-loop-step g l = record {
  way : IsUnderWay (multiples l.factor g.K.Kind.NAME g.K.Kind.extra_of) (record { view = l.fn.manager; operands = plain g.K.Kind.extra_of l.fn.a }) l.manager l.frames.items l.step;
  room : vec_capacity l.frames ≡ vec_capacity l.fn.frames;
}

abbrev pub decreases-loop-step : goal.decreases-loop-step
decreases-loop-step g l = steps_left (multiples l.factor g.K.Kind.NAME g.K.Kind.extra_of) l.manager l.frames.items l.step
