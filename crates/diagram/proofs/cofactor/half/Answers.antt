use Rattle.std.proofs.Common.{ap}
use Rattle.std.specs.Prelude.{not}
use Rattle.word_base.specs.declared.decomp.Decomp.TheVariants.{P, N}
use Rattle.kind_laws.specs.Plain.{plain}
use Rattle.diagram.proofs.HalfLaws.{sum_is_half, no_half, parts_good, letter_read}
use Rattle.diagram.proofs.cofactor.half.Goals as goal

pub returns-in_err-low-clause-half : goal.returns-in_err-low-clause-half
returns-in_err-low-clause-half g c =
    no_half g.K.Kind.NAME c.args.manager.now c.parts.new.self c.args.level c.args.bit (plain g.K.Kind.extra_of c.args.edge) c.in_err-low.field-0.0
    (plain g.K.Kind.extra_of) c.from_residual.result c.in_err-low.ensures.unchanged c.in_err-low.ensures.parts c.from_residual.ensures.1

pub sum_of-requires-clause-a_good : goal.sum_of-requires-clause-a_good
sum_of-requires-clause-a_good g c κs within =
    (parts_good g.K.Kind.NAME c.args.manager.now c.parts.new.self c.args.level (plain g.K.Kind.extra_of c.args.edge) (plain g.K.Kind.extra_of c.in_ok-low.low)
    (plain g.K.Kind.extra_of c.in_ok-low.high) c.requires.good c.in_ok-low.ensures.unchanged c.in_ok-low.ensures.parts).0

pub sum_of-requires-clause-b_good : goal.sum_of-requires-clause-b_good
sum_of-requires-clause-b_good g c κs within =
    (parts_good g.K.Kind.NAME c.args.manager.now c.parts.new.self c.args.level (plain g.K.Kind.extra_of c.args.edge) (plain g.K.Kind.extra_of c.in_ok-low.low)
    (plain g.K.Kind.extra_of c.in_ok-low.high) c.requires.good c.in_ok-low.ensures.unchanged c.in_ok-low.ensures.parts).1

pub sum_of-requires-else-bit-3-clause-a_good : goal.sum_of-requires-else-bit-3-clause-a_good
sum_of-requires-else-bit-3-clause-a_good g c κs within =
    (parts_good g.K.Kind.NAME c.args.manager.now c.parts.new.self c.args.level (plain g.K.Kind.extra_of c.args.edge) (plain g.K.Kind.extra_of c.in_ok-low.low)
    (plain g.K.Kind.extra_of c.in_ok-low.high) c.requires.good c.in_ok-low.ensures.unchanged c.in_ok-low.ensures.parts).0

pub sum_of-requires-else-bit-3-clause-b_good : goal.sum_of-requires-else-bit-3-clause-b_good
sum_of-requires-else-bit-3-clause-b_good g c κs within =
    (parts_good g.K.Kind.NAME c.args.manager.now c.parts.new.self c.args.level (plain g.K.Kind.extra_of c.args.edge) (plain g.K.Kind.extra_of c.in_ok-low.low)
    (plain g.K.Kind.extra_of c.in_ok-low.high) c.requires.good c.in_ok-low.ensures.unchanged c.in_ok-low.ensures.parts).1

pub returns-then-bit-2-clause-half : goal.returns-then-bit-2-clause-half
returns-then-bit-2-clause-half g c =
    let v = c.args.manager.now in
    sum_is_half g.K.Kind.NAME v c.parts.new.self c.sum_of.new.manager c.args.level P c.args.bit (plain g.K.Kind.extra_of c.args.edge) (plain g.K.Kind.extra_of c.in_ok-low.low)
    (plain g.K.Kind.extra_of c.in_ok-low.high) _ (letter_read v c.parts.new.self c.args.level P c.in_ok-low.ensures.unchanged c.in-P.ensures.letter) c.if-bit-2.true
    c.requires.good.below c.in_ok-low.ensures.unchanged c.in_ok-low.ensures.parts c.sum_of.ensures.keeps c.sum_of.ensures.sum

pub returns-else-bit-3-clause-half : goal.returns-else-bit-3-clause-half
returns-else-bit-3-clause-half g c =
    let v = c.args.manager.now in
    sum_is_half g.K.Kind.NAME v c.parts.new.self c.sum_of-else-bit-3.new.manager c.args.level N c.args.bit (plain g.K.Kind.extra_of c.args.edge)
    (plain g.K.Kind.extra_of c.in_ok-low.low) (plain g.K.Kind.extra_of c.in_ok-low.high) _
    (letter_read v c.parts.new.self c.args.level N c.in_ok-low.ensures.unchanged c.in-N.ensures.letter) (ap not c.if-bit-3.false)
    c.requires.good.below c.in_ok-low.ensures.unchanged c.in_ok-low.ensures.parts c.sum_of-else-bit-3.ensures.keeps c.sum_of-else-bit-3.ensures.sum
