use Rattle.std.proofs.Common.{refl, arith}
use Rattle.kind_laws.specs.Plain.{plain}
use Rattle.diagram.specs.ProductFrames.{plain_product}
use Rattle.diagram.specs.declared.product_walk.Stage.TheVariants.{HighLow}
use Rattle.diagram.proofs.ProductWalk.{fewer_left, mixed_good, known_good, mixed_refuses, waits_for_high_davio, goes_on_refused}
use Rattle.diagram.proofs.product_walk.after_high_low.Goals as goal

pub sum_of-requires-clause-a_good : goal.sum_of-requires-clause-a_good
sum_of-requires-clause-a_good g c κs within =
    mixed_good g.K.Kind.NAME (plain_product g.K.Kind.extra_of c.args.frame.now) c.args.manager.now (plain g.K.Kind.extra_of c.args.known) c.requires.stage c.requires.waiting

pub sum_of-requires-clause-b_good : goal.sum_of-requires-clause-b_good
sum_of-requires-clause-b_good g c κs within =
    known_good g.K.Kind.NAME (plain_product g.K.Kind.extra_of c.args.frame.now) c.args.manager.now (plain g.K.Kind.extra_of c.args.known) c.requires.waiting

pub returns-in_err-mixed-clause-resumes : goal.returns-in_err-mixed-clause-resumes
returns-in_err-mixed-clause-resumes g c = λ at.
    let k = g.K.Kind.NAME in
    let f = plain_product g.K.Kind.extra_of c.args.frame.now in
    goes_on_refused k g.K.Kind.extra_of at.outer c.sum_of.new.manager f f c.from_residual.result c.in_err-mixed.field-0.0 c.from_residual.ensures.1
    (mixed_refuses k f c.args.manager.now c.sum_of.new.manager (plain g.K.Kind.extra_of c.args.known) c.in_err-mixed.field-0.0 c.requires.stage at c.in_err-mixed.ensures.keeps
    c.in_err-mixed.ensures.sum)

pub returns-clause-resumes : goal.returns-clause-resumes
returns-clause-resumes g c = λ at.
    let k = g.K.Kind.NAME in
    let f = plain_product g.K.Kind.extra_of c.args.frame.now in (
      waits_for_high_davio k f c.args.manager.now c.sum_of.new.manager (plain g.K.Kind.extra_of c.args.known) (plain g.K.Kind.extra_of c.in_ok-mixed.mixed) c.requires.stage at
          c.in_ok-mixed.ensures.keeps c.in_ok-mixed.ensures.sum,
      refl,
      fewer_left 0 f.stage HighLow c.requires.stage (omega arith),
    )
