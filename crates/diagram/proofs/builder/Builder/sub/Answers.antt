use Rattle.kind_laws.specs.Plain.{plain, answered}
use Rattle.diagram.proofs.DifferenceLaws.{negative_refuses, difference_answers}
use Rattle.diagram.proofs.LevelLaws.{still_edge, good_at}
use Rattle.diagram.proofs.StoreLaws.{keeps_on}
use Rattle.diagram.proofs.builder.Builder.sub.Goals as goal

pub returns-in_err-negative-clause-keeps : goal.returns-in_err-negative-clause-keeps
returns-in_err-negative-clause-keeps g c = c.in_err-negative.ensures.keeps

pub returns-in_err-negative-clause-difference : goal.returns-in_err-negative-clause-difference
returns-in_err-negative-clause-difference g c =
    negative_refuses g.K.Kind.NAME c.args.self.now c.neg.new.self (plain g.K.Kind.extra_of c.args.a) (plain g.K.Kind.extra_of c.args.b) (plain g.K.Kind.extra_of)
    c.from_residual.result c.in_err-negative.field-0.0 c.from_residual.ensures.1 c.in_err-negative.ensures.keeps c.in_err-negative.ensures.negative

pub add-requires-clause-a_good : goal.add-requires-clause-a_good
add-requires-clause-a_good g c κs within =
    still_edge g.K.Kind.NAME c.args.self.now c.neg.new.self (plain g.K.Kind.extra_of c.args.a) c.in_ok-negative.ensures.keeps c.requires.a_good

pub add-requires-clause-b_good : goal.add-requires-clause-b_good
add-requires-clause-b_good g c κs within =
    good_at g.K.Kind.NAME c.neg.new.self (plain g.K.Kind.extra_of c.in_ok-negative.negative) 0 _ (c.in_ok-negative.ensures.negative 0 c.requires.b_good.0 c.requires.b_good.1).stands

pub returns-clause-keeps : goal.returns-clause-keeps
returns-clause-keeps g c = keeps_on c.args.self.now c.neg.new.self c.add.new.self c.in_ok-negative.ensures.keeps c.add.ensures.keeps

pub returns-clause-difference : goal.returns-clause-difference
returns-clause-difference g c =
    difference_answers g.K.Kind.NAME c.args.self.now c.neg.new.self c.add.new.self (plain g.K.Kind.extra_of c.args.a) (plain g.K.Kind.extra_of c.args.b)
    (plain g.K.Kind.extra_of c.in_ok-negative.negative) (answered (plain g.K.Kind.extra_of) c.add.result) c.in_ok-negative.ensures.keeps c.in_ok-negative.ensures.negative
    c.add.ensures.keeps c.add.ensures.sum
