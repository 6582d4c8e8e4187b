use Rattle.kind_laws.specs.Plain.{plain}
use Rattle.diagram.proofs.LevelLaws.{still_edge}
use Rattle.counterexample_tests.proofs.tests.check.Goals as goal

pub walk_between-requires-clause-left_good : goal.walk_between-requires-clause-left_good
walk_between-requires-clause-left_good g c κs within =
    still_edge g.K.Kind.NAME c.sum.new.builder c.sum-2.new.builder (plain g.K.Kind.extra_of c.in_ok-left.left) c.in_ok-right.ensures.keeps c.in_ok-left.ensures.good
