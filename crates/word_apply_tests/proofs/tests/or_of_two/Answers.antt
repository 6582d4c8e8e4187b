use Rattle.diagram.proofs.LevelLaws.{still_edge, good_at}
use Rattle.kind_laws.specs.Plain.{plain}
use Rattle.word_apply_tests.proofs.tests.or_of_two.Goals as goal

pub or-requires-clause-a_good : goal.or-requires-clause-a_good
or-requires-clause-a_good g c κs within =
    let x = plain g.K.Kind.extra_of c.in_ok-x.x in
    still_edge g.K.Kind.NAME c.var.new.self c.var-2.new.self x c.in_ok-y.ensures.keeps (good_at g.K.Kind.NAME c.var.new.self x 0 _ c.in_ok-x.ensures.table.stands)

pub or-requires-clause-b_good : goal.or-requires-clause-b_good
or-requires-clause-b_good g c κs within =
    good_at g.K.Kind.NAME c.var-2.new.self (plain g.K.Kind.extra_of c.in_ok-y.y) 0 _ c.in_ok-y.ensures.table.stands
