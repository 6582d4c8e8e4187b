use Rattle.std.proofs.Common.{arith}
use Rattle.kind_laws.specs.Plain.{plain}
use Rattle.diagram.proofs.LevelLaws.{good_at}
use Rattle.counterexample_tests.proofs.tests.more_at_zero.Goals as goal

pub sub-requires-clause-a_good : goal.sub-requires-clause-a_good
sub-requires-clause-a_good g c κs within = (_, c.constant-one.ensures.table 0 (omega arith))

pub times_product-requires-after_bounds : goal.times_product-requires-after_bounds
times_product-requires-after_bounds g c κs within =
    let x = c.in_ok-x.ensures.good in
    good_at g.K.Kind.NAME c.sub.new.self (plain g.K.Kind.extra_of c.in_ok-low.low) 0 _
    (c.in_ok-low.ensures.difference 0 _ x.0 (c.constant-one.ensures.table 0 (omega arith)) x.1).stands
