use Rattle.std.proofs.Common.{arith}
use Rattle.counterexample_tests.proofs.tests.is_refused.Goals as goal

pub walk_between-walked-requires-clause-left_good : goal.walk_between-walked-requires-clause-left_good
walk_between-walked-requires-clause-left_good g c κs within = (_, c.constant-zero.ensures.table 0 (omega arith))
