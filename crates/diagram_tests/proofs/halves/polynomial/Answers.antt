use Rattle.std.proofs.Common.{arith}
use Rattle.diagram_tests.proofs.halves.polynomial.Goals as goal

pub one_more-requires-after_bounds : goal.one_more-requires-after_bounds
one_more-requires-after_bounds g c κs within = (_, c.constant-sum.ensures.table 0 (omega arith))
