use Rattle.std.proofs.Common.{◌≡◌}
use Rattle.integers.specs.Gcd.{gcd}
use Rattle.weights.proofs.divisor.narrow_divisor.Given as goal

-- the divisor is still to be found
abbrev pub invariant-loop-b : goal.invariant-loop-b
invariant-loop-b l = gcd l.a l.b ≡ gcd l.first l.second

abbrev pub decreases-loop-b : goal.decreases-loop-b
decreases-loop-b l = l.b
