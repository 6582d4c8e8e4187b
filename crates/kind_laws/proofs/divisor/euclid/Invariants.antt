use Rattle.std.proofs.Common.{◌≡◌, ◌<◌, ◌^◌}
use Rattle.integers.specs.Gcd.{gcd}
use Rattle.kind_laws.proofs.divisor.euclid.Given as goal

-- the divisor is still to be found
abbrev pub invariant-loop-b : goal.invariant-loop-b
invariant-loop-b l = (gcd l.a l.b ≡ gcd l.first l.second) × (l.a < 2 ^ 127) × (l.b < 2 ^ 127)

abbrev pub decreases-loop-b : goal.decreases-loop-b
decreases-loop-b l = l.b
