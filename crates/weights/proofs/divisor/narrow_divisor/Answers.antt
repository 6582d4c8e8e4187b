use Rattle.std.proofs.Common.{sym, ◌∙◌}
use Rattle.weights.proofs.GcdLaws.{gcd_step}
use Rattle.weights.proofs.divisor.narrow_divisor.Goals as goal

pub loop-b-preserved : goal.loop-b-preserved
loop-b-preserved c = sym (gcd_step c.loop-b.a c.loop-b.b) ∙ c.loop-b.invariant
