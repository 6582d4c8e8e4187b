use Rattle.std.proofs.Common.{sym}
use Rattle.weights.proofs.GcdLaws.{signed_gcd-of_unit}
use Rattle.weights.proofs.divisor.signed_gcd.Goals as goal

pub returns-then-is_unit : goal.returns-then-is_unit
returns-then-is_unit c = sym (signed_gcd-of_unit c.args.first c.args.second c.args.third (c.is_unit.ensures.0 c.if-is_unit.true))
