use Rattle.std.proofs.Common.{sym, ◌∙◌, ◌<◌, ◌%◌, arith}
use Rattle.std.proofs.Math.Nat.{mod-lt}
use Rattle.kind_laws.proofs.GcdLaws.{gcd_step}
use Rattle.kind_laws.proofs.divisor.euclid.Goals as goal

pub loop-b-preserved : goal.loop-b-preserved
loop-b-preserved c =
    let positive : 0 < c.loop-b.b = omega (arith, c.loop-b-test.true) in
    let smaller : c.loop-b.a % c.loop-b.b < c.loop-b.b = mod-lt c.loop-b.a positive in
    (sym (gcd_step c.loop-b.a c.loop-b.b) ∙ c.loop-b.invariant.0, c.loop-b.invariant.2, omega (arith, smaller, c.loop-b.invariant.2))
