use Rattle.std.proofs.Common.{ℕ, sym, ◌∙◌, ap}
use Rattle.integers.specs.Gcd.{gcd}
use Rattle.weights.proofs.GcdLaws.{gcd-one_left, gcd-one_right}
use Rattle.weights.proofs.divisor.divisor_of.Goals as goal
use Rattle.weights.proofs.divisor.divisor_of.Goals.{then-first-eq1-via-then-first-eq1, then-first-eq1-via-else-first-eq1+then-second-eq1}

pub returns-then-first-eq1-clause-divisor : goal.returns-then-first-eq1-clause-divisor
returns-then-first-eq1-clause-divisor c =
    elim c.then-first-eq1.branch [
      | then-first-eq1-via-then-first-eq1 w ↦ sym (ap (λ (n : ℕ). gcd n c.args.second) w.if-first-eq1.true ∙ gcd-one_left c.args.second)
      | then-first-eq1-via-else-first-eq1+then-second-eq1 w ↦ sym (ap (gcd c.args.first) w.if-second-eq1.true ∙ gcd-one_right c.args.first)
    ]
