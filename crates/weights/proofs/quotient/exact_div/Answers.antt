use Rattle.std.proofs.Common.{rules, ap, ◌∙◌, ℤ, ◌*ℤ◌}
use Rattle.integers.proofs.Division.{times_int_div}
use Rattle.weights.proofs.quotient.exact_div.Goals as goal

pub returns-clause-exact : goal.returns-clause-exact
returns-clause-exact c =
    let e = times_int_div c.args.number c.args.by c.requires.divides in
    ap (λ (z : ℤ). c.args.by *ℤ z) (search rules) ∙ e
