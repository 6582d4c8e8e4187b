use Rattle.circuits.proofs.Polynomials.{polynomial-is_truth}
use Rattle.circuits.proofs.laws.polynomials_are_truth.Goals as goal

pub returns : goal.returns
returns c = polynomial-is_truth
