use Rattle.checks.proofs.FirstDifference.{first_difference_found}
use Rattle.checks.proofs.laws.first_difference_found.Goals as goal

pub returns : goal.returns
returns c = first_difference_found
