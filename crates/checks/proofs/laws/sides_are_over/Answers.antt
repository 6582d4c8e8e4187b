use Rattle.checks.proofs.FormulaTables.{sides_are_over}
use Rattle.checks.proofs.laws.sides_are_over.Goals as goal

pub returns : goal.returns
returns c = sides_are_over
