use Rattle.checks.proofs.Replaced.{top_variable_replaced}
use Rattle.checks.proofs.laws.top_variable_replaced.Goals as goal

pub returns : goal.returns
returns c = top_variable_replaced
