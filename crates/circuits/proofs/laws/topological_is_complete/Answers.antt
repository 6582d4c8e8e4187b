use Rattle.circuits.proofs.Topological.{topological-complete}
use Rattle.circuits.proofs.laws.topological_is_complete.Goals as goal

pub returns : goal.returns
returns c = topological-complete
