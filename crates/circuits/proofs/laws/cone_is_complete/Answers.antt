use Rattle.circuits.proofs.Cones.{cone-complete}
use Rattle.circuits.proofs.laws.cone_is_complete.Goals as goal

pub returns : goal.returns
returns c = cone-complete
