use Rattle.circuits.proofs.Cones.{is_in_cone-reached}
use Rattle.circuits.proofs.laws.cone_is_reached.Goals as goal

pub returns : goal.returns
returns c = is_in_cone-reached
