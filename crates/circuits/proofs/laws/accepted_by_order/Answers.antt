use Rattle.circuits.proofs.Accepted.{accepted-iff_full}
use Rattle.circuits.proofs.laws.accepted_by_order.Goals as goal

pub returns : goal.returns
returns c = accepted-iff_full
