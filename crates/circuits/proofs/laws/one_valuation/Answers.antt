use Rattle.circuits.proofs.Rounds.{IsValuation-valuation, valuation-only}
use Rattle.circuits.proofs.laws.one_valuation.Goals as goal

pub returns : goal.returns
returns c circuit bits accepted many = (IsValuation-valuation circuit bits many accepted, valuation-only circuit bits many accepted)
