use Rattle.multiplier.proofs.GateCounts.{gate_count}
use Rattle.multiplier.proofs.counts.gate_count.Goals as goal

pub returns-clause-counted : goal.returns-clause-counted
returns-clause-counted c = gate_count c.args.size c.requires.not_below
