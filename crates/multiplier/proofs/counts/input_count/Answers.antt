use Rattle.multiplier.proofs.GateCounts.{input_count}
use Rattle.multiplier.proofs.counts.input_count.Goals as goal

pub returns-clause-counted : goal.returns-clause-counted
returns-clause-counted c = input_count c.args.size
