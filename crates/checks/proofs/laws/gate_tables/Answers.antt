use Rattle.checks.proofs.GateTables.{gate_tables}
use Rattle.checks.proofs.laws.gate_tables.Goals as goal

pub returns : goal.returns
returns c = gate_tables
