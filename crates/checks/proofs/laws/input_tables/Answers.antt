use Rattle.checks.proofs.InputTables.{input_tables}
use Rattle.checks.proofs.laws.input_tables.Goals as goal

pub returns : goal.returns
returns c = input_tables
