use Rattle.checks.proofs.FormulaTables.{formula_tables}
use Rattle.checks.proofs.laws.formula_tables.Goals as goal

pub returns : goal.returns
returns c = formula_tables
