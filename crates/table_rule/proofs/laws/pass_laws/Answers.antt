use Rattle.table_rule.proofs.Passes.{knows_once, makes_once}
use Rattle.table_rule.proofs.laws.pass_laws.Goals as goal

pub returns : goal.returns
returns c = record { know_once = knows_once; make_once = makes_once }
