use Rattle.table_rule.proofs.Passes.{whole_is_alone, whole_owns_all}
use Rattle.table_rule.proofs.laws.whole_pass_laws.Goals as goal

pub returns : goal.returns
returns c = record { alone = whole_is_alone; owns_all = whole_owns_all }
