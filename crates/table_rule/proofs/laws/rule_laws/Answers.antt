use Rattle.table_rule.proofs.Steps.{begins, keeps, always}
use Rattle.table_rule.proofs.laws.rule_laws.Goals as goal

pub returns : goal.returns
returns c = record { begins = begins; steps = keeps; always = always }
