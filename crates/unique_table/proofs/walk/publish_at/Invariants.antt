use Rattle.std.proofs.Common.{◌-◌}
use Rattle.table_rule.specs.Steps.{exchange_bucket}
use Rattle.unique_table.proofs.walk.publish_at.Given as goal

abbrev pub ghosts-exchange : goal.ghosts-exchange
ghosts-exchange a = record { layout = a.words.now.key; event = λ n. exchange_bucket (a.word - 1) }
