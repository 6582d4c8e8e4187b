use Rattle.std.proofs.Common.{◌-◌}
use Rattle.table_rule.specs.Steps.{load_bucket}
use Rattle.unique_table.proofs.walk.look.Given as goal

abbrev pub ghosts-load : goal.ghosts-load
ghosts-load a = record { layout = a.words.now.key; event = λ n. load_bucket (a.word - 1) }
