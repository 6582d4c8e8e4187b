use Rattle.std.proofs.Common.{◌==◌}
use Rattle.table_rule.specs.Steps.{load_word}
use Rattle.unique_table.proofs.walk.read_last.Given as goal

abbrev pub ghosts-read_at : goal.ghosts-read_at
ghosts-read_at a = record { layout = a.table.now.layout; event = λ n. load_word a.id 7 (n == a._wanted) }
