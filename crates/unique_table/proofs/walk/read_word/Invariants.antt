use Rattle.std.proofs.Common.{false}
use Rattle.table_rule.specs.Steps.{load_word}
use Rattle.unique_table.proofs.walk.read_word.Given as goal

abbrev pub ghosts-read_at : goal.ghosts-read_at
ghosts-read_at a = record { layout = a.table.now.layout; event = λ n. load_word a.id a.i false }
