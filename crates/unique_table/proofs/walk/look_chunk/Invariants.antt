use Rattle.std.proofs.Common.{◌-◌}
use Rattle.table_rule.specs.Steps.{load_chunk}
use Rattle.table_rule.specs.Words.{chunk_at}
use Rattle.unique_table.proofs.walk.look_chunk.Given as goal

abbrev pub ghosts-load : goal.ghosts-load
ghosts-load a = record { layout = a.words.now.key; event = λ n. load_chunk (a.word - chunk_at a.words.now.key 0) }
