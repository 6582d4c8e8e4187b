use Rattle.std.proofs.Common.{◌-◌}
use Rattle.table_rule.specs.Steps.{exchange_chunk}
use Rattle.table_rule.specs.Words.{chunk_at}
use Rattle.unique_table.proofs.walk.try_chunk.Given as goal

abbrev pub ghosts-exchange : goal.ghosts-exchange
ghosts-exchange a = record { layout = a.words.now.key; event = λ n. exchange_chunk (a.word - chunk_at a.words.now.key 0) }
