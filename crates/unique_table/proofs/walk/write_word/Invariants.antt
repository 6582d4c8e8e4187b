use Rattle.std.proofs.Common.{◌-◌}
use Rattle.table_rule.specs.Steps.{store_word, draft_cell}
use Rattle.table_rule.specs.Words.{word_at}
use Rattle.unique_table.proofs.walk.write_word.Given as goal

abbrev pub ghosts-store : goal.ghosts-store
ghosts-store a = record { layout = a.words.now.key; event = λ n. store_word (a.word - word_at a.words.now.key (draft_cell a.place.now.me.0) 0) a.new }
