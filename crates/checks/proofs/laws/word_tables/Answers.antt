use Rattle.checks.proofs.WordTables.{word_tables}
use Rattle.checks.proofs.laws.word_tables.Goals as goal

pub returns : goal.returns
returns c = word_tables
