use Rattle.command_line.proofs.TakenLaw.{taken}
use Rattle.command_line.proofs.laws.taken_words_are_read.Goals as goal

pub returns : goal.returns
returns c = taken
