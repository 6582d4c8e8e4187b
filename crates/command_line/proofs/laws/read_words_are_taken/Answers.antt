use Rattle.command_line.proofs.TakenLaw.{read}
use Rattle.command_line.proofs.laws.read_words_are_taken.Goals as goal

pub returns : goal.returns
returns c = read
