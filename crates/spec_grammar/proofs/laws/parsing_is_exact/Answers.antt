use Rattle.spec_grammar.proofs.Complete.{written_is_parsed}
use Rattle.spec_grammar.proofs.Sound.{parsed_is_written}
use Rattle.spec_grammar.proofs.laws.parsing_is_exact.Goals as goal

pub returns : goal.returns
returns c = λ line tree. (parsed_is_written line tree, written_is_parsed line tree)
