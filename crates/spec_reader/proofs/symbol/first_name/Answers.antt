use Rattle.spec_reader.proofs.SymbolLemmas.{name_first}
use Rattle.spec_reader.proofs.symbol.first_name.Goals as goal

pub returns-clause-symbol : goal.returns-clause-symbol
returns-clause-symbol c = rw (c.split_at.ensures.front, c.split_at.ensures.back, c.name_len.ensures.exact) (name_first c.args.text.now c.requires.no_digit c.requires.first_byte)
