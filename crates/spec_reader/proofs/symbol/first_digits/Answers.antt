use Rattle.spec_reader.proofs.SymbolLemmas.{digits_first}
use Rattle.spec_reader.proofs.symbol.first_digits.Goals as goal

pub returns-clause-symbol : goal.returns-clause-symbol
returns-clause-symbol c = rw (c.split_at.ensures.front, c.split_at.ensures.back, c.digits_len.ensures.exact) (digits_first c.args.text.now c.requires)
