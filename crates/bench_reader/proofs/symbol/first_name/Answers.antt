use Rattle.bench_reader.proofs.SymbolLemmas.{name_first}
use Rattle.bench_reader.proofs.symbol.first_name.Goals as goal

pub returns-clause-symbol : goal.returns-clause-symbol
returns-clause-symbol c = rw (c.split_name.ensures.name, c.split_name.ensures.rest) (name_first c.args.text.now c.requires)
