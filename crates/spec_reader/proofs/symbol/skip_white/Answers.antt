use Rattle.spec_reader.proofs.SymbolLemmas.{white_dropped, white_stops}
use Rattle.spec_reader.proofs.symbol.skip_white.Goals as goal

pub returns-clause-same : goal.returns-clause-same
returns-clause-same c = rw c.behind_white.ensures (white_dropped c.args.text.now)

pub returns-clause-first : goal.returns-clause-first
returns-clause-first c = rw c.behind_white.ensures (white_stops c.args.text.now)
