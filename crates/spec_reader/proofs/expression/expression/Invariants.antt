use Rattle.std.proofs.Common.{◌≡◌, ◌≤◌, map, drop}
use Rattle.spec_grammar.specs.Parsing.{parsed_from, empty_state}
use Rattle.spec_reader.specs.Meanings.{over}
use Rattle.spec_reader.specs.Views.{seen_symbol, seen_state, minuses_at}
use Rattle.spec_reader.proofs.expression.expression.Given as goal

abbrev pub invariant-loop-symbol : goal.invariant-loop-symbol
invariant-loop-symbol l = record {
  rest : parsed_from (over l.words) (seen_state l.state) (drop l.symbol-index (map seen_symbol l.symbols)) ≡ parsed_from (over l.words) empty_state (map seen_symbol l.symbols);
  small : minuses_at l.state.place ≤ l.symbol-index;
}
