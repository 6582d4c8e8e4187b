use Rattle.std.proofs.Common.{◌≡◌, map, drop}
use Rattle.std.specs.List.{list_any}
use Rattle.spec_grammar.specs.Faults.{is_great}
use Rattle.spec_reader.specs.Views.{seen_symbol}
use Rattle.spec_reader.proofs.check_line.has_great_number.Given as goal

abbrev pub invariant-loop-symbol : goal.invariant-loop-symbol
invariant-loop-symbol l = list_any is_great (drop l.symbol-index (map seen_symbol l.symbols)) ≡ list_any is_great (map seen_symbol l.symbols)
