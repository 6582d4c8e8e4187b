use Rattle.std.proofs.Common.{◌≡◌, ◌≤◌, map, drop}
use Rattle.spec_reader.specs.Surveys.{surveyed_from, empty_survey, largest}
use Rattle.spec_reader.specs.Views.{seen_symbol, seen_survey}
use Rattle.spec_reader.proofs.survey.nesting.Given as goal

abbrev pub invariant-loop-symbol : goal.invariant-loop-symbol
invariant-loop-symbol l = record {
  rest : surveyed_from (seen_survey l.survey) (drop l.symbol-index (map seen_symbol l.symbols)) ≡ surveyed_from empty_survey (map seen_symbol l.symbols);
  small : largest (seen_survey l.survey) ≤ l.symbol-index;
}
