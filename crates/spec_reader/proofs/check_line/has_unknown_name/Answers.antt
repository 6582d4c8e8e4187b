use Rattle.std.proofs.Common.{◌∙◌}
use Rattle.spec_grammar.specs.Faults.{is_unknown_name}
use Rattle.spec_reader.specs.Views.{seen_symbol}
use Rattle.spec_reader.proofs.LineFaults.{list_any-map}
use Rattle.spec_reader.proofs.check_line.has_unknown_name.Goals as goal

pub returns : goal.returns
returns c = c.is_some_unknown.ensures ∙ list_any-map (is_unknown_name c.args.words.now) seen_symbol c.args.symbols.now
