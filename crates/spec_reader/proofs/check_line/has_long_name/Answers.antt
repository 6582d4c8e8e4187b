use Rattle.std.proofs.Common.{◌∙◌}
use Rattle.spec_grammar.specs.Faults.{has_long_name}
use Rattle.spec_reader.specs.Views.{seen_symbol}
use Rattle.spec_reader.proofs.LineFaults.{list_any-map}
use Rattle.spec_reader.proofs.check_line.has_long_name.Goals as goal

pub returns : goal.returns
returns c = c.is_some_long.ensures ∙ list_any-map has_long_name seen_symbol c.args.symbols.now
