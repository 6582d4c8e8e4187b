use Rattle.std.proofs.Common.{◌∙◌, sym}
use Rattle.spec_grammar.specs.Faults.{is_great}
use Rattle.spec_reader.specs.Good.{has_digits}
use Rattle.spec_reader.specs.Views.{seen_symbol}
use Rattle.spec_reader.proofs.Lists.{at_all_seen, any_hit, any_miss, any_none}
use Rattle.spec_reader.proofs.check_line.has_great_number.Goals as goal

pub is_great_number-requires : goal.is_great_number-requires
is_great_number-requires c = at_all_seen seen_symbol has_digits c.args.symbols.now c.loop-symbol.symbol-index _ c.loop-symbol-test.true c.requires

pub returns-then-is_great_number : goal.returns-then-is_great_number
returns-then-is_great_number c = any_hit seen_symbol is_great c.args.symbols.now c.loop-symbol.symbol-index _ c.loop-symbol-test.true _ c.loop-symbol.invariant (sym c.is_great_number.ensures ∙ c.if-is_great_number.true)

pub loop-symbol-preserved : goal.loop-symbol-preserved
loop-symbol-preserved c = any_miss seen_symbol is_great c.args.symbols.now c.loop-symbol.symbol-index _ c.loop-symbol-test.true _ c.loop-symbol.invariant (sym c.is_great_number.ensures ∙ c.if-is_great_number.false)

pub returns : goal.returns
returns c = any_none seen_symbol is_great c.args.symbols.now c.loop-symbol.symbol-index _ c.loop-symbol-test.false c.loop-symbol.invariant
