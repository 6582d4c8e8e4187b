use Rattle.std.proofs.Common.{◌∙◌, map, sym, ap, Some, option_map}
use Rattle.spec_grammar.specs.Parsing.{parsed}
use Rattle.spec_grammar.specs.Trees.{formula}
use Rattle.spec_lang.specs.Formula.{formula_of}
use Rattle.spec_reader.specs.Views.{seen_symbol}
use Rattle.spec_reader.proofs.CheckLines.{some_since, sides_since}
use Rattle.spec_reader.proofs.check_line.sides.Goals as goal

pub unwrap-left-requires : goal.unwrap-left-requires
unwrap-left-requires c =
    some_since formula_of (formula c.args.words.now) c.in_ok-expression.field-0 (parsed (map seen_symbol c.args.left.now)) c.in_ok-expression.ensures c.requires.left

pub unwrap-right-requires : goal.unwrap-right-requires
unwrap-right-requires c =
    some_since formula_of (formula c.args.words.now) c.in_ok-expression-2.field-0 (parsed (map seen_symbol c.args.right.now)) c.in_ok-expression-2.ensures c.requires.right

pub returns : goal.returns
returns c =
    sides_since c.args.words.now (formula_of c.unwrap-left.result) (formula_of c.unwrap-right.result) (parsed (map seen_symbol c.args.left.now)) (parsed (map seen_symbol c.args.right.now))
    (sym (ap (option_map formula_of) c.unwrap-left.ensures) ∙ c.in_ok-expression.ensures)
    (sym (ap (option_map formula_of) c.unwrap-right.ensures) ∙ c.in_ok-expression-2.ensures)
    ∙ ap Some (sym c.new.ensures)
