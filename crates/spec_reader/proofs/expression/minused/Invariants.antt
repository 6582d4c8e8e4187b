use Rattle.std.proofs.Common.{◌≡◌}
use Rattle.spec_grammar.specs.Parsing.{minused}
use Rattle.spec_lang.specs.Formula.{formula_of}
use Rattle.spec_reader.specs.Meanings.{on_formulas}
use Rattle.spec_reader.proofs.expression.minused.Given as goal

abbrev pub invariant-loop-done : goal.invariant-loop-done
invariant-loop-done l = formula_of l.expr ≡ minused on_formulas l._done (formula_of l.fn.expr)
