use Rattle.spec_lang.specs.Formula.{formula_of}
use Rattle.word_apply.proofs.ExpressionLaws.{operations}
use Rattle.word_apply.proofs.expressions.+expression.Given as goal

abbrev pub decreases-expression : goal.decreases-expression
decreases-expression g l = operations (formula_of l.expr.now)
