use Rattle.std.proofs.Common.{◌∙◌, ap}
use Rattle.spec_lang.specs.Formula.{formula_of, negative}
use Rattle.spec_lang.proofs.Formulas.{formula_of-Neg}
use Rattle.spec_lang.proofs.expr.Expr.neg.Goals as goal

pub returns : goal.returns
returns c = formula_of-Neg _ ∙ ap (λ x. negative (formula_of x)) c.in_ok-new.ensures
