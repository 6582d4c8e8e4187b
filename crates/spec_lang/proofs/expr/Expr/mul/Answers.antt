use Rattle.std.proofs.Common.{◌∙◌, ap}
use Rattle.spec_lang.specs.Formula.{formula_of, product}
use Rattle.spec_lang.proofs.Formulas.{formula_of-Mul}
use Rattle.spec_lang.proofs.expr.Expr.mul.Goals as goal

pub returns : goal.returns
returns c =
    formula_of-Mul _ _
    ∙ ap (λ x. product (formula_of x) (formula_of c.in_ok-new-2.field-0)) c.in_ok-new.ensures
    ∙ ap (λ x. product (formula_of c.args.a) (formula_of x)) c.in_ok-new-2.ensures
