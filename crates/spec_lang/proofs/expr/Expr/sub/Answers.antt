use Rattle.std.proofs.Common.{◌∙◌, ap}
use Rattle.spec_lang.specs.Formula.{formula_of, difference}
use Rattle.spec_lang.proofs.Formulas.{formula_of-Sub}
use Rattle.spec_lang.proofs.expr.Expr.sub.Goals as goal

pub returns : goal.returns
returns c =
    formula_of-Sub _ _
    ∙ ap (λ x. difference (formula_of x) (formula_of c.in_ok-new-2.field-0)) c.in_ok-new.ensures
    ∙ ap (λ x. difference (formula_of c.args.a) (formula_of x)) c.in_ok-new-2.ensures
