use Rattle.std.proofs.Common.{◌≡◌, ◌+ℤ◌, ◌-ℤ◌, ◌*ℤ◌, sym, ap, ◌∙◌}
use Rattle.spec_lang.specs.Formula.{formula_of, negative, sum, difference, product}
use Rattle.spec_lang.proofs.Formulas.{formula_of-Neg, formula_of-Add, formula_of-Sub, formula_of-Mul}
use Rattle.spec_lang.proofs.Values.{err_since, first_of, second_of, neg_is, both_are}
use Rattle.std.proofs.lemmas.Bool.{and_parts}
use Rattle.spec_lang.proofs.value.+value_of.Goals as goal

pub returns-in_err-value_of-in-Neg : goal.returns-in_err-value_of-in-Neg
returns-in_err-value_of-in-Neg t c =
    let e : formula_of c.args.expr.now ≡ negative (formula_of c.get.result.now) = ap formula_of c.in-Neg.is ∙ formula_of-Neg c.in-Neg.a ∙ ap (λ x. negative (formula_of x)) (sym c.get.ensures) in
    rw e (err_since c.from_residual.result _ _ c.from_residual.ensures.0 (λ h. c.in_err-value_of-in-Neg.ensures (and_parts _ _ h).0))

pub returns-in_ok-value_of-in-Neg : goal.returns-in_ok-value_of-in-Neg
returns-in_ok-value_of-in-Neg t c =
    let e : formula_of c.args.expr.now ≡ negative (formula_of c.get.result.now) = ap formula_of c.in-Neg.is ∙ formula_of-Neg c.in-Neg.a ∙ ap (λ x. negative (formula_of x)) (sym c.get.ensures) in
    rw e (neg_is c.args.words.now c.args.values.now (formula_of c.get.result.now) c.in_ok-value_of-in-Neg.field-0 _ c.in_ok-value_of-in-Neg.ensures.0 c.in_ok-value_of-in-Neg.ensures.1 c.neg.ensures)

pub returns-in_err-value_of-in-Add : goal.returns-in_err-value_of-in-Add
returns-in_err-value_of-in-Add t c =
    let e : formula_of c.args.expr.now ≡ sum (formula_of c.get-in-Add.result.now) (formula_of c.in-Add.b) = ap formula_of c.in-Add.is ∙ formula_of-Add c.in-Add.a c.in-Add.b ∙ ap (λ x. sum (formula_of x) (formula_of c.in-Add.b)) (sym c.get-in-Add.ensures) in
    rw e (err_since c.from_residual-in_err-value_of-in-Add.result _ _ c.from_residual-in_err-value_of-in-Add.ensures.0 (λ h. c.in_err-value_of-in-Add.ensures (first_of _ _ _ h)))

pub returns-in_err-value_of-in-Add-2 : goal.returns-in_err-value_of-in-Add-2
returns-in_err-value_of-in-Add-2 t c =
    let e : formula_of c.args.expr.now ≡ sum (formula_of c.in-Add.a) (formula_of c.get-in-Add-2.result.now) = ap formula_of c.in-Add.is ∙ formula_of-Add c.in-Add.a c.in-Add.b ∙ ap (λ x. sum (formula_of c.in-Add.a) (formula_of x)) (sym c.get-in-Add-2.ensures) in
    rw e (err_since c.from_residual-in_err-value_of-in-Add-2.result _ _ c.from_residual-in_err-value_of-in-Add-2.ensures.0 (λ h. c.in_err-value_of-in-Add-2.ensures (second_of _ _ _ h)))

pub returns-in_ok-value_of-in-Add-2 : goal.returns-in_ok-value_of-in-Add-2
returns-in_ok-value_of-in-Add-2 t c =
    let e : formula_of c.args.expr.now ≡ sum (formula_of c.get-in-Add.result.now) (formula_of c.get-in-Add-2.result.now) = ap formula_of c.in-Add.is ∙ formula_of-Add c.in-Add.a c.in-Add.b ∙ ap (λ x. sum (formula_of x) (formula_of c.in-Add.b)) (sym c.get-in-Add.ensures) ∙ ap (λ x. sum (formula_of c.get-in-Add.result.now) (formula_of x)) (sym c.get-in-Add-2.ensures) in
    rw e (both_are (◌+ℤ◌) _ _ _ _ _ _ c.add.result c.in_ok-value_of-in-Add.ensures.0 c.in_ok-value_of-in-Add.ensures.1 c.in_ok-value_of-in-Add-2.ensures.0 c.in_ok-value_of-in-Add-2.ensures.1 c.add.ensures)

pub returns-in_err-value_of-in-Sub : goal.returns-in_err-value_of-in-Sub
returns-in_err-value_of-in-Sub t c =
    let e : formula_of c.args.expr.now ≡ difference (formula_of c.get-in-Sub.result.now) (formula_of c.in-Sub.b) = ap formula_of c.in-Sub.is ∙ formula_of-Sub c.in-Sub.a c.in-Sub.b ∙ ap (λ x. difference (formula_of x) (formula_of c.in-Sub.b)) (sym c.get-in-Sub.ensures) in
    rw e (err_since c.from_residual-in_err-value_of-in-Sub.result _ _ c.from_residual-in_err-value_of-in-Sub.ensures.0 (λ h. c.in_err-value_of-in-Sub.ensures (first_of _ _ _ h)))

pub returns-in_err-value_of-in-Sub-2 : goal.returns-in_err-value_of-in-Sub-2
returns-in_err-value_of-in-Sub-2 t c =
    let e : formula_of c.args.expr.now ≡ difference (formula_of c.in-Sub.a) (formula_of c.get-in-Sub-2.result.now) = ap formula_of c.in-Sub.is ∙ formula_of-Sub c.in-Sub.a c.in-Sub.b ∙ ap (λ x. difference (formula_of c.in-Sub.a) (formula_of x)) (sym c.get-in-Sub-2.ensures) in
    rw e (err_since c.from_residual-in_err-value_of-in-Sub-2.result _ _ c.from_residual-in_err-value_of-in-Sub-2.ensures.0 (λ h. c.in_err-value_of-in-Sub-2.ensures (second_of _ _ _ h)))

pub returns-in_ok-value_of-in-Sub-2 : goal.returns-in_ok-value_of-in-Sub-2
returns-in_ok-value_of-in-Sub-2 t c =
    let e : formula_of c.args.expr.now ≡ difference (formula_of c.get-in-Sub.result.now) (formula_of c.get-in-Sub-2.result.now) = ap formula_of c.in-Sub.is ∙ formula_of-Sub c.in-Sub.a c.in-Sub.b ∙ ap (λ x. difference (formula_of x) (formula_of c.in-Sub.b)) (sym c.get-in-Sub.ensures) ∙ ap (λ x. difference (formula_of c.get-in-Sub.result.now) (formula_of x)) (sym c.get-in-Sub-2.ensures) in
    rw e (both_are (◌-ℤ◌) _ _ _ _ _ _ c.sub.result c.in_ok-value_of-in-Sub.ensures.0 c.in_ok-value_of-in-Sub.ensures.1 c.in_ok-value_of-in-Sub-2.ensures.0 c.in_ok-value_of-in-Sub-2.ensures.1 c.sub.ensures)

pub returns-in_err-value_of-in-Mul : goal.returns-in_err-value_of-in-Mul
returns-in_err-value_of-in-Mul t c =
    let e : formula_of c.args.expr.now ≡ product (formula_of c.get-in-Mul.result.now) (formula_of c.in-Mul.b) = ap formula_of c.in-Mul.is ∙ formula_of-Mul c.in-Mul.a c.in-Mul.b ∙ ap (λ x. product (formula_of x) (formula_of c.in-Mul.b)) (sym c.get-in-Mul.ensures) in
    rw e (err_since c.from_residual-in_err-value_of-in-Mul.result _ _ c.from_residual-in_err-value_of-in-Mul.ensures.0 (λ h. c.in_err-value_of-in-Mul.ensures (first_of _ _ _ h)))

pub returns-in_err-value_of-in-Mul-2 : goal.returns-in_err-value_of-in-Mul-2
returns-in_err-value_of-in-Mul-2 t c =
    let e : formula_of c.args.expr.now ≡ product (formula_of c.in-Mul.a) (formula_of c.get-in-Mul-2.result.now) = ap formula_of c.in-Mul.is ∙ formula_of-Mul c.in-Mul.a c.in-Mul.b ∙ ap (λ x. product (formula_of c.in-Mul.a) (formula_of x)) (sym c.get-in-Mul-2.ensures) in
    rw e (err_since c.from_residual-in_err-value_of-in-Mul-2.result _ _ c.from_residual-in_err-value_of-in-Mul-2.ensures.0 (λ h. c.in_err-value_of-in-Mul-2.ensures (second_of _ _ _ h)))

pub returns-in_ok-value_of-in-Mul-2 : goal.returns-in_ok-value_of-in-Mul-2
returns-in_ok-value_of-in-Mul-2 t c =
    let e : formula_of c.args.expr.now ≡ product (formula_of c.get-in-Mul.result.now) (formula_of c.get-in-Mul-2.result.now) = ap formula_of c.in-Mul.is ∙ formula_of-Mul c.in-Mul.a c.in-Mul.b ∙ ap (λ x. product (formula_of x) (formula_of c.in-Mul.b)) (sym c.get-in-Mul.ensures) ∙ ap (λ x. product (formula_of c.get-in-Mul.result.now) (formula_of x)) (sym c.get-in-Mul-2.ensures) in
    rw e (both_are (◌*ℤ◌) _ _ _ _ _ _ c.mul.result c.in_ok-value_of-in-Mul.ensures.0 c.in_ok-value_of-in-Mul.ensures.1 c.in_ok-value_of-in-Mul-2.ensures.0 c.in_ok-value_of-in-Mul-2.ensures.1 c.mul.ensures)
