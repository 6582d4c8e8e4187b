use Rattle.std.proofs.Common.{◌≡◌, ◌∙◌, ap, append_assoc}
use Rattle.spec_lang.specs.Formula.{formula_of}
use Rattle.spec_lang.specs.Named.{namings}
use Rattle.spec_lang.proofs.Formulas.{formula_of-Neg, namings_of_two}
use Rattle.spec_lang.proofs.named.+put_namings.Goals as goal

pub returns-in_ok-put_namings-in-Neg : goal.returns-in_ok-put_namings-in-Neg
returns-in_ok-put_namings-in-Neg t c =
    let is : namings (formula_of c.args.expr.now) ≡ namings (formula_of c.in-Neg.a) = ap (λ x. namings (formula_of x)) c.in-Neg.is ∙ ap namings (formula_of-Neg c.in-Neg.a) in
    rw (is, ← c.get.ensures) c.in_ok-put_namings-in-Neg.ensures

pub returns-in_ok-put_namings-in-Add-2 : goal.returns-in_ok-put_namings-in-Add-2
returns-in_ok-put_namings-in-Add-2 t c =
    rw (namings_of_two c.args.expr.now c.in-Add.a c.in-Add.b c.in-Add.is, ← c.get-in-Add.ensures, ← c.get-in-Add-2.ensures, ← append_assoc, ← c.in_ok-put_namings-in-Add.ensures)
    c.in_ok-put_namings-in-Add-2.ensures
