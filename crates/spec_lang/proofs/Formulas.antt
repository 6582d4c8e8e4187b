-- The formula of each variant of an expression.
use Rattle.std.proofs.Common.{◌≡◌, ◌⊎◌, ◌++◌, ◌∙◌, ⊎_elim, ap, ℕ, ℤ, refl}
use Rattle.spec_lang.specs.Named.{namings}
use Rattle.spec_lang.specs.declared.expr.Expr.{Expr}
use Rattle.spec_lang.specs.declared.expr.Expr.TheVariants as e
use Rattle.spec_lang.specs.declared.expr.Expr.TheBlock.{hidden-the_row-Expr-0}
use Rattle.spec_lang.specs.Formula.{number, word, negative, sum, difference, product, formula_of, FormulaGoesByCases}
use denote.Hole.Carrier.{hidden}

pub formula_of-Number : (z : ℤ) → formula_of (e.Number z) ≡ number z
formula_of-Number z = refl

pub formula_of-Word : (w : ℕ) → formula_of (e.Word w) ≡ word w
formula_of-Word w = refl

pub formula_of-Neg : (a : Expr) → formula_of (e.Neg a) ≡ negative (formula_of a)
unfolding hidden-the_row-Expr-0 hidden
formula_of-Neg a = refl

pub formula_of-Add : (a b : Expr) → formula_of (e.Add a b) ≡ sum (formula_of a) (formula_of b)
unfolding hidden-the_row-Expr-0 hidden
formula_of-Add a b = refl

pub formula_of-Sub : (a b : Expr) → formula_of (e.Sub a b) ≡ difference (formula_of a) (formula_of b)
unfolding hidden-the_row-Expr-0 hidden
formula_of-Sub a b = refl

pub formula_of-Mul : (a b : Expr) → formula_of (e.Mul a b) ≡ product (formula_of a) (formula_of b)
unfolding hidden-the_row-Expr-0 hidden
formula_of-Mul a b = refl

pub ruleset formula_cases = (formula_of-Number, formula_of-Word, formula_of-Neg, formula_of-Add, formula_of-Sub, formula_of-Mul)

pub formula_goes_by_cases : FormulaGoesByCases
formula_goes_by_cases = record {
  of_number = formula_of-Number;
  of_word = formula_of-Word;
  of_neg = formula_of-Neg;
  of_add = formula_of-Add;
  of_sub = formula_of-Sub;
  of_mul = formula_of-Mul;
}

-- the words that an operation on two operands names
pub namings_of_two : (x a b : Expr) → (x ≡ e.Add a b) ⊎ ((x ≡ e.Sub a b) ⊎ (x ≡ e.Mul a b)) → namings (formula_of x) ≡ namings (formula_of a) ++ namings (formula_of b)
namings_of_two x a b = ⊎_elim
    (λ is. ap (λ x. namings (formula_of x)) is ∙ ap namings (formula_of-Add a b))
    (⊎_elim
    (λ is. ap (λ x. namings (formula_of x)) is ∙ ap namings (formula_of-Sub a b))
    (λ is. ap (λ x. namings (formula_of x)) is ∙ ap namings (formula_of-Mul a b)))
