-- An expression as a plain tree, on which the other definitions go by cases.
use Rattle.std.specs.Prelude.{◌≡◌, ℕ, ℤ, pos, refl}
use Rattle.spec_lang.specs.declared.expr.Expr.{Expr, Number, Word, Neg', Add', Sub', Mul', end_of-Expr, more_of-Expr}
use Rattle.spec_lang.specs.declared.expr.Expr.TheVariants as e
use Rattle.spec_lang.specs.declared.expr.Expr.TheBlock.{hidden-the_row-Expr-0}
use denote.Hole.Carrier.{hidden}

pub data Formula : Type 0 where
  number : ℤ → Formula
  -- the word of this number, counted from 0
  word : ℕ → Formula
  negative : Formula → Formula
  sum : Formula → Formula → Formula
  difference : Formula → Formula → Formula
  product : Formula → Formula → Formula

-- the formula of each variant of an expression: exactly one function goes so
pub record GoesByVariant (f : Expr → Formula) : Type 0 where
  pub of_number : (z : ℤ) → f (e.Number z) ≡ number z
  pub of_word : (w : ℕ) → f (e.Word w) ≡ word w
  pub of_neg : (a : Expr) → f (e.Neg a) ≡ negative (f a)
  pub of_add : (a b : Expr) → f (e.Add a b) ≡ sum (f a) (f b)
  pub of_sub : (a b : Expr) → f (e.Sub a b) ≡ difference (f a) (f b)
  pub of_mul : (a b : Expr) → f (e.Mul a b) ≡ product (f a) (f b)

-- The function that goes so, in the names that the compiler makes: an operand behind a `Boxed` is a row of
-- one expression, after its shape.
abbrev pub formula_of : Expr → Formula
formula_of (Number z) = number z
formula_of (Word w) = word w
formula_of (Neg' _ (more_of-Expr a end_of-Expr)) = negative (formula_of a)
formula_of (Add' _ (more_of-Expr a end_of-Expr) _ (more_of-Expr b end_of-Expr)) = sum (formula_of a) (formula_of b)
formula_of (Sub' _ (more_of-Expr a end_of-Expr) _ (more_of-Expr b end_of-Expr)) = difference (formula_of a) (formula_of b)
formula_of (Mul' _ (more_of-Expr a end_of-Expr) _ (more_of-Expr b end_of-Expr)) = product (formula_of a) (formula_of b)

abbrev pub FormulaGoesByCases : Type 0
FormulaGoesByCases = GoesByVariant formula_of

-- w1 - w0 * -3
abbrev written : Expr
written = e.Sub (e.Word 1) (e.Mul (e.Word 0) (e.Neg (e.Number (pos 3))))

formula_of_written : formula_of written ≡ difference (word 1) (product (word 0) (negative (number (pos 3))))
unfolding hidden-the_row-Expr-0 hidden
formula_of_written = refl
