-- For proofs alone: how the models of checks and specifications are stored. A formula is stored as the expression
-- that it is the formula of.
use Rattle.std.specs.Prelude.{◌≡◌, ℕ, List, refl}
use Rattle.std.specs.Coded.{Coded, code_by, coded×, coded_ℕ, coded_list}
use Rattle.std.proofs.Common.{ap, ◌∙◌}
use Rattle.spec_lang.specs.Formula.{Formula, number, word, negative, sum, difference, product, formula_of}
use Rattle.spec_lang.specs.Specification.{Word, Check, Specification}
use Rattle.word_base.specs.declared.decomp.Decomp.{Decomp}
use Rattle.word_base.specs.contracts.decomp.Decomp as decomp
use Rattle.spec_lang.specs.declared.expr.Expr.{Expr}
use Rattle.spec_lang.specs.declared.expr.Expr.TheVariants as e
use Rattle.spec_lang.specs.declared.expr.Expr.TheBlock.{hidden-the_row-Expr-0}
use Rattle.spec_lang.specs.contracts.expr.Expr as contract
use denote.Hole.Carrier.{hidden}

abbrev pub expr_of : Formula → Expr
expr_of (number z) = e.Number z
expr_of (word w) = e.Word w
expr_of (negative a) = e.Neg (expr_of a)
expr_of (sum a b) = e.Add (expr_of a) (expr_of b)
expr_of (difference a b) = e.Sub (expr_of a) (expr_of b)
expr_of (product a b) = e.Mul (expr_of a) (expr_of b)

pub formula_of-expr_of : (a : Formula) → formula_of (expr_of a) ≡ a
unfolding hidden-the_row-Expr-0 hidden
formula_of-expr_of (number z) = refl
formula_of-expr_of (word w) = refl
formula_of-expr_of (negative a) = ap negative (formula_of-expr_of a)
formula_of-expr_of (sum a b) = ap (λ x. sum x (formula_of (expr_of b))) (formula_of-expr_of a) ∙ ap (sum a) (formula_of-expr_of b)
formula_of-expr_of (difference a b) = ap (λ x. difference x (formula_of (expr_of b))) (formula_of-expr_of a) ∙ ap (difference a) (formula_of-expr_of b)
formula_of-expr_of (product a b) = ap (λ x. product x (formula_of (expr_of b))) (formula_of-expr_of a) ∙ ap (product a) (formula_of-expr_of b)

abbrev pub formula_code : Coded Formula
formula_code = code_by Expr contract.the_row.coded expr_of formula_of formula_of-expr_of

-- a check is stored as the pair of its sides
abbrev pub check_code : Coded Check
check_code = code_by (Formula × Formula) (coded× formula_code formula_code) (λ c. (c.left, c.right)) (λ p. record { left = p.0; right = p.1 }) (λ _. refl)

abbrev pub word_code : Coded Word
word_code = code_by (List ℕ × List ℕ) (coded× (coded_list coded_ℕ) (coded_list coded_ℕ)) (λ w. (w.name, w.nets)) (λ p. record { name = p.0; nets = p.1 }) (λ _. refl)

abbrev pub specification_code : Coded Specification
specification_code =
    code_by ((List ℕ × List Decomp) × (List Word × List Check))
    (coded× (coded× (coded_list coded_ℕ) (coded_list decomp.the_row.coded)) (coded× (coded_list word_code) (coded_list check_code)))
    (λ s. ((s.order, s.letters), (s.words, s.checks)))
    (λ p. record { order = p.0.0; letters = p.0.1; words = p.1.0; checks = p.1.1 })
    (λ _. refl)
