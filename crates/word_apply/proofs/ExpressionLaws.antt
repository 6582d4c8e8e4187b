-- Expressions by their formulas: names, sizes, and the tables and work of two operands.
use Rattle.std.proofs.Common.{◌≡◌, refl, sym, ◌∙◌, ap, subst, ℕ, suc, ◌+◌, ◌<◌, List, [], ◌∷◌, ◌++◌, arith, inl, inr}
use Rattle.std.specs.Prelude.{All, ◌⊎◌}
use Rattle.std.proofs.lemmas.List.Elements.{All-nil, All-cons, All-head, All-tail}
use Rattle.checks.specs.FormulaWork.{formula_work}
use Rattle.spec_lang.specs.Formula.{Formula, number, word, negative, sum, difference, product, formula_of}
use Rattle.spec_lang.specs.Named.{namings}
use Rattle.spec_lang.specs.WellFormed.{NamesBelow}
use Rattle.spec_lang.specs.declared.expr.Expr.{Expr}
use Rattle.spec_lang.specs.declared.expr.Expr.TheVariants as variant
use Rattle.spec_lang.proofs.Formulas.{formula_of-Word, formula_of-Neg, formula_of-Add, formula_of-Sub, formula_of-Mul, namings_of_two}
use Rattle.tables.specs.Table.{Table, zip_with}
use Rattle.word_base.specs.declared.decomp.Decomp.{Decomp}
use Rattle.word_apply.specs.Applied.{formula_table, formula_at, formula_work_at, operation_of, operation_work}

-- ---- names
of_append : {X : Type 0} (P : X → Type 0) (xs ys : List X) → All P (xs ++ ys) → All P xs × All P ys
of_append P [] ys h = (All-nil P, h)
of_append P (x ∷ xs) ys h =
    let rest = of_append P xs ys (All-tail P x (xs ++ ys) h) in (All-cons P x xs (All-head P x (xs ++ ys) h) rest.0, rest.1)

pub names_word : (n w : ℕ) (x : Expr) → x ≡ variant.Word w → NamesBelow n (formula_of x) → w < n
names_word n w x is all = subst (λ (f : Formula). NamesBelow n f) (ap formula_of is ∙ formula_of-Word w) all 0 0 (omega arith)

pub names_negative : (n : ℕ) (x a : Expr) → x ≡ variant.Neg a → NamesBelow n (formula_of x) → NamesBelow n (formula_of a)
names_negative n x a is all = subst (λ (f : Formula). NamesBelow n f) (ap formula_of is ∙ formula_of-Neg a) all

abbrev pub IsOfTwo : Expr → Expr → Expr → Type 0
IsOfTwo x a b = (x ≡ variant.Add a b) ⊎ ((x ≡ variant.Sub a b) ⊎ (x ≡ variant.Mul a b))

pub names_two : (n : ℕ) (x a b : Expr) → IsOfTwo x a b → NamesBelow n (formula_of x) → NamesBelow n (formula_of a) × NamesBelow n (formula_of b)
names_two n x a b is all =
    of_append (λ (w : ℕ). w < n) (namings (formula_of a)) (namings (formula_of b)) (subst (λ (ws : List ℕ). All (λ w. w < n) ws) (namings_of_two x a b is) all)

-- ---- two operands
-- what holds of the formulas of a sum, a difference and a product, holds of an expression of two operands
of_two : (P : Formula → Type 0) (x a b : Expr) → IsOfTwo x a b → P (sum (formula_of a) (formula_of b)) → P (difference (formula_of a) (formula_of b)) →
    P (product (formula_of a) (formula_of b)) → P (formula_of x)
of_two P x a b is s d p = elim is as (λ _. P (formula_of x)) [
  | inl add ↦ subst P (sym (ap formula_of add ∙ formula_of-Add a b)) s
  | inr more ↦ elim more as (λ _. P (formula_of x)) [
    | inl sub ↦ subst P (sym (ap formula_of sub ∙ formula_of-Sub a b)) d
    | inr mul ↦ subst P (sym (ap formula_of mul ∙ formula_of-Mul a b)) p
  ]
]

pub two_tables : (ds : List Decomp) (l : ℕ) (ts : List Table) (x a b : Expr) → IsOfTwo x a b →
    zip_with (operation_of (formula_of x)) (formula_at (formula_of a) ds l ts) (formula_at (formula_of b) ds l ts) ≡ formula_at (formula_of x) ds l ts
two_tables ds l ts x a b is =
    of_two (λ f. zip_with (operation_of f) (formula_at (formula_of a) ds l ts) (formula_at (formula_of b) ds l ts) ≡ formula_at f ds l ts) x a b is refl refl refl

-- the work of an expression of two operands: those of the operands, and that of the operation
pub two_works : (ds : List Decomp) (l : ℕ) (ts : List Table) (x a b : Expr) → IsOfTwo x a b →
    formula_work_at (formula_of a) ds l ts ++ formula_work_at (formula_of b) ds l ts
    ++ operation_work (formula_of x) ds l (formula_at (formula_of a) ds l ts) (formula_at (formula_of b) ds l ts)
    ≡ formula_work_at (formula_of x) ds l ts
two_works ds l ts x a b is =
    of_two (λ f.
    formula_work_at (formula_of a) ds l ts ++ formula_work_at (formula_of b) ds l ts
    ++ operation_work f ds l (formula_at (formula_of a) ds l ts) (formula_at (formula_of b) ds l ts) ≡ formula_work_at f ds l ts) x a b is refl refl refl

-- ---- measures
pub operations : Formula → ℕ
operations (number z) = 0
operations (word w) = 0
operations (negative a) = suc (operations a)
operations (sum a b) = suc (operations a + operations b)
operations (difference a b) = suc (operations a + operations b)
operations (product a b) = suc (operations a + operations b)

pub fewer_below : (x a : Expr) (t : ℕ) → t ≡ operations (formula_of x) → x ≡ variant.Neg a → operations (formula_of a) < t
unfolding operations
fewer_below x a t is neg =
    let all : t ≡ suc (operations (formula_of a)) = is ∙ ap operations (ap formula_of neg ∙ formula_of-Neg a) in omega arith

operations_of_two : (x a b : Expr) → IsOfTwo x a b → operations (formula_of x) ≡ suc (operations (formula_of a) + operations (formula_of b))
unfolding operations
operations_of_two x a b is = of_two (λ f. operations f ≡ suc (operations (formula_of a) + operations (formula_of b))) x a b is refl refl refl

pub fewer_in_two : (x a b : Expr) (t : ℕ) → t ≡ operations (formula_of x) → IsOfTwo x a b → (operations (formula_of a) < t) × (operations (formula_of b) < t)
fewer_in_two x a b t is two =
    let all : t ≡ suc (operations (formula_of a) + operations (formula_of b)) = is ∙ operations_of_two x a b two in (omega arith, omega arith)
