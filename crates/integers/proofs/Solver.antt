-- Identities of a commutative ring, solved over ℤ: an equation of two expressions in variables holds where both have one normal form,
-- which is found by computation, so that `refl` shows it.
use Rattle.std.specs.Prelude.{◌≡◌, ℕ, zero, suc, ℤ, pos, negsuc, neg_ℤ, ◌+ℤ◌, ◌-ℤ◌, ◌*ℤ◌, List, [], ◌∷◌, Bool, true, false, ◌&&◌, ◌==◌, nat_lt, if◌then◌else◌, refl}
use Rattle.std.proofs.Common.{sym, ◌∙◌, ap}
use Rattle.std.proofs.Math.IntN.{+ℤ_idl, +ℤ_idr, +ℤ_assoc, +ℤ_comm, zero-*ℤ, *ℤ-zero}
use Rattle.std.proofs.lemmas.Bool.{eqb-true}
use Rattle.integers.proofs.Ring.{*ℤ-distrib_right, *ℤ-distrib_left, *ℤ_assoc, *ℤ_left_comm, one-*ℤ, *ℤ_one, minus_one-*ℤ}

-- ---- expressions

infixl 6 ◌⊕◌ ◌⊖◌
infixl 7 ◌⊗◌
pub data Expression : Type 0 where
  literal : ℤ → Expression
  variable : ℕ → Expression
  negative_of : Expression → Expression
  ◌⊕◌ : Expression → Expression → Expression
  ◌⊗◌ : Expression → Expression → Expression

abbrev pub ◌⊖◌ : Expression → Expression → Expression
e ⊖ f = e ⊕ negative_of f

-- the value of a variable, from the values of the variables in order
abbrev pub value_at : List ℤ → ℕ → ℤ
value_at [] n = pos 0
value_at (x ∷ xs) zero = x
value_at (x ∷ xs) (suc n) = value_at xs n

abbrev pub value : List ℤ → Expression → ℤ
value xs (literal c) = c
value xs (variable n) = value_at xs n
value xs (negative_of e) = neg_ℤ (value xs e)
value xs (e ⊕ f) = value xs e +ℤ value xs f
value xs (e ⊗ f) = value xs e *ℤ value xs f

-- ---- normal forms

-- a sum of terms, each with its coefficient and its variables
pub data Polynomial : Type 0 where
  nothing : Polynomial
  term : ℤ → List ℕ → Polynomial → Polynomial

abbrev pub monomial_value : List ℤ → List ℕ → ℤ
monomial_value xs [] = pos 1
monomial_value xs (n ∷ ns) = value_at xs n *ℤ monomial_value xs ns

abbrev pub polynomial_value : List ℤ → Polynomial → ℤ
polynomial_value xs nothing = pos 0
polynomial_value xs (term c ns p) = c *ℤ monomial_value xs ns +ℤ polynomial_value xs p

-- the variables of a term stand in order, and so do the terms, by their variables
abbrev pub with_variable : ℕ → List ℕ → List ℕ
with_variable n [] = n ∷ []
with_variable n (m ∷ ms) = if nat_lt m n then m ∷ with_variable n ms else n ∷ m ∷ ms

abbrev pub variables_product : List ℕ → List ℕ → List ℕ
variables_product [] ms = ms
variables_product (n ∷ ns) ms = with_variable n (variables_product ns ms)

abbrev pub same_variables : List ℕ → List ℕ → Bool
same_variables [] [] = true
same_variables [] (m ∷ ms) = false
same_variables (n ∷ ns) [] = false
same_variables (n ∷ ns) (m ∷ ms) = n == m && same_variables ns ms

abbrev pub comes_before : List ℕ → List ℕ → Bool
comes_before [] ms = true
comes_before (n ∷ ns) [] = false
comes_before (n ∷ ns) (m ∷ ms) = if n == m then comes_before ns ms else nat_lt n m

abbrev pub is_zero : ℤ → Bool
is_zero (pos zero) = true
is_zero (pos (suc n)) = false
is_zero (negsuc n) = false

abbrev pub term_unless_zero : ℤ → List ℕ → Polynomial → Polynomial
term_unless_zero c ns p = if is_zero c then p else term c ns p

abbrev pub with_term : ℤ → List ℕ → Polynomial → Polynomial
with_term c ns nothing = term_unless_zero c ns nothing
with_term c ns (term d ms p) =
    if same_variables ns ms then term_unless_zero (c +ℤ d) ms p
    else if comes_before ns ms then term_unless_zero c ns (term d ms p)
    else term d ms (with_term c ns p)

abbrev pub polynomials_sum : Polynomial → Polynomial → Polynomial
polynomials_sum nothing q = q
polynomials_sum (term c ns p) q = with_term c ns (polynomials_sum p q)

abbrev pub times_term : ℤ → List ℕ → Polynomial → Polynomial
times_term c ns nothing = nothing
times_term c ns (term d ms p) = with_term (c *ℤ d) (variables_product ns ms) (times_term c ns p)

abbrev pub polynomials_product : Polynomial → Polynomial → Polynomial
polynomials_product nothing q = nothing
polynomials_product (term c ns p) q = polynomials_sum (times_term c ns q) (polynomials_product p q)

abbrev pub normal_form : Expression → Polynomial
normal_form (literal c) = term_unless_zero c [] nothing
normal_form (variable n) = term (pos 1) (n ∷ []) nothing
normal_form (negative_of e) = times_term (negsuc 0) [] (normal_form e)
normal_form (e ⊕ f) = polynomials_sum (normal_form e) (normal_form f)
normal_form (e ⊗ f) = polynomials_product (normal_form e) (normal_form f)

-- ---- a normal form has its expression's value

-- both branches of a choice have the value
either_branch : {A : Type 0} (b : Bool) (f : A → ℤ) (x y : A) (z : ℤ) → (b ≡ true → f x ≡ z) → (b ≡ false → f y ≡ z) → f (if b then x else y) ≡ z
either_branch true f x y z p q = p refl
either_branch false f x y z p q = q refl

with_variable-value : (xs : List ℤ) (n : ℕ) (ms : List ℕ) → monomial_value xs (with_variable n ms) ≡ value_at xs n *ℤ monomial_value xs ms
with_variable-value xs n [] = refl
with_variable-value xs n (m ∷ ms) =
    either_branch (nat_lt m n) (monomial_value xs) (m ∷ with_variable n ms) (n ∷ m ∷ ms) (value_at xs n *ℤ (value_at xs m *ℤ monomial_value xs ms))
    (λ e. ap (λ (z : ℤ). value_at xs m *ℤ z) (with_variable-value xs n ms) ∙ *ℤ_left_comm (value_at xs m) (value_at xs n) (monomial_value xs ms))
    (λ e. refl)

variables_product-value : (xs : List ℤ) (ns ms : List ℕ) → monomial_value xs (variables_product ns ms) ≡ monomial_value xs ns *ℤ monomial_value xs ms
variables_product-value xs [] ms = sym (one-*ℤ (monomial_value xs ms))
variables_product-value xs (n ∷ ns) ms =
    with_variable-value xs n (variables_product ns ms) ∙ ap (λ (z : ℤ). value_at xs n *ℤ z) (variables_product-value xs ns ms)
    ∙ sym (*ℤ_assoc (value_at xs n) (monomial_value xs ns) (monomial_value xs ms))

zero_from_test : (c : ℤ) → is_zero c ≡ true → c ≡ pos 0
zero_from_test (pos zero) e = refl
zero_from_test (pos (suc n)) e = absurd cc
zero_from_test (negsuc n) e = absurd cc

term_unless_zero-value : (xs : List ℤ) (c : ℤ) (ns : List ℕ) (p : Polynomial) →
    polynomial_value xs (term_unless_zero c ns p) ≡ c *ℤ monomial_value xs ns +ℤ polynomial_value xs p
term_unless_zero-value xs c ns p =
    either_branch (is_zero c) (polynomial_value xs) p (term c ns p) (c *ℤ monomial_value xs ns +ℤ polynomial_value xs p)
    (λ e. rw (zero_from_test c e, zero-*ℤ (monomial_value xs ns)) (sym (+ℤ_idl (polynomial_value xs p))))
    (λ e. refl)

both_true : (a b : Bool) → a && b ≡ true → (a ≡ true) × (b ≡ true)
both_true true b e = (refl, e)
both_true false b e = absurd cc

same_from_test : (ns ms : List ℕ) → same_variables ns ms ≡ true → ns ≡ ms
same_from_test [] [] e = refl
same_from_test [] (m ∷ ms) e = absurd cc
same_from_test (n ∷ ns) [] e = absurd cc
same_from_test (n ∷ ns) (m ∷ ms) e =
    let parts = both_true (n == m) (same_variables ns ms) e in
    let first : n ≡ m = eqb-true n m parts.0 in
    let rest : ns ≡ ms = same_from_test ns ms parts.1 in
    cc

-- (c + d) m + v is c m + (d m + v)
added_coefficients : (c d m v : ℤ) → (c +ℤ d) *ℤ m +ℤ v ≡ c *ℤ m +ℤ (d *ℤ m +ℤ v)
added_coefficients c d m v = ap (λ (z : ℤ). z +ℤ v) (*ℤ-distrib_right c d m) ∙ +ℤ_assoc (c *ℤ m) (d *ℤ m) v

+ℤ_left_comm : (a b c : ℤ) → a +ℤ (b +ℤ c) ≡ b +ℤ (a +ℤ c)
+ℤ_left_comm a b c = sym (+ℤ_assoc a b c) ∙ ap (λ (z : ℤ). z +ℤ c) (+ℤ_comm a b) ∙ +ℤ_assoc b a c

with_term-value : (xs : List ℤ) (c : ℤ) (ns : List ℕ) (p : Polynomial) →
    polynomial_value xs (with_term c ns p) ≡ c *ℤ monomial_value xs ns +ℤ polynomial_value xs p
with_term-value xs c ns nothing = term_unless_zero-value xs c ns nothing
with_term-value xs c ns (term d ms p) =
    let v = polynomial_value xs p in
    let whole = c *ℤ monomial_value xs ns +ℤ (d *ℤ monomial_value xs ms +ℤ v) in
    either_branch (same_variables ns ms) (polynomial_value xs) (term_unless_zero (c +ℤ d) ms p)
    (if comes_before ns ms then term_unless_zero c ns (term d ms p) else term d ms (with_term c ns p)) whole
    (λ e. term_unless_zero-value xs (c +ℤ d) ms p ∙ added_coefficients c d (monomial_value xs ms) v
    ∙ ap (λ (ks : List ℕ). c *ℤ monomial_value xs ks +ℤ (d *ℤ monomial_value xs ms +ℤ v)) (sym (same_from_test ns ms e)))
    (λ other. either_branch (comes_before ns ms) (polynomial_value xs) (term_unless_zero c ns (term d ms p)) (term d ms (with_term c ns p)) whole
    (λ e. term_unless_zero-value xs c ns (term d ms p))
    (λ e. ap (λ (z : ℤ). d *ℤ monomial_value xs ms +ℤ z) (with_term-value xs c ns p) ∙ +ℤ_left_comm (d *ℤ monomial_value xs ms) (c *ℤ monomial_value xs ns) v))

polynomials_sum-value : (xs : List ℤ) (p q : Polynomial) → polynomial_value xs (polynomials_sum p q) ≡ polynomial_value xs p +ℤ polynomial_value xs q
polynomials_sum-value xs nothing q = sym (+ℤ_idl (polynomial_value xs q))
polynomials_sum-value xs (term c ns p) q =
    with_term-value xs c ns (polynomials_sum p q) ∙ ap (λ (z : ℤ). c *ℤ monomial_value xs ns +ℤ z) (polynomials_sum-value xs p q)
    ∙ sym (+ℤ_assoc (c *ℤ monomial_value xs ns) (polynomial_value xs p) (polynomial_value xs q))

-- the order of four factors
exchanged : (a b c d : ℤ) → (a *ℤ b) *ℤ (c *ℤ d) ≡ (a *ℤ c) *ℤ (b *ℤ d)
exchanged a b c d = *ℤ_assoc a b (c *ℤ d) ∙ ap (λ (z : ℤ). a *ℤ z) (*ℤ_left_comm b c d) ∙ sym (*ℤ_assoc a c (b *ℤ d))

times_term-value : (xs : List ℤ) (c : ℤ) (ns : List ℕ) (p : Polynomial) →
    polynomial_value xs (times_term c ns p) ≡ (c *ℤ monomial_value xs ns) *ℤ polynomial_value xs p
times_term-value xs c ns nothing = sym (*ℤ-zero (c *ℤ monomial_value xs ns))
times_term-value xs c ns (term d ms p) =
    let m = monomial_value xs ns in
    let n = monomial_value xs ms in
    with_term-value xs (c *ℤ d) (variables_product ns ms) (times_term c ns p)
    ∙ ap (λ (z : ℤ). (c *ℤ d) *ℤ z +ℤ polynomial_value xs (times_term c ns p)) (variables_product-value xs ns ms)
    ∙ ap (λ (z : ℤ). (c *ℤ d) *ℤ (m *ℤ n) +ℤ z) (times_term-value xs c ns p)
    ∙ ap (λ (z : ℤ). z +ℤ (c *ℤ m) *ℤ polynomial_value xs p) (exchanged c d m n)
    ∙ sym (*ℤ-distrib_left (c *ℤ m) (d *ℤ n) (polynomial_value xs p))

polynomials_product-value : (xs : List ℤ) (p q : Polynomial) → polynomial_value xs (polynomials_product p q) ≡ polynomial_value xs p *ℤ polynomial_value xs q
polynomials_product-value xs nothing q = sym (zero-*ℤ (polynomial_value xs q))
polynomials_product-value xs (term c ns p) q =
    let w = polynomial_value xs q in
    polynomials_sum-value xs (times_term c ns q) (polynomials_product p q)
    ∙ ap (λ (z : ℤ). z +ℤ polynomial_value xs (polynomials_product p q)) (times_term-value xs c ns q)
    ∙ ap (λ (z : ℤ). (c *ℤ monomial_value xs ns) *ℤ w +ℤ z) (polynomials_product-value xs p q)
    ∙ sym (*ℤ-distrib_right (c *ℤ monomial_value xs ns) (polynomial_value xs p) w)

normal_form-value : (xs : List ℤ) (e : Expression) → polynomial_value xs (normal_form e) ≡ value xs e
normal_form-value xs (literal c) = term_unless_zero-value xs c [] nothing ∙ +ℤ_idr (c *ℤ pos 1) ∙ *ℤ_one c
normal_form-value xs (variable n) = +ℤ_idr (pos 1 *ℤ (value_at xs n *ℤ pos 1)) ∙ one-*ℤ (value_at xs n *ℤ pos 1) ∙ *ℤ_one (value_at xs n)
normal_form-value xs (negative_of e) =
    times_term-value xs (negsuc 0) [] (normal_form e) ∙ minus_one-*ℤ (polynomial_value xs (normal_form e)) ∙ ap neg_ℤ (normal_form-value xs e)
normal_form-value xs (e ⊕ f) =
    polynomials_sum-value xs (normal_form e) (normal_form f) ∙ ap (λ (z : ℤ). z +ℤ polynomial_value xs (normal_form f)) (normal_form-value xs e)
    ∙ ap (λ (z : ℤ). value xs e +ℤ z) (normal_form-value xs f)
normal_form-value xs (e ⊗ f) =
    polynomials_product-value xs (normal_form e) (normal_form f) ∙ ap (λ (z : ℤ). z *ℤ polynomial_value xs (normal_form f)) (normal_form-value xs e)
    ∙ ap (λ (z : ℤ). value xs e *ℤ z) (normal_form-value xs f)

-- two expressions with one normal form have the same value: give the values of the variables, the two sides, and `refl`
pub solve : (xs : List ℤ) (e f : Expression) → normal_form e ≡ normal_form f → value xs e ≡ value xs f
solve xs e f h = sym (normal_form-value xs e) ∙ ap (polynomial_value xs) h ∙ normal_form-value xs f

-- ---- examples

square_of_sum : (x y : ℤ) → (x +ℤ y) *ℤ (x +ℤ y) ≡ x *ℤ x +ℤ pos 2 *ℤ x *ℤ y +ℤ y *ℤ y
square_of_sum x y =
    let a = variable 0 in
    let b = variable 1 in
    solve (x ∷ y ∷ []) ((a ⊕ b) ⊗ (a ⊕ b)) (a ⊗ a ⊕ literal (pos 2) ⊗ a ⊗ b ⊕ b ⊗ b) refl

difference_of_squares : (x y : ℤ) → x *ℤ x -ℤ y *ℤ y ≡ (x -ℤ y) *ℤ (x +ℤ y)
difference_of_squares x y =
    let a = variable 0 in
    let b = variable 1 in
    solve (x ∷ y ∷ []) (a ⊗ a ⊖ b ⊗ b) ((a ⊖ b) ⊗ (a ⊕ b)) refl

-- the product of two values, each with an additive and a multiplicative weight
weighted_product : (a m x b n y : ℤ) → (a +ℤ m *ℤ x) *ℤ (b +ℤ n *ℤ y) ≡ a *ℤ b +ℤ a *ℤ n *ℤ y +ℤ b *ℤ m *ℤ x +ℤ m *ℤ n *ℤ (x *ℤ y)
weighted_product a m x b n y =
    let va = variable 0 in
    let vm = variable 1 in
    let vx = variable 2 in
    let vb = variable 3 in
    let vn = variable 4 in
    let vy = variable 5 in
    solve (a ∷ m ∷ x ∷ b ∷ n ∷ y ∷ []) ((va ⊕ vm ⊗ vx) ⊗ (vb ⊕ vn ⊗ vy)) (va ⊗ vb ⊕ va ⊗ vn ⊗ vy ⊕ vb ⊗ vm ⊗ vx ⊕ vm ⊗ vn ⊗ (vx ⊗ vy)) refl
