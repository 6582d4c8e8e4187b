-- The laws of the ring ℤ.
use Rattle.std.specs.Prelude.{◌≡◌, ◌≢◌, ◌⊎◌, ℕ, zero, suc, ◌*◌, ℤ, pos, negsuc, neg_ℤ, ◌+ℤ◌, ◌-ℤ◌, ◌*ℤ◌, unsigned_abs, refl}
use Rattle.std.proofs.Common.{arith, inl, inr, sym, ◌∙◌, ap}
use Rattle.std.proofs.Math.Path.{subst}
use Rattle.std.proofs.Math.Nat.{one-mul, mul-pos}
use Rattle.std.proofs.Math.IntN.{suc_ℤ, pred_ℤ, -ℤ-+ℤ_cancel, ℤ_ind, +ℤ_one, -ℤ_one, +ℤ_idl, +ℤ_idr, +ℤ_assoc, +ℤ_invr, +ℤ-suc_ℤ, +ℤ-pred_ℤ, zero-*ℤ, *ℤ_comm, suc_ℤ-*ℤ, pred_ℤ-*ℤ, neg_ℤ-neg_ℤ}
use Rattle.std.proofs.lemmas.Int.{unsigned_abs-mul}

-- ---- induction by steps of one

-- what holds at 0, and passes from each integer to the next and to the one before, holds at each
pub by_steps : (P : ℤ → Type 0) → P (pos zero) → ((z : ℤ) → P z → P (suc_ℤ z)) → ((z : ℤ) → P z → P (pred_ℤ z)) → (z : ℤ) → P z
by_steps P start up down z =
    ℤ_ind P start (λ n p. subst P (sym (+ℤ_one (pos n))) (up (pos n) p)) (λ n p. subst P (sym (-ℤ_one (neg_ℤ (pos n)))) (down (neg_ℤ (pos n)) p)) z

-- ---- distributivity

pub *ℤ-distrib_right : (x y k : ℤ) → (x +ℤ y) *ℤ k ≡ x *ℤ k +ℤ y *ℤ k
*ℤ-distrib_right x y k = by_steps (λ (z : ℤ). (x +ℤ z) *ℤ k ≡ x *ℤ k +ℤ z *ℤ k) start up down y
  where
    start : (x +ℤ pos zero) *ℤ k ≡ x *ℤ k +ℤ pos zero *ℤ k
    start = rw (+ℤ_idr x, zero-*ℤ k) (sym (+ℤ_idr (x *ℤ k)))

    up : (z : ℤ) → (x +ℤ z) *ℤ k ≡ x *ℤ k +ℤ z *ℤ k → (x +ℤ suc_ℤ z) *ℤ k ≡ x *ℤ k +ℤ suc_ℤ z *ℤ k
    up z h = rw (+ℤ-suc_ℤ x z, suc_ℤ-*ℤ (x +ℤ z) k, h, suc_ℤ-*ℤ z k) (+ℤ_assoc (x *ℤ k) (z *ℤ k) k)

    down : (z : ℤ) → (x +ℤ z) *ℤ k ≡ x *ℤ k +ℤ z *ℤ k → (x +ℤ pred_ℤ z) *ℤ k ≡ x *ℤ k +ℤ pred_ℤ z *ℤ k
    down z h = rw (+ℤ-pred_ℤ x z, pred_ℤ-*ℤ (x +ℤ z) k, h, pred_ℤ-*ℤ z k) (+ℤ_assoc (x *ℤ k) (z *ℤ k) (neg_ℤ k))

pub *ℤ-distrib_left : (k x y : ℤ) → k *ℤ (x +ℤ y) ≡ k *ℤ x +ℤ k *ℤ y
*ℤ-distrib_left k x y = rw (*ℤ_comm k (x +ℤ y), *ℤ_comm k x, *ℤ_comm k y) (*ℤ-distrib_right x y k)

-- ---- negation through a product

pub neg_ℤ-*ℤ_left : (x k : ℤ) → neg_ℤ x *ℤ k ≡ neg_ℤ (x *ℤ k)
neg_ℤ-*ℤ_left (pos zero) k = rw (zero-*ℤ k) refl
neg_ℤ-*ℤ_left (pos (suc a)) (pos b) = refl
neg_ℤ-*ℤ_left (pos (suc a)) (negsuc b) = sym (neg_ℤ-neg_ℤ (pos (suc a * suc b)))
neg_ℤ-*ℤ_left (negsuc a) (pos b) = sym (neg_ℤ-neg_ℤ (pos (suc a * b)))
neg_ℤ-*ℤ_left (negsuc a) (negsuc b) = refl

pub neg_ℤ-*ℤ_right : (x k : ℤ) → x *ℤ neg_ℤ k ≡ neg_ℤ (x *ℤ k)
neg_ℤ-*ℤ_right x k = rw (*ℤ_comm x (neg_ℤ k), *ℤ_comm x k) (neg_ℤ-*ℤ_left k x)

pub neg_ℤ-*ℤ-neg_ℤ : (x y : ℤ) → neg_ℤ x *ℤ neg_ℤ y ≡ x *ℤ y
neg_ℤ-*ℤ-neg_ℤ x y = rw (neg_ℤ-*ℤ_left x (neg_ℤ y), neg_ℤ-*ℤ_right x y) (neg_ℤ-neg_ℤ (x *ℤ y))

pub *ℤ-distrib_sub_right : (x y k : ℤ) → (x -ℤ y) *ℤ k ≡ x *ℤ k -ℤ y *ℤ k
*ℤ-distrib_sub_right x y k = *ℤ-distrib_right x (neg_ℤ y) k ∙ ap (λ (z : ℤ). x *ℤ k +ℤ z) (neg_ℤ-*ℤ_left y k)

pub *ℤ-distrib_sub_left : (k x y : ℤ) → k *ℤ (x -ℤ y) ≡ k *ℤ x -ℤ k *ℤ y
*ℤ-distrib_sub_left k x y = *ℤ-distrib_left k x (neg_ℤ y) ∙ ap (λ (z : ℤ). k *ℤ x +ℤ z) (neg_ℤ-*ℤ_right k y)

-- ---- associativity

pub *ℤ_assoc : (a b c : ℤ) → (a *ℤ b) *ℤ c ≡ a *ℤ (b *ℤ c)
*ℤ_assoc a b c = by_steps (λ (z : ℤ). (z *ℤ b) *ℤ c ≡ z *ℤ (b *ℤ c)) start up down a
  where
    start : (pos zero *ℤ b) *ℤ c ≡ pos zero *ℤ (b *ℤ c)
    start = rw (zero-*ℤ b, zero-*ℤ c, zero-*ℤ (b *ℤ c)) refl

    up : (z : ℤ) → (z *ℤ b) *ℤ c ≡ z *ℤ (b *ℤ c) → (suc_ℤ z *ℤ b) *ℤ c ≡ suc_ℤ z *ℤ (b *ℤ c)
    up z h = rw (suc_ℤ-*ℤ z b, *ℤ-distrib_right (z *ℤ b) b c, h, suc_ℤ-*ℤ z (b *ℤ c)) refl

    down : (z : ℤ) → (z *ℤ b) *ℤ c ≡ z *ℤ (b *ℤ c) → (pred_ℤ z *ℤ b) *ℤ c ≡ pred_ℤ z *ℤ (b *ℤ c)
    down z h = rw (pred_ℤ-*ℤ z b, *ℤ-distrib_sub_right (z *ℤ b) b c, h, pred_ℤ-*ℤ z (b *ℤ c)) refl

pub *ℤ_left_comm : (a b c : ℤ) → a *ℤ (b *ℤ c) ≡ b *ℤ (a *ℤ c)
*ℤ_left_comm a b c = rw (← *ℤ_assoc a b c, *ℤ_comm a b) (*ℤ_assoc b a c)

pub *ℤ_right_comm : (a b c : ℤ) → (a *ℤ b) *ℤ c ≡ (a *ℤ c) *ℤ b
*ℤ_right_comm a b c = rw (*ℤ_assoc a b c, *ℤ_comm b c) (sym (*ℤ_assoc a c b))

pub one-*ℤ : (x : ℤ) → pos 1 *ℤ x ≡ x
one-*ℤ (pos a) = ap pos (one-mul a)
one-*ℤ (negsuc a) = ap (λ (n : ℕ). neg_ℤ (pos n)) (one-mul (suc a))

pub *ℤ_one : (x : ℤ) → x *ℤ pos 1 ≡ x
*ℤ_one x = *ℤ_comm x (pos 1) ∙ one-*ℤ x

pub minus_one-*ℤ : (x : ℤ) → negsuc 0 *ℤ x ≡ neg_ℤ x
minus_one-*ℤ x = neg_ℤ-*ℤ_left (pos 1) x ∙ ap neg_ℤ (one-*ℤ x)

-- ---- magnitudes

pub unsigned_abs-neg_ℤ : (z : ℤ) → unsigned_abs (neg_ℤ z) ≡ unsigned_abs z
unsigned_abs-neg_ℤ (pos zero) = refl
unsigned_abs-neg_ℤ (pos (suc a)) = refl
unsigned_abs-neg_ℤ (negsuc a) = refl

pub unsigned_abs-zero : (z : ℤ) → unsigned_abs z ≡ 0 → z ≡ pos 0
unsigned_abs-zero (pos a) h = ap pos h
unsigned_abs-zero (negsuc a) h = absurd (omega arith)

-- ---- products that are 0, and factors that cancel

-- equal integers have a difference of 0, and only they
pub equal_from_difference : (x y : ℤ) → x -ℤ y ≡ pos 0 → x ≡ y
equal_from_difference x y h = sym (-ℤ-+ℤ_cancel x y) ∙ ap (λ (z : ℤ). z +ℤ y) h ∙ +ℤ_idl y

nat_product-zero : (m n : ℕ) → m * n ≡ 0 → (m ≡ 0) ⊎ (n ≡ 0)
nat_product-zero zero n h = inl refl
nat_product-zero (suc m) zero h = inr refl
nat_product-zero (suc m) (suc n) h = absurd (omega (arith, mul-pos {m = suc m} {n = suc n} (omega arith) (omega arith)))

pub *ℤ-is_zero : (a b : ℤ) → a *ℤ b ≡ pos 0 → (a ≡ pos 0) ⊎ (b ≡ pos 0)
*ℤ-is_zero a b h = elim (nat_product-zero (unsigned_abs a) (unsigned_abs b) (sym (unsigned_abs-mul a b) ∙ ap unsigned_abs h)) [
  | inl p ↦ inl (unsigned_abs-zero a p)
  | inr q ↦ inr (unsigned_abs-zero b q)
]

pub *ℤ-cancel_left : (k x y : ℤ) → k ≢ pos 0 → k *ℤ x ≡ k *ℤ y → x ≡ y
*ℤ-cancel_left k x y some h = elim (*ℤ-is_zero k (x -ℤ y) (*ℤ-distrib_sub_left k x y ∙ ap (λ (z : ℤ). z -ℤ k *ℤ y) h ∙ +ℤ_invr (k *ℤ y))) [
  | inl p ↦ absurd (some p)
  | inr q ↦ equal_from_difference x y q
]

pub *ℤ-cancel_right : (x y k : ℤ) → k ≢ pos 0 → x *ℤ k ≡ y *ℤ k → x ≡ y
*ℤ-cancel_right x y k some h = *ℤ-cancel_left k x y some (*ℤ_comm k x ∙ h ∙ *ℤ_comm y k)

pub *ℤ-nonzero : (a b : ℤ) → a ≢ pos 0 → b ≢ pos 0 → a *ℤ b ≢ pos 0
*ℤ-nonzero a b p q h = elim (*ℤ-is_zero a b h) [ inl e ↦ p e | inr e ↦ q e ]
