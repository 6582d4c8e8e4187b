-- Exact division of integers, and divisors of their magnitudes.
use Rattle.std.specs.Prelude.{◌≡◌, ◌≢◌, ℕ, suc, ℤ, pos, negsuc, neg_ℤ, ◌+ℤ◌, ◌-ℤ◌, ◌*ℤ◌, unsigned_abs, int_div, int_rem, refl}
use Rattle.std.specs.Int.{◌∣◌}
use Rattle.std.proofs.Common.{sym, ◌∙◌, ap}
use Rattle.std.proofs.Math.Path.{subst}
use Rattle.std.proofs.Math.Nat.{mod-eq-zero_of_dvd, dvd-mul_right, dvd-mul_left_of_dvd, zero-div, div-zero}
use Rattle.std.proofs.Math.IntN.{+ℤ_idr, *ℤ_comm}
use Rattle.std.proofs.lemmas.Int.{quot-rem, unsigned_abs-mul}
use Rattle.integers.proofs.Ring.{unsigned_abs-neg_ℤ, *ℤ-distrib_left, *ℤ-cancel_left}

int_rem-exact : (z g : ℤ) → unsigned_abs g ∣ unsigned_abs z → int_rem z g ≡ pos 0
int_rem-exact (pos a) g h = ap pos (mod-eq-zero_of_dvd (unsigned_abs g) h)
int_rem-exact (negsuc a) g h = ap (λ (n : ℕ). neg_ℤ (pos n)) (mod-eq-zero_of_dvd (unsigned_abs g) h)

-- a divisor times the quotient, also at the divisor 0
pub times_int_div : (z g : ℤ) → unsigned_abs g ∣ unsigned_abs z → g *ℤ int_div z g ≡ z
times_int_div z g h =
    *ℤ_comm g (int_div z g) ∙ sym (+ℤ_idr (int_div z g *ℤ g)) ∙ ap (λ (r : ℤ). int_div z g *ℤ g +ℤ r) (sym (int_rem-exact z g h)) ∙ quot-rem z g

-- ---- the divisors of a magnitude are those of its integer

pub divides-multiple : (g z k : ℤ) → z ≡ g *ℤ k → unsigned_abs g ∣ unsigned_abs z
divides-multiple g z k e =
    subst (λ (n : ℕ). unsigned_abs g ∣ n) (sym (ap unsigned_abs e ∙ unsigned_abs-mul g k)) (dvd-mul_right (unsigned_abs g) (unsigned_abs k))

pub multiple_of_divisor : (g z : ℤ) → unsigned_abs g ∣ unsigned_abs z → (k : ℤ) × (z ≡ g *ℤ k)
multiple_of_divisor g z h = (int_div z g, sym (times_int_div z g h))

pub divides-neg_ℤ : (d : ℕ) (x : ℤ) → d ∣ unsigned_abs x → d ∣ unsigned_abs (neg_ℤ x)
divides-neg_ℤ d x p = subst (λ (n : ℕ). d ∣ n) (sym (unsigned_abs-neg_ℤ x)) p

pub divides-+ℤ : (d : ℕ) (x y : ℤ) → d ∣ unsigned_abs x → d ∣ unsigned_abs y → d ∣ unsigned_abs (x +ℤ y)
divides-+ℤ d x y p q =
    let m = multiple_of_divisor (pos d) x p in
    let n = multiple_of_divisor (pos d) y q in
    divides-multiple (pos d) (x +ℤ y) (m.0 +ℤ n.0) (rw (*ℤ-distrib_left (pos d) m.0 n.0, ← m.1, ← n.1) refl)

pub divides--ℤ : (d : ℕ) (x y : ℤ) → d ∣ unsigned_abs x → d ∣ unsigned_abs y → d ∣ unsigned_abs (x -ℤ y)
divides--ℤ d x y p q = divides-+ℤ d x (neg_ℤ y) p (divides-neg_ℤ d y q)

pub divides-*ℤ : (d : ℕ) (k x : ℤ) → d ∣ unsigned_abs x → d ∣ unsigned_abs (k *ℤ x)
divides-*ℤ d k x p = subst (λ (n : ℕ). d ∣ n) (sym (unsigned_abs-mul k x)) (dvd-mul_left_of_dvd d p (unsigned_abs k))

-- the quotient of a multiple
pub exact_div : (z g k : ℤ) → g ≢ pos 0 → z ≡ g *ℤ k → int_div z g ≡ k
exact_div z g k some e = *ℤ-cancel_left g (int_div z g) k some (times_int_div z g (divides-multiple g z k e) ∙ e)

pub int_div-of_zero : (g : ℤ) → int_div (pos 0) g ≡ pos 0
int_div-of_zero (pos b) = ap pos (zero-div b)
int_div-of_zero (negsuc b) = ap (λ (n : ℕ). neg_ℤ (pos n)) (zero-div (suc b))

pub int_div-by_zero : (z : ℤ) → int_div z (pos 0) ≡ pos 0
int_div-by_zero (pos a) = ap pos (div-zero a)
int_div-by_zero (negsuc a) = ap (λ (n : ℕ). neg_ℤ (pos n)) (div-zero (suc a))
