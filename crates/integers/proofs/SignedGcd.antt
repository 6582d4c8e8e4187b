-- The greatest common divisor of three integers, with a sign.
use Rattle.std.specs.Prelude.{◌≡◌, ◌≢◌, ◌↔◌, ℕ, zero, suc, ◌+◌, ◌*◌, ℤ, pos, negsuc, neg_ℤ, ◌*ℤ◌, Bool, true, false, if◌then◌else◌, unsigned_abs, int_div, refl}
use Rattle.std.specs.Int.{◌∣◌}
use Rattle.std.proofs.Common.{arith, sym, ◌∙◌, ap}
use Rattle.std.proofs.Math.Path.{subst}
use Rattle.std.proofs.Math.IntN.{neg_ℤ-neg_ℤ, zero-*ℤ, *ℤ-zero}
use Rattle.integers.specs.Gcd.{gcd3, leads_negative, signed_gcd}
use Rattle.integers.proofs.Ring.{neg_ℤ-*ℤ_left, neg_ℤ-*ℤ_right, *ℤ_one, *ℤ-cancel_left, unsigned_abs-neg_ℤ, unsigned_abs-zero}
use Rattle.integers.proofs.GcdLaws.{gcd-zero_left, gcd3-divides_first, gcd3-divides_second, gcd3-divides_third, gcd3-is_zero, gcd3-neg, gcd3-multiples}
use Rattle.integers.proofs.Division.{times_int_div}
pub use Rattle.integers.proofs.Division.{exact_div}

with_sign-magnitude : (negative : Bool) (n : ℕ) → unsigned_abs (if negative then neg_ℤ (pos n) else pos n) ≡ n
with_sign-magnitude true n = unsigned_abs-neg_ℤ (pos n)
with_sign-magnitude false n = refl

pub unsigned_abs-signed_gcd : (a b c : ℤ) → unsigned_abs (signed_gcd a b c) ≡ gcd3 a b c
unsigned_abs-signed_gcd a b c = with_sign-magnitude (leads_negative a b c) (gcd3 a b c)

-- ---- exact division by it

divided_by_signed_gcd : (z a b c : ℤ) → gcd3 a b c ∣ unsigned_abs z → signed_gcd a b c *ℤ int_div z (signed_gcd a b c) ≡ z
divided_by_signed_gcd z a b c h =
    times_int_div z (signed_gcd a b c) (subst (λ (n : ℕ). n ∣ unsigned_abs z) (sym (unsigned_abs-signed_gcd a b c)) h)

pub signed_gcd-times_first : (a b c : ℤ) → signed_gcd a b c *ℤ int_div a (signed_gcd a b c) ≡ a
signed_gcd-times_first a b c = divided_by_signed_gcd a a b c (gcd3-divides_first a b c)

pub signed_gcd-times_second : (a b c : ℤ) → signed_gcd a b c *ℤ int_div b (signed_gcd a b c) ≡ b
signed_gcd-times_second a b c = divided_by_signed_gcd b a b c (gcd3-divides_second a b c)

pub signed_gcd-times_third : (a b c : ℤ) → signed_gcd a b c *ℤ int_div c (signed_gcd a b c) ≡ c
signed_gcd-times_third a b c = divided_by_signed_gcd c a b c (gcd3-divides_third a b c)

-- ---- 0

pub signed_gcd-is_zero : (a b c : ℤ) → (signed_gcd a b c ≡ pos 0) ↔ ((a ≡ pos 0) × (b ≡ pos 0) × (c ≡ pos 0))
signed_gcd-is_zero a b c = (
  (λ e. (gcd3-is_zero a b c).0 (sym (unsigned_abs-signed_gcd a b c) ∙ ap unsigned_abs e)),
  (λ all. unsigned_abs-zero (signed_gcd a b c) (unsigned_abs-signed_gcd a b c ∙ (gcd3-is_zero a b c).1 all)),
)

-- ---- a common factor

-- where not all three are 0, the sign turns with theirs
pub signed_gcd-neg : (a b c : ℤ) → signed_gcd (neg_ℤ a) (neg_ℤ b) (neg_ℤ c) ≡ neg_ℤ (signed_gcd a b c)
signed_gcd-neg (pos zero) (pos zero) (pos zero) = refl
signed_gcd-neg (pos zero) (pos zero) (pos (suc c)) = refl
signed_gcd-neg (pos zero) (pos zero) (negsuc c) = sym (neg_ℤ-neg_ℤ (pos (gcd3 (pos zero) (pos zero) (negsuc c))))
signed_gcd-neg (pos zero) (pos (suc b)) c = ap (λ (n : ℕ). neg_ℤ (pos n)) (gcd3-neg (pos zero) (pos (suc b)) c)
signed_gcd-neg (pos zero) (negsuc b) c = ap pos (gcd3-neg (pos zero) (negsuc b) c) ∙ sym (neg_ℤ-neg_ℤ (pos (gcd3 (pos zero) (negsuc b) c)))
signed_gcd-neg (pos (suc a)) b c = ap (λ (n : ℕ). neg_ℤ (pos n)) (gcd3-neg (pos (suc a)) b c)
signed_gcd-neg (negsuc a) b c = ap pos (gcd3-neg (negsuc a) b c) ∙ sym (neg_ℤ-neg_ℤ (pos (gcd3 (negsuc a) b c)))

-- a positive factor keeps the sign
pos_suc-times_pos : (k a : ℕ) → pos (suc k) *ℤ pos (suc a) ≡ pos (suc (k * suc a + a))
pos_suc-times_pos k a = ap pos (omega arith)

pos_suc-times_negsuc : (k a : ℕ) → pos (suc k) *ℤ negsuc a ≡ negsuc (k * suc a + a)
pos_suc-times_negsuc k a = ap (λ (n : ℕ). neg_ℤ (pos n)) (product k a)
  where
    product : (k a : ℕ) → suc k * suc a ≡ suc (k * suc a + a)
    product k a = omega arith

leads_negative-multiples : (k : ℕ) (a b c : ℤ) → leads_negative (pos (suc k) *ℤ a) (pos (suc k) *ℤ b) (pos (suc k) *ℤ c) ≡ leads_negative a b c
leads_negative-multiples k (negsuc a) b c = rw (pos_suc-times_negsuc k a) refl
leads_negative-multiples k (pos (suc a)) b c = rw (pos_suc-times_pos k a) refl
leads_negative-multiples k (pos zero) (negsuc b) c = rw (*ℤ-zero (pos (suc k)), pos_suc-times_negsuc k b) refl
leads_negative-multiples k (pos zero) (pos (suc b)) c = rw (*ℤ-zero (pos (suc k)), pos_suc-times_pos k b) refl
leads_negative-multiples k (pos zero) (pos zero) (negsuc c) = rw (*ℤ-zero (pos (suc k)), pos_suc-times_negsuc k c) refl
leads_negative-multiples k (pos zero) (pos zero) (pos c) = rw (*ℤ-zero (pos (suc k))) refl

with_sign-multiple : (negative : Bool) (k n : ℕ) → (if negative then neg_ℤ (pos (k * n)) else pos (k * n)) ≡ pos k *ℤ (if negative then neg_ℤ (pos n) else pos n)
with_sign-multiple true k n = sym (neg_ℤ-*ℤ_right (pos k) (pos n))
with_sign-multiple false k n = refl

signed_gcd-positive_multiples : (k : ℕ) (a b c : ℤ) → signed_gcd (pos (suc k) *ℤ a) (pos (suc k) *ℤ b) (pos (suc k) *ℤ c) ≡ pos (suc k) *ℤ signed_gcd a b c
signed_gcd-positive_multiples k a b c =
    rw (leads_negative-multiples k a b c, gcd3-multiples (pos (suc k)) a b c) (with_sign-multiple (leads_negative a b c) (suc k) (gcd3 a b c))

pub signed_gcd-multiples : (s a b c : ℤ) → signed_gcd (s *ℤ a) (s *ℤ b) (s *ℤ c) ≡ s *ℤ signed_gcd a b c
signed_gcd-multiples (pos zero) a b c = rw (zero-*ℤ a, zero-*ℤ b, zero-*ℤ c, zero-*ℤ (signed_gcd a b c)) refl
signed_gcd-multiples (pos (suc k)) a b c = signed_gcd-positive_multiples k a b c
signed_gcd-multiples (negsuc k) a b c =
    rw (neg_ℤ-*ℤ_left (pos (suc k)) a, neg_ℤ-*ℤ_left (pos (suc k)) b, neg_ℤ-*ℤ_left (pos (suc k)) c, neg_ℤ-*ℤ_left (pos (suc k)) (signed_gcd a b c))
    (signed_gcd-neg (pos (suc k) *ℤ a) (pos (suc k) *ℤ b) (pos (suc k) *ℤ c) ∙ ap neg_ℤ (signed_gcd-positive_multiples k a b c))

-- the three quotients have no common factor, and the first that is not 0 is positive
pub signed_gcd-quotients : (a b c : ℤ) → signed_gcd a b c ≢ pos 0 → signed_gcd (int_div a (signed_gcd a b c)) (int_div b (signed_gcd a b c)) (int_div c (signed_gcd a b c)) ≡ pos 1
signed_gcd-quotients a b c some =
    let g : ℤ = signed_gcd a b c in
    let scaled = signed_gcd-multiples g (int_div a g) (int_div b g) (int_div c g) in
    let back = rw (signed_gcd-times_first a b c, signed_gcd-times_second a b c, signed_gcd-times_third a b c) at scaled in
    *ℤ-cancel_left g (signed_gcd (int_div a g) (int_div b g) (int_div c g)) (pos 1) some (sym back ∙ sym (*ℤ_one g))

-- three multiples of numbers that have no common factor and a positive lead
pub signed_gcd-of_reduced : (g a b c : ℤ) → signed_gcd a b c ≡ pos 1 → signed_gcd (g *ℤ a) (g *ℤ b) (g *ℤ c) ≡ g
signed_gcd-of_reduced g a b c h = signed_gcd-multiples g a b c ∙ ap (λ (z : ℤ). g *ℤ z) h ∙ *ℤ_one g

-- ---- one number beside zeros

pub signed_gcd-first_alone : (a : ℤ) → signed_gcd a (pos 0) (pos 0) ≡ a
signed_gcd-first_alone (pos zero) = refl
signed_gcd-first_alone (pos (suc a)) = refl
signed_gcd-first_alone (negsuc a) = refl

pub signed_gcd-second_alone : (b : ℤ) → signed_gcd (pos 0) b (pos 0) ≡ b
signed_gcd-second_alone (pos zero) = refl
signed_gcd-second_alone (pos (suc b)) = ap pos (gcd-zero_left (suc b))
signed_gcd-second_alone (negsuc b) = ap (λ (n : ℕ). neg_ℤ (pos n)) (gcd-zero_left (suc b))

pub signed_gcd-third_alone : (c : ℤ) → signed_gcd (pos 0) (pos 0) c ≡ c
signed_gcd-third_alone (pos c) = ap pos (gcd-zero_left c)
signed_gcd-third_alone (negsuc c) = ap (λ (n : ℕ). neg_ℤ (pos n)) (gcd-zero_left (suc c))
