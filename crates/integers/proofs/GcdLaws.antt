-- The laws of the greatest common divisor.
use Rattle.std.specs.Prelude.{◌≡◌, ◌↔◌, ℕ, zero, suc, ◌+◌, ◌*◌, ◌<◌, ◌%◌, ◌/◌, ℤ, pos, negsuc, neg_ℤ, ◌+ℤ◌, ◌-ℤ◌, ◌*ℤ◌, unsigned_abs, refl}
use Rattle.std.specs.Int.{IsGcd, ◌∣◌}
use Rattle.std.proofs.Common.{arith, sym, ◌∙◌, ap}
use Rattle.std.proofs.Math.Path.{subst}
use Rattle.std.proofs.Math.Nat.{mod-lt, mul_comm, zero-mul, zero-dvd, mul-div_cancel', dvd-mul_right, mul-dvd-mul_left, dvd_of_mul-dvd-mul_left}
use Rattle.std.proofs.Math.IntN.{+ℤ-neg_ℤ_cancel}
use Rattle.std.proofs.lemmas.Int.{unsigned_abs-mul}
use Rattle.std.proofs.lemmas.Nat.Gcd.{IsGcd-from_zero, IsGcd-from_mod, IsGcd-swap, same_from_IsGcd, dvd_refl, dvd-zero, dvd_trans, dvd_antisymm}
use Rattle.integers.specs.Gcd.{gcd_within, gcd, gcd3}
use Rattle.integers.proofs.Ring.{one-*ℤ, minus_one-*ℤ, unsigned_abs-neg_ℤ, unsigned_abs-zero}
use Rattle.integers.proofs.Division.{divides-+ℤ, divides--ℤ, divides-*ℤ}

IsGcd-gcd_within : (steps a b : ℕ) → b < steps → IsGcd a b (gcd_within steps a b)
IsGcd-gcd_within zero a b h = absurd (omega arith)
IsGcd-gcd_within (suc steps) a zero h = IsGcd-from_zero a zero refl
IsGcd-gcd_within (suc steps) a (suc b) h =
    let smaller : a % suc b < suc b = mod-lt a (omega arith) in
    IsGcd-from_mod a (suc b) (gcd_within steps (suc b) (a % suc b)) (IsGcd-gcd_within steps (suc b) (a % suc b) (omega arith))

pub IsGcd-gcd : (a b : ℕ) → IsGcd a b (gcd a b)
IsGcd-gcd a b = IsGcd-gcd_within (b + 1) a b (omega arith)

pub gcd-divides_first : (a b : ℕ) → gcd a b ∣ a
gcd-divides_first a b = (IsGcd-gcd a b).0

pub gcd-divides_second : (a b : ℕ) → gcd a b ∣ b
gcd-divides_second a b = (IsGcd-gcd a b).1

-- each common divisor divides the greatest
pub divides_gcd : (d a b : ℕ) → d ∣ a → d ∣ b → d ∣ gcd a b
divides_gcd d a b p q = (IsGcd-gcd a b).2 d p q

-- what divides both and is divided by each common divisor is the greatest
pub gcd_is : (a b g : ℕ) → IsGcd a b g → gcd a b ≡ g
gcd_is a b g h = same_from_IsGcd a b (gcd a b) g (IsGcd-gcd a b) h

-- two pairs with the same common divisors have the same greatest
pub same_gcd : (a b c e : ℕ) → ((d : ℕ) → d ∣ a → d ∣ b → (d ∣ c) × (d ∣ e)) → ((d : ℕ) → d ∣ c → d ∣ e → (d ∣ a) × (d ∣ b)) → gcd a b ≡ gcd c e
same_gcd a b c e to from =
    let p = to (gcd a b) (gcd-divides_first a b) (gcd-divides_second a b) in
    let q = from (gcd c e) (gcd-divides_first c e) (gcd-divides_second c e) in
    dvd_antisymm (divides_gcd (gcd a b) c e p.0 p.1) (divides_gcd (gcd c e) a b q.0 q.1)

-- ---- 0, the order of the numbers

pub gcd-zero_left : (a : ℕ) → gcd 0 a ≡ a
gcd-zero_left a = gcd_is 0 a a (dvd-zero a, dvd_refl a, λ d p q. q)

pub gcd-zero_right : (a : ℕ) → gcd a 0 ≡ a
gcd-zero_right a = refl

pub gcd_self : (a : ℕ) → gcd a a ≡ a
gcd_self a = gcd_is a a a (dvd_refl a, dvd_refl a, λ d p q. q)

pub gcd_comm : (a b : ℕ) → gcd a b ≡ gcd b a
gcd_comm a b = gcd_is a b (gcd b a) (IsGcd-swap b a (gcd b a) (IsGcd-gcd b a))

pub gcd_assoc : (a b c : ℕ) → gcd (gcd a b) c ≡ gcd a (gcd b c)
gcd_assoc a b c = same_gcd (gcd a b) c a (gcd b c)
    (λ d p q. (dvd_trans d p (gcd-divides_first a b), divides_gcd d b c (dvd_trans d p (gcd-divides_second a b)) q))
    (λ d p q. (divides_gcd d a b p (dvd_trans d q (gcd-divides_first b c)), dvd_trans d q (gcd-divides_second b c)))

-- two pairs in one, with their second and third numbers exchanged
pub gcd_exchange : (a b c d : ℕ) → gcd (gcd a b) (gcd c d) ≡ gcd (gcd a c) (gcd b d)
gcd_exchange a b c d =
    gcd_assoc a b (gcd c d)
    ∙ ap (gcd a) (sym (gcd_assoc b c d) ∙ ap (λ (n : ℕ). gcd n d) (gcd_comm b c) ∙ gcd_assoc c b d)
    ∙ sym (gcd_assoc a c (gcd b d))

pub gcd-is_zero : (a b : ℕ) → (gcd a b ≡ 0) ↔ ((a ≡ 0) × (b ≡ 0))
gcd-is_zero a b = (
  (λ e. (zero-dvd.0 (subst (λ (n : ℕ). n ∣ a) e (gcd-divides_first a b)), zero-dvd.0 (subst (λ (n : ℕ). n ∣ b) e (gcd-divides_second a b)))),
  (λ both. ap (λ (n : ℕ). gcd a n) both.1 ∙ both.0),
)

-- ---- a common factor

-- the greatest common divisor of two multiples, where the factor is not 0: it is a multiple, and its rest divides both numbers
multiples-divide : (k a b : ℕ) → 0 < k → gcd (k * a) (k * b) ∣ k * gcd a b
multiples-divide k a b some =
    let g = gcd (k * a) (k * b) in
    let whole : k * (g / k) ≡ g = mul-div_cancel' k (divides_gcd k (k * a) (k * b) (dvd-mul_right k a) (dvd-mul_right k b)) in
    let first : k * (g / k) ∣ k * a = subst (λ (n : ℕ). n ∣ k * a) (sym whole) (gcd-divides_first (k * a) (k * b)) in
    let second : k * (g / k) ∣ k * b = subst (λ (n : ℕ). n ∣ k * b) (sym whole) (gcd-divides_second (k * a) (k * b)) in
    let rest : g / k ∣ gcd a b = divides_gcd (g / k) a b (dvd_of_mul-dvd-mul_left (g / k) some first) (dvd_of_mul-dvd-mul_left (g / k) some second) in
    subst (λ (n : ℕ). n ∣ k * gcd a b) whole (mul-dvd-mul_left (g / k) k rest)

pub gcd-mul_left : (k a b : ℕ) → gcd (k * a) (k * b) ≡ k * gcd a b
gcd-mul_left zero a b = rw (zero-mul a, zero-mul b, zero-mul (gcd a b)) refl
gcd-mul_left (suc k) a b = dvd_antisymm (multiples-divide (suc k) a b (omega arith))
    (divides_gcd (suc k * gcd a b) (suc k * a) (suc k * b)
    (mul-dvd-mul_left (gcd a b) (suc k) (gcd-divides_first a b)) (mul-dvd-mul_left (gcd a b) (suc k) (gcd-divides_second a b)))

pub gcd-mul_right : (a b k : ℕ) → gcd (a * k) (b * k) ≡ gcd a b * k
gcd-mul_right a b k = rw (mul_comm a k, mul_comm b k, mul_comm (gcd a b) k) (gcd-mul_left k a b)

-- ---- magnitudes of integers

pub gcd-multiples : (k x y : ℤ) → gcd (unsigned_abs (k *ℤ x)) (unsigned_abs (k *ℤ y)) ≡ unsigned_abs k * gcd (unsigned_abs x) (unsigned_abs y)
gcd-multiples k x y = rw (unsigned_abs-mul k x, unsigned_abs-mul k y) (gcd-mul_left (unsigned_abs k) (unsigned_abs x) (unsigned_abs y))

-- a multiple of one number may be added to the other
pub gcd-add_multiple : (x y k : ℤ) → gcd (unsigned_abs x) (unsigned_abs (y +ℤ k *ℤ x)) ≡ gcd (unsigned_abs x) (unsigned_abs y)
gcd-add_multiple x y k = same_gcd (unsigned_abs x) (unsigned_abs (y +ℤ k *ℤ x)) (unsigned_abs x) (unsigned_abs y)
    (λ d p q. (
      p,
      subst (λ (z : ℤ). d ∣ unsigned_abs z) (+ℤ-neg_ℤ_cancel y (k *ℤ x))
          (divides--ℤ d (y +ℤ k *ℤ x) (k *ℤ x) q (divides-*ℤ d k x p)),
    ))
    (λ d p q. (p, divides-+ℤ d y (k *ℤ x) q (divides-*ℤ d k x p)))

pub gcd-add_multiple_first : (x y k : ℤ) → gcd (unsigned_abs (x +ℤ k *ℤ y)) (unsigned_abs y) ≡ gcd (unsigned_abs x) (unsigned_abs y)
gcd-add_multiple_first x y k =
    gcd_comm (unsigned_abs (x +ℤ k *ℤ y)) (unsigned_abs y) ∙ gcd-add_multiple y x k ∙ gcd_comm (unsigned_abs y) (unsigned_abs x)

pub gcd-add : (x y : ℤ) → gcd (unsigned_abs x) (unsigned_abs (y +ℤ x)) ≡ gcd (unsigned_abs x) (unsigned_abs y)
gcd-add x y = subst (λ (z : ℤ). gcd (unsigned_abs x) (unsigned_abs (y +ℤ z)) ≡ gcd (unsigned_abs x) (unsigned_abs y)) (one-*ℤ x) (gcd-add_multiple x y (pos 1))

pub gcd-sub : (x y : ℤ) → gcd (unsigned_abs x) (unsigned_abs (y -ℤ x)) ≡ gcd (unsigned_abs x) (unsigned_abs y)
gcd-sub x y = subst (λ (z : ℤ). gcd (unsigned_abs x) (unsigned_abs (y +ℤ z)) ≡ gcd (unsigned_abs x) (unsigned_abs y)) (minus_one-*ℤ x) (gcd-add_multiple x y (negsuc 0))

-- ---- of three

pub gcd3-divides_first : (a b c : ℤ) → gcd3 a b c ∣ unsigned_abs a
gcd3-divides_first a b c =
    dvd_trans (gcd3 a b c) (gcd-divides_first (gcd (unsigned_abs a) (unsigned_abs b)) (unsigned_abs c)) (gcd-divides_first (unsigned_abs a) (unsigned_abs b))

pub gcd3-divides_second : (a b c : ℤ) → gcd3 a b c ∣ unsigned_abs b
gcd3-divides_second a b c =
    dvd_trans (gcd3 a b c) (gcd-divides_first (gcd (unsigned_abs a) (unsigned_abs b)) (unsigned_abs c)) (gcd-divides_second (unsigned_abs a) (unsigned_abs b))

pub gcd3-divides_third : (a b c : ℤ) → gcd3 a b c ∣ unsigned_abs c
gcd3-divides_third a b c = gcd-divides_second (gcd (unsigned_abs a) (unsigned_abs b)) (unsigned_abs c)

pub divides_gcd3 : (d : ℕ) (a b c : ℤ) → d ∣ unsigned_abs a → d ∣ unsigned_abs b → d ∣ unsigned_abs c → d ∣ gcd3 a b c
divides_gcd3 d a b c p q r =
    divides_gcd d (gcd (unsigned_abs a) (unsigned_abs b)) (unsigned_abs c) (divides_gcd d (unsigned_abs a) (unsigned_abs b) p q) r

pub gcd3-is_zero : (a b c : ℤ) → (gcd3 a b c ≡ 0) ↔ ((a ≡ pos 0) × (b ≡ pos 0) × (c ≡ pos 0))
gcd3-is_zero a b c = (to, from)
  where
    to : gcd3 a b c ≡ 0 → (a ≡ pos 0) × (b ≡ pos 0) × (c ≡ pos 0)
    to e =
        let outer = (gcd-is_zero (gcd (unsigned_abs a) (unsigned_abs b)) (unsigned_abs c)).0 e in
        let inner = (gcd-is_zero (unsigned_abs a) (unsigned_abs b)).0 outer.0 in
        (unsigned_abs-zero a inner.0, unsigned_abs-zero b inner.1, unsigned_abs-zero c outer.1)

    from : (a ≡ pos 0) × (b ≡ pos 0) × (c ≡ pos 0) → gcd3 a b c ≡ 0
    from h = rw (h.0, h.1, h.2) refl

pub gcd3-neg : (a b c : ℤ) → gcd3 (neg_ℤ a) (neg_ℤ b) (neg_ℤ c) ≡ gcd3 a b c
gcd3-neg a b c = rw (unsigned_abs-neg_ℤ a, unsigned_abs-neg_ℤ b, unsigned_abs-neg_ℤ c) refl

pub gcd3-multiples : (k a b c : ℤ) → gcd3 (k *ℤ a) (k *ℤ b) (k *ℤ c) ≡ unsigned_abs k * gcd3 a b c
gcd3-multiples k a b c = rw (gcd-multiples k a b, unsigned_abs-mul k c) (gcd-mul_left (unsigned_abs k) (gcd (unsigned_abs a) (unsigned_abs b)) (unsigned_abs c))
