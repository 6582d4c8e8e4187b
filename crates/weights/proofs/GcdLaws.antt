-- A step of Euclid's algorithm, and divisors of 1.
use Rattle.std.specs.Prelude.{◌≡◌, ℕ, ◌%◌, zero, suc, ℤ, pos, negsuc, neg_ℤ, unsigned_abs}
use Rattle.std.proofs.Common.{sym, ◌∙◌, ap}
use Rattle.std.proofs.Math.Nat.{one-dvd}
use Rattle.std.proofs.lemmas.Nat.Gcd.{IsGcd-from_mod, dvd_refl}
use Rattle.integers.specs.Gcd.{gcd, gcd3, signed_gcd}
use Rattle.integers.proofs.GcdLaws.{IsGcd-gcd, gcd_is}

pub gcd_step : (a b : ℕ) → gcd a b ≡ gcd b (a % b)
gcd_step a b = gcd_is a b (gcd b (a % b)) (IsGcd-from_mod a b (gcd b (a % b)) (IsGcd-gcd b (a % b)))

pub gcd-one_right : (a : ℕ) → gcd a 1 ≡ 1
gcd-one_right a = gcd_is a 1 1 (one-dvd a, dvd_refl 1, λ d p q. q)

pub gcd-one_left : (a : ℕ) → gcd 1 a ≡ 1
gcd-one_left a = gcd_is 1 a 1 (dvd_refl 1, one-dvd a, λ d p q. p)

-- ---- a first number 1 or -1 is the divisor with its sign

gcd3-of_unit : (a b c : ℤ) → unsigned_abs a ≡ 1 → gcd3 a b c ≡ 1
gcd3-of_unit a b c h =
    ap (λ (n : ℕ). gcd (gcd n (unsigned_abs b)) (unsigned_abs c)) h
    ∙ ap (λ (n : ℕ). gcd n (unsigned_abs c)) (gcd-one_left (unsigned_abs b))
    ∙ gcd-one_left (unsigned_abs c)

pub signed_gcd-of_unit : (a b c : ℤ) → unsigned_abs a ≡ 1 → signed_gcd a b c ≡ a
signed_gcd-of_unit (pos zero) b c h = absurd (cc)
signed_gcd-of_unit (pos (suc a)) b c h = ap pos (gcd3-of_unit (pos (suc a)) b c h ∙ sym h)
signed_gcd-of_unit (negsuc a) b c h = ap (λ (n : ℕ). neg_ℤ (pos n)) (gcd3-of_unit (negsuc a) b c h ∙ sym h)
