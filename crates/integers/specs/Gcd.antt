-- Divisors of integers.
use Rattle.std.specs.Prelude.{◌≡◌, ℕ, zero, suc, ◌+◌, ◌%◌, ℤ, pos, negsuc, neg_ℤ, Bool, true, false, if◌then◌else◌, unsigned_abs, refl}

-- Euclid's algorithm, in at most so many steps
abbrev pub gcd_within : ℕ → ℕ → ℕ → ℕ
gcd_within zero a b = a
gcd_within (suc steps) a zero = a
gcd_within (suc steps) a (suc b) = gcd_within steps (suc b) (a % suc b)

-- the greatest common divisor of two numbers, 0 where both are 0
abbrev pub gcd : ℕ → ℕ → ℕ
gcd a b = gcd_within (b + 1) a b

-- the greatest common divisor of the magnitudes of three integers, 0 where all are 0
abbrev pub gcd3 : ℤ → ℤ → ℤ → ℕ
gcd3 a b c = gcd (gcd (unsigned_abs a) (unsigned_abs b)) (unsigned_abs c)

-- whether the first of three integers that is not 0 is negative
abbrev pub leads_negative : ℤ → ℤ → ℤ → Bool
leads_negative (negsuc a) b c = true
leads_negative (pos (suc a)) b c = false
leads_negative (pos zero) (negsuc b) c = true
leads_negative (pos zero) (pos (suc b)) c = false
leads_negative (pos zero) (pos zero) (negsuc c) = true
leads_negative (pos zero) (pos zero) (pos c) = false

-- the greatest common divisor with the sign of the first integer that is not 0
abbrev pub signed_gcd : ℤ → ℤ → ℤ → ℤ
signed_gcd a b c = if leads_negative a b c then neg_ℤ (pos (gcd3 a b c)) else pos (gcd3 a b c)

twelve_and_eighteen : gcd 12 18 ≡ 6
twelve_and_eighteen = refl

zero_and_five : gcd 0 5 ≡ 5
zero_and_five = refl

first_is_negative : signed_gcd (negsuc 3) (pos 6) (pos 0) ≡ negsuc 1
first_is_negative = refl

-- a 0 has no sign to give
second_is_negative : signed_gcd (pos 0) (negsuc 3) (pos 6) ≡ negsuc 1
second_is_negative = refl

all_zero : signed_gcd (pos 0) (pos 0) (pos 0) ≡ pos 0
all_zero = refl
