-- The laws of products of integers and of their divisors.
use Rattle.std.specs.Prelude.{◌≡◌, ◌≢◌, ◌⊎◌, ◌↔◌, ℕ, ◌*◌, ℤ, pos, ◌+ℤ◌, ◌*ℤ◌, unsigned_abs, int_div}
use Rattle.std.specs.Int.{IsGcd}
use Rattle.integers.specs.Gcd.{gcd, signed_gcd}

-- ---- products

abbrev pub ProductDistributes : Type 0
ProductDistributes = (x y k : ℤ) → (x +ℤ y) *ℤ k ≡ x *ℤ k +ℤ y *ℤ k

abbrev pub ProductIsAssociative : Type 0
ProductIsAssociative = (a b c : ℤ) → (a *ℤ b) *ℤ c ≡ a *ℤ (b *ℤ c)

-- a product is 0 only where a factor is
abbrev pub ProductIsZero : Type 0
ProductIsZero = (a b : ℤ) → a *ℤ b ≡ pos 0 → (a ≡ pos 0) ⊎ (b ≡ pos 0)

-- division of a multiple gives its factor
abbrev pub DivisionIsExact : Type 0
DivisionIsExact = (z g k : ℤ) → g ≢ pos 0 → z ≡ g *ℤ k → int_div z g ≡ k

-- ---- the greatest common divisor

abbrev pub GcdIsGreatest : Type 0
GcdIsGreatest = (a b : ℕ) → IsGcd a b (gcd a b)

abbrev pub GcdIsAssociative : Type 0
GcdIsAssociative = (a b c : ℕ) → gcd (gcd a b) c ≡ gcd a (gcd b c)

abbrev pub GcdOfMultiples : Type 0
GcdOfMultiples = (k a b : ℕ) → gcd (k * a) (k * b) ≡ k * gcd a b

-- a multiple of one integer may be added to the other
abbrev pub GcdKeepsUnderMultiples : Type 0
GcdKeepsUnderMultiples = (x y k : ℤ) → gcd (unsigned_abs x) (unsigned_abs (y +ℤ k *ℤ x)) ≡ gcd (unsigned_abs x) (unsigned_abs y)

-- ---- the greatest common divisor with a sign

-- times its quotient it gives each of the three back
abbrev pub SignedGcdTimesFirst : Type 0
SignedGcdTimesFirst = (a b c : ℤ) → signed_gcd a b c *ℤ int_div a (signed_gcd a b c) ≡ a

abbrev pub SignedGcdTimesSecond : Type 0
SignedGcdTimesSecond = (a b c : ℤ) → signed_gcd a b c *ℤ int_div b (signed_gcd a b c) ≡ b

abbrev pub SignedGcdTimesThird : Type 0
SignedGcdTimesThird = (a b c : ℤ) → signed_gcd a b c *ℤ int_div c (signed_gcd a b c) ≡ c

abbrev pub SignedGcdIsZero : Type 0
SignedGcdIsZero = (a b c : ℤ) → (signed_gcd a b c ≡ pos 0) ↔ ((a ≡ pos 0) × (b ≡ pos 0) × (c ≡ pos 0))

abbrev pub SignedGcdOfMultiples : Type 0
SignedGcdOfMultiples = (s a b c : ℤ) → signed_gcd (s *ℤ a) (s *ℤ b) (s *ℤ c) ≡ s *ℤ signed_gcd a b c

-- the quotients have no common factor, and the first that is not 0 is positive
abbrev pub SignedGcdOfQuotients : Type 0
SignedGcdOfQuotients = (a b c : ℤ) → signed_gcd a b c ≢ pos 0 →
    signed_gcd (int_div a (signed_gcd a b c)) (int_div b (signed_gcd a b c)) (int_div c (signed_gcd a b c)) ≡ pos 1
