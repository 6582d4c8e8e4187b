-- Which integers are weights.
use Rattle.std.specs.Prelude.{◌≡◌, ℤ, pos, negsuc, ◌<◌, ◌^◌, Bool, true, false, nat_lt, unsigned_abs, refl}

-- from -(2^127-1) to 2^127-1
abbrev pub InRange : ℤ → Type 0
InRange z = unsigned_abs z < 2 ^ 127

-- the same, as a test
abbrev pub in_range : ℤ → Bool
in_range z = nat_lt (unsigned_abs z) (2 ^ 127)

greatest_in_range : in_range (pos 170141183460469231731687303715884105727) ≡ true
greatest_in_range = refl

least_in_range : in_range (negsuc 170141183460469231731687303715884105726) ≡ true
least_in_range = refl

above_greatest : in_range (pos 170141183460469231731687303715884105728) ≡ false
above_greatest = refl

-- the least number of 128 bits
below_least : in_range (negsuc 170141183460469231731687303715884105727) ≡ false
below_least = refl
