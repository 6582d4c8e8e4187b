-- A step of Euclid's algorithm.
use Rattle.std.proofs.Common.{◌≡◌, ◌%◌, ℕ}
use Rattle.std.proofs.lemmas.Nat.Gcd.{IsGcd-from_mod}
use Rattle.integers.specs.Gcd.{gcd}
use Rattle.integers.proofs.GcdLaws.{IsGcd-gcd, gcd_is}

pub gcd_step : (a b : ℕ) → gcd a b ≡ gcd b (a % b)
gcd_step a b = gcd_is a b (gcd b (a % b)) (IsGcd-from_mod a b (gcd b (a % b)) (IsGcd-gcd b (a % b)))
