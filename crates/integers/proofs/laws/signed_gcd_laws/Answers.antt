use Rattle.integers.proofs.SignedGcd.{signed_gcd-times_first, signed_gcd-times_second, signed_gcd-times_third, signed_gcd-is_zero, signed_gcd-multiples, signed_gcd-quotients}
use Rattle.integers.proofs.laws.signed_gcd_laws.Goals as goal

pub returns : goal.returns
returns c = record {
  times_first = signed_gcd-times_first;
  times_second = signed_gcd-times_second;
  times_third = signed_gcd-times_third;
  is_zero = signed_gcd-is_zero;
  of_multiples = signed_gcd-multiples;
  of_quotients = signed_gcd-quotients;
}
