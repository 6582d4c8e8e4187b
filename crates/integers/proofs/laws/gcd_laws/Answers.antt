use Rattle.integers.proofs.GcdLaws.{IsGcd-gcd, gcd_assoc, gcd-mul_left, gcd-add_multiple}
use Rattle.integers.proofs.laws.gcd_laws.Goals as goal

pub returns : goal.returns
returns c = record {
  is_greatest = IsGcd-gcd;
  is_associative = gcd_assoc;
  of_multiples = gcd-mul_left;
  keeps_under_multiples = gcd-add_multiple;
}
