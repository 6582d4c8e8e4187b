use Rattle.integers.proofs.Ring.{*ℤ-distrib_right, *ℤ_assoc, *ℤ-is_zero}
use Rattle.integers.proofs.Division.{exact_div}
use Rattle.integers.proofs.laws.product_laws.Goals as goal

pub returns : goal.returns
returns c = record {
  distributes = *ℤ-distrib_right;
  is_associative = *ℤ_assoc;
  is_zero = *ℤ-is_zero;
  division_is_exact = exact_div;
}
