-- The tables of nets and formulas are over all levels, and the table of a formula is made of those of its parts.
use Rattle.std.specs.Prelude.{neg_ℤ, ◌+ℤ◌, ◌-ℤ◌, ◌*ℤ◌, length, refl}
use Rattle.std.proofs.Common.{sym}
use Rattle.circuits.specs.Polynomial.{number_of}
use Rattle.circuits.specs.Valuation.{bit_of}
use Rattle.spec_lang.specs.Placed.{net_values}
use Rattle.spec_lang.specs.Value.{value}
use Rattle.checks.proofs.Tabulated.{IsOver-tabulate, each-tabulate, zip_with-tabulate}
use Rattle.checks.specs.Laws.{FormulaTables, SidesAreOver}

pub sides_are_over : SidesAreOver
sides_are_over = record {
  of_net = λ c s net. IsOver-tabulate (length s.order) (λ bits. number_of (bit_of (net_values c s bits) net));
  of_formula = λ c s formula. IsOver-tabulate (length s.order) (λ bits. value s.words (net_values c s bits) formula);
}

pub formula_tables : FormulaTables
formula_tables = record {
  of_number = λ c s z. refl;
  of_negative = λ c s a. sym (each-tabulate neg_ℤ (length s.order) (λ bits. value s.words (net_values c s bits) a));
  of_sum = λ c s a b. sym (zip_with-tabulate (λ x y. x +ℤ y) (length s.order) (λ bits. value s.words (net_values c s bits) a) (λ bits. value s.words (net_values c s bits) b));
  of_difference = λ c s a b. sym (zip_with-tabulate (λ x y. x -ℤ y) (length s.order) (λ bits. value s.words (net_values c s bits) a) (λ bits. value s.words (net_values c s bits) b));
  of_product = λ c s a b. sym (zip_with-tabulate (λ x y. x *ℤ y) (length s.order) (λ bits. value s.words (net_values c s bits) a) (λ bits. value s.words (net_values c s bits) b));
}
