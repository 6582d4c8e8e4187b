use Rattle.std.proofs.Common.{◌≤◌, ◌<◌, ◌^◌, ◌∙◌, sym, subst, ℕ, ℤ, pos, arith}
use Rattle.std.specs.Prelude.{FitsSigned, Option, Some, None, Result, Ok, Err, MatchOption, IsErr}
use Rattle.std.specs.Int.{w128}
use Rattle.std.specs.Result.{OkIff}
use Rattle.std.proofs.lemmas.Int.{fits_signed_from_abs}
use Rattle.std.proofs.Math.Pow.{pow_mono}
use Rattle.num_traits.specs.Laws.{Checks}
use Rattle.word_base.specs.Range.{InRange}
use Rattle.weights.proofs.power.power_of_two.Goals as goal

below : (n : ℕ) → n ≤ 126 → 2 ^ n < 2 ^ 127
below n h = let p : 2 ^ n ≤ 2 ^ 126 = pow_mono h in omega arith

only_below : (n : ℕ) → 2 ^ n < 2 ^ 127 → n ≤ 126
only_below n h =
    let above : 127 ≤ n → ⊥ = λ e. let p : 2 ^ 127 ≤ 2 ^ n = pow_mono e in omega arith in
    omega (arith, above)

is_power : {E : Type 0} (n : ℕ) (x : Option ℤ) (r : Result ℤ E) → Checks (λ (z : ℤ). z) (λ (z : ℤ). FitsSigned w128 z) (pos (2 ^ n)) x →
    MatchOption x (IsErr r) (λ z. OkIff r (InRange z) z) → OkIff r (n ≤ 126) (pos (2 ^ n))
is_power n None (Ok y) h k = absurd (cc)
is_power n None (Err e) h k = λ le. h (fits_signed_from_abs w128 (pos (2 ^ n)) (below n le))
is_power n (Some z) (Ok y) h k = (only_below n (subst InRange h.1 k.0), k.1 ∙ h.1)
is_power n (Some z) (Err e) h k = λ le. k (subst InRange (sym h.1) (below n le))

pub returns : goal.returns
returns c = is_power c.args.exponent c.checked_pow.result c.checked.result c.checked_pow.ensures c.checked.ensures
