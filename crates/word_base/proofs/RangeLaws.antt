-- The range of weights, as a fact and as a test.
use Rattle.std.proofs.Common.{◌≡◌, ℤ, ◌^◌, true}
use Rattle.std.specs.Prelude.{unsigned_abs}
use Rattle.std.proofs.lemmas.Bool.{lt-ltb, ltb-true}
use Rattle.word_base.specs.Range.{InRange, in_range}

pub in_range_if : (z : ℤ) → InRange z → in_range z ≡ true
in_range_if z h = lt-ltb (unsigned_abs z) (2 ^ 127) h

pub in_range_only_if : (z : ℤ) → in_range z ≡ true → InRange z
in_range_only_if z h = ltb-true (unsigned_abs z) (2 ^ 127) h
