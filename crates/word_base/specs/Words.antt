-- A number as two words: its two's complement in 128 bits.
use Rattle.std.specs.Prelude.{◌≡◌, ◌<◌, ℕ, ℤ, ◌+◌, ◌-◌, ◌*◌, ◌/◌, ◌%◌, ◌^◌, pos, negsuc, refl}
use Rattle.std.specs.Int.{w128, cast_signed, cast_unsigned}
use Rattle.word_base.specs.Range.{InRange}

abbrev pub value_of : ℕ → ℕ → ℤ
value_of low high = cast_signed w128 (low + 2 ^ 64 * high)

abbrev pub low_word : ℤ → ℕ
low_word z = cast_unsigned w128 z % 2 ^ 64

abbrev pub high_word : ℤ → ℕ
high_word z = cast_unsigned w128 z / 2 ^ 64

-- two words of a number in range
pub record AreWords (low high : ℕ) : Type 0 where
  pub low_fits : low < 2 ^ 64
  pub high_fits : high < 2 ^ 64
  pub in_range : InRange (value_of low high)

-- ---- examples
three-words : value_of 3 0 ≡ pos 3
three-words = refl

minus_one-words : value_of (2 ^ 64 - 1) (2 ^ 64 - 1) ≡ negsuc 0
minus_one-words = refl
