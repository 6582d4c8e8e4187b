-- A number and its two words are each other's.
use Rattle.std.proofs.Common.{◌≡◌, refl, sym, ap, ◌∙◌, ℕ, ℤ, pos, negsuc, ◌+◌, ◌*◌, ◌/◌, ◌%◌, ◌<◌, ◌^◌, arith}
use Rattle.std.specs.Int.{w128, cast_signed, cast_unsigned}
use Rattle.std.proofs.lemmas.Int.{of_z-to_z, to_z-of_z}
use mir.Val.{SFits}
use Rattle.word_base.specs.Range.{InRange}
use Rattle.word_base.specs.Words.{value_of, low_word, high_word, AreWords}

pub low-of_value : (low high : ℕ) → AreWords low high → low_word (value_of low high) ≡ low
low-of_value low high h = let e = of_z-to_z w128 (low + 2 ^ 64 * high) (omega (arith, h.low_fits, h.high_fits)) in omega (arith, h.low_fits)

pub high-of_value : (low high : ℕ) → AreWords low high → high_word (value_of low high) ≡ high
high-of_value low high h = let e = of_z-to_z w128 (low + 2 ^ 64 * high) (omega (arith, h.low_fits, h.high_fits)) in omega (arith, h.low_fits)

fits_signed : (z : ℤ) → InRange z → SFits w128 z
fits_signed (pos n) h = record { sfits = h }
fits_signed (negsuc n) h = let within : n < 2 ^ 127 = omega (arith, h) in record { sfits = within }

pub value-of_words : (z : ℤ) → InRange z → value_of (low_word z) (high_word z) ≡ z
value-of_words z h =
    let e : low_word z + 2 ^ 64 * high_word z ≡ cast_unsigned w128 z = omega arith in
    ap (cast_signed w128) e ∙ to_z-of_z w128 z (fits_signed z h)
