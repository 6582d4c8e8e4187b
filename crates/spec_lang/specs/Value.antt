-- The value of a word and of a formula, at given values of the nets.
use Rattle.std.specs.Prelude.{◌≡◌, ℕ, ◌*◌, ◌^◌, ◌<◌, ℤ, pos, ◌+ℤ◌, ◌-ℤ◌, ◌*ℤ◌, neg_ℤ, Bool, true, false, ◌&&◌, if◌then◌else◌, List, [], ◌∷◌, length, sum_by, slice_get, refl}
use Rattle.std.specs.List.{enumerate_from}
use Rattle.std.specs.Option.{option_map_or}
use Rattle.circuits.specs.Valuation.{bit_of}
use Rattle.word_base.specs.Range.{in_range}
use Rattle.spec_lang.specs.Formula.{Formula, number, word, negative, sum, difference, product}
use Rattle.spec_lang.specs.Specification.{Word, half_adder, half_adder_check}

-- 1 or 0, as the net's value is
abbrev pub digit_of : List Bool → ℕ → ℕ
digit_of values net = if bit_of values net then 1 else 0

-- the sum of 2^i times the value of net i
abbrev pub word_value : List Bool → List ℕ → ℕ
word_value values nets = sum_by (λ (i, net). 2 ^ i * digit_of values net) (enumerate_from 0 nets)

-- the nets of the word of this number, and none where there is no such word
abbrev pub nets_of : List Word → ℕ → List ℕ
nets_of words w = option_map_or (λ found. found.nets) (slice_get words w) []

abbrev pub value : List Word → List Bool → Formula → ℤ
value words values (number z) = z
value words values (word w) = pos (word_value values (nets_of words w))
value words values (negative a) = neg_ℤ (value words values a)
value words values (sum a b) = value words values a +ℤ value words values b
value words values (difference a b) = value words values a -ℤ value words values b
value words values (product a b) = value words values a *ℤ value words values b

-- whether the value of each sub-formula is in range, the whole formula among them
abbrev pub all_in_range : List Word → List Bool → Formula → Bool
all_in_range words values (number z) = in_range z
all_in_range words values (word w) = in_range (value words values (word w))
all_in_range words values (negative a) =
    all_in_range words values a && in_range (value words values (negative a))
all_in_range words values (sum a b) =
    all_in_range words values a && all_in_range words values b &&
    in_range (value words values (sum a b))
all_in_range words values (difference a b) =
    all_in_range words values a && all_in_range words values b &&
    in_range (value words values (difference a b))
all_in_range words values (product a b) =
    all_in_range words values a && all_in_range words values b &&
    in_range (value words values (product a b))

-- a word of n nets has a value below 2^n
abbrev pub WordValueIsBelow : Type 0
WordValueIsBelow = (values : List Bool) (nets : List ℕ) → word_value values nets < 2 ^ length nets

-- the nets 4, 0, 2 and 0 with the values 1, 1, 0 and 1 make 1 + 2 + 8
word_value_of_four : word_value (true ∷ false ∷ false ∷ false ∷ true ∷ []) (4 ∷ 0 ∷ 2 ∷ 0 ∷ []) ≡ 11
word_value_of_four = refl

-- net 1 is past the end of the values
word_value_past_end : word_value (true ∷ []) (1 ∷ 0 ∷ []) ≡ 2
word_value_past_end = refl

-- the half adder at a = 1, b = 1, s = 0, c = 1
abbrev carried : List Bool
carried = true ∷ true ∷ false ∷ true ∷ []

half_adder_left : value half_adder.words carried half_adder_check.left ≡ pos 2
half_adder_left = refl

half_adder_right : value half_adder.words carried half_adder_check.right ≡ pos 2
half_adder_right = refl

half_adder_in_range : all_in_range half_adder.words carried half_adder_check.left ≡ true
half_adder_in_range = refl

-- a word that is not there
missing_word : value [] carried (word 0) ≡ pos 0
missing_word = refl

-- 3 - 5
negative_difference : value [] [] (difference (number (pos 3)) (number (pos 5))) ≡ neg_ℤ (pos 2)
negative_difference = refl

abbrev greatest : Formula
greatest = number (pos 170141183460469231731687303715884105727)

-- 2^127-1 + 1
sum_out_of_range : all_in_range [] [] (sum greatest (number (pos 1))) ≡ false
sum_out_of_range = refl

-- (2^127-1 + 1) - 1 is in range, but a part of it is not
part_out_of_range : all_in_range [] [] (difference (sum greatest (number (pos 1))) (number (pos 1))) ≡ false
part_out_of_range = refl
