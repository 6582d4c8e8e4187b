-- Numbers: decimal digits, at most seven, without a zero in front of others.
use Rattle.std.specs.Prelude.{◌≡◌, ℕ, ◌==◌, Bool, true, false, not, ◌&&◌, ◌||◌, List, [], ◌∷◌, codes, length, nat_lt, nat_le, Option, Some, None, if◌then◌else◌, refl}
use Rattle.std.specs.Char.{is_ascii_digit}
use Rattle.std.specs.List.{list_all}
use Rattle.std.specs.Option.{option_and_then}
use Rattle.std.specs.Str.Parse.{digits_value}
use Rattle.multiplier.specs.declared.size.TheConstants.{LEAST_SIZE, MOST_SIZE}
use Rattle.settings.specs.declared.limits.TheConstants.{MOST_DIGITS}

-- 48 is the digit 0
abbrev pub is_number : List ℕ → Bool
is_number [] = false
is_number (first ∷ more) =
    list_all is_ascii_digit (first ∷ more) && nat_lt (length more) MOST_DIGITS && (length more == 0 || not (first == 48))

-- the number that a word writes
abbrev pub number_of : List ℕ → Option ℕ
number_of word = if is_number word then Some (digits_value 10 word) else None

-- the size that a word writes
abbrev pub size_of : List ℕ → Option ℕ
size_of word = option_and_then (λ n. if nat_le LEAST_SIZE n && nat_le n MOST_SIZE then Some n else None) (number_of word)

zero : number_of (codes "0") ≡ Some 0
zero = refl

ten : number_of (codes "10") ≡ Some 10
ten = refl

seven_digits : number_of (codes "1048576") ≡ Some 1048576
seven_digits = refl

eight_digits : number_of (codes "10000000") ≡ None
eight_digits = refl

zero_in_front : number_of (codes "01") ≡ None
zero_in_front = refl

two_zeros : number_of (codes "00") ≡ None
two_zeros = refl

no_digit : number_of [] ≡ None
no_digit = refl

a_sign : number_of (codes "+1") ≡ None
a_sign = refl

sizes : (size_of (codes "1") ≡ None) × (size_of (codes "2") ≡ Some 2) × (size_of (codes "16") ≡ Some 16) × (size_of (codes "17") ≡ None)
sizes = (refl, refl, refl, refl)
