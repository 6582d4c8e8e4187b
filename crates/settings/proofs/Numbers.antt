-- The numbers that words write.
use Rattle.std.proofs.Common.{◌≡◌, ◌∙◌, ℕ, ◌+◌, ◌<◌, ◌≤◌, ◌^◌, true, not, ◌&&◌, ◌||◌, ◌==◌, nat_lt, List, [], ◌∷◌, length, Result, Ok, Some, None, sym, ap, cond, arith, rules}
use Rattle.std.specs.Char.{is_ascii_digit}
use Rattle.std.specs.List.{list_all}
use Rattle.std.specs.Result.{result_ok}
use Rattle.std.specs.Str.Parse.{ParsesUnsigned, digits_value}
use Rattle.std.proofs.lemmas.Bool.{and_parts, ltb-true}
use Rattle.std.proofs.lemmas.Str.Parse.{IsNumeralModel, numerals_by_value, parse_gives, digits_value_short}
use Rattle.settings.specs.Numbers.{is_number, number_of}

digits_are_numerals : IsNumeralModel (λ digits. list_all is_ascii_digit digits ≡ true) (digits_value 10)
digits_are_numerals = numerals_by_value _ (search rules)

-- the parts of a number
record IsNumber (word : List ℕ) : Type 0 where
  digits : list_all is_ascii_digit word ≡ true
  some : 0 < length word
  short : length word ≤ 7

number_parts : (word : List ℕ) → is_number word ≡ true → IsNumber word
number_parts [] e = cc
number_parts (first ∷ more) e =
    let parts = and_parts (list_all is_ascii_digit (first ∷ more) && nat_lt (length more) 7) (length more == 0 || not (first == 48)) e in
    let front = and_parts (list_all is_ascii_digit (first ∷ more)) (nat_lt (length more) 7) parts.0 in
    let few = ltb-true (length more) 7 front.1 in
    record { digits = front.0; some = omega arith; short = omega arith }

-- a number is parsed to its value
pub parsed : {E : Type 0} (word : List ℕ) (r : Result ℕ E) → ParsesUnsigned 32 10 word r → is_number word ≡ true → result_ok r ≡ number_of word
parsed word r parses e =
    let n = number_parts word e in
    let below = digits_value_short digits_are_numerals word 7 n.digits n.short in
    ap result_ok (parse_gives digits_are_numerals 32 word r parses n.digits n.some (omega arith))
    ∙ sym (ap (λ b. cond b (Some (digits_value 10 word)) None) e)
