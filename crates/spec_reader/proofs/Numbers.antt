-- Texts of digits, and the names of words.
use Rattle.std.proofs.Common.{◌≡◌, ℕ, ◌<◌, ◌^◌, ℤ, pos, Bool, true, cond, List, [], ◌∷◌, Some, None, Result, Ok, Err, ltb, not, nat_eq, sym, ap, ◌∙◌, ⊎_elim, arith, rules}
use Rattle.std.specs.Char.{is_ascii_alphabetic, is_ascii_digit}
use Rattle.std.specs.List.{list_all}
use Rattle.std.specs.Result.{OkIff, result_ok}
use Rattle.std.specs.Str.{IsAscii, IsUtf8}
use Rattle.std.specs.Str.Parse.{digits_value}
use Rattle.std.proofs.lemmas.Bool.{and_parts, ltb-true, lt-ltb, false_from_ne_true, or_cases, eqb-true}
use Rattle.std.proofs.lemmas.Bool.Decides.{nat_tests}
use Rattle.std.proofs.lemmas.Str.{IsUtf8-from_ascii}
use Rattle.std.proofs.lemmas.Str.Ascii.{IsAscii-nil, IsAscii-cons}
use Rattle.spec_grammar.specs.Names.{is_first_byte, is_later_byte, is_identifier, is_keyword, is_word_name}
use Rattle.std.proofs.lemmas.Str.Parse.{IsNumeralModel, numerals_by_value}

pub digits_are_numerals : IsNumeralModel (λ digits. list_all is_ascii_digit digits ≡ true) (digits_value 10)
digits_are_numerals = numerals_by_value _ (search rules)

-- bytes that pass a test which only ASCII bytes pass
pub ascii_where : (p : ℕ → Bool) → ((b : ℕ) → p b ≡ true → b < 128) → (text : List ℕ) → list_all p text ≡ true → IsAscii text
ascii_where p small [] e = IsAscii-nil
ascii_where p small (b ∷ text) e =
    let parts = and_parts (p b) (list_all p text) e in
    IsAscii-cons b text (small b parts.0) (ascii_where p small text parts.1)

pub digit_is_small : (b : ℕ) → is_ascii_digit b ≡ true → b < 128
digit_is_small b e = grind (arith, nat_tests)

pub digits_are_utf8 : (text : List ℕ) → list_all is_ascii_digit text ≡ true → IsUtf8 text
digits_are_utf8 text e = IsUtf8-from_ascii text (ascii_where is_ascii_digit digit_is_small text e)

pub ok_below : {E : Type 0} (r : Result ℤ E) (n m : ℕ) → 0 < m → OkIff r ((0 < m) × (n < 2 ^ 127)) (pos n) → result_ok r ≡ cond (ltb n (2 ^ 127)) (Some (pos n)) None
ok_below (Ok x) n m some ok = ap Some ok.1 ∙ sym (ap (λ b. cond b (Some (pos n)) None) (lt-ltb n (2 ^ 127) ok.0.1))
ok_below (Err e) n m some fails = sym (ap (λ b. cond b (Some (pos n)) None) (false_from_ne_true (ltb n (2 ^ 127)) (λ below. fails (some, ltb-true n (2 ^ 127) below))))

letter_is_small : (b : ℕ) → is_ascii_alphabetic b ≡ true → b < 128
letter_is_small b e = grind (arith, nat_tests)

first_byte_is_small : (b : ℕ) → is_first_byte b ≡ true → b < 128
first_byte_is_small b e = ⊎_elim (λ letter. letter_is_small b letter) (λ line. let is : b ≡ 95 = eqb-true b 95 line in omega arith) (or_cases (is_ascii_alphabetic b) (nat_eq b 95) e)

later_byte_is_small : (b : ℕ) → is_later_byte b ≡ true → b < 128
later_byte_is_small b e = ⊎_elim (λ first. first_byte_is_small b first) (λ digit. digit_is_small b digit) (or_cases (is_first_byte b) (is_ascii_digit b) e)

identifiers_are_ascii : (name : List ℕ) → is_identifier name ≡ true → IsAscii name
identifiers_are_ascii [] e = IsAscii-nil
identifiers_are_ascii (b ∷ more) e =
    let parts = and_parts (is_first_byte b) (list_all is_later_byte more) e in
    IsAscii-cons b more (first_byte_is_small b parts.0) (ascii_where is_later_byte later_byte_is_small more parts.1)

pub word_names_are_utf8 : (name : List ℕ) → is_word_name name ≡ true → IsUtf8 name
word_names_are_utf8 name e =
    IsUtf8-from_ascii name (identifiers_are_ascii name (and_parts (is_identifier name) (not (is_keyword name)) e).0)
