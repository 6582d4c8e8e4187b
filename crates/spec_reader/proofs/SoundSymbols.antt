-- Each number among the symbols of a text has digits, and these alone.
use Rattle.std.proofs.Common.{◌≡◌, ℕ, ◌+◌, ◌==◌, Bool, true, false, cond, List, [], ◌∷◌, ◌++◌, length, nat_lt, map, filter, refl, ap, ◌∙◌, ⊎_elim, arith}
use Rattle.std.specs.Char.{is_ascii_digit}
use Rattle.std.specs.List.{list_all}
use Rattle.std.proofs.lemmas.Bool.{and_parts, cases_Bool}
use Rattle.std.proofs.lemmas.Bool.Decides.{nat_tests}
use Rattle.std.proofs.lemmas.List.{length_push}
use Rattle.std.proofs.lemmas.List.Folds.{list_all-append}
use Rattle.spec_grammar.specs.Names.{is_first_byte, is_keyword}
use Rattle.spec_grammar.specs.Symbols.{Symbol, digits, name, plus, minus, times, opening, closing, equality, keyword, half, stray, blank, sign, begun, goes_on, longer, symbols_from, is_no_blank, settled, symbols}
use Rattle.texts.specs.White.{is_white}
use Rattle.spec_reader.specs.Good.{are_digits, has_digits}

chosen : (b : Bool) (s t : Symbol) → has_digits s ≡ true → has_digits t ≡ true → has_digits (cond b s t) ≡ true
chosen true s t h k = h
chosen false s t h k = k

sign_sound : (b : ℕ) → has_digits (sign b) ≡ true
sign_sound b =
    chosen (b == 43) plus _ refl (chosen (b == 45) minus _ refl (chosen (b == 42) times _ refl (chosen (b == 40) opening _ refl
    (chosen (b == 41) closing _ refl (chosen (b == 61) half _ refl (chosen (is_white b) blank stray refl refl))))))

one_digit : (b : ℕ) → is_ascii_digit b ≡ true → are_digits (b ∷ []) ≡ true
one_digit b e = rw e refl

begun_sound : (b : ℕ) → has_digits (begun b) ≡ true
begun_sound b = ⊎_elim
    (λ e. ap (λ v. has_digits (cond v (digits (b ∷ [])) (cond (is_first_byte b) (name (b ∷ [])) (sign b)))) e ∙ one_digit b e)
    (λ e. ap (λ v. has_digits (cond v (digits (b ∷ [])) (cond (is_first_byte b) (name (b ∷ [])) (sign b)))) e ∙ chosen (is_first_byte b) (name (b ∷ [])) (sign b) refl (sign_sound b))
    (cases_Bool (is_ascii_digit b))

some_more : (n m : ℕ) → n ≡ m + 1 → nat_lt 0 n ≡ true
some_more n m e = grind (arith, nat_tests)

more_digits : (ds : List ℕ) (b : ℕ) → are_digits ds ≡ true → is_ascii_digit b ≡ true → are_digits (ds ++ b ∷ []) ≡ true
more_digits ds b e f =
    let parts = and_parts (nat_lt 0 (length ds)) (list_all is_ascii_digit ds) e in
    let all : list_all is_ascii_digit (ds ++ b ∷ []) ≡ true = list_all-append is_ascii_digit ds (b ∷ []) ∙ rw (parts.1, f) refl in
    rw (some_more (length (ds ++ b ∷ [])) (length ds) (length_push ds b), all) refl

longer_sound : (s : Symbol) (b : ℕ) → has_digits s ≡ true → goes_on s b ≡ true → has_digits (longer s b) ≡ true
longer_sound (digits ds) b h e = more_digits ds b h e
longer_sound (name a) b h e = refl
longer_sound plus b h e = refl
longer_sound minus b h e = refl
longer_sound times b h e = refl
longer_sound opening b h e = refl
longer_sound closing b h e = refl
longer_sound equality b h e = refl
longer_sound keyword b h e = refl
longer_sound half b h e = refl
longer_sound stray b h e = refl
longer_sound blank b h e = refl

from_sound : (s : Symbol) (text : List ℕ) → has_digits s ≡ true → list_all has_digits (symbols_from s text) ≡ true
from_sound s [] h = rw h refl
from_sound s (b ∷ text) h = at (goes_on s b) refl (λ e. from_sound (longer s b) text (longer_sound s b h e)) (from_sound (begun b) text (begun_sound b))
  where
    at : (v : Bool) → goes_on s b ≡ v → (goes_on s b ≡ true → list_all has_digits (symbols_from (longer s b) text) ≡ true) → list_all has_digits (symbols_from (begun b) text) ≡ true
        → list_all has_digits (cond v (symbols_from (longer s b) text) (s ∷ symbols_from (begun b) text)) ≡ true
    at true e more other = more e
    at false e more other = rw (h, other) refl

settled_sound : (s : Symbol) → has_digits s ≡ true → has_digits (settled s) ≡ true
settled_sound (digits ds) h = h
settled_sound (name a) h = chosen (is_keyword a) keyword (name a) refl refl
settled_sound plus h = refl
settled_sound minus h = refl
settled_sound times h = refl
settled_sound opening h = refl
settled_sound closing h = refl
settled_sound equality h = refl
settled_sound keyword h = refl
settled_sound half h = refl
settled_sound stray h = refl
settled_sound blank h = refl

kept_sound : (line : List Symbol) → list_all has_digits line ≡ true → list_all has_digits (map settled (filter is_no_blank line)) ≡ true
kept_sound [] e = refl
kept_sound (s ∷ line) e =
    let parts = and_parts (has_digits s) (list_all has_digits line) e in
    at (is_no_blank s) (kept_sound line parts.1) (settled_sound s parts.0)
  where
    at : (v : Bool) → list_all has_digits (map settled (filter is_no_blank line)) ≡ true → has_digits (settled s) ≡ true → list_all has_digits (map settled (cond v (s ∷ filter is_no_blank line) (filter is_no_blank line))) ≡ true
    at true more first = rw (first, more) refl
    at false more first = more

pub symbols_sound : (text : List ℕ) → list_all has_digits (symbols text) ≡ true
symbols_sound text = kept_sound (symbols_from blank text) (from_sound blank text refl)
