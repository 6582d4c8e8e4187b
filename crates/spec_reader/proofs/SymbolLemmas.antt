-- The first symbol of a text.
use Rattle.std.proofs.Common.{◌≡◌, ℕ, ◌<◌, ◌==◌, Bool, true, false, not, ◌||◌, cond, List, [], ◌∷◌, ◌++◌, length, map, take, drop, filter, refl, sym, ap, ◌∙◌, slice_index, append_assoc, append-nil, arith, ⊎_elim}
use Rattle.std.specs.Char.{is_ascii_digit}
use Rattle.std.specs.List.{position_or_len}
use Rattle.std.proofs.lemmas.Bool.{eqb-true, or_cases, cases_Bool}
use Rattle.spec_grammar.specs.Names.{is_first_byte, is_later_byte}
use Rattle.spec_grammar.specs.Symbols.{Symbol, digits, name, plus, minus, times, opening, closing, equality, keyword, half, stray, blank, sign, begun, goes_on, longer, symbols_from, is_no_blank, settled, symbols}
use Rattle.texts.specs.White.{is_white, white_len}
use Rattle.texts.proofs.Places.{place_later, place_first}

-- the symbols of a text behind a symbol that was begun
abbrev pub behind : Symbol → List ℕ → List Symbol
behind s text = map settled (filter is_no_blank (symbols_from s text))

kept : (s : Symbol) (more : List Symbol) → is_no_blank s ≡ true → map settled (filter is_no_blank (s ∷ more)) ≡ settled s ∷ map settled (filter is_no_blank more)
kept s more e = rw e refl

-- a symbol that the text does not go on with
ended : (s : Symbol) (text : List ℕ) → is_no_blank s ≡ true → goes_on s (slice_index text 0) ≡ false → behind s text ≡ settled s ∷ symbols text
ended s [] e f = kept s [] e
ended s (b ∷ text) e f = rw f (kept s (symbols_from (begun b) text) e)

longer_by : (s : Symbol) (b : ℕ) (text : List ℕ) → goes_on s b ≡ true → behind s (b ∷ text) ≡ behind (longer s b) text
longer_by s b text e = rw e refl

-- ---- white space

white_is_blank : (b : ℕ) → is_white b ≡ true → begun b ≡ blank
white_is_blank b e = ⊎_elim
    (λ two. ⊎_elim (λ one. at 32 (eqb-true b 32 one) refl) (λ one. at 9 (eqb-true b 9 one) refl) (or_cases (b == 32) (b == 9) two))
    (λ one. at 13 (eqb-true b 13 one) refl)
    (or_cases (b == 32 || b == 9) (b == 13) e)
  where
    at : (n : ℕ) → b ≡ n → begun n ≡ blank → begun b ≡ blank
    at n same known = ap begun same ∙ known

abbrev pub no_white : ℕ → Bool
no_white b = not (is_white b)

pub white_dropped : (text : List ℕ) → symbols (drop (white_len text) text) ≡ symbols text
white_dropped [] = refl
white_dropped (b ∷ text) = ⊎_elim
    (λ e. ap (λ n. symbols (drop n (b ∷ text))) (place_later no_white b text (ap not e)) ∙ white_dropped text ∙ sym (ap (λ s. behind s text) (white_is_blank b e)))
    (λ e. ap (λ n. symbols (drop n (b ∷ text))) (place_first no_white b text (ap not e)))
    (cases_Bool (is_white b))

pub white_stops : (text : List ℕ) → is_white (slice_index (drop (white_len text) text) 0) ≡ false
white_stops [] = refl
white_stops (b ∷ text) = ⊎_elim
    (λ e. ap (λ n. is_white (slice_index (drop n (b ∷ text)) 0)) (place_later no_white b text (ap not e)) ∙ white_stops text)
    (λ e. ap (λ n. is_white (slice_index (drop n (b ∷ text)) 0)) (place_first no_white b text (ap not e)) ∙ e)
    (cases_Bool (is_white b))

-- ---- digits and names

abbrev no_digit : ℕ → Bool
no_digit b = not (is_ascii_digit b)

abbrev no_later : ℕ → Bool
no_later b = not (is_later_byte b)

digits_run : (ds text : List ℕ) → behind (digits ds) text ≡ digits (ds ++ take (position_or_len no_digit text) text) ∷ symbols (drop (position_or_len no_digit text) text)
digits_run ds [] = ap (λ all. digits all ∷ []) (sym (append-nil ds))
digits_run ds (b ∷ text) = ⊎_elim
    (λ e. longer_by (digits ds) b text e ∙ digits_run (ds ++ b ∷ []) text
    ∙ ap (λ all. digits all ∷ symbols (drop (position_or_len no_digit text) text)) (append_assoc ds (b ∷ []) (take (position_or_len no_digit text) text))
    ∙ sym (ap (λ n. digits (ds ++ take n (b ∷ text)) ∷ symbols (drop n (b ∷ text))) (place_later no_digit b text (ap not e))))
    (λ e. ended (digits ds) (b ∷ text) refl e
    ∙ ap (λ all. digits all ∷ symbols (b ∷ text)) (sym (append-nil ds))
    ∙ sym (ap (λ n. digits (ds ++ take n (b ∷ text)) ∷ symbols (drop n (b ∷ text))) (place_first no_digit b text (ap not e))))
    (cases_Bool (is_ascii_digit b))

name_run : (a text : List ℕ) → behind (name a) text ≡ settled (name (a ++ take (position_or_len no_later text) text)) ∷ symbols (drop (position_or_len no_later text) text)
name_run a [] = ap (λ all. settled (name all) ∷ []) (sym (append-nil a))
name_run a (b ∷ text) = ⊎_elim
    (λ e. longer_by (name a) b text e ∙ name_run (a ++ b ∷ []) text
    ∙ ap (λ all. settled (name all) ∷ symbols (drop (position_or_len no_later text) text)) (append_assoc a (b ∷ []) (take (position_or_len no_later text) text))
    ∙ sym (ap (λ n. settled (name (a ++ take n (b ∷ text))) ∷ symbols (drop n (b ∷ text))) (place_later no_later b text (ap not e))))
    (λ e. ended (name a) (b ∷ text) refl e
    ∙ ap (λ all. settled (name all) ∷ symbols (b ∷ text)) (sym (append-nil a))
    ∙ sym (ap (λ n. settled (name (a ++ take n (b ∷ text))) ∷ symbols (drop n (b ∷ text))) (place_first no_later b text (ap not e))))
    (cases_Bool (is_later_byte b))

begun_digit : (b : ℕ) → is_ascii_digit b ≡ true → begun b ≡ digits (b ∷ [])
begun_digit b e = rw e refl

begun_name : (b : ℕ) → is_ascii_digit b ≡ false → is_first_byte b ≡ true → begun b ≡ name (b ∷ [])
begun_name b e f = rw (e, f) refl

begun_sign : (b : ℕ) → is_ascii_digit b ≡ false → is_first_byte b ≡ false → begun b ≡ sign b
begun_sign b e f = rw (e, f) refl

pub digits_first : (text : List ℕ) → is_ascii_digit (slice_index text 0) ≡ true → symbols text ≡ digits (take (position_or_len no_digit text) text) ∷ symbols (drop (position_or_len no_digit text) text)
digits_first [] e = absurd (cc)
digits_first (b ∷ text) e =
    ap (λ s. behind s text) (begun_digit b e) ∙ digits_run (b ∷ []) text
    ∙ sym (ap (λ n. digits (take n (b ∷ text)) ∷ symbols (drop n (b ∷ text))) (place_later no_digit b text (ap not e)))

later_of_first : (b : ℕ) → is_first_byte b ≡ true → is_later_byte b ≡ true
later_of_first b e = rw e refl

pub name_first : (text : List ℕ) → is_ascii_digit (slice_index text 0) ≡ false → is_first_byte (slice_index text 0) ≡ true
    → symbols text ≡ settled (name (take (position_or_len no_later text) text)) ∷ symbols (drop (position_or_len no_later text) text)
name_first [] e f = absurd (cc)
name_first (b ∷ text) e f =
    ap (λ s. behind s text) (begun_name b e f) ∙ name_run (b ∷ []) text
    ∙ sym (ap (λ n. settled (name (take n (b ∷ text))) ∷ symbols (drop n (b ∷ text))) (place_later no_later b text (ap not (later_of_first b f))))

-- ---- signs

-- a symbol that nothing goes on with, and that is settled
abbrev pub is_sign : Symbol → Bool
is_sign plus = true
is_sign minus = true
is_sign times = true
is_sign opening = true
is_sign closing = true
is_sign stray = true
is_sign _ = false

sign_kept : (s : Symbol) (text : List ℕ) → is_sign s ≡ true → behind s text ≡ s ∷ symbols text
sign_kept (digits ds) text e = absurd (cc)
sign_kept (name a) text e = absurd (cc)
sign_kept plus text e = ended plus text refl refl
sign_kept minus text e = ended minus text refl refl
sign_kept times text e = ended times text refl refl
sign_kept opening text e = ended opening text refl refl
sign_kept closing text e = ended closing text refl refl
sign_kept equality text e = absurd (cc)
sign_kept keyword text e = absurd (cc)
sign_kept half text e = absurd (cc)
sign_kept stray text e = ended stray text refl refl
sign_kept blank text e = absurd (cc)

chosen_sign : (a b c d e f g : Bool) → f ≡ false → g ≡ false
    → is_sign (cond a plus (cond b minus (cond c times (cond d opening (cond e closing (cond f half (cond g blank stray))))))) ≡ true
chosen_sign true b c d e f g h k = refl
chosen_sign false true c d e f g h k = refl
chosen_sign false false true d e f g h k = refl
chosen_sign false false false true e f g h k = refl
chosen_sign false false false false true f g h k = refl
chosen_sign false false false false false true g h k = absurd (cc)
chosen_sign false false false false false false true h k = absurd (cc)
chosen_sign false false false false false false false h k = refl

pub sign_first : (text : List ℕ) → 0 < length text → is_ascii_digit (slice_index text 0) ≡ false → is_first_byte (slice_index text 0) ≡ false → is_white (slice_index text 0) ≡ false → (slice_index text 0 == 61) ≡ false
    → symbols text ≡ sign (slice_index text 0) ∷ symbols (drop 1 text)
sign_first [] some d f w e = absurd (omega arith)
sign_first (b ∷ text) some d f w e =
    ap (λ s. behind s text) (begun_sign b d f) ∙ sign_kept (sign b) text (chosen_sign (b == 43) (b == 45) (b == 42) (b == 40) (b == 41) (b == 61) (is_white b) e w)

half_first : (text : List ℕ) → symbols (61 ∷ text) ≡ behind half text
half_first text = refl

equals_once_at : (b : ℕ) (text : List ℕ) → b ≡ 61 → (slice_index text 0 == 61) ≡ false → symbols (b ∷ text) ≡ half ∷ symbols text
equals_once_at b text e f = ap (λ b. symbols (b ∷ text)) e ∙ ended half text refl f

pub equals_once : (text : List ℕ) → 0 < length text → slice_index text 0 ≡ 61 → (slice_index (drop 1 text) 0 == 61) ≡ false → symbols text ≡ half ∷ symbols (drop 1 text)
equals_once [] some e f = absurd (omega arith)
equals_once (b ∷ text) some e f = equals_once_at b text e f

equals_twice_at : (b c : ℕ) (text : List ℕ) → b ≡ 61 → c ≡ 61 → symbols (b ∷ c ∷ text) ≡ equality ∷ symbols text
equals_twice_at b c text e f = ap (λ b. symbols (b ∷ c ∷ text)) e ∙ ap (λ c. symbols (61 ∷ c ∷ text)) f ∙ ended equality text refl refl

pub equals_twice : (text : List ℕ) → 1 < length text → slice_index text 0 ≡ 61 → slice_index (drop 1 text) 0 ≡ 61 → symbols text ≡ equality ∷ symbols (drop 2 text)
equals_twice [] some e f = absurd (omega arith)
equals_twice (b ∷ []) some e f = absurd (omega arith)
equals_twice (b ∷ c ∷ text) some e f = equals_twice_at b c text e f
