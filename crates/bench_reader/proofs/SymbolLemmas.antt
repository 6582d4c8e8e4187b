-- The first symbol of a text.
use Rattle.std.proofs.Common.{◌≡◌, ℕ, suc, ◌==◌, Bool, true, false, not, ◌||◌, cond, List, [], ◌∷◌, take, drop, filter, refl, sym, ap, ◌∙◌, slice_index, ⊎_elim}
use Rattle.std.proofs.lemmas.Bool.{eqb-true, or_cases, cases_Bool}
use Rattle.circuits.specs.Names.{is_name_byte}
use Rattle.texts.specs.White.{is_white, white_len}
use Rattle.texts.specs.Names.{name_len}
use Rattle.texts.proofs.Places.{place_later, place_first}
use Rattle.bench_reader.specs.Symbols.{Symbol, name, opening, closing, comma, equals, blank, stray, sign, symbol_of, joined, with_blanks, is_no_blank, symbols}

white_is_blank : (b : ℕ) → is_white b ≡ true → symbol_of b ≡ blank
white_is_blank b e = ⊎_elim
    (λ two. ⊎_elim (λ one. at 32 (eqb-true b 32 one) refl) (λ one. at 9 (eqb-true b 9 one) refl) (or_cases (b == 32) (b == 9) two))
    (λ one. at 13 (eqb-true b 13 one) refl)
    (or_cases (b == 32 || b == 9) (b == 13) e)
  where
    at : (n : ℕ) → b ≡ n → symbol_of n ≡ blank → symbol_of b ≡ blank
    at n same known = ap symbol_of same ∙ known

abbrev pub no_white : ℕ → Bool
no_white b = not (is_white b)

pub white_dropped : (text : List ℕ) → symbols (drop (white_len text) text) ≡ symbols text
white_dropped [] = refl
white_dropped (b ∷ text) = ⊎_elim
    (λ e. ap (λ n. symbols (drop n (b ∷ text))) (place_later no_white b text (ap not e)) ∙ white_dropped text ∙ sym (ap (λ s. filter is_no_blank (joined s (with_blanks text))) (white_is_blank b e)))
    (λ e. ap (λ n. symbols (drop n (b ∷ text))) (place_first no_white b text (ap not e)))
    (cases_Bool (is_white b))

pub white_stops : (text : List ℕ) → is_white (slice_index (drop (white_len text) text) 0) ≡ false
white_stops [] = refl
white_stops (b ∷ text) = ⊎_elim
    (λ e. ap (λ n. is_white (slice_index (drop n (b ∷ text)) 0)) (place_later no_white b text (ap not e)) ∙ white_stops text)
    (λ e. ap (λ n. is_white (slice_index (drop n (b ∷ text)) 0)) (place_first no_white b text (ap not e)) ∙ e)
    (cases_Bool (is_white b))

-- neither a name nor white space
abbrev pub is_sign : Symbol → Bool
is_sign (name text) = false
is_sign opening = true
is_sign closing = true
is_sign comma = true
is_sign equals = true
is_sign blank = false
is_sign stray = true

sign_kept : (s : Symbol) (more : List Symbol) → is_sign s ≡ true → filter is_no_blank (joined s more) ≡ s ∷ filter is_no_blank more
sign_kept (name text) more e = absurd (cc)
sign_kept opening more e = refl
sign_kept closing more e = refl
sign_kept comma more e = refl
sign_kept equals more e = refl
sign_kept blank more e = absurd (cc)
sign_kept stray more e = refl

chosen_sign : (a b c d e : Bool) → e ≡ false → is_sign (cond a opening (cond b closing (cond c comma (cond d equals (cond e blank stray))))) ≡ true
chosen_sign true b c d e h = refl
chosen_sign false true c d e h = refl
chosen_sign false false true d e h = refl
chosen_sign false false false true e h = refl
chosen_sign false false false false true h = absurd (cc)
chosen_sign false false false false false h = refl

pub sign_first : (b : ℕ) (rest : List ℕ) → is_name_byte b ≡ false → is_white b ≡ false → symbols (b ∷ rest) ≡ sign b ∷ symbols rest
sign_first b rest no_name no_white =
    rw no_name (sign_kept (sign b) (with_blanks rest) (chosen_sign (b == 40) (b == 41) (b == 44) (b == 61) (is_white b) no_white))

-- the text does not begin with a byte of a name
abbrev pub BeginsApart : List ℕ → Type 0
BeginsApart text = is_name_byte (slice_index text 0) ≡ false

apart_cond : (a b c d e : Bool) (t : List ℕ) (more : List Symbol) →
    joined (name t) (joined (cond a opening (cond b closing (cond c comma (cond d equals (cond e blank stray))))) more)
    ≡ name t ∷ joined (cond a opening (cond b closing (cond c comma (cond d equals (cond e blank stray))))) more
apart_cond true b c d e t more = refl
apart_cond false true c d e t more = refl
apart_cond false false true d e t more = refl
apart_cond false false false true e t more = refl
apart_cond false false false false true t more = refl
apart_cond false false false false false t more = refl

apart : (t rest : List ℕ) → BeginsApart rest → joined (name t) (with_blanks rest) ≡ name t ∷ with_blanks rest
apart t [] e = refl
apart t (b ∷ rest) e = rw e (apart_cond (b == 40) (b == 41) (b == 44) (b == 61) (is_white b) t (with_blanks rest))

abbrev pub no_name : ℕ → Bool
no_name b = not (is_name_byte b)

-- a byte of a name, in front of marks
lettered : (b : ℕ) (more : List Symbol) → is_name_byte b ≡ true → joined (symbol_of b) more ≡ joined (name (b ∷ [])) more
lettered b more e = ap (λ v. joined (cond v (name (b ∷ [])) (sign b)) more) e

-- a name and the marks after n bytes
abbrev pub cut : ℕ → List ℕ → List Symbol
cut n text = name (take n text) ∷ with_blanks (drop n text)

name_marked : (b : ℕ) (text : List ℕ) → joined (name (b ∷ [])) (with_blanks text) ≡ cut (suc (name_len text)) (b ∷ text)
name_marked b [] = refl
name_marked b (c ∷ text) = ⊎_elim
    (λ h. ap (joined (name (b ∷ []))) (lettered c (with_blanks text) h ∙ name_marked c text) ∙ sym (ap (λ n. cut (suc n) (b ∷ c ∷ text)) (place_later no_name c text (ap not h))))
    (λ h. apart (b ∷ []) (c ∷ text) h ∙ sym (ap (λ n. cut (suc n) (b ∷ c ∷ text)) (place_first no_name c text (ap not h))))
    (cases_Bool (is_name_byte c))

pub name_first : (text : List ℕ) → is_name_byte (slice_index text 0) ≡ true → symbols text ≡ name (take (name_len text) text) ∷ symbols (drop (name_len text) text)
name_first [] e = absurd (cc)
name_first (b ∷ text) e = ap (filter is_no_blank) (lettered b (with_blanks text) e ∙ name_marked b text ∙ sym (ap (λ n. cut n (b ∷ text)) (place_later no_name b text (ap not e))))
