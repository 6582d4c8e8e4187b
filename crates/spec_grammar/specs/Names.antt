-- The names of words, and the letters of decompositions.
use Rattle.std.specs.Prelude.{◌≡◌, ℕ, ◌==◌, Bool, true, false, not, ◌&&◌, ◌||◌, List, [], ◌∷◌, Option, Some, None, codes, if◌then◌else◌, refl}
use Rattle.std.specs.Char.{is_ascii_alphabetic, is_ascii_digit}
use Rattle.std.specs.List.{list_any, list_all}
use Rattle.std.specs.Str.{bytes_eq}
use Rattle.word_base.specs.declared.decomp.Decomp.{Decomp}
use Rattle.word_base.specs.declared.decomp.Decomp.TheVariants.{S, P, N}

-- a letter or _
abbrev pub is_first_byte : ℕ → Bool
is_first_byte b = is_ascii_alphabetic b || b == 95

-- a letter, a digit or _
abbrev pub is_later_byte : ℕ → Bool
is_later_byte b = is_first_byte b || is_ascii_digit b

abbrev pub is_identifier : List ℕ → Bool
is_identifier [] = false
is_identifier (b ∷ more) = is_first_byte b && list_all is_later_byte more

-- the words of the language
abbrev pub keywords : List (List ℕ)
keywords = codes "order" ∷ codes "split" ∷ codes "word" ∷ codes "check" ∷ codes "mod" ∷ codes "when" ∷ codes "signed" ∷ []

abbrev pub is_keyword : List ℕ → Bool
is_keyword name = list_any (bytes_eq name) keywords

abbrev pub is_word_name : List ℕ → Bool
is_word_name name = is_identifier name && not (is_keyword name)

-- the decomposition that a text names
abbrev pub letter : List ℕ → Option Decomp
letter text =
    if bytes_eq text (codes "S")
    then Some S
    else if bytes_eq text (codes "P")
    then Some P
    else if bytes_eq text (codes "N")
    then Some N
    else None

word-name : is_word_name (codes "_a1") ≡ true
word-name = refl

digit-first : is_word_name (codes "1a") ≡ false
digit-first = refl

no-bytes : is_word_name [] ≡ false
no-bytes = refl

keyword-no_name : is_word_name (codes "when") ≡ false
keyword-no_name = refl

keyword-in_front : is_word_name (codes "words") ≡ true
keyword-in_front = refl

capital-keyword : is_word_name (codes "Word") ≡ true
capital-keyword = refl

small-letter : letter (codes "p") ≡ None
small-letter = refl
