-- The symbols of a check: numbers, names, operators, parentheses and ==.
use Rattle.std.specs.Prelude.{◌≡◌, ℕ, ◌==◌, Bool, true, false, List, [], ◌∷◌, ◌++◌, map, filter, codes, if◌then◌else◌, refl}
use Rattle.std.specs.Char.{is_ascii_digit}
use Rattle.spec_grammar.specs.Names.{is_first_byte, is_later_byte, is_keyword}
use Rattle.texts.specs.White.{is_white}

-- a number has its digits, and a name its bytes
pub data Symbol : Type 0 where
  digits : List ℕ → Symbol
  name : List ℕ → Symbol
  plus : Symbol
  minus : Symbol
  times : Symbol
  opening : Symbol
  closing : Symbol
  equality : Symbol
  -- what is no symbol of an expression: a word of the language, = alone, and any other byte
  keyword : Symbol
  half : Symbol
  stray : Symbol
  -- white space, which is left out
  blank : Symbol

-- the sign that a byte is
abbrev pub sign : ℕ → Symbol
sign b =
    if b == 43
    then plus
    else if b == 45
    then minus
    else if b == 42
    then times
    else if b == 40
    then opening
    else if b == 41
    then closing
    else if b == 61
    then half
    else if is_white b
    then blank
    else stray

-- what a byte begins
abbrev pub begun : ℕ → Symbol
begun b = if is_ascii_digit b then digits (b ∷ []) else if is_first_byte b then name (b ∷ []) else sign b

-- whether a byte goes on with a symbol, and the symbol with it
abbrev pub goes_on : Symbol → ℕ → Bool
goes_on (digits ds) b = is_ascii_digit b
goes_on (name a) b = is_later_byte b
goes_on half b = b == 61
goes_on _ b = false

abbrev pub longer : Symbol → ℕ → Symbol
longer (digits ds) b = digits (ds ++ b ∷ [])
longer (name a) b = name (a ++ b ∷ [])
longer half b = equality
longer symbol b = symbol

-- the symbols of a text, each as long as it can be, where the first was begun before the text
abbrev pub symbols_from : Symbol → List ℕ → List Symbol
symbols_from symbol [] = symbol ∷ []
symbols_from symbol (b ∷ text) =
    if goes_on symbol b then symbols_from (longer symbol b) text else symbol ∷ symbols_from (begun b) text

abbrev pub is_no_blank : Symbol → Bool
is_no_blank blank = false
is_no_blank symbol = true

-- a word of the language is found as a name would be
abbrev pub settled : Symbol → Symbol
settled (name a) = if is_keyword a then keyword else name a
settled symbol = symbol

abbrev pub symbols : List ℕ → List Symbol
symbols text = map settled (filter is_no_blank (symbols_from blank text))

half_adder : symbols (codes " s1 +2*_c==( a\t-b)\r")
    ≡ name (codes "s1") ∷ plus ∷ digits (codes "2") ∷ times ∷ name (codes "_c") ∷ equality ∷ opening ∷ name (codes "a") ∷ minus ∷ name (codes "b") ∷ closing ∷ []
half_adder = refl

-- a number ends where a letter stands
number_and_name : symbols (codes "12ab3 4") ≡ digits (codes "12") ∷ name (codes "ab3") ∷ digits (codes "4") ∷ []
number_and_name = refl

keyword_as_name : symbols (codes "mod modes") ≡ keyword ∷ name (codes "modes") ∷ []
keyword_as_name = refl

equals_alone : symbols (codes "= =") ≡ half ∷ half ∷ []
equals_alone = refl

three_equals : symbols (codes "===") ≡ equality ∷ half ∷ []
three_equals = refl

stray_bytes : symbols (codes "a." ++ 195 ∷ []) ≡ name (codes "a") ∷ stray ∷ stray ∷ []
stray_bytes = refl

no_symbols : symbols (codes "  ") ≡ []
no_symbols = refl
