-- The symbols of a line: names, and the four signs ( ) , =
use Rattle.std.specs.Prelude.{◌≡◌, ℕ, ◌==◌, Bool, true, false, List, [], ◌∷◌, ◌++◌, codes, filter, if◌then◌else◌, refl}
use Rattle.circuits.specs.Names.{is_name_byte}
use Rattle.texts.specs.White.{is_white}

-- a stray byte belongs to no symbol and is no white space
pub data Symbol : Type 0 where
  name : List ℕ → Symbol
  opening : Symbol
  closing : Symbol
  comma : Symbol
  equals : Symbol
  blank : Symbol
  stray : Symbol

-- the sign that the byte is
abbrev pub sign : ℕ → Symbol
sign b =
    if b == 40
    then opening
    else if b == 41
    then closing
    else if b == 44
    then comma
    else if b == 61
    then equals
    else if is_white b
    then blank
    else stray

-- what the byte is by itself
abbrev pub symbol_of : ℕ → Symbol
symbol_of b = if is_name_byte b then name (b ∷ []) else sign b

-- in front of others; names without anything between them are one
abbrev pub joined : Symbol → List Symbol → List Symbol
joined (name a) (name b ∷ more) = name (a ++ b) ∷ more
joined symbol more = symbol ∷ more

abbrev pub with_blanks : List ℕ → List Symbol
with_blanks [] = []
with_blanks (b ∷ bytes) = joined (symbol_of b) (with_blanks bytes)

abbrev pub is_no_blank : Symbol → Bool
is_no_blank blank = false
is_no_blank symbol = true

-- Each name is as long as it can be, and white space between symbols is left out.
abbrev pub symbols : List ℕ → List Symbol
symbols line = filter is_no_blank (with_blanks line)

gate_line : symbols (codes " c1\t=AND(a ,  b[0])\r")
    ≡ name (codes "c1") ∷ equals ∷ name (codes "AND") ∷ opening ∷ name (codes "a") ∷ comma ∷ name (codes "b[0]") ∷ closing ∷ []
gate_line = refl

names_apart : symbols (codes "a b") ≡ name (codes "a") ∷ name (codes "b") ∷ []
names_apart = refl

stray_byte : symbols (127 ∷ 97 ∷ []) ≡ stray ∷ name (codes "a") ∷ []
stray_byte = refl
