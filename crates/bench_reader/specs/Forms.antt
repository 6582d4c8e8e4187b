-- The forms that a line may have.
use Rattle.std.specs.Prelude.{◌≡◌, ℕ, List, [], ◌∷◌, Option, Some, None, option_map, codes, if◌then◌else◌, refl}
use Rattle.std.specs.Char.{is_ascii_alphabetic}
use Rattle.std.specs.List.{list_all}
use Rattle.std.specs.Str.{str_eq_ignore_ascii_case}
use Rattle.texts.specs.Lines.{uncommented}
use Rattle.bench_reader.specs.Symbols.{Symbol, name, opening, closing, comma, equals, symbols}

-- An input and an output have a name; a gate has the name of its net, its word and the names of its inputs.
pub data Form : Type 0 where
  empty : Form
  input : List ℕ → Form
  output : List ℕ → Form
  gate : List ℕ → List ℕ → List (List ℕ) → Form
  no_form : Form

-- WORD ( NAME )
abbrev pub declaration : List ℕ → List ℕ → Form
declaration word net =
    if str_eq_ignore_ascii_case word (codes "INPUT")
    then input net
    else if str_eq_ignore_ascii_case word (codes "OUTPUT")
    then output net
    else no_form

-- NAME , .. , NAME )
abbrev pub names : List Symbol → Option (List (List ℕ))
names (name a ∷ closing ∷ []) = Some (a ∷ [])
names (name a ∷ comma ∷ more) = option_map (λ others. a ∷ others) (names more)
names _ = None

-- the same, or ) alone
abbrev pub names_or_none : List Symbol → Option (List (List ℕ))
names_or_none (closing ∷ []) = Some []
names_or_none more = names more

-- NAME = WORD ( .., with what stands between the parentheses
abbrev pub definition : List ℕ → List ℕ → Option (List (List ℕ)) → Form
definition net word None = no_form
definition net word (Some inputs) = if list_all is_ascii_alphabetic word then gate net word inputs else no_form

abbrev pub form : List Symbol → Form
form [] = empty
form (name word ∷ opening ∷ name net ∷ closing ∷ []) = declaration word net
form (name net ∷ equals ∷ name word ∷ opening ∷ more) = definition net word (names_or_none more)
form _ = no_form

abbrev pub form_of : List ℕ → Form
form_of line = form (symbols (uncommented line))

gate_line : form_of (codes "y = nand(a, a) # twice\r") ≡ gate (codes "y") (codes "nand") (codes "a" ∷ codes "a" ∷ [])
gate_line = refl

input_line : form_of (codes "\tInput ( a[0] )") ≡ input (codes "a[0]")
input_line = refl

comment_alone : form_of (codes " # nothing") ≡ empty
comment_alone = refl

no_inputs : form_of (codes "y = AND()") ≡ gate (codes "y") (codes "AND") []
no_inputs = refl

cut_off : form_of (codes "z = AND(a") ≡ no_form
cut_off = refl

no_name : form_of (codes "z = AND(a,)") ≡ no_form
no_name = refl

no_letters : form_of (codes "z = AND2(a, b)") ≡ no_form
no_letters = refl

two_lines_in_one : form_of (codes "INPUT(a) INPUT(b)") ≡ no_form
two_lines_in_one = refl
