-- The forms that a line may have.
use Rattle.std.specs.Prelude.{◌≡◌, ℕ, ◌==◌, Bool, true, false, List, [], ◌∷◌, ◌++◌, ◌&&◌, Option, Some, None, codes, if◌then◌else◌, refl}
use Rattle.std.specs.List.{list_all, before_first, after_first}
use Rattle.std.specs.Str.{bytes_eq}
use Rattle.circuits.specs.Names.{is_name_byte}
use Rattle.spec_grammar.specs.Fields.{fields, keyword, behind_keyword}
use Rattle.spec_grammar.specs.Names.{is_word_name, letter}
use Rattle.spec_grammar.specs.Parsing.{parsed}
use Rattle.spec_grammar.specs.Symbols as s
use Rattle.spec_grammar.specs.Trees.{Tree, numeral, named, added}
use Rattle.texts.specs.Lines.{uncommented}
use Rattle.word_base.specs.declared.decomp.Decomp.{Decomp}
use Rattle.word_base.specs.declared.decomp.Decomp.TheVariants.{N}

-- Names are as they are written. A check has its symbols, and its two sides.
pub data Form : Type 0 where
  empty_line : Form
  order_line : List (List ℕ) → Form
  split_line : Decomp → List (List ℕ) → Form
  word_line : List ℕ → List (List ℕ) → Form
  check_line : List s.Symbol → Tree → Tree → Form
  no_form : Form

-- each may be the name of a net
abbrev pub are_nets : List (List ℕ) → Bool
are_nets names = list_all (λ name. list_all is_name_byte name) names

-- NET .. NET
abbrev pub order_form : List (List ℕ) → Form
order_form [] = no_form
order_form (net ∷ more) = if are_nets (net ∷ more) then order_line (net ∷ more) else no_form

-- with the letter that the first field names
abbrev pub split_with : Option Decomp → List (List ℕ) → Form
split_with None nets = no_form
split_with (Some l) nets = if are_nets nets then split_line l nets else no_form

-- LETTER NET .. NET
abbrev pub split_form : List (List ℕ) → Form
split_form (text ∷ net ∷ more) = split_with (letter text) (net ∷ more)
split_form _ = no_form

-- NAME = NET .. NET, by the fields on both sides of the first =
abbrev pub word_form : List (List ℕ) → List (List ℕ) → Form
word_form (name ∷ []) (net ∷ more) = if is_word_name name && are_nets (net ∷ more) then word_line name (net ∷ more) else no_form
word_form _ _ = no_form

abbrev pub is_equals_sign : ℕ → Bool
is_equals_sign b = b == 61

abbrev pub is_equality : s.Symbol → Bool
is_equality s.equality = true
is_equality _ = false

abbrev pub check_of : List s.Symbol → Option Tree → Option Tree → Form
check_of line (Some left) (Some right) = check_line line left right
check_of line _ _ = no_form

-- EXPR == EXPR
abbrev pub check_form : List s.Symbol → Form
check_form line = check_of line (parsed (before_first is_equality line)) (parsed (after_first is_equality line))

-- the form of a line that begins with this keyword, by what stands behind it
abbrev pub form_behind : List ℕ → List ℕ → Form
form_behind [] rest = empty_line
form_behind (b ∷ more) rest =
    if bytes_eq (b ∷ more) (codes "order")
    then order_form (fields rest)
    else if bytes_eq (b ∷ more) (codes "split")
    then split_form (fields rest)
    else if bytes_eq (b ∷ more) (codes "word")
    then word_form (fields (before_first is_equals_sign rest)) (fields (after_first is_equals_sign rest))
    else if bytes_eq (b ∷ more) (codes "check")
    then check_form (s.symbols rest)
    else no_form

-- the form of what stands in front of a comment
abbrev pub form : List ℕ → Form
form text = form_behind (keyword text) (behind_keyword text)

abbrev pub form_of : List ℕ → Form
form_of line = form (uncommented line)

form-of_order_line : form_of (codes "\torder b[0]  a # from the top\r") ≡ order_line (codes "b[0]" ∷ codes "a" ∷ [])
form-of_order_line = refl

form-of_split_line : form_of (codes "split N a") ≡ split_line N (codes "a" ∷ [])
form-of_split_line = refl

form-of_word_line : form_of (codes "word w=a1\ta0 ") ≡ word_line (codes "w") (codes "a1" ∷ codes "a0" ∷ [])
form-of_word_line = refl

form-of_check_line : form_of (codes "check a+1 == 2") ≡ check_line (s.symbols (codes "a+1==2")) (added (named (codes "a")) (numeral (codes "1"))) (numeral (codes "2"))
form-of_check_line = refl

comment_alone : form_of (codes " # nothing") ≡ empty_line
comment_alone = refl

capital_keyword : form_of (codes "Word a = a") ≡ no_form
capital_keyword = refl

no_white : form_of (codes "check(a) == a") ≡ no_form
no_white = refl

order_of_no_net : form_of (codes "order ") ≡ no_form
order_of_no_net = refl

order_with_comma : form_of (codes "order a, b") ≡ no_form
order_with_comma = refl

split_of_no_net : form_of (codes "split P") ≡ no_form
split_of_no_net = refl

small_letter : form_of (codes "split p a") ≡ no_form
small_letter = refl

word_of_no_net : form_of (codes "word a =") ≡ no_form
word_of_no_net = refl

word_of_two_names : form_of (codes "word a b = c") ≡ no_form
word_of_two_names = refl

keyword_as_word : form_of (codes "word mod = c") ≡ no_form
keyword_as_word = refl

two_equals_signs : form_of (codes "word a = b = c") ≡ no_form
two_equals_signs = refl

three_sides : form_of (codes "check a == b == a") ≡ no_form
three_sides = refl

one_side : form_of (codes "check a") ≡ no_form
one_side = refl

single_equals : form_of (codes "check a = b") ≡ no_form
single_equals = refl

keyword_in_check : form_of (codes "check mod == 1") ≡ no_form
keyword_in_check = refl

above_127 : form_of (codes "order a" ++ 195 ∷ []) ≡ no_form
above_127 = refl

above_127_alone : form_of (255 ∷ []) ≡ no_form
above_127_alone = refl

above_127_in_comment : form_of (codes "order a # " ++ 195 ∷ []) ≡ order_line (codes "a" ∷ [])
above_127_in_comment = refl
