-- The expressions, and how each is written.
--     EXPR   = TERM { ("+" | "-") TERM }
--     TERM   = FACTOR { "*" FACTOR }
--     FACTOR = "-" FACTOR | NUMBER | NAME | "(" EXPR ")"
-- Repeated operators associate to the left.
use Rattle.std.specs.Prelude.{◌≡◌, Bool, true, false, ◌&&◌, List, [], ◌∷◌, ◌++◌, Some, ◌↔◌, codes, refl}
use Rattle.spec_grammar.specs.Parsing.{parsed}
use Rattle.spec_grammar.specs.Symbols.{Symbol, digits, name, plus, minus, times, opening, closing, symbols}
use Rattle.spec_grammar.specs.Trees.{Tree, numeral, named, negated, enclosed, added, subtracted, multiplied}

-- how a tree is written
abbrev pub written : Tree → List Symbol
written (numeral ds) = digits ds ∷ []
written (named a) = name a ∷ []
written (negated a) = minus ∷ written a
written (enclosed a) = opening ∷ (written a ++ closing ∷ [])
written (added a b) = written a ++ plus ∷ written b
written (subtracted a b) = written a ++ minus ∷ written b
written (multiplied a b) = written a ++ times ∷ written b

-- where a tree may stand
pub data Rank : Type 0 where
  factor : Rank
  term : Rank
  expression : Rank

abbrev pub is_no_factor : Rank → Bool
is_no_factor factor = false
is_no_factor rank = true

abbrev pub is_expression : Rank → Bool
is_expression expression = true
is_expression rank = false

-- Whether a tree is a FACTOR, a TERM or an EXPR. A factor is a term, and a term is an expression.
abbrev pub stands_as : Rank → Tree → Bool
stands_as rank (numeral ds) = true
stands_as rank (named a) = true
stands_as rank (negated a) = stands_as factor a
stands_as rank (enclosed a) = stands_as expression a
stands_as rank (added a b) = is_expression rank && stands_as expression a && stands_as term b
stands_as rank (subtracted a b) = is_expression rank && stands_as expression a && stands_as term b
stands_as rank (multiplied a b) = is_no_factor rank && stands_as term a && stands_as factor b

-- the tree is an expression, and is written by these symbols
pub record Writes (tree : Tree) (line : List Symbol) : Type 0 where
  pub is_expression : stands_as expression tree ≡ true
  pub symbols : written tree ≡ line

-- Symbols write at most one expression, and it is the one that they are parsed as.
abbrev pub IsExactGrammar : Type 0
IsExactGrammar = (line : List Symbol) (tree : Tree) → (parsed line ≡ Some tree) ↔ Writes tree line

abbrev a : Tree
a = named (codes "a")

abbrev b : Tree
b = named (codes "b")

product_of_sum : Writes (multiplied a (enclosed (subtracted a b))) (symbols (codes "a*(a - b)"))
product_of_sum = record { is_expression = refl; symbols = refl }

-- without parentheses it is no expression
sum_as_factor : stands_as expression (multiplied a (subtracted a b)) ≡ false
sum_as_factor = refl

-- nor is a difference on the right of another
difference_of_difference : stands_as expression (subtracted a (subtracted a b)) ≡ false
difference_of_difference = refl

minus_of_product : stands_as expression (negated (multiplied a b)) ≡ false
minus_of_product = refl

product_of_minus : Writes (multiplied a (negated (negated b))) (symbols (codes "a*--b"))
product_of_minus = record { is_expression = refl; symbols = refl }
