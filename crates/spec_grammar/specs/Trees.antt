-- An expression as it is written, with its parentheses, before its names are looked up.
use Rattle.std.specs.Prelude.{◌≡◌, ℕ, ◌+◌, pos, List, [], ◌∷◌, max, codes, refl}
use Rattle.std.specs.List.{position_or_len}
use Rattle.std.specs.Str.{bytes_eq}
use Rattle.std.specs.Str.Parse.{digits_value}
use Rattle.spec_lang.specs.Formula.{Formula, number, word, negative, sum, difference, product}
use Rattle.spec_lang.specs.Specification.{Word, single}

-- a number has its digits, and a name its bytes
pub data Tree : Type 0 where
  numeral : List ℕ → Tree
  named : List ℕ → Tree
  negated : Tree → Tree
  enclosed : Tree → Tree
  added : Tree → Tree → Tree
  subtracted : Tree → Tree → Tree
  multiplied : Tree → Tree → Tree

-- how many parentheses and unary minuses enclose the place that most of them enclose
abbrev pub nesting : Tree → ℕ
nesting (numeral ds) = 0
nesting (named a) = 0
nesting (negated a) = nesting a + 1
nesting (enclosed a) = nesting a + 1
nesting (added a b) = max (nesting a) (nesting b)
nesting (subtracted a b) = max (nesting a) (nesting b)
nesting (multiplied a b) = max (nesting a) (nesting b)

-- the number of the word of a name, where there is one
abbrev pub word_number : List Word → List ℕ → ℕ
word_number words name = position_or_len (λ w. bytes_eq name w.name) words

-- the formula that a tree is over these words
abbrev pub formula : List Word → Tree → Formula
formula words (numeral ds) = number (pos (digits_value 10 ds))
formula words (named a) = word (word_number words a)
formula words (negated a) = negative (formula words a)
formula words (enclosed a) = formula words a
formula words (added a b) = sum (formula words a) (formula words b)
formula words (subtracted a b) = difference (formula words a) (formula words b)
formula words (multiplied a b) = product (formula words a) (formula words b)

-- -(a - -(b)) * 07
abbrev nested : Tree
nested = multiplied (negated (enclosed (subtracted (named (codes "a")) (negated (enclosed (named (codes "b"))))))) (numeral (codes "07"))

nesting-of_nested : nesting nested ≡ 4
nesting-of_nested = refl

formula-of_nested : formula (single (codes "b") 3 ∷ single (codes "a") 2 ∷ []) nested
    ≡ product (negative (difference (word 1) (negative (word 0)))) (number (pos 7))
formula-of_nested = refl
