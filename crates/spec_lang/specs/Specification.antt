-- A specification as plain data.
use Rattle.std.specs.Prelude.{ℕ, ℤ, List, [], ◌∷◌, pos, codes}
use Rattle.word_base.specs.declared.decomp.Decomp.{Decomp}
use Rattle.word_base.specs.declared.decomp.Decomp.TheVariants.{P}
use Rattle.spec_lang.specs.Formula.{Formula, number, word, sum, product}

-- a name and the nets by number, the one of weight 1 first
pub record Word : Type 0 where
  pub name : List ℕ
  pub nets : List ℕ

-- two formulas that are said to be equal
pub record Check : Type 0 where
  pub left : Formula
  pub right : Formula

-- the netlist's inputs by number, from the top level down, and the letters of these levels
pub record Specification : Type 0 where
  pub order : List ℕ
  pub letters : List Decomp
  pub words : List Word
  pub checks : List Check

abbrev pub named_word : List ℕ → List ℕ → Word
named_word name nets = record { name = name; nets = nets }

abbrev pub specification : List ℕ → List Decomp → List Word → List Check → Specification
specification order letters words checks = record { order = order; letters = letters; words = words; checks = checks }

-- a word of one net
abbrev pub single : List ℕ → ℕ → Word
single name net = named_word name (net ∷ [])

-- s + 2*c == a + b, where the words a, b, s, c have the numbers 0 to 3
abbrev pub half_adder_check : Check
half_adder_check = record {
  left = sum (word 2) (product (number (pos 2)) (word 3));
  right = sum (word 0) (word 1);
}

-- of the netlist with the inputs a and b, nets 0 and 1, and the gates s and c, nets 2 and 3
abbrev pub half_adder : Specification
half_adder = record {
  order = 0 ∷ 1 ∷ [];
  letters = P ∷ P ∷ [];
  words = single (codes "a") 0 ∷ single (codes "b") 1 ∷ single (codes "s") 2 ∷ single (codes "c") 3 ∷ [];
  checks = half_adder_check ∷ [];
}

-- x + y == 0 over two inputs, without words
abbrev pub sum_is_zero : ℤ → ℤ → Specification
sum_is_zero x y = record {
  order = 0 ∷ 1 ∷ [];
  letters = P ∷ P ∷ [];
  words = [];
  checks = record { left = sum (number x) (number y); right = number (pos 0) } ∷ [];
}
