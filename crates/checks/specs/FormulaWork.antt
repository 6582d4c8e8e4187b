-- The tables that the building of a formula goes through.
use Rattle.std.specs.Prelude.{ℕ, List, [], ◌∷◌, ◌++◌}
use Rattle.spec_lang.specs.Formula.{Formula, number, word, negative, sum, difference, product}
use Rattle.tables.specs.Table.{Table}
use Rattle.word_base.specs.declared.decomp.Decomp.{Decomp}
use Rattle.tables.specs.Pieces.{Piece, pieces, neg_work, add_work, sub_work, mul_work}

-- the operation of each sub-formula, whose tables are given; the list of a word is its own (`word_work`)
abbrev pub formula_work : List Decomp → ℕ → (Formula → Table) → Formula → List Piece
formula_work ds l of (number z) = pieces l (of (number z) ∷ [])
formula_work ds l of (word w) = []
formula_work ds l of (negative a) = formula_work ds l of a ++ neg_work l (of a)
formula_work ds l of (sum a b) = formula_work ds l of a ++ formula_work ds l of b ++ add_work l (of a) (of b)
formula_work ds l of (difference a b) = formula_work ds l of a ++ formula_work ds l of b ++ sub_work l (of a) (of b)
formula_work ds l of (product a b) = formula_work ds l of a ++ formula_work ds l of b ++ mul_work ds l (of a) (of b)
