-- What a cofactor answers: a half of the table that an edge stands for.
use Rattle.std.specs.Prelude.{◌≡◌, ℕ, ◌+◌, ℤ, pos, negsuc, Bool, true, false, List, [], ◌∷◌, ◌++◌, Result, refl}
use Rattle.word_base.specs.declared.decomp.Decomp.TheVariants.{S, P, N}
use Rattle.word_base.specs.declared.kind_name.KindName.{KindName}
use Rattle.tables.specs.Table.{Table, entry, halves, plus, part0, part1, entries}
use Rattle.tables.specs.Pieces.{Piece, pieces}
use Rattle.kind_laws.specs.Plain.{PlainEdge}
use Rattle.diagram.specs.declared.limit.Limit.{Limit}
use Rattle.diagram.specs.Answers.{Answers}
use Rattle.diagram.specs.View.{View, StandsAt}

-- the half where the variable of the top level is the bit; a table of no level has none
abbrev pub half : Bool → Table → Table
half bit (entry x) = entry x
half false (halves lo hi) = lo
half true (halves lo hi) = hi

-- the operand, and the half below the level
abbrev pub cofactor_work : Bool → ℕ → Table → List Piece
cofactor_work bit l t = pieces l (t ∷ []) ++ pieces (l + 1) (half bit t ∷ [])

-- the half of the table that the edge stands for from the level on
abbrev pub IsHalf : KindName → View → View → ℕ → Bool → PlainEdge → Result PlainEdge Limit → Type 0
IsHalf k old new level bit e result = (t : Table) → StandsAt k old level t e →
    Answers k old new (cofactor_work bit level t) (level + 1) (half bit t) result

-- ---- examples
abbrev two : ℤ → ℤ → Table
two x y = halves (entry x) (entry y)

abbrev four : Table
four = halves (two (pos 3) (pos 1)) (two (pos 4) (pos 6))

low-half : entries (half false four) ≡ pos 3 ∷ pos 1 ∷ []
low-half = refl

high-half : entries (half true four) ≡ pos 4 ∷ pos 6 ∷ []
high-half = refl

-- 4 and 6 by their parts: at Shannon 4 and 6, at positive Davio 4 and 2, at negative Davio 6 and -2
shannon-high : half true (two (pos 4) (pos 6)) ≡ part1 S (two (pos 4) (pos 6))
shannon-high = refl

positive-low : half false (two (pos 4) (pos 6)) ≡ part0 P (two (pos 4) (pos 6))
positive-low = refl

positive-high : half true (two (pos 4) (pos 6)) ≡ plus (entry (pos 4)) (entry (pos 2))
positive-high = refl

negative-low : half false (two (pos 4) (pos 6)) ≡ plus (entry (pos 6)) (entry (negsuc 1))
negative-low = refl

negative-high : half true (two (pos 4) (pos 6)) ≡ part0 N (two (pos 4) (pos 6))
negative-high = refl

high-work : cofactor_work true 3 (two (pos 4) (pos 6)) ≡ pieces 3 (two (pos 4) (pos 6) ∷ []) ++ pieces 4 (entry (pos 6) ∷ [])
high-work = refl
