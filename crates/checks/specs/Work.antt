-- The tables that gates, words and the walk go through.
use Rattle.std.specs.Prelude.{◌≡◌, ℕ, ◌+◌, ◌*◌, ℤ, pos, Bool, true, List, [], ◌∷◌, ◌++◌, map, flat_map, fold, if◌then◌else◌, refl}
use Rattle.std.specs.List.{enumerate_from}
use Rattle.circuits.specs.Polynomial.{step, is_negated}
use Rattle.circuits.specs.declared.gate_word.GateWord.{GateWord}
use Rattle.circuits.specs.declared.gate_word.GateWord.TheVariants.{And, Nand, Or, Nor, Xor, Xnor, Not, Buff}
use Rattle.tables.specs.Table.{Table, entry, halves, zip_with, plus, minus, times, opposite, multiple, part0, part1, same_table}
use Rattle.tables.specs.Pieces.{Piece, pieces, like, mul_work}
use Rattle.word_base.specs.declared.decomp.Decomp.{Decomp}
use Rattle.word_base.specs.declared.decomp.Decomp.TheVariants.{S, P, N}

-- ---- gates
abbrev pub not_work : ℕ → Table → List Piece
not_work l a = let one = like a (pos 1) in pieces l (a ∷ opposite a ∷ minus one a ∷ one ∷ [])

abbrev pub or_work : List Decomp → ℕ → Table → Table → List Piece
or_work ds l a b =
    mul_work ds l a b ++ pieces l (plus a b ∷ opposite (times a b) ∷ minus (plus a b) (times a b) ∷ [])

abbrev pub xor_work : List Decomp → ℕ → Table → Table → List Piece
xor_work ds l a b =
    let twice = multiple (pos 2) (times a b) in
    mul_work ds l a b ++ pieces l (twice ∷ plus a b ∷ opposite twice ∷ minus (plus a b) twice ∷ [])

-- one step of a gate's fold
abbrev pub step_work : GateWord → List Decomp → ℕ → Table → Table → List Piece
step_work And ds l a b = mul_work ds l a b
step_work Nand ds l a b = mul_work ds l a b
step_work Or ds l a b = or_work ds l a b
step_work Nor ds l a b = or_work ds l a b
step_work Xor ds l a b = xor_work ds l a b
step_work Xnor ds l a b = xor_work ds l a b
step_work Not ds l a b = []
step_work Buff ds l a b = []

abbrev pub step_table : GateWord → Table → Table → Table
step_table word = zip_with (step word)

-- the fold from the left, beginning with the first table
abbrev pub fold_table : GateWord → Table → List Table → Table
fold_table word a [] = a
fold_table word a (b ∷ bs) = fold_table word (step_table word a b) bs

abbrev pub fold_work : GateWord → List Decomp → ℕ → Table → List Table → List Piece
fold_work word ds l a [] = []
fold_work word ds l a (b ∷ bs) = step_work word ds l a b ++ fold_work word ds l (step_table word a b) bs

-- the table of a gate, from those of its inputs, of which there is one at least
abbrev pub gate_table : GateWord → List Table → Table
gate_table word [] = entry (pos 0)
gate_table word (a ∷ bs) =
    let folded = fold_table word a bs in if is_negated word then minus (like folded (pos 1)) folded else folded

-- each step of the fold, and the negation of a negated gate
abbrev pub gate_work : GateWord → List Decomp → ℕ → List Table → List Piece
gate_work word ds l [] = []
gate_work word ds l (a ∷ bs) =
    fold_work word ds l a bs ++ (if is_negated word then not_work l (fold_table word a bs) else [])

-- ---- words
-- 2^i times the i-th table, where the first has this multiple
abbrev pub multiples : ℕ → List Table → List Table
multiples k [] = []
multiples k (t ∷ ts) = multiple (pos k) t ∷ multiples (2 * k) ts

abbrev pub sums_from : Table → List Table → List Table
sums_from sum [] = []
sums_from sum (t ∷ ts) = plus sum t ∷ sums_from (plus sum t) ts

abbrev pub partial_sums : List Table → List Table
partial_sums [] = []
partial_sums (t ∷ ts) = t ∷ sums_from t ts

-- the sum of tables, of which there is one at least
abbrev pub sum_table : List Table → Table
sum_table [] = entry (pos 0)
sum_table (t ∷ ts) = fold plus t ts

-- the table of a word, from those of its nets: the sum of 2^i times the i-th
abbrev pub word_table : List Table → Table
word_table bits = sum_table (multiples 1 bits)

-- the bits, each multiple by its power of two, and each sum of the lowest multiples
abbrev pub word_work : ℕ → List Table → List Piece
word_work l bits = pieces l (bits ++ multiples 1 bits ++ partial_sums (multiples 1 bits))

-- ---- the walk to the first difference
-- The tables by which a step of the walk chooses, and those to which it goes where these are the same: at Shannon and
-- positive Davio the low and the high parts, at negative Davio the sums of both parts and the low ones
abbrev pub tried : Decomp → Table → Table
tried S t = part0 S t
tried P t = part0 P t
tried N t = plus (part0 N t) (part1 N t)

abbrev pub other : Decomp → Table → Table
other S t = part1 S t
other P t = part1 P t
other N t = part0 N t

-- the sums of parts that a step makes
abbrev pub sums_at : Decomp → Table → Table → List Table
sums_at S a b = []
sums_at P a b = []
sums_at N a b = tried N a ∷ tried N b ∷ []

-- a step: the bit by which it goes, the sums that it makes, and the two tables below to which it goes
pub record WalkStep : Type 0 where
  pub bit : Bool
  pub sums : List Table
  pub left : Table
  pub right : Table

-- to the tables that are tried where these differ, by the bit 0, and else to the others, by the bit 1
abbrev pub walk_step : Decomp → Table → Table → WalkStep
walk_step d a b =
    let bit = same_table (tried d a) (tried d b) in
    record {
      bit = bit;
      sums = sums_at d a b;
      left = if bit then other d a else tried d a;
      right = if bit then other d b else tried d b;
    }

abbrev pub walk_steps : List Decomp → Table → Table → List WalkStep
walk_steps [] a b = []
walk_steps (d ∷ ds) a b = let first = walk_step d a b in first ∷ walk_steps ds first.left first.right

-- the bits by which the walk goes, for the law that these are those of the first difference
abbrev pub walk_bits : List Decomp → Table → Table → List Bool
walk_bits ds a b = map (λ s. s.bit) (walk_steps ds a b)

-- the two tables with which it begins, and those of each step
abbrev pub walk : List Decomp → ℕ → Table → Table → List Piece
walk ds l a b =
    pieces l (a ∷ b ∷ [])
    ++ flat_map (λ (level, s). pieces level (s.sums ++ s.left ∷ s.right ∷ [])) (enumerate_from (l + 1) (walk_steps ds a b))

abbrev with_last : ℤ → Table
with_last z = halves (halves (entry (pos 3)) (entry (pos 1))) (halves (entry (pos 4)) (entry z))

walk_to_last : walk_bits (P ∷ N ∷ []) (with_last (pos 6)) (with_last (pos 5)) ≡ true ∷ true ∷ []
walk_to_last = refl

-- At positive Davio the low halves are the same, so it goes to the differences of the high and the low halves. At negative
-- Davio the sums of the parts are the first entries, which are the same too, so it goes to the last entries
walk_to_last-tables : walk (P ∷ N ∷ []) 3 (with_last (pos 6)) (with_last (pos 5))
    ≡ pieces 3 (with_last (pos 6) ∷ with_last (pos 5) ∷ [])
    ++ pieces 4 (halves (entry (pos 1)) (entry (pos 5)) ∷ halves (entry (pos 1)) (entry (pos 4)) ∷ [])
    ++ pieces 5 (entry (pos 1) ∷ entry (pos 1) ∷ entry (pos 5) ∷ entry (pos 4) ∷ [])
walk_to_last-tables = refl

-- the low halves differ at Shannon, and the sums of the parts at negative Davio
walk_to_first : walk (S ∷ N ∷ []) 0 (with_last (pos 6)) (halves (halves (entry (pos 2)) (entry (pos 1))) (entry (pos 0)))
    ≡ pieces 0 (with_last (pos 6) ∷ halves (halves (entry (pos 2)) (entry (pos 1))) (entry (pos 0)) ∷ [])
    ++ pieces 1 (halves (entry (pos 3)) (entry (pos 1)) ∷ halves (entry (pos 2)) (entry (pos 1)) ∷ [])
    ++ pieces 2 (entry (pos 3) ∷ entry (pos 2) ∷ entry (pos 3) ∷ entry (pos 2) ∷ [])
walk_to_first = refl

-- the three bits 0, 1 and 1 make 6
word_of_three : word_table (entry (pos 0) ∷ entry (pos 1) ∷ entry (pos 1) ∷ []) ≡ entry (pos 6)
word_of_three = refl
