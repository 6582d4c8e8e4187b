-- What the calls on gates, words and expressions ask and answer.
use Rattle.std.specs.Prelude.{◌≡◌, ℕ, ◌≤◌, ◌^◌, ℤ, pos, negsuc, ◌+ℤ◌, ◌-ℤ◌, ◌*ℤ◌, List, [], ◌∷◌, ◌++◌, length, map, drop, slice_index_or, Result, refl}
use Rattle.std.specs.List.{AllByRecursion}
use Rattle.diagram.specs.Answers.{Answers}
use Rattle.diagram.specs.View.{View, StandsAt, IsEdge}
use Rattle.diagram.specs.declared.limit.Limit.{Limit}
use Rattle.checks.specs.FormulaWork.{formula_work}
use Rattle.checks.specs.Work.{or_work, xor_work, step_work, fold_work, gate_work, multiples, sums_from}
use Rattle.circuits.specs.declared.gate_word.GateWord.{GateWord}
use Rattle.kind_laws.specs.Plain.{PlainEdge, plain}
use Rattle.kind_laws.specs.declared.kind.Edge.{Edge}
use Rattle.spec_lang.specs.Formula.{Formula, number, word, negative, sum, difference, product}
use Rattle.tables.specs.Pieces.{Piece, pieces, add_work, sub_work, mul_work}
use Rattle.tables.specs.Table.{Table, entry, halves, plus, minus, times, opposite, constant_table}
use Rattle.word_base.specs.declared.decomp.Decomp.{Decomp}
use Rattle.word_base.specs.declared.kind_name.KindName.{KindName}

abbrev pub plain_edges : {K X E : Type 0} → (X → ℤ) → List (Edge K X E) → List PlainEdge
plain_edges of = map (plain of)

abbrev pub AreEdges : KindName → View → List PlainEdge → Type 0
AreEdges k v = AllByRecursion (IsEdge k v)

-- the edges stand for the tables, one for one
abbrev pub AllStand : KindName → View → ℕ → List Table → List PlainEdge → Type 0
AllStand k v l [] [] = Unit {0}
AllStand k v l [] (e ∷ es) = ⊥
AllStand k v l (t ∷ ts) [] = ⊥
AllStand k v l (t ∷ ts) (e ∷ es) = StandsAt k v l t e × AllStand k v l ts es

-- A call on edges, at each level from which these stand for tables: its work and its answer are by the level and the tables
abbrev pub IsOfAll : (ℕ → List Table → Table) → (ℕ → List Table → List Piece) → KindName → View → View → List PlainEdge → Result PlainEdge Limit → Type 0
IsOfAll op work k old new edges result = (l : ℕ) (ts : List Table) → l ≤ length old.letters → AllStand k old l ts edges →
    Answers k old new (work l ts) l (op l ts) result

-- the same of a call that begins with an edge of its own
abbrev pub IsOfRest : (Table → List Table → Table) → (ℕ → Table → List Table → List Piece) → KindName → View → View → PlainEdge → List PlainEdge →
    Result PlainEdge Limit → Type 0
IsOfRest op work k old new first rest result = (l : ℕ) (t : Table) (ts : List Table) → StandsAt k old l t first → AllStand k old l ts rest →
    Answers k old new (work l t ts) l (op t ts) result

-- ---- the work of gates, by all letters
abbrev pub or_work_at : List Decomp → ℕ → Table → Table → List Piece
or_work_at ds l = or_work (drop l ds) l

abbrev pub xor_work_at : List Decomp → ℕ → Table → Table → List Piece
xor_work_at ds l = xor_work (drop l ds) l

abbrev pub step_work_at : GateWord → List Decomp → ℕ → Table → Table → List Piece
step_work_at gate ds l = step_work gate (drop l ds) l

abbrev pub fold_work_at : GateWord → List Decomp → ℕ → Table → List Table → List Piece
fold_work_at gate ds l = fold_work gate (drop l ds) l

abbrev pub gate_work_at : GateWord → List Decomp → ℕ → List Table → List Piece
gate_work_at gate ds l = gate_work gate (drop l ds) l

-- ---- words
-- the sum so far, the tables that are left, their multiples, and each sum with these
abbrev pub sum_work : ℕ → ℕ → Table → List Table → List Piece
sum_work power l t ts =
    pieces l (t ∷ []) ++ pieces l ts ++ pieces l (multiples power ts) ++ pieces l (sums_from t (multiples power ts))

-- one more multiple, of 3 by 4, onto 1
sum_of_one : sum_work 4 0 (entry (pos 1)) (entry (pos 3) ∷ []) ≡ pieces 0 (entry (pos 1) ∷ entry (pos 3) ∷ entry (pos 12) ∷ entry (pos 13) ∷ [])
sum_of_one = refl

-- ---- expressions
-- the table of a formula over so many levels, from those of the words by their numbers
abbrev pub formula_table : ℕ → List Table → Formula → Table
formula_table n ts (number z) = constant_table n z
formula_table n ts (word w) = slice_index_or ts w (entry (pos 0))
formula_table n ts (negative a) = opposite (formula_table n ts a)
formula_table n ts (sum a b) = plus (formula_table n ts a) (formula_table n ts b)
formula_table n ts (difference a b) = minus (formula_table n ts a) (formula_table n ts b)
formula_table n ts (product a b) = times (formula_table n ts a) (formula_table n ts b)

-- over the levels from one on
abbrev pub formula_at : Formula → List Decomp → ℕ → List Table → Table
formula_at f ds l ts = formula_table (length (drop l ds)) ts f

abbrev pub formula_work_at : Formula → List Decomp → ℕ → List Table → List Piece
formula_work_at f ds l ts = formula_work (drop l ds) l (formula_table (length (drop l ds)) ts) f

-- the operation of a formula of two operands; the first operand for the others
abbrev pub operation_of : Formula → ℤ → ℤ → ℤ
operation_of (number z) x y = x
operation_of (word w) x y = x
operation_of (negative a) x y = x
operation_of (sum a b) x y = x +ℤ y
operation_of (difference a b) x y = x -ℤ y
operation_of (product a b) x y = x *ℤ y

-- the work of the operation of a formula of two operands; nothing for the others
abbrev pub operation_work : Formula → List Decomp → ℕ → Table → Table → List Piece
operation_work (number z) ds l t u = []
operation_work (word w) ds l t u = []
operation_work (negative a) ds l t u = []
operation_work (sum a b) ds l t u = add_work l t u
operation_work (difference a b) ds l t u = sub_work l t u
operation_work (product a b) ds l t u = mul_work (drop l ds) l t u

-- w0 - 2*w0, of a word that is the variable of one level
difference_of_one : formula_table 1 (halves (entry (pos 0)) (entry (pos 3)) ∷ []) (difference (word 0) (product (number (pos 2)) (word 0)))
    ≡ halves (entry (pos 0)) (entry (negsuc 2))
difference_of_one = refl
