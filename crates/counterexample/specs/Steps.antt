-- A step of the walk to the first difference: what it chooses from, and where it goes.
use Rattle.std.specs.Prelude.{◌≡◌, ℕ, ◌+◌, ℤ, pos, Bool, List, [], ◌∷◌, ◌++◌, Result, IfOk, refl}
use Rattle.word_base.specs.declared.decomp.Decomp.{Decomp}
use Rattle.word_base.specs.declared.decomp.Decomp.TheVariants.{S, P, N}
use Rattle.word_base.specs.declared.kind_name.KindName.{KindName}
use Rattle.tables.specs.Table.{Table, entry, halves}
use Rattle.tables.specs.Pieces.{Piece, pieces}
use Rattle.checks.specs.Work.{tried, other, sums_at, walk_step}
use Rattle.kind_laws.specs.Plain.{PlainEdge, plain}
use Rattle.diagram.specs.Answers.{Causes}
use Rattle.diagram.specs.View.{View, letter_at, StandsAt}
use Rattle.diagram.specs.declared.limit.Limit.{Limit}
use Rattle.counterexample.specs.declared.walk.Choice.{Choice}
use Rattle.counterexample.specs.declared.walk.Turn.{Turn}

-- ---- one side
pub record PlainChoice : Type 0 where
  pub tried : PlainEdge
  pub other : PlainEdge

abbrev pub plain_choice : {K X E : Type 0} → (X → ℤ) → Choice K X E → PlainChoice
plain_choice of c = record { tried = plain of c.tried; other = plain of c.other }

-- the edges of a choice stand for the tables that a step chooses from
pub record Offers (k : KindName) (v : View) (d : Decomp) (level : ℕ) (t : Table) (c : PlainChoice) : Type 0 where
  pub tried_stands : StandsAt k v (level + 1) (tried d t) c.tried
  pub other_stands : StandsAt k v (level + 1) (other d t) c.other

-- the sum that one side makes
abbrev pub sum_of : Decomp → Table → List Table
sum_of S t = []
sum_of P t = []
sum_of N t = tried N t ∷ []

abbrev pub choice_work : Decomp → ℕ → Table → List Piece
choice_work d l t = pieces l (t ∷ []) ++ pieces (l + 1) (sum_of d t)

pub record Chooses (k : KindName) (old new : View) (d : Decomp) (level : ℕ) (t : Table) (result : Result PlainChoice Limit) : Type 0 where
  pub causes : Causes k old new (choice_work d level t) result
  pub offers : IfOk result (λ c. Offers k new d level t c)

abbrev pub IsChoice : KindName → View → View → ℕ → PlainEdge → Result PlainChoice Limit → Type 0
IsChoice k old new level e result =
    (t : Table) → StandsAt k old level t e → Chooses k old new (letter_at old.letters level) level t result

-- ---- both sides
pub record PlainTurn : Type 0 where
  pub bit : Bool
  pub left : PlainEdge
  pub right : PlainEdge

abbrev pub plain_turn : {K X E : Type 0} → (X → ℤ) → Turn K X E → PlainTurn
plain_turn of t = record { bit = t.bit; left = plain of t.left; right = plain of t.right }

-- the turn is the walk's step over two tables
pub record GoesTo (k : KindName) (v : View) (d : Decomp) (level : ℕ) (t u : Table) (turn : PlainTurn) : Type 0 where
  pub bit : turn.bit ≡ (walk_step d t u).bit
  pub left_stands : StandsAt k v (level + 1) (walk_step d t u).left turn.left
  pub right_stands : StandsAt k v (level + 1) (walk_step d t u).right turn.right

-- the two tables, and the sums of their parts that the step makes
abbrev pub step_work : Decomp → ℕ → Table → Table → List Piece
step_work d l t u = pieces l (t ∷ u ∷ []) ++ pieces (l + 1) (sums_at d t u)

pub record Turns (k : KindName) (old new : View) (d : Decomp) (level : ℕ) (t u : Table) (result : Result PlainTurn Limit) : Type 0 where
  pub causes : Causes k old new (step_work d level t u) result
  pub goes : IfOk result (λ turn. GoesTo k new d level t u turn)

abbrev pub IsTurn : KindName → View → View → ℕ → PlainEdge → PlainEdge → Result PlainTurn Limit → Type 0
IsTurn k old new level left right result =
    (t u : Table) → StandsAt k old level t left → StandsAt k old level u right →
    Turns k old new (letter_at old.letters level) level t u result

-- ---- examples
abbrev two : ℤ → ℤ → Table
two x y = halves (entry x) (entry y)

-- 4 and 6 at negative Davio: the sum of the parts 6 and -2 is 4
choice-negative : choice_work N 3 (two (pos 4) (pos 6)) ≡ pieces 3 (two (pos 4) (pos 6) ∷ []) ++ pieces 4 (entry (pos 4) ∷ [])
choice-negative = refl

choice-positive : choice_work P 3 (two (pos 4) (pos 6)) ≡ pieces 3 (two (pos 4) (pos 6) ∷ [])
choice-positive = refl

-- 4 and 6, and 4 and 5: the low halves are the same, so it goes to the high ones
step-negative : step_work N 3 (two (pos 4) (pos 6)) (two (pos 4) (pos 5))
    ≡ pieces 3 (two (pos 4) (pos 6) ∷ two (pos 4) (pos 5) ∷ []) ++ pieces 4 (entry (pos 4) ∷ entry (pos 4) ∷ [])
step-negative = refl

goes-negative : (walk_step N (two (pos 4) (pos 6)) (two (pos 4) (pos 5))).left ≡ entry (pos 6)
goes-negative = refl
