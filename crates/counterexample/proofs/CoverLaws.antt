-- The pieces of a walk cover those of its first step and those of the walk after it, and a step's those of its calls.
use Rattle.std.proofs.Common.{◌≡◌, refl, sym, subst, ℕ, suc, ◌+◌, List, [], ◌∷◌, ◌++◌, length, drop}
use Rattle.word_base.specs.declared.decomp.Decomp.{Decomp}
use Rattle.word_base.specs.declared.decomp.Decomp.TheVariants.{S, P, N}
use Rattle.word_base.specs.declared.kind_name.KindName.{KindName}
use Rattle.tables.specs.Table.{Table, IsOver, plus, part0, part1}
use Rattle.tables.specs.Pieces.{Piece, pieces, add_work}
use Rattle.tables.proofs.PieceLaws.{Covers, HasLetter, covers_on, covers_left, covers_right, covers_both, covers_low, covers_high}
use Rattle.checks.specs.Work.{tried, walk_step, walk}
use Rattle.counterexample.specs.Steps.{sum_of, choice_work, step_work}

-- ---- a walk
walk_begins : (d : Decomp) (es : List Decomp) (l : ℕ) (t u : Table) →
    walk (d ∷ es) l t u ≡ step_work d l t u ++ walk es (l + 1) (walk_step d t u).left (walk_step d t u).right
walk_begins S es l t u = refl
walk_begins P es l t u = refl
walk_begins N es l t u = refl

pub walk_covers_step : (k : KindName) (ds : List Decomp) (d : Decomp) (es : List Decomp) (l : ℕ) (t u : Table) →
    Covers k ds (walk (d ∷ es) l t u) (step_work d l t u)
walk_covers_step k ds d es l t u =
    subst (λ (ps : List Piece). Covers k ds ps (step_work d l t u)) (sym (walk_begins d es l t u)) (covers_left k ds (step_work d l t u) _)

pub walk_covers_rest : (k : KindName) (ds : List Decomp) (d : Decomp) (es : List Decomp) (l : ℕ) (t u : Table) →
    Covers k ds (walk (d ∷ es) l t u) (walk es (l + 1) (walk_step d t u).left (walk_step d t u).right)
walk_covers_rest k ds d es l t u =
    let rest = walk es (l + 1) (walk_step d t u).left (walk_step d t u).right in
    subst (λ (ps : List Piece). Covers k ds ps rest) (sym (walk_begins d es l t u)) (covers_right k ds (step_work d l t u) rest)

-- ---- a step
pub step_covers_left : (k : KindName) (ds : List Decomp) (d : Decomp) (l : ℕ) (t u : Table) → Covers k ds (step_work d l t u) (choice_work d l t)
step_covers_left k ds S l t u = covers_left k ds (pieces l (t ∷ [])) (pieces l (u ∷ []))
step_covers_left k ds P l t u = covers_left k ds (pieces l (t ∷ [])) (pieces l (u ∷ []))
step_covers_left k ds N l t u =
    let whole = step_work N l t u in
    let sum = pieces (l + 1) (tried N t ∷ []) in
    covers_both k ds whole (pieces l (t ∷ [])) sum
    (covers_left k ds (pieces l (t ∷ [])) (pieces l (u ∷ []) ++ sum ++ pieces (l + 1) (tried N u ∷ [])))
    (covers_on k ds whole (sum ++ pieces (l + 1) (tried N u ∷ [])) sum
    (covers_right k ds (pieces l (t ∷ u ∷ [])) (sum ++ pieces (l + 1) (tried N u ∷ [])))
    (covers_left k ds sum (pieces (l + 1) (tried N u ∷ []))))

pub step_covers_right : (k : KindName) (ds : List Decomp) (d : Decomp) (l : ℕ) (t u : Table) → Covers k ds (step_work d l t u) (choice_work d l u)
step_covers_right k ds S l t u = covers_right k ds (pieces l (t ∷ [])) (pieces l (u ∷ []))
step_covers_right k ds P l t u = covers_right k ds (pieces l (t ∷ [])) (pieces l (u ∷ []))
step_covers_right k ds N l t u =
    let whole = step_work N l t u in
    let sum = pieces (l + 1) (tried N u ∷ []) in
    let rest = pieces l (u ∷ []) ++ pieces (l + 1) (tried N t ∷ []) ++ sum in
    covers_both k ds whole (pieces l (u ∷ [])) sum
    (covers_on k ds whole rest (pieces l (u ∷ [])) (covers_right k ds (pieces l (t ∷ [])) rest)
    (covers_left k ds (pieces l (u ∷ [])) (pieces (l + 1) (tried N t ∷ []) ++ sum)))
    (covers_right k ds (pieces l (t ∷ u ∷ []) ++ pieces (l + 1) (tried N t ∷ [])) sum)

-- ---- one side
pub choice_covers_table : (k : KindName) (ds : List Decomp) (d : Decomp) (l : ℕ) (t : Table) → Covers k ds (choice_work d l t) (pieces l (t ∷ []))
choice_covers_table k ds d l t = covers_left k ds (pieces l (t ∷ [])) (pieces (l + 1) (sum_of d t))

-- the operands of the sum are parts of the table
pub choice_covers_sum : (k : KindName) (ds : List Decomp) (l : ℕ) (t : Table) → HasLetter k ds l N → IsOver (suc (length (drop (l + 1) ds))) t →
    Covers k ds (choice_work N l t) (add_work (l + 1) (part0 N t) (part1 N t))
choice_covers_sum k ds l t at o =
    let whole = choice_work N l t in
    let p = part0 N t in
    let q = part1 N t in
    let table = choice_covers_table k ds N l t in
    covers_both k ds whole (pieces (l + 1) (p ∷ [])) (pieces (l + 1) (q ∷ plus p q ∷ []))
    (covers_on k ds whole _ _ table (covers_low k ds l N t at o))
    (covers_both k ds whole (pieces (l + 1) (q ∷ [])) (pieces (l + 1) (plus p q ∷ []))
    (covers_on k ds whole _ _ table (covers_high k ds l N t at o))
    (covers_right k ds (pieces l (t ∷ [])) (pieces (l + 1) (plus p q ∷ []))))
