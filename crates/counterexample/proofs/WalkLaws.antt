-- How far a walk has come, and what it has found at its end.
use Rattle.std.proofs.Common.{◌≡◌, refl, sym, ◌∙◌, ap, subst, ℕ, ◌+◌, ◌-◌, ◌<◌, ◌≤◌, Bool, List, [], ◌∷◌, ◌++◌, length, take, drop, set, arith, append_assoc}
use Rattle.std.specs.Prelude.{Option, Some, None, Result, Ok, Err}
use Rattle.std.proofs.lemmas.Grind.{take-set_at}
use Rattle.std.proofs.lemmas.List.{append-nil, length-set}
use Rattle.std.proofs.Math.Seq.{drop-length, take-length}
use Rattle.word_base.specs.declared.decomp.Decomp.{Decomp}
use Rattle.word_base.specs.declared.kind_name.KindName.{KindName}
use Rattle.tables.specs.Table.{Table, IsOver}
use Rattle.tables.specs.Pieces.{Piece}
use Rattle.tables.proofs.PieceLaws.{Covers, covers_on, covers_itself}
use Rattle.checks.specs.Answer.{Difference, first_difference}
use Rattle.checks.specs.Work.{walk_step, walk_bits, walk}
use Rattle.checks.proofs.FirstDifference.{first_difference_found, walk_finds_first}
use Rattle.kind_laws.specs.Plain.{PlainEdge}
use Rattle.diagram.specs.Answers.{Causes}
use Rattle.diagram.specs.Calls.{CanPart}
use Rattle.diagram.specs.View.{View, letter_at, StandsAt, Keeps}
use Rattle.diagram.specs.declared.limit.Limit.{Limit}
use Rattle.diagram.proofs.CallLaws.{Ran, ran_nothing, ran_causes, ran_on, causes_then}
use Rattle.diagram.proofs.LevelLaws.{letters_at, good_at, from_level, stands_somewhere, top_within}
use Rattle.diagram.proofs.StoreLaws.{keeps_itself, keeps_on}
use Rattle.counterexample.specs.Steps.{PlainTurn, step_work, Turns, IsTurn}
use Rattle.counterexample.specs.Walk.{LiesFrom, Differ, IsFirstAt}
use Rattle.counterexample.proofs.CoverLaws.{walk_covers_step, walk_covers_rest}
use Rattle.counterexample.proofs.StepLaws.{err_same}

-- The bits of the levels from top down to a level are those of the walk over two tables, which goes on from there over
-- the tables of two edges, and the walk's pieces cover those of what is left of it
pub record HasCome (k : KindName) (v w : View) (top level : ℕ) (t u : Table) (left right : PlainEdge) (bits : List Bool) : Type 0 where
  pub left_table : Table
  pub right_table : Table
  pub left_stands : StandsAt k w level left_table left
  pub right_stands : StandsAt k w level right_table right
  pub goes : walk_bits (drop top v.letters) t u ≡ take (level - top) bits ++ walk_bits (drop level v.letters) left_table right_table
  pub ran : Ran k v w (walk (drop top v.letters) top t u)
  pub covers : Covers k v.letters (walk (drop top v.letters) top t u) (walk (drop level v.letters) level left_table right_table)

-- a walk that began with two edges at top goes on with two others at a level
pub record IsWalked (k : KindName) (v w : View) (top level : ℕ) (first_left first_right left right : PlainEdge) (bits : List Bool) : Type 0 where
  pub keeps : Keeps v w
  pub count : length bits + top ≡ length v.letters
  pub come : (t u : Table) → StandsAt k v top t first_left → StandsAt k v top u first_right → HasCome k v w top level t u left right bits

-- ---- the beginning
pub walk_begins : (k : KindName) (v : View) (top : ℕ) (left right : PlainEdge) (bits : List Bool) → length bits + top ≡ length v.letters →
    IsWalked k v v top top left right left right bits
walk_begins k v top left right bits count = record {
  keeps = keeps_itself v;
  count = count;
  come = λ t u h g.
      let work = walk (drop top v.letters) top t u in
      let none : top - top ≡ 0 = omega arith in
      record {
        left_table = t;
        right_table = u;
        left_stands = h;
        right_stands = g;
        goes = rw none refl;
        ran = ran_nothing k v work;
        covers = covers_itself k v.letters work;
      };
}

-- an edge that lies from a level stands for a table there
pub lies_somewhere : (k : KindName) (v : View) (level : ℕ) (e : PlainEdge) → LiesFrom k v level e → (t : Table) × StandsAt k v level t e
lies_somewhere k v level e lies =
    let within = top_within k v e lies.good in
    let not_above = lies.not_above in
    stands_somewhere k v e level lies.good not_above (omega arith)

-- the walk's edges can be taken apart at its level
can_part_here : (k : KindName) (v w : View) (level : ℕ) (t : Table) (e : PlainEdge) → Keeps v w → level < length v.letters → StandsAt k w level t e → CanPart k w level e
can_part_here k v w level t e keeps below h = record {
  good = good_at k w e level t h;
  below = subst (λ (ds : List Decomp). level < length ds) (sym keeps.letters) below;
  not_above = from_level k w level t e h;
}

pub left_can_part : (k : KindName) (v w : View) (top level : ℕ) (first_left first_right left right : PlainEdge) (bits : List Bool) → LiesFrom k v top first_left →
    LiesFrom k v top first_right → level < length v.letters → IsWalked k v w top level first_left first_right left right bits → CanPart k w level left
left_can_part k v w top level first_left first_right left right bits lefts rights below walked =
    let t = lies_somewhere k v top first_left lefts in
    let u = lies_somewhere k v top first_right rights in
    can_part_here k v w level _ left walked.keeps below (walked.come t.0 u.0 t.1 u.1).left_stands

pub right_can_part : (k : KindName) (v w : View) (top level : ℕ) (first_left first_right left right : PlainEdge) (bits : List Bool) → LiesFrom k v top first_left →
    LiesFrom k v top first_right → level < length v.letters → IsWalked k v w top level first_left first_right left right bits → CanPart k w level right
right_can_part k v w top level first_left first_right left right bits lefts rights below walked =
    let t = lies_somewhere k v top first_left lefts in
    let u = lies_somewhere k v top first_right rights in
    can_part_here k v w level _ right walked.keeps below (walked.come t.0 u.0 t.1 u.1).right_stands

-- ---- a step more
-- the walk's next bit is put after those before it
one_more_bit : (n place : ℕ) (bits : List Bool) (bit : Bool) (rest : List Bool) → n ≡ place + 1 → place < length bits →
    take place bits ++ (bit ∷ rest) ≡ take n (set bits place bit) ++ rest
one_more_bit n place bits bit rest one within = rw (take-set_at bits place n bit one within) (sym (append_assoc (take place bits) (bit ∷ []) rest))

-- the walk over two tables at a level, by the level's letter
abbrev walk_here : View → ℕ → Table → Table → List Piece
walk_here v level t u = walk (drop level v.letters) level t u

abbrev from_here : View → ℕ → List Decomp
from_here v level = letter_at v.letters level ∷ drop (level + 1) v.letters

here_covers_step : (k : KindName) (v : View) (level : ℕ) (t u : Table) → level < length v.letters →
    Covers k v.letters (walk_here v level t u) (step_work (letter_at v.letters level) level t u)
here_covers_step k v level t u below =
    let d = letter_at v.letters level in
    subst (λ (ds : List Decomp). Covers k v.letters (walk ds level t u) (step_work d level t u)) (sym (letters_at v.letters level below))
    (walk_covers_step k v.letters d (drop (level + 1) v.letters) level t u)

here_covers_rest : (k : KindName) (v : View) (level : ℕ) (t u : Table) → level < length v.letters →
    Covers k v.letters (walk_here v level t u)
    (walk_here v (level + 1) (walk_step (letter_at v.letters level) t u).left (walk_step (letter_at v.letters level) t u).right)
here_covers_rest k v level t u below =
    let d = letter_at v.letters level in
    let s = walk_step d t u in
    subst (λ (ds : List Decomp). Covers k v.letters (walk ds level t u) (walk_here v (level + 1) s.left s.right)) (sym (letters_at v.letters level below))
    (walk_covers_rest k v.letters d (drop (level + 1) v.letters) level t u)

-- a step's turn, by the letter that the level had at first
turns_here : (k : KindName) (v w x : View) (level : ℕ) (left right : PlainEdge) (r : Result PlainTurn Limit) → Keeps v w → IsTurn k w x level left right r →
    (t u : Table) → StandsAt k w level t left → StandsAt k w level u right → Turns k w x (letter_at v.letters level) level t u r
turns_here k v w x level left right r keeps is t u h g =
    subst (λ (ds : List Decomp). Turns k w x (letter_at ds level) level t u r) keeps.letters (is t u h g)

-- a walk takes one step more
pub one_step_more : (k : KindName) (v w x : View) (top level : ℕ) (first_left first_right left right : PlainEdge) (turn : PlainTurn) (bits : List Bool) → top ≤ level →
    level < length v.letters → IsWalked k v w top level first_left first_right left right bits → Keeps w x → IsTurn k w x level left right (Ok turn) →
    IsWalked k v x top (level + 1) first_left first_right turn.left turn.right (set bits (level - top) turn.bit)
one_step_more k v w x top level first_left first_right left right turn bits from below walked later is = record {
  keeps = keeps_on v w x walked.keeps later;
  count = let count = walked.count in rw length-set count;
  come = λ t u h g.
      let so_far = walked.come t u h g in
      let count = walked.count in
      let next_place : level + 1 - top ≡ level - top + 1 = omega arith in
      let in_place : level - top < length bits = omega arith in
      let p = so_far.left_table in
      let q = so_far.right_table in
      let d = letter_at v.letters level in
      let s = walk_step d p q in
      let rest = walk_bits (drop (level + 1) v.letters) s.left s.right in
      let turns = turns_here k v w x level left right (Ok turn) walked.keeps is p q so_far.left_stands so_far.right_stands in
      let whole = walk (drop top v.letters) top t u in
      let here = walk_here v level p q in
      record {
        left_table = s.left;
        right_table = s.right;
        left_stands = turns.goes.left_stands;
        right_stands = turns.goes.right_stands;
        goes = so_far.goes
            ∙ ap (λ (xs : List Bool). take (level - top) bits ++ xs)
            (ap (λ (ds : List Decomp). walk_bits ds p q) (letters_at v.letters level below) ∙ ap (λ (b : Bool). b ∷ rest) (sym turns.goes.bit))
            ∙ one_more_bit (level + 1 - top) (level - top) bits turn.bit rest next_place in_place;
        ran = ran_on k v w x whole (step_work d level p q) (Ok turn) so_far.ran later
            (covers_on k v.letters whole here (step_work d level p q) so_far.covers (here_covers_step k v level p q below)) turns.causes;
        covers = covers_on k v.letters whole here _ so_far.covers (here_covers_rest k v level p q below);
      };
}

-- a step that is refused refuses the walk
pub walk_refuses : {X : Type 0} (k : KindName) (v w x : View) (top level : ℕ) (first_left first_right left right : PlainEdge) (bits : List Bool) (l : Limit) (result : Result X Limit) →
    result ≡ Err l → level < length v.letters → IsWalked k v w top level first_left first_right left right bits → Keeps w x → IsTurn k w x level left right (Err l) →
    (t u : Table) → StandsAt k v top t first_left → StandsAt k v top u first_right → Causes k v x (walk (drop top v.letters) top t u) result
walk_refuses {X} k v w x top level first_left first_right left right bits l result is_err below walked later is t u h g =
    let so_far = walked.come t u h g in
    let p = so_far.left_table in
    let q = so_far.right_table in
    let d = letter_at v.letters level in
    let whole = walk (drop top v.letters) top t u in
    let here = walk_here v level p q in
    let turns = turns_here k v w x level left right (Err l) walked.keeps is p q so_far.left_stands so_far.right_stands in
    subst (λ (r : Result X Limit). Causes k v x whole r) (sym is_err)
    (causes_then k v w x whole (step_work d level p q) (Err l) (Err l) so_far.ran later
    (covers_on k v.letters whole here (step_work d level p q) so_far.covers (here_covers_step k v level p q below)) (err_same l) turns.causes)

-- ---- the end
-- tables that are not the same have a first difference
difference_of : (n : ℕ) (t u : Table) → IsOver n t → IsOver n u → (t ≡ u → ⊥) → (d : Difference) × (first_difference t u ≡ Some d)
difference_of n t u o p apart = by_answer (first_difference t u) (first_difference_found.same_if_none n t u o p)
  where
    by_answer : (answer : Option Difference) → (answer ≡ None → t ≡ u) → (d : Difference) × (answer ≡ Some d)
    by_answer (Some d) same = (d, refl)
    by_answer None same = absurd (apart (same refl))

-- below the last level there are no bits
all_bits : (ds : List Decomp) (n level : ℕ) (bits : List Bool) (t u : Table) → level ≡ length ds → n ≡ length bits →
    take n bits ++ walk_bits (drop level ds) t u ≡ bits
all_bits ds n level bits t u end all = rw (end, all, drop-length ds, take-length bits) (append-nil bits)

-- a walk that has come past the last level has found the first difference
pub walk_ends : (k : KindName) (v w : View) (top level : ℕ) (first_left first_right left right : PlainEdge) (bits : List Bool) → level ≡ length v.letters →
    Differ k v top first_left first_right → IsWalked k v w top level first_left first_right left right bits →
    (t u : Table) → StandsAt k v top t first_left → StandsAt k v top u first_right → IsFirstAt t u bits
walk_ends k v w top level first_left first_right left right bits end differ walked t u h g =
    let ds = drop top v.letters in
    let some = difference_of (length ds) t u h.stands.over g.stands.over (differ t u h g) in
    let come = walked.come t u h g in
    record {
      difference = some.0;
      found = some.1;
      at =
          sym (all_bits v.letters (level - top) level bits come.left_table come.right_table end (let count = walked.count in omega arith))
          ∙ sym come.goes ∙ walk_finds_first ds t u some.0 h.stands.over g.stands.over some.1;
    }

-- and refused nothing
pub walk_causes : {X : Type 0} (k : KindName) (v w : View) (top level : ℕ) (first_left first_right left right : PlainEdge) (bits : List Bool) (x : X) →
    IsWalked k v w top level first_left first_right left right bits → (t u : Table) → StandsAt k v top t first_left → StandsAt k v top u first_right →
    Causes k v w (walk (drop top v.letters) top t u) (Ok x)
walk_causes k v w top level first_left first_right left right bits x walked t u h g =
    ran_causes k v w (walk (drop top v.letters) top t u) x (walked.come t u h g).ran
