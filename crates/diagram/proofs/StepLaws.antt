-- Calls that may refuse, one after the other.
use Rattle.std.proofs.Common.{◌≡◌, subst, ℕ, ◌+◌, List}
use Rattle.std.specs.Prelude.{Result, Err}
use Rattle.std.specs.Result.{IsErrAnd}
use Rattle.word_base.specs.declared.decomp.Decomp.{Decomp}
use Rattle.word_base.specs.declared.kind_name.KindName.{KindName}
use Rattle.tables.specs.Table.{Table, plus, merged}
use Rattle.tables.specs.Pieces.{Piece, add_work, join_work}
use Rattle.tables.proofs.PieceLaws.{Covers}
use Rattle.kind_laws.specs.Plain.{PlainEdge, answered}
use Rattle.diagram.specs.Answers.{Answers}
use Rattle.diagram.specs.Calls.{IsJoin, IsOfEach, IsOfBoth}
use Rattle.diagram.specs.View.{View, letter_at, StandsAt, Keeps}
use Rattle.diagram.specs.declared.limit.Limit.{Limit}
use Rattle.diagram.proofs.CallLaws.{Ran, ran_then, answers_then, refuses_then}
use Rattle.diagram.proofs.JoinCauses.{refused}

-- a call on the way, by pieces that those of the whole cover
pub record Step (k : KindName) (ds : List Decomp) (v w : View) (qs : List Piece) (l : ℕ) (t : Table) (r : Result PlainEdge Limit) : Type 0 where
  pub work : List Piece
  pub keeps : Keeps v w
  pub covers : Covers k ds qs work
  pub answers : Answers k v w work l t r

-- ---- one more call after those so far
pub step_ran : (k : KindName) (v w x : View) (qs : List Piece) (l : ℕ) (t : Table) (r : Result PlainEdge Limit) → Ran k v w qs → Step k v.letters w x qs l t r → Ran k v x qs
step_ran k v w x qs l t r ran s = ran_then k v w x qs s.work l t r ran s.keeps s.covers s.answers

pub step_refuses : {T : Type 0} (k : KindName) (v w x : View) (qs : List Piece) (l m : ℕ) (t u : Table) (f : T → PlainEdge) (result : Result T Limit) (e : Limit) →
    IsErrAnd result (λ y. y ≡ e) → Ran k v w qs → Step k v.letters w x qs m u (Err e) → Answers k v x qs l t (answered f result)
step_refuses k v w x qs l m t u f result e is ran s =
    refused k v x qs l t f result e is (refuses_then k v w x qs s.work l m t u e ran s.keeps s.covers s.answers)

pub step_answers : (k : KindName) (v w x : View) (qs : List Piece) (l : ℕ) (t : Table) (r : Result PlainEdge Limit) → Ran k v w qs → Step k v.letters w x qs l t r →
    Answers k v x qs l t r
step_answers k v w x qs l t r ran s = answers_then k v w x qs s.work l t r ran s.keeps s.covers s.answers

-- ---- calls on edges
pub each_step : (k : KindName) (ds : List Decomp) (op : Table → Table) (work : ℕ → Table → List Piece) (v w : View) (qs : List Piece) (l : ℕ) (t : Table) (a : PlainEdge)
    (r : Result PlainEdge Limit) → Keeps v w → IsOfEach op work k v w a r → StandsAt k v l t a → Covers k ds qs (work l t) → Step k ds v w qs l (op t) r
each_step k ds op work v w qs l t a r keeps each h covers = record { work = work l t; keeps = keeps; covers = covers; answers = each l t h }

pub both_step : (k : KindName) (ds : List Decomp) (op : Table → Table → Table) (work : ℕ → Table → Table → List Piece) (v w : View) (qs : List Piece) (l : ℕ) (t u : Table)
    (a b : PlainEdge) (r : Result PlainEdge Limit) → Keeps v w → IsOfBoth op work k v w a b r → StandsAt k v l t a → StandsAt k v l u b →
    Covers k ds qs (work l t u) → Step k ds v w qs l (op t u) r
both_step k ds op work v w qs l t u a b r keeps both h g covers = record { work = work l t u; keeps = keeps; covers = covers; answers = both l t u h g }

pub sum_step : (k : KindName) (ds : List Decomp) (v w : View) (qs : List Piece) (l : ℕ) (p q : Table) (a b : PlainEdge) (r : Result PlainEdge Limit) → Keeps v w →
    IsOfBoth plus add_work k v w a b r → StandsAt k v l p a → StandsAt k v l q b → Covers k ds qs (add_work l p q) → Step k ds v w qs l (plus p q) r
sum_step k ds v w qs l p q a b r keeps sum h g covers = both_step k ds plus add_work v w qs l p q a b r keeps sum h g covers

pub join_step : (k : KindName) (ds : List Decomp) (v w : View) (qs : List Piece) (l : ℕ) (p q t : Table) (a b : PlainEdge) (r : Result PlainEdge Limit) → v.letters ≡ ds → Keeps v w →
    IsJoin k v w l a b r → StandsAt k v (l + 1) p a → StandsAt k v (l + 1) q b → Covers k ds qs (join_work (letter_at ds l) l p q) →
    merged (letter_at ds l) p q ≡ t → Step k ds v w qs l t r
join_step k ds v w qs l p q t a b r letters keeps join h g covers merges =
    let Made : List Decomp → Type 0 = λ es. Answers k v w (join_work (letter_at es l) l p q) l (merged (letter_at es l) p q) r in
    let made = subst Made letters (join p q h g) in
    record {
      work = join_work (letter_at ds l) l p q;
      keeps = keeps;
      covers = covers;
      answers = subst (λ (x : Table). Answers k v w (join_work (letter_at ds l) l p q) l x r) merges made;
    }
