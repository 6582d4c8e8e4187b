-- A difference is the sum with the negative.
use Rattle.std.proofs.Common.{◌≡◌, refl, subst, ℕ, zero, suc, List, [], ◌∷◌, length, drop}
use Rattle.std.specs.Prelude.{Result, Ok, Err}
use Rattle.std.specs.Result.{IsErrAnd}
use Rattle.word_base.specs.declared.decomp.Decomp.{Decomp}
use Rattle.word_base.specs.declared.kind_name.KindName.{KindName}
use Rattle.tables.specs.Table.{Table, entry, halves, IsOver, plus, minus, opposite}
use Rattle.tables.specs.Pieces.{pieces, add_work, neg_work, sub_work}
use Rattle.tables.proofs.PieceLaws.{Covers, covers_on, covers_both, covers_left, covers_right}
use Rattle.tables.proofs.TableLaws.{both_halves}
use Rattle.kind_laws.specs.Plain.{PlainEdge, answered}
use Rattle.diagram.specs.Answers.{Answers}
use Rattle.diagram.specs.Calls.{IsOfEach, IsOfBoth}
use Rattle.diagram.specs.View.{View, Keeps}
use Rattle.diagram.specs.declared.limit.Limit.{Limit}
use Rattle.diagram.proofs.CallLaws.{ran_nothing, ran_then, answers_then, refuses_then}
use Rattle.diagram.proofs.JoinCauses.{refused}
use Rattle.diagram.proofs.LevelLaws.{stays}

plus-opposite : (n : ℕ) (t u : Table) → IsOver n t → IsOver n u → plus t (opposite u) ≡ minus t u
plus-opposite zero (entry x) (entry y) o p = refl
plus-opposite zero (halves a b) u o p = absurd o
plus-opposite zero (entry x) (halves c d) o p = absurd p
plus-opposite (suc n) (entry x) u o p = absurd o
plus-opposite (suc n) (halves a b) (entry y) o p = absurd p
plus-opposite (suc n) (halves a b) (halves c d) o p = both_halves (plus-opposite n a c o.0 p.0) (plus-opposite n b d o.1 p.1)

sub_covers_neg : (k : KindName) (ds : List Decomp) (l : ℕ) (t u : Table) → Covers k ds (sub_work l t u) (neg_work l u)
sub_covers_neg k ds l t u =
    covers_on k ds (sub_work l t u) (pieces l (u ∷ opposite u ∷ minus t u ∷ [])) (neg_work l u)
    (covers_right k ds (pieces l (t ∷ [])) (pieces l (u ∷ opposite u ∷ minus t u ∷ []))) (covers_left k ds (neg_work l u) (pieces l (minus t u ∷ [])))

sub_covers_sum : (k : KindName) (ds : List Decomp) (l : ℕ) (t u : Table) → Covers k ds (sub_work l t u) (pieces l (t ∷ opposite u ∷ minus t u ∷ []))
sub_covers_sum k ds l t u =
    covers_both k ds (sub_work l t u) (pieces l (t ∷ [])) (pieces l (opposite u ∷ minus t u ∷ []))
    (covers_left k ds (pieces l (t ∷ [])) (pieces l (u ∷ opposite u ∷ minus t u ∷ [])))
    (covers_right k ds (pieces l (t ∷ u ∷ [])) (pieces l (opposite u ∷ minus t u ∷ [])))

pub negative_refuses : {T : Type 0} (k : KindName) (v w : View) (a b : PlainEdge) (f : T → PlainEdge) (result : Result T Limit) (e : Limit) → IsErrAnd result (λ y. y ≡ e) →
    Keeps v w → IsOfEach opposite neg_work k v w b (Err e) → IsOfBoth minus sub_work k v w a b (answered f result)
negative_refuses k v w a b f result e is keeps negative l t u h g =
    refused k v w (sub_work l t u) l (minus t u) f result e is
    (refuses_then k v v w (sub_work l t u) (neg_work l u) l l (minus t u) (opposite u) e (ran_nothing k v (sub_work l t u)) keeps (sub_covers_neg k v.letters l t u) (negative l u g))

pub difference_answers : (k : KindName) (v w x : View) (a b negated : PlainEdge) (r : Result PlainEdge Limit) → Keeps v w → IsOfEach opposite neg_work k v w b (Ok negated) →
    Keeps w x → IsOfBoth plus add_work k w x a negated r → IsOfBoth minus sub_work k v x a b r
difference_answers k v w x a b negated r keeps negative later sum l t u h g =
    let made = negative l u g in
    let ran = ran_then k v v w (sub_work l t u) (neg_work l u) l (opposite u) (Ok negated) (ran_nothing k v (sub_work l t u)) keeps (sub_covers_neg k v.letters l t u) made in
    let same = plus-opposite (length (drop l v.letters)) t u h.stands.over g.stands.over in
    let Sum : Table → Type 0 = λ z. Answers k w x (pieces l (t ∷ opposite u ∷ z ∷ [])) l z r in
    let answers = subst Sum same (sum l t (opposite u) (stays k v w l t a keeps h) made.stands) in
    answers_then k v w x (sub_work l t u) (pieces l (t ∷ opposite u ∷ minus t u ∷ [])) l (minus t u) r ran later (sub_covers_sum k v.letters l t u) answers
