-- The level, the parts and the answer of a call on one edge.
use Rattle.std.proofs.Common.{◌≡◌, refl, sym, subst, ℕ, ◌≢◌, List, [], ◌∷◌, length, arith}
use Rattle.std.specs.Prelude.{Result, Ok, Err, IfOk}
use Rattle.std.specs.Result.{IsErrAnd}
use Rattle.word_base.specs.declared.kind_name.KindName.{KindName}
use Rattle.word_base.specs.declared.weight.Overflow.{Overflow}
use Rattle.tables.specs.Table.{Table}
use Rattle.tables.specs.Pieces.{Piece, pieces}
use Rattle.tables.proofs.PieceLaws.{Covers}
use Rattle.kind_laws.specs.Plain.{PlainEdge, answered}
use Rattle.diagram.specs.Answers.{Answers}
use Rattle.diagram.specs.Calls.{CanPart, ArePartsOf, IsOfEach, IsOfPart, PartLiesBelow, SplitsOne}
use Rattle.diagram.specs.View.{View, IsEdge, top_of, Keeps}
use Rattle.diagram.specs.declared.limit.Limit.{Limit}
use Rattle.diagram.specs.declared.limit.Limit.TheVariants as limit
use Rattle.diagram.proofs.BothLaws.{lies_below}
use Rattle.diagram.proofs.CallLaws.{GoesByHalves, each_from_top}
use Rattle.diagram.proofs.JoinCauses.{answers_overflow, refused}
use Rattle.diagram.proofs.LevelLaws.{leaf_at_end, good_at, stands_somewhere, top_within}
use Rattle.diagram.proofs.StoreLaws.{keeps_itself}

-- ---- the level of the edge's node
pub can_part_at : (k : KindName) (v : View) (a : PlainEdge) (level : ℕ) → IsEdge k v a → a.node ≢ 0 → level ≡ top_of v a.node → CanPart k v level a
can_part_at k v a level good some is =
    let within = top_within k v a good in
    let other : level ≢ length v.letters = λ end. some (leaf_at_end k v a good (omega arith)) in
    record { good = good; below = omega arith; not_above = omega arith }

-- ---- parts
pub part_lies_below : (k : KindName) (v : View) (level : ℕ) (a low high : PlainEdge) → CanPart k v level a → ArePartsOf k v level a (Ok (low, high)) →
    PartLiesBelow k v level low high
part_lies_below k v level a low high can are =
    let below = can.below in
    let t = stands_somewhere k v a level can.good can.not_above (omega arith) in
    let stand = are t.0 t.1 in
    record { within = below; low_lies = lies_below k v level _ low stand.0; high_lies = lies_below k v level _ high stand.1 }

-- an operation on an edge, from what it makes of its parts
pub each_of_parts : (k : KindName) (op : Table → Table) (work : ℕ → Table → List Piece) (v x w : View) (a : PlainEdge) (level : ℕ) (low high : PlainEdge)
    (r : Result PlainEdge Limit) → x ≡ v → IsEdge k v a → Keeps x w → GoesByHalves k v op work → SplitsOne k v a (Ok (level, low, high)) →
    IsOfPart op work k x w level low high r → IsOfEach op work k v w a r
each_of_parts k op work v x w a level low high r same good keeps halving splits of_parts =
    let here = subst (λ (l : ℕ). ArePartsOf k v l a (Ok (low, high))) (sym splits.0) splits.1 in
    let from = subst (λ (z : View). IsOfPart op work k z w level low high r) same of_parts in
    each_from_top k v w op work a level r good splits.0 (subst (λ (z : View). Keeps z w) same keeps) halving
    (λ t h. from t (record { over = h.stands.over; low_stands = (here t h).0; high_stands = (here t h).1 }))

-- the parts of the operand do not fit
pub each_unfit : (k : KindName) (op : Table → Table) (work : ℕ → Table → List Piece) (v w : View) (a : PlainEdge) (o : Overflow) →
    w ≡ v → IsEdge k v a → GoesByHalves k v op work → ((l : ℕ) (t : Table) → Covers k v.letters (work l t) (pieces l (t ∷ []))) →
    SplitsOne k v a (Err o) → IsOfEach op work k v w a (Err limit.Overflow)
each_unfit k op work v w a o same good halving covers splits =
    let level = top_of v a.node in
    subst (λ (z : View). IsOfEach op work k v z a (Err limit.Overflow)) (sym same)
    (each_from_top k v v op work a level (Err limit.Overflow) good refl (keeps_itself v) halving
    (λ t h. answers_overflow k v (work level t) level (op t) ((covers level t).unfit (record { level = level; table = t }, (0, omega arith, refl), splits t h))))

pub refused_each : {T : Type 0} (k : KindName) (op : Table → Table) (work : ℕ → Table → List Piece) (v w : View) (a : PlainEdge) (f : T → PlainEdge)
    (result : Result T Limit) (e : Limit) → IsErrAnd result (λ y. y ≡ e) → IsOfEach op work k v w a (Err e) → IsOfEach op work k v w a (answered f result)
refused_each k op work v w a f result e is each l t h = refused k v w (work l t) l (op t) f result e is (each l t h)

-- an edge that is answered is good
pub good_answer : {T : Type 0} (k : KindName) (v w : View) (ps : List Piece) (l : ℕ) (t : Table) (f : T → PlainEdge) (result : Result T Limit) →
    Answers k v w ps l t (answered f result) → IfOk result (λ x. IsEdge k w (f x))
good_answer k v w ps l t f (Ok x) answers = good_at k w (f x) l t answers.stands
good_answer k v w ps l t f (Err e) answers = tt
