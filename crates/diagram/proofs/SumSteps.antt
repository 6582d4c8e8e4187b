-- What the walk over sums rests on: the parts for which a frame waits lie below it.
use Rattle.std.proofs.Common.{◌≡◌, refl, sym, subst, ℕ, ◌<◌, ℤ, Bool, true, false}
use Rattle.word_base.specs.declared.kind_name.KindName.{KindName}
use Rattle.kind_laws.specs.Plain.{PlainEdge}
use Rattle.diagram.specs.Calls.{upper}
use Rattle.diagram.specs.SumFrames.{SumCall, PlainSum, plain_sum, AreBoth, IsAt, Waits, sums}
use Rattle.diagram.specs.View.{View}
use Rattle.diagram.specs.declared.walk.Walk.{Walk}
use Rattle.diagram.proofs.BothLaws.{PairLies, pair_deeper, still_below}
use Rattle.diagram.proofs.SumWalk.{waiting_refuses}
use Rattle.diagram.proofs.WalkSteps.{Laws}

-- two edges lie where those lie that they are
pub pair_below : (k : KindName) (v : View) (level : ℕ) (p q : PlainEdge × PlainEdge) → AreBoth p q → PairLies k v level q.0 q.1 → PairLies k v level p.0 p.1
pair_below k v level p q are lie =
    subst (λ (e : PlainEdge). PairLies k v level e p.1) (sym are.0) (subst (λ (e : PlainEdge). PairLies k v level q.0 e) (sym are.1) lie)

inner_at : (walk : Walk) (k : KindName) (outer inner : SumCall) (f : PlainSum) (b : Bool) → f.has_low ≡ b → (w : Waits walk k outer f inner) →
    PairLies k inner.view f.level inner.operands.0 inner.operands.1
inner_at walk k outer inner f false is w =
    let at = subst (IsAt walk k outer f inner w.parts) is w.at in
    subst (λ (v : View). PairLies k v f.level inner.operands.0 inner.operands.1) (sym at.0)
    (pair_below k outer.view f.level inner.operands w.parts.low at.1 (record { first = w.below.first_low; second = w.below.second_low }))
inner_at walk k outer inner f true is w =
    let at = subst (IsAt walk k outer f inner w.parts) is w.at in
    pair_below k inner.view f.level inner.operands w.parts.high at.0
    (record {
      first = still_below k outer.view inner.view f.level w.parts.high.0 w.keeps w.below.first_high;
      second = still_below k outer.view inner.view f.level w.parts.high.1 w.keeps w.below.second_high;
    })

inner_below : (walk : Walk) (k : KindName) (outer inner : SumCall) (f : PlainSum) → Waits walk k outer f inner →
    PairLies k inner.view f.level inner.operands.0 inner.operands.1
inner_below walk k outer inner f w = inner_at walk k outer inner f f.has_low refl w

inner_deeper : (walk : Walk) (k : KindName) (outer inner : SumCall) (f : PlainSum) → Waits walk k outer f inner →
    f.level < upper inner.view inner.operands.0 inner.operands.1
inner_deeper walk k outer inner f w = pair_deeper k inner.view f.level inner.operands.0 inner.operands.1 (inner_below walk k outer inner f w)

pub sum_laws : {K X E : Type 0} (walk : Walk) (k : KindName) (of : X → ℤ) → Laws (sums {K = K} {X = X} {E = E} walk k of)
sum_laws walk k of = record {
  keeps = λ outer inner f waits. waits.keeps;
  refuses = λ outer inner f x e waits keeps refused. waiting_refuses walk k outer inner (plain_sum of f) x e waits keeps refused;
  good = λ outer inner f waits. let lie = inner_below walk k outer inner (plain_sum of f) waits in (lie.first.good, lie.second.good);
  within = λ outer inner f waits. waits.below.within;
  deeper = λ outer inner f waits. inner_deeper walk k outer inner (plain_sum of f) waits;
}
