-- What the walk over products rests on: the parts for which a frame waits lie below it.
use Rattle.std.proofs.Common.{ℕ, ℤ}
use Rattle.word_base.specs.declared.kind_name.KindName.{KindName}
use Rattle.diagram.specs.Calls.{LieBelow, PlainParts}
use Rattle.diagram.specs.ProductFrames.{ProductCall, PlainProduct, plain_product, pair_at, Waits, products}
use Rattle.diagram.specs.View.{View}
use Rattle.diagram.specs.declared.product_walk.Stage.{Stage}
use Rattle.diagram.specs.declared.product_walk.Stage.TheVariants.{Low, LowHigh, HighLow, High}
use Rattle.diagram.proofs.BothLaws.{PairLies, pair_deeper}
use Rattle.diagram.proofs.ProductCalls.{still_lie}
use Rattle.diagram.proofs.ProductWalk.{waiting_refuses}
use Rattle.diagram.proofs.SumSteps.{pair_below}
use Rattle.diagram.proofs.WalkSteps.{Laws}

pair_lies : (k : KindName) (v : View) (level : ℕ) (parts : PlainParts) (stage : Stage) → LieBelow k v level parts →
    PairLies k v level (pair_at parts stage).0 (pair_at parts stage).1
pair_lies k v level parts Low below = record { first = below.first_low; second = below.second_low }
pair_lies k v level parts LowHigh below = record { first = below.first_low; second = below.second_high }
pair_lies k v level parts HighLow below = record { first = below.first_high; second = below.second_low }
pair_lies k v level parts High below = record { first = below.first_high; second = below.second_high }

inner_lies : (k : KindName) (outer inner : ProductCall) (f : PlainProduct) → Waits k outer f inner → PairLies k inner.view f.level inner.operands.0 inner.operands.1
inner_lies k outer inner f w =
    pair_below k inner.view f.level inner.operands (pair_at w.parts f.stage) w.operands_are
    (pair_lies k inner.view f.level w.parts f.stage (still_lie k outer.view inner.view f.level w.parts w.keeps w.begun.below))

pub product_laws : {K X E : Type 0} (k : KindName) (of : X → ℤ) → Laws (products {K = K} {X = X} {E = E} k of)
product_laws k of = record {
  keeps = λ outer inner f waits. waits.keeps;
  refuses = λ outer inner f x e waits keeps refused. waiting_refuses k outer inner (plain_product of f) x e waits keeps refused;
  good = λ outer inner f waits. let lies = inner_lies k outer inner (plain_product of f) waits in (lies.first.good, lies.second.good);
  within = λ outer inner f waits. waits.begun.below.within;
  deeper = λ outer inner f waits.
      pair_deeper k inner.view f.level inner.operands.0 inner.operands.1 (inner_lies k outer inner (plain_product of f) waits);
}
