-- Products that wait for those of the parts of their operands. Private functions and proofs alone use this.
use Rattle.std.specs.Prelude.{◌≡◌, ℕ, ◌+◌, ◌<◌, ◌⊎◌, ℤ, true, List, Result, Ok, Err}
use Rattle.word_base.specs.declared.decomp.Decomp.{Decomp}
use Rattle.word_base.specs.declared.decomp.Decomp.TheVariants.{S}
use Rattle.word_base.specs.declared.kind_name.KindName.{KindName}
use Rattle.tables.specs.Fits.{weights_in_range}
use Rattle.tables.specs.Table.{Table, times, part0, part1}
use Rattle.kind_laws.specs.Plain.{PlainEdge, plain}
use Rattle.kind_laws.specs.Scale.{scale_of, unscaled, scaled}
use Rattle.kind_laws.specs.declared.kind.Edge.{Edge}
use Rattle.result_cache.specs.declared.key.CacheKey.{CacheKey}
use Rattle.diagram.specs.Answers.{Makes}
use Rattle.diagram.specs.Calls.{IsOfBoth, IsOfParts, LieBelow, PlainParts, StandForParts, upper}
use Rattle.diagram.specs.Frames.{Call, Walking, Begins}
use Rattle.diagram.specs.Products.{product_work, mixed_products, high_products, AreSome}
use Rattle.diagram.specs.Remembered.{IsKeyOf}
use Rattle.diagram.specs.SumFrames.{plain_pair, AreBoth, Place}
use Rattle.diagram.specs.View.{View, letter_at, StandsAt, IsEdge, Keeps}
use Rattle.diagram.specs.declared.limit.Limit.{Limit}
use Rattle.diagram.specs.declared.limit.Limit.TheVariants as limit
use Rattle.diagram.specs.declared.operation.Operation.TheVariants.{Product}
use Rattle.diagram.specs.declared.product_walk.ProductFrame.{ProductFrame}
use Rattle.diagram.specs.declared.product_walk.Stage.{Stage}
use Rattle.diagram.specs.declared.product_walk.Stage.TheVariants.{Low, LowHigh, HighLow, High}
use Rattle.diagram.specs.declared.step.Step.TheVariants.{Below, Answer}

-- the product of two edges, from one view to another
abbrev pub IsProduct : KindName → View → View → PlainEdge → PlainEdge → Result PlainEdge Limit → Type 0
IsProduct k v w a b result = IsOfBoth times (product_work v.letters) k v w a b result

abbrev pub ProductCall : Type 0
ProductCall = Call (PlainEdge × PlainEdge)

pub record PlainProduct : Type 0 where
  pub key : CacheKey
  pub level : ℕ
  pub stage : Stage
  pub first_scale : ℤ
  pub second_scale : ℤ
  pub low : PlainEdge
  pub mixed : PlainEdge
  pub high : PlainEdge × PlainEdge

abbrev pub plain_product : {K X E : Type 0} → (X → ℤ) → ProductFrame K X E → PlainProduct
plain_product of f = record {
  key = f.key;
  level = f.level;
  stage = f.stage;
  first_scale = f.first_scale;
  second_scale = f.second_scale;
  low = plain of f.low;
  mixed = plain of f.mixed;
  high = (plain of f.high.0, plain of f.high.1);
}

-- the parts whose product a frame waits for
abbrev pub pair_at : PlainParts → Stage → PlainEdge × PlainEdge
pair_at parts Low = parts.low
pair_at parts LowHigh = (parts.low.0, parts.high.1)
pair_at parts HighLow = (parts.high.0, parts.low.1)
pair_at parts High = parts.high

-- the parts of the products to come, which a frame still has: a product takes the place of a part that no later one needs
abbrev pub HasParts : PlainParts → PlainEdge → PlainEdge → PlainEdge × PlainEdge → Stage → Type 0
HasParts parts low mixed high Low = (low ≡ parts.low.0) × (mixed ≡ parts.low.1) × (high ≡ parts.high)
HasParts parts low mixed high LowHigh = (mixed ≡ parts.low.1) × (high ≡ parts.high)
HasParts parts low mixed high HighLow = high ≡ parts.high
HasParts parts low mixed high High = Unit {0}

-- the table of that product
abbrev pub product_at : Decomp → Table → Table → Stage → Table
product_at d t u Low = times (part0 d t) (part0 d u)
product_at d t u LowHigh = times (part0 d t) (part1 d u)
product_at d t u HighLow = times (part1 d t) (part0 d u)
product_at d t u High = times (part1 d t) (part1 d u)

-- the mixed products are those of Davio alone
abbrev pub HasStage : Decomp → Stage → Type 0
HasStage d Low = Unit {0}
HasStage d LowHigh = d ≡ S → ⊥
HasStage d HighLow = d ≡ S → ⊥
HasStage d High = Unit {0}

-- what the low edge and the mixed one of a frame stand for
abbrev pub AreMade : KindName → View → ℕ → Decomp → Table → Table → PlainEdge → PlainEdge → Stage → Type 0
AreMade k v l d t u low mixed Low = Unit {0}
AreMade k v l d t u low mixed LowHigh = StandsAt k v l (times (part0 d t) (part0 d u)) low
AreMade k v l d t u low mixed HighLow = StandsAt k v l (times (part0 d t) (part0 d u)) low × StandsAt k v l (times (part0 d t) (part1 d u)) mixed
AreMade k v l d t u low mixed High = StandsAt k v l (times (part0 d t) (part0 d u)) low × ((d ≡ S → ⊥) → StandsAt k v l (mixed_products d t u) mixed)

-- what the high part of a product stands for, by the letter
abbrev pub HighStands : KindName → View → ℕ → Decomp → Table → Table → PlainEdge → Type 0
HighStands k v l d t u high =
    (d ≡ S → StandsAt k v l (times (part1 d t) (part1 d u)) high) × ((d ≡ S → ⊥) → StandsAt k v l (high_products d t u) high)

-- a product that was begun without the scales of its operands, by their parts
pub record IsBegun (k : KindName) (outer : ProductCall) (f : PlainProduct) (parts : PlainParts) : Type 0 where
  pub some : AreSome k outer.operands.0 outer.operands.1
  pub first_scale : f.first_scale ≡ scale_of k outer.operands.0.root
  pub second_scale : f.second_scale ≡ scale_of k outer.operands.1.root
  pub first_good : IsEdge k outer.view (unscaled k outer.operands.0)
  pub second_good : IsEdge k outer.view (unscaled k outer.operands.1)
  pub is_key : IsKeyOf Product k (unscaled k outer.operands.0) (unscaled k outer.operands.1) f.key
  pub below : LieBelow k outer.view f.level parts
  pub of_parts : (w : View) (r : Result PlainEdge Limit) → Keeps outer.view w → IsOfParts times (product_work outer.view.letters) k outer.view w f.level parts r →
      IsProduct k outer.view w (unscaled k outer.operands.0) (unscaled k outer.operands.1) r

-- what the calls so far made, of two tables for whose parts the parts stand
pub record SoFar (k : KindName) (v w : View) (f : PlainProduct) (t u : Table) : Type 0 where
  pub made : Makes k v w (product_work v.letters f.level t u)
  pub stand : AreMade k w (f.level + 1) (letter_at v.letters f.level) t u f.low f.mixed f.stage

-- a product waits in a frame for that of parts
pub record Waits (k : KindName) (outer : ProductCall) (f : PlainProduct) (inner : ProductCall) : Type 0 where
  pub parts : PlainParts
  pub begun : IsBegun k outer f parts
  pub keeps : Keeps outer.view inner.view
  pub operands_are : AreBoth inner.operands (pair_at parts f.stage)
  pub has_stage : HasStage (letter_at outer.view.letters f.level) f.stage
  pub has_parts : HasParts parts f.low f.mixed f.high f.stage
  pub so_far : (t u : Table) → StandForParts k outer.view f.level t u parts → SoFar k outer.view inner.view f t u

-- how many products of parts a frame still has to begin, at most
abbrev pub rest_of : Stage → ℕ
rest_of Low = 3
rest_of LowHigh = 2
rest_of HighLow = 1
rest_of High = 0

-- the walk over products
abbrev pub products : {K X E : Type 0} → KindName → (X → ℤ) → Walking (Edge K X E × Edge K X E) (Edge K X E) (PlainEdge × PlainEdge) (ProductFrame K X E)
products k of = record {
  operands = plain_pair of;
  edge = plain of;
  AreGood = λ v both. IsEdge k v both.0 × IsEdge k v both.1;
  IsAnswer = λ v w both result. IsProduct k v w both.0 both.1 result;
  WaitsFor = λ outer f inner. Waits k outer (plain_product of f) inner;
  top = λ v both. upper v both.0 both.1;
  level = λ f. f.level;
  rest = λ f. rest_of f.stage;
}

-- what is left of two edges of which none is the constant 0 without their scales, and the scales
pub record AreRests (k : KindName) (a b first second : PlainEdge) (s z : ℤ) : Type 0 where
  pub first_is : first ≡ unscaled k a
  pub second_is : second ≡ unscaled k b
  pub first_scale : s ≡ scale_of k a.root
  pub second_scale : z ≡ scale_of k b.root
  pub some : AreSome k a b

abbrev pub BeginsRests : {K X E : Type 0} → KindName → (X → ℤ) → View → PlainEdge → PlainEdge → ℤ → ℤ → List (ProductFrame K X E) → List (ProductFrame K X E) →
    Result (Place K X E) Limit → Type 0
BeginsRests k of v first second s z old new result = (a b : PlainEdge) → AreRests k a b first second s z → Begins (products k of) v (a, b) old new result

-- a weight of an edge is out of range
abbrev pub IsOut : PlainEdge → Type 0
IsOut e = weights_in_range e.root ≡ true → ⊥

-- the scales are put back, the second one first
abbrev pub PutsBack : KindName → ℤ → ℤ → PlainEdge → Result PlainEdge Limit → Type 0
PutsBack k s z rest (Ok e) = e ≡ scaled k s (scaled k z rest)
PutsBack k s z rest (Err h) = (h ≡ limit.Overflow) × (IsOut (scaled k z rest) ⊎ IsOut (scaled k s (scaled k z rest)))

-- the product of parts is known, for which a frame waits
pub record IsWaiting (k : KindName) (v : View) (f : PlainProduct) (known : PlainEdge) : Type 0 where
  pub outer : ProductCall
  pub inner : ProductCall
  pub waits : Waits k outer f inner
  pub keeps : Keeps inner.view v
  pub is_known : IsProduct k inner.view v inner.operands.0 inner.operands.1 (Ok known)

-- how a product goes on
abbrev pub GoesBelow : {K X E : Type 0} → KindName → (X → ℤ) → ProductCall → View → PlainProduct → PlainProduct → Edge K X E × Edge K X E → Type 0
GoesBelow k of outer w f g p = Waits k outer g (record { view = w; operands = plain_pair of p }) × (g.level ≡ f.level) × (rest_of g.stage < rest_of f.stage)

abbrev pub GoesOn : {K X E : Type 0} → KindName → (X → ℤ) → ProductCall → View → PlainProduct → PlainProduct → Result (Place K X E) Limit → Type 0
GoesOn k of outer w f g (Ok (Below p)) = GoesBelow k of outer w f g p
GoesOn k of outer w f g (Ok (Answer e)) = IsProduct k outer.view w outer.operands.0 outer.operands.1 (Ok (plain of e))
GoesOn k of outer w f g (Err e) = IsProduct k outer.view w outer.operands.0 outer.operands.1 (Err e)

abbrev pub ResumesBelow : {K X E : Type 0} → KindName → (X → ℤ) → View → PlainProduct → PlainProduct → PlainEdge → Edge K X E × Edge K X E → Type 0
ResumesBelow k of v f g known p = (at : IsWaiting k v f known) → GoesBelow k of at.outer v f g p

abbrev pub Resumes : {K X E : Type 0} → KindName → (X → ℤ) → View → View → PlainProduct → PlainProduct → PlainEdge → Result (Place K X E) Limit → Type 0
Resumes k of v w f g known result = (at : IsWaiting k v f known) → GoesOn k of at.outer w f g result

abbrev pub Finishes : KindName → View → View → PlainProduct → PlainEdge → Result PlainEdge Limit → Type 0
Finishes k v w f known result = (at : IsWaiting k v f known) → IsProduct k at.outer.view w at.outer.operands.0 at.outer.operands.1 result

-- both parts of the product of two tables
pub record BothStand (k : KindName) (v w : View) (f : PlainProduct) (high : PlainEdge) (t u : Table) : Type 0 where
  pub made : Makes k v w (product_work v.letters f.level t u)
  pub low_stands : StandsAt k w (f.level + 1) (times (part0 (letter_at v.letters f.level) t) (part0 (letter_at v.letters f.level) u)) f.low
  pub high_stands : HighStands k w (f.level + 1) (letter_at v.letters f.level) t u high

-- both parts of a product are known
pub record HasBoth (k : KindName) (w : View) (f : PlainProduct) (high : PlainEdge) : Type 0 where
  pub outer : ProductCall
  pub parts : PlainParts
  pub begun : IsBegun k outer f parts
  pub keeps : Keeps outer.view w
  pub stand : (t u : Table) → StandForParts k outer.view f.level t u parts → BothStand k outer.view w f high t u

abbrev pub Completes : KindName → View → View → PlainProduct → PlainEdge → Result PlainEdge Limit → Type 0
Completes k v w f high result = (both : HasBoth k v f high) → IsProduct k both.outer.view w both.outer.operands.0 both.outer.operands.1 result
