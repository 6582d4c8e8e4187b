-- Sums that wait for those of the parts of their operands. Private functions and proofs alone use this.
use Rattle.std.specs.Prelude.{◌≡◌, ℕ, ℤ, Bool, true, false, Result, Ok, Err}
use Rattle.word_base.specs.declared.kind_name.KindName.{KindName}
use Rattle.tables.specs.Table.{plus}
use Rattle.kind_laws.specs.Plain.{PlainEdge, plain}
use Rattle.kind_laws.specs.declared.kind.Edge.{Edge}
use Rattle.result_cache.specs.declared.key.CacheKey.{CacheKey}
use Rattle.diagram.specs.Calls.{IsOfParts, LieBelow, PlainParts, upper}
use Rattle.diagram.specs.Frames.{Call, Walking, rest_of}
use Rattle.diagram.specs.Remembered.{IsKeyOf}
use Rattle.diagram.specs.SumRests.{IsSum, AreRests}
use Rattle.diagram.specs.Sums.{sum_work}
use Rattle.diagram.specs.View.{View, IsEdge, Keeps}
use Rattle.diagram.specs.declared.limit.Limit.{Limit}
use Rattle.diagram.specs.declared.operation.Operation.TheVariants.{Sum}
use Rattle.diagram.specs.declared.step.Step.{Step}
use Rattle.diagram.specs.declared.step.Step.TheVariants.{Below, Answer}
use Rattle.diagram.specs.declared.sum_walk.SumFrame.{SumFrame}
use Rattle.diagram.specs.declared.walk.Walk.{Walk}

abbrev pub SumCall : Type 0
SumCall = Call (PlainEdge × PlainEdge)

pub record PlainSum : Type 0 where
  pub key : CacheKey
  pub level : ℕ
  pub factor : ℤ
  pub shift : ℤ
  pub has_low : Bool
  pub first : PlainEdge
  pub second : PlainEdge

abbrev pub plain_sum : {K X E : Type 0} → (X → ℤ) → SumFrame K X E → PlainSum
plain_sum of f = record {
  key = f.key;
  level = f.level;
  factor = f.factor;
  shift = f.shift;
  has_low = f.has_low;
  first = plain of f.first;
  second = plain of f.second;
}

abbrev pub plain_pair : {K X E : Type 0} → (X → ℤ) → Edge K X E × Edge K X E → PlainEdge × PlainEdge
plain_pair of p = (plain of p.0, plain of p.1)

abbrev pub AreBoth : PlainEdge × PlainEdge → PlainEdge × PlainEdge → Type 0
AreBoth p q = (p.0 ≡ q.0) × (p.1 ≡ q.1)

-- the sum of the high parts waits for that of the low ones, or the join for that of the high ones
abbrev pub IsAt : Walk → KindName → SumCall → PlainSum → SumCall → PlainParts → Bool → Type 0
IsAt walk k outer f inner parts false = (inner.view ≡ outer.view) × AreBoth inner.operands parts.low × (f.first ≡ parts.high.0) × (f.second ≡ parts.high.1)
IsAt walk k outer f inner parts true = AreBoth inner.operands parts.high × IsSum walk k outer.view inner.view parts.low (Ok f.first)

-- a sum waits in a frame for that of parts of what is left of its operands
pub record Waits (walk : Walk) (k : KindName) (outer : SumCall) (f : PlainSum) (inner : SumCall) : Type 0 where
  pub rests : PlainEdge × PlainEdge
  pub parts : PlainParts
  pub below : LieBelow k outer.view f.level parts
  pub are_rests : AreRests walk k outer.view outer.operands rests f.factor f.shift
  pub of_parts : (w : View) (r : Result PlainEdge Limit) → Keeps outer.view w → IsOfParts plus (sum_work walk) k outer.view w f.level parts r →
      IsSum walk k outer.view w rests r
  pub is_key : IsKeyOf Sum k rests.0 rests.1 f.key
  pub keeps : Keeps outer.view inner.view
  pub at : IsAt walk k outer f inner parts f.has_low

-- the walk over sums
abbrev pub sums : {K X E : Type 0} → Walk → KindName → (X → ℤ) → Walking (Edge K X E × Edge K X E) (Edge K X E) (PlainEdge × PlainEdge) (SumFrame K X E)
sums walk k of = record {
  operands = plain_pair of;
  edge = plain of;
  AreGood = λ v both. IsEdge k v both.0 × IsEdge k v both.1;
  IsAnswer = IsSum walk k;
  WaitsFor = λ outer f inner. Waits walk k outer (plain_sum of f) inner;
  top = λ v both. upper v both.0 both.1;
  level = λ f. f.level;
  rest = λ f. rest_of f.has_low;
}

-- where it is
abbrev pub Place : (K X E : Type 0) → Type 0
Place K X E = Step (Edge K X E × Edge K X E) (Edge K X E)

-- the sum of the parts is known, for which a frame waits
pub record IsWaiting (walk : Walk) (k : KindName) (v : View) (f : PlainSum) (known : PlainEdge) : Type 0 where
  pub outer : SumCall
  pub inner : SumCall
  pub waits : Waits walk k outer f inner
  pub keeps : Keeps inner.view v
  pub is_known : IsSum walk k inner.view v inner.operands (Ok known)

-- how a sum goes on
abbrev pub GoesOn : {K X E : Type 0} → Walk → KindName → (X → ℤ) → SumCall → View → PlainSum → PlainSum → Result (Place K X E) Limit → Type 0
GoesOn walk k of outer w f g (Ok (Below e)) = Waits walk k outer g (record { view = w; operands = plain_pair of e }) × (g.level ≡ f.level) × (f.has_low ≡ false) × (g.has_low ≡ true)
GoesOn walk k of outer w f g (Ok (Answer e)) = IsSum walk k outer.view w outer.operands (Ok (plain of e))
GoesOn walk k of outer w f g (Err e) = IsSum walk k outer.view w outer.operands (Err e)

abbrev pub Resumes : {K X E : Type 0} → Walk → KindName → (X → ℤ) → View → View → PlainSum → PlainSum → PlainEdge → Result (Place K X E) Limit → Type 0
Resumes walk k of v w f g known result = (at : IsWaiting walk k v f known) → GoesOn walk k of at.outer w f g result
