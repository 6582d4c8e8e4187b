-- Multiples that wait for those of the parts of their operands. Private functions and proofs alone use this.
use Rattle.std.specs.Prelude.{◌≡◌, ℕ, ℤ, Bool, true, false, Result, Ok, Err}
use Rattle.word_base.specs.declared.kind_name.KindName.{KindName}
use Rattle.tables.specs.Table.{multiple}
use Rattle.tables.specs.Pieces.{scale_work}
use Rattle.kind_laws.specs.Plain.{PlainEdge, plain, constant_edge}
use Rattle.kind_laws.specs.declared.kind.Edge.{Edge}
use Rattle.result_cache.specs.declared.key.CacheKey.{CacheKey}
use Rattle.diagram.specs.Calls.{IsOfEach, IsOfPart, PartLiesBelow}
use Rattle.diagram.specs.Frames.{Call, Walking, rest_of}
use Rattle.diagram.specs.Remembered.{IsKeyOf}
use Rattle.diagram.specs.View.{View, IsEdge, top_of, Keeps}
use Rattle.diagram.specs.declared.limit.Limit.{Limit}
use Rattle.diagram.specs.declared.multiple_walk.MultipleFrame.{MultipleFrame}
use Rattle.diagram.specs.declared.operation.Operation.TheVariants.{Product}
use Rattle.diagram.specs.declared.step.Step.{Step}
use Rattle.diagram.specs.declared.step.Step.TheVariants.{Below, Answer}

-- the multiple of an edge, from one view to another
abbrev pub IsMultiple : ℤ → KindName → View → View → PlainEdge → Result PlainEdge Limit → Type 0
IsMultiple c k v w a result = IsOfEach (multiple c) (scale_work c) k v w a result

abbrev pub MultipleCall : Type 0
MultipleCall = Call PlainEdge

pub record PlainMultiple : Type 0 where
  pub key : CacheKey
  pub level : ℕ
  pub has_low : Bool
  pub part : PlainEdge

abbrev pub plain_multiple : {K X E : Type 0} → (X → ℤ) → MultipleFrame K X E → PlainMultiple
plain_multiple of f = record { key = f.key; level = f.level; has_low = f.has_low; part = plain of f.part }

-- the multiple of the high part waits for that of the low one, or the join for that of the high one
abbrev pub IsAt : ℤ → KindName → MultipleCall → PlainMultiple → MultipleCall → PlainEdge → PlainEdge → Bool → Type 0
IsAt c k outer f inner low high false = (inner.view ≡ outer.view) × (inner.operands ≡ low) × (f.part ≡ high)
IsAt c k outer f inner low high true = (inner.operands ≡ high) × IsMultiple c k outer.view inner.view low (Ok f.part)

-- a multiple waits in a frame for that of a part
pub record Waits (c : ℤ) (k : KindName) (outer : MultipleCall) (f : PlainMultiple) (inner : MultipleCall) : Type 0 where
  pub low : PlainEdge
  pub high : PlainEdge
  pub below : PartLiesBelow k outer.view f.level low high
  pub of_part : (w : View) (r : Result PlainEdge Limit) → Keeps outer.view w → IsOfPart (multiple c) (scale_work c) k outer.view w f.level low high r →
      IsMultiple c k outer.view w outer.operands r
  pub good : IsEdge k outer.view outer.operands
  pub is_key : IsKeyOf Product k (constant_edge k c) outer.operands f.key
  pub keeps : Keeps outer.view inner.view
  pub at : IsAt c k outer f inner low high f.has_low

-- the walk over multiples
abbrev pub multiples : {K X E : Type 0} → ℤ → KindName → (X → ℤ) → Walking (Edge K X E) (Edge K X E) PlainEdge (MultipleFrame K X E)
multiples c k of = record {
  operands = plain of;
  edge = plain of;
  AreGood = IsEdge k;
  IsAnswer = IsMultiple c k;
  WaitsFor = λ outer f inner. Waits c k outer (plain_multiple of f) inner;
  top = λ v a. top_of v a.node;
  level = λ f. f.level;
  rest = λ f. rest_of f.has_low;
}

-- where it is
abbrev pub Place : (K X E : Type 0) → Type 0
Place K X E = Step (Edge K X E) (Edge K X E)

-- the multiple of a part is known, for which a frame waits
pub record IsWaiting (c : ℤ) (k : KindName) (v : View) (f : PlainMultiple) (known : PlainEdge) : Type 0 where
  pub outer : MultipleCall
  pub inner : MultipleCall
  pub waits : Waits c k outer f inner
  pub keeps : Keeps inner.view v
  pub is_known : IsMultiple c k inner.view v inner.operands (Ok known)

-- how a multiple goes on
abbrev pub GoesOn : {K X E : Type 0} → ℤ → KindName → (X → ℤ) → MultipleCall → View → PlainMultiple → PlainMultiple → Result (Place K X E) Limit → Type 0
GoesOn c k of outer w f g (Ok (Below e)) = Waits c k outer g (record { view = w; operands = plain of e }) × (g.level ≡ f.level) × (f.has_low ≡ false) × (g.has_low ≡ true)
GoesOn c k of outer w f g (Ok (Answer e)) = IsMultiple c k outer.view w outer.operands (Ok (plain of e))
GoesOn c k of outer w f g (Err e) = IsMultiple c k outer.view w outer.operands (Err e)

abbrev pub Resumes : {K X E : Type 0} → ℤ → KindName → (X → ℤ) → View → View → PlainMultiple → PlainMultiple → PlainEdge → Result (Place K X E) Limit → Type 0
Resumes c k of v w f g known result = (at : IsWaiting c k v f known) → GoesOn c k of at.outer w f g result
