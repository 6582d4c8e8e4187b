-- Walks whose pending work stands in a list of frames. Private functions and proofs alone use this.
use Rattle.std.specs.Prelude.{◌≡◌, ℕ, ◌+◌, ◌-◌, ◌*◌, ◌^◌, ◌≤◌, Bool, true, false, List, [], ◌∷◌, ◌++◌, length, Result, Ok, Err}
use Rattle.kind_laws.specs.Plain.{PlainEdge}
use Rattle.diagram.specs.View.{View, Keeps}
use Rattle.diagram.specs.declared.limit.Limit.{Limit}
use Rattle.diagram.specs.declared.step.Step.{Step}
use Rattle.diagram.specs.declared.step.Step.TheVariants.{Below, Answer}

-- calls of which each waits in a frame for the next, from the outermost one on
abbrev pub Chain : {T F : Type 0} → (T → F → T → Type 0) → T → List F → T → Type 0
Chain {T} Waits outer [] inner = outer ≡ inner
Chain {T} Waits outer (f ∷ fs) inner = (next : T) × Waits outer f next × Chain Waits next fs inner

-- each frame's level is at least its place
abbrev pub Climbs : {F : Type 0} → (F → ℕ) → ℕ → List F → Type 0
Climbs level place [] = Unit {0}
Climbs level place (f ∷ fs) = (place ≤ level f) × Climbs level (place + 1) fs

-- more than the steps of a call on nodes at a level or below it, over so many levels, where each call waits for six parts at most
abbrev pub cost : ℕ → ℕ → ℕ
cost levels level = 6 ^ (levels + 1 - level)

-- more than the steps that are left in the frames, each of which has so many parts to come
abbrev pub fuel : {F : Type 0} → (F → ℕ) → (F → ℕ) → ℕ → List F → ℕ
fuel level rest levels [] = 0
fuel level rest levels (f ∷ fs) = (rest f * (cost levels (level f + 1) + 1) + 1) + fuel level rest levels fs

-- how many parts a frame still has to begin that waits for two, where the first of them is known or is not
abbrev pub rest_of : Bool → ℕ
rest_of false = 1
rest_of true = 0

-- ---- walks
-- a call that was begun at a view
pub record Call (O : Type 0) : Type 0 where
  pub view : View
  pub operands : O

-- a walk: its calls by their operands, what answers one from one view to another, and the frames in which they wait
pub record Walking (B A O F : Type 0) : Type 1 where
  pub operands : B → O
  pub edge : A → PlainEdge
  pub AreGood : View → O → Type 0
  pub IsAnswer : View → View → O → Result PlainEdge Limit → Type 0
  pub WaitsFor : Call O → F → Call O → Type 0
  -- the level of the upper node
  pub top : View → O → ℕ
  pub level : F → ℕ
  -- how many parts a frame still has to begin
  pub rest : F → ℕ

-- a call waits in a new frame for that on a part, with three parts to come at most
pub record IsPushed {B A O F : Type 0} (walking : Walking B A O F) (v : View) (a : O) (old new : List F) (part : B) : Type 0 where
  pub frame : F
  pub pushed : new ≡ old ++ frame ∷ []
  pub waits : walking.WaitsFor (record { view = v; operands = a }) frame (record { view = v; operands = walking.operands part })
  pub level_is : walking.level frame ≡ walking.top v a
  pub few : walking.rest frame ≤ 3

-- how a call begins
abbrev pub Begins : {B A O F : Type 0} → Walking B A O F → View → O → List F → List F → Result (Step B A) Limit → Type 0
Begins walking v a old new (Ok (Below part)) = IsPushed walking v a old new part
Begins walking v a old new (Ok (Answer e)) = (new ≡ old) × walking.IsAnswer v v a (Ok (walking.edge e))
Begins walking v a old new (Err e) = walking.IsAnswer v v a (Err e)

-- where a walk is: at a part that is to be begun, or at the answer to the innermost call
abbrev pub IsStep : {B A O F : Type 0} → Walking B A O F → View → List F → Call O → Step B A → Type 0
IsStep walking v frames inner (Below part) =
    (inner ≡ record { view = v; operands = walking.operands part }) × walking.AreGood v (walking.operands part) × (length frames ≤ walking.top v (walking.operands part))
IsStep walking v frames inner (Answer e) = Keeps inner.view v × walking.IsAnswer inner.view v inner.operands (Ok (walking.edge e))

-- a walk that is under way: its frames lead from the first call to the innermost one
pub record IsUnderWay {B A O F : Type 0} (walking : Walking B A O F) (first : Call O) (v : View) (frames : List F) (step : Step B A) : Type 0 where
  pub inner : Call O
  pub chain : Chain walking.WaitsFor first frames inner
  pub climbs : Climbs walking.level 0 frames
  pub keeps : Keeps first.view v
  pub at : IsStep walking v frames inner step

-- more than the steps that are left
abbrev pub step_cost : {B A O F : Type 0} → Walking B A O F → View → Step B A → ℕ
step_cost walking v (Below part) = cost (length v.letters) (walking.top v (walking.operands part))
step_cost walking v (Answer e) = 0

abbrev pub steps_left : {B A O F : Type 0} → Walking B A O F → View → List F → Step B A → ℕ
steps_left walking v frames step = fuel walking.level walking.rest (length v.letters) frames + step_cost walking v step
