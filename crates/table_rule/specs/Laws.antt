-- The laws of the rule: it holds at the start, each step keeps it, and what follows for the passes.
use Rattle.std.specs.Prelude.{◌≡◌, ◌≢◌, ◌⊎◌, ℕ, ◌+◌, ◌<◌, ◌≤◌, List, [], ◌∷◌, slice_get, Some, replicate, true, false}
use Rattle.table_rule.specs.Counts.{times, IsIn}
use Rattle.table_rule.specs.Rule.{Rule}
use Rattle.table_rule.specs.Steps.{State, Event, IsStep}
use Rattle.table_rule.specs.Views.{first_view}
use Rattle.table_rule.specs.Words.{IsLayout, word_count, chunk_of, bucket}
use Rattle.table_rule.specs.declared.layout.Layout.{Layout}
use Rattle.table_rule.specs.declared.view.PassView.{PassView}

-- the table when it is made: each word is 0, and the first pass has all tokens
abbrev pub blank : Layout → State
blank L = record { words = replicate (word_count L) 0; views = first_view L ∷ [] }

abbrev pub IsRuled : Layout → State → Type 0
IsRuled L s = Rule L s.words s.views

-- the steps of the passes, in the order in which they come, lead from s to t
abbrev pub IsRun : Layout → List (ℕ × Event) → State → State → Type 0
IsRun L [] s t = s ≡ t
IsRun L (x ∷ xs) s t = (m : State) × IsStep L x.0 x.1 s m × IsRun L xs m t

abbrev pub RuleBegins : Type 0
RuleBegins = (L : Layout) → IsLayout L → IsRuled L (blank L)

abbrev pub StepsKeepTheRule : Type 0
StepsKeepTheRule = (L : Layout) (p : ℕ) (e : Event) (s t : State) → IsLayout L → IsRuled L s → IsStep L p e s t → IsRuled L t

-- whatever the order of the steps
abbrev pub RuleAlwaysHolds : Type 0
RuleAlwaysHolds = (L : Layout) (steps : List (ℕ × Event)) (s : State) → IsLayout L → IsRun L steps (blank L) s → IsRuled L s

-- some pass has this view, in a table that keeps the rule
pub record IsViewOf (L : Layout) (v : PassView) : Type 0 where
  pub words : List ℕ
  pub views : List PassView
  pub pass : ℕ
  pub stands : slice_get views pass ≡ Some v
  pub ruled : Rule L words views

-- no body is known under two ids, no id with two bodies, and each id is that of a cell
pub record KnowsOnce (L : Layout) (v : PassView) : Type 0 where
  pub ids : (id other : ℕ) (node : List ℕ) → IsIn v.known (id, node) → IsIn v.known (other, node) → id ≡ other
  pub bodies : (id : ℕ) (node other : List ℕ) → IsIn v.known (id, node) → IsIn v.known (id, other) → node ≡ other
  pub within : (id : ℕ) (node : List ℕ) → IsIn v.known (id, node) → (0 < id) × (id ≤ L.cells)

-- each id that it made is known to it, and stands once in the list
pub record MakesOnce (v : PassView) : Type 0 where
  pub once : (id : ℕ) → times id v.made ≤ 1
  pub known : (id : ℕ) → IsIn v.made id → (node : List ℕ) × IsIn v.known (id, node)

abbrev pub PassesKnowOnce : Type 0
PassesKnowOnce = (L : Layout) (v : PassView) → IsLayout L → IsViewOf L v → KnowsOnce L v

abbrev pub PassesMakeOnce : Type 0
PassesMakeOnce = (L : Layout) (v : PassView) → IsLayout L → IsViewOf L v → MakesOnce v

-- the pass has all tokens of the table, and was never forked
pub record IsWhole (L : Layout) (v : PassView) : Type 0 where
  pub unforked : v.forked ≡ false
  pub live : v.ended ≡ false
  pub tokens : (t : ℕ) → t < L.tokens → IsIn v.tokens t

-- no other pass is alive beside a whole one
abbrev pub WholeIsAlone : Type 0
WholeIsAlone = (L : Layout) (s : State) (p q : ℕ) (v u : PassView) → IsRuled L s → slice_get s.views p ≡ Some v → slice_get s.views q ≡ Some u → q ≢ p → IsWhole L v → u.ended ≡ true

-- the cell's id stands in the made list, or it is an unused cell, or one that was given up
abbrev pub IsAccounted : PassView → ℕ → Type 0
IsAccounted v cell = IsIn v.made (cell + 1) ⊎ (IsIn v.held cell ⊎ IsIn v.gone cell)

-- each cell of each chunk that it has seen taken is its own
abbrev pub OwnsAll : Layout → PassView → Type 0
OwnsAll L v = (cell : ℕ) → cell < L.cells → IsIn v.taken (chunk_of L cell) → IsAccounted v cell

abbrev pub WholePassesOwnAll : Type 0
WholePassesOwnAll = (L : Layout) (v : PassView) → IsLayout L → IsViewOf L v → IsWhole L v → OwnsAll L v

-- some bucket is empty
abbrev pub BucketsAreLeft : Type 0
BucketsAreLeft = (L : Layout) (s : State) → IsLayout L → IsRuled L s → (b : ℕ) × (b < L.buckets) × (bucket L s.words b ≡ 0)
