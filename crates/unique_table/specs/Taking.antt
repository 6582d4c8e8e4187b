-- What one atomic step on the words asks and tells.
use Rattle.std.specs.Prelude.{◌≡◌, ℕ, slice_get, slice_index, slice_set, Some, false}
use Rattle.atomic_table.specs.Table as atomic
use Rattle.atomic_table.specs.declared.shared.Seat.{Seat}
use Rattle.table_rule.specs.Laws.{IsRuled, IsViewOf}
use Rattle.table_rule.specs.Rule.{Rule}
use Rattle.table_rule.specs.Steps.{State, Event, fork, IsAllowed, words_after, view_after, views_after}
use Rattle.table_rule.specs.Words.{IsLayout}
use Rattle.table_rule.specs.declared.layout.Layout.{Layout}
use Rattle.table_rule.specs.declared.view.PassView.{PassView}

abbrev pub no_layout : Layout
no_layout = record { buckets = 0; cells = 0; chunk = 0; tokens = 0 }

abbrev pub no_event : ℕ → Event
no_event n = fork

-- the words and the views of a table keep the rule
abbrev pub IsTable : Layout → atomic.State (Unit {0}) PassView → Type 0
IsTable L s = IsLayout L × Rule L s.words s.views

-- Whatever the table is, the pass may take the step, which leaves f of the word that it finds and changes no view but its own
pub record CanTake (L : Layout) (event : ℕ → Event) (v : PassView) (word : ℕ) (f : ℕ → ℕ) : Type 0 where
  pub live : v.ended ≡ false
  pub allowed : (s : State) (p : ℕ) → IsLayout L → IsRuled L s → slice_get s.views p ≡ Some v → IsAllowed L s p v (event (slice_index s.words word))
  pub leaves : (s : State) (p : ℕ) → words_after L s p v (event (slice_index s.words word)) ≡ slice_set s.words word (f (slice_index s.words word))
  pub own : (s : State) (p : ℕ) (n : ℕ) → views_after L s p v (event n) ≡ slice_set s.views p (view_after L s p v (event n))

-- The pass found the number at the word, in a table that kept the rule, and learned of it what the step tells
pub record HasTaken (L : Layout) (event : ℕ → Event) (v : PassView) (word found : ℕ) (w : PassView) : Type 0 where
  pub state : State
  pub pass : ℕ
  pub layout : IsLayout L
  pub ruled : IsRuled L state
  pub stands : slice_get state.views pass ≡ Some v
  pub is_found : slice_index state.words word ≡ found
  pub learned : w ≡ view_after L state pass v (event found)
  pub after : IsViewOf L w

abbrev pub Told : Layout → (ℕ → Event) → atomic.Step (Unit {0}) → atomic.Me (Unit {0}) PassView → ℕ → atomic.Me (Unit {0}) PassView → Type 0
Told L event st m n w = HasTaken L event m.0 st.word n w.0 × (w.1 ≡ m.1)

-- the pass wrote a word, and its view is as the step says, whatever was found
abbrev pub HasWritten : Layout → (ℕ → Event) → PassView → PassView → Type 0
HasWritten L event v w = (found : ℕ) × (word : ℕ) × HasTaken L event v word found w

abbrev pub ToldWriter : Layout → (ℕ → Event) → atomic.Step (Unit {0}) → atomic.Me (Unit {0}) PassView → ℕ → atomic.Me (Unit {0}) PassView → Type 0
ToldWriter L event st m n w = HasWritten L event m.0 w.0 × (w.1 ≡ m.1)

abbrev pub IsSameSeat : Seat (Unit {0}) PassView → Seat (Unit {0}) PassView → Type 0
IsSameSeat p q = (q.table_id ≡ p.table_id) × (q.id ≡ p.id) × (q.me.1 ≡ p.me.1)
