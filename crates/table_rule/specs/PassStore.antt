-- A pass as a store.
use Rattle.std.specs.Prelude.{◌≡◌, ℕ, zero, suc, List, [], ◌∷◌, ◌++◌, Bool, true, false, ◌&&◌, if◌then◌else◌, nat_lt, length}
use Rattle.std.specs.FinMap as map
use Rattle.record_store.specs.StoreView.{StoreView}
use Rattle.table_rule.specs.Counts.{times}
use Rattle.table_rule.specs.Words.{chunks}
use Rattle.table_rule.specs.declared.layout.Layout.{Layout}
use Rattle.table_rule.specs.declared.view.PassView.{PassView}

abbrev pub is_empty : List ℕ → Bool
is_empty [] = true
is_empty (x ∷ xs) = false

-- each number below n is among these
abbrev pub has_below : List ℕ → ℕ → Bool
has_below xs zero = true
has_below xs (suc n) = nat_lt 0 (times n xs) && has_below xs n

-- the pass owns no cell that it might publish, and has seen every chunk taken
abbrev pub is_spent : Layout → PassView → Bool
is_spent L v = is_empty v.held && has_below v.taken (chunks L)

-- What tells of the table, and then of the pass
abbrev pub stamp_of : List ℕ → Layout → PassView → List ℕ
stamp_of names L v = length names ∷ names ++ L.tokens ∷ length v.gone ∷ v.joined ∷ (if v.forked then 1 else 0) ∷ v.tokens

abbrev pub pass_store : List ℕ → Layout → PassView → StoreView
pass_store names L v = record {
  known = map.from_entries v.known;
  made = v.made;
  spent = is_spent L v;
  room = L.cells;
  stamp = stamp_of names L v;
}

-- From v to w a pass has learned of the table alone: it knows and made no more ids, and its stamp is the same
pub record HasLooked (v w : PassView) : Type 0 where
  pub known : w.known ≡ v.known
  pub made : w.made ≡ v.made
  pub gone : w.gone ≡ v.gone
  pub tokens : w.tokens ≡ v.tokens
  pub joined : w.joined ≡ v.joined
  pub forked : w.forked ≡ v.forked
  pub ended : w.ended ≡ v.ended
