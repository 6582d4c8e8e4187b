-- Passes as stores, and what they are to each other.
use Rattle.std.specs.Prelude.{◌≡◌, ◌⊎◌, ◌↔◌, ℕ, ◌<◌, ◌≤◌, ◌++◌, length, [], IsTrue, None, false}
use Rattle.record_store.specs.StoreView.{StoreView, find_in}
use Rattle.table_rule.specs.Counts.{IsIn}
use Rattle.table_rule.specs.Laws.{IsWhole, OwnsAll}
use Rattle.table_rule.specs.PassStore.{pass_store}
use Rattle.table_rule.specs.Stamps.{gone_count}
use Rattle.table_rule.specs.Stores.{IsSoundStore, HasJoined}
use Rattle.table_rule.specs.Words.{chunks}
use Rattle.table_rule.specs.declared.view.PassView.{PassView}
use Rattle.unique_table.specs.declared.table.TheConstants.{CHUNK}
use Rattle.unique_table.specs.declared.token.PassValue.{PassValue}

abbrev pub pass_view : PassValue → StoreView
pass_view p = pass_store p.names p.layout p.view

-- the pass with another view of its table
abbrev pub with_view : PassValue → PassView → PassValue
with_view p v = record p { view = v }

-- both are passes of one table
abbrev pub IsOneTable : PassValue → PassValue → Type 0
IsOneTable p q = (q.names ≡ p.names) × (q.layout ≡ p.layout)

-- what holds of every pass
pub record IsSoundPass (p : PassValue) : Type 0 where
  pub live : p.view.ended ≡ false
  pub store : IsSoundStore CHUNK (pass_view p)
  -- one that knows nothing owns no cell, and none was given up to it
  pub empty : ((id : ℕ) → find_in (pass_view p) id ≡ None) → (p.view.held ≡ []) × (gone_count (pass_view p).stamp ≡ 0)
  -- the cells that it owns are few
  pub held : length p.view.held ≤ CHUNK
  -- it is spent exactly where it owns no cell and has seen every chunk taken
  pub spent : IsTrue (pass_view p).spent ↔ ((p.view.held ≡ []) × ((h : ℕ) → h < chunks p.layout → IsIn p.view.taken h))
  -- a pass with all tokens of its table that was never forked owns each cell of each chunk that it has seen taken
  pub whole : IsWhole p.layout p.view → OwnsAll p.layout p.view

-- the pass p took in q, and is now r
pub record HasMet (p q r : PassValue) : Type 0 where
  pub table : IsOneTable p r
  pub stores : HasJoined CHUNK (pass_view p) (pass_view q) (pass_view r)
  -- it owns its own cells, and those of the other are given up
  pub held : r.view.held ≡ p.view.held
  pub gone : r.view.gone ≡ p.view.gone ++ q.view.held ++ q.view.gone
  -- it has seen taken what either has
  pub taken : (h : ℕ) → IsIn p.view.taken h ⊎ IsIn q.view.taken h → IsIn r.view.taken h
