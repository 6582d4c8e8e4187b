-- What passes are as stores, told by their views as stores alone: one pass, two of one table, and two that met.
use Rattle.std.specs.Prelude.{◌≡◌, ◌⊎◌, ◌↔◌, ℕ, ◌+◌, ◌*◌, ◌<◌, ◌≤◌, List, ◌++◌, length, Some, IsTrue, false}
use Rattle.record_store.specs.StoreView.{StoreView, find_in, IsKnown}
use Rattle.table_rule.specs.Counts.{times, IsIn}
use Rattle.table_rule.specs.Laws.{IsViewOf}
use Rattle.table_rule.specs.PassStore.{pass_store}
use Rattle.table_rule.specs.Stamps.{table_part, token_count, gone_count, joined_count, forked_mark, tokens_in}
use Rattle.table_rule.specs.Views.{joined_view}
use Rattle.table_rule.specs.Words.{IsLayout}
use Rattle.table_rule.specs.declared.layout.Layout.{Layout}
use Rattle.table_rule.specs.declared.view.PassView.{PassView}

-- both are passes of one table
pub record AreOfOneTable (v u : StoreView) : Type 0 where
  pub room : u.room ≡ v.room
  pub table : table_part u.stamp ≡ table_part v.stamp

-- the pass has all tokens of its table, and was never forked
pub record IsWholeStore (v : StoreView) : Type 0 where
  pub unforked : forked_mark v.stamp ≡ 0
  pub tokens : (t : ℕ) → t < token_count v.stamp → IsIn (tokens_in v.stamp) t

-- what holds of every pass of a table whose chunks have so many cells
pub record IsSoundStore (chunk : ℕ) (v : StoreView) : Type 0 where
  -- no body is known under two ids
  pub once : (i j : ℕ) (node : List ℕ) → find_in v i ≡ Some node → find_in v j ≡ Some node → i ≡ j
  pub within : (id : ℕ) → IsKnown v id → (0 < id) × (id ≤ v.room)
  -- the ids that it made are different, and known
  pub made_once : (id : ℕ) → times id v.made ≤ 1
  pub made_known : (id : ℕ) → IsIn v.made id → IsKnown v id
  -- each pass that met in it gave up a chunk at most
  pub gone : gone_count v.stamp ≤ chunk * joined_count v.stamp
  -- where a whole pass is spent, every cell was published, but for those that were given up
  pub published : IsWholeStore v → IsTrue v.spent → v.room ≤ length v.made + gone_count v.stamp
  -- and every one where no pass has met in it
  pub all_published : IsWholeStore v → IsTrue v.spent → joined_count v.stamp ≡ 0 → (id : ℕ) → 0 < id → id ≤ v.room → IsIn v.made id

-- cells of u that it did not publish are given up
pub record HasGivenUp (chunk : ℕ) (v u w : StoreView) : Type 0 where
  pub unused : ℕ
  pub few : unused ≤ chunk
  pub none : IsTrue u.spent → unused ≡ 0
  pub gone : gone_count w.stamp ≡ gone_count v.stamp + unused + gone_count u.stamp

-- From the store v of a pass and the store u of one that met in it, w is what the first has become
pub record HasJoined (chunk : ℕ) (v u w : StoreView) : Type 0 where
  pub one_table : AreOfOneTable v w
  -- it knows what either knew, under the same ids, and nothing else
  pub own : (id : ℕ) (node : List ℕ) → find_in v id ≡ Some node → find_in w id ≡ Some node
  pub others : (id : ℕ) (node : List ℕ) → find_in u id ≡ Some node → find_in w id ≡ Some node
  pub at_most : (id : ℕ) (node : List ℕ) → find_in w id ≡ Some node → (find_in v id ≡ Some node) ⊎ (find_in u id ≡ Some node)
  pub made : w.made ≡ v.made ++ u.made
  -- it stays spent
  pub spent : IsTrue v.spent → IsTrue w.spent
  pub given_up : HasGivenUp chunk v u w
  pub joined : joined_count w.stamp ≡ joined_count v.stamp + joined_count u.stamp + 1
  pub forked : (forked_mark w.stamp ≡ 0) ↔ ((forked_mark v.stamp ≡ 0) × (forked_mark u.stamp ≡ 0))
  pub tokens : tokens_in w.stamp ≡ tokens_in v.stamp ++ tokens_in u.stamp

-- each pass is a sound store
abbrev pub PassesAreSound : Type 0
PassesAreSound = (names : List ℕ) (L : Layout) (v : PassView) → IsLayout L → IsViewOf L v → v.ended ≡ false → IsSoundStore L.chunk (pass_store names L v)

-- and two that meet are joined
abbrev pub PassesJoin : Type 0
PassesJoin = (names : List ℕ) (L : Layout) (v u : PassView) → IsLayout L → IsViewOf L v → IsViewOf L u → IsViewOf L (joined_view v u) → HasJoined L.chunk (pass_store names L v) (pass_store names L u) (pass_store names L (joined_view v u))
