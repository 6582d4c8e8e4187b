-- What holds of the fields of every builder.
use Rattle.std.specs.Prelude.{◌≡◌, ℕ, ◌≤◌, List, Bool, Some, length}
use Rattle.word_base.specs.declared.kind_name.KindName.{KindName}
use Rattle.record_store.specs.StoreView.{StoreView, find_in}
use Rattle.result_cache.specs.Cache.{Places}
use Rattle.diagram.specs.Remembered.{AreRight}
use Rattle.diagram.specs.View.{View, IsGood}

-- there is a mark for each node
pub record HasMarks (store : StoreView) (marks : List Bool) : Type 0 where
  pub within : (id : ℕ) (body : List ℕ) → find_in store id ≡ Some body → id ≤ store.room
  pub room : store.room ≤ length marks

pub record IsSound (k : KindName) (v : View) (cache : Places) (marks : List Bool) : Type 0 where
  pub good : IsGood k v
  pub right : AreRight k v cache
  pub marked : HasMarks v.store marks
