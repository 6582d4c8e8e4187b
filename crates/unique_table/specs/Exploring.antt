-- What a pass learns on a path.
use Rattle.std.specs.Prelude.{◌≡◌, ◌≢◌, ℕ, List, slice_index}
use Rattle.table_rule.specs.Counts.{IsIn}
use Rattle.table_rule.specs.PassStore.{HasLooked}
use Rattle.table_rule.specs.Views.{know}
use Rattle.table_rule.specs.declared.view.PassView.{PassView}

-- From v to w a pass knows and made no more ids, and forgot nothing that it had seen
pub record HasExplored (v w : PassView) : Type 0 where
  pub looked : HasLooked v w
  pub seen : (b id : ℕ) → IsIn v.seen (b, id) → IsIn w.seen (b, id)
  pub words : (id i word : ℕ) → IsIn v.words (id, i, word) → IsIn w.words (id, i, word)

-- and it owns the same cells, with the same draft
pub record HasOnlyRead (v w : PassView) : Type 0 where
  pub explored : HasExplored v w
  pub held : w.held ≡ v.held
  pub draft : w.draft ≡ v.draft
  pub taken : w.taken ≡ v.taken

-- the pass has read the body under the id, and knows it from then on
pub record HasLearned (v : PassView) (id : ℕ) (node : List ℕ) (w : PassView) : Type 0 where
  pub before : PassView
  pub read : HasOnlyRead v before
  pub known : w ≡ know id node before

-- the pass has read a word in which the body under the id differs from this one
pub record HasFoundOther (v : PassView) (id : ℕ) (node : List ℕ) (w : PassView) : Type 0 where
  pub read : HasOnlyRead v w
  pub place : ℕ
  pub word : ℕ
  pub there : IsIn w.words (id, place, word)
  pub other : word ≢ slice_index node place

-- the view with this draft
abbrev pub drafted : List ℕ → PassView → PassView
drafted node v = record v { draft = node }
