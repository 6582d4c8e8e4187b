-- What comes of the buckets on the path of a body.
use Rattle.std.specs.Prelude.{◌≡◌, ◌⊎◌, ℕ, ◌<◌, List, [], ◌∷◌, ◌++◌, true, Bool, Result, Ok, Err}
use Rattle.record_store.specs.declared.store.StoreFull.{StoreFull}
use Rattle.table_rule.specs.Counts.{IsIn}
use Rattle.table_rule.specs.PassStore.{is_spent}
use Rattle.table_rule.specs.Steps.{Differs}
use Rattle.table_rule.specs.declared.layout.Layout.{Layout}
use Rattle.table_rule.specs.declared.view.PassView.{PassView}
use Rattle.unique_table.specs.Exploring.{HasExplored, HasOnlyRead}
use Rattle.unique_table.specs.declared.probe.Claim.{Claim}
use Rattle.unique_table.specs.declared.probe.Claim.TheVariants.{Made, Taken, Spent}
use Rattle.unique_table.specs.declared.probe.Visit.{Visit}
use Rattle.unique_table.specs.declared.probe.Visit.TheVariants.{Found, Other, Full}
use Rattle.unique_table.specs.declared.stock.Stock.{Stock}

-- the body stands in the draft, in the next cell that the pass owns
abbrev pub IsDrafted : PassView → List ℕ → Stock → Type 0
IsDrafted v node s = (v.draft ≡ node) × (s.next < s.end)

-- the id was added to what the pass knows, and to what it made where it was the pass that published it
pub record HasAdded (v : PassView) (id : ℕ) (node : List ℕ) (w : PassView) : Type 0 where
  pub known : w.known ≡ v.known ++ (id, node) ∷ []
  pub made : (w.made ≡ v.made) ⊎ ((w.made ≡ v.made ++ id ∷ []) × ((other : List ℕ) → IsIn v.known (id, other) → ⊥))
  pub gone : w.gone ≡ v.gone
  pub tokens : w.tokens ≡ v.tokens
  pub joined : w.joined ≡ v.joined
  pub forked : w.forked ≡ v.forked
  pub ended : w.ended ≡ v.ended

-- the body is not known
abbrev pub IsNew : PassView → List ℕ → Type 0
IsNew v node = (id : ℕ) → IsIn v.known (id, node) → ⊥

-- an id was found in the bucket
pub record HasLost (v : PassView) (b id : ℕ) (w : PassView) : Type 0 where
  pub explored : HasExplored v w
  pub there : IsIn w.seen (b, id)
  pub some : 0 < id

-- no cell is left, and every chunk is taken
pub record HasNoCell (L : Layout) (v w : PassView) : Type 0 where
  pub explored : HasExplored v w
  pub spent : is_spent L w ≡ true

-- what came of a bucket that was empty
abbrev pub Settles : Layout → PassView → List ℕ → ℕ → Claim → Stock → PassView → Type 0
Settles L v node b (Made id) s w = HasAdded v id node w
Settles L v node b (Taken id) s w = HasLost v b id w × IsDrafted w node s
Settles L v node b Spent s w = HasNoCell L v w

-- what came of a bucket, before its body is compared
abbrev pub Claims : Layout → PassView → List ℕ → ℕ → Claim → Bool → Stock → PassView → Type 0
Claims L v node b (Made id) drafted s w = HasAdded v id node w
Claims L v node b (Taken id) drafted s w = HasLost v b id w × (drafted ≡ true → IsDrafted w node s)
Claims L v node b Spent drafted s w = HasNoCell L v w × IsNew v node

-- what came of a bucket
abbrev pub Visits : Layout → PassView → List ℕ → ℕ → Visit → Bool → Stock → PassView → Type 0
Visits L v node b (Found id) drafted s w = HasAdded v id node w
Visits L v node b Other drafted s w = HasExplored v w × Differs w node b × (drafted ≡ true → IsDrafted w node s)
Visits L v node b Full drafted s w = HasNoCell L v w × IsNew v node

-- what came of a comparison with the body under an id that was seen in the bucket
abbrev pub Compares : PassView → List ℕ → ℕ → Visit → PassView → Type 0
Compares v node b (Found id) w = HasAdded v id node w
Compares v node b Other w = HasOnlyRead v w × Differs w node b
Compares v node b Full w = ⊥

-- what came of the whole path: the body's id, or no room for a body that is not known
abbrev pub Ends : Layout → PassView → List ℕ → Result ℕ StoreFull → PassView → Type 0
Ends L v node (Ok id) w = HasAdded v id node w
Ends L v node (Err e) w = HasNoCell L v w × IsNew v node
