-- What a builder's value is, and what an edge stands for in it.
use Rattle.std.specs.Prelude.{◌≡◌, ℕ, ◌-◌, ◌≤◌, List, [], ◌∷◌, None, true, ◌++◌, drop, length, slice_index, unwrap_or, slice_get, refl}
use Rattle.std.specs.Coded.{Coded, code_by, coded×, coded_list}
use Rattle.std.specs.Option.{option_map_or}
use Rattle.word_base.specs.declared.decomp.Decomp.{Decomp}
use Rattle.word_base.specs.declared.decomp.Decomp.TheVariants.{S, P, N}
use Rattle.word_base.specs.declared.kind_name.KindName.{KindName}
use Rattle.word_base.specs.contracts.decomp.Decomp.{the_row}
use Rattle.record_store.specs.StoreView.{StoreView, find_in, view_code as store_code}
use Rattle.tables.specs.Laws.{are_allowed}
use Rattle.tables.specs.Table.{Table}
use Rattle.kind_laws.specs.Graph.{Extends, StandsFor, IsGoodStore}
use Rattle.kind_laws.specs.Plain.{PlainEdge}

-- the store, and the letters from the top level down
pub record View : Type 0 where
  pub store : StoreView
  pub letters : List Decomp

-- a view is stored as the pair of its parts
abbrev pub view_code : Coded View
view_code =
    code_by (StoreView × List Decomp) (coded× store_code (coded_list the_row.coded)) (λ v. (v.store, v.letters))
    (λ p. record { store = p.0; letters = p.1 }) (λ _. refl)

-- the letter of a level
abbrev pub letter_at : List Decomp → ℕ → Decomp
letter_at ds l = unwrap_or (slice_get ds l) P

-- the edge stands for the table over the levels from l on
pub record StandsAt (k : KindName) (v : View) (l : ℕ) (t : Table) (e : PlainEdge) : Type 0 where
  pub allowed : are_allowed k v.letters ≡ true
  pub no_zero : find_in v.store 0 ≡ None
  pub within : l ≤ length v.letters
  pub stands : StandsFor k (find_in v.store) (drop l v.letters) l t e.root e.node

-- the edge is good: it stands for a table over all levels
abbrev pub IsEdge : KindName → View → PlainEdge → Type 0
IsEdge k v e = (t : Table) × StandsAt k v 0 t e

-- the level of a node, and the number of levels for the leaf
abbrev pub top_of : View → ℕ → ℕ
top_of v id = option_map_or (λ body. slice_index body 0 - 1) (find_in v.store id) (length v.letters)

-- What stays: the letters and what names the store, and all that was known, so that each edge keeps its table. The store's
-- list of what it made itself grows at its end
pub record Keeps (old new : View) : Type 0 where
  pub letters : new.letters ≡ old.letters
  pub room : new.store.room ≡ old.store.room
  pub stamp : new.store.stamp ≡ old.store.stamp
  pub known : Extends (find_in old.store) (find_in new.store)
  pub no_zero : find_in old.store 0 ≡ None → find_in new.store 0 ≡ None
  pub gained : List ℕ
  pub made : new.store.made ≡ old.store.made ++ gained

-- what holds of every builder
pub record IsGood (k : KindName) (v : View) : Type 0 where
  pub allowed : are_allowed k v.letters ≡ true
  pub store : IsGoodStore k (find_in v.store) v.letters

second-letter : letter_at (S ∷ N ∷ []) 1 ≡ N
second-letter = refl
