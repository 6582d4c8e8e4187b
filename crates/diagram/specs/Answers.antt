-- What one call of a builder made, answers, and why it refuses, by the tables of its work.
use Rattle.std.specs.Prelude.{◌≡◌, ℕ, List, ◌⊎◌, Result, Err, IfOk, IsTrue}
use Rattle.std.specs.List.{Contains}
use Rattle.word_base.specs.declared.kind_name.KindName.{KindName}
use Rattle.record_store.specs.StoreView.{find_in}
use Rattle.tables.specs.Table.{Table}
use Rattle.tables.specs.Tree.{Shape}
use Rattle.tables.specs.Pieces.{Piece, InNodes, SomeUnfit}
use Rattle.kind_laws.specs.Graph.{HasShape}
use Rattle.kind_laws.specs.Plain.{PlainEdge}
use Rattle.diagram.specs.declared.limit.Limit.{Limit}
use Rattle.diagram.specs.declared.limit.Limit.TheVariants as limit
use Rattle.diagram.specs.View.{View, StandsAt}

-- an id has the shape of some node of the pieces' diagrams
abbrev pub HasNodeShape : KindName → View → List Piece → ℕ → Type 0
HasNodeShape k v ps id = (s : Shape) × InNodes k v.letters ps s × HasShape k (find_in v.store) id s

-- some node of the pieces' diagrams is the shape of no id
abbrev pub SomeUnknown : KindName → View → List Piece → Type 0
SomeUnknown k v ps = (s : Shape) × InNodes k v.letters ps s × ((id : ℕ) → HasShape k (find_in v.store) id s → ⊥)

-- what the store's own list gained is nodes of the pieces' diagrams
abbrev pub Makes : KindName → View → View → List Piece → Type 0
Makes k old new ps = (id : ℕ) → Contains new.store.made id → Contains old.store.made id ⊎ HasNodeShape k new ps id

-- `Overflow` only where some piece does not fit, and `Full` only where the store is spent and some node of these diagrams
-- is not in it
pub record HasCause {X : Type 0} (k : KindName) (new : View) (ps : List Piece) (result : Result X Limit) : Type 0 where
  pub overflow : result ≡ Err limit.Overflow → SomeUnfit k new.letters ps
  pub full : result ≡ Err limit.Full → IsTrue new.store.spent × SomeUnknown k new ps

-- a call makes no node but those of its pieces, and refuses by them alone
pub record Causes {X : Type 0} (k : KindName) (old new : View) (ps : List Piece) (result : Result X Limit) : Type 0 where
  pub made : Makes k old new ps
  pub cause : HasCause k new ps result

-- a call answers an edge that stands for the table from the level on, or refuses by its pieces, and makes no node but theirs
pub record Answers (k : KindName) (old new : View) (ps : List Piece) (l : ℕ) (t : Table) (result : Result PlainEdge Limit) : Type 0 where
  pub made : Makes k old new ps
  pub cause : HasCause k new ps result
  pub stands : IfOk result (λ e. StandsAt k new l t e)
