-- What an edge stands for, over the bodies that are known by their ids.
use Rattle.std.specs.Prelude.{◌≡◌, ℕ, zero, suc, List, [], ◌∷◌, Option, Some, None, length}
use Rattle.word_base.specs.declared.decomp.Decomp.{Decomp}
use Rattle.word_base.specs.declared.kind_name.KindName.{KindName}
use Rattle.tables.specs.Table.{Table, IsOver}
use Rattle.tables.specs.Tree.{Weights, Shape, leaf, node}
use Rattle.tables.specs.Canonical.{canonical}
use Rattle.kind_laws.specs.declared.fields.Fields.{Fields}
use Rattle.kind_laws.specs.Body.{body_of, FitsBody, low_weights, high_weights, LeavesZeros}

-- the body that is known under an id
abbrev pub Lookup : Type 0
Lookup = ℕ → Option (List ℕ)

-- A body is known under the id which is that of a node of the level, whose edges have these weights, and whose children's
-- ids have what is said of them
pub record HasNode (k : KindName) (find : Lookup) (id level : ℕ) (a b : Weights) (Low High : ℕ → Type 0) : Type 0 where
  pub fields : Fields
  pub fits : FitsBody fields
  pub zeros : LeavesZeros k fields
  pub known : find id ≡ Some (body_of fields)
  pub level_is : fields.level ≡ level
  pub low_is : low_weights k fields ≡ a
  pub high_is : high_weights k fields ≡ b
  pub low : Low fields.low
  pub high : High fields.high

-- The shape of an id: the leaf under 0, and else that of the body that is known under the id, whose children's ids
-- have the shapes below it. A look-up that knows more keeps it
abbrev pub HasShape : KindName → Lookup → ℕ → Shape → Type 0
HasShape k find id leaf = id ≡ 0
HasShape k find id (node l a s b r) =
    HasNode k find id l a b (λ i. HasShape k find i s) (λ i. HasShape k find i r)

-- An edge, given by its weights and its id, stands for a table over the levels from l on, whose letters are ds: its tree
-- is the table's canonical diagram
pub record StandsFor (k : KindName) (find : Lookup) (ds : List Decomp) (l : ℕ) (t : Table) (root : Weights) (id : ℕ) : Type 0 where
  pub over : IsOver (length ds) t
  pub root_is : root ≡ (canonical k ds l t).root
  pub shape_is : HasShape k find id (canonical k ds l t).shape

-- all that the old look-up knows is known
abbrev pub Extends : Lookup → Lookup → Type 0
Extends old new = (id : ℕ) (body : List ℕ) → old id ≡ Some body → new id ≡ Some body

-- Id 0 is no node's, no body is known under two ids, and each id is that of an edge which stands for a table
pub record IsGoodStore (k : KindName) (find : Lookup) (ds : List Decomp) : Type 0 where
  pub no_zero : find 0 ≡ None
  pub distinct : (i j : ℕ) (body : List ℕ) → find i ≡ Some body → find j ≡ Some body → i ≡ j
  pub good : (id : ℕ) (body : List ℕ) → find id ≡ Some body → (t : Table) × (root : Weights) × StandsFor k find ds 0 t root id

-- one node of level 0, twice its variable's edge
abbrev one_node : Lookup
one_node zero = None
one_node (suc zero) = Some (1 ∷ 0 ∷ 0 ∷ 0 ∷ 0 ∷ 0 ∷ 1 ∷ 0 ∷ [])
one_node (suc (suc n)) = None
