-- Which nodes a walk has marked. Private functions and proofs alone use this.
use Rattle.std.specs.Prelude.{◌≡◌, ℕ, ◌+◌, ◌<◌, ◌≤◌, List, Bool, true, Some, None, ◌⊎◌, length}
use Rattle.word_base.specs.declared.kind_name.KindName.{KindName}
use Rattle.marks.specs.Marked.{is_marked, marked_count}
use Rattle.tables.specs.Tree.{Shape, leaf, node}
use Rattle.tables.specs.Canonical.{IsNodeOf, has, add_nodes}
use Rattle.kind_laws.specs.Body.{body_of, FitsBody}
use Rattle.kind_laws.specs.Graph.{Lookup, HasShape}
use Rattle.kind_laws.specs.declared.fields.Fields.{Fields}

-- each node's level is at least this one, and above those of the nodes below it
abbrev pub Descends : ℕ → Shape → Type 0
Descends m leaf = Unit {0}
Descends m (node l a s b r) = (m ≤ l) × Descends (l + 1) s × Descends (l + 1) r

-- an id at which a walk may begin
pub record IsStart (k : KindName) (find : Lookup) (id : ℕ) : Type 0 where
  pub shape : Shape
  pub has_shape : HasShape k find id shape
  pub descends : Descends 0 shape

-- each known body has one id, which is from 1 to the number
pub record IsNumbered (find : Lookup) (cells : ℕ) : Type 0 where
  pub no_zero : find 0 ≡ None
  pub distinct : (i j : ℕ) (body : List ℕ) → find i ≡ Some body → find j ≡ Some body → i ≡ j
  pub within : (id : ℕ) (body : List ℕ) → find id ≡ Some body → id ≤ cells

-- each known node stands at one of so many levels
abbrev pub HasLevels : Lookup → ℕ → Type 0
HasLevels find levels = (id : ℕ) (f : Fields) → FitsBody f → find id ≡ Some (body_of f) → f.level < levels

-- nothing is left to visit at the leaf's id and at one that is marked
abbrev pub IsDone : List Bool → ℕ → Type 0
IsDone marks id = (id ≡ 0) ⊎ (is_marked marks id ≡ true)

-- with each node all below it are in the list
abbrev pub IsClosed : List Shape → Type 0
IsClosed found = (s n : Shape) → has found s ≡ true → IsNodeOf n s → has found n ≡ true

-- exactly the ids of these shapes are marked
pub record AreMarked (k : KindName) (find : Lookup) (marks : List Bool) (found : List Shape) : Type 0 where
  pub closed : IsClosed found
  pub shapes : (id : ℕ) → 0 < id → is_marked marks id ≡ true → (s : Shape) × HasShape k find id s × (has found s ≡ true)
  pub ids : (id : ℕ) (s : Shape) → 0 < id → HasShape k find id s → has found s ≡ true → is_marked marks id ≡ true
  pub count : marked_count marks ≡ length found

-- a walk from an id marks the nodes of its shape too
abbrev pub MarksNodes : KindName → Lookup → ℕ → List Bool → List Bool → Type 0
MarksNodes k find id old new =
    (s : Shape) (found : List Shape) → HasShape k find id s → AreMarked k find old found → AreMarked k find new (add_nodes s found)
