-- The canonical diagram of a table, and its nodes.
use Rattle.std.specs.Prelude.{◌≡◌, ℕ, ◌+◌, ℤ, pos, List, [], ◌∷◌, ◌⊎◌, Bool, false, ◌||◌, if◌then◌else◌, length}
use Rattle.word_base.specs.declared.decomp.Decomp.{Decomp}
use Rattle.word_base.specs.declared.kind_name.KindName.{KindName}
use Rattle.tables.specs.Table.{Table, entry, halves, part0, part1}
use Rattle.tables.specs.Tree.{Shape, leaf, node, Tree, constant, same_shape, tjoin}

-- The canonical diagram of a table whose top level is l, by the letters from there on: the constant of an entry,
-- and else the join of the canonical diagrams of the two parts
abbrev pub canonical : KindName → List Decomp → ℕ → Table → Tree
canonical k ds l (entry x) = constant k x
canonical k [] l (halves lo hi) = constant k (pos 0)
canonical k (d ∷ ds) l (halves lo hi) =
    tjoin k d l (canonical k ds (l + 1) (part0 d (halves lo hi))) (canonical k ds (l + 1) (part1 d (halves lo hi)))

-- A tree that is made by joins from constants, over the levels from l on. The laws speak of it, and no definition of a run does
abbrev pub IsCanonical : KindName → List Decomp → ℕ → Tree → Type 0
IsCanonical k [] l t = (c : ℤ) × (t ≡ constant k c)
IsCanonical k (d ∷ ds) l t =
    (low : Tree) × (high : Tree) × IsCanonical k ds (l + 1) low × IsCanonical k ds (l + 1) high × (t ≡ tjoin k d l low high)

-- a node is among the nodes of a shape; for the laws too
abbrev pub IsNodeOf : Shape → Shape → Type 0
IsNodeOf wanted leaf = ⊥
IsNodeOf wanted (node l a s b r) = (wanted ≡ node l a s b r) ⊎ (IsNodeOf wanted s ⊎ IsNodeOf wanted r)

abbrev pub has : List Shape → Shape → Bool
has [] s = false
has (t ∷ ts) s = same_shape t s || has ts s

-- the different nodes of a shape, each once, before those found already
abbrev pub add_nodes : Shape → List Shape → List Shape
add_nodes leaf found = found
add_nodes (node l a s b r) found =
    let below = add_nodes r (add_nodes s found) in if has below (node l a s b r) then below else node l a s b r ∷ below

-- the different nodes of the canonical diagram of a table
abbrev pub nodes : KindName → List Decomp → ℕ → Table → List Shape
nodes k ds l t = add_nodes (canonical k ds l t).shape []

abbrev pub node_count : KindName → List Decomp → Table → ℕ
node_count k ds t = length (nodes k ds 0 t)
