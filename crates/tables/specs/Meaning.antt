-- The table that a tree stands for. Only the laws of canonical diagrams and the contracts of builders speak of it.
use Rattle.std.specs.Prelude.{◌≡◌, ℕ, ◌+◌, ◌==◌, ℤ, pos, ◌+ℤ◌, ◌*ℤ◌, List, [], ◌∷◌, if◌then◌else◌, refl}
use Rattle.word_base.specs.declared.decomp.Decomp.{Decomp}
use Rattle.word_base.specs.declared.decomp.Decomp.TheVariants.{P}
use Rattle.word_base.specs.declared.kind_name.KindName.{KindName}
use Rattle.word_base.specs.declared.kind_name.KindName.TheVariants.{Evbdd, StarBmd, Hdd, KStarBmd}
use Rattle.tables.specs.Table.{Table, entry, halves, each, merged}
use Rattle.tables.specs.Tree.{Weights, Shape, leaf, node, Tree, constant, tjoin}

-- The value of an edge, from its weights and the value of what it leads to. In a hybrid diagram a constant has
-- its number as its weight, and an edge to a node has 0
abbrev pub weighed : KindName → Weights → ℤ → ℤ
weighed Evbdd w v = w.weight +ℤ v
weighed StarBmd w v = w.weight *ℤ v
weighed Hdd w v = w.weight +ℤ v
weighed KStarBmd w v = w.extra +ℤ w.weight *ℤ v

abbrev pub leaf_value : KindName → ℤ
leaf_value Evbdd = pos 0
leaf_value StarBmd = pos 1
leaf_value Hdd = pos 0
leaf_value KStarBmd = pos 0

-- The table of a shape over the levels from l on, by their letters: at a node's own level it is merged from the
-- tables of its two edges, and above it both halves are the same
abbrev pub shape_table : KindName → List Decomp → ℕ → Shape → Table
shape_table k [] l s = entry (leaf_value k)
shape_table k (d ∷ ds) l leaf = let below = shape_table k ds (l + 1) leaf in halves below below
shape_table k (d ∷ ds) l (node n a s b r) =
    let below = shape_table k ds (l + 1) (node n a s b r) in
    if n == l
    then merged d (each (weighed k a) (shape_table k ds (l + 1) s)) (each (weighed k b) (shape_table k ds (l + 1) r))
    else halves below below

-- the table of a tree over the levels from l on
abbrev pub table : KindName → List Decomp → ℕ → Tree → Table
table k ds l t = each (weighed k t.root) (shape_table k ds l t.shape)

-- 2 times the product of the variables of levels 1 and 2, over the levels 0 to 2
abbrev product : Tree
product = tjoin StarBmd P 1 (constant StarBmd (pos 0))
    (tjoin StarBmd P 2 (constant StarBmd (pos 0)) (constant StarBmd (pos 2)))

product-table : table StarBmd (P ∷ P ∷ P ∷ []) 0 product
    ≡ halves (halves (halves (entry (pos 0)) (entry (pos 0))) (halves (entry (pos 0)) (entry (pos 2))))
    (halves (halves (entry (pos 0)) (entry (pos 0))) (halves (entry (pos 0)) (entry (pos 2))))
product-table = refl
