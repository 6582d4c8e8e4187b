-- The two parts of a tree at a level. Only the laws of canonical diagrams and the contracts of builders speak of them.
use Rattle.std.specs.Prelude.{◌≡◌, ℕ, ◌==◌, pos, negsuc, ◌+ℤ◌, ◌*ℤ◌, if◌then◌else◌, refl}
use Rattle.word_base.specs.declared.decomp.Decomp.{Decomp}
use Rattle.word_base.specs.declared.decomp.Decomp.TheVariants.{S, P, N}
use Rattle.word_base.specs.declared.kind_name.KindName.{KindName}
use Rattle.word_base.specs.declared.kind_name.KindName.TheVariants.{Evbdd, StarBmd, Hdd, KStarBmd}
use Rattle.tables.specs.Tree.{Weights, Shape, leaf, node, Tree, tree, constant, tjoin}

-- the low part of an edge to a node: from the root's weights, and the node's low edge
abbrev pub low_edge : KindName → Weights → Weights → Shape → Tree
low_edge Evbdd root w s = tree root.weight (pos 0) s
low_edge StarBmd root w s = tree (root.weight *ℤ w.weight) (pos 0) s
low_edge Hdd root w s = record { root = w; shape = s }
low_edge KStarBmd root w s = tree (root.weight *ℤ w.weight) root.extra s

-- the high part, from the node's high edge
abbrev pub high_edge : KindName → Decomp → Weights → Weights → Shape → Tree
high_edge Evbdd d root w s = tree (root.weight +ℤ w.weight) (pos 0) s
high_edge StarBmd d root w s = tree (root.weight *ℤ w.weight) (pos 0) s
high_edge Hdd d root w s = record { root = w; shape = s }
high_edge KStarBmd S root w s = tree (root.weight *ℤ w.weight) (root.extra +ℤ root.weight *ℤ w.extra) s
high_edge KStarBmd P root w s = tree (root.weight *ℤ w.weight) (root.weight *ℤ w.extra) s
high_edge KStarBmd N root w s = tree (root.weight *ℤ w.weight) (root.weight *ℤ w.extra) s

-- the high part of an edge that has no node at the level
abbrev pub high_below : KindName → Decomp → Tree → Tree
high_below k S t = t
high_below k P t = constant k (pos 0)
high_below k N t = constant k (pos 0)

-- the low part at a level of an edge with these root weights to this shape
abbrev pub low_of : KindName → ℕ → Weights → Shape → Tree
low_of k l root leaf = record { root = root; shape = leaf }
low_of k l root (node n a s b r) = if n == l then low_edge k root a s else record { root = root; shape = node n a s b r }

abbrev pub high_of : KindName → Decomp → ℕ → Weights → Shape → Tree
high_of k d l root leaf = high_below k d (record { root = root; shape = leaf })
high_of k d l root (node n a s b r) =
    if n == l then high_edge k d root b r else high_below k d (record { root = root; shape = node n a s b r })

-- An edge that has no node at the level has there the parts (e, e) at Shannon and (e, 0) at Davio
abbrev pub low_part : KindName → ℕ → Tree → Tree
low_part k l t = low_of k l t.root t.shape

abbrev pub high_part : KindName → Decomp → ℕ → Tree → Tree
high_part k d l t = high_of k d l t.root t.shape

abbrev joined : Tree
joined = tjoin KStarBmd S 3 (constant KStarBmd (pos 6)) (constant KStarBmd (negsuc 3))

joined-low : low_part KStarBmd 3 joined ≡ constant KStarBmd (pos 6)
joined-low = refl

joined-high : high_part KStarBmd S 3 joined ≡ constant KStarBmd (negsuc 3)
joined-high = refl

-- no node stands at level 2
joined-above : high_part KStarBmd P 2 joined ≡ constant KStarBmd (pos 0)
joined-above = refl
