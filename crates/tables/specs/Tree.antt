-- Diagrams as trees, with no ids and no sharing, and the rule by which two of them are joined.
use Rattle.std.specs.Prelude.{◌≡◌, ℕ, ◌==◌, ℤ, pos, negsuc, ◌-ℤ◌, Bool, true, false, ◌&&◌, if◌then◌else◌, int_div, refl}
use Rattle.std.specs.Ordering.{int_eq}
use Rattle.integers.specs.Gcd.{signed_gcd}
use Rattle.word_base.specs.declared.decomp.Decomp.{Decomp}
use Rattle.word_base.specs.declared.decomp.Decomp.TheVariants.{S, P, N}
use Rattle.word_base.specs.declared.kind_name.KindName.{KindName}
use Rattle.word_base.specs.declared.kind_name.KindName.TheVariants.{Evbdd, StarBmd, Hdd, KStarBmd}

-- The two weights of an edge, without bounds. In a K*BMD `weight` is the multiplicative and `extra` the
-- additive one; in the other kinds `extra` is 0
pub record Weights : Type 0 where
  pub weight : ℤ
  pub extra : ℤ

-- what an edge leads to: the leaf, or a node with its level, its low edge and its high edge
pub data Shape : Type 0 where
  leaf : Shape
  node : ℕ → Weights → Shape → Weights → Shape → Shape

-- an edge with all below it
pub record Tree : Type 0 where
  pub root : Weights
  pub shape : Shape

abbrev pub weights : ℤ → ℤ → Weights
weights w e = record { weight = w; extra = e }

abbrev pub tree : ℤ → ℤ → Shape → Tree
tree w e s = record { root = weights w e; shape = s }

-- The edge of a constant. In a *BMD the leaf has the value 1, in an EVBDD and a K*BMD the value 0; in a
-- hybrid diagram the leaf is the constant itself
abbrev pub constant : KindName → ℤ → Tree
constant Evbdd c = tree c (pos 0) leaf
constant StarBmd c = tree c (pos 0) leaf
constant Hdd c = tree c (pos 0) leaf
constant KStarBmd c = tree (pos 0) c leaf

abbrev pub same_weights : Weights → Weights → Bool
same_weights v w = int_eq v.weight w.weight && int_eq v.extra w.extra

abbrev pub same_shape : Shape → Shape → Bool
same_shape leaf leaf = true
same_shape leaf (node n c t d u) = false
same_shape (node l a s b r) leaf = false
same_shape (node l a s b r) (node n c t d u) =
    l == n && (same_weights a c && (same_shape s t && (same_weights b d && same_shape r u)))

abbrev pub same : Tree → Tree → Bool
same a b = same_weights a.root b.root && same_shape a.shape b.shape

-- Whether a join is its low edge: at Shannon where both edges are the same, at Davio where the high edge is
-- the constant 0. In a *BMD that is the edge of weight 0
abbrev pub skips : KindName → Decomp → Tree → Tree → Bool
skips Evbdd d low high = same low high
skips StarBmd d low high = int_eq high.root.weight (pos 0)
skips Hdd S low high = same low high
skips Hdd P low high = same high (constant Hdd (pos 0))
skips Hdd N low high = same high (constant Hdd (pos 0))
skips KStarBmd S low high = same low high
skips KStarBmd P low high = same high (constant KStarBmd (pos 0))
skips KStarBmd N low high = same high (constant KStarBmd (pos 0))

-- (a0, v0) and (a1, v1) join to (a0, node(l, v0, a1-a0, v1))
abbrev pub evbdd_node : ℕ → Tree → Tree → Tree
evbdd_node l low high =
    tree low.root.weight (pos 0)
    (node l (weights (pos 0) (pos 0)) low.shape (weights (high.root.weight -ℤ low.root.weight) (pos 0)) high.shape)

-- (w0, v0) and (w1, v1) join to (g, node(l, w0/g, v0, w1/g, v1)), with g the signed divisor
abbrev pub star_bmd_node : ℕ → ℤ → Tree → Tree → Tree
star_bmd_node l g low high =
    tree g (pos 0)
    (node l (weights (int_div low.root.weight g) (pos 0)) low.shape (weights (int_div high.root.weight g) (pos 0)) high.shape)

-- two edges join to the edge of weight 0 to the node of both
abbrev pub hdd_node : ℕ → Tree → Tree → Tree
hdd_node l low high = tree (pos 0) (pos 0) (node l low.root low.shape high.root high.shape)

-- (a0, m0, v0) and (a1, m1, v1) join to (a0, g, node(l, m0/g, v0, c/g, m1/g, v1)), with g the signed divisor
abbrev pub k_star_bmd_node : ℕ → ℤ → ℤ → Tree → Tree → Tree
k_star_bmd_node l c g low high =
    tree g low.root.extra
    (node l (weights (int_div low.root.weight g) (pos 0)) low.shape (weights (int_div high.root.weight g) (int_div c g)) high.shape)

-- the additive weight that a K*BMD's high edge keeps, before it is divided
abbrev pub k_star_bmd_rest : Decomp → Tree → Tree → ℤ
k_star_bmd_rest S low high = high.root.extra -ℤ low.root.extra
k_star_bmd_rest P low high = high.root.extra
k_star_bmd_rest N low high = high.root.extra

-- a join that is no skip: the edge to a node of the level
abbrev pub node_join : KindName → Decomp → ℕ → Tree → Tree → Tree
node_join Evbdd d l low high = evbdd_node l low high
node_join StarBmd d l low high = star_bmd_node l (signed_gcd low.root.weight high.root.weight (pos 0)) low high
node_join Hdd d l low high = hdd_node l low high
node_join KStarBmd d l low high =
    let c = k_star_bmd_rest d low high in
    k_star_bmd_node l c (signed_gcd low.root.weight high.root.weight c) low high

abbrev pub tjoin : KindName → Decomp → ℕ → Tree → Tree → Tree
tjoin k d l low high = if skips k d low high then low else node_join k d l low high

-- -2 and 4 join to -2 times the node of 1 and -2
star_bmd_join : tjoin StarBmd P 0 (constant StarBmd (negsuc 1)) (constant StarBmd (pos 4))
    ≡ tree (negsuc 1) (pos 0) (node 0 (weights (pos 1) (pos 0)) leaf (weights (negsuc 1) (pos 0)) leaf)
star_bmd_join = refl

-- 6 and -4 join at Shannon to 6 plus -10 times the node of 0 and 1
k_star_bmd_join : tjoin KStarBmd S 0 (constant KStarBmd (pos 6)) (constant KStarBmd (negsuc 3))
    ≡ tree (negsuc 9) (pos 6) (node 0 (weights (pos 0) (pos 0)) leaf (weights (pos 0) (pos 1)) leaf)
k_star_bmd_join = refl

hdd_skip : tjoin Hdd P 0 (constant Hdd (pos 5)) (constant Hdd (pos 0)) ≡ constant Hdd (pos 5)
hdd_skip = refl

evbdd_skip : tjoin Evbdd S 0 (constant Evbdd (pos 5)) (constant Evbdd (pos 5)) ≡ constant Evbdd (pos 5)
evbdd_skip = refl
