-- The contents of the nodes that a walk gathers. Private functions and proofs alone use this.
use Rattle.std.specs.Prelude.{◌≡◌, ℕ, ℤ, pos, negsuc, List, [], ◌∷◌, Bool, unsigned_abs, refl}
use Rattle.integers.specs.Gcd.{gcd}
use Rattle.word_base.specs.declared.kind_name.KindName.{KindName}
use Rattle.word_base.specs.declared.kind_name.KindName.TheVariants.{Evbdd, StarBmd, Hdd, KStarBmd}
use Rattle.tables.specs.Tree.{Weights, weights, Shape, leaf, node}
use Rattle.tables.specs.Canonical.{add_nodes}
use Rattle.kind_laws.specs.Graph.{Lookup, HasShape}
use Rattle.diagram.specs.Below.{AreMarked}

-- the content of a node's two edges
abbrev pub content_of_node : KindName → Weights → Weights → ℕ
content_of_node Evbdd low high = unsigned_abs high.weight
content_of_node StarBmd low high = 0
content_of_node Hdd low high = gcd (unsigned_abs low.weight) (unsigned_abs high.weight)
content_of_node KStarBmd low high = 0

-- that of a shape's top node alone
abbrev pub content_of_top : KindName → Shape → ℕ
content_of_top k leaf = 0
content_of_top k (node l a s b r) = content_of_node k a b

-- the greatest common divisor of those of these nodes
abbrev pub contents : KindName → List Shape → ℕ
contents k [] = 0
contents k (s ∷ ss) = gcd (content_of_top k s) (contents k ss)

-- a walk from an id puts the contents of the nodes of its shape to those of the nodes that it found
abbrev pub GathersContents : KindName → Lookup → ℕ → List Bool → ℤ → ℤ → Type 0
GathersContents k find id marks before after =
    (s : Shape) (found : List Shape) (n : ℕ) → HasShape k find id s → AreMarked k find marks found →
    before ≡ pos (gcd n (contents k found)) → after ≡ pos (gcd n (contents k (add_nodes s found)))

-- ---- examples
abbrev of_constants : ℤ → ℤ → Shape
of_constants low high = node 0 (weights low (pos 0)) leaf (weights high (pos 0)) leaf

contents-of_two : contents Hdd (of_constants (pos 6) (negsuc 3) ∷ of_constants (pos 0) (pos 10) ∷ []) ≡ 2
contents-of_two = refl

-- in an EVBDD by what is added at the high edge, in a *BMD by no weight of a node
content-of_nodes : content_of_node Evbdd (weights (pos 0) (pos 0)) (weights (negsuc 3) (pos 0)) ≡ 4
content-of_nodes = refl

content-of_none : content_of_node StarBmd (weights (pos 2) (pos 0)) (weights (pos 4) (pos 0)) ≡ 0
content-of_none = refl
