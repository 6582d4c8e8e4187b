-- The weights of nodes, and the content of edges.
use Rattle.std.specs.Prelude.{◌≡◌, ℕ, pos, negsuc, List, true, refl}
use Rattle.integers.specs.Gcd.{signed_gcd}
use Rattle.word_base.specs.declared.decomp.Decomp.{Decomp}
use Rattle.word_base.specs.declared.kind_name.KindName.TheVariants.{KStarBmd}
use Rattle.tables.specs.Tree.{Weights, weights, Shape, leaf, node, Tree}
use Rattle.tables.specs.Canonical.{IsCanonical}
use Rattle.tables.specs.Laws.{are_allowed}
use Rattle.kind_laws.specs.Body.{low_weights, high_weights}
use Rattle.kind_laws.specs.Content.{ContentOfParts}
use Rattle.kind_laws.specs.declared.fields.Fields.{Fields}

-- The weights of a node's two edges have no common divisor, and the first that is not 0 is positive. That which is added
-- at the high edge comes last
abbrev pub IsReduced : Weights → Weights → Type 0
IsReduced low high = signed_gcd low.weight high.weight high.extra ≡ pos 1

abbrev pub HasReducedNode : Shape → Type 0
HasReducedNode leaf = Unit {0}
HasReducedNode (node l a s b r) = IsReduced a b

-- the node that an edge of a canonical diagram leads to is reduced
abbrev pub NodesAreReduced : Type 0
NodesAreReduced = (ds : List Decomp) (l : ℕ) (t : Tree) → are_allowed KStarBmd ds ≡ true → IsCanonical KStarBmd ds l t → HasReducedNode t.shape

-- the content of an edge to a reduced node is that of its two parts
abbrev pub ReducedKeepsContent : Type 0
ReducedKeepsContent = (d : Decomp) (root : Weights) (f : Fields) → IsReduced (low_weights KStarBmd f) (high_weights KStarBmd f) → ContentOfParts KStarBmd d root f

-- 2, and -3 to which -3 is added
reduced : IsReduced (weights (pos 2) (pos 0)) (weights (negsuc 2) (negsuc 2))
reduced = refl
