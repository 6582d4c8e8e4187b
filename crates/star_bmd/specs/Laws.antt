-- The weights of nodes, and the content of edges.
use Rattle.std.specs.Prelude.{◌≡◌, ℕ, pos, negsuc, List, true, refl}
use Rattle.integers.specs.Gcd.{signed_gcd}
use Rattle.word_base.specs.declared.decomp.Decomp.{Decomp}
use Rattle.word_base.specs.declared.kind_name.KindName.TheVariants.{StarBmd}
use Rattle.tables.specs.Tree.{Weights, weights, Shape, leaf, node, Tree}
use Rattle.tables.specs.Canonical.{IsCanonical}
use Rattle.tables.specs.Laws.{are_allowed}
use Rattle.kind_laws.specs.Body.{low_weights, high_weights}
use Rattle.kind_laws.specs.Content.{ContentOfParts}
use Rattle.kind_laws.specs.declared.fields.Fields.{Fields}

-- the weights of a node's two edges have no common divisor, and the first that is not 0 is positive
abbrev pub IsReduced : Weights → Weights → Type 0
IsReduced low high = signed_gcd low.weight high.weight (pos 0) ≡ pos 1

abbrev pub HasReducedNode : Shape → Type 0
HasReducedNode leaf = Unit {0}
HasReducedNode (node l a s b r) = IsReduced a b

-- the node that an edge of a canonical diagram leads to is reduced
abbrev pub NodesAreReduced : Type 0
NodesAreReduced = (ds : List Decomp) (l : ℕ) (t : Tree) → are_allowed StarBmd ds ≡ true → IsCanonical StarBmd ds l t → HasReducedNode t.shape

-- the content of an edge to a reduced node is that of its two parts
abbrev pub ReducedKeepsContent : Type 0
ReducedKeepsContent = (d : Decomp) (root : Weights) (f : Fields) → IsReduced (low_weights StarBmd f) (high_weights StarBmd f) → ContentOfParts StarBmd d root f

-- 1 and -2, as -2 and 4 have them under -2
reduced : IsReduced (weights (pos 1) (pos 0)) (weights (negsuc 1) (pos 0))
reduced = refl
