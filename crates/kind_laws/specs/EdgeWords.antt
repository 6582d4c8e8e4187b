-- The five words of an edge.
use Rattle.std.specs.Prelude.{◌≡◌, ℕ, ◌<◌, ◌^◌, pos, negsuc, List, [], ◌∷◌, ◌++◌, refl}
use Rattle.word_base.specs.Range.{InRange}
use Rattle.word_base.specs.declared.kind_name.KindName.{KindName}
use Rattle.word_base.specs.declared.kind_name.KindName.TheVariants.{Evbdd, StarBmd, Hdd, KStarBmd}
use Rattle.kind_laws.specs.Body.{weight_words}
use Rattle.kind_laws.specs.Plain.{PlainEdge, plain_edge}

-- the two words of each weight, and the node
abbrev pub edge_words : PlainEdge → List ℕ
edge_words e = weight_words e.root.weight ++ (weight_words e.root.extra ++ (e.node ∷ []))

-- the additive weight is 0 in a kind that has none beside the other
abbrev pub LeavesExtra : KindName → PlainEdge → Type 0
LeavesExtra Evbdd e = e.root.extra ≡ pos 0
LeavesExtra StarBmd e = e.root.extra ≡ pos 0
LeavesExtra Hdd e = e.root.extra ≡ pos 0
LeavesExtra KStarBmd e = Unit {0}

-- an edge of the kind that five words can hold
pub record FitsEdge (k : KindName) (e : PlainEdge) : Type 0 where
  pub weight : InRange e.root.weight
  pub extra : InRange e.root.extra
  pub node : e.node < 2 ^ 32
  pub leaves : LeavesExtra k e

-- words that are those of an edge of the kind
abbrev pub IsEdgeWords : KindName → List ℕ → Type 0
IsEdgeWords k words = (e : PlainEdge) × FitsEdge k e × (words ≡ edge_words e)

-- the fact holds of the edge whose words they are
abbrev pub ReadsEdge : KindName → List ℕ → (PlainEdge → Type 0) → Type 0
ReadsEdge k words Fact = (e : PlainEdge) → FitsEdge k e → words ≡ edge_words e → Fact e

-- 3 - f to node 7
words-of_edge : edge_words (plain_edge (negsuc 0) (pos 3) 7) ≡ 18446744073709551615 ∷ 18446744073709551615 ∷ 3 ∷ 0 ∷ 7 ∷ []
words-of_edge = refl
