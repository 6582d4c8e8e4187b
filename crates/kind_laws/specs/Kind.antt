-- What the calls of a kind answer, by the definitions for its name.
use Rattle.std.specs.Prelude.{◌≡◌, ◌≢◌, ℕ, pos, ◌*ℤ◌, Bool, true, false, ◌&&◌, ◌↔◌, List, Result, MatchResult}
use Rattle.word_base.specs.Range.{in_range}
use Rattle.word_base.specs.declared.decomp.Decomp.{Decomp}
use Rattle.word_base.specs.declared.decomp.Decomp.TheVariants.{S, P, N}
use Rattle.word_base.specs.declared.kind_name.KindName.{KindName}
use Rattle.word_base.specs.declared.kind_name.KindName.TheVariants.{Evbdd, StarBmd, Hdd, KStarBmd}
use Rattle.word_base.specs.declared.weight.Overflow.{Overflow}
use Rattle.tables.specs.Tree.{Weights, Shape, leaf, node, skips, node_join}
use Rattle.tables.specs.Parts.{low_edge, high_edge}
use Rattle.tables.specs.Fits.{weights_in_range, difference_in_range}
use Rattle.kind_laws.specs.Body.{body_of, FitsBody, low_weights, high_weights, LeavesZeros}
use Rattle.kind_laws.specs.Plain.{PlainEdge, PlainJoined, skip, made, over_shape}
use Rattle.kind_laws.specs.declared.fields.Fields.{Fields}

-- what the weights of each edge have: those that a kind does not use are 0, and 0 is the weight of no node in a *BMD and a
-- K*BMD, and of each node in a hybrid diagram
abbrev pub IsRooted : KindName → PlainEdge → Type 0
IsRooted Evbdd e = e.root.extra ≡ pos 0
IsRooted StarBmd e = (e.root.extra ≡ pos 0) × (e.root.weight ≡ pos 0 → e.node ≡ 0)
IsRooted Hdd e = (e.root.extra ≡ pos 0) × (e.node ≢ 0 → e.root.weight ≡ pos 0)
IsRooted KStarBmd e = (e.root.weight ≡ pos 0) ↔ (e.node ≡ 0)

-- two ids and the shapes under them: one id for one shape, and 0 for the leaf
pub record AreShapes (i j : ℕ) (s r : Shape) : Type 0 where
  pub one_id : s ≡ r → i ≡ j
  pub one_shape : i ≡ j → s ≡ r
  pub low_leaf : i ≡ 0 → s ≡ leaf
  pub high_leaf : j ≡ 0 → r ≡ leaf
  pub low_zero : s ≡ leaf → i ≡ 0
  pub high_zero : r ≡ leaf → j ≡ 0

-- a join that is no skip: these weights lead to the node with this body
pub record IsNodeJoin (k : KindName) (d : Decomp) (l : ℕ) (low high : PlainEdge) (s r : Shape) (root : Weights) (body : List ℕ) : Type 0 where
  pub no_skip : skips k d (over_shape low s) (over_shape high r) ≡ false
  pub fields : Fields
  pub fits : FitsBody fields
  pub zeros : LeavesZeros k fields
  pub body_is : body ≡ body_of fields
  pub level_is : fields.level ≡ l
  pub low_is : fields.low ≡ low.node
  pub high_is : fields.high ≡ high.node
  pub joins : node_join k d l (over_shape low s) (over_shape high r)
      ≡ record { root = root; shape = node l (low_weights k fields) s (high_weights k fields) r }

abbrev pub IsJoinOf : KindName → Decomp → ℕ → PlainEdge → PlainEdge → Shape → Shape → PlainJoined → Type 0
IsJoinOf k d l low high s r (skip e) = (skips k d (over_shape low s) (over_shape high r) ≡ true) × (e ≡ low)
IsJoinOf k d l low high s r (made root body) = IsNodeJoin k d l low high s r root body

-- what two edges join to at a level, whatever shapes are under their ids
pub record JoinsTo (k : KindName) (d : Decomp) (l : ℕ) (low high : PlainEdge) (joined : PlainJoined) : Type 0 where
  pub joins : (s r : Shape) → AreShapes low.node high.node s r → IsJoinOf k d l low high s r joined

-- the answer of a join: an overflow exactly where a difference of additive weights is out of range
abbrev pub Joins : KindName → Decomp → ℕ → PlainEdge → PlainEdge → Result PlainJoined Overflow → Type 0
Joins k d l low high result =
    let fits = difference_in_range k d (over_shape low leaf) (over_shape high leaf) in
    MatchResult result (λ j. (fits ≡ true) × JoinsTo k d l low high j) (λ _. fits ≡ false)

-- the words are the body of a node of the kind
abbrev pub IsNodeBody : KindName → List ℕ → Type 0
IsNodeBody k body = (f : Fields) × FitsBody f × LeavesZeros k f × (body ≡ body_of f)

-- the low and the high part of an edge with these weights to a node with these fields
abbrev pub low_part_of : KindName → Weights → Fields → PlainEdge
low_part_of k root f = record { root = (low_edge k root (low_weights k f) leaf).root; node = f.low }

abbrev pub high_part_of : KindName → Decomp → Weights → Fields → PlainEdge
high_part_of k d root f = record { root = (high_edge k d root (high_weights k f) leaf).root; node = f.high }

-- whether the product that is added to a K*BMD's high part at Shannon is in range
abbrev pub added_in_range : KindName → Decomp → Weights → Fields → Bool
added_in_range Evbdd d root f = true
added_in_range StarBmd d root f = true
added_in_range Hdd d root f = true
added_in_range KStarBmd S root f = in_range (root.weight *ℤ f.added)
added_in_range KStarBmd P root f = true
added_in_range KStarBmd N root f = true

abbrev pub parts_in_range : KindName → Decomp → Weights → Fields → Bool
parts_in_range k d root f =
    weights_in_range (low_part_of k root f).root
    && (weights_in_range (high_part_of k d root f).root && added_in_range k d root f)

-- the answer of the parts of an edge: an overflow exactly where a weight of theirs is out of range
abbrev pub HasParts : KindName → Decomp → Weights → Fields → Result (PlainEdge × PlainEdge) Overflow → Type 0
HasParts k d root f result =
    MatchResult result
    (λ p. (parts_in_range k d root f ≡ true) × (p.0 ≡ low_part_of k root f) × (p.1 ≡ high_part_of k d root f))
    (λ _. parts_in_range k d root f ≡ false)
