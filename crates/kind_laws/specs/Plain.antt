-- Edges as plain data, and what two of them join to.
use Rattle.std.specs.Prelude.{ℕ, ℤ, pos, List, Result, Ok, Err}
use Rattle.word_base.specs.declared.kind_name.KindName.{KindName}
use Rattle.tables.specs.Tree.{Weights, Shape, Tree, weights, constant}
use Rattle.kind_laws.specs.declared.kind.Edge.{Edge}
use Rattle.kind_laws.specs.declared.kind.Joined.{Joined}
use Rattle.kind_laws.specs.declared.kind.Joined.TheVariants.{Skip, Node}

-- the weights of an edge, and the id that it leads to
pub record PlainEdge : Type 0 where
  pub root : Weights
  pub node : ℕ

abbrev pub plain : {K X E : Type 0} → (X → ℤ) → Edge K X E → PlainEdge
plain of e = record { root = weights e.weight (of e.extra); node = e.node }

-- an edge that has no additive weight
abbrev pub no_extra : {X : Type 0} → X → ℤ
no_extra x = pos 0

abbrev pub plain_edge : ℤ → ℤ → ℕ → PlainEdge
plain_edge w x n = record { root = weights w x; node = n }

-- the edge of a constant
abbrev pub constant_edge : KindName → ℤ → PlainEdge
constant_edge k c = record { root = (constant k c).root; node = 0 }

-- an edge that was there, or the weights of one to the node with this body
pub data PlainJoined : Type 0 where
  skip : PlainEdge → PlainJoined
  made : Weights → List ℕ → PlainJoined

abbrev pub plain_joined : {K X E : Type 0} → (X → ℤ) → Joined K X E → PlainJoined
plain_joined of (Skip e) = skip (plain of e)
plain_joined of (Node w x body) = made (weights w (of x)) body

-- the edge over a shape
abbrev pub over_shape : PlainEdge → Shape → Tree
over_shape e s = record { root = e.root; shape = s }

-- what a call answers, where it answers, through a function
abbrev pub answered : {T U E : Type 0} → (T → U) → Result T E → Result U E
answered f (Ok x) = Ok (f x)
answered f (Err e) = Err e
