-- Edges over the shapes under their ids.
use Rattle.std.proofs.Common.{◌≡◌, ◌∙◌, ap, ℕ}
use Rattle.tables.specs.Tree.{Weights, Shape, leaf, Tree}
use Rattle.kind_laws.specs.Kind.{AreShapes}
use Rattle.kind_laws.specs.Plain.{PlainEdge, over_shape}

same_plain : (a b : PlainEdge) → a.root ≡ b.root → a.node ≡ b.node → a ≡ b
same_plain a b p q =
    let make : Weights → ℕ → PlainEdge = λ w n. record { root = w; node = n } in
    ap (λ (w : Weights). make w a.node) p ∙ ap (λ (n : ℕ). make b.root n) q

same_tree : (t u : Tree) → t.root ≡ u.root → t.shape ≡ u.shape → t ≡ u
same_tree t u p q =
    let make : Weights → Shape → Tree = λ w s. record { root = w; shape = s } in
    ap (λ (w : Weights). make w t.shape) p ∙ ap (λ (s : Shape). make u.root s) q

-- two edges are one where their trees are
pub same_edges : (a b : PlainEdge) (s r : Shape) → AreShapes a.node b.node s r → over_shape a s ≡ over_shape b r → a ≡ b
same_edges a b s r shapes e =
    same_plain a b (ap (λ (t : Tree). t.root) e) (shapes.one_id (ap (λ (t : Tree). t.shape) e))

pub same_trees : (a b : PlainEdge) (s r : Shape) → AreShapes a.node b.node s r → a ≡ b → over_shape a s ≡ over_shape b r
same_trees a b s r shapes e =
    same_tree (over_shape a s) (over_shape b r) (ap (λ (x : PlainEdge). x.root) e) (shapes.one_shape (ap (λ (x : PlainEdge). x.node) e))

-- an edge to the leaf is the tree of its weights alone
pub leaf_tree : (a b : PlainEdge) (s r : Shape) → AreShapes a.node b.node s r → b.node ≡ 0 → over_shape b r ≡ over_shape b leaf
leaf_tree a b s r shapes e = ap (over_shape b) (shapes.high_leaf e)

pub leaf_edge : (a b : PlainEdge) (s r : Shape) (t : Tree) → AreShapes a.node b.node s r → over_shape b r ≡ t → t.shape ≡ leaf → b ≡ record { root = t.root; node = 0 }
leaf_edge a b s r t shapes e l =
    same_plain b (record { root = t.root; node = 0 }) (ap (λ (u : Tree). u.root) e) (shapes.high_zero (ap (λ (u : Tree). u.shape) e ∙ l))
