-- The skips of edge-valued diagrams, by ids and by shapes.
use Rattle.std.proofs.Common.{◌≡◌, ◌∙◌, ap, ℕ, ℤ, pos, ◌-ℤ◌, true, false, arith}
use Rattle.std.proofs.lemmas.Bool.{false_from_ne_true}
use Rattle.std.proofs.lemmas.Int.{ints}
use Rattle.word_base.specs.declared.decomp.Decomp.{Decomp}
use Rattle.word_base.specs.declared.kind_name.KindName.TheVariants.{Evbdd}
use Rattle.tables.specs.Tree.{Shape, node, weights, tree, skips}
use Rattle.tables.proofs.TreeLaws.{same-eq, same-same}
use Rattle.kind_laws.specs.Kind.{AreShapes}
use Rattle.kind_laws.specs.Plain.{PlainEdge, plain_edge, over_shape}
use Rattle.kind_laws.proofs.ShapeLaws.{same_edges, same_trees}

same_number : (x y : ℤ) → y -ℤ x ≡ pos 0 → x ≡ y
same_number x y e = omega (arith, ints, e)

no_difference : (x : ℤ) → x -ℤ x ≡ pos 0
no_difference x = omega (arith, ints)

pub skip_told : (d : Decomp) (a b : ℤ) (i j : ℕ) (s r : Shape) → AreShapes i j s r → i ≡ j → b -ℤ a ≡ pos 0 →
    skips Evbdd d (over_shape (plain_edge a (pos 0) i) s) (over_shape (plain_edge b (pos 0) j) r) ≡ true
skip_told d a b i j s r shapes nodes e =
    same-eq _ _ (same_trees (plain_edge a (pos 0) i) (plain_edge b (pos 0) j) s r shapes
    (ap (λ (w : ℤ). plain_edge w (pos 0) i) (same_number a b e) ∙ ap (plain_edge b (pos 0)) nodes))

pub no_skip : (d : Decomp) (a b : ℤ) (i j : ℕ) (s r : Shape) → AreShapes i j s r → ((i ≡ j) × (b -ℤ a ≡ pos 0) → ⊥) →
    skips Evbdd d (over_shape (plain_edge a (pos 0) i) s) (over_shape (plain_edge b (pos 0) j) r) ≡ false
no_skip d a b i j s r shapes apart = false_from_ne_true _ (λ h.
    let one = same_edges (plain_edge a (pos 0) i) (plain_edge b (pos 0) j) s r shapes (same-same _ _ h) in
    let weight : a ≡ b = ap (λ (e : PlainEdge). e.root.weight) one in
    apart (ap (λ (e : PlainEdge). e.node) one, ap (λ (x : ℤ). b -ℤ x) weight ∙ no_difference b))

-- the joined node has the difference as its added weight
pub node_is : (l : ℕ) (a b c : ℤ) (s r : Shape) → b -ℤ a ≡ c →
    tree a (pos 0) (node l (weights (pos 0) (pos 0)) s (weights (b -ℤ a) (pos 0)) r) ≡ tree a (pos 0) (node l (weights (pos 0) (pos 0)) s (weights c (pos 0)) r)
node_is l a b c s r e = ap (λ (w : ℤ). tree a (pos 0) (node l (weights (pos 0) (pos 0)) s (weights w (pos 0)) r)) e
