-- The skips of K*BMDs, by ids and by shapes.
use Rattle.std.proofs.Common.{◌≡◌, refl, ◌∙◌, ap, pos, true, false}
use Rattle.std.proofs.lemmas.Bool.{false_from_ne_true}
use Rattle.word_base.specs.declared.decomp.Decomp.{Decomp}
use Rattle.word_base.specs.declared.decomp.Decomp.TheVariants.{S, P, N}
use Rattle.word_base.specs.declared.kind_name.KindName.TheVariants.{KStarBmd}
use Rattle.tables.specs.Tree.{Shape, leaf, Tree, constant, same, skips}
use Rattle.tables.proofs.TreeLaws.{same-refl, same-same}
use Rattle.kind_laws.specs.Kind.{AreShapes}
use Rattle.kind_laws.specs.Plain.{PlainEdge, over_shape}
use Rattle.kind_laws.proofs.ShapeLaws.{same_edges, same_trees, leaf_tree, leaf_edge}
use Rattle.k_star_bmd.specs.Skips.{IsSkip}

same_if_equal : (t u : Tree) → t ≡ u → same t u ≡ true
same_if_equal t u e = ap (λ (x : Tree). same x u) e ∙ same-refl u

zero_tree : (a b : PlainEdge) (s r : Shape) → AreShapes a.node b.node s r → b ≡ record { root = (constant KStarBmd (pos 0)).root; node = 0 } → over_shape b r ≡ constant KStarBmd (pos 0)
zero_tree a b s r shapes e =
    leaf_tree a b s r shapes (ap (λ (x : PlainEdge). x.node) e) ∙ ap (λ (x : PlainEdge). over_shape x leaf) e

pub skip_told : (d : Decomp) (low high : PlainEdge) (s r : Shape) → AreShapes low.node high.node s r → IsSkip d low high →
    skips KStarBmd d (over_shape low s) (over_shape high r) ≡ true
skip_told S low high s r shapes e = same_if_equal (over_shape low s) (over_shape high r) (same_trees low high s r shapes e)
skip_told P low high s r shapes e = same_if_equal (over_shape high r) (constant KStarBmd (pos 0)) (zero_tree low high s r shapes e)
skip_told N low high s r shapes e = same_if_equal (over_shape high r) (constant KStarBmd (pos 0)) (zero_tree low high s r shapes e)

skip_tells : (d : Decomp) (low high : PlainEdge) (s r : Shape) → AreShapes low.node high.node s r →
    skips KStarBmd d (over_shape low s) (over_shape high r) ≡ true → IsSkip d low high
skip_tells S low high s r shapes e = same_edges low high s r shapes (same-same (over_shape low s) (over_shape high r) e)
skip_tells P low high s r shapes e = leaf_edge low high s r (constant KStarBmd (pos 0)) shapes (same-same (over_shape high r) (constant KStarBmd (pos 0)) e) refl
skip_tells N low high s r shapes e = leaf_edge low high s r (constant KStarBmd (pos 0)) shapes (same-same (over_shape high r) (constant KStarBmd (pos 0)) e) refl

pub no_skip : (d : Decomp) (low high : PlainEdge) (s r : Shape) → AreShapes low.node high.node s r → (IsSkip d low high → ⊥) →
    skips KStarBmd d (over_shape low s) (over_shape high r) ≡ false
no_skip d low high s r shapes h = false_from_ne_true _ (λ e. h (skip_tells d low high s r shapes e))
