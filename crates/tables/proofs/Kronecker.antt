-- The joining rule of K*BMDs, at all three letters.
use Rattle.std.proofs.Common.{◌≡◌, refl, sym, ◌∙◌, ap, ℕ, ◌+◌, ℤ, pos, ◌+ℤ◌, ◌*ℤ◌, List, [], ◌∷◌, true, length, arith}
use Rattle.std.specs.Prelude.{int_div}
use Rattle.std.proofs.lemmas.Int.{ints}
use Rattle.std.proofs.Math.IntN.{+ℤ_idl, +ℤ_idr, *ℤ-zero}
use Rattle.integers.specs.Gcd.{signed_gcd}
use Rattle.integers.proofs.SignedGcd.{signed_gcd-times_first, signed_gcd-times_second, signed_gcd-times_third}
use Rattle.integers.proofs.Solver.{literal, variable, ◌⊕◌, ◌⊗◌, solve}
use Rattle.word_base.specs.declared.decomp.Decomp.{Decomp}
use Rattle.word_base.specs.declared.decomp.Decomp.TheVariants.{S, P, N}
use Rattle.word_base.specs.declared.kind_name.KindName.TheVariants.{KStarBmd}
use Rattle.tables.specs.Table.{Table, each, merged}
use Rattle.tables.specs.Tree.{Weights, Shape, Tree, weights, tree, constant, skips, k_star_bmd_rest, node_join}
use Rattle.tables.specs.Parts.{high_edge, low_part, high_part}
use Rattle.tables.specs.Meaning.{weighed, shape_table, table}
use Rattle.tables.specs.Laws.{IsSkip}
use Rattle.tables.proofs.TableLaws.{IsOver-each, each-same, each-each, at_high_part, each-merged}
use Rattle.tables.proofs.TreeLaws.{same-same, same-eq, IsOver-shape_table, shape_table-at}
use Rattle.tables.proofs.KindLaws.{HasRule, with_weights, low_part-at, high_part-at}

skip_tells : (d : Decomp) (low high : Tree) → skips KStarBmd d low high ≡ true → IsSkip KStarBmd d low high
skip_tells S low high h = same-same low high h
skip_tells P low high h = same-same high (constant KStarBmd (pos 0)) h
skip_tells N low high h = same-same high (constant KStarBmd (pos 0)) h

skip_told : (d : Decomp) (low high : Tree) → IsSkip KStarBmd d low high → skips KStarBmd d low high ≡ true
skip_told S low high e = same-eq low high e
skip_told P low high e = same-eq high (constant KStarBmd (pos 0)) e
skip_told N low high e = same-eq high (constant KStarBmd (pos 0)) e

-- e + g (x + y) is e + g x and g y
of_sum : (e g x y : ℤ) → e +ℤ g *ℤ (x +ℤ y) ≡ (e +ℤ g *ℤ x) +ℤ (pos 0 +ℤ g *ℤ y)
of_sum e g x y =
    let a = variable 0 in
    let b = variable 1 in
    let c = variable 2 in
    let d = variable 3 in
    solve (e ∷ g ∷ x ∷ y ∷ []) (a ⊕ b ⊗ (c ⊕ d)) ((a ⊕ b ⊗ c) ⊕ (literal (pos 0) ⊕ b ⊗ d)) refl

-- e + g (a + m v) is e + g a and g m v
one_weight : (e g a m v : ℤ) → e +ℤ g *ℤ (a +ℤ m *ℤ v) ≡ (e +ℤ g *ℤ a) +ℤ (g *ℤ m) *ℤ v
one_weight e g a m v =
    let ve = variable 0 in
    let vg = variable 1 in
    let va = variable 2 in
    let vm = variable 3 in
    let vv = variable 4 in
    solve (e ∷ g ∷ a ∷ m ∷ v ∷ []) (ve ⊕ vg ⊗ (va ⊕ vm ⊗ vv)) ((ve ⊕ vg ⊗ va) ⊕ (vg ⊗ vm) ⊗ vv) refl

-- the weights of a root and of an edge below it make those of one edge
weighed_twice : (root w t : Weights) → root.extra +ℤ root.weight *ℤ w.extra ≡ t.extra → root.weight *ℤ w.weight ≡ t.weight →
    (u : Table) → each (weighed KStarBmd root) (each (weighed KStarBmd w) u) ≡ each (weighed KStarBmd t) u
weighed_twice root w t p q u =
    each-each (weighed KStarBmd root) (weighed KStarBmd w) u
    ∙ each-same (λ x. root.extra +ℤ root.weight *ℤ (w.extra +ℤ w.weight *ℤ x)) (weighed KStarBmd t)
    (λ x. one_weight root.extra root.weight w.extra w.weight x ∙ ap (λ (y : ℤ). y +ℤ (root.weight *ℤ w.weight) *ℤ x) p ∙ ap (λ (y : ℤ). t.extra +ℤ y *ℤ x) q) u

-- what the root weighs its high edge by: at Davio the high part is a difference, which has no additive weight of the root
abbrev at_high : Decomp → Weights → Weights
at_high d root = at_high_part d root (weights root.weight (pos 0))

weighed-at_high : (d : Decomp) (root : Weights) → at_high_part d (weighed KStarBmd root) (weighed KStarBmd (weights root.weight (pos 0))) ≡ weighed KStarBmd (at_high d root)
weighed-at_high S root = refl
weighed-at_high P root = refl
weighed-at_high N root = refl

at_high-weight : (d : Decomp) (root : Weights) → (at_high d root).weight ≡ root.weight
at_high-weight S root = refl
at_high-weight P root = refl
at_high-weight N root = refl

-- and the rest that the high edge keeps gives back its additive weight
at_high-rest : (d : Decomp) (low high : Tree) (g : ℤ) → (at_high d (weights g low.root.extra)).extra +ℤ k_star_bmd_rest d low high ≡ high.root.extra
at_high-rest S low high g = omega (arith, ints)
at_high-rest P low high g = omega (arith, ints)
at_high-rest N low high g = omega (arith, ints)

high_edge-is : (d : Decomp) (root w : Weights) (s : Shape) →
    high_edge KStarBmd d root w s ≡ tree ((at_high d root).weight *ℤ w.weight) ((at_high d root).extra +ℤ (at_high d root).weight *ℤ w.extra) s
high_edge-is S root w s = refl
high_edge-is P root w s = ap (λ (x : ℤ). tree (root.weight *ℤ w.weight) x s) (sym (+ℤ_idl (root.weight *ℤ w.extra)))
high_edge-is N root w s = ap (λ (x : ℤ). tree (root.weight *ℤ w.weight) x s) (sym (+ℤ_idl (root.weight *ℤ w.extra)))

-- ---- the node of a join, with its divisor g and the quotients by it

abbrev divisor : Decomp → Tree → Tree → ℤ
divisor d low high = signed_gcd low.root.weight high.root.weight (k_star_bmd_rest d low high)

abbrev root_weights : Decomp → Tree → Tree → Weights
root_weights d low high = weights (divisor d low high) low.root.extra

abbrev low_weights : Decomp → Tree → Tree → Weights
low_weights d low high = weights (int_div low.root.weight (divisor d low high)) (pos 0)

abbrev high_weights : Decomp → Tree → Tree → Weights
high_weights d low high = weights (int_div high.root.weight (divisor d low high)) (int_div (k_star_bmd_rest d low high) (divisor d low high))

low-weight : (d : Decomp) (low high : Tree) → (root_weights d low high).weight *ℤ (low_weights d low high).weight ≡ low.root.weight
low-weight d low high = signed_gcd-times_first low.root.weight high.root.weight (k_star_bmd_rest d low high)

low-extra : (d : Decomp) (low high : Tree) → (root_weights d low high).extra +ℤ (root_weights d low high).weight *ℤ (low_weights d low high).extra ≡ low.root.extra
low-extra d low high = ap (λ (x : ℤ). low.root.extra +ℤ x) (*ℤ-zero (divisor d low high)) ∙ +ℤ_idr low.root.extra

high-weight : (d : Decomp) (low high : Tree) → (at_high d (root_weights d low high)).weight *ℤ (high_weights d low high).weight ≡ high.root.weight
high-weight d low high =
    ap (λ (x : ℤ). x *ℤ (high_weights d low high).weight) (at_high-weight d (root_weights d low high))
    ∙ signed_gcd-times_second low.root.weight high.root.weight (k_star_bmd_rest d low high)

high-extra : (d : Decomp) (low high : Tree) →
    (at_high d (root_weights d low high)).extra +ℤ (at_high d (root_weights d low high)).weight *ℤ (high_weights d low high).extra ≡ high.root.extra
high-extra d low high =
    ap (λ (x : ℤ). (at_high d (root_weights d low high)).extra +ℤ x *ℤ (high_weights d low high).extra) (at_high-weight d (root_weights d low high))
    ∙ ap (λ (x : ℤ). (at_high d (root_weights d low high)).extra +ℤ x) (signed_gcd-times_third low.root.weight high.root.weight (k_star_bmd_rest d low high))
    ∙ at_high-rest d low high (divisor d low high)

node_table : (d : Decomp) (ds : List Decomp) (l : ℕ) (low high : Tree) →
    table KStarBmd (d ∷ ds) l (node_join KStarBmd d l low high) ≡ merged d (table KStarBmd ds (l + 1) low) (table KStarBmd ds (l + 1) high)
node_table d ds l low high =
    let n = length ds in
    let root = root_weights d low high in
    let a = low_weights d low high in
    let b = high_weights d low high in
    let s = shape_table KStarBmd ds (l + 1) low.shape in
    let r = shape_table KStarBmd ds (l + 1) high.shape in
    let f = weighed KStarBmd root in
    let g = weighed KStarBmd (weights root.weight (pos 0)) in
    ap (each f) (shape_table-at KStarBmd d ds l a b low.shape high.shape)
    ∙ each-merged n d f g (of_sum root.extra root.weight) (each (weighed KStarBmd a) s) (each (weighed KStarBmd b) r)
    (IsOver-each n (weighed KStarBmd a) s (IsOver-shape_table KStarBmd ds (l + 1) low.shape))
    (IsOver-each n (weighed KStarBmd b) r (IsOver-shape_table KStarBmd ds (l + 1) high.shape))
    ∙ ap (λ (t : Table). merged d t (each (at_high_part d f g) (each (weighed KStarBmd b) r)))
    (weighed_twice root a low.root (low-extra d low high) (low-weight d low high) s)
    ∙ ap (merged d (table KStarBmd ds (l + 1) low))
    (ap (λ (h : ℤ → ℤ). each h (each (weighed KStarBmd b) r)) (weighed-at_high d root)
    ∙ weighed_twice (at_high d root) b high.root (high-extra d low high) (high-weight d low high) r)

node_parts : (d : Decomp) (l : ℕ) (low high : Tree) →
    (low_part KStarBmd l (node_join KStarBmd d l low high) ≡ low) × (high_part KStarBmd d l (node_join KStarBmd d l low high) ≡ high)
node_parts d l low high =
    let root = root_weights d low high in
    let a = low_weights d low high in
    let b = high_weights d low high in (
      low_part-at KStarBmd l root a b low.shape high.shape
          ∙ with_weights low (root.weight *ℤ a.weight) root.extra (low-weight d low high) refl,
      high_part-at KStarBmd d l root a b low.shape high.shape
          ∙ high_edge-is d root b high.shape
          ∙ with_weights high _ _ (high-weight d low high) (high-extra d low high),
    )

pub kronecker_rule : HasRule KStarBmd
kronecker_rule = record {
  skip_tells = λ d ds l low high j. skip_tells d low high;
  skip_told = λ d ds l low high j. skip_told d low high;
  node_table = λ d ds l low high j s. node_table d ds l low high;
  node_parts = λ d ds l low high j s. node_parts d l low high;
}
