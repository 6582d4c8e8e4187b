-- The joining rule of multiplicative binary moment diagrams.
use Rattle.std.proofs.Common.{◌≡◌, refl, sym, ◌∙◌, ap, ℕ, ◌+◌, ℤ, pos, ◌*ℤ◌, List, ◌∷◌, true, false, length}
use Rattle.std.specs.Prelude.{int_div}
use Rattle.std.specs.Ordering.{int_eq}
use Rattle.std.proofs.lemmas.Bool.{and_parts}
use Rattle.integers.specs.Gcd.{signed_gcd}
use Rattle.integers.proofs.Ring.{*ℤ-distrib_left, *ℤ_assoc}
use Rattle.integers.proofs.SignedGcd.{signed_gcd-times_first, signed_gcd-times_second, signed_gcd-is_zero}
use Rattle.word_base.specs.declared.decomp.Decomp.{Decomp}
use Rattle.word_base.specs.declared.decomp.Decomp.TheVariants.{S, P, N}
use Rattle.word_base.specs.declared.kind_name.KindName.TheVariants.{StarBmd}
use Rattle.tables.specs.Table.{Table, each, merged}
use Rattle.tables.specs.Tree.{Tree, weights, constant, skips, node_join}
use Rattle.tables.specs.Parts.{low_part, high_part}
use Rattle.tables.specs.Meaning.{shape_table, table}
use Rattle.tables.specs.Canonical.{IsCanonical}
use Rattle.tables.specs.Laws.{are_allowed, AreJoinable, IsSkip}
use Rattle.tables.proofs.TableLaws.{IsOver-each, each-same, each-each, each-merged}
use Rattle.tables.proofs.TreeLaws.{int_eq-same, int_eq-refl, IsOver-shape_table, shape_table-at}
use Rattle.tables.proofs.KindLaws.{HasRule, by_joins, no_extra, with_weights, low_part-at, high_part-at}

-- an edge of weight 0 is the constant 0, since the weight of an edge to a node is a divisor of a high weight that is not 0
pub weightless : (ds : List Decomp) (l : ℕ) (t : Tree) → are_allowed StarBmd ds ≡ true → IsCanonical StarBmd ds l t →
    t.root.weight ≡ pos 0 → t ≡ constant StarBmd (pos 0)
weightless = by_joins StarBmd (λ t. t.root.weight ≡ pos 0 → t ≡ constant StarBmd (pos 0)) (λ c e. ap (constant StarBmd) e)
    (λ d ds l low high j p q s. at_node d l low high s)
  where
    at_node : (d : Decomp) (l : ℕ) (low high : Tree) → skips StarBmd d low high ≡ false →
        (node_join StarBmd d l low high).root.weight ≡ pos 0 → node_join StarBmd d l low high ≡ constant StarBmd (pos 0)
    at_node d l low high s e =
        let none = (signed_gcd-is_zero low.root.weight high.root.weight (pos 0)).0 e in
        let skipped : int_eq high.root.weight (pos 0) ≡ true = ap (λ (x : ℤ). int_eq x (pos 0)) none.1 ∙ int_eq-refl (pos 0) in
        absurd (cc)

skip_tells : (d : Decomp) (ds : List Decomp) (l : ℕ) (low high : Tree) → AreJoinable StarBmd d ds l low high → skips StarBmd d low high ≡ true → IsSkip StarBmd d low high
skip_tells S ds l low high j h = let no = j.allowed in cc
skip_tells P ds l low high j h =
    weightless ds (l + 1) high j.allowed j.high_canonical (int_eq-same high.root.weight (pos 0) h)
skip_tells N ds l low high j h = let no = j.allowed in cc

skip_told : (d : Decomp) (ds : List Decomp) (l : ℕ) (low high : Tree) → AreJoinable StarBmd d ds l low high → IsSkip StarBmd d low high → skips StarBmd d low high ≡ true
skip_told S ds l low high j e = let no = j.allowed in cc
skip_told P ds l low high j e = ap (λ (t : Tree). int_eq t.root.weight (pos 0)) e ∙ int_eq-refl (pos 0)
skip_told N ds l low high j e = let no = j.allowed in cc

-- g (w v) is m v, where g w is m
weighed_twice : (g w m : ℤ) → g *ℤ w ≡ m → (t : Table) → each (λ x. g *ℤ x) (each (λ x. w *ℤ x) t) ≡ each (λ x. m *ℤ x) t
weighed_twice g w m e t =
    each-each (λ x. g *ℤ x) (λ x. w *ℤ x) t
    ∙ each-same (λ x. g *ℤ (w *ℤ x)) (λ x. m *ℤ x) (λ x. sym (*ℤ_assoc g w x) ∙ ap (λ (y : ℤ). y *ℤ x) e) t

-- g (w0/g v) and g (w1/g v) are w0 v and w1 v
node_table : (d : Decomp) (ds : List Decomp) (l : ℕ) (low high : Tree) → AreJoinable StarBmd d ds l low high →
    table StarBmd (d ∷ ds) l (node_join StarBmd d l low high) ≡ merged d (table StarBmd ds (l + 1) low) (table StarBmd ds (l + 1) high)
node_table S ds l low high j = let no = j.allowed in absurd (cc)
node_table N ds l low high j = let no = j.allowed in absurd (cc)
node_table P ds l low high j =
    let g = signed_gcd low.root.weight high.root.weight (pos 0) in
    let v = int_div low.root.weight g in
    let w = int_div high.root.weight g in
    let lows = shape_table StarBmd ds (l + 1) low.shape in
    let highs = shape_table StarBmd ds (l + 1) high.shape in
    ap (each (λ x. g *ℤ x)) (shape_table-at StarBmd P ds l (weights v (pos 0)) (weights w (pos 0)) low.shape high.shape)
    ∙ each-merged (length ds) P (λ x. g *ℤ x) (λ x. g *ℤ x) (*ℤ-distrib_left g) (each (λ x. v *ℤ x) lows) (each (λ x. w *ℤ x) highs)
    (IsOver-each (length ds) (λ x. v *ℤ x) lows (IsOver-shape_table StarBmd ds (l + 1) low.shape))
    (IsOver-each (length ds) (λ x. w *ℤ x) highs (IsOver-shape_table StarBmd ds (l + 1) high.shape))
    ∙ ap (λ (t : Table). merged P t (each (λ x. g *ℤ x) (each (λ x. w *ℤ x) highs)))
    (weighed_twice g v low.root.weight (signed_gcd-times_first low.root.weight high.root.weight (pos 0)) lows)
    ∙ ap (merged P (table StarBmd ds (l + 1) low))
    (weighed_twice g w high.root.weight (signed_gcd-times_second low.root.weight high.root.weight (pos 0)) highs)

node_parts : (d : Decomp) (ds : List Decomp) (l : ℕ) (low high : Tree) → AreJoinable StarBmd d ds l low high →
    (low_part StarBmd l (node_join StarBmd d l low high) ≡ low) × (high_part StarBmd d l (node_join StarBmd d l low high) ≡ high)
node_parts d ds l low high j =
    let g = signed_gcd low.root.weight high.root.weight (pos 0) in
    let v = int_div low.root.weight g in
    let w = int_div high.root.weight g in
    let below = (and_parts _ (are_allowed StarBmd ds) j.allowed).1 in (
      low_part-at StarBmd l (weights g (pos 0)) (weights v (pos 0)) (weights w (pos 0)) low.shape high.shape
          ∙ with_weights low (g *ℤ v) (pos 0) (signed_gcd-times_first low.root.weight high.root.weight (pos 0))
          (sym (no_extra StarBmd refl ds (l + 1) low below j.low_canonical)),
      high_part-at StarBmd d l (weights g (pos 0)) (weights v (pos 0)) (weights w (pos 0)) low.shape high.shape
          ∙ with_weights high (g *ℤ w) (pos 0) (signed_gcd-times_second low.root.weight high.root.weight (pos 0))
          (sym (no_extra StarBmd refl ds (l + 1) high below j.high_canonical)),
    )

pub moment_rule : HasRule StarBmd
moment_rule = record {
  skip_tells = skip_tells;
  skip_told = skip_told;
  node_table = λ d ds l low high j s. node_table d ds l low high j;
  node_parts = λ d ds l low high j s. node_parts d ds l low high j;
}
