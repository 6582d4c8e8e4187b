-- The joining rule of edge-valued binary decision diagrams.
use Rattle.std.proofs.Common.{◌≡◌, refl, sym, ◌∙◌, ap, ℕ, ◌+◌, pos, ◌+ℤ◌, ◌-ℤ◌, List, ◌∷◌, true, arith}
use Rattle.std.proofs.lemmas.Int.{ints}
use Rattle.std.proofs.lemmas.Bool.{and_parts}
use Rattle.word_base.specs.declared.decomp.Decomp.{Decomp}
use Rattle.word_base.specs.declared.decomp.Decomp.TheVariants.{S, P, N}
use Rattle.word_base.specs.declared.kind_name.KindName.TheVariants.{Evbdd}
use Rattle.tables.specs.Table.{each, merged}
use Rattle.tables.specs.Tree.{Tree, weights, skips, node_join}
use Rattle.tables.specs.Parts.{low_part, high_part}
use Rattle.tables.specs.Meaning.{weighed, shape_table, table}
use Rattle.tables.specs.Laws.{are_allowed, AreJoinable, IsSkip}
use Rattle.tables.proofs.TableLaws.{both_halves, each-same, each-each}
use Rattle.tables.proofs.TreeLaws.{same-same, same-eq, shape_table-at}
use Rattle.tables.proofs.KindLaws.{HasRule, no_extra, with_weights, low_part-at, high_part-at}

skip_tells : (d : Decomp) (ds : List Decomp) (l : ℕ) (low high : Tree) → AreJoinable Evbdd d ds l low high → skips Evbdd d low high ≡ true → IsSkip Evbdd d low high
skip_tells S ds l low high j h = same-same low high h
skip_tells P ds l low high j h = let no = j.allowed in cc
skip_tells N ds l low high j h = let no = j.allowed in cc

skip_told : (d : Decomp) (ds : List Decomp) (l : ℕ) (low high : Tree) → AreJoinable Evbdd d ds l low high → IsSkip Evbdd d low high → skips Evbdd d low high ≡ true
skip_told S ds l low high j e = same-eq low high e
skip_told P ds l low high j e = let no = j.allowed in cc
skip_told N ds l low high j e = let no = j.allowed in cc

-- a0 + (0 + v) and a0 + (a1 - a0 + v) are a0 + v and a1 + v
node_table : (d : Decomp) (ds : List Decomp) (l : ℕ) (low high : Tree) → AreJoinable Evbdd d ds l low high →
    table Evbdd (d ∷ ds) l (node_join Evbdd d l low high) ≡ merged d (table Evbdd ds (l + 1) low) (table Evbdd ds (l + 1) high)
node_table P ds l low high j = let no = j.allowed in absurd (cc)
node_table N ds l low high j = let no = j.allowed in absurd (cc)
node_table S ds l low high j =
    let root = weights low.root.weight (pos 0) in
    let at_low = weights (pos 0) (pos 0) in
    let at_high = weights (high.root.weight -ℤ low.root.weight) (pos 0) in
    let lows = shape_table Evbdd ds (l + 1) low.shape in
    let highs = shape_table Evbdd ds (l + 1) high.shape in
    ap (each (weighed Evbdd root)) (shape_table-at Evbdd S ds l at_low at_high low.shape high.shape)
    ∙ both_halves
    (each-each (weighed Evbdd root) (weighed Evbdd at_low) lows
    ∙ each-same _ (weighed Evbdd low.root) (λ x. omega (arith, ints)) lows)
    (each-each (weighed Evbdd root) (weighed Evbdd at_high) highs
    ∙ each-same _ (weighed Evbdd high.root) (λ x. omega (arith, ints)) highs)

node_parts : (d : Decomp) (ds : List Decomp) (l : ℕ) (low high : Tree) → AreJoinable Evbdd d ds l low high →
    (low_part Evbdd l (node_join Evbdd d l low high) ≡ low) × (high_part Evbdd d l (node_join Evbdd d l low high) ≡ high)
node_parts d ds l low high j =
    let root = weights low.root.weight (pos 0) in
    let at_low = weights (pos 0) (pos 0) in
    let at_high = weights (high.root.weight -ℤ low.root.weight) (pos 0) in
    let below = (and_parts _ (are_allowed Evbdd ds) j.allowed).1 in (
      low_part-at Evbdd l root at_low at_high low.shape high.shape
          ∙ with_weights low low.root.weight (pos 0) refl (sym (no_extra Evbdd refl ds (l + 1) low below j.low_canonical)),
      high_part-at Evbdd d l root at_low at_high low.shape high.shape
          ∙ with_weights high (low.root.weight +ℤ (high.root.weight -ℤ low.root.weight)) (pos 0) (omega (arith, ints)) (sym (no_extra Evbdd refl ds (l + 1) high below j.high_canonical)),
    )

pub edge_valued_rule : HasRule Evbdd
edge_valued_rule = record {
  skip_tells = skip_tells;
  skip_told = skip_told;
  node_table = λ d ds l low high j s. node_table d ds l low high j;
  node_parts = λ d ds l low high j s. node_parts d ds l low high j;
}
