-- The joining rule of hybrid diagrams, at all three letters.
use Rattle.std.proofs.Common.{◌≡◌, ◌∙◌, ℕ, ◌+◌, pos, List, ◌∷◌, true, arith}
use Rattle.std.proofs.lemmas.Int.{ints}
use Rattle.word_base.specs.declared.decomp.Decomp.{Decomp}
use Rattle.word_base.specs.declared.decomp.Decomp.TheVariants.{S, P, N}
use Rattle.word_base.specs.declared.kind_name.KindName.TheVariants.{Hdd}
use Rattle.tables.specs.Table.{merged}
use Rattle.tables.specs.Tree.{Tree, weights, constant, skips, node_join}
use Rattle.tables.specs.Meaning.{weighed, table}
use Rattle.tables.specs.Laws.{IsSkip}
use Rattle.tables.proofs.TableLaws.{each-identity}
use Rattle.tables.proofs.TreeLaws.{same-same, same-eq, shape_table-at}
use Rattle.tables.proofs.KindLaws.{HasRule, low_part-at, high_part-at}

skip_tells : (d : Decomp) (low high : Tree) → skips Hdd d low high ≡ true → IsSkip Hdd d low high
skip_tells S low high h = same-same low high h
skip_tells P low high h = same-same high (constant Hdd (pos 0)) h
skip_tells N low high h = same-same high (constant Hdd (pos 0)) h

skip_told : (d : Decomp) (low high : Tree) → IsSkip Hdd d low high → skips Hdd d low high ≡ true
skip_told S low high e = same-eq low high e
skip_told P low high e = same-eq high (constant Hdd (pos 0)) e
skip_told N low high e = same-eq high (constant Hdd (pos 0)) e

-- the root of an edge to a node adds nothing
node_table : (d : Decomp) (ds : List Decomp) (l : ℕ) (low high : Tree) →
    table Hdd (d ∷ ds) l (node_join Hdd d l low high) ≡ merged d (table Hdd ds (l + 1) low) (table Hdd ds (l + 1) high)
node_table d ds l low high =
    each-identity (weighed Hdd (weights (pos 0) (pos 0))) (λ x. omega (arith, ints)) _
    ∙ shape_table-at Hdd d ds l low.root high.root low.shape high.shape

pub hybrid_rule : HasRule Hdd
hybrid_rule = record {
  skip_tells = λ d ds l low high j. skip_tells d low high;
  skip_told = λ d ds l low high j. skip_told d low high;
  node_table = λ d ds l low high j s. node_table d ds l low high;
  node_parts = λ d ds l low high j s. (
    low_part-at Hdd l (weights (pos 0) (pos 0)) low.root high.root low.shape high.shape,
    high_part-at Hdd d l (weights (pos 0) (pos 0)) low.root high.root low.shape high.shape,
  );
}
