use Rattle.word_base.specs.declared.kind_name.KindName.TheVariants.{KStarBmd}
use Rattle.tables.proofs.KindLaws.{canonical_trees_agree, joins_are_canonical, canonical_stands}
use Rattle.tables.proofs.Kronecker.{kronecker_rule}
use Rattle.tables.proofs.laws.k_star_bmd_is_canonical.Goals as goal

pub returns : goal.returns
returns c = record {
  trees_agree = canonical_trees_agree KStarBmd kronecker_rule;
  joins_are_canonical = joins_are_canonical KStarBmd kronecker_rule;
  canonical_stands = canonical_stands KStarBmd kronecker_rule;
}
