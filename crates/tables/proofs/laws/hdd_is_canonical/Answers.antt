use Rattle.word_base.specs.declared.kind_name.KindName.TheVariants.{Hdd}
use Rattle.tables.proofs.KindLaws.{canonical_trees_agree, joins_are_canonical, canonical_stands}
use Rattle.tables.proofs.Hybrid.{hybrid_rule}
use Rattle.tables.proofs.laws.hdd_is_canonical.Goals as goal

pub returns : goal.returns
returns c = record {
  trees_agree = canonical_trees_agree Hdd hybrid_rule;
  joins_are_canonical = joins_are_canonical Hdd hybrid_rule;
  canonical_stands = canonical_stands Hdd hybrid_rule;
}
