use Rattle.word_base.specs.declared.kind_name.KindName.TheVariants.{Evbdd}
use Rattle.tables.proofs.KindLaws.{canonical_trees_agree, joins_are_canonical, canonical_stands}
use Rattle.tables.proofs.EdgeValued.{edge_valued_rule}
use Rattle.tables.proofs.laws.evbdd_is_canonical.Goals as goal

pub returns : goal.returns
returns c = record {
  trees_agree = canonical_trees_agree Evbdd edge_valued_rule;
  joins_are_canonical = joins_are_canonical Evbdd edge_valued_rule;
  canonical_stands = canonical_stands Evbdd edge_valued_rule;
}
