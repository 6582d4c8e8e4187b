use Rattle.word_base.specs.declared.kind_name.KindName.TheVariants.{StarBmd}
use Rattle.tables.proofs.KindLaws.{canonical_trees_agree, joins_are_canonical, canonical_stands}
use Rattle.tables.proofs.Moment.{moment_rule}
use Rattle.tables.proofs.laws.star_bmd_is_canonical.Goals as goal

pub returns : goal.returns
returns c = record {
  trees_agree = canonical_trees_agree StarBmd moment_rule;
  joins_are_canonical = joins_are_canonical StarBmd moment_rule;
  canonical_stands = canonical_stands StarBmd moment_rule;
}
