use Rattle.word_base.specs.declared.kind_name.KindName.TheVariants.{Hdd}
use Rattle.tables.proofs.KindLaws.{constants_stand, constants_differ, leaves_are_constants, join_has_parts, parts_undo_join, joins_skip, parts_are_canonical, join_of_parts}
use Rattle.tables.proofs.Hybrid.{hybrid_rule}
use Rattle.tables.proofs.laws.hdd_laws.Goals as goal

pub returns : goal.returns
returns c = record {
  constants_stand = constants_stand Hdd;
  constants_differ = constants_differ Hdd;
  leaves_are_constants = leaves_are_constants Hdd;
  join_has_parts = join_has_parts Hdd hybrid_rule;
  parts_undo_join = parts_undo_join Hdd hybrid_rule;
  joins_skip = joins_skip Hdd hybrid_rule;
  parts_are_canonical = parts_are_canonical Hdd hybrid_rule;
  join_of_parts = join_of_parts Hdd hybrid_rule;
}
