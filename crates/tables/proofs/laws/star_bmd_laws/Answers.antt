use Rattle.word_base.specs.declared.kind_name.KindName.TheVariants.{StarBmd}
use Rattle.tables.proofs.KindLaws.{constants_stand, constants_differ, leaves_are_constants, join_has_parts, parts_undo_join, joins_skip, parts_are_canonical, join_of_parts}
use Rattle.tables.proofs.Moment.{moment_rule}
use Rattle.tables.proofs.laws.star_bmd_laws.Goals as goal

pub returns : goal.returns
returns c = record {
  constants_stand = constants_stand StarBmd;
  constants_differ = constants_differ StarBmd;
  leaves_are_constants = leaves_are_constants StarBmd;
  join_has_parts = join_has_parts StarBmd moment_rule;
  parts_undo_join = parts_undo_join StarBmd moment_rule;
  joins_skip = joins_skip StarBmd moment_rule;
  parts_are_canonical = parts_are_canonical StarBmd moment_rule;
  join_of_parts = join_of_parts StarBmd moment_rule;
}
