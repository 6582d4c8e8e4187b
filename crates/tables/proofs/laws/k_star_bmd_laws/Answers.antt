use Rattle.word_base.specs.declared.kind_name.KindName.TheVariants.{KStarBmd}
use Rattle.tables.proofs.KindLaws.{constants_stand, constants_differ, leaves_are_constants, join_has_parts, parts_undo_join, joins_skip, parts_are_canonical, join_of_parts}
use Rattle.tables.proofs.Kronecker.{kronecker_rule}
use Rattle.tables.proofs.laws.k_star_bmd_laws.Goals as goal

pub returns : goal.returns
returns c = record {
  constants_stand = constants_stand KStarBmd;
  constants_differ = constants_differ KStarBmd;
  leaves_are_constants = leaves_are_constants KStarBmd;
  join_has_parts = join_has_parts KStarBmd kronecker_rule;
  parts_undo_join = parts_undo_join KStarBmd kronecker_rule;
  joins_skip = joins_skip KStarBmd kronecker_rule;
  parts_are_canonical = parts_are_canonical KStarBmd kronecker_rule;
  join_of_parts = join_of_parts KStarBmd kronecker_rule;
}
