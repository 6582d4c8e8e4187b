use Rattle.word_base.specs.declared.kind_name.KindName.TheVariants.{Evbdd}
use Rattle.tables.proofs.KindLaws.{constants_stand, constants_differ, leaves_are_constants, join_has_parts, parts_undo_join, joins_skip, parts_are_canonical, join_of_parts}
use Rattle.tables.proofs.EdgeValued.{edge_valued_rule}
use Rattle.tables.proofs.laws.evbdd_laws.Goals as goal

pub returns : goal.returns
returns c = record {
  constants_stand = constants_stand Evbdd;
  constants_differ = constants_differ Evbdd;
  leaves_are_constants = leaves_are_constants Evbdd;
  join_has_parts = join_has_parts Evbdd edge_valued_rule;
  parts_undo_join = parts_undo_join Evbdd edge_valued_rule;
  joins_skip = joins_skip Evbdd edge_valued_rule;
  parts_are_canonical = parts_are_canonical Evbdd edge_valued_rule;
  join_of_parts = join_of_parts Evbdd edge_valued_rule;
}
