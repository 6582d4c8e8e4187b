use Rattle.table_rule.specs.Laws.{IsViewOf}
use Rattle.unique_table.specs.Exploring.{HasOnlyRead}
use Rattle.unique_table.specs.Walking.{IsAt, HasReadFirst}
use Rattle.unique_table.proofs.body.has_body.Given as goal

abbrev pub invariant-loop-i : goal.invariant-loop-i
invariant-loop-i l = record {
  own : IsAt l.table l.place;
  possible : IsViewOf l.table.layout l.place.me.0;
  read : HasOnlyRead l.fn.place.me.0 l.place.me.0;
  words : HasReadFirst l.place.me.0 l.id l.i l.body;
}
