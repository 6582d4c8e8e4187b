use Rattle.std.proofs.Common.{◌≡◌, ◌<◌, take}
use Rattle.table_rule.specs.Laws.{IsViewOf}
use Rattle.unique_table.specs.Exploring.{drafted}
use Rattle.unique_table.specs.Walking.{IsAt}
use Rattle.unique_table.proofs.body.write_draft.Given as goal

abbrev pub invariant-loop-i : goal.invariant-loop-i
invariant-loop-i l = record {
  own : IsAt l.table l.place;
  possible : IsViewOf l.table.layout l.place.me.0;
  view : l.place.me.0 ≡ drafted l.place.me.0.draft l.fn.place.me.0;
  written : 0 < l.i → l.place.me.0.draft ≡ take l.i l.body;
}
