use Rattle.std.proofs.Common.{◌≡◌, ◌≤◌, ◌-◌}
use Rattle.table_rule.specs.Words.{chunks}
use Rattle.unique_table.specs.Exploring.{HasExplored}
use Rattle.unique_table.specs.PassInside.{IsSeated}
use Rattle.unique_table.proofs.stock.restock.Given as goal

abbrev pub invariant-loop-stock : goal.invariant-loop-stock
invariant-loop-stock l = record {
  count : l.chunks ≡ chunks l.table.layout;
  pass : IsSeated l.table l.place l.stock;
  explored : HasExplored l.fn.place.me.0 l.place.me.0;
  empty : l.stock.end ≤ l.stock.next;
}

abbrev pub decreases-loop-stock : goal.decreases-loop-stock
decreases-loop-stock l = l.chunks - l.stock.chunk
