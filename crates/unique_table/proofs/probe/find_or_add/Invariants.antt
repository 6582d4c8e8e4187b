use Rattle.std.proofs.Common.{◌≡◌, true}
use Rattle.record_store.specs.Path.{path_bucket}
use Rattle.table_rule.specs.Steps.{HasPassed}
use Rattle.unique_table.specs.Exploring.{HasExplored}
use Rattle.unique_table.specs.Probing.{IsDrafted}
use Rattle.unique_table.specs.PassInside.{IsSeated}
use Rattle.unique_table.proofs.probe.find_or_add.Given as goal

abbrev pub invariant-loop-distance : goal.invariant-loop-distance
invariant-loop-distance l = record {
  pass : IsSeated l.table l.place l.stock;
  explored : HasExplored l.fn.place.me.0 l.place.me.0;
  drafted : l.drafted ≡ true → IsDrafted l.place.me.0 l.body l.stock;
  count : l.buckets ≡ l.table.layout.buckets;
  here : path_bucket l.body l.table.layout.buckets l.distance ≡ l.bucket;
  passed : HasPassed l.table.layout l.place.me.0 l.body l.distance;
}
