use Rattle.std.proofs.Common.{◌≡◌, ℕ, ◌<◌, List, length}
use Rattle.std.specs.Prelude.{slice_index}
use Rattle.table_rule.specs.Counts.{IsIn}
use Rattle.unique_table.specs.Exploring.{HasOnlyRead}
use Rattle.unique_table.specs.PassInside.{IsPass}
use Rattle.unique_table.proofs.pass.SharedPassStore.fields.Given as goal

abbrev pub invariant-loop-i : goal.invariant-loop-i
invariant-loop-i l = record {
  pass : IsPass l.self-inside.table.now l.self-inside.place l.self-inside.stock;
  table : l.self-inside.table ≡ l.initial.self-inside.table;
  read : HasOnlyRead l.initial.self-inside.place.me.0 l.self-inside.place.me.0;
  long : length l.body ≡ 8;
  words : (node : List ℕ) → IsIn l.initial.self-inside.place.me.0.known (l.id, node) → (j : ℕ) → j < l.i → slice_index l.body j ≡ slice_index node j;
}
