use Rattle.unique_table.specs.Values.{IsOf}
use Rattle.unique_table_tests.proofs.tests.fill.Given as goal

abbrev pub invariant-loop-k : goal.invariant-loop-k
invariant-loop-k g l = IsOf l.table l.pass
