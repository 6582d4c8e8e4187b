use Rattle.table_rule.specs.Stores.{AreOfOneTable}
use Rattle.unique_table.specs.Passes.{pass_view}
use Rattle.unique_table_tests.proofs.thread_tests.intern_below.Given as goal

abbrev pub invariant-loop-k : goal.invariant-loop-k
invariant-loop-k l = AreOfOneTable (pass_view l.fn.pass) (pass_view l.pass)
