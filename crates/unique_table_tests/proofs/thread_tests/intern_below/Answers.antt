use Rattle.std.proofs.Common.{ap, refl, ◌∙◌}
use Rattle.table_rule.specs.Stamps.{table_part}
use Rattle.unique_table_tests.proofs.thread_tests.intern_below.Goals as goal

pub loop-k-init : goal.loop-k-init
loop-k-init c = record { room = refl; table = refl }

pub loop-k-preserved : goal.loop-k-preserved
loop-k-preserved c =
    let e = c.intern.ensures.interns in
    record { room = e.room ∙ c.loop-k.invariant.room; table = ap table_part e.stamp ∙ c.loop-k.invariant.table }
