use Rattle.std.proofs.Common.{◌∙◌, sym, arith}
use Rattle.spec_lang.proofs.Values.{total-fits, weight-fits, next_total, total_with, total_without, total-below}
use Rattle.spec_lang.proofs.value.value_of_nets.Goals as goal
use Rattle.spec_lang.proofs.value.value_of_nets.Goals.{then-bit, else-bit}

pub overflow_add-total : goal.overflow_add-total
overflow_add-total c =
    let bound = total-fits c.args.values.now c.args.nets.now c.loop-net.net-index c.loop-net.total c.loop-net.weight c.loop-net-test.true c.requires c.loop-net.invariant in
    omega arith

pub overflow_mul-weight : goal.overflow_mul-weight
overflow_mul-weight c =
    let bound = weight-fits c.loop-net.net-index c.loop-net.weight (omega arith) c.loop-net.invariant.1 in
    omega arith

pub loop-net-preserved : goal.loop-net-preserved
loop-net-preserved c =
    let next = next_total c.args.values.now c.args.nets.now c.loop-net.net-index c.loop-net.total c.loop-net.weight c.loop-net-test.true c.loop-net.invariant in
    elim c.if-bit.branch [
      | then-bit w ↦ (w.total-is ∙ sym (total_with c.loop-net.total c.loop-net.weight c.args.values.now _ (sym c.bit.ensures ∙ w.if-bit.true)) ∙ next.0, next.1)
      | else-bit w ↦ (w.total-is ∙ sym (total_without c.loop-net.total c.loop-net.weight c.args.values.now _ (sym c.bit.ensures ∙ w.if-bit.false)) ∙ next.0, next.1)
    ]

pub returns-clause-below : goal.returns-clause-below
returns-clause-below c = total-below c.args.values.now c.args.nets.now c.loop-net.net-index c.loop-net.total c.loop-net.weight c.loop-net.auto.net-index-end c.requires c.loop-net.invariant
