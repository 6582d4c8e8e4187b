use Rattle.netlist.proofs.ConeWalks.{topological-is_gate}
use Rattle.circuits.proofs.Gates.{gate-sized, gate-reads_nets}
use Rattle.netlist.proofs.OrderedValues.{settled_more, settled-gates}
use Rattle.netlist.proofs.values.settle.Goals as goal

pub gate-word-requires : goal.gate-word-requires
gate-word-requires c = topological-is_gate c.args.nets.now c.args.order.now c.loop-net.net-index c.requires.order c.loop-net-test.true

pub gate_value-requires-clause-within : goal.gate_value-requires-clause-within
gate_value-requires-clause-within c = λ k d low. rw c.loop-net.invariant.long (gate-reads_nets c.args.nets.now c.gate-word.ensures.sound _ _ c.gate-word.ensures.gate k d low)

pub gate_value-requires-clause-arity : goal.gate_value-requires-clause-arity
gate_value-requires-clause-arity c = (gate-sized c.args.nets.now c.gate-word.ensures.sound _ _ c.gate-word.ensures.gate).arity

pub loop-net-preserved : goal.loop-net-preserved
loop-net-preserved c =
    rw c.gate_value.ensures (settled_more c.args.nets.now c.requires.accepted c.args.order.now c.requires.order c.args.values.now c.loop-net.values c.loop-net.net-index c.loop-net-test.true c.loop-net.invariant _ c.gate-word.ensures.gate)

pub returns-clause-gates : goal.returns-clause-gates
returns-clause-gates c = settled-gates c.args.nets.now c.requires.accepted c.args.order.now c.requires.order c.args.values.now c.loop-net.values c.loop-net.net-index c.loop-net-test.false c.loop-net.invariant
