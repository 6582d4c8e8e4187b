use Rattle.std.specs.HashMap.{get_by_text}
use Rattle.netlist.proofs.Vecs.{mapped_more}
use Rattle.netlist.specs.Finish.{numbered_by}
use Rattle.netlist.specs.Inside.Kept.{net_gate_kept}
use Rattle.netlist.specs.Inside.LookUp.{number_in}
use Rattle.netlist.specs.Inside.Maker.{gate_kept}
use Rattle.netlist.proofs.finish.numbered_gates.Goals as goal

pub loop-gate-preserved : goal.loop-gate-preserved
loop-gate-preserved c =
    mapped_more net_gate_kept (numbered_by (number_in c.args.inputs (get_by_text c.args.sources.now))) gate_kept c.loop-gate.numbered.items _ c.in_ok-numbered_gate.field-0
    c.args.gates.now c.loop-gate.gate-index c.gate-item.result
    c.in_ok-push.ensures.items c.loop-gate.invariant c.in_ok-numbered_gate.ensures c.loop-gate-test.true c.gate-item.is
