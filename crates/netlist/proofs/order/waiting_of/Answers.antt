use Rattle.circuits.proofs.Gates.{fanin-few}
use Rattle.netlist.proofs.order.waiting_of.Goals as goal

pub count_gates-requires : goal.count_gates-requires
count_gates-requires c = rw c.fanin.ensures (fanin-few c.args.nets.now c.inputs.ensures.sound.limits c.loop-net.net)
