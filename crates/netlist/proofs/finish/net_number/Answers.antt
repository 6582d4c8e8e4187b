use Rattle.std.proofs.Common.{sym}
use Rattle.netlist.proofs.finish.net_number.Goals as goal

pub net-requires : goal.net-requires
net-requires c = c.requires c.args.name.now c.in-Some.source.now (sym c.in-Some.ensures.value)
