use Rattle.std.proofs.Common.{◌∙◌, sym, ap, length, map}
use Rattle.netlist.proofs.CycleCalls.{none-from_full}
use Rattle.netlist.specs.Inside.Maker.{gate_kept}
use Rattle.netlist.proofs.cycle.cycle_of.Goals as goal

pub returns-then-order-gates : goal.returns-then-order-gates
returns-then-order-gates c =
    sym (none-from_full c.args.nets.now (map gate_kept c.args.gates.now) c.gates.ensures.sound (ap length (sym c.requires.order) ∙ (c.if-order-gates.true ∙ c.gates.ensures.gates)))
