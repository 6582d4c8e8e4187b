use Rattle.std.proofs.Common.{◌<◌, ◌∙◌, subst, sym}
use Rattle.netlist.proofs.KeptCircuits.{name_of-gate}
use Rattle.circuits.specs.Circuit.{net_count}
use Rattle.netlist.proofs.nets.Nets.name.Goals as goal

pub returns-else-net-inputs : goal.returns-else-net-inputs
returns-else-net-inputs c =
    rw (c.deref-else-net-inputs.ensures, ← c.self.view_is)
    (name_of-gate c.self.inside.inputs.items c.self.inside.gates.items c.self.inside.outputs.items c.args.net c.len-inputs.result c.index-else-net-inputs.result.now
    (c.len-inputs.ensures ∙ c.self.inside.inputs.ok.0)
    c.if-net-inputs.false
    (subst (λ k. c.args.net < net_count k) (sym c.self.view_is) c.requires)
    c.index-else-net-inputs.ensures)
