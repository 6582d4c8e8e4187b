use Rattle.std.specs.HashMap.{get_by_text}
use Rattle.std.specs.HashSet.{contains_text}
use Rattle.netlist.proofs.Makers.{IsKept-output}
use Rattle.netlist.specs.Draft.{Draft}
use Rattle.netlist.specs.Inside.Maker.{drafted}
use Rattle.netlist.proofs.maker.NetlistMaker.add_output.Goals as goal

pub invariant_of-self-2 : goal.invariant_of-self-2
invariant_of-self-2 c =
    let d : Draft = drafted c.self.inside.calls c.self.inside.inputs.items c.self.inside.gates.items c.self.inside.outputs.items in
    IsKept-output d (get_by_text c.self.inside.sources) (contains_text c.self.inside.named) c.self.invariant c.args.name.now (contains_text c.put_output.new.named) _
    (let e = c.in_ok-put_output.ensures.outputs in let f = c.saturating_add-self-inside.ensures in cc)
    c.in_ok-put_output.ensures.named
