use Rattle.std.proofs.Common.{◌≡◌, ◌∙◌, sym, ap, length, map, arith, Some, None}
use Rattle.std.proofs.lemmas.List.{length-map}
use Rattle.std.specs.HashMap.{get_by_text}
use Rattle.netlist.proofs.Sources.{place_of-found, found-within}
use Rattle.circuits.specs.Circuit.{Circuit, Gate}
use Rattle.circuits.specs.Names.{net_of}
use Rattle.netlist.specs.Inside.Source.{source_net}
use Rattle.netlist.proofs.netlist.Netlist.find.Goals as goal

pub net-requires : goal.net-requires
net-requires c =
    let d : Circuit = c.self.inside.nets in
    let low = found-within d.inputs (map (λ (gate : Gate). gate.name) d.gates) (get_by_text c.self.inside.sources) c.self.invariant.sources c.self.invariant.sound.names c.args.name.now c.in-Some.source.now (sym c.in-Some.ensures.value) in
    let many = length-map d.gates (λ (gate : Gate). gate.name) in
    rw c.inputs.ensures.inputs (omega (arith, low, many, c.self.invariant.sound.limits.inputs, c.self.invariant.sound.limits.gates))

pub returns-in-Some : goal.returns-in-Some
returns-in-Some c =
    let d : Circuit = c.self.inside.nets in
    let is : net_of d c.args.name.now ≡ Some (source_net (length d.inputs) c.in-Some.source.now) =
    place_of-found d.inputs (map (λ (gate : Gate). gate.name) d.gates) (get_by_text c.self.inside.sources) c.self.invariant.sources c.self.invariant.sound.names c.args.name.now (Some c.in-Some.source.now) (sym c.in-Some.ensures.value)
    in
    sym (ap (λ k. net_of k c.args.name.now) (sym c.self.view_is) ∙ (is ∙ ap Some (ap (λ n. source_net n c.in-Some.source.now) (sym c.inputs.ensures.inputs) ∙ sym c.net.ensures)))

pub returns-in-None : goal.returns-in-None
returns-in-None c =
    let d : Circuit = c.self.inside.nets in
    let is : net_of d c.args.name.now ≡ None =
    place_of-found d.inputs (map (λ (gate : Gate). gate.name) d.gates) (get_by_text c.self.inside.sources) c.self.invariant.sources c.self.invariant.sound.names c.args.name.now None (sym c.in-None.ensures.value)
    in
    sym (ap (λ k. net_of k c.args.name.now) (sym c.self.view_is) ∙ is)
