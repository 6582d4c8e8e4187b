-- The circuit that a netlist keeps, field by field.
use Rattle.std.specs.Prelude.{◌≡◌, ℕ, ◌-◌, ◌<◌, ◌≤◌, List, [], length, map, get_or, String, string_bytes}
use Rattle.std.specs.declared.alloc.Global.{Global}
use Rattle.std.proofs.Common.{sym, ◌∙◌, ap, arith}
use Rattle.std.proofs.lemmas.List.{length-map, get_or-append_right, get_or-map}
use Rattle.circuits.specs.Circuit.{net_count, name_of}
use Rattle.netlist.specs.Inside.Kept.{net_gate_kept, circuit_kept}
use Rattle.netlist.specs.declared.nets.NetGate.{NetGate}

-- the name of a gate's net
pub name_of-gate : (inputs : List (String Global)) (gates : List NetGate) (outputs : List ℕ) (net n : ℕ) (gate : NetGate) → n ≡ length inputs → n ≤ net → net < net_count (circuit_kept inputs gates outputs) → gate ≡ get_or gates (net - n) gate → string_bytes gate.name ≡ name_of (circuit_kept inputs gates outputs) net
name_of-gate inputs gates outputs net n gate many high low is =
    let within : net - n < length gates = omega (arith, low, length-map inputs string_bytes, length-map gates net_gate_kept) in
    let within' : net - n < length (map net_gate_kept gates) = omega (arith, within, length-map gates net_gate_kept) in
    sym
    (get_or-append_right (map string_bytes inputs) (map (λ gate. gate.name) (map net_gate_kept gates)) n net [] (length-map inputs string_bytes ∙ sym many) high
    ∙ (get_or-map (λ gate. gate.name) (map net_gate_kept gates) (net - n) (net_gate_kept gate) [] within'
    ∙ (ap (λ g. g.name) (get_or-map net_gate_kept gates (net - n) gate (net_gate_kept gate) within) ∙ ap (λ g. string_bytes g.name) (sym is))))
