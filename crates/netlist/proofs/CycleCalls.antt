-- A circuit without a call on a cycle is accepted, and one whose order is complete has no such call.
use Rattle.std.specs.Prelude.{◌≡◌, ℕ, true, List, length, None}
use Rattle.std.proofs.Common.{⊎_elim, inl, inr}
use Rattle.std.proofs.lemmas.Bool.{both_ways, false_from_ne_true}
use Rattle.circuits.proofs.Accepted.{accepted-iff_full, reader_is_gate}
use Rattle.netlist.proofs.LeastCalls.{none_least, least-if_none}
use Rattle.circuits.proofs.Cones.{is_in_cone-reached}
use Rattle.circuits.proofs.Members.{Contains-gate_nets}
use Rattle.circuits.specs.Circuit.{Circuit, input_count, gate_nets, fanin}
use Rattle.circuits.specs.Cone.{IsReachedFrom}
use Rattle.netlist.specs.Draft.{GateLine}
use Rattle.circuits.specs.Cone.{reaches_itself}
use Rattle.netlist.specs.Finish.{call_of, least, calls_on_cycles}
use Rattle.circuits.specs.Sound.{IsSound}
use Rattle.circuits.specs.Order.{IsAccepted, Reaches, step, steps, topological}

-- on a cycle is what reaches itself
pub circle-from : (c : Circuit) (net : ℕ) → reaches_itself c net ≡ true → Reaches c net net
circle-from c net is = ⊎_elim (λ has. step has) (λ far. steps far.1 far.2) ((is_in_cone-reached c (fanin c net) net).0 is)

from_reaches : {c : Circuit} {net to : ℕ} → Reaches c net to → IsReachedFrom c (fanin c net) to
from_reaches (step has) = inl has
from_reaches (steps {input = input} has rest) = inr (input, has, rest)

pub on_cycle-from : (c : Circuit) (net : ℕ) → Reaches c net net → reaches_itself c net ≡ true
on_cycle-from c net circle = (is_in_cone-reached c (fanin c net) net).1 (from_reaches circle)

pub accepted-from_none : (c : Circuit) (lines : List GateLine) → IsSound c → least (calls_on_cycles c lines) ≡ None → IsAccepted c
accepted-from_none c lines sound none = record {
  inputs = sound.inputs;
  outputs = sound.outputs;
  no_cycle = λ net circle.
      both_ways (reaches_itself c net) (none_least (reaches_itself c) (call_of (input_count c) lines) (gate_nets c) none net (Contains-gate_nets c net (reader_is_gate circle))) (on_cycle-from c net circle);
}

pub none-from_full : (c : Circuit) (lines : List GateLine) → IsSound c → length (topological c) ≡ length c.gates → least (calls_on_cycles c lines) ≡ None
none-from_full c lines sound full =
    let accepted : IsAccepted c = (accepted-iff_full c sound.outputs).1 full in
    least-if_none (reaches_itself c) (call_of (input_count c) lines) (gate_nets c) (λ net has. false_from_ne_true (reaches_itself c net) (λ on. accepted.no_cycle net (circle-from c net on)))
