-- The laws of these definitions. Each is the contract of a function of src/laws.rt.
use Rattle.std.specs.Prelude.{◌≡◌, ℕ, ◌<◌, Bool, List, length, map, ◌↔◌, All, IsTrue}
use Rattle.circuits.specs.Circuit.{Circuit, IsGate, input_count, net_count}
use Rattle.circuits.specs.Cone.{IsReachedFrom, is_in_cone, cone}
use Rattle.circuits.specs.Order.{IsAccepted, IsTopologicalOrder, topological}
use Rattle.circuits.specs.Polynomial.{polynomial, number_of}
use Rattle.circuits.specs.Truth.{truth}
use Rattle.circuits.specs.Valuation.{IsValuation, valuation}
use Rattle.circuits.specs.declared.gate_word.GateWord.{GateWord}

-- `valuation` is the one valuation of an accepted circuit at given bits
abbrev pub OneValuation : Type 0
OneValuation = (c : Circuit) (bits : List Bool) → IsAccepted c → length bits ≡ input_count c →
    IsValuation c bits (valuation c bits)
    × ((values : List Bool) → IsValuation c bits values → values ≡ valuation c bits)

-- at bits, each word's polynomial is its truth function
abbrev pub PolynomialsAreTruth : Type 0
PolynomialsAreTruth = (word : GateWord) (bits : List Bool) → 0 < length bits →
    polynomial word (map number_of bits) ≡ number_of (truth word bits)

-- the topological order of an accepted circuit has each gate
abbrev pub TopologicalIsComplete : Type 0
TopologicalIsComplete = (c : Circuit) → IsAccepted c → IsTopologicalOrder c (IsGate c) (topological c)

-- a circuit is accepted exactly where its outputs are nets and its topological order is as long as there are gates
abbrev pub AcceptedByOrder : Type 0
AcceptedByOrder = (c : Circuit) → All (λ net. net < net_count c) c.outputs →
    IsAccepted c ↔ (length (topological c) ≡ length c.gates)

-- what is in the cone of some nets is one of them or reached from one, also in a circuit with cycles
abbrev pub ConeIsReached : Type 0
ConeIsReached = (c : Circuit) (nets : List ℕ) (net : ℕ) →
    IsTrue (is_in_cone c nets net) ↔ IsReachedFrom c nets net

-- the cone of some nets in an accepted circuit has each gate among them, and each that they reach
abbrev pub ConeIsComplete : Type 0
ConeIsComplete = (c : Circuit) (nets : List ℕ) → IsAccepted c →
    IsTopologicalOrder c (λ net. IsGate c net × IsReachedFrom c nets net) (cone c nets)
