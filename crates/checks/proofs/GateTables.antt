-- The table of a gate's net is made of those of the gate's inputs.
use Rattle.std.specs.Prelude.{◌≡◌, ℕ, ◌<◌, Bool, List, [], ◌∷◌, map, length, Some, refl}
use Rattle.std.proofs.Common.{sym, ◌∙◌, ap, arith}
use Rattle.std.proofs.lemmas.List.{length-map}
use Rattle.circuits.proofs.Polynomials.{polynomial-is_truth}
use Rattle.circuits.proofs.Rounds.{IsValuation-valuation}
use Rattle.circuits.specs.Circuit.{Circuit, Gate, input_count, gate_of}
use Rattle.circuits.specs.Order.{IsAccepted}
use Rattle.circuits.specs.Polynomial.{number_of, polynomial}
use Rattle.circuits.specs.Valuation.{bit_of, IsValuation, valuation}
use Rattle.spec_lang.proofs.Placed.{length-placed}
use Rattle.spec_lang.specs.Placed.{placed, net_values}
use Rattle.checks.proofs.Tabulated.{tabulate-same, gate-tabulate}
use Rattle.checks.specs.Laws.{GateTables}

map_twice : (f : ℕ → Bool) (nets : List ℕ) → map number_of (map f nets) ≡ map (λ net. number_of (f net)) nets
map_twice f [] = refl
map_twice f (net ∷ nets) = ap (λ rest. number_of (f net) ∷ rest) (map_twice f nets)

-- the value of a gate's net is the gate's polynomial of the values of the nets that it reads
gate_by_polynomial : (c : Circuit) (bits : List Bool) (net : ℕ) (gate : Gate) → IsAccepted c → length bits ≡ input_count c →
    gate_of c net ≡ Some gate → 0 < length gate.inputs →
    number_of (bit_of (valuation c bits) net) ≡ polynomial gate.word (map (λ input. number_of (bit_of (valuation c bits) input)) gate.inputs)
gate_by_polynomial c bits net gate accepted many at some =
    let values = valuation c bits in
    let is : IsValuation c bits (valuation c bits) = IsValuation-valuation c bits many accepted in
    let read : 0 < length (map (bit_of values) gate.inputs) = omega (arith, length-map gate.inputs (bit_of values)) in
    ap number_of (is.gates net gate at)
    ∙ sym (polynomial-is_truth gate.word (map (bit_of values) gate.inputs) read)
    ∙ ap (polynomial gate.word) (map_twice (bit_of values) gate.inputs)

pub gate_tables : GateTables
gate_tables c s net gate accepted at some =
    tabulate-same (length s.order)
    (λ bits. number_of (bit_of (net_values c s bits) net))
    (λ bits. polynomial gate.word (map (λ input. number_of (bit_of (net_values c s bits) input)) gate.inputs))
    (λ bits many. gate_by_polynomial c (placed (input_count c) s.order bits) net gate accepted (length-placed (input_count c) s.order bits) at some)
    ∙ sym (gate-tabulate gate.word (length s.order) (λ input bits. number_of (bit_of (net_values c s bits) input)) gate.inputs some)
