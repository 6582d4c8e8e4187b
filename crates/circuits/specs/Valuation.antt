-- The values of the nets at given bits of the inputs.
use Rattle.std.specs.Prelude.{◌≡◌, ℕ, zero, suc, ◌<◌, Bool, true, false, List, [], ◌∷◌, ◌++◌, map, length, replicate, slice_index_or, Some, refl}
use Rattle.circuits.specs.Circuit.{Circuit, Gate, input_count, net_count, gate_of}
use Rattle.circuits.specs.Examples.{half, c17}
use Rattle.circuits.specs.Truth.{truth}

-- the bit of a place, and 0 past the end
abbrev pub bit_of : List Bool → ℕ → Bool
bit_of bits place = slice_index_or bits place false

-- what a gate computes of the values of the nets
abbrev pub gate_value : Gate → List Bool → Bool
gate_value gate values = truth gate.word (map (bit_of values) gate.inputs)

-- each input has its bit, and each gate's net the truth function of its gate
pub record IsValuation (c : Circuit) (bits values : List Bool) : Type 0 where
  pub one_each : length values ≡ net_count c
  pub inputs : (net : ℕ) → net < input_count c → bit_of values net ≡ bit_of bits net
  pub gates : (net : ℕ) (gate : Gate) → gate_of c net ≡ Some gate → bit_of values net ≡ gate_value gate values

-- each gate computed anew from the values so far
abbrev pub recomputed : Circuit → List Bool → List Bool → List Bool
recomputed c bits values = bits ++ map (λ gate. gate_value gate values) c.gates

-- the values after some rounds, where each gate has 0 at first
abbrev pub after_rounds : Circuit → List Bool → ℕ → List Bool
after_rounds c bits zero = bits ++ replicate (length c.gates) false
after_rounds c bits (suc rounds) = recomputed c bits (after_rounds c bits rounds)

-- the values after as many rounds as there are gates
abbrev pub valuation : Circuit → List Bool → List Bool
valuation c bits = after_rounds c bits (length c.gates)

half-at_11 : valuation half (true ∷ true ∷ []) ≡ true ∷ true ∷ false ∷ true ∷ []
half-at_11 = refl

-- the inputs 1, 3 and 7 are 1
c17-at_10101 : valuation c17 (true ∷ false ∷ true ∷ false ∷ true ∷ [])
    ≡ true ∷ false ∷ true ∷ false ∷ true ∷ false ∷ true ∷ true ∷ false ∷ true ∷ true ∷ []
c17-at_10101 = refl
