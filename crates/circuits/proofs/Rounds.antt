-- After as many rounds as there are gates the values stay, and they are the one valuation.
use Rattle.std.specs.Prelude.{◌≡◌, ℕ, zero, suc, ◌-◌, ◌<◌, Bool, true, false, List, ◌++◌, map, length, replicate, Some, Contains, refl}
use Rattle.std.proofs.Common.{sym, ◌∙◌, ap, subst, ⊎_elim, arith}
use Rattle.std.proofs.lemmas.Bool.{cases_lt}
use Rattle.std.proofs.lemmas.List.{ext_get_or, get_or_append_left, get_or-append_right, get_or-map, get_or_past, length-append, length-map, length-replicate}
use Rattle.std.proofs.lemmas.Option.{get_or_from_slice_get}
use Rattle.circuits.proofs.Descent.{no_descent}
use Rattle.circuits.proofs.Gates.{gate_from_IsGate, Stands, Stands-from_gate_of, fanin-of_gate, same_or_differ}
use Rattle.circuits.specs.Circuit.{Circuit, Gate, IsGate, input_count, net_count, gate_of}
use Rattle.circuits.specs.Order.{IsInput, IsAccepted}
use Rattle.circuits.specs.Valuation.{bit_of, gate_value, IsValuation, recomputed, after_rounds, valuation}
use Rattle.circuits.specs.Truth.{truth}

-- a value for each net, and the bits at the inputs
record Starts (c : Circuit) (bits values : List Bool) : Type 0 where
  one_each : length values ≡ net_count c
  inputs : (net : ℕ) → net < input_count c → bit_of values net ≡ bit_of bits net

starts_with : (c : Circuit) (bits rest : List Bool) → length bits ≡ input_count c → length rest ≡ length c.gates → Starts c bits (bits ++ rest)
starts_with c bits rest many others = record {
  one_each = omega (arith, length-append bits rest);
  inputs = λ net low. get_or_append_left bits rest false net (omega arith);
}

-- off the gates such values agree
agree_off_gates : (c : Circuit) (bits values others : List Bool) → Starts c bits values → Starts c bits others → (net : ℕ) → (bit_of values net ≡ bit_of others net → ⊥) → IsGate c net
agree_off_gates c bits values others starts starts' net apart = ⊎_elim
    (λ low. absurd (apart (starts.inputs net low ∙ sym (starts'.inputs net low))))
    (λ high. ⊎_elim
    (λ below. (high, below))
    (λ past. absurd (apart (get_or_past values net false (omega arith) ∙ sym (get_or_past others net false (omega arith)))))
    (cases_lt net (net_count c)))
    (cases_lt net (input_count c))

same_values : (c : Circuit) (bits values others : List Bool) → Starts c bits values → Starts c bits others → ((net : ℕ) → net < net_count c → bit_of values net ≡ bit_of others net) → values ≡ others
same_values c bits values others starts starts' each = ext_get_or false values others (starts.one_each ∙ sym starts'.one_each) (λ net low. each net (omega arith))

same_from_not_apart : (a b : Bool) → ((a ≡ b → ⊥) → ⊥) → a ≡ b
same_from_not_apart false false agree = refl
same_from_not_apart true true agree = refl
same_from_not_apart false true agree = absurd (agree (λ e. cc))
same_from_not_apart true false agree = absurd (agree (λ e. cc))

module _ (c : Circuit) (bits : List Bool) (many : length bits ≡ input_count c) where
  starts_recomputed : (values : List Bool) → Starts c bits (recomputed c bits values)
  starts_recomputed values = starts_with c bits (map (λ gate. gate_value gate values) c.gates) many (length-map c.gates (λ gate. gate_value gate values))

  -- a round gives each gate what it computes of the values before
  recomputed-at : (values : List Bool) (net : ℕ) (gate : Gate) → gate_of c net ≡ Some gate → bit_of (recomputed c bits values) net ≡ gate_value gate values
  recomputed-at values net gate e =
      let stands : Stands c net gate = Stands-from_gate_of c net gate e in
      get_or-append_right bits (map (λ (g : Gate). gate_value g values) c.gates) (input_count c) net false many stands.is_gate.0
      ∙ get_or-map (λ (g : Gate). gate_value g values) c.gates (net - input_count c) gate false (omega arith)
      ∙ ap (λ g. gate_value g values) (get_or_from_slice_get c.gates (net - input_count c) gate gate stands.at)

  -- two runs of rounds come to the same values
  module _ (accepted : IsAccepted c) (A B : ℕ → List Bool)
      (a_start : Starts c bits (A 0)) (b_start : Starts c bits (B 0))
      (a_step : (n : ℕ) → A (suc n) ≡ recomputed c bits (A n)) (b_step : (n : ℕ) → B (suc n) ≡ recomputed c bits (B n)) where
    a_starts : (n : ℕ) → Starts c bits (A n)
    a_starts zero = a_start
    a_starts (suc n) = subst (Starts c bits) (sym (a_step n)) (starts_recomputed (A n))

    b_starts : (n : ℕ) → Starts c bits (B n)
    b_starts zero = b_start
    b_starts (suc n) = subst (Starts c bits) (sym (b_step n)) (starts_recomputed (B n))

    abbrev Apart : ℕ → ℕ → Type 0
    Apart n net = bit_of (A n) net ≡ bit_of (B n) net → ⊥

    apart_gate : (n net : ℕ) → Apart n net → IsGate c net
    apart_gate n net apart = agree_off_gates c bits (A n) (B n) (a_starts n) (b_starts n) net apart

    apart_down : (n net : ℕ) → Apart (suc n) net → (input : ℕ) × IsInput c net input × Apart n input
    apart_down n net apart = ⊎_elim
        (λ same. absurd (apart (a_at ∙ ap (truth gate.0.word) same ∙ sym b_at)))
        (λ other. (other.0, subst (λ xs. Contains xs other.0) (sym (fanin-of_gate c net gate.0 gate.1)) other.1, other.2))
        (same_or_differ (bit_of (A n)) (bit_of (B n)) gate.0.inputs)
      where
        gate : (gate : Gate) × (gate_of c net ≡ Some gate)
        gate = gate_from_IsGate c net (apart_gate (suc n) net apart)

        a_at : bit_of (A (suc n)) net ≡ gate_value gate.0 (A n)
        a_at = ap (λ values. bit_of values net) (a_step n) ∙ recomputed-at (A n) net gate.0 gate.1

        b_at : bit_of (B (suc n)) net ≡ gate_value gate.0 (B n)
        b_at = ap (λ values. bit_of values net) (b_step n) ∙ recomputed-at (B n) net gate.0 gate.1

    meet : A (length c.gates) ≡ B (length c.gates)
    meet = same_values c bits _ _ (a_starts (length c.gates)) (b_starts (length c.gates)) (λ net low. same_from_not_apart _ _ (λ apart. no_descent c accepted Apart apart_gate apart_down net apart))

  starts_first : Starts c bits (after_rounds c bits 0)
  starts_first = starts_with c bits (replicate (length c.gates) false) many (length-replicate (length c.gates) false)

  valuation-recomputed : IsAccepted c → valuation c bits ≡ recomputed c bits (valuation c bits)
  valuation-recomputed accepted = meet accepted (after_rounds c bits) (λ n. after_rounds c bits (suc n)) starts_first (starts_recomputed (after_rounds c bits 0)) (λ n. refl) (λ n. refl)

  pub IsValuation-valuation : IsAccepted c → IsValuation c bits (valuation c bits)
  IsValuation-valuation accepted = record { one_each = starts.one_each; inputs = starts.inputs; gates = at_gates }
    where
      starts : Starts c bits (valuation c bits)
      starts = subst (Starts c bits) (sym (valuation-recomputed accepted)) (starts_recomputed (valuation c bits))

      at_gates : (net : ℕ) (gate : Gate) → gate_of c net ≡ Some gate → bit_of (valuation c bits) net ≡ gate_value gate (valuation c bits)
      at_gates net gate e = ap (λ values. bit_of values net) (valuation-recomputed accepted) ∙ recomputed-at (valuation c bits) net gate e

  valued_starts : (values : List Bool) → IsValuation c bits values → Starts c bits values
  valued_starts values is = record { one_each = is.one_each; inputs = is.inputs }

  -- a round leaves a valuation
  recomputed-same : (values : List Bool) → IsValuation c bits values → values ≡ recomputed c bits values
  recomputed-same values is = same_values c bits values (recomputed c bits values) (valued_starts values is) (starts_recomputed values) each
    where
      each : (net : ℕ) → net < net_count c → bit_of values net ≡ bit_of (recomputed c bits values) net
      each net below = ⊎_elim
          (λ low. is.inputs net low ∙ sym ((starts_recomputed values).inputs net low))
          (λ high. let gate = gate_from_IsGate c net (high, below) in is.gates net gate.0 gate.1 ∙ sym (recomputed-at values net gate.0 gate.1))
          (cases_lt net (input_count c))

  pub valuation-only : IsAccepted c → (values : List Bool) → IsValuation c bits values → values ≡ valuation c bits
  valuation-only accepted values is = sym (meet accepted (after_rounds c bits) (λ n. values) starts_first (valued_starts values is) (λ n. refl) (λ n. recomputed-same values is))
