-- Gates computed in topological order.
use Rattle.std.specs.Prelude.{◌≡◌, ◌≢◌, ℕ, suc, ◌+◌, ◌<◌, ◌≤◌, Bool, false, List, [], ◌∷◌, length, map, Contains, slice_get, get_or, Some, nat_eq, slice_set, refl}
use Rattle.std.proofs.Common.{sym, ◌∙◌, ap, subst, ⊎_elim, arith}
use Rattle.std.proofs.lemmas.Bool.{cases_lt, both_ways, eq-eqb}
use Rattle.std.proofs.lemmas.List.{get_or_default, get_or-set_same, get_or-set_other, length-set, length-take, get_or-take}
use Rattle.std.proofs.lemmas.Map.Keys.{apart_from_distinct}
use Rattle.std.proofs.lemmas.Option.{slice_get-get_or}
use Rattle.circuits.proofs.Gates.{Stands-from_gate_of, fanin-of_gate}
use Rattle.circuits.proofs.Topological.{topological-complete}
use Rattle.netlist.proofs.ConeWalks.{topological-is_gate}
use Rattle.circuits.proofs.Members.{Contains-head}
use Rattle.circuits.specs.Circuit.{Circuit, Gate, IsGate, input_count, net_count, gate_of}
use Rattle.circuits.specs.Order.{IsInput, IsAccepted, IsTopologicalOrder, topological}
use Rattle.circuits.specs.Truth.{truth}
use Rattle.circuits.specs.Valuation.{bit_of, gate_value}

-- what is settled once the first places of the order have come
pub record SettledTo (c : Circuit) (order : List ℕ) (before values : List Bool) (places : ℕ) : Type 0 where
  pub long : length values ≡ net_count c
  pub inputs : (net : ℕ) → net < input_count c → bit_of values net ≡ bit_of before net
  pub gates : (place : ℕ) (gate : Gate) → place < places → place < length order → gate_of c (get_or order place 0) ≡ Some gate → bit_of values (get_or order place 0) ≡ gate_value gate values

-- a gate does not see the net that it does not read
map-unread : (values : List Bool) (net : ℕ) (bit : Bool) (xs : List ℕ) → ((x : ℕ) → Contains xs x → x ≢ net) → map (bit_of (slice_set values net bit)) xs ≡ map (bit_of values) xs
map-unread values net bit [] apart = refl
map-unread values net bit (x ∷ xs) apart =
    let head : bit_of (slice_set values net bit) x ≡ bit_of values x = get_or-set_other values net x bit false (apart x (Contains-head x xs)) in
    let rest = map-unread values net bit xs (λ y has. apart y (suc has.0, omega (arith, has.1), has.2)) in
    cc

module _ (c : Circuit) (accepted : IsAccepted c) (order : List ℕ) (is : order ≡ topological c) where
  complete : IsTopologicalOrder c (IsGate c) order
  complete = subst (IsTopologicalOrder c (IsGate c)) (sym is) (topological-complete c accepted)

  at : (k : ℕ) → k < length order → slice_get order k ≡ Some (get_or order k 0)
  at k low = slice_get-get_or order k 0 low

  -- a net that an earlier or the same place reads is not that of the place
  unread : (p k : ℕ) → p ≤ k → k < length order → (x : ℕ) → IsInput c (get_or order p 0) x → x ≢ get_or order k 0
  unread p k before low x reads e = ⊎_elim
      (λ input. let gate : IsGate c (get_or order k 0) = topological-is_gate c order k is low in omega (arith, input, e, gate.0))
      (λ has.
      let small : (has.0 < p) × (has.0 < length order) = omega (arith, has.1, length-take p order) in
      let there : get_or order has.0 x ≡ x = sym (get_or-take p order has.0 x small.0) ∙ has.2 in
      let low' : has.0 < k = omega (arith, small.0, before) in
      both_ways (nat_eq (get_or order has.0 x) (get_or order k x)) (apart_from_distinct nat_eq order has.0 k x complete.no_net_twice low' low)
      (eq-eqb (get_or order has.0 x) (get_or order k x) (there ∙ (e ∙ get_or_default order k 0 x low))))
      (complete.after_inputs p (get_or order p 0) x (at p (omega (arith, before, low))) reads)

  module _ (before values : List Bool) (k : ℕ) (low : k < length order) (settled : SettledTo c order before values k) (gate : Gate) (here : gate_of c (get_or order k 0) ≡ Some gate) where
    abbrev net : ℕ
    net = get_or order k 0

    net-is_gate : IsGate c net
    net-is_gate = topological-is_gate c order k is low

    abbrev after : List Bool
    after = slice_set values net (gate_value gate values)

    gate-same : (p : ℕ) (other : Gate) → p ≤ k → gate_of c (get_or order p 0) ≡ Some other → gate_value other after ≡ gate_value other values
    gate-same p other early is_other =
        ap (truth other.word) (map-unread values net (gate_value gate values) other.inputs
        (λ x has. unread p k early low x (subst (λ xs. Contains xs x) (sym (fanin-of_gate c (get_or order p 0) other is_other)) has)))

    gates' : (place : ℕ) (other : Gate) → place < k + 1 → place < length order → gate_of c (get_or order place 0) ≡ Some other → bit_of after (get_or order place 0) ≡ gate_value other after
    gates' place other early within is_other = ⊎_elim earlier now (cases_lt place k)
      where
        earlier : place < k → bit_of after (get_or order place 0) ≡ gate_value other after
        earlier sooner =
            let apart : get_or order place 0 ≢ net = λ e. both_ways (nat_eq (get_or order place 0) net) (apart_from_distinct nat_eq order place k 0 complete.no_net_twice sooner low) (eq-eqb _ _ e) in
            get_or-set_other values net (get_or order place 0) (gate_value gate values) false apart ∙ (settled.gates place other sooner within is_other ∙ sym (gate-same place other (omega arith) is_other))

        now : k ≤ place → bit_of after (get_or order place 0) ≡ gate_value other after
        now late =
            let same : place ≡ k = omega arith in
            let same_gate : Some other ≡ Some gate = sym is_other ∙ (ap (λ p. gate_of c (get_or order p 0)) same ∙ here) in
            let e : other ≡ gate = cc in
            let written : bit_of after net ≡ gate_value gate values = get_or-set_same values net (gate_value gate values) false (rw settled.long net-is_gate.1) in
            ap (λ p. bit_of after (get_or order p 0)) same ∙ (written ∙ (ap (λ g. gate_value g values) (sym e) ∙ sym (gate-same place other (omega arith) is_other)))

    pub settled_more : SettledTo c order before (slice_set values (get_or order k 0) (truth gate.word (map (bit_of values) gate.inputs))) (k + 1)
    settled_more = record {
      long = length-set values net (gate_value gate values) ∙ settled.long;
      inputs = λ input lower. get_or-set_other values net input (gate_value gate values) false (λ e. let g : IsGate c net = net-is_gate in omega (arith, lower, e, g.0)) ∙ settled.inputs input lower;
      gates = gates';
    }

  -- each gate comes
  pub settled-gates : (before values : List Bool) (k : ℕ) → length order ≤ k → SettledTo c order before values k → (net : ℕ) (gate : Gate) → gate_of c net ≡ Some gate → bit_of values net ≡ gate_value gate values
  settled-gates before values k all settled net gate is_gate =
      let has : Contains order net = (complete.each net).1 (Stands-from_gate_of c net gate is_gate).is_gate in
      let same : get_or order has.0 0 ≡ net = get_or_default order has.0 0 net has.1 ∙ has.2 in
      ap (bit_of values) (sym same) ∙ settled.gates has.0 gate (omega (arith, has.1, all)) has.1 (ap (gate_of c) same ∙ is_gate)
