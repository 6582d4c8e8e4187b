-- A circuit whose order is complete has no cycle, and reads nothing but nets.
use Rattle.std.specs.Prelude.{◌≡◌, ℕ, ◌+◌, ◌<◌, ◌≤◌, ◌↔◌, true, List, length, take, nat_eq, slice_get, get_or, Some, All, Contains}
use Rattle.std.specs.Cmp.{nat_eq_equiv}
use Rattle.std.specs.List.{IsDistinct}
use Rattle.std.proofs.Common.{sym, ◌∙◌, ap, inl, inr, ⊎_elim, arith}
use Rattle.std.proofs.lemmas.Bool.{both_ways, ne_eqb, eq-eqb}
use Rattle.std.proofs.lemmas.List.{length-take, get_or-take}
use Rattle.std.proofs.lemmas.List.FromFn.{length-range_with_len, get_or-range_with_len}
use Rattle.std.proofs.lemmas.Map.Keys.{IsDistinct-from_apart, apart_from_distinct}
use Rattle.std.proofs.lemmas.Map.Made.{length-le_from_is_member}
use Rattle.std.proofs.lemmas.Option.{slice_get_within, slice_get-get_or, get_or_from_slice_get}
use Rattle.circuits.proofs.Gates.{IsGate-from_input}
use Rattle.circuits.proofs.Members.{Contains-from_among, among-from_Contains, IsGate-from_gate_nets, length-gates}
use Rattle.circuits.proofs.Topological.{Ready, InOrder, Begins, begins_first, listed_if_full, listed_lem}
use Rattle.circuits.specs.Circuit.{Circuit, IsGate, input_count, net_count, gate_nets}
use Rattle.circuits.specs.Order.{IsInput, IsAccepted, Reaches, step, steps, is_among, topological}

-- the place of what stands before a place
place_before : (xs : List ℕ) (place x : ℕ) → Contains (take place xs) x → (q : ℕ) × (q < place) × (slice_get xs q ≡ Some x)
place_before xs place x has =
    let low : (has.0 < place) × (has.0 < length xs) = omega (arith, has.1, length-take place xs) in
    (has.0, low.0, slice_get-get_or xs has.0 x low.1 ∙ ap Some (sym (get_or-take place xs has.0 x low.0) ∙ has.2))

before_place : (xs : List ℕ) (place q x : ℕ) → q < place → slice_get xs q ≡ Some x → Contains (take place xs) x
before_place xs place q x low at =
    let within : q < length xs = slice_get_within xs q x at in
    (q, omega (arith, length-take place xs), get_or-take place xs q x low ∙ get_or_from_slice_get xs q x x at)

place_of : (xs : List ℕ) (x : ℕ) → Contains xs x → (q : ℕ) × (slice_get xs q ≡ Some x)
place_of xs x has = (has.0, slice_get-get_or xs has.0 x has.1 ∙ ap Some has.2)

among-from_place : (xs : List ℕ) (place x : ℕ) → slice_get xs place ≡ Some x → is_among xs x ≡ true
among-from_place xs place x at = among-from_Contains xs x (place, slice_get_within xs place x at, get_or_from_slice_get xs place x x at)

-- no net stands at two places
one_place : (xs : List ℕ) (p q x : ℕ) → IsDistinct nat_eq xs → q < p → slice_get xs p ≡ Some x → slice_get xs q ≡ Some x → ⊥
one_place xs p q x apart low at at' = both_ways (nat_eq (get_or xs q x) (get_or xs p x))
    (apart_from_distinct nat_eq xs q p x apart low (slice_get_within xs p x at))
    (eq-eqb (get_or xs q x) (get_or xs p x) (get_or_from_slice_get xs q x x at' ∙ sym (get_or_from_slice_get xs p x x at)))

pub reader_is_gate : {c : Circuit} {net to : ℕ} → Reaches c net to → IsGate c net
reader_is_gate {c} {net} {to} (step reads) = IsGate-from_input c net to reads
reader_is_gate {c} {net} (steps {input = input} reads rest) = IsGate-from_input c net input reads

-- what a net reaches stands before it
reached_before : {c : Circuit} {net to : ℕ} → Reaches c net to → (listed : List ℕ) → InOrder c listed → (place : ℕ) → slice_get listed place ≡ Some net → Ready c (take place listed) to
reached_before {net = net} {to = to} (step reads) listed order place at = order place net to at reads
reached_before {c} {net} {to} (steps {input = input} reads rest) listed order place at = ⊎_elim
    (λ low. let is : IsGate c input = reader_is_gate rest in absurd (omega arith))
    (λ has.
    let before : (q : ℕ) × (q < place) × (slice_get listed q ≡ Some input) = place_before listed place input has in
    ⊎_elim
    (λ low. inl low)
    (λ far. let there : (r : ℕ) × (r < before.0) × (slice_get listed r ≡ Some to) = place_before listed before.0 to far in inr (before_place listed place there.0 to (omega (arith, there.1, before.1)) there.2))
    (reached_before rest listed order before.0 before.2))
    (order place net input at reads)

module _ (c : Circuit) (full : length (topological c) ≡ length c.gates) where
  begins : Begins c (topological c)
  begins = begins_first c (length c.gates)

  place_of_gate : (net : ℕ) → IsGate c net → (q : ℕ) × (slice_get (topological c) q ≡ Some net)
  place_of_gate net is = place_of (topological c) net (Contains-from_among (topological c) net (listed_if_full c net is full))

  input_is_net : (net input : ℕ) → IsInput c net input → input < net_count c
  input_is_net net input reads = ⊎_elim
      (λ low. omega arith)
      (λ has.
      let before = place_before (topological c) place.0 input has in
      let is : IsGate c input = (begins.gates input (among-from_place (topological c) before.0 input before.2)) in
      is.1)
      (begins.order place.0 net input place.1 reads)
    where
      place : (q : ℕ) × (slice_get (topological c) q ≡ Some net)
      place = place_of_gate net (IsGate-from_input c net input reads)

  no_cycle_if_full : (net : ℕ) → ¬ Reaches c net net
  no_cycle_if_full net circle = ⊎_elim
      (λ low. let is : IsGate c net = reader_is_gate circle in omega arith)
      (λ has. let before = place_before (topological c) place.0 net has in one_place (topological c) place.0 before.0 net begins.apart before.1 place.1 before.2)
      (reached_before circle (topological c) begins.order place.0 place.1)
    where
      place : (q : ℕ) × (slice_get (topological c) q ≡ Some net)
      place = place_of_gate net (reader_is_gate circle)

gate_nets-apart : (c : Circuit) → IsDistinct nat_eq (gate_nets c)
gate_nets-apart c = IsDistinct-from_apart nat_eq (gate_nets c) (λ i j d low within.
    let high : j < length c.gates = omega (arith, length-range_with_len (input_count c) (length c.gates)) in
    let at_i : get_or (gate_nets c) i d ≡ input_count c + i = get_or-range_with_len (input_count c) (length c.gates) i d (omega arith) in
    let at_j : get_or (gate_nets c) j d ≡ input_count c + j = get_or-range_with_len (input_count c) (length c.gates) j d high in
    ne_eqb _ _ (λ same. omega arith))

full_if_accepted : (c : Circuit) → IsAccepted c → length (topological c) ≡ length c.gates
full_if_accepted c accepted =
    let begins : Begins c (topological c) = begins_first c (length c.gates) in
    let most : length (topological c) ≤ length c.gates = length-gates c (topological c) begins.apart begins.gates in
    let least : length (gate_nets c) ≤ length (topological c) = length-le_from_is_member nat_eq_equiv (gate_nets c) (topological c) (gate_nets-apart c) (λ q found. listed_lem c accepted q (IsGate-from_gate_nets c q (Contains-from_among (gate_nets c) q found))) in
    omega (arith, length-range_with_len (input_count c) (length c.gates))

pub accepted-iff_full : (c : Circuit) → All (λ net. net < net_count c) c.outputs → IsAccepted c ↔ (length (topological c) ≡ length c.gates)
accepted-iff_full c outputs = (
  full_if_accepted c,
  λ full. record { inputs = input_is_net c full; outputs = outputs; no_cycle = no_cycle_if_full c full },
)
