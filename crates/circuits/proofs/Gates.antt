-- The gate of a net.
use Rattle.std.specs.Prelude.{◌≡◌, ℕ, ◌-◌, ◌<◌, ◌≤◌, ◌⊎◌, Bool, true, false, List, [], ◌∷◌, length, map, nat_lt, slice_get, get_or, Option, Some, None, Contains, refl}
use Rattle.std.specs.Option.{option_map_or}
use Rattle.std.proofs.Common.{sym, ◌∙◌, ap, subst, inl, inr, ⊎_elim, arith}
use Rattle.std.proofs.lemmas.Bool.{cases_lt, le-ltb, lt-ltb, ltb-true, eqb-true, cond-true, cond-false}
use Rattle.std.proofs.lemmas.Option.{slice_get_cases, slice_get_within, get_or_from_slice_get}
use Rattle.std.proofs.lemmas.List.Elements.{All-get_or, Contains-get_or}
use Rattle.circuits.proofs.Members.{Contains-cons, Contains-head, Contains-nil}
use Rattle.circuits.specs.Circuit.{Circuit, Gate, IsGate, input_count, net_count, gate_of, fanin}
use Rattle.circuits.specs.declared.gate_word.GateWord.{GateWord}
use Rattle.circuits.specs.declared.gate_word.GateWord.TheVariants.{And, Nand, Or, Nor, Xor, Xnor, Not, Buff}
use Rattle.circuits.specs.Limits.{AcceptsArity, IsSizedGate, IsWithinLimits}
use Rattle.circuits.specs.declared.limits.TheConstants.{MOST_FANIN}
use Rattle.circuits.specs.Sound.{IsSound}

-- past the inputs, the gates stand in their order
pub gate_of-at : (c : Circuit) (net : ℕ) → input_count c ≤ net → gate_of c net ≡ slice_get c.gates (net - input_count c)
gate_of-at c net past = cond-false (nat_lt net (input_count c)) None (slice_get c.gates (net - input_count c)) (le-ltb net (input_count c) past)

pub gate_of-input : (c : Circuit) (net : ℕ) → net < input_count c → gate_of c net ≡ None
gate_of-input c net low = cond-true (nat_lt net (input_count c)) None (slice_get c.gates (net - input_count c)) (lt-ltb net (input_count c) low)

-- each net that is a gate's has its gate
pub gate_from_IsGate : (c : Circuit) (net : ℕ) → IsGate c net → (gate : Gate) × (gate_of c net ≡ Some gate)
gate_from_IsGate c net is = ⊎_elim
    (λ found. (found.0, gate_of-at c net is.0 ∙ found.2))
    (λ past. absurd (omega arith))
    (slice_get_cases c.gates (net - input_count c)).1

-- a net with a gate comes after the inputs, and its gate stands at its place among the gates
pub record Stands (c : Circuit) (net : ℕ) (gate : Gate) : Type 0 where
  pub is_gate : IsGate c net
  pub at : slice_get c.gates (net - input_count c) ≡ Some gate

pub Stands-from_gate_of : (c : Circuit) (net : ℕ) (gate : Gate) → gate_of c net ≡ Some gate → Stands c net gate
Stands-from_gate_of c net gate e = ⊎_elim (λ low. absurd (none low)) past (cases_lt net (input_count c))
  where
    none : net < input_count c → ⊥
    none low = let input : gate_of c net ≡ None = gate_of-input c net low in cc

    past : input_count c ≤ net → Stands c net gate
    past high = ⊎_elim
        (λ found. record { is_gate = omega arith; at = sym (gate_of-at c net high) ∙ e })
        (λ beyond. let input : gate_of c net ≡ None = gate_of-at c net high ∙ beyond.1 in absurd cc)
        (slice_get_cases c.gates (net - input_count c)).1

pub fanin-of_gate : (c : Circuit) (net : ℕ) (gate : Gate) → gate_of c net ≡ Some gate → fanin c net ≡ gate.inputs
fanin-of_gate c net gate e = ap (λ o. option_map_or (λ (g : Gate). g.inputs) o []) e

-- two functions give the same on a list, or differ at one of its elements
pub same_or_differ : (f g : ℕ → Bool) (xs : List ℕ) → (map f xs ≡ map g xs) ⊎ ((x : ℕ) × Contains xs x × (f x ≡ g x → ⊥))
same_or_differ f g [] = inl refl
same_or_differ f g (x ∷ xs) = ⊎_elim
    (λ here. ⊎_elim
    (λ same. inl (cc))
    (λ apart. inr (apart.0, Contains-cons x xs apart.0 apart.1, apart.2))
    (same_or_differ f g xs))
    (λ apart. inr (x, Contains-head x xs, apart))
    (same_bits (f x) (g x))
  where
    same_bits : (a b : Bool) → (a ≡ b) ⊎ (a ≡ b → ⊥)
    same_bits false false = inl refl
    same_bits true true = inl refl
    same_bits false true = inr (λ e. cc)
    same_bits true false = inr (λ e. cc)

-- a net that reads another is a gate's
pub IsGate-from_input : (c : Circuit) (net input : ℕ) → Contains (fanin c net) input → IsGate c net
IsGate-from_input c net input reads = go (gate_of c net) refl
  where
    go : (o : Option Gate) → gate_of c net ≡ o → IsGate c net
    go None e = let none : fanin c net ≡ [] = ap (λ found. option_map_or (λ (g : Gate). g.inputs) found []) e in absurd (Contains-nil input (subst (λ xs. Contains xs input) none reads))
    go (Some gate) e = let stands : Stands c net gate = Stands-from_gate_of c net gate e in stands.is_gate

-- a gate has not too many inputs
pub fanin-few : (c : Circuit) → IsWithinLimits c → (net : ℕ) → length (fanin c net) ≤ MOST_FANIN
fanin-few c limits net = go (gate_of c net) refl
  where
    go : (o : Option Gate) → gate_of c net ≡ o → length (fanin c net) ≤ MOST_FANIN
    go None e = let none : length (fanin c net) ≡ 0 = ap (λ found. length (option_map_or (λ (g : Gate). g.inputs) found [])) e in omega (arith, none)
    go (Some gate) e =
        let stands : Stands c net gate = Stands-from_gate_of c net gate e in
        let low : net - input_count c < length c.gates = omega (arith, stands.is_gate.0, stands.is_gate.1) in
        let sized : IsSizedGate gate = subst IsSizedGate (get_or_from_slice_get c.gates (net - input_count c) gate gate stands.at) (limits.each_gate (net - input_count c) gate low) in
        subst (λ xs. length xs ≤ MOST_FANIN) (sym (fanin-of_gate c net gate e)) sized.fanin

-- a gate of a sound circuit keeps the limits, and reads nets
pub gate-sized : (c : Circuit) → IsSound c → (net : ℕ) (gate : Gate) → gate_of c net ≡ Some gate → IsSizedGate gate
gate-sized c sound net gate is =
    let gate_net : IsGate c net = (Stands-from_gate_of c net gate is).is_gate in
    let at_place : slice_get c.gates (net - input_count c) ≡ Some gate = sym (gate_of-at c net gate_net.0) ∙ is in
    let within : net - input_count c < length c.gates = slice_get_within c.gates (net - input_count c) gate at_place in
    subst IsSizedGate (get_or_from_slice_get c.gates (net - input_count c) gate gate at_place) (All-get_or IsSizedGate c.gates (net - input_count c) gate within sound.limits.each_gate)

pub gate-reads_nets : (c : Circuit) → IsSound c → (net : ℕ) (gate : Gate) → gate_of c net ≡ Some gate → (k d : ℕ) → k < length gate.inputs → get_or gate.inputs k d < net_count c
gate-reads_nets c sound net gate is k d low = sound.inputs net (get_or gate.inputs k d) (subst (λ xs. Contains xs (get_or gate.inputs k d)) (sym (fanin-of_gate c net gate is)) (Contains-get_or gate.inputs k d low))

-- each word takes an input or more
pub some_inputs : (word : GateWord) (n : ℕ) → AcceptsArity word n → 0 < n
some_inputs And n h = ltb-true 0 n h
some_inputs Nand n h = ltb-true 0 n h
some_inputs Or n h = ltb-true 0 n h
some_inputs Nor n h = ltb-true 0 n h
some_inputs Xor n h = ltb-true 0 n h
some_inputs Xnor n h = ltb-true 0 n h
some_inputs Not n h = let one : n ≡ 1 = eqb-true n 1 h in omega arith
some_inputs Buff n h = let one : n ≡ 1 = eqb-true n 1 h in omega arith
