-- The order lists each gate of an accepted circuit once, and after what it reads.
use Rattle.std.specs.Prelude.{◌≡◌, ℕ, zero, suc, ◌<◌, ◌≤◌, ◌⊎◌, true, false, not, List, [], ◌∷◌, ◌++◌, length, take, nat_lt, nat_eq, find, option_to_list, slice_get, Option, Some, None, Contains, refl}
use Rattle.std.specs.Cmp.{nat_eq_equiv}
use Rattle.std.specs.List.{list_all, IsDistinct}
use Rattle.std.proofs.Common.{sym, ◌∙◌, ap, subst, inl, inr, ⊎_elim, arith}
use Rattle.std.proofs.lemmas.Bool.{false≢true, cases_Bool, cases_lt, and_parts, and_cases, or_cases, or_parts, not-true, not-false, both_ways, ltb-true, ltb-false}
use Rattle.std.proofs.lemmas.List.{append-nil, length_push, get_or_append_left, get_or_push, take-append-le, take_at}
use Rattle.std.proofs.lemmas.Map.Keys.{IsDistinct-push}
use Rattle.std.proofs.lemmas.Option.{slice_get_within, slice_get-get_or, get_or_from_slice_get}
use Rattle.circuits.proofs.Descent.{no_descent}
use Rattle.circuits.proofs.Members.{Contains-from_among, among-from_Contains, among-append_left, among_push, find-Some, find-None, list_all-true, list_all-false, Contains-gate_nets, IsGate-from_gate_nets, none_apart, length-gates}
use Rattle.circuits.specs.Circuit.{Circuit, IsGate, input_count, gate_nets, fanin}
use Rattle.circuits.specs.Order.{IsInput, IsAccepted, IsTopologicalOrder, is_among, is_ready, is_next, first_listed, topological}

-- an input, or listed
abbrev pub Ready : Circuit → List ℕ → ℕ → Type 0
Ready c listed input = (input < input_count c) ⊎ Contains listed input

-- each listed net comes after what it reads
abbrev pub InOrder : Circuit → List ℕ → Type 0
InOrder c listed = (place net input : ℕ) → slice_get listed place ≡ Some net → IsInput c net input → Ready c (take place listed) input

InOrder-push : (c : Circuit) (listed : List ℕ) (net : ℕ) → InOrder c listed → ((input : ℕ) → IsInput c net input → Ready c listed input) → InOrder c (listed ++ net ∷ [])
InOrder-push c listed net order ready place other input at reads = ⊎_elim earlier last (cases_lt place (length listed))
  where
    within : place < length (listed ++ net ∷ [])
    within = slice_get_within (listed ++ net ∷ []) place other at

    earlier : place < length listed → Ready c (take place (listed ++ net ∷ [])) input
    earlier low =
        let there : slice_get listed place ≡ Some other =
        slice_get-get_or listed place other low ∙ ap Some (sym (get_or_append_left listed (net ∷ []) other place low) ∙ get_or_from_slice_get (listed ++ net ∷ []) place other other at)
        in
        subst (λ before. Ready c before input) (sym (take-append-le place listed (net ∷ []) (omega arith))) (order place other input there reads)

    last : length listed ≤ place → Ready c (take place (listed ++ net ∷ [])) input
    last high =
        let at_end : length listed ≡ place = omega (arith, within, length_push listed net) in
        let same : other ≡ net = sym (get_or_from_slice_get (listed ++ net ∷ []) place other other at) ∙ get_or_push listed net other place at_end in
        subst (λ before. Ready c before input) (sym (take_at listed (net ∷ []) place at_end)) (ready input (subst (λ n. IsInput c n input) same reads))

-- what holds of each beginning of the order
pub record Begins (c : Circuit) (listed : List ℕ) : Type 0 where
  pub apart : IsDistinct nat_eq listed
  pub gates : (net : ℕ) → is_among listed net ≡ true → IsGate c net
  pub order : InOrder c listed

pub begins_none : (c : Circuit) → Begins c []
begins_none c = record { apart = none_apart; gates = λ net found. absurd (false≢true found); order = λ place net input at reads. absurd cc }

-- what `is_next` says
pub record Next (c : Circuit) (listed : List ℕ) (net : ℕ) : Type 0 where
  pub new : is_among listed net ≡ false
  pub ready : (input : ℕ) → IsInput c net input → Ready c listed input

pub Next-from_is_next : (c : Circuit) (listed : List ℕ) (net : ℕ) → is_next c listed net ≡ true → Next c listed net
Next-from_is_next c listed net is = record { new = not-true (is_among listed net) parts.0; ready = ready }
  where
    parts : (not (is_among listed net) ≡ true) × (list_all (is_ready c listed) (fanin c net) ≡ true)
    parts = and_parts _ _ is

    ready : (input : ℕ) → IsInput c net input → Ready c listed input
    ready input reads = ⊎_elim
        (λ low. inl (ltb-true input (input_count c) low))
        (λ found. inr (Contains-from_among listed input found))
        (or_cases _ _ (list_all-true (is_ready c listed) (fanin c net) parts.1 input reads))

pub begins_more : (c : Circuit) (listed : List ℕ) (net : ℕ) → Begins c listed → IsGate c net → Next c listed net → Begins c (listed ++ net ∷ [])
begins_more c listed net begins is next = record {
  apart = IsDistinct-push nat_eq_equiv listed net begins.apart next.new;
  gates = λ q found. ⊎_elim (λ before. begins.gates q before) (λ same. subst (IsGate c) (sym same) is) (among_push listed net q found);
  order = InOrder-push c listed net begins.order next.ready;
}

begins_step : (c : Circuit) (listed : List ℕ) (o : Option ℕ) → find (is_next c listed) (gate_nets c) ≡ o → Begins c listed → Begins c (listed ++ option_to_list o)
begins_step c listed None found begins = subst (Begins c) (sym (append-nil listed)) begins
begins_step c listed (Some net) found begins =
    let has : Contains (gate_nets c) net × (is_next c listed net ≡ true) = find-Some (is_next c listed) (gate_nets c) net found in
    begins_more c listed net begins (IsGate-from_gate_nets c net has.0) (Next-from_is_next c listed net has.1)

pub begins_first : (c : Circuit) (n : ℕ) → Begins c (first_listed c n)
begins_first c zero = begins_none c
begins_first c (suc n) = begins_step c (first_listed c n) (find (is_next c (first_listed c n)) (gate_nets c)) refl (begins_first c n)

-- an order as long as there are gates has them all
pub listed_if_full : (c : Circuit) (net : ℕ) → IsGate c net → length (topological c) ≡ length c.gates → is_among (topological c) net ≡ true
listed_if_full c net is full = ⊎_elim (λ old. old) never (cases_Bool (is_among (topological c) net))
  where
    never : is_among (topological c) net ≡ false → is_among (topological c) net ≡ true
    never new =
        let begins : Begins c (topological c) = begins_first c (length c.gates) in
        let short : length (topological c ++ net ∷ []) ≤ length c.gates = length-gates c (topological c ++ net ∷ [])
        (IsDistinct-push nat_eq_equiv (topological c) net begins.apart new)
        (λ q found. ⊎_elim (λ before. begins.gates q before) (λ same. subst (IsGate c) (sym same) is) (among_push (topological c) net q found))
        in
        absurd (omega (arith, length_push (topological c) net))

-- a gate that is not listed, in an accepted circuit, shows that some gate is next
module _ (c : Circuit) (accepted : IsAccepted c) (listed : List ℕ) (none : find (is_next c listed) (gate_nets c) ≡ None) where
  record Waits (n net : ℕ) : Type 0 where
    is_gate : IsGate c net
    new : is_among listed net ≡ false

  waits_down : (n net : ℕ) → Waits (suc n) net → (input : ℕ) × IsInput c net input × Waits n input
  waits_down n net waits = (input.0, input.1, record { is_gate = (past, accepted.inputs net input.0 input.1); new = parts.1 })
    where
      fails : is_next c listed net ≡ false
      fails = find-None (is_next c listed) (gate_nets c) none net (Contains-gate_nets c net waits.is_gate)

      unready : list_all (is_ready c listed) (fanin c net) ≡ false
      unready = ⊎_elim
          (λ old. absurd (both_ways (is_among listed net) waits.new (not-false (is_among listed net) old)))
          (λ some. some)
          (and_cases (not (is_among listed net)) (list_all (is_ready c listed) (fanin c net)) fails)

      input : (input : ℕ) × Contains (fanin c net) input × (is_ready c listed input ≡ false)
      input = list_all-false (is_ready c listed) (fanin c net) unready

      parts : (nat_lt input.0 (input_count c) ≡ false) × (is_among listed input.0 ≡ false)
      parts = or_parts _ _ input.2

      past : input_count c ≤ input.0
      past = ltb-false input.0 (input_count c) parts.0

  none_waits : (net : ℕ) → IsGate c net → is_among listed net ≡ false → ⊥
  none_waits net is new = no_descent c accepted Waits (λ n q waits. waits.is_gate) waits_down net (record { is_gate = is; new = new })

-- as long as a gate waits, each place is filled
module _ (c : Circuit) (accepted : IsAccepted c) (net : ℕ) (is : IsGate c net) where
  filled_step : (n : ℕ) (o : Option ℕ) → find (is_next c (first_listed c n)) (gate_nets c) ≡ o → is_among (first_listed c n) net ≡ false → length (first_listed c n) ≡ n → length (first_listed c n ++ option_to_list o) ≡ suc n
  filled_step n None found new filled = absurd (none_waits c accepted (first_listed c n) found net is new)
  filled_step n (Some next) found new filled = omega (arith, length_push (first_listed c n) next)

  new_before : (n : ℕ) → is_among (first_listed c (suc n)) net ≡ false → is_among (first_listed c n) net ≡ false
  new_before n new = ⊎_elim
      (λ old. absurd (both_ways _ new (among-append_left (first_listed c n) (option_to_list (find (is_next c (first_listed c n)) (gate_nets c))) net old)))
      (λ still. still)
      (cases_Bool (is_among (first_listed c n) net))

  filled : (n : ℕ) → is_among (first_listed c n) net ≡ false → length (first_listed c n) ≡ n
  filled zero new = refl
  filled (suc n) new = filled_step n (find (is_next c (first_listed c n)) (gate_nets c)) refl (new_before n new) (filled n (new_before n new))

  pub listed_lem : is_among (topological c) net ≡ true
  listed_lem = ⊎_elim (λ old. old) (λ new. listed_if_full c net is (filled (length c.gates) new)) (cases_Bool (is_among (topological c) net))

pub topological-complete : (c : Circuit) → IsAccepted c → IsTopologicalOrder c (IsGate c) (topological c)
topological-complete c accepted = record {
  no_net_twice = begins.apart;
  each = λ net. (
    (λ has. begins.gates net (among-from_Contains (topological c) net has)),
    (λ is. Contains-from_among (topological c) net (listed_lem c accepted net is)),
  );
  after_inputs = begins.order;
}
  where
    begins : Begins c (topological c)
    begins = begins_first c (length c.gates)
