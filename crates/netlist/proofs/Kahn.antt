-- Each round of the search for an order gives one place more of the topological order.
use Rattle.std.specs.Prelude.{◌≡◌, ◌≢◌, ℕ, zero, suc, ◌+◌, ◌-◌, ◌<◌, ◌≤◌, ◌==◌, Bool, true, false, cond, not, ◌&&◌, ◌||◌, List, [], ◌∷◌, ◌++◌, length, nat_eq, nat_lt, nat_le, count_by, find, slice_get, option_to_list, Option, Some, None, get_or, Contains, refl}
use Rattle.std.specs.BTreeMap.{is_at}
use Rattle.std.specs.BTreeSet.{BTreeSet, contains}
use Rattle.std.specs.Ordering.{nat_cmp}
use Rattle.std.specs.List.{list_any, list_all, range_with_len}
use Rattle.std.proofs.Common.{sym, ◌∙◌, ap, subst, ⊎_elim, arith}
use Rattle.std.proofs.lemmas.Bool.{cases_Bool, cases_eq, cases_lt, both_ways, cond-true, cond-false, and_parts, and_from, eq-eqb, ne_eqb, lt-ltb, le-ltb, le-leb, leb-true, ltb-true, false_from_ne_true}
use Rattle.std.proofs.lemmas.List.{append-nil, length_push, length-take, get_or-take}
use Rattle.std.proofs.lemmas.Option.{slice_get-get_or}
use Rattle.std.proofs.lemmas.List.Folds.{list_any-append}
use Rattle.std.proofs.lemmas.List.Sums.{sum_by-cons}
use Rattle.std.proofs.lemmas.List.Elements.{Contains-get_or}
use Rattle.circuits.proofs.Gates.{IsGate-from_input}
use Rattle.circuits.proofs.Members.{Contains-from_among, among-from_Contains, Contains-head, find-Some, find-None, Contains-gate_nets, IsGate-from_gate_nets, length-gates}
use Rattle.circuits.proofs.Topological.{Begins, begins_first, Next, Next-from_is_next}
use Rattle.netlist.proofs.Counts.{fanin-past, count_of-cons, Contains-from_count, count-from_Contains}
use Rattle.circuits.specs.Circuit.{Circuit, IsGate, input_count, net_count, gate_nets, fanin}
use Rattle.circuits.specs.Order.{IsInput, is_among, is_ready, is_next, with_next, first_listed, topological}
use Rattle.netlist.specs.Inside.Waiting.{is_gate, open_inputs, count_of}

-- nothing is open exactly where all are ready
none_open : {X : Type 0} (p : X → Bool) (xs : List X) → (count_by (λ x. not (p x)) xs == 0) ≡ list_all p xs
none_open p [] = refl
none_open p (x ∷ xs) = by_head (p x) refl (none_open p xs)
  where
    split : count_by (λ y. not (p y)) (x ∷ xs) ≡ cond (not (p x)) 1 0 + count_by (λ y. not (p y)) xs
    split = sum_by-cons (λ y. cond (not (p y)) 1 0) x xs

    by_head : (b : Bool) → p x ≡ b → (count_by (λ y. not (p y)) xs == 0) ≡ list_all p xs → (count_by (λ y. not (p y)) (x ∷ xs) == 0) ≡ (b && list_all p xs)
    by_head true e rest = ap (λ n. n == 0) (split ∙ (ap (λ b. cond (not b) 1 0 + count_by (λ y. not (p y)) xs) e ∙ omega arith)) ∙ rest
    by_head false e rest =
        let one : count_by (λ y. not (p y)) (x ∷ xs) ≡ 1 + count_by (λ y. not (p y)) xs = split ∙ ap (λ b. cond (not b) 1 0 + count_by (λ y. not (p y)) xs) e in
        ne_eqb _ 0 (λ none. omega (arith, one, none))

-- the first in a range that passes
find-range_first : (p : ℕ → Bool) (a n x : ℕ) → find p (range_with_len a n) ≡ Some x → (y : ℕ) → a ≤ y → y < x → p y ≡ false
find-range_first p a zero x found y high low = absurd cc
find-range_first p a (suc n) x found y high low = ⊎_elim
    (λ yes. let e : Some a ≡ Some x = sym (cond-true (p a) (Some a) (find p (range_with_len (a + 1) n)) yes) ∙ found in let same : a ≡ x = cc in absurd (omega arith))
    (λ no. ⊎_elim
    (λ here. subst (λ z. p z ≡ false) here no)
    (λ later. find-range_first p (a + 1) n x (sym (cond-false (p a) (Some a) (find p (range_with_len (a + 1) n)) no) ∙ found) y (omega arith) low)
    (cases_eq a y))
    (cases_Bool (p a))

find_none : {X : Type 0} (p : X → Bool) (xs : List X) → ((x : X) → Contains xs x → p x ≡ false) → find p xs ≡ None
find_none p [] none = refl
find_none p (x ∷ xs) none = cond-false (p x) (Some x) (find p xs) (none x (Contains-head x xs)) ∙ find_none p xs (λ y has. none y (suc has.0, omega (arith, has.1), has.2))

module _ (c : Circuit) where
  is_gate-true : (net : ℕ) → is_gate c net ≡ true → IsGate c net
  is_gate-true net is = let parts = and_parts (nat_le (input_count c) net) (nat_lt net (net_count c)) is in (leb-true (input_count c) net parts.0, ltb-true net (net_count c) parts.1)

  is_gate-from : (net : ℕ) → IsGate c net → is_gate c net ≡ true
  is_gate-from net is = and_from _ _ (le-leb (input_count c) net is.0) (lt-ltb net (net_count c) is.1)

  -- what is kept between rounds: how many inputs each net waits for, and which gates may come next
  pub record Kahn (listed : List ℕ) (waiting : ℕ → ℕ) (ready : ℕ → Bool) : Type 0 where
    pub first : listed ≡ first_listed c (length listed)
    pub counts : (net : ℕ) → net < net_count c → waiting net ≡ open_inputs c listed net
    pub gates : (net : ℕ) → ready net ≡ (is_gate c net && is_next c listed net)

  open_zero : (listed : List ℕ) (net : ℕ) → (open_inputs c listed net == 0) ≡ list_all (is_ready c listed) (fanin c net)
  open_zero listed net = none_open (is_ready c listed) (fanin c net)

  pub kahn_first : (waiting : ℕ → ℕ) (ready : ℕ → Bool) → ((net : ℕ) → net < net_count c → waiting net ≡ open_inputs c [] net) → ((net : ℕ) → ready net ≡ (is_gate c net && waiting net == 0)) → Kahn [] waiting ready
  kahn_first waiting ready counts gates = record {
    first = refl;
    counts = counts;
    gates = λ net. gates net ∙ ⊎_elim
        (λ is. ap (λ b. is_gate c net && b) (ap (λ n. n == 0) (counts net (is_gate-true net is).1) ∙ open_zero [] net))
        (λ no. rw no refl)
        (cases_Bool (is_gate c net));
  }

  module _ (listed : List ℕ) (waiting : ℕ → ℕ) (ready : ℕ → Bool) (kahn : Kahn listed waiting ready) where
    pub begins : Begins c listed
    begins = subst (Begins c) (sym kahn.first) (begins_first c (length listed))

    pub listed-few : length listed ≤ length c.gates
    listed-few = length-gates c listed begins.apart begins.gates

    -- where nothing is ready, the order is complete
    stays : find (is_next c listed) (gate_nets c) ≡ None → (k : ℕ) → first_listed c (length listed + k) ≡ listed
    stays none zero = let e : length listed + 0 ≡ length listed = omega arith in ap (first_listed c) e ∙ sym kahn.first
    stays none (suc k) =
        let e : length listed + suc k ≡ suc (length listed + k) = omega arith in
        ap (first_listed c) e
        ∙ (ap (with_next c) (stays none k) ∙ (ap (λ o. listed ++ option_to_list o) none ∙ append-nil listed))

    pub topological-if_none : ((net : ℕ) → ready net ≡ false) → listed ≡ topological c
    topological-if_none none =
        let no_next : find (is_next c listed) (gate_nets c) ≡ None =
        find_none (is_next c listed) (gate_nets c) (λ net has. sym (ap (λ b. b && is_next c listed net) (is_gate-from net (IsGate-from_gate_nets c net has))) ∙ (sym (kahn.gates net) ∙ none net))
        in
        let all : length listed + (length c.gates - length listed) ≡ length c.gates = omega (arith, listed-few) in
        sym (stays no_next (length c.gates - length listed)) ∙ ap (first_listed c) all

    module _ (net : ℕ) (is_ready_now : ready net ≡ true) (least : (other : ℕ) → ready other ≡ true → net ≤ other) where
      parts : (is_gate c net ≡ true) × (is_next c listed net ≡ true)
      parts = and_parts (is_gate c net) (is_next c listed net) (sym (kahn.gates net) ∙ is_ready_now)

      pub net-is_gate : IsGate c net
      net-is_gate = is_gate-true net parts.0

      next : Next c listed net
      next = Next-from_is_next c listed net parts.1

      found_by_cases : (o : Option ℕ) → find (is_next c listed) (gate_nets c) ≡ o → find (is_next c listed) (gate_nets c) ≡ Some net
      found_by_cases None none = absurd (both_ways (is_next c listed net) (find-None (is_next c listed) (gate_nets c) none net (Contains-gate_nets c net net-is_gate)) parts.1)
      found_by_cases (Some x) found =
          let has : Contains (gate_nets c) x × (is_next c listed x ≡ true) = find-Some (is_next c listed) (gate_nets c) x found in
          let is : IsGate c x = IsGate-from_gate_nets c x has.0 in
          let not_above : net ≤ x = least x (kahn.gates x ∙ and_from _ _ (is_gate-from x is) has.1) in
          ⊎_elim
          (λ e. found ∙ ap Some (sym e))
          (λ apart. absurd (both_ways (is_next c listed net) (find-range_first (is_next c listed) (input_count c) (length c.gates) x found net net-is_gate.0 (omega (arith, not_above, apart))) parts.1))
          (cases_eq net x)

      pub first_more : listed ++ net ∷ [] ≡ first_listed c (length (listed ++ net ∷ []))
      first_more =
          let now : with_next c listed ≡ listed ++ net ∷ [] = ap (λ o. listed ++ option_to_list o) (found_by_cases (find (is_next c listed) (gate_nets c)) refl) in
          let e : length (listed ++ net ∷ []) ≡ suc (length listed) = omega (arith, length_push listed net) in
          sym (ap (first_listed c) e ∙ (ap (with_next c) (sym kahn.first) ∙ now))

      more_begins : Begins c (listed ++ net ∷ [])
      more_begins = subst (Begins c) (sym first_more) (begins_first c (length (listed ++ net ∷ [])))

      pub more-few : length listed + 1 ≤ length c.gates
      more-few = omega (arith, length_push listed net, length-gates c (listed ++ net ∷ []) more_begins.apart more_begins.gates)

      -- the net itself was not ready
      unready : is_ready c listed net ≡ false
      unready = rw (le-ltb net (input_count c) net-is_gate.0) next.new

      is_ready-more : (x : ℕ) → is_ready c (listed ++ net ∷ []) x ≡ (is_ready c listed x || nat_eq x net)
      is_ready-more x = ap (λ b. nat_lt x (input_count c) || b) (list_any-append (nat_eq x) listed (net ∷ [])) ∙ flat (nat_lt x (input_count c)) (is_among listed x) (nat_eq x net)
        where
          flat : (a b d : Bool) → (a || (b || (d || false))) ≡ ((a || b) || d)
          flat true b d = refl
          flat false true d = refl
          flat false false true = refl
          flat false false false = refl

      -- the net is no longer open where it was read
      open_less_in : (xs : List ℕ) → count_by (λ x. not (is_ready c (listed ++ net ∷ []) x)) xs + count_of xs net ≡ count_by (λ x. not (is_ready c listed x)) xs
      open_less_in [] = refl
      open_less_in (x ∷ xs) =
          let a = sum_by-cons (λ y. cond (not (is_ready c (listed ++ net ∷ []) y)) 1 0) x xs in
          let b = sum_by-cons (λ y. cond (not (is_ready c listed y)) 1 0) x xs in
          let d = count_of-cons x xs net in
          let rest = open_less_in xs in
          let head : cond (not (is_ready c (listed ++ net ∷ []) x)) 1 0 + cond (nat_eq net x) 1 0 ≡ cond (not (is_ready c listed x)) 1 0 = at_head in
          omega (arith, a, b, d, rest, head)
        where
          at_head : cond (not (is_ready c (listed ++ net ∷ []) x)) 1 0 + cond (nat_eq net x) 1 0 ≡ cond (not (is_ready c listed x)) 1 0
          at_head = ⊎_elim
              (λ e. rw (is_ready-more x, ← e, unready, eq-eqb net net refl) refl)
              (λ apart. rw (is_ready-more x, ne_eqb x net (λ e. apart (sym e)), ne_eqb net x apart) (by_ready (is_ready c listed x)))
              (cases_eq net x)
            where
              by_ready : (b : Bool) → cond (not (b || false)) 1 0 + 0 ≡ cond (not b) 1 0
              by_ready true = refl
              by_ready false = refl

      pub open_less : (y : ℕ) → open_inputs c (listed ++ net ∷ []) y + count_of (fanin c y) net ≡ open_inputs c listed y
      open_less y = open_less_in (fanin c y)

      -- a listed gate does not read the net
      reader-is_new : (y : ℕ) → IsInput c y net → is_among listed y ≡ false
      reader-is_new y reads = false_from_ne_true (is_among listed y) (λ old.
          let has : Contains listed y = Contains-from_among listed y old in
          let at : slice_get listed has.0 ≡ Some y = slice_get-get_or listed has.0 y has.1 ∙ ap Some has.2 in
          ⊎_elim
          (λ low. let is : IsGate c net = net-is_gate in omega arith)
          (λ there.
          let small : (there.0 < has.0) × (there.0 < length listed) = omega (arith, there.1, length-take has.0 listed) in
          let in_listed : Contains listed net = (there.0, small.1, sym (get_or-take has.0 listed there.0 net small.0) ∙ there.2) in
          both_ways (is_among listed net) next.new (among-from_Contains listed net in_listed))
          (begins.order has.0 y net at reads))

      reads_itself : IsInput c net net → ⊥
      reads_itself reads = ⊎_elim
          (λ low. let is : IsGate c net = net-is_gate in omega arith)
          (λ has. both_ways (is_among listed net) next.new (among-from_Contains listed net has))
          (next.ready net reads)

      module _ (waiting' : ℕ → ℕ) (readers : List ℕ) (ready' ready'' : ℕ → Bool)
          (counts_readers : (y : ℕ) → count_of readers y ≡ count_of (fanin c y) net)
          (left : (y : ℕ) → waiting' y + count_of readers y ≡ waiting y)
          (popped : (y : ℕ) → ready' y ≡ cond (nat_eq net y) false (ready y))
          (released : (y : ℕ) → ready'' y ≡ (ready' y || (nat_lt 0 (count_of readers y) && waiting' y == 0))) where
        counts_more : (y : ℕ) → y < net_count c → waiting' y ≡ open_inputs c (listed ++ net ∷ []) y
        counts_more y low = omega (arith, left y, kahn.counts y low, counts_readers y, open_less y)

        among_more : (y : ℕ) → is_among (listed ++ net ∷ []) y ≡ (is_among listed y || nat_eq y net)
        among_more y = list_any-append (nat_eq y) listed (net ∷ []) ∙ flat (is_among listed y) (nat_eq y net)
          where
            flat : (a b : Bool) → (a || (b || false)) ≡ (a || b)
            flat true b = refl
            flat false true = refl
            flat false false = refl

        at_net : ready'' net ≡ (is_gate c net && is_next c (listed ++ net ∷ []) net)
        at_net =
            let none : count_of readers net ≡ 0 = ⊎_elim
            (λ zero. zero)
            (λ some. absurd (reads_itself (Contains-from_count (fanin c net) net (omega (arith, counts_readers net, some)))))
            (cases_eq (count_of readers net) 0)
            in
            released net ∙ (rw (popped net, eq-eqb net net refl, none) (sym (rw (among_more net, eq-eqb net net refl) (nothing (is_among listed net) (is_gate c net) (list_all (is_ready c (listed ++ net ∷ [])) (fanin c net))))))
          where
            nothing : (a b d : Bool) → (b && (not (a || true) && d)) ≡ false
            nothing true true d = refl
            nothing true false d = refl
            nothing false true d = refl
            nothing false false d = refl

        elsewhere : (y : ℕ) → net ≢ y → ready'' y ≡ (is_gate c y && is_next c (listed ++ net ∷ []) y)
        elsewhere y apart = ⊎_elim unread read (cases_eq (count_of readers y) 0)
          where
            ready-same : ready' y ≡ ready y
            ready-same = popped y ∙ cond-false (nat_eq net y) false (ready y) (ne_eqb net y apart)

            among-same : is_among (listed ++ net ∷ []) y ≡ is_among listed y
            among-same = among_more y ∙ rw (ne_eqb y net (λ e. apart (sym e))) (or_false (is_among listed y))
              where
                or_false : (a : Bool) → (a || false) ≡ a
                or_false true = refl
                or_false false = refl

            all-open : list_all (is_ready c (listed ++ net ∷ [])) (fanin c y) ≡ (open_inputs c (listed ++ net ∷ []) y == 0)
            all-open = sym (open_zero (listed ++ net ∷ []) y)

            unread : count_of readers y ≡ 0 → ready'' y ≡ (is_gate c y && is_next c (listed ++ net ∷ []) y)
            unread none =
                let same_open : open_inputs c (listed ++ net ∷ []) y ≡ open_inputs c listed y = omega (arith, open_less y, counts_readers y, none) in
                let same_all : list_all (is_ready c (listed ++ net ∷ [])) (fanin c y) ≡ list_all (is_ready c listed) (fanin c y) = all-open ∙ (ap (λ n. n == 0) same_open ∙ open_zero listed y) in
                let now : (ready' y || (nat_lt 0 (count_of readers y) && waiting' y == 0)) ≡ (is_gate c y && is_next c listed y) = rw (ready-same, none) (by_ready (ready y) (kahn.gates y)) in
                released y ∙ (now ∙ sym (rw (among-same, same_all) refl))
              where
                by_ready : (b : Bool) → b ≡ (is_gate c y && is_next c listed y) → (b || false) ≡ (is_gate c y && is_next c listed y)
                by_ready true e = e
                by_ready false e = e

            read : count_of readers y ≢ 0 → ready'' y ≡ (is_gate c y && is_next c (listed ++ net ∷ []) y)
            read some =
                let reads : IsInput c y net = Contains-from_count (fanin c y) net (omega (arith, counts_readers y, some)) in
                let is : IsGate c y = IsGate-from_input c y net reads in
                let was_open : (open_inputs c listed y == 0) ≡ false = ne_eqb (open_inputs c listed y) 0 (λ zero. omega (arith, zero, open_less y, counts_readers y, some)) in
                let was_not : ready y ≡ false = kahn.gates y ∙ rw (← open_zero listed y, was_open) (nothing (is_gate c y) (not (is_among listed y))) in
                let now : waiting' y ≡ open_inputs c (listed ++ net ∷ []) y = counts_more y is.1 in
                let mid : ready'' y ≡ list_all (is_ready c (listed ++ net ∷ [])) (fanin c y) = released y ∙ rw (ready-same, was_not, lt-ltb 0 (count_of readers y) (omega (arith, some)), now) (sym all-open) in
                mid ∙ sym (rw (is_gate-from y is, among-same, reader-is_new y reads) refl)
              where
                nothing : (a b : Bool) → (a && (b && false)) ≡ false
                nothing true true = refl
                nothing true false = refl
                nothing false b = refl

        pub kahn_more : Kahn (listed ++ net ∷ []) waiting' ready''
        kahn_more = record {
          first = first_more;
          counts = counts_more;
          gates = λ y. ⊎_elim (λ e. subst (λ z. ready'' z ≡ (is_gate c z && is_next c (listed ++ net ∷ []) z)) e at_net) (λ apart. elsewhere y apart) (cases_eq net y);
        }

      -- what the release asks for
      pub readers_enough : (readers : List ℕ) → ((y : ℕ) → count_of readers y ≡ count_of (fanin c y) net) → (y : ℕ) → count_of readers y ≤ waiting y
      readers_enough readers same y = ⊎_elim
          (λ low. omega (arith, same y, kahn.counts y low, open_less y))
          (λ past. let none : count_of (fanin c y) net ≡ 0 = ap (λ xs. count_of xs net) (fanin-past c y past) in omega (arith, same y, none))
          (cases_lt y (net_count c))

  pub readers_within : (readers : List ℕ) (net : ℕ) → ((y : ℕ) → count_of readers y ≡ count_of (fanin c y) net) → (k d : ℕ) → k < length readers → get_or readers k d < net_count c
  readers_within readers net same k d low =
      let y : ℕ = get_or readers k d in
      let some : 0 < count_of readers y = count-from_Contains readers y (Contains-get_or readers k d low) in
      let reads : IsInput c y net = Contains-from_count (fanin c y) net (omega (arith, same y, some)) in
      (IsGate-from_input c y net reads).1

none_passes : {X : Type 0} (p : X → Bool) (xs : List X) → length xs ≡ 0 → list_any p xs ≡ false
none_passes p [] none = refl
none_passes p (x ∷ xs) none = absurd (omega arith)

pub contains-none : (s : BTreeSet ℕ) → ¬ (0 < length s.keys) → (net : ℕ) → contains nat_cmp s net ≡ false
contains-none s none net = none_passes (is_at (nat_cmp net)) s.keys (⊎_elim (λ zero. zero) (λ some. absurd (none (omega (arith, some)))) (cases_eq (length s.keys) 0))
