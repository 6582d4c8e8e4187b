-- The rounds of a cone give the nets and all that they reach.
use Rattle.std.specs.Prelude.{◌≡◌, ℕ, zero, suc, ◌⊎◌, ◌↔◌, true, false, List, [], ◌∷◌, ◌++◌, length, fold, flat_map, nat_eq, ◌&&◌, Contains, IsTrue, filter, find, option_to_list, Option, Some, None, refl}
use Rattle.std.proofs.Common.{sym, ◌∙◌, ap, subst, inl, inr, ⊎_elim, arith, eqb-true}
use Rattle.std.proofs.lemmas.Bool.{false≢true, cases_Bool, both_ways, cond-true, cond-false, and_parts, and_from, and_right}
use Rattle.std.proofs.lemmas.Map.Views.{any-filter_same}
use Rattle.std.proofs.lemmas.List.{append-nil}
use Rattle.std.proofs.lemmas.List.Elements.{filter-append}
use Rattle.circuits.proofs.Descent.{reaches_on}
use Rattle.circuits.proofs.Gates.{IsGate-from_input}
use Rattle.circuits.proofs.Members.{Contains-from_among, among-from_Contains, Contains-head, among-append, among-append_left, among-append_right, among_push, Contains-cases, Contains-nil, find-Some, IsGate-from_gate_nets}
use Rattle.circuits.proofs.Topological.{Begins, begins_none, begins_more, Next, Next-from_is_next, listed_lem}
use Rattle.circuits.proofs.Walks.{no_walk}
use Rattle.circuits.specs.Circuit.{Circuit, IsGate, fanin, gate_nets}
use Rattle.circuits.specs.Cone.{IsReachedFrom, with_net, reached, is_in_cone, cone}
use Rattle.circuits.specs.Order.{IsInput, IsAccepted, IsTopologicalOrder, Reaches, step, steps, is_among, is_next, first_listed, topological}

-- a net is added to those that there are
with_net-from : (nets : List ℕ) (net q : ℕ) → is_among (with_net nets net) q ≡ true → (is_among nets q ≡ true) ⊎ (q ≡ net)
with_net-from nets net q found = ⊎_elim
    (λ old. inl (sym (ap (λ xs. is_among xs q) (cond-true (is_among nets net) nets (nets ++ net ∷ []) old)) ∙ found))
    (λ new. among_push nets net q (sym (ap (λ xs. is_among xs q) (cond-false (is_among nets net) nets (nets ++ net ∷ []) new)) ∙ found))
    (cases_Bool (is_among nets net))

with_net-keeps : (nets : List ℕ) (net q : ℕ) → is_among nets q ≡ true → is_among (with_net nets net) q ≡ true
with_net-keeps nets net q found = ⊎_elim
    (λ old. ap (λ xs. is_among xs q) (cond-true (is_among nets net) nets (nets ++ net ∷ []) old) ∙ found)
    (λ new. ap (λ xs. is_among xs q) (cond-false (is_among nets net) nets (nets ++ net ∷ []) new) ∙ among-append_left nets (net ∷ []) q found)
    (cases_Bool (is_among nets net))

with_net-has : (nets : List ℕ) (net : ℕ) → is_among (with_net nets net) net ≡ true
with_net-has nets net = ⊎_elim
    (λ old. ap (λ xs. is_among xs net) (cond-true (is_among nets net) nets (nets ++ net ∷ []) old) ∙ old)
    (λ new. ap (λ xs. is_among xs net) (cond-false (is_among nets net) nets (nets ++ net ∷ []) new) ∙ among-append_right nets (net ∷ []) net (among-from_Contains (net ∷ []) net (Contains-head net [])))
    (cases_Bool (is_among nets net))

-- and so are those of a list
with_nets-from : (nets more : List ℕ) (q : ℕ) → is_among (fold with_net nets more) q ≡ true → (is_among nets q ≡ true) ⊎ Contains more q
with_nets-from nets [] q found = inl found
with_nets-from nets (net ∷ more) q found = ⊎_elim
    (λ early. ⊎_elim (λ old. inl old) (λ same. inr (subst (λ x. Contains (net ∷ more) x) (sym same) (Contains-head net more))) (with_net-from nets net q early))
    (λ late. inr (suc late.0, omega arith, late.2))
    (with_nets-from (with_net nets net) more q found)

with_nets-keeps : (nets more : List ℕ) (q : ℕ) → is_among nets q ≡ true → is_among (fold with_net nets more) q ≡ true
with_nets-keeps nets [] q found = found
with_nets-keeps nets (net ∷ more) q found = with_nets-keeps (with_net nets net) more q (with_net-keeps nets net q found)

with_nets-has : (nets more : List ℕ) (q : ℕ) → Contains more q → is_among (fold with_net nets more) q ≡ true
with_nets-has nets [] q has = absurd (Contains-nil q has)
with_nets-has nets (net ∷ more) q has = ⊎_elim
    (λ same. with_nets-keeps (with_net nets net) more q (subst (λ x. is_among (with_net nets net) x ≡ true) same (with_net-has nets net)))
    (λ later. with_nets-has (with_net nets net) more q later)
    (Contains-cases net more q has)

-- what the lists of a list's elements have
pub flat_map-from : (f : ℕ → List ℕ) (xs : List ℕ) (q : ℕ) → is_among (flat_map f xs) q ≡ true → (x : ℕ) × Contains xs x × Contains (f x) q
flat_map-from f [] q found = absurd (false≢true found)
flat_map-from f (x ∷ xs) q found = ⊎_elim
    (λ here. (x, Contains-head x xs, Contains-from_among (f x) q here))
    (λ there. let rest = flat_map-from f xs q there in (rest.0, (suc rest.1.0, omega arith, rest.1.2), rest.2))
    (among-append (f x) (flat_map f xs) q found)

pub flat_map-has : (f : ℕ → List ℕ) (xs : List ℕ) (x q : ℕ) → Contains xs x → Contains (f x) q → is_among (flat_map f xs) q ≡ true
flat_map-has f [] x q has of = absurd (Contains-nil x has)
flat_map-has f (y ∷ xs) x q has of = ⊎_elim
    (λ here. among-append_left (f y) (flat_map f xs) q (among-from_Contains (f y) q (subst (λ z. Contains (f z) q) (sym here) of)))
    (λ there. among-append_right (f y) (flat_map f xs) q (flat_map-has f xs x q there of))
    (Contains-cases y xs x has)

module _ (c : Circuit) (nets : List ℕ) where
  abbrev after : ℕ → List ℕ
  after n = reached c nets n

  abbrev In : ℕ → ℕ → Type 0
  In n net = is_among (after n) net ≡ true

  abbrev Out : ℕ → ℕ → Type 0
  Out n net = is_among (after n) net ≡ false

  -- a round keeps what there is
  in_more : (n net : ℕ) → In n net → In (suc n) net
  in_more n net found = with_nets-keeps (after n) (flat_map (fanin c) (after n)) net found

  -- and adds what that reads
  in_read : (n net input : ℕ) → In n net → IsInput c net input → In (suc n) input
  in_read n net input found reads = with_nets-has (after n) (flat_map (fanin c) (after n)) input
      (Contains-from_among (flat_map (fanin c) (after n)) input (flat_map-has (fanin c) (after n) net input (Contains-from_among (after n) net found) reads))

  -- and nothing else
  in_from : (n input : ℕ) → In (suc n) input → In n input ⊎ ((net : ℕ) × In n net × IsInput c net input)
  in_from n input found = ⊎_elim
      (λ old. inl old)
      (λ added. let reader = flat_map-from (fanin c) (after n) input (among-from_Contains (flat_map (fanin c) (after n)) input added) in inr (reader.0, among-from_Contains (after n) reader.0 reader.1, reader.2))
      (with_nets-from (after n) (flat_map (fanin c) (after n)) input found)

  out_before : (n net : ℕ) → Out (suc n) net → Out n net
  out_before n net out = ⊎_elim (λ found. absurd (both_ways _ out (in_more n net found))) (λ still. still) (cases_Bool (is_among (after n) net))

  -- what is new after a round is read by a gate that was there
  reader_of : (n input : ℕ) → In (suc n) input → Out n input → (net : ℕ) × In n net × IsInput c net input
  reader_of n input found out = ⊎_elim (λ old. absurd (both_ways _ out old)) (λ reader. reader) (in_from n input found)

  -- a gate that is new after n rounds, or there at first
  data New : ℕ → ℕ → Type 0 where
    first : {net : ℕ} → IsGate c net → In zero net → New zero net
    later : {n net : ℕ} → IsGate c net → In (suc n) net → Out n net → New (suc n) net

  new_gate : (n net : ℕ) → New n net → IsGate c net
  new_gate n net (first is found) = is
  new_gate n net (later is found out) = is

  new_found : (n net : ℕ) → New n net → In n net
  new_found n net (first is found) = found
  new_found n net (later is found out) = found

  -- the reader of what is new was itself new one round before
  new_reader : (n net input : ℕ) → In n net → IsInput c net input → Out n input → New n net
  new_reader zero net input found reads out = first (IsGate-from_input c net input reads) found
  new_reader (suc n) net input found reads out = later (IsGate-from_input c net input reads) found
      (⊎_elim (λ old. absurd (both_ways _ out (in_read n net input old reads))) (λ new. new) (cases_Bool (is_among (after n) net)))

  new_down : (n net : ℕ) → New (suc n) net → (next : ℕ) × New n next × Out n net × ((q : ℕ) → Out (suc n) q → Out n q)
  new_down n net (later is found out) =
      let reader : (reader : ℕ) × In n reader × IsInput c reader net = reader_of n net found out in
      (reader.0, new_reader n reader.0 net reader.1 reader.2 out, out, out_before n)

  -- after as many rounds as there are gates nothing is new
  closed : (input : ℕ) → In (suc (length c.gates)) input → In (length c.gates) input
  closed input found = ⊎_elim (λ old. old) never (cases_Bool (is_among (after (length c.gates)) input))
    where
      never : Out (length c.gates) input → In (length c.gates) input
      never out =
          let reader : (reader : ℕ) × In (length c.gates) reader × IsInput c reader input = reader_of (length c.gates) input found out in
          absurd (no_walk c New (λ n net q. Out n q) new_gate (λ n net here left. both_ways _ left (new_found n net here)) new_down reader.0 (new_reader (length c.gates) reader.0 input reader.1 reader.2 out))

  in_all : (n net : ℕ) → Contains nets net → In n net
  in_all zero net has = among-from_Contains nets net has
  in_all (suc n) net has = in_more n net (in_all n net has)

  in_reached : {net to : ℕ} → Reaches c net to → In (length c.gates) net → In (length c.gates) to
  in_reached {net} {to} (step reads) found = closed to (in_read (length c.gates) net to found reads)
  in_reached {net} {to} (steps {input = input} reads rest) found = in_reached rest (closed input (in_read (length c.gates) net input found reads))

  reached_from : (n net : ℕ) → In n net → IsReachedFrom c nets net
  reached_from zero net found = inl (Contains-from_among nets net found)
  reached_from (suc n) net found = ⊎_elim (λ old. reached_from n net old) (λ reader. on reader (reached_from n reader.0 reader.1)) (in_from n net found)
    where
      on : (reader : (reader : ℕ) × In n reader × IsInput c reader net) → IsReachedFrom c nets reader.0 → IsReachedFrom c nets net
      on reader so_far = inr (⊎_elim
          (λ has. (reader.0, has, step reader.2))
          (λ before. (before.0, before.1, reaches_on before.2 reader.2))
          so_far)

  pub is_in_cone-reached : (net : ℕ) → IsTrue (is_in_cone c nets net) ↔ IsReachedFrom c nets net
  is_in_cone-reached net = (
    (λ found. reached_from (length c.gates) net found),
    (λ way. ⊎_elim (λ has. in_all (length c.gates) net has) (λ far. in_reached far.2 (in_all (length c.gates) far.0 far.1)) way),
  )

-- the cone is a part of the order, and what its gates read is in it too
module _ (c : Circuit) (nets : List ℕ) where
  kept-among : (listed : List ℕ) (q : ℕ) → is_among (filter (is_in_cone c nets) listed) q ≡ (is_in_cone c nets q && is_among listed q)
  kept-among listed q = any-filter_same (nat_eq q) (is_in_cone c nets) (is_in_cone c nets q) (λ k same. ap (is_in_cone c nets) (sym (eqb-true q k same))) listed

  read_in_cone : (net input : ℕ) → is_in_cone c nets net ≡ true → IsInput c net input → is_in_cone c nets input ≡ true
  read_in_cone net input found reads = closed c nets input (in_read c nets (length c.gates) net input found reads)

  kept_more : (listed : List ℕ) (net : ℕ) → Begins c (filter (is_in_cone c nets) listed) → IsGate c net → Next c listed net → Begins c (filter (is_in_cone c nets) (listed ++ net ∷ []))
  kept_more listed net begins is next = subst (Begins c) (sym (filter-append (is_in_cone c nets) listed (net ∷ []))) (⊎_elim found out (cases_Bool (is_in_cone c nets net)))
    where
      new : is_among (filter (is_in_cone c nets) listed) net ≡ false
      new = kept-among listed net ∙ and_right (is_in_cone c nets net) (is_among listed net) next.new

      found : is_in_cone c nets net ≡ true → Begins c (filter (is_in_cone c nets) listed ++ filter (is_in_cone c nets) (net ∷ []))
      found in_cone = subst (λ last. Begins c (filter (is_in_cone c nets) listed ++ last)) (sym (cond-true (is_in_cone c nets net) (net ∷ []) [] in_cone))
          (begins_more c (filter (is_in_cone c nets) listed) net begins is (record {
            new = new;
            ready = λ input reads. ⊎_elim
                (λ low. inl low)
                (λ has. inr (Contains-from_among (filter (is_in_cone c nets) listed) input (kept-among listed input ∙ and_from _ _ (read_in_cone net input in_cone reads) (among-from_Contains listed input has))))
                (next.ready input reads);
          }))

      out : is_in_cone c nets net ≡ false → Begins c (filter (is_in_cone c nets) listed ++ filter (is_in_cone c nets) (net ∷ []))
      out off = subst (λ last. Begins c (filter (is_in_cone c nets) listed ++ last)) (sym (cond-false (is_in_cone c nets net) (net ∷ []) [] off))
          (subst (Begins c) (sym (append-nil (filter (is_in_cone c nets) listed))) begins)

  kept_step : (listed : List ℕ) (o : Option ℕ) → find (is_next c listed) (gate_nets c) ≡ o → Begins c (filter (is_in_cone c nets) listed) → Begins c (filter (is_in_cone c nets) (listed ++ option_to_list o))
  kept_step listed None none begins = subst (λ xs. Begins c (filter (is_in_cone c nets) xs)) (sym (append-nil listed)) begins
  kept_step listed (Some net) found begins =
      let has : Contains (gate_nets c) net × (is_next c listed net ≡ true) = find-Some (is_next c listed) (gate_nets c) net found in
      kept_more listed net begins (IsGate-from_gate_nets c net has.0) (Next-from_is_next c listed net has.1)

  kept_begins : (n : ℕ) → Begins c (filter (is_in_cone c nets) (first_listed c n))
  kept_begins zero = begins_none c
  kept_begins (suc n) = kept_step (first_listed c n) (find (is_next c (first_listed c n)) (gate_nets c)) refl (kept_begins n)

  pub cone-complete : IsAccepted c → IsTopologicalOrder c (λ net. IsGate c net × IsReachedFrom c nets net) (cone c nets)
  cone-complete accepted = record {
    no_net_twice = begins.apart;
    each = λ net. (from net, to net);
    after_inputs = begins.order;
  }
    where
      begins : Begins c (cone c nets)
      begins = kept_begins (length c.gates)

      from : (net : ℕ) → Contains (cone c nets) net → IsGate c net × IsReachedFrom c nets net
      from net has =
          let found : is_among (cone c nets) net ≡ true = among-from_Contains (cone c nets) net has in
          let parts = and_parts (is_in_cone c nets net) (is_among (topological c) net) (sym (kept-among (topological c) net) ∙ found) in
          (begins.gates net found, (is_in_cone-reached c nets net).0 parts.0)

      to : (net : ℕ) → IsGate c net × IsReachedFrom c nets net → Contains (cone c nets) net
      to net both = Contains-from_among (cone c nets) net (kept-among (topological c) net ∙ and_from _ _ ((is_in_cone-reached c nets net).1 both.1) (listed_lem c accepted net both.0))
