-- A walk along lists of nets marks all that they lead to.
use Rattle.std.specs.Prelude.{◌≡◌, ℕ, ◌<◌, ◌⊎◌, Bool, true, false, not, ◌&&◌, ◌||◌, List, [], ◌∷◌, ◌++◌, length, get_or, All, Contains, ◌↔◌}
use Rattle.std.proofs.Common.{sym, ◌∙◌, ap, subst, inl, inr, ⊎_elim}
use Rattle.std.proofs.lemmas.Bool.{cases_Bool, both_ways, false≢true, or_cases, or_left, or_right, and_from, and_parts}
use Rattle.std.proofs.lemmas.List.Elements.{Contains-push, Contains-get_or}
use Rattle.circuits.proofs.Members.{Contains-from_among, among-from_Contains, among_push, among-append_left}
use Rattle.netlist.specs.Inside.Leads.{Leads, at_once, by_way, IsClosed}
use Rattle.circuits.specs.Order.{is_among}
use Rattle.circuits.specs.Valuation.{bit_of}

pub leads_on : {next : ℕ → List ℕ} {net via to : ℕ} → Leads next net via → Contains (next via) to → Leads next net to
leads_on (at_once first) last = by_way first (at_once last)
leads_on (by_way first rest) last = by_way first (leads_on rest last)

module _ (next : ℕ → List ℕ) (Given Reached : ℕ → Type 0) where
  -- what is marked is reached, what is given is marked, and all that a marked net's list has is marked too, unless the net is yet to be visited
  pub record Walk (n : ℕ) (marks : List Bool) (unvisited : List ℕ) : Type 0 where
    pub long : length marks ≡ n
    pub reached : (net : ℕ) → net < n → bit_of marks net ≡ true → Reached net
    pub given : (net : ℕ) → net < n → Given net → bit_of marks net ≡ true
    pub marked : (net : ℕ) → is_among unvisited net ≡ true → (net < n) × (bit_of marks net ≡ true)
    pub closed : (net : ℕ) → net < n → bit_of marks net ≡ true → (is_among unvisited net ≡ true) ⊎ ((to : ℕ) → Contains (next net) to → bit_of marks to ≡ true)

  module _ (n : ℕ) (within : (net to : ℕ) → Contains (next net) to → to < n) where
    -- some nets marked, beside marks that are closed
    pub walk_begins : (before marks : List Bool) (from unvisited : List ℕ) → length marks ≡ n
        → ((net to : ℕ) → net < n → bit_of before net ≡ true → Contains (next net) to → bit_of before to ≡ true)
        → ((net : ℕ) → net < n → bit_of before net ≡ true → Reached net)
        → ((net : ℕ) → Contains from net → (net < n) × Reached net)
        → ((net : ℕ) → Given net → (bit_of before net ≡ true) ⊎ Contains from net)
        → ((net : ℕ) → net < n → bit_of marks net ≡ (bit_of before net || is_among from net))
        → ((net : ℕ) → is_among unvisited net ≡ (is_among [] net || (is_among from net && not (bit_of before net))))
        → Walk n marks unvisited
    walk_begins before marks from unvisited long closed old start given marking waiting = record {
      long = long;
      reached = λ net low is_marked. ⊎_elim
          (λ was. old net low was)
          (λ found. (start net (Contains-from_among from net found)).1)
          (or_cases (bit_of before net) (is_among from net) (sym (marking net low) ∙ is_marked));
      given = λ net low is. ⊎_elim
          (λ was. keeps net low was)
          (λ has. marking net low ∙ or_right (bit_of before net) (is_among from net) (among-from_Contains from net has))
          (given net is);
      marked = λ net found.
          let in_from : is_among from net ≡ true = (and_parts _ _ (sym (waiting net) ∙ found)).0 in
          let low : net < n = (start net (Contains-from_among from net in_from)).0 in
          (low, marking net low ∙ or_right (bit_of before net) (is_among from net) in_from);
      closed = λ net low is_marked. ⊎_elim
          (λ was. inr (λ to has. keeps to (within net to has) (closed net to low was has)))
          (λ fresh. inl (waiting net ∙ and_from _ _ (new net low fresh is_marked) (ap not fresh)))
          (cases_Bool (bit_of before net));
    }
      where
        keeps : (net : ℕ) → net < n → bit_of before net ≡ true → bit_of marks net ≡ true
        keeps net low was = marking net low ∙ or_left (bit_of before net) (is_among from net) was

        new : (net : ℕ) → net < n → bit_of before net ≡ false → bit_of marks net ≡ true → is_among from net ≡ true
        new net low fresh is_marked = ⊎_elim
            (λ was. absurd (both_ways (bit_of before net) fresh was))
            (λ found. found)
            (or_cases (bit_of before net) (is_among from net) (sym (marking net low) ∙ is_marked))

    module _ (marks : List Bool) (unvisited : List ℕ) (walk : Walk n marks unvisited) where
      pub last_marked : (rest : List ℕ) (net : ℕ) → unvisited ≡ rest ++ net ∷ [] → (net < n) × (bit_of marks net ≡ true)
      last_marked rest net last = walk.marked net (among-from_Contains unvisited net (subst (λ xs. Contains xs net) (sym last) (Contains-push rest net)))

      -- one net visited
      module _ (onwards : (net to : ℕ) → Reached net → Contains (next net) to → Reached to) (rest : List ℕ) (net : ℕ) (last : unvisited ≡ rest ++ net ∷ []) (marks' : List Bool) (unvisited' : List ℕ) (long' : length marks' ≡ n)
          (marking : (y : ℕ) → y < n → bit_of marks' y ≡ (bit_of marks y || is_among (next net) y))
          (waiting : (y : ℕ) → is_among unvisited' y ≡ (is_among rest y || (is_among (next net) y && not (bit_of marks y)))) where
        net-marked : (net < n) × (bit_of marks net ≡ true)
        net-marked = last_marked rest net last

        keeps : (y : ℕ) → y < n → bit_of marks y ≡ true → bit_of marks' y ≡ true
        keeps y low is_marked = marking y low ∙ or_left (bit_of marks y) (is_among (next net) y) is_marked

        marks_listed : (y : ℕ) → Contains (next net) y → bit_of marks' y ≡ true
        marks_listed y has = marking y (within net y has) ∙ or_right (bit_of marks y) (is_among (next net) y) (among-from_Contains (next net) y has)

        reached' : (y : ℕ) → y < n → bit_of marks' y ≡ true → Reached y
        reached' y low is_marked = ⊎_elim
            (λ old. walk.reached y low old)
            (λ new. onwards net y (walk.reached net net-marked.0 net-marked.1) (Contains-from_among (next net) y new))
            (or_cases (bit_of marks y) (is_among (next net) y) (sym (marking y low) ∙ is_marked))

        marked' : (y : ℕ) → is_among unvisited' y ≡ true → (y < n) × (bit_of marks' y ≡ true)
        marked' y found = ⊎_elim
            (λ old.
            let before : (y < n) × (bit_of marks y ≡ true) = walk.marked y (ap (λ xs. is_among xs y) last ∙ among-append_left rest (net ∷ []) y old) in
            (before.0, keeps y before.0 before.1))
            (λ new.
            let has : Contains (next net) y = Contains-from_among (next net) y (and_parts _ _ new).0 in
            (within net y has, marks_listed y has))
            (or_cases (is_among rest y) (is_among (next net) y && not (bit_of marks y)) (sym (waiting y) ∙ found))

        closed' : (y : ℕ) → y < n → bit_of marks' y ≡ true → (is_among unvisited' y ≡ true) ⊎ ((to : ℕ) → Contains (next y) to → bit_of marks' to ≡ true)
        closed' y low is_marked = ⊎_elim old new (cases_Bool (bit_of marks y))
          where
            old : bit_of marks y ≡ true → (is_among unvisited' y ≡ true) ⊎ ((to : ℕ) → Contains (next y) to → bit_of marks' to ≡ true)
            old before = ⊎_elim
                (λ found. ⊎_elim
                (λ in_rest. inl (waiting y ∙ or_left (is_among rest y) _ in_rest))
                (λ same. inr (subst (λ z. (to : ℕ) → Contains (next z) to → bit_of marks' to ≡ true) (sym same) marks_listed))
                (among_push rest net y (sym (ap (λ xs. is_among xs y) last) ∙ found)))
                (λ all. inr (λ to has. keeps to (within y to has) (all to has)))
                (walk.closed y low before)

            new : bit_of marks y ≡ false → (is_among unvisited' y ≡ true) ⊎ ((to : ℕ) → Contains (next y) to → bit_of marks' to ≡ true)
            new before = ⊎_elim
                (λ marked. absurd (both_ways (bit_of marks y) before marked))
                (λ found. inl (waiting y ∙ or_right (is_among rest y) _ (and_from _ _ found (ap not before))))
                (or_cases (bit_of marks y) (is_among (next net) y) (sym (marking y low) ∙ is_marked))

        pub walk_more : Walk n marks' unvisited'
        walk_more = record {
          long = long';
          reached = reached';
          given = λ y low is. keeps y low (walk.given y low is);
          marked = marked';
          closed = closed';
        }

      -- with nothing left to visit, what marked nets lead to is marked
      module _ (none : unvisited ≡ []) where
        all_closed : (net : ℕ) → net < n → bit_of marks net ≡ true → (to : ℕ) → Contains (next net) to → bit_of marks to ≡ true
        all_closed net low is_marked = ⊎_elim (λ found. absurd (false≢true (sym (ap (λ xs. is_among xs net) none) ∙ found))) (λ all. all) (walk.closed net low is_marked)

        pub marked_along : {net to : ℕ} → Leads next net to → net < n → bit_of marks net ≡ true → bit_of marks to ≡ true
        marked_along {net} {to} (at_once has) low is_marked = all_closed net low is_marked to has
        marked_along {net} (by_way {via = via} has rest) low is_marked = marked_along rest (within net via has) (all_closed net low is_marked via has)

pub All-listed : (next : ℕ → List ℕ) (marks : List Bool) → IsClosed next marks → (net : ℕ) (nets : List ℕ) → nets ≡ next net → All (λ to. to < length marks) nets
All-listed next marks closed net nets same k d low = closed.within net (get_or nets k d) (subst (λ xs. Contains xs (get_or nets k d)) same (Contains-get_or nets k d low))

-- a walk that begins at the list of a net, beside marks that are closed
module _ (next : ℕ → List ℕ) (before : List Bool) (root : ℕ) where
  abbrev pub Led : ℕ → Type 0
  Led net = (bit_of before net ≡ true) ⊎ Leads next root net

  abbrev pub Listed : ℕ → Type 0
  Listed net = (bit_of before net ≡ true) ⊎ Contains (next root) net

  module _ (closed : IsClosed next before) where
    pub led_begins : (marks : List Bool) (nets unvisited : List ℕ) → nets ≡ next root → length marks ≡ length before
        → ((net : ℕ) → net < length before → bit_of marks net ≡ (bit_of before net || is_among nets net))
        → ((net : ℕ) → is_among unvisited net ≡ (is_among [] net || (is_among nets net && not (bit_of before net))))
        → Walk next Listed Led (length before) marks unvisited
    led_begins marks nets unvisited same long marking waiting = walk_begins next Listed Led (length before) closed.within before marks nets unvisited long
        (λ net to low was has. closed.closed net to was has)
        (λ net low was. inl was)
        (λ net has. let listed : Contains (next root) net = subst (λ xs. Contains xs net) same has in (closed.within root net listed, inr (at_once listed)))
        (λ net given. ⊎_elim (λ was. inl was) (λ has. inr (subst (λ xs. Contains xs net) (sym same) has)) given)
        marking
        waiting

    led_onwards : (net to : ℕ) → Led net → Contains (next net) to → Led to
    led_onwards net to led has = ⊎_elim (λ was. inl (closed.closed net to was has)) (λ leads. inr (leads_on leads has)) led

    pub led_within : (marks : List Bool) (unvisited : List ℕ) → Walk next Listed Led (length before) marks unvisited → (rest : List ℕ) (net : ℕ) → unvisited ≡ rest ++ net ∷ [] → net < length before
    led_within marks unvisited walk rest net last = (last_marked next Listed Led (length before) closed.within marks unvisited walk rest net last).0

    pub led_more : (marks : List Bool) (unvisited : List ℕ) → Walk next Listed Led (length before) marks unvisited → (rest : List ℕ) (net : ℕ) → unvisited ≡ rest ++ net ∷ [] → (marks' : List Bool) (nets unvisited' : List ℕ) → nets ≡ next net → length marks' ≡ length before
        → ((y : ℕ) → y < length before → bit_of marks' y ≡ (bit_of marks y || is_among nets y))
        → ((y : ℕ) → is_among unvisited' y ≡ (is_among rest y || (is_among nets y && not (bit_of marks y))))
        → Walk next Listed Led (length before) marks' unvisited'
    led_more marks unvisited walk rest net last marks' nets unvisited' same long marking waiting =
        walk_more next Listed Led (length before) closed.within marks unvisited walk led_onwards rest net last marks' unvisited' long
        (subst (λ xs. (y : ℕ) → y < length before → bit_of marks' y ≡ (bit_of marks y || is_among xs y)) same marking)
        (subst (λ xs. (y : ℕ) → is_among unvisited' y ≡ (is_among rest y || (is_among xs y && not (bit_of marks y)))) same waiting)

    -- with nothing left to visit, all is marked that the list leads to
    pub marks-led : (marks : List Bool) (unvisited : List ℕ) → Walk next Listed Led (length before) marks unvisited → unvisited ≡ [] → (net : ℕ) → net < length before → (bit_of marks net ≡ true) ↔ Led net
    marks-led marks unvisited walk none net low = (walk.reached net low, λ led. ⊎_elim (λ was. walk.given net low (inl was)) (λ leads. by_first leads) led)
      where
        by_first : Leads next root net → bit_of marks net ≡ true
        by_first (at_once has) = walk.given net low (inr has)
        by_first (by_way {via = via} has rest) = marked_along next Listed Led (length before) closed.within marks unvisited walk none rest (closed.within root via has) (walk.given via (closed.within root via has) (inr has))
