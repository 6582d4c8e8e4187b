-- A depth-first walk leaves the nets in postorder.
use Rattle.std.specs.Prelude.{◌≡◌, ◌≢◌, ℕ, ◌+◌, ◌-◌, ◌*◌, ◌<◌, ◌≤◌, ◌⊎◌, Bool, true, false, not, List, [], ◌∷◌, ◌++◌, length, nat_eq, sum_by, count_by, get_or, AllPairs, Contains, slice_index, slice_set, if◌then◌else◌, refl}
use Rattle.std.proofs.Common.{sym, ◌∙◌, ap, subst, inl, inr, ⊎_elim, arith}
use Rattle.std.proofs.lemmas.Bool.{cases_Bool, cases_lt, cases_eq, both_ways, false≢true, cond-true, cond-false, eq-eqb, ne_eqb, false_from_ne_true}
use Rattle.std.proofs.lemmas.List.{append_assoc, map-append, map_push, length_push, length-set, get_or-set_same, get_or-set_other, set-get_or, get_or_append_left, get_or_default, get_or_push, get_or_past}
use Rattle.std.proofs.lemmas.List.Elements.{Contains-get_or, Contains-push, Contains-push_cases, Contains-append_left, Contains-append_right, Contains-append_cases}
use Rattle.std.proofs.lemmas.List.Quantifiers.{all_pairs_push}
use Rattle.std.proofs.lemmas.List.Sums.{sum_by_push, sum_by-set}
use Rattle.circuits.proofs.Descent.{reaches_on}
use Rattle.circuits.proofs.Gates.{fanin-few}
use Rattle.circuits.proofs.Members.{Contains-from_among, among-from_Contains, among-append_left, among-append_right, among_push, Contains-cases, Contains-cons, Contains-head, Contains-nil}
use Rattle.netlist.proofs.Counts.{count_of_push, count-from_among, among-from_count}
use Rattle.circuits.specs.Circuit.{Circuit, net_count, fanin}
use Rattle.circuits.specs.Limits.{IsWithinLimits}
use Rattle.circuits.specs.Order.{IsInput, Reaches, step, is_among}
use Rattle.netlist.specs.Inside.Postorder.{none, more, visited, IsLooked, IsWalk}
use Rattle.circuits.specs.Valuation.{bit_of}
use Rattle.netlist.specs.Inside.Waiting.{count_of}
use Rattle.netlist.specs.declared.postorder.Visit.{Visit}

abbrev one_if : Bool → ℕ
one_if b = if b then 1 else 0

-- one mark more
marked-there : (bits : List Bool) (net : ℕ) → net < length bits → bit_of (slice_set bits net true) net ≡ true
marked-there bits net low = get_or-set_same bits net true false low

marked-elsewhere : (bits : List Bool) (net other : ℕ) → other ≢ net → bit_of (slice_set bits net true) other ≡ bit_of bits other
marked-elsewhere bits net other apart = get_or-set_other bits net other true false apart

pub mark-kept : (bits : List Bool) (net other : ℕ) → net < length bits → bit_of bits other ≡ true → bit_of (slice_set bits net true) other ≡ true
mark-kept bits net other low is_marked = ⊎_elim
    (λ same. subst (λ x. bit_of (slice_set bits net true) x ≡ true) (sym same) (marked-there bits net low))
    (λ apart. marked-elsewhere bits net other apart ∙ is_marked)
    (cases_eq other net)

marked-twice : (bits : List Bool) (net : ℕ) → bit_of bits net ≡ true → slice_set bits net true ≡ bits
marked-twice bits net is_marked = ap (λ b. slice_set bits net b) (sym is_marked) ∙ set-get_or bits net false

-- with one input more looked at
abbrev pub on : Visit → Visit
on visit = record { net = visit.net; next = visit.next + 1 }

visited-push : (visits : List Visit) (visit : Visit) → visited (visits ++ visit ∷ []) ≡ visited visits ++ visit.net ∷ []
visited-push visits visit = map_push (λ (v : Visit). v.net) visits visit

module _ (c : Circuit) where
  -- the walk comes to a net
  module _ (seen : List Bool) (order : List ℕ) (visits : List Visit) (net : ℕ) (walk : IsWalk c seen order visits) (low : net < net_count c) (reached : (x : ℕ) → is_among (visited visits) x ≡ true → Reaches c x net) where
    within : net < length seen
    within = omega (arith, low, walk.long)

    first_visit : Visit
    first_visit = record { net = net; next = 0 }

    comes : bit_of seen net ≡ false → IsWalk c (slice_set seen net true) order (visits ++ record { net = net; next = 0 } ∷ [])
    comes fresh = record {
      long = length-set seen net true ∙ walk.long;
      counts = counts;
      closed = λ x input left reads. mark-kept seen net input within (walk.closed x input left reads);
      in_order = walk.in_order;
      path = subst (AllPairs (Reaches c)) (sym (visited-push visits (record { net = net; next = 0 })))
          (all_pairs_push (Reaches c) (visited visits) net walk.path (λ k d here. reached (get_or (visited visits) k d) (among-from_Contains (visited visits) (get_or (visited visits) k d) (Contains-get_or (visited visits) k d here))));
      looked = λ visit has. ⊎_elim
          (λ old. let was = walk.looked visit old in record { few = was.few; inputs = λ place here. mark-kept seen net (slice_index (fanin c visit.net) place) within (was.inputs place here) })
          (λ new. subst (IsLooked c (slice_set seen net true)) new (record { few = omega arith; inputs = λ place here. absurd (omega arith) }))
          (Contains-push_cases visits (record { net = net; next = 0 }) visit has);
    }
      where
        more_visits : (x : ℕ) → count_of (visited (visits ++ record { net = net; next = 0 } ∷ [])) x ≡ count_of (visited visits) x + (if nat_eq x net then 1 else 0)
        more_visits x = ap (λ xs. count_of xs x) (visited-push visits (record { net = net; next = 0 })) ∙ count_of_push (visited visits) net x

        counts : (x : ℕ) → count_of order x + count_of (visited (visits ++ record { net = net; next = 0 } ∷ [])) x ≡ (if bit_of (slice_set seen net true) x then 1 else 0)
        counts x = ⊎_elim
            (λ same.
            let one = cond-true {A = ℕ} (nat_eq x net) 1 0 (eq-eqb x net same) in
            let now = cond-true {A = ℕ} (bit_of (slice_set seen net true) x) 1 0 (subst (λ y. bit_of (slice_set seen net true) y ≡ true) (sym same) (marked-there seen net within)) in
            let before = cond-false {A = ℕ} (bit_of seen x) 1 0 (ap (bit_of seen) same ∙ fresh) in
            omega (arith, one, now, before, more_visits x, walk.counts x))
            (λ apart.
            let zero = cond-false {A = ℕ} (nat_eq x net) 1 0 (ne_eqb x net apart) in
            let now : (if bit_of (slice_set seen net true) x then 1 else 0) ≡ (if bit_of seen x then 1 else 0) = ap one_if (marked-elsewhere seen net x apart) in
            omega (arith, zero, now, more_visits x, walk.counts x))
            (cases_eq x net)

    pub walk_enters : IsWalk c (slice_set seen net true) order (if bit_of seen net then visits else visits ++ record { net = net; next = 0 } ∷ [])
    walk_enters = ⊎_elim
        (λ old.
        subst (IsWalk c (slice_set seen net true) order) (sym (cond-true (bit_of seen net) visits (visits ++ record { net = net; next = 0 } ∷ []) old))
        (subst (λ bits. IsWalk c bits order visits) (sym (marked-twice seen net old)) walk))
        (λ fresh. subst (IsWalk c (slice_set seen net true) order) (sym (cond-false (bit_of seen net) visits (visits ++ record { net = net; next = 0 } ∷ []) fresh)) (comes fresh))
        (cases_Bool (bit_of seen net))

  -- the walk looks at one input more
  walk_looks : (seen : List Bool) (order : List ℕ) (rest later : List Visit) (visit : Visit) → IsWalk c seen order (rest ++ visit ∷ later) → visit.next < length (fanin c visit.net)
      → bit_of seen (slice_index (fanin c visit.net) visit.next) ≡ true → IsWalk c seen order (rest ++ on visit ∷ later)
  walk_looks seen order rest later visit walk low is_seen = record {
    long = walk.long;
    counts = λ net. ap (λ xs. count_of order net + count_of xs net) (sym same) ∙ walk.counts net;
    closed = walk.closed;
    in_order = walk.in_order;
    path = subst (AllPairs (Reaches c)) same walk.path;
    looked = λ other has. ⊎_elim
        (λ before. walk.looked other (Contains-append_left rest (visit ∷ later) other before))
        (λ after. ⊎_elim
        (λ here. subst (IsLooked c seen) here now)
        (λ past. walk.looked other (Contains-append_right rest (visit ∷ later) other (Contains-cons visit later other past)))
        (Contains-cases (on visit) later other after))
        (Contains-append_cases rest (on visit ∷ later) other has);
  }
    where
      same : visited (rest ++ visit ∷ later) ≡ visited (rest ++ on visit ∷ later)
      same = map-append (λ (v : Visit). v.net) rest (visit ∷ later) ∙ sym (map-append (λ (v : Visit). v.net) rest (on visit ∷ later))

      was : IsLooked c seen visit
      was = walk.looked visit (Contains-append_right rest (visit ∷ later) visit (Contains-head visit later))

      now : IsLooked c seen (on visit)
      now = record {
        few = omega arith;
        inputs = λ place here. ⊎_elim
            (λ before. was.inputs place before)
            (λ past. let e : place ≡ visit.next = omega arith in subst (λ k. bit_of seen (slice_index (fanin c visit.net) k) ≡ true) (sym e) is_seen)
            (cases_lt place visit.next);
      }

  -- the last of a path is reached from all others
  path_to_last : (xs : List ℕ) (net : ℕ) → AllPairs (Reaches c) (xs ++ net ∷ []) → (x : ℕ) → is_among xs x ≡ true → Reaches c x net
  path_to_last xs net path x found = go (Contains-from_among xs x found)
    where
      go : Contains xs x → Reaches c x net
      go has = subst (λ y. Reaches c y net) (get_or_append_left xs (net ∷ []) x has.0 has.1 ∙ has.2)
          (subst (λ y. Reaches c (get_or (xs ++ net ∷ []) has.0 x) y) (get_or_push xs net x (length xs) refl) (path has.0 (length xs) x has.1 (omega (arith, length_push xs net))))

  path_without_last : (xs : List ℕ) (net : ℕ) → AllPairs (Reaches c) (xs ++ net ∷ []) → AllPairs (Reaches c) xs
  path_without_last xs net path i j d before low =
      subst (λ y. Reaches c y (get_or xs j d)) (get_or_append_left xs (net ∷ []) d i (omega arith))
      (subst (λ y. Reaches c (get_or (xs ++ net ∷ []) i d) y) (get_or_append_left xs (net ∷ []) d j low) (path i j d before (omega (arith, length_push xs net))))

  -- the walk goes on from a net to one of its inputs
  pub walk_goes_on : (inputs : (net input : ℕ) → IsInput c net input → input < net_count c) (seen : List Bool) (order : List ℕ) (rest : List Visit) (visit : Visit) (input : ℕ) → IsWalk c seen order (rest ++ visit ∷ [])
      → visit.next < length (fanin c visit.net) → input ≡ slice_index (fanin c visit.net) visit.next
      → IsWalk c (slice_set seen input true) order (if bit_of seen input then rest ++ on visit ∷ [] else (rest ++ on visit ∷ []) ++ record { net = input; next = 0 } ∷ [])
  walk_goes_on inputs seen order rest visit input walk low is = ⊎_elim old new (cases_Bool (bit_of seen input))
    where
      reads : IsInput c visit.net input
      reads = subst (Contains (fanin c visit.net)) (sym is) (Contains-get_or (fanin c visit.net) visit.next 0 low)

      path : AllPairs (Reaches c) (visited rest ++ visit.net ∷ [])
      path = subst (AllPairs (Reaches c)) (visited-push rest visit) walk.path

      reached : (x : ℕ) → is_among (visited (rest ++ visit ∷ [])) x ≡ true → Reaches c x input
      reached x found = ⊎_elim
          (λ before. reaches_on (path_to_last (visited rest) visit.net path x before) reads)
          (λ same. subst (λ y. Reaches c y input) (sym same) (step reads))
          (among_push (visited rest) visit.net x (sym (ap (λ xs. is_among xs x) (visited-push rest visit)) ∙ found))

      there : IsWalk c (slice_set seen input true) order (if bit_of seen input then rest ++ visit ∷ [] else (rest ++ visit ∷ []) ++ record { net = input; next = 0 } ∷ [])
      there = walk_enters seen order (rest ++ visit ∷ []) input walk (inputs visit.net input reads) reached

      is_seen : bit_of (slice_set seen input true) (slice_index (fanin c visit.net) visit.next) ≡ true
      is_seen = subst (λ y. bit_of (slice_set seen input true) y ≡ true) is (marked-there seen input (omega (arith, inputs visit.net input reads, walk.long)))

      old : bit_of seen input ≡ true → IsWalk c (slice_set seen input true) order (if bit_of seen input then rest ++ on visit ∷ [] else (rest ++ on visit ∷ []) ++ record { net = input; next = 0 } ∷ [])
      old e = subst (IsWalk c (slice_set seen input true) order) (sym (cond-true (bit_of seen input) (rest ++ on visit ∷ []) ((rest ++ on visit ∷ []) ++ record { net = input; next = 0 } ∷ []) e))
          (walk_looks (slice_set seen input true) order rest [] visit (subst (IsWalk c (slice_set seen input true) order) (cond-true (bit_of seen input) (rest ++ visit ∷ []) ((rest ++ visit ∷ []) ++ record { net = input; next = 0 } ∷ []) e) there) low is_seen)

      new : bit_of seen input ≡ false → IsWalk c (slice_set seen input true) order (if bit_of seen input then rest ++ on visit ∷ [] else (rest ++ on visit ∷ []) ++ record { net = input; next = 0 } ∷ [])
      new e = subst (IsWalk c (slice_set seen input true) order) (sym (append_assoc rest (on visit ∷ []) (record { net = input; next = 0 } ∷ [])) ∙ sym (cond-false (bit_of seen input) (rest ++ on visit ∷ []) ((rest ++ on visit ∷ []) ++ record { net = input; next = 0 } ∷ []) e))
          (walk_looks (slice_set seen input true) order rest (record { net = input; next = 0 } ∷ []) visit
          (subst (IsWalk c (slice_set seen input true) order) (cond-false (bit_of seen input) (rest ++ visit ∷ []) ((rest ++ visit ∷ []) ++ record { net = input; next = 0 } ∷ []) e ∙ append_assoc rest (visit ∷ []) (record { net = input; next = 0 } ∷ [])) there)
          low
          is_seen)

  -- the walk leaves a net all of whose inputs it has looked at
  module _ (seen : List Bool) (order : List ℕ) (rest : List Visit) (visit : Visit) (walk : IsWalk c seen order (rest ++ visit ∷ [])) (all : length (fanin c visit.net) ≤ visit.next) where
    abbrev net : ℕ
    net = visit.net

    at_net : (x : ℕ) → count_of (visited (rest ++ visit ∷ [])) x ≡ count_of (visited rest) x + (if nat_eq x net then 1 else 0)
    at_net x = ap (λ xs. count_of xs x) (visited-push rest visit) ∙ count_of_push (visited rest) net x

    closed' : (reader input : ℕ) → is_among (order ++ net ∷ []) reader ≡ true → IsInput c reader input → bit_of seen input ≡ true
    closed' reader input left reads = ⊎_elim
        (λ before. walk.closed reader input before reads)
        (λ same. of_net (subst (λ x. IsInput c x input) same reads))
        (among_push order net reader left)
      where
        of_net : IsInput c net input → bit_of seen input ≡ true
        of_net has = subst (λ x. bit_of seen x ≡ true) (e) ((walk.looked visit (Contains-push rest visit)).inputs has.0 (omega (arith, has.1)))
          where
            e : slice_index (fanin c net) has.0 ≡ input
            e = get_or_default (fanin c net) has.0 0 input has.1 ∙ has.2

    path' : AllPairs (Reaches c) (visited rest ++ net ∷ [])
    path' = subst (AllPairs (Reaches c)) (visited-push rest visit) walk.path

    is_new : is_among order net ≡ false
    is_new = false_from_ne_true (is_among order net) (λ found.
        let some = count-from_among order net found in
        let one = cond-true {A = ℕ} (nat_eq net net) 1 0 (eq-eqb net net refl) in
        let most = one_at_most (bit_of seen net) in
        omega (arith, some, one, most, at_net net, walk.counts net))
      where
        one_at_most : (b : Bool) → one_if b ≤ 1
        one_at_most true = omega arith
        one_at_most false = omega arith

    after : (x : ℕ) → bit_of seen x ≡ true → (is_among (order ++ net ∷ []) x ≡ true) ⊎ Reaches c x net
    after x is_seen = ⊎_elim
        (λ found. inl (among-append_left order (net ∷ []) x found))
        (λ out. ⊎_elim
        (λ found. inr (path_to_last (visited rest) net path' x found))
        (λ away. inl (among-append_right order (net ∷ []) x (among-from_count (net ∷ []) x (last out away))))
        (cases_Bool (is_among (visited rest) x)))
        (cases_Bool (is_among order x))
      where
        none_of : (xs : List ℕ) → is_among xs x ≡ false → count_of xs x ≡ 0
        none_of xs out = ⊎_elim (λ some. absurd (both_ways (is_among xs x) out (among-from_count xs x some))) (λ few. omega arith) (cases_lt 0 (count_of xs x))

        last : is_among order x ≡ false → is_among (visited rest) x ≡ false → 0 < count_of (net ∷ []) x
        last out away =
            let one = cond-true {A = ℕ} (bit_of seen x) 1 0 is_seen in
            omega (arith, one, none_of order out, none_of (visited rest) away, at_net x, walk.counts x)

    pub walk_leaves : IsWalk c seen (order ++ net ∷ []) rest
    walk_leaves = record {
      long = walk.long;
      counts = λ x. let e = count_of_push order net x in omega (arith, e, at_net x, walk.counts x);
      closed = closed';
      in_order = more order net walk.in_order (record { new = is_new; inputs = λ reader input found reads. after input (closed' reader input found reads) });
      path = path_without_last (visited rest) net path';
      looked = λ other has. walk.looked other (Contains-append_left rest (visit ∷ []) other has);
    }

-- what is left to do at a net, and at all nets: one that is not seen counts for all of its inputs, and for coming and leaving
abbrev pub left : Visit → ℕ
left visit = 65 - visit.next

abbrev pub work : List Bool → List Visit → ℕ
work seen visits = 66 * count_by not seen + sum_by left visits

pub work_leaves : (seen : List Bool) (rest : List Visit) (visit : Visit) → visit.next ≤ 64 → work seen rest < work seen (rest ++ visit ∷ [])
work_leaves seen rest visit few = let e = sum_by_push left rest visit in omega (arith, e)

pub work_goes_on : (seen : List Bool) (rest : List Visit) (visit : Visit) (input : ℕ) → visit.next < 64 → input < length seen
    → work (slice_set seen input true) (if bit_of seen input then rest ++ on visit ∷ [] else (rest ++ on visit ∷ []) ++ record { net = input; next = 0 } ∷ []) < work seen (rest ++ visit ∷ [])
work_goes_on seen rest visit input few low = ⊎_elim
    (λ old.
    let unseen : count_by not (slice_set seen input true) ≡ count_by not seen = ap (count_by not) (marked-twice seen input old) in
    let is = ap (λ b. sum_by left (if b then rest ++ on visit ∷ [] else (rest ++ on visit ∷ []) ++ record { net = input; next = 0 } ∷ [])) old in
    omega (arith, unseen, is, before, now))
    (λ fresh.
    let set : count_by not (slice_set seen input true) + 1 ≡ count_by not seen + 0 = subst (λ b. count_by not (slice_set seen input true) + (if not b then 1 else 0) ≡ count_by not seen + 0) fresh (sum_by-set (λ b. if not b then 1 else 0) seen input true false low) in
    let is = ap (λ b. sum_by left (if b then rest ++ on visit ∷ [] else (rest ++ on visit ∷ []) ++ record { net = input; next = 0 } ∷ [])) fresh in
    let and_new : sum_by left ((rest ++ on visit ∷ []) ++ record { net = input; next = 0 } ∷ []) ≡ sum_by left (rest ++ on visit ∷ []) + 65 = sum_by_push left (rest ++ on visit ∷ []) (record { net = input; next = 0 }) in
    omega (arith, set, is, before, now, and_new))
    (cases_Bool (bit_of seen input))
  where
    before : sum_by left (rest ++ visit ∷ []) ≡ sum_by left rest + left visit
    before = sum_by_push left rest visit

    now : sum_by left (rest ++ on visit ∷ []) ≡ sum_by left rest + left (on visit)
    now = sum_by_push left rest (on visit)

-- one visit of a walk, by what the code has of it
module _ (c : Circuit) (inputs : (net input : ℕ) → IsInput c net input → input < net_count c) (seen : List Bool) (order : List ℕ) (visits rest : List Visit) (visit : Visit) (nets : List ℕ) (walk : IsWalk c seen order visits) (last : visits ≡ rest ++ visit ∷ []) (same : nets ≡ fanin c visit.net) where
  here : IsWalk c seen order (rest ++ visit ∷ [])
  here = subst (IsWalk c seen order) last walk

  module _ (left_over : visit.next < length nets) where
    low : visit.next < length (fanin c visit.net)
    low = subst (λ xs. visit.next < length xs) same left_over

    abbrev input : ℕ
    input = slice_index nets visit.next

    is_input : input ≡ slice_index (fanin c visit.net) visit.next
    is_input = ap (λ xs. slice_index xs visit.next) same

    pub input_within : input < length seen
    input_within =
        let reads : IsInput c visit.net input = subst (Contains (fanin c visit.net)) (sym is_input) (Contains-get_or (fanin c visit.net) visit.next 0 low) in
        omega (arith, inputs visit.net input reads, walk.long)

    module _ (pushed visits' : List Visit) (seen' : List Bool) (is_pushed : pushed ≡ rest ++ on visit ∷ []) (is_seen : seen' ≡ slice_set seen input true) (are : visits' ≡ (if bit_of seen input then pushed else pushed ++ record { net = input; next = 0 } ∷ [])) where
      are_visits : visits' ≡ (if bit_of seen input then rest ++ on visit ∷ [] else (rest ++ on visit ∷ []) ++ record { net = input; next = 0 } ∷ [])
      are_visits = subst (λ vs. visits' ≡ (if bit_of seen input then vs else vs ++ record { net = input; next = 0 } ∷ [])) is_pushed are

      pub goes_on : IsWalk c seen' order visits'
      goes_on = subst (λ bits. IsWalk c bits order visits') (sym is_seen) (subst (IsWalk c (slice_set seen input true) order) (sym are_visits) (walk_goes_on c inputs seen order rest visit input here low is_input))

      pub goes_on_less : IsWithinLimits c → work seen' visits' < work seen visits
      goes_on_less limits =
          let few : visit.next < 64 = omega (arith, low, fanin-few c limits visit.net) in
          subst (λ bits. work bits visits' < work seen visits) (sym is_seen) (subst (λ vs. work (slice_set seen input true) vs < work seen visits) (sym are_visits) (subst (λ vs. work (slice_set seen input true) (if bit_of seen input then rest ++ on visit ∷ [] else (rest ++ on visit ∷ []) ++ record { net = input; next = 0 } ∷ []) < work seen vs) (sym last) (work_goes_on seen rest visit input few input_within)))

  pub leaves : length nets ≤ visit.next → (order' : List ℕ) → order' ≡ order ++ visit.net ∷ [] → IsWalk c seen order' rest
  leaves all order' is = subst (λ xs. IsWalk c seen xs rest) (sym is) (walk_leaves c seen order rest visit here (subst (λ xs. length xs ≤ visit.next) same all))

  pub leaves_less : IsWithinLimits c → work seen rest < work seen visits
  leaves_less limits =
      let looked : IsLooked c seen visit = here.looked visit (Contains-push rest visit) in
      subst (λ vs. work seen rest < work seen vs) (sym last) (work_leaves seen rest visit (omega (arith, looked.few, fanin-few c limits visit.net)))

-- a walk before its first visit, and one that is nowhere
module _ (c : Circuit) where
  pub walk_starts : (seen : List Bool) → length seen ≡ net_count c → ((net : ℕ) → bit_of seen net ≡ false) → IsWalk c seen [] []
  walk_starts seen long none_seen = record {
    long = long;
    counts = λ net. sym (ap one_if (none_seen net));
    closed = λ net input found. absurd (false≢true found);
    in_order = none;
    path = λ i j d before low. absurd (omega (arith, low));
    looked = λ visit has. absurd (Contains-nil visit has);
  }

  module _ (seen : List Bool) (order : List ℕ) (walk : IsWalk c seen order []) where
    pub order-has_seen : (net : ℕ) → bit_of seen net ≡ true → is_among order net ≡ true
    order-has_seen net is_seen = let one : one_if (bit_of seen net) ≡ 1 = ap one_if is_seen in among-from_count order net (omega (arith, one, walk.counts net))

    pub order-within : (net : ℕ) → is_among order net ≡ true → net < net_count c
    order-within net found = ⊎_elim
        (λ low. low)
        (λ past.
        let off : one_if (bit_of seen net) ≡ 0 = ap one_if (get_or_past seen net false (omega (arith, past, walk.long))) in
        absurd (omega (arith, off, count-from_among order net found, walk.counts net)))
        (cases_lt net (net_count c))
