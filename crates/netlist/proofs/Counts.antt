-- Counts of nets in lists, and sets of nets.
use Rattle.std.specs.Prelude.{◌≡◌, ◌≢◌, ℕ, zero, suc, replicate, ◌+◌, ◌-◌, ◌<◌, ◌≤◌, ◌==◌, ◌⊎◌, Bool, true, false, cond, ◌&&◌, ◌||◌, List, [], ◌∷◌, ◌++◌, length, take, drop, Contains, nat_eq, nat_lt, filter, get_or, if◌then◌else◌, refl}
use Rattle.std.specs.BTreeSet.{BTreeSet, contains, Updates}
use Rattle.std.specs.BTreeMap.{is_at}
use Rattle.std.specs.Cmp.{eq_by_cmp_equiv}
use Rattle.std.specs.Option.{option_map_or}
use Rattle.std.specs.Ordering.{nat_cmp}
use Rattle.std.specs.declared.alloc.Global.{Global}
use Rattle.std.specs.declared.vec.Vec.{Vec}
use Rattle.std.proofs.Common.{sym, eqb-true, ◌∙◌, ap, subst, inl, inr, ⊎_elim, arith, slice_set}
use Rattle.std.proofs.lemmas.Bool.{cases_Bool, both_ways, cond-true, cond-false, ne_eqb, eq-eqb, lt-ltb, le-ltb, cases_eq, cases_lt, false_from_ne_true}
use Rattle.std.proofs.lemmas.Cmp.{nat_cmp_total}
use Rattle.std.proofs.lemmas.List.{get_or-set_same, get_or-set_other, length-set, take_more}
use Rattle.std.proofs.lemmas.List.Elements.{filter-append}
use Rattle.std.proofs.lemmas.Option.{slice_get-get_or, slice_get_past}
use Rattle.std.proofs.Math.Seq.{take-append_seam}
use Rattle.std.proofs.lemmas.List.Sums.{count_by_more_yes, count_by_more_no, sum_by-cons, sum_by-take-le, sum_by-append}
use Rattle.std.proofs.lemmas.Map.Views.{tells_apart}
use Rattle.std.proofs.lemmas.Map.Lookups.{exact_unsigned}
use Rattle.circuits.proofs.Members.{Contains-from_among, among-from_Contains, Contains-head, Contains-cases}
use Rattle.circuits.specs.Circuit.{Circuit, net_count, input_count, fanin}
use Rattle.circuits.specs.Order.{is_among}
use Rattle.netlist.specs.Inside.Waiting.{count_of, list_at, HasReader, CountsReaders}

-- the order of numbers finds equal ones
pub is_at-nat : (a b : ℕ) → is_at (nat_cmp a) b ≡ nat_eq a b
is_at-nat a b = ⊎_elim
    (λ same. let e : a ≡ b = tells_apart exact_unsigned a b same in same ∙ sym (eq-eqb a b e))
    (λ other. other ∙ sym (false_from_ne_true (nat_eq a b) (λ is. let e : a ≡ b = eqb-true a b is in both_ways (is_at (nat_cmp a) b) other (subst (λ x. is_at (nat_cmp a) x ≡ true) e ((eq_by_cmp_equiv nat_cmp_total).refl a)))))
    (cases_Bool (is_at (nat_cmp a) b))

-- a set after a number was put in or taken out
pub contains-updated : (s t : BTreeSet ℕ) (k : ℕ) (b : Bool) → Updates nat_cmp s t k b → (q : ℕ) → contains nat_cmp t q ≡ cond (nat_eq k q) b (contains nat_cmp s q)
contains-updated s t k b updates q = updates.0 q ∙ ap (λ c. cond c b (contains nat_cmp s q)) (is_at-nat k q)

-- one place of the list more
pub count_of_more : (xs : List ℕ) (i y : ℕ) → i < length xs → count_of (take (i + 1) xs) y ≡ count_of (take i xs) y + (if nat_eq y (get_or xs i 0) then 1 else 0)
count_of_more xs i y low = ⊎_elim
    (λ yes. count_by_more_yes (nat_eq y) xs i 0 low yes ∙ ap (λ n. count_of (take i xs) y + n) (sym (cond-true {A = ℕ} (nat_eq y (get_or xs i 0)) 1 0 yes)))
    (λ no. let e = count_by_more_no (nat_eq y) xs i 0 low no in let f = cond-false {A = ℕ} (nat_eq y (get_or xs i 0)) 1 0 no in omega (arith, e, f))
    (cases_Bool (nat_eq y (get_or xs i 0)))

pub count_of-take-le : (xs : List ℕ) (i y : ℕ) → count_of (take i xs) y ≤ count_of xs y
count_of-take-le xs i y = sum_by-take-le (λ x. cond (nat_eq y x) 1 0) xs i

pub count_of-append : (xs ys : List ℕ) (y : ℕ) → count_of (xs ++ ys) y ≡ count_of xs y + count_of ys y
count_of-append xs ys y = sum_by-append (λ x. cond (nat_eq y x) 1 0) xs ys

-- the reader of a place waits for something
pub waits_for_more : (old w : List ℕ) (readers : List ℕ) (i : ℕ) → i < length readers → ((net : ℕ) → get_or w net 0 + count_of (take i readers) net ≡ get_or old net 0) → ((net : ℕ) → count_of readers net ≤ get_or old net 0) → 1 ≤ get_or w (get_or readers i 0) 0
waits_for_more old w readers i low left enough =
    let r : ℕ = get_or readers i 0 in
    let more : count_of (take (i + 1) readers) r ≡ count_of (take i readers) r + 1 = count_of_more readers i r low ∙ ap (λ n. count_of (take i readers) r + n) (cond-true {A = ℕ} (nat_eq r r) 1 0 (eq-eqb r r refl)) in
    omega (arith, more, count_of-take-le readers (i + 1) r, left r, enough r)

-- one taken from what it waits for
pub released : (old w : List ℕ) (readers : List ℕ) (i : ℕ) → i < length readers → get_or readers i 0 < length w → 1 ≤ get_or w (get_or readers i 0) 0 → ((net : ℕ) → get_or w net 0 + count_of (take i readers) net ≡ get_or old net 0)
    → (net : ℕ) → get_or (slice_set w (get_or readers i 0) (get_or w (get_or readers i 0) 0 - 1)) net 0 + count_of (take (i + 1) readers) net ≡ get_or old net 0
released old w readers i low within some left net = ⊎_elim same other (cases_eq net (get_or readers i 0))
  where
    same : net ≡ get_or readers i 0 → get_or (slice_set w (get_or readers i 0) (get_or w (get_or readers i 0) 0 - 1)) net 0 + count_of (take (i + 1) readers) net ≡ get_or old net 0
    same e =
        let now : get_or (slice_set w (get_or readers i 0) (get_or w (get_or readers i 0) 0 - 1)) net 0 ≡ get_or w (get_or readers i 0) 0 - 1 = rw e (get_or-set_same w (get_or readers i 0) (get_or w (get_or readers i 0) 0 - 1) 0 within) in
        let more = count_of_more readers i net low in
        let one = cond-true {A = ℕ} (nat_eq net (get_or readers i 0)) 1 0 (eq-eqb net (get_or readers i 0) e) in
        let before : get_or w (get_or readers i 0) 0 + count_of (take i readers) net ≡ get_or old net 0 = rw (← e) (left net) in
        omega (arith, now, more, one, before, some)

    other : net ≢ get_or readers i 0 → get_or (slice_set w (get_or readers i 0) (get_or w (get_or readers i 0) 0 - 1)) net 0 + count_of (take (i + 1) readers) net ≡ get_or old net 0
    other apart =
        let now = get_or-set_other w (get_or readers i 0) net (get_or w (get_or readers i 0) 0 - 1) 0 apart in
        let more = count_of_more readers i net low in
        let none = cond-false {A = ℕ} (nat_eq net (get_or readers i 0)) 1 0 (ne_eqb net (get_or readers i 0) apart) in
        omega (arith, now, more, none, left net)

-- whether a net is ready, where z tells whether the reader waits for nothing more
pub ready_more : (w readers : List ℕ) (i : ℕ) (first before after : ℕ → Bool) (z : Bool) → i < length readers → get_or readers i 0 < length w → 1 ≤ get_or w (get_or readers i 0) 0
    → z ≡ (get_or w (get_or readers i 0) 0 - 1 == 0)
    → ((net : ℕ) → before net ≡ (first net || (nat_lt 0 (count_of (take i readers) net) && get_or w net 0 == 0)))
    → ((net : ℕ) → after net ≡ (if z then cond (nat_eq (get_or readers i 0) net) true (before net) else before net))
    → (net : ℕ) → after net ≡ (first net || (nat_lt 0 (count_of (take (i + 1) readers) net) && get_or (slice_set w (get_or readers i 0) (get_or w (get_or readers i 0) 0 - 1)) net 0 == 0))
ready_more w readers i first before after z low within some is_z kept more net = ⊎_elim same other (cases_eq net (get_or readers i 0))
  where
    r : ℕ
    r = get_or readers i 0

    left : ℕ
    left = get_or w r 0 - 1

    more_count : count_of (take (i + 1) readers) net ≡ count_of (take i readers) net + (if nat_eq net r then 1 else 0)
    more_count = count_of_more readers i net low

    Ready : Bool → Type 0
    Ready b = after net ≡ (first net || b)

    same : net ≡ r → after net ≡ (first net || (nat_lt 0 (count_of (take (i + 1) readers) net) && get_or (slice_set w r left) net 0 == 0))
    same e = rw (counted, now, ← is_z) (by_z z (first net) (more net ∙ rw (eq-eqb r net (sym e), kept net, waits) refl))
      where
        now : get_or (slice_set w r left) net 0 ≡ left
        now = rw e (get_or-set_same w r left 0 within)

        counted : nat_lt 0 (count_of (take (i + 1) readers) net) ≡ true
        counted = let one = cond-true {A = ℕ} (nat_eq net r) 1 0 (eq-eqb net r e) in lt-ltb 0 (count_of (take (i + 1) readers) net) (omega (arith, more_count, one))

        waits : (get_or w net 0 == 0) ≡ false
        waits = let s : 1 ≤ get_or w net 0 = rw e some in ne_eqb (get_or w net 0) 0 (λ zero. omega arith)

        by_z : (z f : Bool) → after net ≡ (if z then true else (f || (nat_lt 0 (count_of (take i readers) net) && false))) → after net ≡ (f || (true && z))
        by_z z f h = h ∙ tests z f (nat_lt 0 (count_of (take i readers) net))
          where
            tests : (z f b : Bool) → (if z then true else (f || (b && false))) ≡ (f || (true && z))
            tests true true b = refl
            tests true false b = refl
            tests false true b = refl
            tests false false true = refl
            tests false false false = refl

    other : net ≢ r → after net ≡ (first net || (nat_lt 0 (count_of (take (i + 1) readers) net) && get_or (slice_set w r left) net 0 == 0))
    other apart = rw (counted, now) (more net ∙ (rw (ne_eqb r net (λ e. apart (sym e))) (either z (before net)) ∙ kept net))
      where
        either : (z b : Bool) → (if z then b else b) ≡ b
        either true b = refl
        either false b = refl

        now : get_or (slice_set w r left) net 0 ≡ get_or w net 0
        now = get_or-set_other w r net left 0 apart

        counted : count_of (take (i + 1) readers) net ≡ count_of (take i readers) net
        counted = let none = cond-false {A = ℕ} (nat_eq net r) 1 0 (ne_eqb net r apart) in omega (arith, more_count, none)

pub list_at-is : (lists : List (Vec ℕ Global)) (net : ℕ) (d : Vec ℕ Global) → net < length lists → list_at lists net ≡ (get_or lists net d).items
list_at-is lists net d low = ap (λ o. option_map_or (λ list. list.items) o []) (slice_get-get_or lists net d low)

pub list_at-past : (lists : List (Vec ℕ Global)) (net : ℕ) → length lists ≤ net → list_at lists net ≡ []
list_at-past lists net past = ap (λ o. option_map_or (λ (list : Vec ℕ Global). list.items) o []) (slice_get_past lists net past)

-- a list that was read at its net
pub nets-list_at : (lists : List (Vec ℕ Global)) (net : ℕ) (list : Vec ℕ Global) (nets : List ℕ) → net < length lists → list ≡ get_or lists net list → nets ≡ list.items → nets ≡ list_at lists net
nets-list_at lists net list nets low is same = same ∙ sym (list_at-is lists net list low ∙ ap (λ (v : Vec ℕ Global). v.items) (sym is))

-- a list after one reader more
pub count_of_push : (xs : List ℕ) (y other : ℕ) → count_of (xs ++ y ∷ []) other ≡ count_of xs other + (if nat_eq other y then 1 else 0)
count_of_push xs y other =
    let e : count_of (xs ++ y ∷ []) other ≡ count_of xs other + count_of (y ∷ []) other = count_of-append xs (y ∷ []) other in
    omega (arith, e)

pub note_more : (before readers : List (Vec ℕ Global)) (reader : ℕ) (inputs : List ℕ) (k : ℕ) (old new : Vec ℕ Global) → k < length inputs → get_or inputs k 0 < length readers → length readers ≡ length before
    → new.items ≡ (get_or readers (get_or inputs k 0) old).items ++ reader ∷ []
    → HasReader before readers reader (take k inputs) → HasReader before (slice_set readers (get_or inputs k 0) new) reader (take (k + 1) inputs)
note_more before readers reader inputs k old new low within same_length pushed has net other below = ⊎_elim same apart (cases_eq net input)
  where
    input : ℕ
    input = get_or inputs k 0

    in_readers : net < length readers
    in_readers = omega (arith, below, same_length)

    in_set : net < length (slice_set readers input new)
    in_set = omega (arith, in_readers, length-set readers input new)

    more : count_of (take (k + 1) inputs) net ≡ count_of (take k inputs) net + (if nat_eq net input then 1 else 0)
    more = count_of_more inputs k net low

    earlier : count_of (list_at readers net) other ≡ count_of (list_at before net) other + (if nat_eq other reader then count_of (take k inputs) net else 0)
    earlier = has net other below

    same : net ≡ input → count_of (list_at (slice_set readers input new) net) other ≡ count_of (list_at before net) other + (if nat_eq other reader then count_of (take (k + 1) inputs) net else 0)
    same e = count ∙ by_reader (nat_eq other reader) earlier
      where
        here : list_at (slice_set readers input new) net ≡ list_at readers net ++ reader ∷ []
        here =
            let now : get_or (slice_set readers input new) net new ≡ new = rw e (get_or-set_same readers input new new within) in
            let before_it : list_at readers net ≡ (get_or readers input old).items = list_at-is readers net old in_readers ∙ rw e refl in
            list_at-is (slice_set readers input new) net new in_set ∙ (ap (λ (v : Vec ℕ Global). v.items) now ∙ (pushed ∙ ap (λ (xs : List ℕ). xs ++ reader ∷ []) (sym before_it)))

        count : count_of (list_at (slice_set readers input new) net) other ≡ count_of (list_at readers net) other + (if nat_eq other reader then 1 else 0)
        count = ap (λ xs. count_of xs other) here ∙ count_of_push (list_at readers net) reader other

        one_more : count_of (take (k + 1) inputs) net ≡ count_of (take k inputs) net + 1
        one_more = more ∙ ap (λ n. count_of (take k inputs) net + n) (cond-true {A = ℕ} (nat_eq net input) 1 0 (eq-eqb net input e))

        by_reader : (b : Bool) → count_of (list_at readers net) other ≡ count_of (list_at before net) other + (if b then count_of (take k inputs) net else 0)
            → count_of (list_at readers net) other + (if b then 1 else 0) ≡ count_of (list_at before net) other + (if b then count_of (take (k + 1) inputs) net else 0)
        by_reader true h = omega (arith, h, one_more)
        by_reader false h = omega (arith, h)

    apart : net ≢ input → count_of (list_at (slice_set readers input new) net) other ≡ count_of (list_at before net) other + (if nat_eq other reader then count_of (take (k + 1) inputs) net else 0)
    apart other_net = ap (λ xs. count_of xs other) here ∙ (earlier ∙ ap (λ n. count_of (list_at before net) other + (if nat_eq other reader then n else 0)) (sym unchanged))
      where
        here : list_at (slice_set readers input new) net ≡ list_at readers net
        here =
            list_at-is (slice_set readers input new) net new in_set
            ∙ (ap (λ (v : Vec ℕ Global). v.items) (get_or-set_other readers input net new new other_net) ∙ sym (list_at-is readers net new in_readers))

        unchanged : count_of (take (k + 1) inputs) net ≡ count_of (take k inputs) net
        unchanged = let none = cond-false {A = ℕ} (nat_eq net input) 1 0 (ne_eqb net input other_net) in omega (arith, more, none)

-- the lists after one gate more
pub readers_more : (c : Circuit) (before after : List (Vec ℕ Global)) (gate : ℕ) → length before ≡ net_count c → HasReader before after gate (fanin c gate)
    → ((net reader : ℕ) → net < net_count c → count_of (list_at before net) reader ≡ (if nat_lt reader gate then count_of (fanin c reader) net else 0))
    → (net reader : ℕ) → net < net_count c → count_of (list_at after net) reader ≡ (if nat_lt reader (gate + 1) then count_of (fanin c reader) net else 0)
readers_more c before after gate long has counts net reader low =
    has net reader (omega (arith, low, long)) ∙ (ap (λ n. n + (if nat_eq reader gate then count_of (fanin c gate) net else 0)) (counts net reader low) ∙ by_place (cases_lt reader gate))
  where
    by_place : (reader < gate) ⊎ (gate ≤ reader) → (if nat_lt reader gate then count_of (fanin c reader) net else 0) + (if nat_eq reader gate then count_of (fanin c gate) net else 0) ≡ (if nat_lt reader (gate + 1) then count_of (fanin c reader) net else 0)
    by_place (inl before_gate) = rw (lt-ltb reader gate before_gate, lt-ltb reader (gate + 1) (omega arith), ne_eqb reader gate (λ e. omega arith)) (omega arith)
    by_place (inr from_gate) = ⊎_elim
        (λ e. rw (le-ltb reader gate from_gate, lt-ltb reader (gate + 1) (omega arith), eq-eqb reader gate e) (let same : count_of (fanin c gate) net ≡ count_of (fanin c reader) net = ap (λ n. count_of (fanin c n) net) (sym e) in omega (arith, same)))
        (λ past. rw (le-ltb reader gate from_gate, le-ltb reader (gate + 1) (omega arith), ne_eqb reader gate past) refl)
        (cases_eq reader gate)

-- a number past the nets has no gate
pub fanin-past : (c : Circuit) (net : ℕ) → net_count c ≤ net → fanin c net ≡ []
fanin-past c net past = rw (le-ltb net (input_count c) (omega arith)) (ap (λ o. option_map_or (λ gate. gate.inputs) o []) (slice_get_past c.gates (net - input_count c) (omega arith)))

pub readers_all : (c : Circuit) (readers : List (Vec ℕ Global)) (end : ℕ) → net_count c ≤ end
    → ((net reader : ℕ) → net < net_count c → count_of (list_at readers net) reader ≡ (if nat_lt reader end then count_of (fanin c reader) net else 0))
    → CountsReaders c readers
readers_all c readers end all counts net reader low = counts net reader low ∙ by_place (cases_lt reader end)
  where
    by_place : (reader < end) ⊎ (end ≤ reader) → (if nat_lt reader end then count_of (fanin c reader) net else 0) ≡ count_of (fanin c reader) net
    by_place (inl within) = cond-true (nat_lt reader end) (count_of (fanin c reader) net) 0 (lt-ltb reader end within)
    by_place (inr past) = cond-false (nat_lt reader end) (count_of (fanin c reader) net) 0 (le-ltb reader end past) ∙ ap (λ xs. count_of xs net) (sym (fanin-past c reader (omega arith)))

-- what a slice of a vector leaves in the vector
pub refilled : {X : Type 0} (new items : List X) (n : ℕ) → n ≡ length new → take n (new ++ drop (length new) items) ≡ new
refilled new items n same = rw same (take-append_seam new (drop (length new) items))

-- the list of a net has its readers
pub reader_counts : (c : Circuit) (readers : List (Vec ℕ Global)) (net : ℕ) (list : Vec ℕ Global) (nets : List ℕ) → CountsReaders c readers → length readers ≡ net_count c → net < net_count c → list ≡ get_or readers net list → nets ≡ list.items
    → (y : ℕ) → count_of nets y ≡ count_of (fanin c y) net
reader_counts c readers net list nets counts long low is same y =
    ap (λ xs. count_of xs y) (nets-list_at readers net list nets (omega (arith, low, long)) is same) ∙ counts net y low

pub zeros_at : (n i : ℕ) → get_or (replicate n false) i false ≡ false
zeros_at zero i = refl
zeros_at (suc n) zero = refl
zeros_at (suc n) (suc i) = zeros_at n i

pub filter_more : (p : ℕ → Bool) (xs : List ℕ) (i : ℕ) → i < length xs → filter p (take (i + 1) xs) ≡ filter p (take i xs) ++ (if p (get_or xs i 0) then get_or xs i 0 ∷ [] else [])
filter_more p xs i low = ap (filter p) (take_more xs i 0 low) ∙ filter-append p (take i xs) (get_or xs i 0 ∷ [])

-- a net that is counted is in the list
pub count_of-cons : (x : ℕ) (xs : List ℕ) (y : ℕ) → count_of (x ∷ xs) y ≡ cond (nat_eq y x) 1 0 + count_of xs y
count_of-cons x xs y = sum_by-cons (λ z. cond (nat_eq y z) 1 0) x xs

pub Contains-from_count : (xs : List ℕ) (y : ℕ) → 0 < count_of xs y → Contains xs y
Contains-from_count [] y some = absurd (omega arith)
Contains-from_count (x ∷ xs) y some = ⊎_elim
    (λ same. subst (λ z. Contains (x ∷ xs) z) (sym (eqb-true y x same)) (Contains-head x xs))
    (λ other.
    let none = cond-false {A = ℕ} (nat_eq y x) 1 0 other in
    let there : Contains xs y = Contains-from_count xs y (omega (arith, count_of-cons x xs y, none)) in
    (suc there.0, omega (arith, there.1), there.2))
    (cases_Bool (nat_eq y x))

pub count-from_Contains : (xs : List ℕ) (y : ℕ) → Contains xs y → 0 < count_of xs y
count-from_Contains [] y has = absurd (let low = has.1 in omega arith)
count-from_Contains (x ∷ xs) y has = ⊎_elim
    (λ same. let one = cond-true {A = ℕ} (nat_eq y x) 1 0 (eq-eqb y x (sym same)) in omega (arith, count_of-cons x xs y, one))
    (λ later. omega (arith, count_of-cons x xs y, count-from_Contains xs y later))
    (Contains-cases x xs y has)

pub count-from_among : (xs : List ℕ) (x : ℕ) → is_among xs x ≡ true → 0 < count_of xs x
count-from_among xs x found = count-from_Contains xs x (Contains-from_among xs x found)

pub among-from_count : (xs : List ℕ) (x : ℕ) → 0 < count_of xs x → is_among xs x ≡ true
among-from_count xs x some = among-from_Contains xs x (Contains-from_count xs x some)
