-- The least of the calls of some lines.
use Rattle.std.specs.Prelude.{◌≡◌, ℕ, zero, suc, ◌+◌, ◌-◌, Contains, min, Bool, true, false, List, [], ◌∷◌, ◌++◌, map, filter, slice_get, Option, Some, None, if◌then◌else◌, fold, string_bytes, refl}
use Rattle.std.specs.List.{list_any, range_with_len, reduce}
use Rattle.std.specs.Option.{option_map_or}
use Rattle.std.proofs.Common.{sym, ◌∙◌, ap, subst, ⊎_elim, arith, add-one}
use Rattle.std.proofs.lemmas.Bool.{cases_Bool, cond-true, cond-false}
use Rattle.circuits.proofs.Members.{Contains-nil, Contains-cases, Contains-head}
use Rattle.netlist.proofs.Vecs.{list_any-map}
use Rattle.netlist.specs.Draft.{GateLine, OutputLine}
use Rattle.netlist.specs.Inside.Maker.{gate_kept, output_kept}
use Rattle.netlist.specs.declared.draft.DraftGate.{DraftGate}
use Rattle.netlist.specs.declared.draft.DraftOutput.{DraftOutput}
use Rattle.netlist.specs.declared.source.Source.{Source}
use Rattle.std.proofs.lemmas.List.{map-append}
use Rattle.std.proofs.lemmas.List.Elements.{filter-append}
use Rattle.netlist.specs.Finish.{least, call_of, calls_naming}
use Rattle.netlist.specs.Inside.LookUp.{is_unknown, unknown_calls, earliest}

min-assoc : (x y z : ℕ) → min x (min y z) ≡ min (min x y) z
min-assoc x y z = omega arith

earliest-cons : (x : ℕ) (a b : Option ℕ) → Some (option_map_or (min x) (earliest a b) x) ≡ earliest (Some (option_map_or (min x) a x)) b
earliest-cons x None b = refl
earliest-cons x (Some y) None = refl
earliest-cons x (Some y) (Some z) = ap Some (min-assoc x y z)

pub least-append : (xs ys : List ℕ) → least (xs ++ ys) ≡ earliest (least xs) (least ys)
least-append [] ys = refl
least-append (x ∷ xs) ys = ap (λ o. Some (option_map_or (min x) o x)) (least-append xs ys) ∙ earliest-cons x (least xs) (least ys)

module _ {X Y : Type 0} (f : X → Y) (p : Y → Bool) (g : Y → ℕ) where
  one_call : (y : Y) (b : Bool) → p y ≡ b → least (map g (filter p (y ∷ []))) ≡ (if b then Some (g y) else None)
  one_call y b e = ap (λ c. least (map g (if c then y ∷ [] else []))) e ∙ by_cases b
    where
      by_cases : (b : Bool) → least (map g (if b then y ∷ [] else [])) ≡ (if b then Some (g y) else None)
      by_cases true = refl
      by_cases false = refl

module _ {Y : Type 0} (p : Y → Bool) (g : Y → ℕ) where
  one : (y : Y) (b : Bool) → p y ≡ b → least (map g (filter p (y ∷ []))) ≡ (if b then Some (g y) else None)
  one y b e = one_call (λ (z : Y). z) p g y b e

  pub one_more : (ys more : List Y) (y : Y) (b : Bool) → more ≡ ys ++ y ∷ [] → p y ≡ b → least (map g (filter p more)) ≡ earliest (least (map g (filter p ys))) (if b then Some (g y) else None)
  one_more ys more y b split passes =
      ap (λ zs. least (map g (filter p zs))) split
      ∙ (ap (λ zs. least (map g zs)) (filter-append p ys (y ∷ []))
      ∙ (ap least (map-append g (filter p ys) (filter p (y ∷ [])))
      ∙ (least-append (map g (filter p ys)) (map g (filter p (y ∷ [])))
      ∙ ap (earliest (least (map g (filter p ys)))) (one y b passes))))

  pub none_least : (ys : List Y) → least (map g (filter p ys)) ≡ None → (y : Y) → Contains ys y → p y ≡ false
  none_least [] none y has = absurd (Contains-nil y has)
  none_least (z ∷ ys) none y has = ⊎_elim
      (λ passes. let e : least (map g (z ∷ filter p ys)) ≡ None = sym (ap (λ zs. least (map g zs)) (cond-true (p z) (z ∷ filter p ys) (filter p ys) passes)) ∙ none in absurd cc)
      (λ fails. ⊎_elim
      (λ same. subst (λ x. p x ≡ false) same fails)
      (λ later. none_least ys (sym (ap (λ zs. least (map g zs)) (cond-false (p z) (z ∷ filter p ys) (filter p ys) fails)) ∙ none) y later)
      (Contains-cases z ys y has))
      (cases_Bool (p z))

  pub least-if_none : (ys : List Y) → ((y : Y) → Contains ys y → p y ≡ false) → least (map g (filter p ys)) ≡ None
  least-if_none [] none = refl
  least-if_none (y ∷ ys) none = ap (λ zs. least (map g zs)) (cond-false (p y) (y ∷ filter p ys) (filter p ys) (none y (Contains-head y ys))) ∙ least-if_none ys (λ z has. none z (suc has.0, omega (arith, has.1), has.2))

range-push : (a n : ℕ) → range_with_len a (n + 1) ≡ range_with_len a n ++ (a + n) ∷ []
range-push a n = ap (range_with_len a) (add-one n) ∙ by_count a n
  where
    by_count : (a n : ℕ) → range_with_len a (suc n) ≡ range_with_len a n ++ (a + n) ∷ []
    by_count a zero = let e : a ≡ a + 0 = omega arith in ap (λ x. x ∷ []) e
    by_count a (suc n) = let e : a + 1 + n ≡ a + suc n = omega arith in ap (λ xs. a ∷ xs) (by_count (a + 1) n ∙ ap (λ x. range_with_len (a + 1) n ++ x ∷ []) e)

-- one gate more
pub cycles_more : (p : ℕ → Bool) (inputs : ℕ) (lines : List GateLine) (place : ℕ) (line : GateLine) (b : Bool) → slice_get lines place ≡ Some line → p (inputs + place) ≡ b
    → least (map (call_of inputs lines) (filter p (range_with_len inputs (place + 1)))) ≡ earliest (least (map (call_of inputs lines) (filter p (range_with_len inputs place)))) (if b then Some line.call else None)
cycles_more p inputs lines place line b at passes =
    let back : inputs + place - inputs ≡ place = omega arith in
    let call : call_of inputs lines (inputs + place) ≡ line.call = ap (λ k. option_map_or (λ (l : GateLine). l.call) (slice_get lines k) 0) back ∙ ap (λ o. option_map_or (λ (l : GateLine). l.call) o 0) at in
    one_more p (call_of inputs lines) (range_with_len inputs place) (range_with_len inputs (place + 1)) (inputs + place) b (range-push inputs place) passes
    ∙ ap (λ n. earliest (least (map (call_of inputs lines) (filter p (range_with_len inputs place)))) (if b then Some n else None)) call

pub earliest-None : (a b : Option ℕ) → earliest a b ≡ None → (a ≡ None) × (b ≡ None)
earliest-None None b e = (refl, e)
earliest-None (Some x) b e = absurd cc

pub earliest-none : (o : Option ℕ) → earliest o None ≡ o
earliest-none None = refl
earliest-none (Some x) = refl

-- std's least of a list
pub reduce-least : (xs : List ℕ) → reduce min xs ≡ least xs
reduce-least [] = refl
reduce-least (x ∷ xs) = ap Some (from x xs)
  where
    from : (x : ℕ) (xs : List ℕ) → fold min x xs ≡ option_map_or (min x) (least xs) x
    from x [] = refl
    from x (y ∷ ys) = from (min x y) ys ∙ by_rest (least ys)
      where
        by_rest : (o : Option ℕ) → option_map_or (min (min x y)) o (min x y) ≡ min x (option_map_or (min y) o y)
        by_rest None = refl
        by_rest (Some z) = sym (min-assoc x y z)

-- what is kept of the elements that pass is what passes of what is kept of them
filter-kept : {X Y : Type 0} (f : X → Y) (p : Y → Bool) (g : Y → ℕ) (xs : List X) → map (λ x. g (f x)) (filter (λ x. p (f x)) xs) ≡ map g (filter p (map f xs))
filter-kept f p g [] = refl
filter-kept f p g (x ∷ xs) = by_head (p (f x)) (filter-kept f p g xs)
  where
    by_head : (b : Bool) → map (λ x. g (f x)) (filter (λ x. p (f x)) xs) ≡ map g (filter p (map f xs))
        → map (λ x. g (f x)) (if b then x ∷ filter (λ x. p (f x)) xs else filter (λ x. p (f x)) xs) ≡ map g (if b then f x ∷ filter p (map f xs) else filter p (map f xs))
    by_head true rest = ap (λ ys. g (f x) ∷ ys) rest
    by_head false rest = rest

-- what the code looks for is the least call of those that name something unknown
pub unknown-least : (found : List ℕ → Option Source) (gates : List DraftGate) (outputs : List DraftOutput)
    → reduce min (unknown_calls found gates outputs) ≡ least (calls_naming (is_unknown found) (map gate_kept gates) (map output_kept outputs))
unknown-least found gates outputs =
    reduce-least (unknown_calls found gates outputs)
    ∙ (ap (λ xs. least (xs ++ map (λ (output : DraftOutput). output.call) (filter (λ output. is_unknown found (string_bytes output.name)) outputs))) of_gates
    ∙ ap (λ xs. least (map (λ (line : GateLine). line.call) (filter (λ line. list_any (is_unknown found) line.inputs) (map gate_kept gates)) ++ xs)) of_outputs)
  where
    reads : ◌≡◌ {A = DraftGate → Bool} (λ gate. list_any (λ input. is_unknown found (string_bytes input)) gate.inputs.items) (λ gate. list_any (is_unknown found) (map string_bytes gate.inputs.items))
    reads = λ i. λ gate. list_any-map (is_unknown found) string_bytes gate.inputs.items i

    of_gates : map (λ (gate : DraftGate). gate.call) (filter (λ gate. list_any (λ input. is_unknown found (string_bytes input)) gate.inputs.items) gates)
        ≡ map (λ (line : GateLine). line.call) (filter (λ line. list_any (is_unknown found) line.inputs) (map gate_kept gates))
    of_gates =
        ap (λ p. map (λ (gate : DraftGate). gate.call) (filter p gates)) reads
        ∙ filter-kept gate_kept (λ (line : GateLine). list_any (is_unknown found) line.inputs) (λ (line : GateLine). line.call) gates

    of_outputs : map (λ (output : DraftOutput). output.call) (filter (λ output. is_unknown found (string_bytes output.name)) outputs)
        ≡ map (λ (line : OutputLine). line.call) (filter (λ line. is_unknown found line.name) (map output_kept outputs))
    of_outputs = filter-kept output_kept (λ (line : OutputLine). is_unknown found line.name) (λ (line : OutputLine). line.call) outputs
