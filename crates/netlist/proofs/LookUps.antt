-- What a draft without a fault becomes.
use Rattle.std.specs.Prelude.{◌≡◌, ℕ, suc, ◌-◌, ◌<◌, Bool, false, not, List, [], ◌∷◌, ◌++◌, length, map, filter, get_or, slice_get, Option, Some, None, is_some, unwrap_or, Contains, All, refl}
use Rattle.std.specs.List.{list_any, IsDistinct}
use Rattle.std.specs.Option.{option_map, option_map_or, option_or}
use Rattle.std.specs.Str.{bytes_eq}
use Rattle.std.proofs.Common.{sym, ◌∙◌, ap, subst, ⊎_elim, arith, length-append}
use Rattle.std.proofs.lemmas.Bool.{cases_lt, both_ways, false_from_ne_true, not-false}
use Rattle.std.proofs.lemmas.List.{length-map, get_or_append_left, get_or-append_right}
use Rattle.std.proofs.lemmas.List.Elements.{All-map, All-weaker, Contains-get_or}
use Rattle.std.proofs.lemmas.Map.Keys.{IsDistinct-from_apart, any_passes_from_place}
use Rattle.std.proofs.lemmas.Option.{slice_get-get_or, get_or_from_slice_get, slice_get-map, slice_get_cases}
use Rattle.netlist.proofs.LeastCalls.{least-append, none_least, earliest-None}
use Rattle.circuits.proofs.Gates.{IsGate-from_input, gate_of-at}
use Rattle.circuits.proofs.Members.{Contains-head, Contains-cases}
use Rattle.netlist.proofs.Makers.{is_some-is_defined}
use Rattle.netlist.proofs.Sources.{same-from_bytes_eq, place_of-found, found-within}
use Rattle.circuits.specs.Circuit.{Gate, IsGate, net_count, gate_of}
use Rattle.netlist.specs.Draft.{Draft, GateLine, OutputLine, draft_names, is_defined}
use Rattle.netlist.specs.Finish.{number, circuit_of, least, is_undefined, undefined_calls, undefined_fault, cycle_fault, finish_fault, numbered_by, circuit_by, calls_naming}
use Rattle.netlist.specs.Fault.{fault}
use Rattle.netlist.specs.declared.fault.NetCause.TheVariants.{UndefinedNet}
use Rattle.netlist.specs.Inside.LookUp.{is_unknown, number_in, circuit_in, HasSmallNets}
use Rattle.circuits.specs.Limits.{AcceptsArity, IsSizedGate}
use Rattle.netlist.specs.Inside.Maker.{IsKept, IsSizedLine}
use Rattle.circuits.specs.Sound.{IsSound}
use Rattle.circuits.specs.Order.{IsInput}
use Rattle.netlist.specs.Inside.Source.{name_at, source_net, FindsNames}
use Rattle.netlist.specs.declared.source.Source.{Source}
use Rattle.netlist.specs.declared.source.Source.TheVariants.{Input, Gate as At_gate}

Contains-map : {X Y : Type 0} (f : X → Y) (xs : List X) (y : Y) → Contains (map f xs) y → (x : X) × Contains xs x × (f x ≡ y)
Contains-map f [] y has = absurd (let low = has.1 in omega arith)
Contains-map f (x ∷ xs) y has = ⊎_elim
    (λ same. (x, Contains-head x xs, same))
    (λ later. let there = Contains-map f xs y later in (there.0, (suc there.1.0, omega (arith, there.1.1), there.1.2), there.2))
    (Contains-cases (f x) (map f xs) y has)

module _ (d : Draft) (found : List ℕ → Option Source) (is_named : List ℕ → Bool) (kept : IsKept d found is_named) where
  gate_names : List (List ℕ)
  gate_names = map (λ (line : GateLine). line.name) d.gates

  SourceAt : ℕ → List ℕ → Type 0
  SourceAt k e = (source : Source) × (source_net (length d.inputs) source ≡ k) × (name_at d.inputs gate_names source ≡ Some (get_or (draft_names d) k e))

  source_at : (k : ℕ) (e : List ℕ) → k < length (draft_names d) → SourceAt k e
  unfolding gate_names SourceAt
  source_at k e low = ⊎_elim
      (λ input. (Input k, refl, slice_get-get_or d.inputs k e input ∙ ap Some (sym (get_or_append_left d.inputs (map (λ (line : GateLine). line.name) d.gates) e k input))))
      (λ past.
      let within : k - length d.inputs < length (map (λ (line : GateLine). line.name) d.gates) = omega (arith, low, past, length-append d.inputs (map (λ (line : GateLine). line.name) d.gates)) in
      (At_gate (k - length d.inputs), omega (arith, past), slice_get-get_or (map (λ (line : GateLine). line.name) d.gates) (k - length d.inputs) e within ∙ ap Some (sym (get_or-append_right d.inputs (map (λ (line : GateLine). line.name) d.gates) (length d.inputs) k e refl past))))
      (cases_lt k (length d.inputs))

  -- no name is given twice
  pub distinct : IsDistinct bytes_eq (draft_names d)
  unfolding gate_names SourceAt
  distinct = IsDistinct-from_apart bytes_eq (draft_names d) (λ i j e low within. false_from_ne_true (bytes_eq (get_or (draft_names d) i e) (get_or (draft_names d) j e)) (λ same.
      let a = source_at i e (omega (arith, low, within)) in
      let b = source_at j e within in
      let name : get_or (draft_names d) i e ≡ get_or (draft_names d) j e = same-from_bytes_eq _ _ same in
      let found_a : found (get_or (draft_names d) i e) ≡ Some a.0 = (kept.sources (get_or (draft_names d) i e) a.0).1 a.2 in
      let found_b : found (get_or (draft_names d) j e) ≡ Some b.0 = (kept.sources (get_or (draft_names d) j e) b.0).1 b.2 in
      let sources : a.0 ≡ b.0 = let s : Some a.0 ≡ Some b.0 = sym found_a ∙ (ap found name ∙ found_b) in cc in
      let places : i ≡ j = sym a.1 ∙ (ap (source_net (length d.inputs)) sources ∙ b.1) in
      omega (arith, low, places)))

  -- the code's tests and numbers are those of the draft
  pub unknown_is : is_unknown found ≡ is_undefined d
  unknown_is = λ i. λ name. not (is_some-is_defined d found is_named kept name i)

  number_at : (name : List ℕ) → number_in (length d.inputs) found name ≡ number d name
  unfolding gate_names
  number_at name = either (found name) ∙ ap (λ o. unwrap_or o 0) (sym (place_of-found d.inputs gate_names found kept.sources distinct name (found name) refl))
    where
      either : (o : Option Source) → option_map_or (source_net (length d.inputs)) o 0 ≡ unwrap_or (option_map (source_net (length d.inputs)) o) 0
      either None = refl
      either (Some s) = refl

  pub number_is : number_in (length d.inputs) found ≡ number d
  number_is = λ i. λ name. number_at name i

  pub circuit_is : circuit_in d found ≡ circuit_of d
  circuit_is = ap (λ f. circuit_by f d) number_is

  -- the numbers are small
  pub small_nets : HasSmallNets (length d.inputs) found
  unfolding gate_names
  small_nets name s is =
      let low = found-within d.inputs gate_names found kept.sources distinct name s is in
      omega (arith, low, kept.inputs, kept.gates, length-map d.gates (λ (line : GateLine). line.name))

  pub sources-kept : FindsNames (circuit_of d).inputs (map (λ gate. gate.name) (circuit_of d).gates) found
  sources-kept = subst (λ names. FindsNames d.inputs names found) (sym (names-kept d.gates)) kept.sources
    where
      names-kept : (lines : List GateLine) → map (λ (gate : Gate). gate.name) (map (numbered_by (number d)) lines) ≡ map (λ (line : GateLine). line.name) lines
      names-kept [] = refl
      names-kept (line ∷ lines) = ap (λ names. line.name ∷ names) (names-kept lines)

  pub undefined_is : least (calls_naming (is_unknown found) d.gates d.outputs) ≡ least (undefined_calls d)
  undefined_is = ap (λ test. least (calls_naming test d.gates d.outputs)) unknown_is

  number_within : (name : List ℕ) → is_undefined d name ≡ false → number d name < net_count (circuit_of d)
  unfolding gate_names
  number_within name known = by_source (found name) refl
    where
      by_source : (o : Option Source) → found name ≡ o → number d name < net_count (circuit_of d)
      by_source (Some s) is =
          let low = found-within d.inputs gate_names found kept.sources distinct name s is in
          let same : number d name ≡ source_net (length d.inputs) s = sym (number_at name) ∙ ap (λ o. option_map_or (source_net (length d.inputs)) o 0) is in
          omega (arith, low, same, length-map d.gates (λ (line : GateLine). line.name), length-map d.gates (numbered_by (number d)))
      by_source None is = absurd (both_ways (is_defined d name) (sym (is_some-is_defined d found is_named kept name) ∙ ap is_some is) (not-false (is_defined d name) known))

  module _ (none : least (undefined_calls d) ≡ None) where
    parts : (least (map (λ (line : GateLine). line.call) (filter (λ line. list_any (is_undefined d) line.inputs) d.gates)) ≡ None) × (least (map (λ (line : OutputLine). line.call) (filter (λ line. is_undefined d line.name) d.outputs)) ≡ None)
    parts = earliest-None _ _ (sym (least-append (map (λ line. line.call) (filter (λ line. list_any (is_undefined d) line.inputs) d.gates)) (map (λ line. line.call) (filter (λ line. is_undefined d line.name) d.outputs))) ∙ none)

    line_is_defined : (line : GateLine) → Contains d.gates line → (name : List ℕ) → Contains line.inputs name → is_undefined d name ≡ false
    line_is_defined line has name reads = false_from_ne_true (is_undefined d name) (λ undefined.
        both_ways _ (none_least (λ (line : GateLine). list_any (is_undefined d) line.inputs) (λ line. line.call) d.gates parts.0 line has)
        (any_passes_from_place (is_undefined d) line.inputs reads.0 name (slice_get-get_or line.inputs reads.0 name reads.1 ∙ ap Some reads.2) undefined))

    reads : (net input : ℕ) → IsInput (circuit_of d) net input → input < net_count (circuit_of d)
    reads net input is =
        let gate : IsGate (circuit_of d) net = IsGate-from_input (circuit_of d) net input is in
        let within : net - length d.inputs < length d.gates = omega (arith, gate.0, gate.1, length-map d.gates (numbered_by (number d))) in
        by_line (slice_get d.gates (net - length d.inputs)) refl gate within
      where
        by_line : (o : Option GateLine) → slice_get d.gates (net - length d.inputs) ≡ o → IsGate (circuit_of d) net → net - length d.inputs < length d.gates → input < net_count (circuit_of d)
        by_line None e gate within = ⊎_elim (λ some. absurd (let f = some.2 in cc)) (λ past. absurd (omega (arith, within, past.0))) (slice_get_cases d.gates (net - length d.inputs)).1
        by_line (Some line) e gate within =
            let at : gate_of (circuit_of d) net ≡ Some (numbered_by (number d) line) = gate_of-at (circuit_of d) net gate.0 ∙ (slice_get-map (numbered_by (number d)) d.gates (net - length d.inputs) ∙ ap (λ o. option_map (numbered_by (number d)) o) e) in
            let has : Contains (map (number d) line.inputs) input = subst (λ o. Contains (option_map_or (λ (g : Gate). g.inputs) o []) input) at is in
            let from = Contains-map (number d) line.inputs input has in
            let in_gates : Contains d.gates line = (net - length d.inputs, within, get_or_from_slice_get d.gates (net - length d.inputs) line line e) in
            subst (λ n. n < net_count (circuit_of d)) from.2 (number_within from.0 (line_is_defined line in_gates from.0 from.1))

    pub circuit-sound : IsSound (circuit_of d)
    circuit-sound = record {
      limits = record {
        inputs = kept.inputs;
        gates = omega (arith, kept.gates, length-map d.gates (numbered_by (number d)));
        each_input = kept.each_input;
        each_gate = All-map IsSizedGate (numbered_by (number d)) d.gates (All-weaker IsSizedLine (λ line. IsSizedGate (numbered_by (number d) line)) (λ line sized. sized_gate line sized) d.gates kept.each_gate);
      };
      names = subst (λ names. IsDistinct bytes_eq (d.inputs ++ names)) (sym (names-same d.gates)) distinct;
      inputs = reads;
      outputs = All-map (λ n. n < net_count (circuit_of d)) (λ (line : OutputLine). number d line.name) d.outputs (All-from_contains d.outputs (λ line has. number_within line.name (none_least (λ (line : OutputLine). is_undefined d line.name) (λ line. line.call) d.outputs parts.1 line has)));
    }
      where
        sized_gate : (line : GateLine) → IsSizedLine line → IsSizedGate (numbered_by (number d) line)
        sized_gate line sized = record {
          name = sized.name;
          arity = subst (λ n. AcceptsArity line.word n) (sym (length-map line.inputs (number d))) sized.arity;
          fanin = omega (arith, sized.fanin, length-map line.inputs (number d));
        }

        names-same : (lines : List GateLine) → map (λ (gate : Gate). gate.name) (map (numbered_by (number d)) lines) ≡ map (λ (line : GateLine). line.name) lines
        names-same [] = refl
        names-same (line ∷ lines) = ap (λ names. line.name ∷ names) (names-same lines)

        All-from_contains : {X : Type 0} {P : X → Type 0} (xs : List X) → ((x : X) → Contains xs x → P x) → All P xs
        All-from_contains xs each = λ k e low. each (get_or xs k e) (Contains-get_or xs k e low)

pub finish_fault-undefined : (d : Draft) (at : ℕ) → least (undefined_calls d) ≡ Some at → finish_fault d ≡ Some (fault at UndefinedNet)
finish_fault-undefined d at e = ap (λ o. option_or (option_map (λ call. fault call UndefinedNet) o) (cycle_fault d)) e

pub finish_fault-defined : (d : Draft) → least (undefined_calls d) ≡ None → finish_fault d ≡ cycle_fault d
finish_fault-defined d e = ap (λ o. option_or (option_map (λ call. fault call UndefinedNet) o) (cycle_fault d)) e

pub undefined_fault-none : (d : Draft) → least (undefined_calls d) ≡ None → undefined_fault d ≡ None
undefined_fault-none d e = ap (λ o. option_map (λ call. fault call UndefinedNet) o) e
