-- What a maker keeps, after each call.
use Rattle.std.specs.Prelude.{◌≡◌, ℕ, ◌+◌, ◌-◌, ◌^◌, min, String, ◌<◌, Bool, true, false, ◌||◌, List, [], ◌∷◌, ◌++◌, length, map, Option, Some, None, nat_lt, nat_le, is_some, if◌then◌else◌, refl}
use Rattle.std.specs.List.{list_any}
use Rattle.std.specs.Str.{bytes_eq}
use Rattle.std.proofs.Common.{sym, ◌∙◌, ap, subst, arith}
use Rattle.std.proofs.lemmas.Bool.{or_parts, ltb-false, leb-false}
use Rattle.std.proofs.lemmas.List.{length_push, length-map, map_push}
use Rattle.std.proofs.lemmas.List.Elements.{All-push}
use Rattle.std.proofs.lemmas.List.Folds.{list_any-append}
use Rattle.netlist.proofs.Sources.{is_some-found, FindsNames-input, FindsNames-gate, bytes_eq-flips}
use Rattle.netlist.specs.Draft.{Draft, GateLine, OutputLine, is_defined, is_output, output_line, with_input, with_gate, input_is_too_large, gate_is_too_large, net_fault, input_fault, gate_fault, next_call, gate_line}
use Rattle.circuits.specs.Limits.{AcceptsArity, IsShort, is_long}
use Rattle.circuits.specs.declared.limits.TheConstants.{MOST_INPUTS, MOST_GATES, MOST_FANIN}
use Rattle.netlist.specs.Inside.Maker.{IsKept, IsSizedLine, drafted, gate_kept}
use Rattle.netlist.specs.declared.draft.DraftGate.{DraftGate}
use Rattle.netlist.specs.declared.draft.DraftOutput.{DraftOutput}
use Rattle.std.specs.declared.alloc.Global.{Global}
use Rattle.netlist.specs.Inside.Source.{FindsNames, FindsOneMore}
use Rattle.netlist.specs.declared.fault.NetFault.{NetFault}
use Rattle.circuits.specs.declared.gate_word.GateWord.{GateWord}
use Rattle.netlist.specs.declared.source.Source.{Source}
use Rattle.netlist.specs.declared.source.Source.TheVariants.{Input, Gate}

pub sized-from_net_fault : (call : ℕ) (is_too_large is_taken : Bool) → net_fault call is_too_large is_taken ≡ None → is_too_large ≡ false
sized-from_net_fault call true is_taken none = absurd cc
sized-from_net_fault call false is_taken none = refl

pub new-from_net_fault : (call : ℕ) (is_too_large is_taken : Bool) → net_fault call is_too_large is_taken ≡ None → is_taken ≡ false
new-from_net_fault call true is_taken none = absurd cc
new-from_net_fault call false true none = absurd cc
new-from_net_fault call false false none = refl

none-from_is_some : {X : Type 0} (o : Option X) → is_some o ≡ false → o ≡ None
none-from_is_some None h = refl
none-from_is_some (Some x) h = absurd cc

module _ (d : Draft) (found : List ℕ → Option Source) (is_named : List ℕ → Bool) (kept : IsKept d found is_named) where
  -- the look-up tells which names are defined
  pub is_some-is_defined : (name : List ℕ) → is_some (found name) ≡ is_defined d name
  is_some-is_defined name = is_some-found d.inputs (map (λ line. line.name) d.gates) found kept.sources name

  -- what the code computes is the fault of the call
  pub input_fault-is : (call n : ℕ) (o : Option NetFault) (is_too_large is_taken : Bool) (name : List ℕ) → o ≡ net_fault call is_too_large is_taken → call ≡ next_call d → is_too_large ≡ (is_long name || nat_le MOST_INPUTS n) → n ≡ length d.inputs → is_taken ≡ is_some (found name) → o ≡ input_fault d name
  input_fault-is call n o is_too_large is_taken name is same_call large same_n taken =
      is ∙ (rw (same_call, large, same_n, taken, is_some-is_defined name) refl)

  pub gate_fault-is : (call n : ℕ) (o : Option NetFault) (is_too_large is_taken : Bool) (name : List ℕ) (inputs : List (List ℕ)) (any : Bool) (m : ℕ) → o ≡ net_fault call is_too_large is_taken → call ≡ next_call d → is_too_large ≡ (is_long name || any || nat_lt MOST_FANIN m || nat_le MOST_GATES n) → any ≡ list_any is_long inputs → m ≡ length inputs → n ≡ length d.gates → is_taken ≡ is_some (found name) → o ≡ gate_fault d name inputs
  gate_fault-is call n o is_too_large is_taken name inputs any m is same_call large same_any same_m same_n taken =
      is ∙ (rw (same_call, large, same_any, same_m, same_n, taken, is_some-is_defined name) refl)

  not_found : (call : ℕ) (is_too_large : Bool) (name : List ℕ) → net_fault call is_too_large (is_defined d name) ≡ None → found name ≡ None
  not_found call is_too_large name none = none-from_is_some (found name) (is_some-is_defined name ∙ new-from_net_fault call is_too_large (is_defined d name) none)

  -- an input more
  pub IsKept-input : (name : List ℕ) (found' : List ℕ → Option Source) (d' : Draft) → d' ≡ with_input d name → input_fault d name ≡ None → (n : ℕ) → n ≡ length d.inputs → FindsOneMore found name (Input n) found' → IsKept d' found' is_named
  IsKept-input name found' d' is none n same_n more = subst (λ e. IsKept e found' is_named) (sym is) there
    where
      sized : (is_long name ≡ false) × (nat_le MOST_INPUTS (length d.inputs) ≡ false)
      sized = or_parts _ _ (sized-from_net_fault (next_call d) (input_is_too_large d name) (is_defined d name) none)

      room : length d.inputs < MOST_INPUTS
      room = leb-false MOST_INPUTS (length d.inputs) sized.1

      there : IsKept (with_input d name) found' is_named
      there = record {
        inputs = omega (arith, room, length_push d.inputs name);
        gates = kept.gates;
        each_input = All-push IsShort d.inputs name kept.each_input sized.0;
        each_gate = kept.each_gate;
        sources = FindsNames-input d.inputs (map (λ line. line.name) d.gates) found found' name kept.sources (not_found (next_call d) (input_is_too_large d name) name none) (subst (λ m. FindsOneMore found name (Input m) found') same_n more);
        outputs = kept.outputs;
      }

  -- a gate more
  pub IsKept-gate : (name : List ℕ) (word : GateWord) (inputs : List (List ℕ)) (found' : List ℕ → Option Source) (d' : Draft) → AcceptsArity word (length inputs) → d' ≡ with_gate d name word inputs → gate_fault d name inputs ≡ None → (n : ℕ) → n ≡ length d.gates → FindsOneMore found name (Gate n) found' → IsKept d' found' is_named
  IsKept-gate name word inputs found' d' arity is none n same_n more = subst (λ e. IsKept e found' is_named) (sym is) there
    where
      line : GateLine
      line = gate_line (next_call d) name word inputs

      names : List (List ℕ)
      names = map (λ (line : GateLine). line.name) d.gates

      all_sized : (gate_is_too_large d name inputs ≡ false)
      all_sized = sized-from_net_fault (next_call d) (gate_is_too_large d name inputs) (is_defined d name) none

      before_gates : ((is_long name || list_any is_long inputs || nat_lt MOST_FANIN (length inputs)) ≡ false) × (nat_le MOST_GATES (length d.gates) ≡ false)
      before_gates = or_parts _ _ all_sized

      before_fanin : ((is_long name || list_any is_long inputs) ≡ false) × (nat_lt MOST_FANIN (length inputs) ≡ false)
      before_fanin = or_parts _ _ before_gates.0

      short : is_long name ≡ false
      short = (or_parts _ _ before_fanin.0).0

      room : length d.gates < MOST_GATES
      room = leb-false MOST_GATES (length d.gates) before_gates.1

      sized : IsSizedLine line
      sized = record {
        name = short;
        arity = arity;
        fanin = ltb-false MOST_FANIN (length inputs) before_fanin.1;
      }

      finds : FindsNames d.inputs (names ++ name ∷ []) found'
      finds = FindsNames-gate d.inputs names found found' name kept.sources (not_found (next_call d) (gate_is_too_large d name inputs) name none)
          (subst (λ n. FindsOneMore found name (Gate n) found') (same_n ∙ sym (length-map d.gates (λ (line : GateLine). line.name))) more)

      there : IsKept (with_gate d name word inputs) found' is_named
      there = record {
        inputs = kept.inputs;
        gates = omega (arith, room, length_push d.gates line);
        each_input = kept.each_input;
        each_gate = All-push IsSizedLine d.gates line kept.each_gate sized;
        sources = subst (λ more_names. FindsNames d.inputs more_names found') (sym (map_push (λ (line : GateLine). line.name) d.gates line)) finds;
        outputs = kept.outputs;
      }

  -- an output more
  pub IsKept-output : (name : List ℕ) (is_named' : List ℕ → Bool) (d' : Draft) → d' ≡ record d { calls = next_call d; outputs = d.outputs ++ output_line (next_call d) name ∷ [] } → ((other : List ℕ) → is_named' other ≡ (if bytes_eq name other then true else is_named other)) → IsKept d' found is_named'
  IsKept-output name is_named' d' is more = subst (λ e. IsKept e found is_named') (sym is) there
    where
      line : OutputLine
      line = output_line (next_call d) name

      outputs : (other : List ℕ) → is_named' other ≡ list_any (λ (line : OutputLine). bytes_eq other line.name) (d.outputs ++ line ∷ [])
      outputs other =
          more other
          ∙ (ap (λ b. if bytes_eq name other then true else b) (kept.outputs other)
          ∙ (by_test (bytes_eq name other) (bytes_eq other name) (is_output d other) (bytes_eq-flips name other)
          ∙ sym (list_any-append (λ (line : OutputLine). bytes_eq other line.name) d.outputs (line ∷ []))))
        where
          by_test : (b c any : Bool) → b ≡ c → (if b then true else any) ≡ (any || (c || false))
          by_test true true true e = refl
          by_test true true false e = refl
          by_test true false any e = absurd cc
          by_test false true any e = absurd cc
          by_test false false true e = refl
          by_test false false false e = refl

      there : IsKept (record d { calls = next_call d; outputs = d.outputs ++ line ∷ [] }) found is_named'
      there = record {
        inputs = kept.inputs;
        gates = kept.gates;
        each_input = kept.each_input;
        each_gate = kept.each_gate;
        sources = kept.sources;
        outputs = outputs;
      }

-- the fields after a gate more
pub drafted-gate : (calls call : ℕ) (inputs : List (String Global)) (gates gates' : List DraftGate) (outputs : List DraftOutput) (gate : DraftGate) (name : List ℕ) (word : GateWord) (names : List (List ℕ)) → call ≡ min (calls + 1) (2 ^ 32 - 1) → gates' ≡ gates ++ gate ∷ [] → gate_kept gate ≡ gate_line call name word names → drafted call inputs gates' outputs ≡ with_gate (drafted calls inputs gates outputs) name word names
drafted-gate calls call inputs gates gates' outputs gate name word names next more kept =
    let e : map gate_kept gates' ≡ map gate_kept gates ++ gate_line (min (calls + 1) (2 ^ 32 - 1)) name word names ∷ [] =
    ap (map gate_kept) more ∙ (map_push gate_kept gates gate ∙ (ap (λ line. map gate_kept gates ++ line ∷ []) kept ∙ ap (λ n. map gate_kept gates ++ gate_line n name word names ∷ []) next))
    in
    cc
