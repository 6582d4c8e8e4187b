-- What becomes of a draft: a circuit, or the first call that stands in its way.
use Rattle.std.specs.Prelude.{◌≡◌, ℕ, ◌-◌, min, Bool, not, List, [], ◌∷◌, ◌++◌, map, filter, Option, Some, None, unwrap_or, slice_get, codes, refl}
use Rattle.std.specs.List.{list_any}
use Rattle.std.specs.Option.{option_map, option_map_or, option_or}
use Rattle.circuits.specs.Circuit.{Circuit, Gate, gate_nets, input_count}
use Rattle.circuits.specs.Examples.{late}
use Rattle.circuits.specs.Cone.{reaches_itself}
use Rattle.netlist.specs.Draft.{Draft, GateLine, OutputLine, late_draft, draft_names, is_defined, nothing, with_input, with_gate, with_output}
use Rattle.netlist.specs.Fault.{fault}
use Rattle.circuits.specs.Names.{place_of}
use Rattle.netlist.specs.declared.fault.NetFault.{NetFault}
use Rattle.netlist.specs.declared.fault.NetCause.TheVariants.{UndefinedNet, Cycle}
use Rattle.circuits.specs.declared.gate_word.GateWord.TheVariants.{And}

-- with numbers in place of names
abbrev pub numbered_by : (List ℕ → ℕ) → GateLine → Gate
numbered_by number line = record { name = line.name; word = line.word; inputs = map number line.inputs }

abbrev pub circuit_by : (List ℕ → ℕ) → Draft → Circuit
circuit_by number d = record {
  inputs = d.inputs;
  gates = map (numbered_by number) d.gates;
  outputs = map (λ line. number line.name) d.outputs;
}

-- the number of a name's net, and 0 where there is none
abbrev pub number : Draft → List ℕ → ℕ
number d name = unwrap_or (place_of (draft_names d) name) 0

abbrev pub circuit_of : Draft → Circuit
circuit_of d = circuit_by (number d) d

abbrev pub least : List ℕ → Option ℕ
least [] = None
least (x ∷ xs) = Some (option_map_or (min x) (least xs) x)

-- the calls that name something that passes a test
abbrev pub calls_naming : (List ℕ → Bool) → List GateLine → List OutputLine → List ℕ
calls_naming test gates outputs =
    map (λ line. line.call) (filter (λ line. list_any test line.inputs) gates)
    ++ map (λ line. line.call) (filter (λ line. test line.name) outputs)

-- the calls that name a net which was not added
abbrev pub is_undefined : Draft → List ℕ → Bool
is_undefined d name = not (is_defined d name)

abbrev pub undefined_calls : Draft → List ℕ
undefined_calls d = calls_naming (is_undefined d) d.gates d.outputs

-- the call that added the gate of a net, where there are so many inputs
abbrev pub call_of : ℕ → List GateLine → ℕ → ℕ
call_of inputs lines net = option_map_or (λ line. line.call) (slice_get lines (net - inputs)) 0

-- the calls whose gates reach themselves
abbrev pub calls_on_cycles : Circuit → List GateLine → List ℕ
calls_on_cycles c lines = map (call_of (input_count c) lines) (filter (reaches_itself c) (gate_nets c))

abbrev pub cycle_calls : Draft → List ℕ
cycle_calls d = calls_on_cycles (circuit_of d) d.gates

abbrev pub undefined_fault : Draft → Option NetFault
undefined_fault d = option_map (λ at. fault at UndefinedNet) (least (undefined_calls d))

abbrev pub cycle_fault : Draft → Option NetFault
cycle_fault d = option_map (λ at. fault at Cycle) (least (cycle_calls d))

-- an undefined net comes before a cycle
abbrev pub finish_fault : Draft → Option NetFault
finish_fault d = option_or (undefined_fault d) (cycle_fault d)

late-finished : circuit_of late_draft ≡ late
late-finished = refl

late-no_fault : finish_fault late_draft ≡ None
late-no_fault = refl

-- x = AND(x, a) in the second call, and an output that is no net in the third
abbrev pub looped_draft : Draft
looped_draft = with_gate (with_input nothing (codes "a")) (codes "x") And (codes "x" ∷ codes "a" ∷ [])

looped-cycle : finish_fault looped_draft ≡ Some (fault 2 Cycle)
looped-cycle = refl

looped-undefined : finish_fault (with_output looped_draft (codes "y")) ≡ Some (fault 3 UndefinedNet)
looped-undefined = refl
