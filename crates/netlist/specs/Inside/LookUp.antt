-- A draft's names and calls, as they are looked up.
use Rattle.std.specs.Prelude.{◌≡◌, ℕ, ◌<◌, ◌^◌, min, Bool, not, List, ◌++◌, length, map, filter, Option, Some, None, is_some, string_bytes}
use Rattle.std.specs.List.{list_any}
use Rattle.std.specs.Option.{option_map_or}
use Rattle.circuits.specs.Circuit.{Circuit}
use Rattle.netlist.specs.Draft.{Draft}
use Rattle.netlist.specs.Finish.{circuit_by}
use Rattle.netlist.specs.Inside.Source.{source_net}
use Rattle.netlist.specs.declared.draft.DraftGate.{DraftGate}
use Rattle.netlist.specs.declared.draft.DraftOutput.{DraftOutput}
use Rattle.netlist.specs.declared.source.Source.{Source}

abbrev pub is_unknown : (List ℕ → Option Source) → List ℕ → Bool
is_unknown found name = not (is_some (found name))

-- the calls that name something that is not found
abbrev pub unknown_calls : (List ℕ → Option Source) → List DraftGate → List DraftOutput → List ℕ
unknown_calls found gates outputs =
    map (λ gate. gate.call) (filter (λ gate. list_any (λ input. is_unknown found (string_bytes input)) gate.inputs.items) gates)
    ++ map (λ output. output.call) (filter (λ output. is_unknown found (string_bytes output.name)) outputs)

-- the number of the net of a name, where there are so many inputs, and 0 where the name is not found
abbrev pub number_in : ℕ → (List ℕ → Option Source) → List ℕ → ℕ
number_in inputs found name = option_map_or (source_net inputs) (found name) 0

-- the circuit of a draft, by its look-up
abbrev pub circuit_in : Draft → (List ℕ → Option Source) → Circuit
circuit_in d found = circuit_by (number_in (length d.inputs) found) d

abbrev pub HasSmallNets : ℕ → (List ℕ → Option Source) → Type 0
HasSmallNets inputs found = (name : List ℕ) (source : Source) → found name ≡ Some source → source_net inputs source < 2 ^ 32

-- the lesser of two calls, where there are two
abbrev pub earliest : Option ℕ → Option ℕ → Option ℕ
earliest None o = o
earliest (Some x) o = Some (option_map_or (min x) o x)
