-- What lines say, and the circuit of all that they say.
use Rattle.std.specs.Prelude.{◌≡◌, ℕ, List, [], ◌∷◌, ◌++◌, map, fold, filter_map, position, Option, Some, None, unwrap_or, option_map, codes, bytes_eq, if◌then◌else◌, refl}
use Rattle.std.specs.List.{list_any}
use Rattle.circuits.specs.Circuit.{Circuit, Gate}
use Rattle.circuits.specs.Examples.{half, late}
use Rattle.circuits.specs.declared.gate_word.GateWord.{GateWord}
use Rattle.circuits.specs.declared.gate_word.GateWord.TheVariants.{And, Not, Xor}
use Rattle.bench_reader.specs.Forms.{Form, empty, input, output, gate, no_form, form_of}
use Rattle.bench_reader.specs.Words.{gate_word}

-- a net is an input; a net is an output; a net is that of a gate with this word and inputs of these names
pub data Statement : Type 0 where
  says_input : List ℕ → Statement
  says_output : List ℕ → Statement
  says_gate : List ℕ → GateWord → List (List ℕ) → Statement

-- what a line of this form says, if anything
abbrev pub statement : Form → Option Statement
statement empty = None
statement (input net) = Some (says_input net)
statement (output net) = Some (says_output net)
statement (gate net word inputs) = option_map (λ w. says_gate net w inputs) (gate_word word)
statement no_form = None

abbrev pub said_by : List ℕ → Option Statement
said_by line = statement (form_of line)

-- what these lines say, in order
abbrev pub said : List (List ℕ) → List Statement
said text = filter_map said_by text

abbrev pub input_name : Statement → Option (List ℕ)
input_name (says_input net) = Some net
input_name (says_output net) = None
input_name (says_gate net word inputs) = None

abbrev pub gate_name : Statement → Option (List ℕ)
gate_name (says_input net) = None
gate_name (says_output net) = None
gate_name (says_gate net word inputs) = Some net

abbrev pub output_name : Statement → Option (List ℕ)
output_name (says_input net) = None
output_name (says_output net) = Some net
output_name (says_gate net word inputs) = None

-- the names of the nets: the inputs in order, and then the gates in order
abbrev pub nets : List Statement → List (List ℕ)
nets all = filter_map input_name all ++ filter_map gate_name all

-- the number of a net, and 0 for a name that is not among them
abbrev pub number : List (List ℕ) → List ℕ → ℕ
number names net = unwrap_or (position (bytes_eq net) names) 0

abbrev pub with_name : List (List ℕ) → List ℕ → List (List ℕ)
with_name names name = if list_any (bytes_eq name) names then names else names ++ name ∷ []

-- the names of the outputs, each at its first place
abbrev pub outputs : List Statement → List (List ℕ)
outputs all = fold with_name [] (filter_map output_name all)

-- with its inputs by number
abbrev pub numbered : List (List ℕ) → Statement → Option Gate
numbered names (says_input net) = None
numbered names (says_output net) = None
numbered names (says_gate net word inputs) = Some (record { name = net; word = word; inputs = map (number names) inputs })

abbrev pub circuit : List Statement → Circuit
circuit all = record {
  inputs = filter_map input_name all;
  gates = filter_map (numbered (nets all)) all;
  outputs = map (number (nets all)) (outputs all);
}

half_adder : circuit
    (says_input (codes "a")
    ∷ says_input (codes "b")
    ∷ says_output (codes "s")
    ∷ says_output (codes "c")
    ∷ says_output (codes "s")
    ∷ says_gate (codes "s") Xor (codes "a" ∷ codes "b" ∷ [])
    ∷ says_gate (codes "c") And (codes "a" ∷ codes "b" ∷ [])
    ∷ []) ≡ half
half_adder = refl

-- a net that is named before it is defined
named_before : circuit
    (says_output (codes "z")
    ∷ says_gate (codes "z") And (codes "y" ∷ codes "a" ∷ [])
    ∷ says_gate (codes "y") Not (codes "a" ∷ [])
    ∷ says_input (codes "a")
    ∷ []) ≡ late
named_before = refl
