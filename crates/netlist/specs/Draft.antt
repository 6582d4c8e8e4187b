-- A netlist that is being made: what was added, in order.
use Rattle.std.specs.Prelude.{◌≡◌, ℕ, ◌+◌, ◌-◌, ◌^◌, min, Bool, ◌||◌, List, [], ◌∷◌, ◌++◌, length, map, nat_lt, nat_le, Option, Some, None, if◌then◌else◌, codes, replicate, refl}
use Rattle.std.specs.List.{list_any}
use Rattle.std.specs.Str.{bytes_eq}
use Rattle.netlist.specs.Fault.{fault}
use Rattle.circuits.specs.Limits.{is_long}
use Rattle.circuits.specs.declared.limits.TheConstants.{MOST_INPUTS, MOST_GATES, MOST_FANIN}
use Rattle.netlist.specs.declared.fault.NetFault.{NetFault}
use Rattle.netlist.specs.declared.fault.NetCause.TheVariants.{DuplicateNet, TooLarge}
use Rattle.circuits.specs.declared.gate_word.GateWord.{GateWord}
use Rattle.circuits.specs.declared.gate_word.GateWord.TheVariants.{And, Not}

-- a gate: the number of the call that added it, its name, what it computes, and the names of its inputs
pub record GateLine : Type 0 where
  pub call : ℕ
  pub name : List ℕ
  pub word : GateWord
  pub inputs : List (List ℕ)

-- an output: the number of the first call that named it, and its name
pub record OutputLine : Type 0 where
  pub call : ℕ
  pub name : List ℕ

-- how many add calls there were, also those that were refused, and what the others added
pub record Draft : Type 0 where
  pub calls : ℕ
  pub inputs : List (List ℕ)
  pub gates : List GateLine
  pub outputs : List OutputLine

abbrev pub nothing : Draft
nothing = record { calls = 0; inputs = []; gates = []; outputs = [] }

-- the number of the next call, which stands still at its type's end
abbrev pub next_call : Draft → ℕ
next_call d = min (d.calls + 1) (2 ^ 32 - 1)

-- after a call that adds nothing
abbrev pub counted : Draft → Draft
counted d = record d { calls = next_call d }

abbrev pub with_input : Draft → List ℕ → Draft
with_input d name = record d { calls = next_call d; inputs = d.inputs ++ name ∷ [] }

abbrev pub gate_line : ℕ → List ℕ → GateWord → List (List ℕ) → GateLine
gate_line call name word inputs = record { call = call; name = name; word = word; inputs = inputs }

abbrev pub with_gate : Draft → List ℕ → GateWord → List (List ℕ) → Draft
with_gate d name word inputs =
    record d { calls = next_call d; gates = d.gates ++ gate_line (next_call d) name word inputs ∷ [] }

-- an output that was named before stays with the call that named it first
abbrev pub is_output : Draft → List ℕ → Bool
is_output d name = list_any (λ line. bytes_eq name line.name) d.outputs

abbrev pub output_line : ℕ → List ℕ → OutputLine
output_line call name = record { call = call; name = name }

abbrev pub with_output : Draft → List ℕ → Draft
with_output d name =
    if is_output d name
    then counted d
    else record d { calls = next_call d; outputs = d.outputs ++ output_line (next_call d) name ∷ [] }

-- the names of the inputs and then of the gates
abbrev pub draft_names : Draft → List (List ℕ)
draft_names d = d.inputs ++ map (λ line. line.name) d.gates

abbrev pub is_defined : Draft → List ℕ → Bool
is_defined d name = list_any (bytes_eq name) (draft_names d)

-- a name is too long, or there is no room for one more
abbrev pub input_is_too_large : Draft → List ℕ → Bool
input_is_too_large d name = is_long name || nat_le MOST_INPUTS (length d.inputs)

-- the same of a gate, or it has too many inputs
abbrev pub gate_is_too_large : Draft → List ℕ → List (List ℕ) → Bool
gate_is_too_large d name inputs =
    is_long name || list_any is_long inputs || nat_lt MOST_FANIN (length inputs) || nat_le MOST_GATES (length d.gates)

-- the fault of a call that adds a net, if there is one
abbrev pub net_fault : ℕ → Bool → Bool → Option NetFault
net_fault call is_too_large is_taken =
    if is_too_large then Some (fault call TooLarge) else if is_taken then Some (fault call DuplicateNet) else None

abbrev pub input_fault : Draft → List ℕ → Option NetFault
input_fault d name = net_fault (next_call d) (input_is_too_large d name) (is_defined d name)

abbrev pub gate_fault : Draft → List ℕ → List (List ℕ) → Option NetFault
gate_fault d name inputs = net_fault (next_call d) (gate_is_too_large d name inputs) (is_defined d name)

abbrev pub output_fault : Draft → List ℕ → Option NetFault
output_fault d name = if is_long name then Some (fault (next_call d) TooLarge) else None

-- the draft of a, z = AND(y, a) and y = NOT(a), with the output z
abbrev pub late_draft : Draft
late_draft = record {
  calls = 4;
  inputs = codes "a" ∷ [];
  gates =
      gate_line 2 (codes "z") And (codes "y" ∷ codes "a" ∷ [])
      ∷ gate_line 3 (codes "y") Not (codes "a" ∷ [])
      ∷ [];
  outputs = output_line 4 (codes "z") ∷ [];
}

late-made : with_output
    (with_gate
    (with_gate (with_input nothing (codes "a")) (codes "z") And (codes "y" ∷ codes "a" ∷ []))
    (codes "y")
    Not
    (codes "a" ∷ []))
    (codes "z")
    ≡ late_draft
late-made = refl

late-twice : gate_fault late_draft (codes "z") (codes "a" ∷ []) ≡ Some (fault 5 DuplicateNet)
late-twice = refl

late-more : input_fault late_draft (codes "b") ≡ None
late-more = refl

late-output_again : with_output late_draft (codes "z") ≡ counted late_draft
late-output_again = refl

long-too_large : input_fault nothing (replicate 65 97) ≡ Some (fault 1 TooLarge)
long-too_large = refl

wide-too_large : gate_fault late_draft (codes "w") (replicate 65 (codes "a")) ≡ Some (fault 5 TooLarge)
wide-too_large = refl
