-- A line without a fault of its own says nothing of a gate whose word does not take its inputs.
use Rattle.std.proofs.Common.{◌≡◌, ℕ, Bool, true, false, not, cond, List, [], ◌∷◌, length, Option, Some, None, is_none, option_map, refl, subst, codes}
use Rattle.std.specs.List.{list_any}
use Rattle.std.specs.Option.{option_map_or}
use Rattle.std.specs.Str.{str_eq_ignore_ascii_case}
use Rattle.circuits.specs.Limits.{AcceptsArity, takes}
use Rattle.circuits.specs.declared.gate_word.GateWord.{GateWord}
use Rattle.bench_reader.specs.declared.fault.BenchCause.{BenchCause}
use Rattle.bench_reader.specs.declared.fault.BenchCause.TheVariants.{UnknownGate, BadArity, Sequential, NotAscii}
use Rattle.bench_reader.specs.Faults.{first_cause}
use Rattle.bench_reader.specs.Forms.{Form, empty, input, output, gate, no_form, form_of}
use Rattle.texts.specs.Lines.{is_above_127, uncommented}
use Rattle.bench_reader.specs.Statements.{Statement, says_input, says_output, says_gate, statement}
use Rattle.bench_reader.specs.Steps.{own_form_fault, own_fault, IsSized}
use Rattle.bench_reader.specs.Words.{gate_word}

taken : (word : GateWord) (n : ℕ) (t : Bool) → takes word n ≡ t → first_cause ((not t, BadArity) ∷ []) ≡ None → AcceptsArity word n
taken word n true e h = e
taken word n false e h = absurd cc

gate_sized : (s : Bool) (o : Option GateWord) (net : List ℕ) (inputs : List (List ℕ)) (said : Statement)
    → first_cause ((s, Sequential) ∷ (is_none o, UnknownGate) ∷ (option_map_or (λ w. not (takes w (length inputs))) o false, BadArity) ∷ []) ≡ None
    → option_map (λ w. says_gate net w inputs) o ≡ Some said → IsSized said
gate_sized true o net inputs said h e = absurd cc
gate_sized false None net inputs said h e = absurd cc
gate_sized false (Some w) net inputs said h e =
    let same : says_gate net w inputs ≡ said = cc in
    subst IsSized same (taken w (length inputs) (takes w (length inputs)) refl h)

sized : (form : Form) (said : Statement) → own_form_fault form ≡ None → statement form ≡ Some said → IsSized said
sized empty said h e = absurd cc
sized (input net) said h e = let same : says_input net ≡ said = cc in subst IsSized same tt
sized (output net) said h e = let same : says_output net ≡ said = cc in subst IsSized same tt
sized (gate net word inputs) said h e = gate_sized (str_eq_ignore_ascii_case word (codes "DFF")) (gate_word word) net inputs said h e
sized no_form said h e = absurd cc

own_form : (v : Bool) (o : Option BenchCause) → cond v (Some NotAscii) o ≡ None → o ≡ None
own_form true o e = absurd cc
own_form false o e = e

pub sized_line : (line : List ℕ) (said : Statement) → own_fault line ≡ None → statement (form_of line) ≡ Some said → IsSized said
sized_line line said h e = sized (form_of line) said (own_form (list_any is_above_127 (uncommented line)) (own_form_fault (form_of line)) h) e
