-- A line's fault, by itself and after what a draft has.
use Rattle.std.proofs.Common.{◌≡◌, ℕ, ◌^◌, ◌<◌, Bool, true, false, not, ◌||◌, cond, List, [], ◌∷◌, length, filter_map, Option, Some, None, is_none, option_map, refl, sym, ap, ◌∙◌, nat_lt, nat_le, codes}
use Rattle.std.proofs.lemmas.List.{length-map}
use Rattle.std.specs.List.{list_any}
use Rattle.std.specs.Option.{option_or, option_map_or}
use Rattle.std.specs.Str.{bytes_eq, str_eq_ignore_ascii_case}
use Rattle.netlist.specs.Draft.{Draft, net_fault, next_call, gate_fault, output_fault}
use Rattle.circuits.specs.Limits.{is_long}
use Rattle.circuits.specs.declared.limits.TheConstants.{MOST_INPUTS, MOST_GATES, MOST_FANIN}
use Rattle.circuits.specs.declared.gate_word.GateWord.{GateWord}
use Rattle.bench_reader.specs.declared.fault.BenchCause.{BenchCause}
use Rattle.bench_reader.specs.declared.fault.BenchCause.TheVariants.{UnknownGate, BadArity, DuplicateNet, Sequential, TooLarge, NotAscii}
use Rattle.circuits.specs.Limits.{takes}
use Rattle.bench_reader.specs.Faults.{form_fault, line_fault, first_cause, is_too_large, is_duplicate}
use Rattle.bench_reader.specs.Forms.{Form, empty, input, output, gate, no_form, form_of}
use Rattle.texts.specs.Lines.{is_above_127, uncommented}
use Rattle.bench_reader.specs.Statements.{Statement, says_gate, gate_name, nets, statement}
use Rattle.bench_reader.specs.Steps.{own_form_fault, draft_fault, line_fault_after, cause_of}
use Rattle.bench_reader.specs.Words.{gate_word}
use Rattle.bench_reader.specs.Steps.{drafted}
use Rattle.bench_reader.proofs.Drafts.{draft_of-inputs, draft_of-gates, draft_of-names, gate_lines, gate_lines-names}

two_causes : (a b : Bool) (call : ℕ) → first_cause ((a, TooLarge) ∷ (b, DuplicateNet) ∷ []) ≡ option_map (λ f. cause_of f.cause) (net_fault call a b)
two_causes true b call = refl
two_causes false true call = refl
two_causes false false call = refl

output_causes : (a : Bool) (d : Draft) (net : List ℕ) → is_long net ≡ a → first_cause ((a, TooLarge) ∷ (false, DuplicateNet) ∷ []) ≡ option_map (λ f. cause_of f.cause) (output_fault d net)
output_causes true d net e = rw e refl
output_causes false d net e = rw e refl

-- s: the word is sequential; o: the gate's word
gate_causes : (s : Bool) (o : Option GateWord) (net : List ℕ) (n : ℕ) (inputs : List (List ℕ)) (a b : Bool) (call : ℕ) (d : Draft) → option_map (λ f. cause_of f.cause) (net_fault call a b) ≡ option_map (λ f. cause_of f.cause) (gate_fault d net inputs)
    → first_cause ((s, Sequential) ∷ (is_none o, UnknownGate) ∷ (option_map_or (λ w. not (takes w n)) o false, BadArity) ∷ (a, TooLarge) ∷ (b, DuplicateNet) ∷ [])
    ≡ option_or (first_cause ((s, Sequential) ∷ (is_none o, UnknownGate) ∷ (option_map_or (λ w. not (takes w n)) o false, BadArity) ∷ [])) (draft_fault d (option_map (λ w. says_gate net w inputs) o))
gate_causes true o net n inputs a b call d e = refl
gate_causes false None net n inputs a b call d e = refl
gate_causes false (Some w) net n inputs a b call d e = at (not (takes w n))
  where
    at : (v : Bool) → first_cause ((v, BadArity) ∷ (a, TooLarge) ∷ (b, DuplicateNet) ∷ []) ≡ option_or (first_cause ((v, BadArity) ∷ [])) (option_map (λ f. cause_of f.cause) (gate_fault d net inputs))
    at true = refl
    at false = two_causes a b call ∙ e

form_parts : (earlier : List Statement) (form : Form) → length earlier < 2 ^ 32 → form_fault earlier form ≡ option_or (own_form_fault form) (draft_fault (drafted earlier) (statement form))
form_parts earlier empty h = refl
form_parts earlier no_form h = refl
form_parts earlier (input net) h =
    let d = drafted earlier in
    two_causes (is_too_large earlier (input net)) (is_duplicate earlier (input net)) (next_call d)
    ∙ ap (λ is. option_map (λ f. cause_of f.cause) (net_fault (next_call d) (is_long net || nat_le MOST_INPUTS (length is)) (list_any (bytes_eq net) (nets earlier)))) (sym (draft_of-inputs earlier))
    ∙ ap (λ ns. option_map (λ f. cause_of f.cause) (net_fault (next_call d) (is_long net || nat_le MOST_INPUTS (length d.inputs)) (list_any (bytes_eq net) ns))) (sym (draft_of-names earlier h))
form_parts earlier (output net) h = output_causes (is_long net) (drafted earlier) net refl
form_parts earlier (gate net word inputs) h =
    let d = drafted earlier in
    let gates : length (filter_map gate_name earlier) ≡ length d.gates = ap length (sym (gate_lines-names 1 earlier)) ∙ length-map (gate_lines 1 earlier) (λ line. line.name) ∙ ap length (sym (draft_of-gates earlier h)) in
    gate_causes (str_eq_ignore_ascii_case word (codes "DFF")) (gate_word word) net (length inputs) inputs (is_too_large earlier (gate net word inputs)) (is_duplicate earlier (gate net word inputs)) (next_call d) d
    (ap (λ n. option_map (λ f. cause_of f.cause) (net_fault (next_call d) (is_long net || list_any is_long inputs || nat_lt MOST_FANIN (length inputs) || nat_le MOST_GATES n) (list_any (bytes_eq net) (nets earlier)))) gates
    ∙ ap (λ ns. option_map (λ f. cause_of f.cause) (net_fault (next_call d) (is_long net || list_any is_long inputs || nat_lt MOST_FANIN (length inputs) || nat_le MOST_GATES (length d.gates)) (list_any (bytes_eq net) ns))) (sym (draft_of-names earlier h)))

above_parts : (v : Bool) (own later : Option BenchCause) → cond v (Some NotAscii) (option_or own later) ≡ option_or (cond v (Some NotAscii) own) later
above_parts true own later = refl
above_parts false own later = refl

pub line_parts : (earlier : List Statement) (line : List ℕ) → length earlier < 2 ^ 32 → line_fault earlier line ≡ line_fault_after (drafted earlier) line
line_parts earlier line h =
    let v = list_any is_above_127 (uncommented line) in
    ap (cond v (Some NotAscii)) (form_parts earlier (form_of line) h) ∙ above_parts v (own_form_fault (form_of line)) (draft_fault (drafted earlier) (statement (form_of line)))
