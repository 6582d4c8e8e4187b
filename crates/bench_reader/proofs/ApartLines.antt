-- Lines without a fault define each net once.
use Rattle.std.proofs.Common.{◌≡◌, ℕ, ◌+◌, Bool, true, false, not, cond, List, [], ◌∷◌, ◌++◌, length, filter_map, Option, Some, None, is_none, option_map, option_to_list, refl, sym, ap, subst, ◌∙◌, append_assoc, codes}
use Rattle.std.specs.List.{list_any, cons_option}
use Rattle.std.specs.Option.{option_or, option_map_or}
use Rattle.std.specs.Str.{bytes_eq, str_eq_ignore_ascii_case}
use Rattle.std.proofs.lemmas.List.{append-nil}
use Rattle.std.proofs.lemmas.List.Elements.{filter_map-append}
use Rattle.circuits.specs.declared.gate_word.GateWord.{GateWord}
use Rattle.bench_reader.specs.declared.fault.BenchCause.{BenchCause}
use Rattle.bench_reader.specs.declared.fault.BenchCause.TheVariants.{UnknownGate, BadArity, DuplicateNet, Sequential, TooLarge, NotAscii}
use Rattle.bench_reader.specs.declared.fault.BenchFault.{BenchFault}
use Rattle.circuits.specs.Limits.{takes}
use Rattle.bench_reader.specs.Faults.{fault, form_fault, line_fault, first_cause, is_too_large, is_defined}
use Rattle.bench_reader.specs.Forms.{Form, empty, input, output, gate, no_form, form_of}
use Rattle.texts.specs.Lines.{is_above_127, uncommented}
use Rattle.bench_reader.specs.Reading.{first_line_fault}
use Rattle.bench_reader.specs.Statements.{Statement, says_input, says_output, says_gate, statement, said_by, said, input_name, gate_name, nets}
use Rattle.bench_reader.specs.Words.{gate_word}
use Rattle.bench_reader.proofs.ApartNames.{AreApart, apart_inserted}

-- ---- one statement more

input_more : (all : List Statement) (net : List ℕ) → is_defined all net ≡ false → AreApart (nets all) → AreApart (nets (all ++ says_input net ∷ []))
input_more all net new h =
    let ins = filter_map input_name all in
    let gates = filter_map gate_name all in
    let same : nets (all ++ says_input net ∷ []) ≡ ins ++ net ∷ gates =
    ap (λ names. names ++ filter_map gate_name (all ++ says_input net ∷ [])) (filter_map-append input_name all (says_input net ∷ []))
    ∙ ap (λ names. ins ++ net ∷ [] ++ names) (filter_map-append gate_name all (says_input net ∷ []) ∙ append-nil gates)
    ∙ append_assoc ins (net ∷ []) gates
    in
    subst AreApart (sym same) (apart_inserted ins net gates h new)

gate_more : (all : List Statement) (net : List ℕ) (word : GateWord) (inputs : List (List ℕ)) → is_defined all net ≡ false → AreApart (nets all) → AreApart (nets (all ++ says_gate net word inputs ∷ []))
gate_more all net word inputs new h =
    let ins = filter_map input_name all in
    let gates = filter_map gate_name all in
    let same : nets (all ++ says_gate net word inputs ∷ []) ≡ (ins ++ gates) ++ net ∷ [] =
    ap (λ names. names ++ filter_map gate_name (all ++ says_gate net word inputs ∷ [])) (filter_map-append input_name all (says_gate net word inputs ∷ []) ∙ append-nil ins)
    ∙ ap (λ names. ins ++ names) (filter_map-append gate_name all (says_gate net word inputs ∷ []))
    ∙ sym (append_assoc ins gates (net ∷ []))
    in
    let whole = sym (append-nil (ins ++ gates)) in
    subst AreApart (sym same) (apart_inserted (ins ++ gates) net [] (subst AreApart whole h) (subst (λ names. list_any (bytes_eq net) names ≡ false) whole new))

output_more : (all : List Statement) (net : List ℕ) → AreApart (nets all) → AreApart (nets (all ++ says_output net ∷ []))
output_more all net h =
    let same : nets (all ++ says_output net ∷ []) ≡ nets all =
    ap (λ names. names ++ filter_map gate_name (all ++ says_output net ∷ [])) (filter_map-append input_name all (says_output net ∷ []) ∙ append-nil (filter_map input_name all))
    ∙ ap (λ names. filter_map input_name all ++ names) (filter_map-append gate_name all (says_output net ∷ []) ∙ append-nil (filter_map gate_name all))
    in
    subst AreApart (sym same) h

-- ---- one line more

two_none : (a b : Bool) → first_cause ((a, TooLarge) ∷ (b, DuplicateNet) ∷ []) ≡ None → b ≡ false
two_none true b e = absurd cc
two_none false true e = absurd cc
two_none false false e = refl

five_none : (a b c d e : Bool) → first_cause ((a, Sequential) ∷ (b, UnknownGate) ∷ (c, BadArity) ∷ (d, TooLarge) ∷ (e, DuplicateNet) ∷ []) ≡ None → e ≡ false
five_none true b c d e h = absurd cc
five_none false true c d e h = absurd cc
five_none false false true d e h = absurd cc
five_none false false false d e h = two_none d e h

gate_or_none : (all : List Statement) (net : List ℕ) (inputs : List (List ℕ)) (o : Option GateWord) → is_defined all net ≡ false → AreApart (nets all) → AreApart (nets (all ++ option_to_list (option_map (λ w. says_gate net w inputs) o)))
gate_or_none all net inputs None new h = subst (λ ss. AreApart (nets ss)) (sym (append-nil all)) h
gate_or_none all net inputs (Some w) new h = gate_more all net w inputs new h

form_more : (all : List Statement) (form : Form) → form_fault all form ≡ None → AreApart (nets all) → AreApart (nets (all ++ option_to_list (statement form)))
form_more all empty e h = subst (λ ss. AreApart (nets ss)) (sym (append-nil all)) h
form_more all (input net) e h = input_more all net (two_none (is_too_large all (input net)) (is_defined all net) e) h
form_more all (output net) e h = output_more all net h
form_more all (gate net word inputs) e h =
    gate_or_none all net inputs (gate_word word)
    (five_none (str_eq_ignore_ascii_case word (codes "DFF")) (is_none (gate_word word)) (option_map_or (λ w. not (takes w (length inputs))) (gate_word word) false) (is_too_large all (gate net word inputs)) (is_defined all net) e)
    h
form_more all no_form e h = absurd cc

line_more : (v : Bool) (all : List Statement) (form : Form) → cond v (Some NotAscii) (form_fault all form) ≡ None → AreApart (nets all) → AreApart (nets (all ++ option_to_list (statement form)))
line_more true all form e h = absurd cc
line_more false all form e h = form_more all form e h

-- ---- all lines

first_none : (n : ℕ) (o : Option BenchCause) (later : Option BenchFault) → option_or (option_map (fault n) o) later ≡ None → (o ≡ None) × (later ≡ None)
first_none n None later e = (refl, e)
first_none n (Some cause) later e = absurd cc

one_first : (o : Option Statement) (rest : List Statement) → option_to_list o ++ rest ≡ cons_option o rest
one_first None rest = refl
one_first (Some s) rest = refl

apart_from : (n : ℕ) (earlier : List Statement) (text : List (List ℕ)) → first_line_fault n earlier text ≡ None → AreApart (nets earlier) → AreApart (nets (earlier ++ said text))
apart_from n earlier [] e h = subst (λ ss. AreApart (nets ss)) (sym (append-nil earlier)) h
apart_from n earlier (line ∷ more) e h =
    let o = said_by line in
    let parts = first_none n (line_fault earlier line) (first_line_fault (n + 1) (earlier ++ option_to_list o) more) e in
    let regrouped : (earlier ++ option_to_list o) ++ said more ≡ earlier ++ said (line ∷ more) = append_assoc earlier (option_to_list o) (said more) ∙ ap (λ ss. earlier ++ ss) (one_first o (said more)) in
    subst (λ ss. AreApart (nets ss)) regrouped (apart_from (n + 1) (earlier ++ option_to_list o) more parts.1 (line_more (list_any is_above_127 (uncommented line)) earlier (form_of line) parts.0 h))

pub apart_lines : (text : List (List ℕ)) → first_line_fault 1 [] text ≡ None → AreApart (nets (said text))
apart_lines text e = apart_from 1 [] text e tt
