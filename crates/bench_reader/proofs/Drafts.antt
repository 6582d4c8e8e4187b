-- The draft of some statements, part by part.
use Rattle.std.proofs.Common.{◌≡◌, ℕ, suc, ◌+◌, ◌^◌, ◌<◌, Bool, true, false, ◌||◌, cond, List, [], ◌∷◌, ◌++◌, length, map, fold, filter_map, refl, sym, ap, ◌∙◌, ⊎_elim, arith, append_assoc}
use Rattle.std.specs.List.{list_any}
use Rattle.std.specs.Str.{bytes_eq}
use Rattle.std.proofs.lemmas.Bool.{cases_Bool}
use Rattle.std.proofs.lemmas.List.{append-nil, map_push}
use Rattle.netlist.specs.Draft.{Draft, GateLine, OutputLine, draft_names, nothing, next_call, counted, with_input, with_gate, with_output, gate_line, output_line, is_output}
use Rattle.circuits.specs.Circuit.{Circuit, Gate}
use Rattle.netlist.specs.Finish.{circuit_of}
use Rattle.bench_reader.specs.Statements.{Statement, says_input, says_output, says_gate, input_name, gate_name, output_name, with_name, outputs, nets, number, numbered, circuit}
use Rattle.bench_reader.specs.Steps.{with_statement, drafted}

abbrev pub drafted_from : Draft → List Statement → Draft
drafted_from d all = fold with_statement d all

-- one call more, while their number is below its type's end
one_more : (d : Draft) (n : ℕ) → d.calls + suc n < 2 ^ 32 → next_call d ≡ d.calls + 1
one_more d n h = omega arith

-- with an output, that is named before or not
abbrev pub named : Draft → List ℕ → Bool → Draft
named d net b = cond b (counted d) (record d { calls = next_call d; outputs = d.outputs ++ output_line (next_call d) net ∷ [] })

-- a draft that differs in its outputs alone keeps the rest
output_calls : (d : Draft) (net : List ℕ) → (with_output d net).calls ≡ next_call d
output_calls d net = ⊎_elim (λ e. ap (λ b. (named d net b).calls) e) (λ e. ap (λ b. (named d net b).calls) e) (cases_Bool (is_output d net))

output_inputs : (d : Draft) (net : List ℕ) → (with_output d net).inputs ≡ d.inputs
output_inputs d net = ⊎_elim (λ e. ap (λ b. (named d net b).inputs) e) (λ e. ap (λ b. (named d net b).inputs) e) (cases_Bool (is_output d net))

output_gates : (d : Draft) (net : List ℕ) → (with_output d net).gates ≡ d.gates
output_gates d net = ⊎_elim (λ e. ap (λ b. (named d net b).gates) e) (λ e. ap (λ b. (named d net b).gates) e) (cases_Bool (is_output d net))

pub drafted-calls : (d : Draft) (all : List Statement) → d.calls + length all < 2 ^ 32 → (drafted_from d all).calls ≡ d.calls + length all
drafted-calls d [] h = omega arith
drafted-calls d (says_input net ∷ all) h = omega (arith, one_more d (length all) h, drafted-calls (with_input d net) all (omega (arith, one_more d (length all) h)))
drafted-calls d (says_output net ∷ all) h =
    let e = output_calls d net in
    omega (arith, one_more d (length all) h, e, drafted-calls (with_output d net) all (omega (arith, one_more d (length all) h, e)))
drafted-calls d (says_gate net word inputs ∷ all) h = omega (arith, one_more d (length all) h, drafted-calls (with_gate d net word inputs) all (omega (arith, one_more d (length all) h)))

pub drafted-inputs : (d : Draft) (all : List Statement) → (drafted_from d all).inputs ≡ d.inputs ++ filter_map input_name all
drafted-inputs d [] = sym (append-nil d.inputs)
drafted-inputs d (says_input net ∷ all) = drafted-inputs (with_input d net) all ∙ append_assoc d.inputs (net ∷ []) (filter_map input_name all)
drafted-inputs d (says_output net ∷ all) = drafted-inputs (with_output d net) all ∙ ap (λ names. names ++ filter_map input_name all) (output_inputs d net)
drafted-inputs d (says_gate net word inputs ∷ all) = drafted-inputs (with_gate d net word inputs) all

-- the gates that the statements define, where the first statement is the call n
abbrev pub gate_lines : ℕ → List Statement → List GateLine
gate_lines n [] = []
gate_lines n (says_input net ∷ all) = gate_lines (n + 1) all
gate_lines n (says_output net ∷ all) = gate_lines (n + 1) all
gate_lines n (says_gate net word inputs ∷ all) = gate_line n net word inputs ∷ gate_lines (n + 1) all

pub drafted-gates : (d : Draft) (all : List Statement) → d.calls + length all < 2 ^ 32 → (drafted_from d all).gates ≡ d.gates ++ gate_lines (d.calls + 1) all
drafted-gates d [] h = sym (append-nil d.gates)
drafted-gates d (says_input net ∷ all) h =
    let e = one_more d (length all) h in
    drafted-gates (with_input d net) all (omega (arith, e)) ∙ ap (λ n. d.gates ++ gate_lines (n + 1) all) e
drafted-gates d (says_output net ∷ all) h =
    let e = one_more d (length all) h in
    let c = output_calls d net in
    drafted-gates (with_output d net) all (omega (arith, e, c)) ∙ ap (λ gs. gs ++ gate_lines ((with_output d net).calls + 1) all) (output_gates d net) ∙ ap (λ n. d.gates ++ gate_lines (n + 1) all) (c ∙ e)
drafted-gates d (says_gate net word inputs ∷ all) h =
    let e = one_more d (length all) h in
    drafted-gates (with_gate d net word inputs) all (omega (arith, e))
    ∙ ap (λ n. d.gates ++ gate_line n net word inputs ∷ [] ++ gate_lines (n + 1) all) e
    ∙ append_assoc d.gates (gate_line (d.calls + 1) net word inputs ∷ []) (gate_lines (d.calls + 1 + 1) all)

-- the outputs that the statements name and that are not among the seen ones
abbrev pub output_lines : List (List ℕ) → ℕ → List Statement → List OutputLine
output_lines seen n [] = []
output_lines seen n (says_input net ∷ all) = output_lines seen (n + 1) all
output_lines seen n (says_output net ∷ all) =
    cond (list_any (bytes_eq net) seen) (output_lines seen (n + 1) all) (output_line n net ∷ output_lines (seen ++ net ∷ []) (n + 1) all)
output_lines seen n (says_gate net word inputs ∷ all) = output_lines seen (n + 1) all

abbrev pub output_names : List OutputLine → List (List ℕ)
output_names lines = map (λ line. line.name) lines

pub is_output-names : (lines : List OutputLine) (net : List ℕ) → list_any (λ line. bytes_eq net line.name) lines ≡ list_any (bytes_eq net) (output_names lines)
is_output-names [] net = refl
is_output-names (line ∷ lines) net = ap (λ b. bytes_eq net line.name || b) (is_output-names lines net)

abbrev pub OutputsAre : Draft → List Statement → Type 0
OutputsAre d all = (drafted_from d all).outputs ≡ d.outputs ++ output_lines (output_names d.outputs) (d.calls + 1) all

outputs_step : (d : Draft) (net : List ℕ) (all : List Statement) (b v : Bool) → b ≡ v → next_call d ≡ d.calls + 1 → OutputsAre (named d net b) all
    → (drafted_from (named d net b) all).outputs
    ≡ d.outputs ++ cond v (output_lines (output_names d.outputs) (d.calls + 1 + 1) all) (output_line (d.calls + 1) net ∷ output_lines (output_names d.outputs ++ net ∷ []) (d.calls + 1 + 1) all)
outputs_step d net all true true same e h = h ∙ ap (λ n. d.outputs ++ output_lines (output_names d.outputs) (n + 1) all) e
outputs_step d net all true false same e h = absurd cc
outputs_step d net all false true same e h = absurd cc
outputs_step d net all false false same e h =
    h
    ∙ ap (λ names. d.outputs ++ output_line (next_call d) net ∷ [] ++ output_lines names (next_call d + 1) all) (map_push (λ line. line.name) d.outputs (output_line (next_call d) net))
    ∙ ap (λ n. d.outputs ++ output_line n net ∷ [] ++ output_lines (output_names d.outputs ++ net ∷ []) (n + 1) all) e
    ∙ append_assoc d.outputs (output_line (d.calls + 1) net ∷ []) (output_lines (output_names d.outputs ++ net ∷ []) (d.calls + 1 + 1) all)

pub drafted-outputs : (d : Draft) (all : List Statement) → d.calls + length all < 2 ^ 32 → OutputsAre d all
drafted-outputs d [] h = sym (append-nil d.outputs)
drafted-outputs d (says_input net ∷ all) h =
    let e = one_more d (length all) h in
    drafted-outputs (with_input d net) all (omega (arith, e)) ∙ ap (λ n. d.outputs ++ output_lines (output_names d.outputs) (n + 1) all) e
drafted-outputs d (says_output net ∷ all) h =
    let e = one_more d (length all) h in
    let c = output_calls d net in
    outputs_step d net all (is_output d net) (list_any (bytes_eq net) (output_names d.outputs)) (is_output-names d.outputs net) e
    (drafted-outputs (with_output d net) all (omega (arith, e, c)))
drafted-outputs d (says_gate net word inputs ∷ all) h =
    let e = one_more d (length all) h in
    drafted-outputs (with_gate d net word inputs) all (omega (arith, e)) ∙ ap (λ n. d.outputs ++ output_lines (output_names d.outputs) (n + 1) all) e

-- ---- from nothing

pub draft_of-calls : (all : List Statement) → length all < 2 ^ 32 → (drafted all).calls ≡ length all
draft_of-calls all h = omega (arith, drafted-calls nothing all (omega arith))

pub draft_of-inputs : (all : List Statement) → (drafted all).inputs ≡ filter_map input_name all
draft_of-inputs all = drafted-inputs nothing all

pub draft_of-gates : (all : List Statement) → length all < 2 ^ 32 → (drafted all).gates ≡ gate_lines 1 all
draft_of-gates all h = drafted-gates nothing all (omega arith)

pub draft_of-outputs : (all : List Statement) → length all < 2 ^ 32 → (drafted all).outputs ≡ output_lines [] 1 all
draft_of-outputs all h = drafted-outputs nothing all (omega arith)

pub gate_lines-names : (n : ℕ) (all : List Statement) → map (λ line. line.name) (gate_lines n all) ≡ filter_map gate_name all
gate_lines-names n [] = refl
gate_lines-names n (says_input net ∷ all) = gate_lines-names (n + 1) all
gate_lines-names n (says_output net ∷ all) = gate_lines-names (n + 1) all
gate_lines-names n (says_gate net word inputs ∷ all) = ap (λ names. net ∷ names) (gate_lines-names (n + 1) all)

pub draft_of-names : (all : List Statement) → length all < 2 ^ 32 → draft_names (drafted all) ≡ nets all
draft_of-names all h =
    ap (λ inputs. inputs ++ map (λ line. line.name) (drafted all).gates) (draft_of-inputs all)
    ∙ ap (λ gates. filter_map input_name all ++ map (λ line. line.name) gates) (draft_of-gates all h)
    ∙ ap (λ names. filter_map input_name all ++ names) (gate_lines-names 1 all)

-- ---- its circuit

pub gates_numbered : (names : List (List ℕ)) (n : ℕ) (all : List Statement)
    → map (λ line. record { name = line.name; word = line.word; inputs = map (number names) line.inputs }) (gate_lines n all) ≡ filter_map (numbered names) all
gates_numbered names n [] = refl
gates_numbered names n (says_input net ∷ all) = gates_numbered names (n + 1) all
gates_numbered names n (says_output net ∷ all) = gates_numbered names (n + 1) all
gates_numbered names n (says_gate net word inputs ∷ all) = ap (λ gates. record { name = net; word = word; inputs = map (number names) inputs } ∷ gates) (gates_numbered names (n + 1) all)

outputs_named : (seen : List (List ℕ)) (n : ℕ) (all : List Statement) → seen ++ output_names (output_lines seen n all) ≡ fold with_name seen (filter_map output_name all)
outputs_named seen n [] = append-nil seen
outputs_named seen n (says_input net ∷ all) = outputs_named seen (n + 1) all
outputs_named seen n (says_gate net word inputs ∷ all) = outputs_named seen (n + 1) all
outputs_named seen n (says_output net ∷ all) = at (list_any (bytes_eq net) seen) (outputs_named seen (n + 1) all) (outputs_named (seen ++ net ∷ []) (n + 1) all)
  where
    at : (b : Bool) → seen ++ output_names (output_lines seen (n + 1) all) ≡ fold with_name seen (filter_map output_name all)
        → (seen ++ net ∷ []) ++ output_names (output_lines (seen ++ net ∷ []) (n + 1) all) ≡ fold with_name (seen ++ net ∷ []) (filter_map output_name all)
        → seen ++ output_names (cond b (output_lines seen (n + 1) all) (output_line n net ∷ output_lines (seen ++ net ∷ []) (n + 1) all)) ≡ fold with_name (cond b seen (seen ++ net ∷ [])) (filter_map output_name all)
    at true old new = old
    at false old new = sym (append_assoc seen (net ∷ []) (output_names (output_lines (seen ++ net ∷ []) (n + 1) all))) ∙ new

abbrev pub gate_by : List (List ℕ) → GateLine → Gate
gate_by names line = record { name = line.name; word = line.word; inputs = map (number names) line.inputs }

abbrev pub circuit_by : List (List ℕ) → List (List ℕ) → List GateLine → List OutputLine → Circuit
circuit_by names inputs gates outputs = record { inputs = inputs; gates = map (gate_by names) gates; outputs = map (λ line. number names line.name) outputs }

numbers_named : (names : List (List ℕ)) (lines : List OutputLine) → map (λ line. number names line.name) lines ≡ map (number names) (output_names lines)
numbers_named names [] = refl
numbers_named names (line ∷ lines) = ap (λ ns. number names line.name ∷ ns) (numbers_named names lines)

pub draft_of-circuit : (all : List Statement) → length all < 2 ^ 32 → circuit_of (drafted all) ≡ circuit all
draft_of-circuit all h =
    let d = drafted all in
    let names = nets all in
    let inputs = filter_map input_name all in
    ap (λ ns. circuit_by ns d.inputs d.gates d.outputs) (draft_of-names all h)
    ∙ ap (λ is. circuit_by names is d.gates d.outputs) (draft_of-inputs all)
    ∙ ap (λ gs. circuit_by names inputs gs d.outputs) (draft_of-gates all h)
    ∙ ap (λ os. circuit_by names inputs (gate_lines 1 all) os) (draft_of-outputs all h)
    ∙ ap (λ gs. with_gates gs (map (λ line. number names line.name) (output_lines [] 1 all))) (gates_numbered names 1 all)
    ∙ ap (with_gates (filter_map (numbered names) all)) (numbers_named names (output_lines [] 1 all) ∙ ap (map (number names)) (outputs_named [] 1 all))
  where
    with_gates : List Gate → List ℕ → Circuit
    with_gates gates outputs = record { inputs = filter_map input_name all; gates = gates; outputs = outputs }
