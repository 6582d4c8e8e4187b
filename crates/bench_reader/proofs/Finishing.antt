-- The faults of a draft are the later faults of a text.
use Rattle.std.proofs.Common.{◌≡◌, ℕ, ◌+◌, ◌^◌, ◌<◌, not, List, [], ◌++◌, length, map, filter, filter_map, Option, Some, None, option_map, refl, sym, ap, ◌∙◌, arith, position}
use Rattle.std.specs.List.{list_any, range_with_len}
use Rattle.std.specs.Str.{bytes_eq}
use Rattle.std.specs.Option.{option_or}
use Rattle.std.proofs.lemmas.List.{length-map}
use Rattle.circuits.specs.Circuit.{Circuit, gate_nets}
use Rattle.netlist.specs.Draft.{Draft, GateLine, OutputLine}
use Rattle.netlist.specs.Fault as net
use Rattle.netlist.specs.Finish.{least, undefined_calls, cycle_calls, undefined_fault, cycle_fault, finish_fault}
use Rattle.netlist.specs.declared.fault.NetFault.{NetFault}
use Rattle.netlist.specs.declared.fault.NetCause.{NetCause}
use Rattle.netlist.specs.declared.fault.NetCause.TheVariants.{UndefinedNet, Cycle}
use Rattle.bench_reader.specs.declared.fault.BenchFault.{BenchFault}
use Rattle.bench_reader.specs.Faults.{fault}
use Rattle.circuits.specs.Cone.{reaches_itself}
use Rattle.bench_reader.specs.Later.{names_undefined, is_on_cycle, first_where, later_fault}
use Rattle.bench_reader.proofs.NumberedLines.{line_of, first_where-placed}
use Rattle.bench_reader.specs.Statements.{Statement, said, input_name, gate_name, nets, numbered, circuit}
use Rattle.bench_reader.specs.Steps.{cause_of}
use Rattle.bench_reader.proofs.ApartNames.{AreApart, numbered_apart}
use Rattle.bench_reader.proofs.CycleCalls.{call_in, calls_paired, calls_where, first_on_cycle}
use Rattle.bench_reader.specs.Steps.{drafted}
use Rattle.bench_reader.proofs.Drafts.{gate_lines, output_lines, gates_numbered, draft_of-names, draft_of-inputs, draft_of-gates, draft_of-outputs, draft_of-circuit}
use Rattle.bench_reader.proofs.FirstCalls.{bad_gates, bad_outputs, first_undefined}

abbrev pub undefined_by : List (List ℕ) → List GateLine → List OutputLine → List ℕ
undefined_by names gates outputs =
    map (λ line. line.call) (filter (λ line. list_any (λ name. not (list_any (bytes_eq name) names)) line.inputs) gates)
    ++ map (λ line. line.call) (filter (λ line. not (list_any (bytes_eq line.name) names)) outputs)

draft_of-undefined : (all : List Statement) → length all < 2 ^ 32 → undefined_calls (drafted all) ≡ bad_gates all (gate_lines 1 all) ++ bad_outputs all (output_lines [] 1 all)
draft_of-undefined all h =
    let d = drafted all in
    ap (λ names. undefined_by names d.gates d.outputs) (draft_of-names all h)
    ∙ ap (λ gates. undefined_by (nets all) gates d.outputs) (draft_of-gates all h)
    ∙ ap (undefined_by (nets all) (gate_lines 1 all)) (draft_of-outputs all h)

pub undefined_is_first : (all : List Statement) → length all < 2 ^ 32 → least (undefined_calls (drafted all)) ≡ option_map (λ k. k + 1) (position (names_undefined all) all)
undefined_is_first all h = ap least (draft_of-undefined all h) ∙ first_undefined all all [] 1 refl

abbrev pub cycle_by : Circuit → List (List ℕ) → List GateLine → List ℕ
cycle_by c inputs gates = map (call_in (length inputs) gates) (filter (reaches_itself c) (gate_nets c))

draft_of-cycle : (all : List Statement) → length all < 2 ^ 32 → cycle_calls (drafted all) ≡ calls_where (reaches_itself (circuit all)) (length (filter_map input_name all)) (gate_lines 1 all)
draft_of-cycle all h =
    let d = drafted all in
    let inputs = filter_map input_name all in
    let count : length (filter_map (numbered (nets all)) all) ≡ length (gate_lines 1 all) = ap length (sym (gates_numbered (nets all) 1 all)) ∙ length-map (gate_lines 1 all) _ in
    ap (λ c. cycle_by c d.inputs d.gates) (draft_of-circuit all h)
    ∙ ap (λ is. cycle_by (circuit all) is d.gates) (draft_of-inputs all)
    ∙ ap (cycle_by (circuit all) inputs) (draft_of-gates all h)
    ∙ ap (λ n. map (call_in (length inputs) (gate_lines 1 all)) (filter (reaches_itself (circuit all)) (range_with_len (length inputs) n))) count
    ∙ calls_paired (reaches_itself (circuit all)) (length inputs) (length inputs) [] (gate_lines 1 all) (omega arith)

pub cycle_is_first : (all : List Statement) → length all < 2 ^ 32 → AreApart (nets all) → least (cycle_calls (drafted all)) ≡ option_map (λ k. k + 1) (position (is_on_cycle all) all)
cycle_is_first all h apart = ap least (draft_of-cycle all h) ∙ first_on_cycle all all (length (filter_map input_name all)) 1 (numbered_apart (filter_map input_name all) (filter_map gate_name all) apart)

-- ---- at lines

-- the fault at its line
abbrev pub at_line : List (List ℕ) → NetFault → BenchFault
at_line text f = fault (line_of text f.at) (cause_of f.cause)

moved : (text : List (List ℕ)) (cause : NetCause) (o : Option ℕ) → option_map (at_line text) (option_map (λ at. net.fault at cause) (option_map (λ k. k + 1) o)) ≡ option_map (λ k. fault (line_of text (k + 1)) (cause_of cause)) o
moved text cause None = refl
moved text cause (Some k) = refl

pub undefined_at_line : (text : List (List ℕ)) → length (said text) < 2 ^ 32 → option_map (at_line text) (undefined_fault (drafted (said text))) ≡ first_where (names_undefined (said text)) (cause_of UndefinedNet) text
undefined_at_line text h = ap (λ o. option_map (at_line text) (option_map (λ at. net.fault at UndefinedNet) o)) (undefined_is_first (said text) h) ∙ moved text UndefinedNet (position (names_undefined (said text)) (said text)) ∙ first_where-placed (names_undefined (said text)) (cause_of UndefinedNet) text

pub cycle_at_line : (text : List (List ℕ)) → length (said text) < 2 ^ 32 → AreApart (nets (said text)) → option_map (at_line text) (cycle_fault (drafted (said text))) ≡ first_where (is_on_cycle (said text)) (cause_of Cycle) text
cycle_at_line text h apart = ap (λ o. option_map (at_line text) (option_map (λ at. net.fault at Cycle) o)) (cycle_is_first (said text) h apart) ∙ moved text Cycle (position (is_on_cycle (said text)) (said text)) ∙ first_where-placed (is_on_cycle (said text)) (cause_of Cycle) text

first_parts : (text : List (List ℕ)) (d : Draft) (o : Option NetFault) → undefined_fault d ≡ o → option_map (at_line text) (finish_fault d) ≡ option_or (option_map (at_line text) o) (option_map (at_line text) (cycle_fault d))
first_parts text d None e = rw e refl
first_parts text d (Some f) e = rw e refl

pub finish_at_line : (text : List (List ℕ)) → length (said text) < 2 ^ 32 → AreApart (nets (said text)) → option_map (at_line text) (finish_fault (drafted (said text))) ≡ later_fault text
finish_at_line text h apart =
    let d = drafted (said text) in
    first_parts text d (undefined_fault d) refl
    ∙ ap (λ o. option_or o (option_map (at_line text) (cycle_fault d))) (undefined_at_line text h)
    ∙ ap (option_or (first_where (names_undefined (said text)) (cause_of UndefinedNet) text)) (cycle_at_line text h apart)
