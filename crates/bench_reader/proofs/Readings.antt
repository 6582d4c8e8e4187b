-- The reading of a text, from what is gathered of its lines.
use Rattle.std.proofs.Common.{◌≡◌, ℕ, suc, ◌-◌, ◌^◌, ◌<◌, ◌≤◌, ◌==◌, Bool, true, false, cond, List, [], ◌∷◌, length, Some, None, Ok, Err, option_map, slice_index, sym, ap, subst, ◌∙◌, arith}
use Rattle.std.specs.List.{onto_first}
use Rattle.std.specs.Option.{option_or}
use Rattle.netlist.specs.Draft.{Draft}
use Rattle.netlist.specs.Finish.{circuit_of, finish_fault}
use Rattle.netlist.specs.declared.fault.NetFault.{NetFault}
use Rattle.bench_reader.specs.declared.fault.BenchFault.{BenchFault}
use Rattle.bench_reader.specs.Faults.{fault}
use Rattle.bench_reader.specs.Gathered.{IsWhole}
use Rattle.bench_reader.specs.Later.{later_fault}
use Rattle.texts.specs.Lines.{lines}
use Rattle.bench_reader.specs.Reading.{first_line_fault, unless, reading}
use Rattle.bench_reader.specs.Statements.{said, circuit}
use Rattle.bench_reader.specs.Steps.{drafted, cause_of}
use Rattle.bench_reader.proofs.ApartLines.{apart_lines}
use Rattle.bench_reader.proofs.Drafts.{draft_of-circuit}
use Rattle.bench_reader.proofs.Finishing.{at_line, finish_at_line}
use Rattle.bench_reader.proofs.Gathering.{said-shorter}
use Rattle.bench_reader.proofs.Ranges.{IsWithin, finish_within, length-line_numbers}

lines-shorter : (bytes : List ℕ) → length (lines bytes) ≤ length bytes
lines-shorter [] = omega arith
lines-shorter (b ∷ bytes) = at (b == 10) (lines bytes) (lines-shorter bytes)
  where
    at : (e : Bool) (text : List (List ℕ)) → length text ≤ length bytes → length (cond e ([] ∷ text) (onto_first b text)) ≤ suc (length bytes)
    at true text h = omega (arith, h)
    at false [] h = omega (arith, h)
    at false (line ∷ text) h = omega (arith, h)

said-few : (bytes : List ℕ) → length bytes < 2 ^ 32 → length (said (lines bytes)) < 2 ^ 32
said-few bytes h = omega (arith, h, lines-shorter bytes, said-shorter (lines bytes))

pub line_reading : (bytes : List ℕ) (f : BenchFault) → first_line_fault 1 [] (lines bytes) ≡ Some f → reading bytes ≡ Err f
line_reading bytes f e = ap (λ o. unless (option_or o (later_fault (lines bytes))) (circuit (said (lines bytes)))) e

-- no line has a fault by itself
later_reading : (bytes : List ℕ) (maker : Draft) (numbers : List ℕ) → length bytes < 2 ^ 32 → IsWhole (lines bytes) maker numbers
    → reading bytes ≡ unless (option_map (at_line (lines bytes)) (finish_fault maker)) (circuit_of maker)
later_reading bytes maker numbers h w =
    let text = lines bytes in
    let few = said-few bytes h in
    ap (λ o. unless (option_or o (later_fault text)) (circuit (said text))) w.no_fault
    ∙ ap (λ o. unless o (circuit (said text))) (sym (finish_at_line text few (apart_lines text w.no_fault)))
    ∙ ap (unless (option_map (at_line text) (finish_fault (drafted (said text))))) (sym (draft_of-circuit (said text) few))
    ∙ ap (λ d. unless (option_map (at_line text) (finish_fault d)) (circuit_of d)) (sym w.draft)

pub whole_reading : (bytes : List ℕ) (maker : Draft) (numbers : List ℕ) → length bytes < 2 ^ 32 → IsWhole (lines bytes) maker numbers → finish_fault maker ≡ None → reading bytes ≡ Ok (circuit_of maker)
whole_reading bytes maker numbers h w e = later_reading bytes maker numbers h w ∙ ap (λ o. unless (option_map (at_line (lines bytes)) o) (circuit_of maker)) e

pub fault_reading : (bytes : List ℕ) (maker : Draft) (numbers : List ℕ) (f : NetFault) → length bytes < 2 ^ 32 → IsWhole (lines bytes) maker numbers → finish_fault maker ≡ Some f → reading bytes ≡ Err (fault (slice_index numbers (f.at - 1)) (cause_of f.cause))
fault_reading bytes maker numbers f h w e =
    later_reading bytes maker numbers h w
    ∙ ap (λ o. unless (option_map (at_line (lines bytes)) o) (circuit_of maker)) e
    ∙ ap (λ ns. Err (fault (slice_index ns (f.at - 1)) (cause_of f.cause))) (sym w.lines)

pub fault_within : (bytes : List ℕ) (maker : Draft) (numbers : List ℕ) (f : NetFault) → length bytes < 2 ^ 32 → IsWhole (lines bytes) maker numbers → finish_fault maker ≡ Some f → (0 < f.at) × (f.at ≤ length numbers)
fault_within bytes maker numbers f h w e =
    let text = lines bytes in
    let within = finish_within (said text) (said-few bytes h) (apart_lines text w.no_fault) in
    let same : finish_fault (drafted (said text)) ≡ Some f = ap finish_fault (sym w.draft) ∙ e in
    let count : length (said text) ≡ length numbers = sym (length-line_numbers 1 text) ∙ ap length (sym w.lines) in
    subst (λ n. IsWithin n (Some f)) count (subst (IsWithin (length (said text))) same within)
