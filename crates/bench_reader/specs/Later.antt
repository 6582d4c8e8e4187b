-- Which line a later fault is on, where no line has a fault by itself.
use Rattle.std.specs.Prelude.{◌≡◌, ℕ, Bool, true, false, not, List, [], ◌∷◌, find, filter_map, Option, Some, option_map, codes, refl}
use Rattle.std.specs.List.{list_any, enumerate_from}
use Rattle.std.specs.Option.{option_or}
use Rattle.circuits.specs.Circuit.{Circuit}
use Rattle.circuits.specs.Cone.{reaches_itself}
use Rattle.circuits.specs.declared.gate_word.GateWord.TheVariants.{Not}
use Rattle.bench_reader.specs.declared.fault.BenchCause.{BenchCause}
use Rattle.bench_reader.specs.declared.fault.BenchCause.TheVariants.{UndefinedNet, Cycle}
use Rattle.bench_reader.specs.declared.fault.BenchFault.{BenchFault}
use Rattle.bench_reader.specs.Faults.{is_defined, fault}
use Rattle.bench_reader.specs.Statements.{Statement, says_input, says_output, says_gate, said_by, said, nets, number, circuit}

-- what the lines say, each with the number of its line, where the first line has the number n
abbrev pub said_at : ℕ → List (List ℕ) → List (ℕ × Statement)
said_at n text = filter_map (λ (line, bytes). option_map (λ s. (line, s)) (said_by bytes)) (enumerate_from n text)

-- names a net that is not defined
abbrev pub names_undefined : List Statement → Statement → Bool
names_undefined all (says_input net) = false
names_undefined all (says_output net) = not (is_defined all net)
names_undefined all (says_gate net word inputs) = list_any (λ name. not (is_defined all name)) inputs

abbrev pub is_on_cycle : List Statement → Statement → Bool
is_on_cycle all (says_input net) = false
is_on_cycle all (says_output net) = false
is_on_cycle all (says_gate net word inputs) = reaches_itself (circuit all) (number (nets all) net)

-- the first statement that passes a test, at its line
abbrev pub first_where : (Statement → Bool) → BenchCause → List (List ℕ) → Option BenchFault
first_where test cause text = option_map (λ (line, s). fault line cause) (find (λ (line, s). test s) (said_at 1 text))

-- where no line has a fault by itself: a net that no line defines, and then a net that reaches itself
abbrev pub later_fault : List (List ℕ) → Option BenchFault
later_fault text =
    option_or (first_where (names_undefined (said text)) UndefinedNet text) (first_where (is_on_cycle (said text)) Cycle text)

-- an empty line and a comment count
statement_lines : said_at 1 (codes "INPUT(a)" ∷ [] ∷ codes "z = NOT(a)" ∷ codes "# out" ∷ codes "OUTPUT(z)" ∷ [])
    ≡ (1, says_input (codes "a")) ∷ (3, says_gate (codes "z") Not (codes "a" ∷ [])) ∷ (5, says_output (codes "z")) ∷ []
statement_lines = refl

-- of two lines that name an undefined net the first
undefined_first : later_fault (codes "INPUT(a)" ∷ [] ∷ codes "z = NOT(b)" ∷ codes "OUTPUT(c)" ∷ []) ≡ Some (fault 3 UndefinedNet)
undefined_first = refl

-- an undefined net is found before a cycle on an earlier line
undefined_before_cycle : later_fault (codes "x = NOT(x)" ∷ codes "OUTPUT(c)" ∷ []) ≡ Some (fault 2 UndefinedNet)
undefined_before_cycle = refl
