-- For proofs alone: what is gathered of a text's lines, the draft of what they say, and the numbers of those that say something.
use Rattle.std.specs.Prelude.{◌≡◌, ℕ, Bool, List, [], ◌∷◌, map, if◌then◌else◌, Some, None, Result, Ok, Err}
use Rattle.netlist.specs.Draft.{Draft}
use Rattle.bench_reader.specs.declared.fault.BenchError.{BenchError}
use Rattle.bench_reader.specs.declared.fault.BenchError.TheVariants.{Fault, Memory}
use Rattle.bench_reader.specs.declared.line_error.LineError.{LineError}
use Rattle.bench_reader.specs.declared.line_error.LineError.TheVariants as line_errors
use Rattle.bench_reader.specs.Faults.{fault}
use Rattle.bench_reader.specs.declared.gather.Gathered.{Gathered}
use Rattle.bench_reader.specs.Later.{said_at}
use Rattle.bench_reader.specs.Reading.{first_line_fault}
use Rattle.bench_reader.specs.Statements.{said}
use Rattle.bench_reader.specs.Steps.{drafted}

-- the numbers of the lines that say something, where the first line has the number n
abbrev pub line_numbers : ℕ → List (List ℕ) → List ℕ
line_numbers n text = map (λ p. p.0) (said_at n text)

-- the number of a line that says something
abbrev pub number_more : ℕ → Bool → List ℕ
number_more n says = if says then n ∷ [] else []

-- the error is that of a line with this number
abbrev pub IsAtLine : ℕ → LineError → BenchError → Type 0
IsAtLine line (line_errors.Fault cause) error = error ≡ Fault (fault line cause)
IsAtLine line line_errors.Memory error = error ≡ Memory

-- no line has a fault, and all is there
pub record IsWhole (text : List (List ℕ)) (maker : Draft) (numbers : List ℕ) : Type 0 where
  pub no_fault : first_line_fault 1 [] text ≡ None
  pub draft : maker ≡ drafted (said text)
  pub lines : numbers ≡ line_numbers 1 text

-- all of the text, or the first fault of a line; want of memory says nothing
abbrev pub Gathers : Result Gathered BenchError → List (List ℕ) → Type 0
Gathers (Ok gathered) text = IsWhole text gathered.maker gathered.saying.items
Gathers (Err (Fault f)) text = first_line_fault 1 [] text ≡ Some f
Gathers (Err Memory) text = Unit {0}
