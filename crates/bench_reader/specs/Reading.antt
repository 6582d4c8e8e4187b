-- What a text says: a circuit, or its first fault.
use Rattle.std.specs.Prelude.{◌≡◌, ℕ, ◌+◌, List, [], ◌∷◌, ◌++◌, Option, Some, None, option_map, option_to_list, Result, Ok, Err, codes, refl}
use Rattle.std.specs.Option.{option_or}
use Rattle.circuits.specs.Circuit.{Circuit}
use Rattle.circuits.specs.Examples.{half, gate}
use Rattle.circuits.specs.declared.gate_word.GateWord.TheVariants.{Nand, Buff}
use Rattle.bench_reader.specs.declared.fault.BenchCause.TheVariants.{BadLine, DuplicateNet, UndefinedNet, Cycle, Sequential}
use Rattle.bench_reader.specs.declared.fault.BenchError.{BenchError}
use Rattle.bench_reader.specs.declared.fault.BenchError.TheVariants.{Fault, Memory}
use Rattle.bench_reader.specs.declared.fault.BenchFault.{BenchFault}
use Rattle.bench_reader.specs.Faults.{fault, line_fault}
use Rattle.bench_reader.specs.Later.{later_fault}
use Rattle.texts.specs.Lines.{lines}
use Rattle.bench_reader.specs.Statements.{Statement, said_by, said, circuit}

-- the first fault of a line: of the lines from line n on, after what earlier lines say
abbrev pub first_line_fault : ℕ → List Statement → List (List ℕ) → Option BenchFault
first_line_fault n earlier [] = None
first_line_fault n earlier (line ∷ more) =
    option_or (option_map (fault n) (line_fault earlier line)) (first_line_fault (n + 1) (earlier ++ option_to_list (said_by line)) more)

-- a line's own fault comes before those of all lines together
abbrev pub first_fault : List (List ℕ) → Option BenchFault
first_fault text = option_or (first_line_fault 1 [] text) (later_fault text)

abbrev pub unless : Option BenchFault → Circuit → Result Circuit BenchFault
unless None c = Ok c
unless (Some f) c = Err f

-- Each text has one reading or one first fault.
abbrev pub reading : List ℕ → Result Circuit BenchFault
reading bytes = unless (first_fault (lines bytes)) (circuit (said (lines bytes)))

-- The error has the reading's fault. Want of memory says nothing.
abbrev pub IsFaultOf : BenchError → Result Circuit BenchFault → Type 0
IsFaultOf (Fault f) r = r ≡ Err f
IsFaultOf Memory r = Unit {0}

abbrev pub three_outputs : Circuit
three_outputs = record {
  inputs = codes "a" ∷ codes "b" ∷ [];
  gates = gate (codes "y") Nand (0 ∷ 0 ∷ []) ∷ gate (codes "s") Buff (2 ∷ []) ∷ [];
  outputs = 1 ∷ 2 ∷ 3 ∷ [];
}

half_adder : reading (codes "INPUT(a)\nINPUT(b)\nOUTPUT(s)\nOUTPUT(c)\ns = XOR(a, b)\nc = AND(a, b)\n") ≡ Ok half
half_adder = refl

no_lines : reading [] ≡ Ok (record { inputs = []; gates = []; outputs = [] })
no_lines = refl

sequential : reading (codes "INPUT(a)\nOUTPUT(z)\nz = DFF(a)\n") ≡ Err (fault 3 Sequential)
sequential = refl

cycle : reading (codes "INPUT(a)\nx = AND(x, a)\n") ≡ Err (fault 2 Cycle)
cycle = refl

bad_line : reading (codes "INPUT(a)\nz = AND(a") ≡ Err (fault 2 BadLine)
bad_line = refl

-- the lines before the second definition name a net that no line defines
duplicate_net : reading (codes "INPUT(a)\nx = NOT(q)\na = NOT(x)\n") ≡ Err (fault 3 DuplicateNet)
duplicate_net = refl

undefined_net : reading (codes "INPUT(a)\nOUTPUT(q)\n") ≡ Err (fault 2 UndefinedNet)
undefined_net = refl

-- comments and empty lines count
later_cycle : reading (codes "# a loop\r\nINPUT(a)\r\n\r\nx = AND(y, a)\r\ny = nand(x, a)\r\n") ≡ Err (fault 4 Cycle)
later_cycle = refl

carriage_returns : reading (codes "INPUT(a)\r\nOUTPUT(b)\r\nINPUT(b)\r\nOUTPUT(y)\r\nOUTPUT(s)\r\ny = nand(a, a)\r\ns = BUF(y)") ≡ Ok three_outputs
carriage_returns = refl
