-- What is written of a fault.
use Rattle.std.specs.Prelude.{◌≡◌, ℕ, List, ◌++◌, codes, decimal, refl}
use Rattle.std.specs.Fmt.{digits}
use Rattle.bench_reader.specs.declared.fault.BenchCause.{BenchCause}
use Rattle.bench_reader.specs.declared.fault.BenchCause.TheVariants.{BadLine, UnknownGate, BadArity, DuplicateNet, UndefinedNet, Cycle, Sequential, TooLarge, NotAscii}
use Rattle.bench_reader.specs.declared.fault.BenchError.{BenchError}
use Rattle.bench_reader.specs.declared.fault.BenchError.TheVariants.{Fault, Memory}
use Rattle.bench_reader.specs.declared.fault.BenchFault.{BenchFault}
use Rattle.bench_reader.specs.Faults.{fault}

abbrev pub cause_text : BenchCause → List ℕ
cause_text BadLine = codes "bad-line"
cause_text UnknownGate = codes "unknown-gate"
cause_text BadArity = codes "bad-arity"
cause_text DuplicateNet = codes "duplicate-net"
cause_text UndefinedNet = codes "undefined-net"
cause_text Cycle = codes "cycle"
cause_text Sequential = codes "sequential"
cause_text TooLarge = codes "too-large"
cause_text NotAscii = codes "not-ascii"

-- the number of the line, and the cause
abbrev pub fault_text : BenchFault → List ℕ
fault_text f = decimal f.line ++ codes " " ++ cause_text f.cause

abbrev pub error_text : BenchError → List ℕ
error_text (Fault f) = fault_text f
error_text Memory = codes "out of memory"

sequential : fault_text (fault 13 Sequential) ≡ codes "13 sequential"
unfolding digits
sequential = refl
