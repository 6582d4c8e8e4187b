-- For proofs alone: the error of a line.
use Rattle.std.specs.Prelude.{◌≡◌, ℕ}
use Rattle.spec_grammar.specs.declared.fault.SpecError.{SpecError}
use Rattle.spec_grammar.specs.declared.fault.SpecError.TheVariants.{Fault, Memory}
use Rattle.spec_grammar.specs.Faults.{fault}
use Rattle.spec_reader.specs.declared.line_error.LineError.{LineError}
use Rattle.spec_reader.specs.declared.line_error.LineError.TheVariants as line_errors

-- the error is that of a line with this number
abbrev pub IsAtLine : ℕ → LineError → SpecError → Type 0
IsAtLine line (line_errors.Fault cause) error = error ≡ Fault (fault line cause)
IsAtLine line line_errors.Memory error = error ≡ Memory
