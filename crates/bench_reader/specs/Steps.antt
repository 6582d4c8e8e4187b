-- For proofs alone: a line's fault in two parts, what is wrong with the line by itself, and with what it says after
-- others.
use Rattle.std.specs.Prelude.{◌≡◌, ℕ, Bool, List, [], Option, Some, None, Result, Ok, Err, option_map, is_some, length, fold, take, if◌then◌else◌}
use Rattle.std.specs.List.{list_any}
use Rattle.std.specs.Option.{option_or}
use Rattle.circuits.specs.Limits.{AcceptsArity}
use Rattle.netlist.specs.Draft.{Draft, nothing, with_input, with_gate, with_output, input_fault, gate_fault, output_fault}
use Rattle.netlist.specs.declared.fault.NetCause.{NetCause}
use Rattle.netlist.specs.declared.fault.NetCause.TheVariants as net
use Rattle.netlist.specs.declared.fault.NetError.{NetError}
use Rattle.netlist.specs.declared.fault.NetError.TheVariants as net_errors
use Rattle.netlist.specs.declared.fault.NetFault.{NetFault}
use Rattle.bench_reader.specs.declared.fault.BenchCause.{BenchCause}
use Rattle.bench_reader.specs.declared.fault.BenchCause.TheVariants.{DuplicateNet, UndefinedNet, Cycle, TooLarge, NotAscii}
use Rattle.bench_reader.specs.declared.line_error.LineError.{LineError}
use Rattle.bench_reader.specs.declared.line_error.LineError.TheVariants.{Fault, Memory}
use Rattle.bench_reader.specs.declared.statement.Statement as code
use Rattle.bench_reader.specs.Faults.{form_tests, first_cause}
use Rattle.bench_reader.specs.Forms.{Form, form_of}
use Rattle.texts.specs.Lines.{is_above_127, uncommented}
use Rattle.bench_reader.specs.Statements.{Statement, says_input, says_output, says_gate, statement, said_by}
use Rattle.bench_reader.specs.Views.{seen_statement}

-- the tests in front, which look at no earlier line
abbrev pub own_form_fault : Form → Option BenchCause
own_form_fault form = first_cause (take 4 (form_tests [] form))

-- what is wrong with a line by itself, its size apart
abbrev pub own_fault : List ℕ → Option BenchCause
own_fault line = if list_any is_above_127 (uncommented line) then Some NotAscii else own_form_fault (form_of line)

-- what a line of this form says, or what is wrong with it by itself
abbrev pub TellsForm : Result (Option code.Statement) BenchCause → Form → Type 0
TellsForm (Ok said) form = (own_form_fault form ≡ None) × (option_map seen_statement said ≡ statement form)
TellsForm (Err cause) form = own_form_fault form ≡ Some cause

-- the same of the whole line
abbrev pub TellsLine : Result (Option code.Statement) BenchCause → List ℕ → Type 0
TellsLine (Ok said) line = (own_fault line ≡ None) × (option_map seen_statement said ≡ statement (form_of line))
TellsLine (Err cause) line = own_fault line ≡ Some cause

-- what is wrong with a statement after those of a draft
abbrev pub statement_fault : Draft → Statement → Option NetFault
statement_fault d (says_input net) = input_fault d net
statement_fault d (says_output net) = output_fault d net
statement_fault d (says_gate net word inputs) = gate_fault d net inputs

abbrev pub with_statement : Draft → Statement → Draft
with_statement d (says_input net) = with_input d net
with_statement d (says_output net) = with_output d net
with_statement d (says_gate net word inputs) = with_gate d net word inputs

abbrev pub cause_of : NetCause → BenchCause
cause_of net.DuplicateNet = DuplicateNet
cause_of net.UndefinedNet = UndefinedNet
cause_of net.Cycle = Cycle
cause_of net.TooLarge = TooLarge

-- what is wrong with what a line says, if it says anything
abbrev pub draft_fault : Draft → Option Statement → Option BenchCause
draft_fault d None = None
draft_fault d (Some said) = option_map (λ f. cause_of f.cause) (statement_fault d said)

abbrev pub with_said : Draft → Option Statement → Draft
with_said d None = d
with_said d (Some said) = with_statement d said

-- what is wrong with a line after what a draft has
abbrev pub line_fault_after : Draft → List ℕ → Option BenchCause
line_fault_after d line = option_or (own_fault line) (draft_fault d (said_by line))

-- the draft of what is said
abbrev pub drafted : List Statement → Draft
drafted all = fold with_statement nothing all

-- a gate's word takes its inputs
abbrev pub IsSized : Statement → Type 0
IsSized (says_input net) = Unit {0}
IsSized (says_output net) = Unit {0}
IsSized (says_gate net word inputs) = AcceptsArity word (length inputs)

abbrev pub line_error_of : NetError → LineError
line_error_of (net_errors.Fault f) = Fault (cause_of f.cause)
line_error_of net_errors.Memory = Memory

-- A refusal has this cause. Want of memory says nothing.
abbrev pub HasCause : LineError → Option BenchCause → Type 0
HasCause (Fault cause) o = o ≡ Some cause
HasCause Memory o = Unit {0}

-- A line is refused for its cause, and for want of memory only where nothing is wrong with it by itself.
abbrev pub RefusesLine : LineError → Draft → List ℕ → Type 0
RefusesLine (Fault cause) d line = line_fault_after d line ≡ Some cause
RefusesLine Memory d line = own_fault line ≡ None

-- the line has no fault, and the draft has what it says, if it says anything
pub record Adds (before after : Draft) (line : List ℕ) (says : Bool) : Type 0 where
  pub no_fault : line_fault_after before line ≡ None
  pub added : after ≡ with_said before (said_by line)
  pub told : says ≡ is_some (said_by line)
