-- What a call answers in place of a netlist.
use Rattle.std.specs.Prelude.{◌≡◌, ℕ, List, ◌++◌, Option, Some, None, Result, Ok, Err, ⊤, codes, decimal, refl}
use Rattle.netlist.specs.declared.fault.NetCause.{NetCause}
use Rattle.netlist.specs.declared.fault.NetCause.TheVariants.{DuplicateNet, UndefinedNet, Cycle, TooLarge}
use Rattle.netlist.specs.declared.fault.NetFault.{NetFault}
use Rattle.netlist.specs.declared.fault.NetError.{NetError}
use Rattle.netlist.specs.declared.fault.NetError.TheVariants.{Fault, Memory}

abbrev pub fault : ℕ → NetCause → NetFault
fault at cause = record { at = at; cause = cause }

-- Ok where there is no fault, and else the fault. Want of memory is answered only where there is no fault.
abbrev pub Answers : {T : Type 0} → Result T NetError → Option NetFault → Type 0
Answers (Ok value) o = o ≡ None
Answers (Err (Fault f)) o = o ≡ Some f
Answers (Err Memory) o = o ≡ None

-- the same of a call that takes memory before it has looked for all faults
abbrev pub AnswersInMemory : {T : Type 0} → Result T NetError → Option NetFault → Type 0
AnswersInMemory (Ok value) o = o ≡ None
AnswersInMemory (Err (Fault f)) o = o ≡ Some f
AnswersInMemory (Err Memory) o = ⊤

abbrev pub cause_text : NetCause → List ℕ
cause_text DuplicateNet = codes "the net is defined twice"
cause_text UndefinedNet = codes "a net is not defined"
cause_text Cycle = codes "the gate reaches itself"
cause_text TooLarge = codes "above a limit"

abbrev pub fault_text : NetFault → List ℕ
fault_text f = codes "call " ++ decimal f.at ++ codes ": " ++ cause_text f.cause

abbrev pub error_text : NetError → List ℕ
error_text (Fault f) = fault_text f
error_text Memory = codes "out of memory"

text-of_memory : error_text Memory ≡ codes "out of memory"
text-of_memory = refl
