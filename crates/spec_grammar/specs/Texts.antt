-- What is written of a fault.
use Rattle.std.specs.Prelude.{◌≡◌, ℕ, List, ◌++◌, codes, decimal, refl}
use Rattle.std.specs.Fmt.{digits}
use Rattle.spec_grammar.specs.declared.fault.SpecCause.{SpecCause}
use Rattle.spec_grammar.specs.declared.fault.SpecCause.TheVariants.{BadLine, UnknownNet, UnknownWord, DuplicateWord, BadOrder, BadSplit, SplitNotForKind, NumberTooLarge, TooLarge, NoCheck}
use Rattle.spec_grammar.specs.declared.fault.SpecError.{SpecError}
use Rattle.spec_grammar.specs.declared.fault.SpecError.TheVariants.{Fault, Memory}
use Rattle.spec_grammar.specs.declared.fault.SpecFault.{SpecFault}

abbrev pub cause_text : SpecCause → List ℕ
cause_text BadLine = codes "bad-line"
cause_text UnknownNet = codes "unknown-net"
cause_text UnknownWord = codes "unknown-word"
cause_text DuplicateWord = codes "duplicate-word"
cause_text BadOrder = codes "bad-order"
cause_text BadSplit = codes "bad-split"
cause_text SplitNotForKind = codes "split-not-for-kind"
cause_text NumberTooLarge = codes "number-too-large"
cause_text TooLarge = codes "too-large"
cause_text NoCheck = codes "no-check"

-- the number of the line, and the cause
abbrev pub fault_text : SpecFault → List ℕ
fault_text f = decimal f.line ++ codes " " ++ cause_text f.cause

abbrev pub error_text : SpecError → List ℕ
error_text (Fault f) = fault_text f
error_text Memory = codes "out of memory"

text-no_check : fault_text (record { line = 0; cause = NoCheck }) ≡ codes "0 no-check"
unfolding digits
text-no_check = refl

text-split : fault_text (record { line = 13; cause = SplitNotForKind }) ≡ codes "13 split-not-for-kind"
unfolding digits
text-split = refl
