-- What is wrong with a line that comes after others.
use Rattle.std.specs.Prelude.{◌≡◌, ℕ, Bool, true, false, not, ◌||◌, List, [], ◌∷◌, ◌++◌, length, find, filter_map, replicate, nat_lt, nat_le, Option, Some, None, is_none, option_map, codes, bytes_eq, if◌then◌else◌, refl}
use Rattle.std.specs.List.{list_any}
use Rattle.std.specs.Option.{option_map_or}
use Rattle.std.specs.Str.{str_eq_ignore_ascii_case}
use Rattle.circuits.specs.Limits.{is_long, takes}
use Rattle.circuits.specs.declared.limits.TheConstants.{MOST_INPUTS, MOST_GATES, MOST_FANIN}
use Rattle.circuits.specs.declared.gate_word.GateWord.TheVariants.{And}
use Rattle.bench_reader.specs.declared.fault.BenchCause.{BenchCause}
use Rattle.bench_reader.specs.declared.fault.BenchCause.TheVariants.{BadLine, UnknownGate, BadArity, DuplicateNet, Sequential, TooLarge, NotAscii}
use Rattle.bench_reader.specs.declared.fault.BenchFault.{BenchFault}
use Rattle.bench_reader.specs.Forms.{Form, input, output, gate, no_form, form_of}
use Rattle.texts.specs.Lines.{is_above_127, uncommented}
use Rattle.bench_reader.specs.Statements.{Statement, says_input, says_gate, input_name, gate_name, nets}
use Rattle.bench_reader.specs.Words.{gate_word}

abbrev pub has_no_form : Form → Bool
has_no_form no_form = true
has_no_form _ = false

abbrev pub is_sequential : Form → Bool
is_sequential (gate net word inputs) = str_eq_ignore_ascii_case word (codes "DFF")
is_sequential _ = false

abbrev pub has_unknown_word : Form → Bool
has_unknown_word (gate net word inputs) = is_none (gate_word word)
has_unknown_word _ = false

abbrev pub has_bad_arity : Form → Bool
has_bad_arity (gate net word inputs) = option_map_or (λ w. not (takes w (length inputs))) (gate_word word) false
has_bad_arity _ = false

-- a name or the inputs of a gate above their limit, or an input or a gate more than there may be
abbrev pub is_too_large : List Statement → Form → Bool
is_too_large earlier (input net) = is_long net || nat_le MOST_INPUTS (length (filter_map input_name earlier))
is_too_large earlier (output net) = is_long net
is_too_large earlier (gate net word inputs) =
    is_long net || list_any is_long inputs || nat_lt MOST_FANIN (length inputs) || nat_le MOST_GATES (length (filter_map gate_name earlier))
is_too_large earlier _ = false

abbrev pub is_defined : List Statement → List ℕ → Bool
is_defined all net = list_any (bytes_eq net) (nets all)

abbrev pub is_duplicate : List Statement → Form → Bool
is_duplicate earlier (input net) = is_defined earlier net
is_duplicate earlier (gate net word inputs) = is_defined earlier net
is_duplicate earlier _ = false

abbrev pub fault : ℕ → BenchCause → BenchFault
fault line cause = record { line = line; cause = cause }

-- the cause of the first test that holds
abbrev pub first_cause : List (Bool × BenchCause) → Option BenchCause
first_cause tests = option_map (λ t. t.1) (find (λ t. t.0) tests)

-- what may be wrong with a line of this form, after what earlier lines say, in the order in which it is sought
abbrev pub form_tests : List Statement → Form → List (Bool × BenchCause)
form_tests earlier form =
    (has_no_form form, BadLine)
    ∷ (is_sequential form, Sequential)
    ∷ (has_unknown_word form, UnknownGate)
    ∷ (has_bad_arity form, BadArity)
    ∷ (is_too_large earlier form, TooLarge)
    ∷ (is_duplicate earlier form, DuplicateNet)
    ∷ []

abbrev pub form_fault : List Statement → Form → Option BenchCause
form_fault earlier form = first_cause (form_tests earlier form)

-- what is wrong with a line, after what earlier lines say
abbrev pub line_fault : List Statement → List ℕ → Option BenchCause
line_fault earlier line = if list_any is_above_127 (uncommented line) then Some NotAscii else form_fault earlier (form_of line)

bad_arity : line_fault [] (codes "z = NOT(a, b)") ≡ Some BadArity
bad_arity = refl

-- the first cause in the order above decides
unknown_and_bad_arity : line_fault [] (codes "z = NEITHER()") ≡ Some UnknownGate
unknown_and_bad_arity = refl

above_127 : line_fault [] (codes "z = AND(a" ++ 195 ∷ []) ≡ Some NotAscii
above_127 = refl

above_127_in_comment : line_fault [] (codes "z = AND(a) #" ++ 195 ∷ []) ≡ None
above_127_in_comment = refl

long_name : line_fault [] (codes "OUTPUT(" ++ replicate 65 97 ++ codes ")") ≡ Some TooLarge
long_name = refl

longest_name : line_fault [] (codes "OUTPUT(" ++ replicate 64 97 ++ codes ")") ≡ None
longest_name = refl

second_definition : line_fault (says_gate (codes "z") And (codes "a" ∷ []) ∷ []) (codes "INPUT(z)") ≡ Some DuplicateNet
second_definition = refl

input_257 : line_fault (replicate 256 (says_input (codes "a"))) (codes "INPUT(a)") ≡ Some TooLarge
input_257 = refl
