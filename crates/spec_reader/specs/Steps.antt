-- For proofs alone: a line's fault and what it says, kind by kind.
use Rattle.std.specs.Prelude.{◌≡◌, ℕ, Bool, true, false, ◌||◌, ◌&&◌, List, [], ◌∷◌, length, nat_lt, nat_le, not, Option, Some, None, Result, Ok, Err, if◌then◌else◌}
use Rattle.std.specs.List.{list_any}
use Rattle.circuits.specs.Circuit.{Circuit, input_count}
use Rattle.circuits.specs.Limits.{is_long}
use Rattle.spec_grammar.specs.declared.fault.SpecCause.{SpecCause}
use Rattle.spec_grammar.specs.declared.fault.SpecCause.TheVariants.{BadLine, UnknownNet, UnknownWord, DuplicateWord, BadOrder, BadSplit, SplitNotForKind, NumberTooLarge, TooLarge}
use Rattle.spec_grammar.specs.declared.limits.TheConstants.{MOST_NESTING}
use Rattle.spec_grammar.specs.Faults.{numbers, has_long_name, is_great, is_word, has_unknown, is_unknown_name, is_no_order, is_no_split, first_cause}
use Rattle.spec_grammar.specs.Forms.{Form, are_nets, order_line, split_line, word_line, check_line, no_form}
use Rattle.spec_grammar.specs.Symbols.{Symbol}
use Rattle.spec_grammar.specs.Trees.{Tree, nesting, formula}
use Rattle.spec_lang.specs.Specification.{Word, Check, named_word}
use Rattle.spec_lang.specs.declared.limits.TheConstants.{MOST_WORDS, MOST_CHECKS, MOST_NETS_OF_WORD, MOST_SYMBOLS}
use Rattle.spec_reader.specs.declared.line_error.LineError.{LineError}
use Rattle.spec_reader.specs.declared.line_error.LineError.TheVariants.{Fault, Memory}
use Rattle.word_base.specs.Kind.{is_allowed}
use Rattle.word_base.specs.declared.decomp.Decomp.{Decomp}
use Rattle.word_base.specs.declared.kind_name.KindName.{KindName}

-- an answer is right where there is no fault, and an error is the fault; want of memory says nothing
abbrev pub Tells : {X : Type 0} → Result X LineError → Option SpecCause → (X → Type 0) → Type 0
Tells (Ok x) fault P = (fault ≡ None) × P x
Tells (Err (Fault cause)) fault P = fault ≡ Some cause
Tells (Err Memory) fault P = Unit {0}

abbrev pub has_some : List (List ℕ) → Bool
has_some [] = false
has_some (name ∷ more) = true

-- names, one or more, each of which may be a net's
abbrev pub is_net_list : List (List ℕ) → Bool
is_net_list names = has_some names && are_nets names

-- the form of a split line with this letter
abbrev pub split_named : Option Decomp → List (List ℕ) → Form
split_named None nets = no_form
split_named (Some letter) nets = if is_net_list nets then split_line letter nets else no_form

abbrev pub order_fault : Circuit → Bool → Form → Option SpecCause
order_fault c given (order_line nets) = first_cause (
    (list_any is_long nets, TooLarge)
    ∷ (has_unknown c nets, UnknownNet)
    ∷ (given || is_no_order (input_count c) (numbers c nets), BadOrder)
    ∷ []
    )
order_fault c given _ = Some BadLine

abbrev pub order_said : Circuit → Form → List ℕ
order_said c (order_line nets) = numbers c nets
order_said c _ = []

abbrev pub split_fault : Circuit → KindName → List (ℕ × Decomp) → Form → Option SpecCause
split_fault c k letters (split_line letter nets) = first_cause (
    (list_any is_long nets, TooLarge)
    ∷ (has_unknown c nets, UnknownNet)
    ∷ (is_no_split (input_count c) letters (numbers c nets), BadSplit)
    ∷ (not (is_allowed k letter), SplitNotForKind)
    ∷ []
    )
split_fault c k letters _ = Some BadLine

abbrev pub split_said : Circuit → Form → Option (Decomp × List ℕ)
split_said c (split_line letter nets) = Some (letter, numbers c nets)
split_said c _ = None

abbrev pub word_fault : Circuit → List Word → Form → Option SpecCause
word_fault c words (word_line text nets) = first_cause (
    (is_long text || list_any is_long nets || nat_lt MOST_NETS_OF_WORD (length nets) || nat_le MOST_WORDS (length words), TooLarge)
    ∷ (is_word words text, DuplicateWord)
    ∷ (has_unknown c nets, UnknownNet)
    ∷ []
    )
word_fault c words _ = Some BadLine

abbrev pub word_said : Circuit → Form → Option Word
word_said c (word_line text nets) = Some (named_word text (numbers c nets))
word_said c _ = None

-- the tests of a check whose sides have these nestings
abbrev pub check_tests : List Word → ℕ → List Symbol → ℕ → ℕ → Option SpecCause
check_tests words checks line left right = first_cause ((
  list_any has_long_name line || nat_lt MOST_SYMBOLS (length line) || nat_le MOST_CHECKS checks
      || nat_lt MOST_NESTING left || nat_lt MOST_NESTING right,
  TooLarge,
)
    ∷ (list_any is_great line, NumberTooLarge)
    ∷ (list_any (is_unknown_name words) line, UnknownWord)
    ∷ []
    )

abbrev pub check_fault : List Word → ℕ → Form → Option SpecCause
check_fault words checks (check_line line left right) = check_tests words checks line (nesting left) (nesting right)
check_fault words checks _ = Some BadLine

abbrev pub sides_said : List Word → Option Tree → Option Tree → Option Check
sides_said words (Some left) (Some right) = Some (record { left = formula words left; right = formula words right })
sides_said words _ _ = None

abbrev pub check_said : List Word → Form → Option Check
check_said words (check_line line left right) = sides_said words (Some left) (Some right)
check_said words _ = None
