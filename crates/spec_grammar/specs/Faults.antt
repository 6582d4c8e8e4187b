-- What earlier lines say, and what is wrong with a line that comes after them.
use Rattle.std.specs.Prelude.{◌≡◌, ℕ, ◌^◌, ◌==◌, Bool, true, false, not, ◌||◌, List, [], ◌∷◌, ◌++◌, length, map, find, filter_map, replicate, nat_lt, nat_le, Option, Some, None, is_some, is_none, option_map, codes, refl}
use Rattle.std.specs.List.{list_any, range_with_len}
use Rattle.std.specs.Str.{bytes_eq}
use Rattle.std.specs.Str.Parse.{digits_value}
use Rattle.circuits.specs.Circuit.{Circuit, input_count}
use Rattle.circuits.specs.Examples.{half}
use Rattle.circuits.specs.Limits.{is_long}
use Rattle.circuits.specs.Names.{net_of}
use Rattle.spec_grammar.specs.declared.fault.SpecCause.{SpecCause}
use Rattle.spec_grammar.specs.declared.fault.SpecCause.TheVariants.{BadLine, UnknownNet, UnknownWord, DuplicateWord, BadOrder, BadSplit, SplitNotForKind, NumberTooLarge, TooLarge}
use Rattle.spec_grammar.specs.declared.fault.SpecFault.{SpecFault}
use Rattle.spec_grammar.specs.declared.limits.TheConstants.{MOST_NESTING}
use Rattle.spec_grammar.specs.Forms.{Form, order_line, split_line, word_line, check_line, no_form, form_of}
use Rattle.spec_grammar.specs.Symbols.{Symbol, digits, name}
use Rattle.spec_grammar.specs.Trees.{nesting, formula}
use Rattle.spec_lang.specs.Specification.{Word, Check, named_word, single, half_adder_check}
use Rattle.spec_lang.specs.declared.limits.TheConstants.{MOST_WORDS, MOST_CHECKS, MOST_NETS_OF_WORD, MOST_SYMBOLS}
use Rattle.word_base.specs.Kind.{is_allowed}
use Rattle.word_base.specs.declared.decomp.Decomp.{Decomp}
use Rattle.word_base.specs.declared.kind_name.KindName.{KindName}
use Rattle.word_base.specs.declared.kind_name.KindName.TheVariants.{Evbdd, StarBmd, Hdd}

-- the order and the letters of inputs that lines ask for, the words and the checks
pub record Draft : Type 0 where
  pub order : Option (List ℕ)
  pub letters : List (ℕ × Decomp)
  pub words : List Word
  pub checks : List Check

abbrev pub draft : Option (List ℕ) → List (ℕ × Decomp) → List Word → List Check → Draft
draft order letters words checks = record { order = order; letters = letters; words = words; checks = checks }

abbrev pub empty_draft : Draft
empty_draft = draft None [] [] []

-- the numbers of these nets
abbrev pub numbers : Circuit → List (List ℕ) → List ℕ
numbers c nets = filter_map (net_of c) nets

-- what lines say, with a line of this form after them
abbrev pub with_form : Circuit → Draft → Form → Draft
with_form c d (order_line nets) = draft (Some (numbers c nets)) d.letters d.words d.checks
with_form c d (split_line letter nets) = draft d.order (d.letters ++ map (λ n. (n, letter)) (numbers c nets)) d.words d.checks
with_form c d (word_line text nets) = draft d.order d.letters (d.words ++ named_word text (numbers c nets) ∷ []) d.checks
with_form c d (check_line line left right) =
    draft d.order d.letters d.words (d.checks ++ record { left = formula d.words left; right = formula d.words right } ∷ [])
with_form c d _ = d

abbrev pub has_no_form : Form → Bool
has_no_form no_form = true
has_no_form _ = false

abbrev pub has_long_name : Symbol → Bool
has_long_name (name a) = is_long a
has_long_name _ = false

-- a name, a word, a check or its nesting above its limit, or a word or a check more than there may be
abbrev pub is_too_large : Draft → Form → Bool
is_too_large d (order_line nets) = list_any is_long nets
is_too_large d (split_line letter nets) = list_any is_long nets
is_too_large d (word_line text nets) =
    is_long text || list_any is_long nets || nat_lt MOST_NETS_OF_WORD (length nets) || nat_le MOST_WORDS (length d.words)
is_too_large d (check_line line left right) =
    list_any has_long_name line || nat_lt MOST_SYMBOLS (length line) || nat_le MOST_CHECKS (length d.checks)
    || nat_lt MOST_NESTING (nesting left) || nat_lt MOST_NESTING (nesting right)
is_too_large d _ = false

-- a number from 2^127 on
abbrev pub is_great : Symbol → Bool
is_great (digits ds) = nat_le (2 ^ 127) (digits_value 10 ds)
is_great _ = false

abbrev pub has_great_number : Form → Bool
has_great_number (check_line line left right) = list_any is_great line
has_great_number _ = false

abbrev pub is_word : List Word → List ℕ → Bool
is_word words text = list_any (λ w. bytes_eq text w.name) words

abbrev pub is_duplicate : Draft → Form → Bool
is_duplicate d (word_line text nets) = is_word d.words text
is_duplicate d _ = false

abbrev pub has_unknown : Circuit → List (List ℕ) → Bool
has_unknown c nets = list_any (λ net. is_none (net_of c net)) nets

abbrev pub has_unknown_net : Circuit → Form → Bool
has_unknown_net c (order_line nets) = has_unknown c nets
has_unknown_net c (split_line letter nets) = has_unknown c nets
has_unknown_net c (word_line text nets) = has_unknown c nets
has_unknown_net c _ = false

abbrev pub is_unknown_name : List Word → Symbol → Bool
is_unknown_name words (name a) = not (is_word words a)
is_unknown_name words _ = false

abbrev pub has_unknown_word : Draft → Form → Bool
has_unknown_word d (check_line line left right) = list_any (is_unknown_name d.words) line
has_unknown_word d _ = false

-- a net that is no input
abbrev pub has_other_net : ℕ → List ℕ → Bool
has_other_net inputs nets = list_any (λ n. nat_le inputs n) nets

-- a number that stands twice
abbrev pub has_repetition : List ℕ → Bool
has_repetition [] = false
has_repetition (n ∷ more) = list_any (λ m. m == n) more || has_repetition more

-- an input that is not there
abbrev pub lacks_input : ℕ → List ℕ → Bool
lacks_input inputs nets = list_any (λ n. not (list_any (λ m. m == n) nets)) (range_with_len 0 inputs)

abbrev pub is_no_order : ℕ → List ℕ → Bool
is_no_order inputs nets = has_other_net inputs nets || has_repetition nets || lacks_input inputs nets

-- a second order line, or one that does not name each input once
abbrev pub is_bad_order : Circuit → Draft → Form → Bool
is_bad_order c d (order_line nets) = is_some d.order || is_no_order (input_count c) (numbers c nets)
is_bad_order c d _ = false

abbrev pub has_letter : List (ℕ × Decomp) → ℕ → Bool
has_letter letters n = list_any (λ p. p.0 == n) letters

-- a net that is no input, or an input that has a letter by this or an earlier line
abbrev pub is_no_split : ℕ → List (ℕ × Decomp) → List ℕ → Bool
is_no_split inputs letters nets = has_other_net inputs nets || has_repetition nets || list_any (has_letter letters) nets

abbrev pub is_bad_split : Circuit → Draft → Form → Bool
is_bad_split c d (split_line letter nets) = is_no_split (input_count c) d.letters (numbers c nets)
is_bad_split c d _ = false

abbrev pub is_not_for_kind : KindName → Form → Bool
is_not_for_kind k (split_line letter nets) = not (is_allowed k letter)
is_not_for_kind k _ = false

-- the cause of the first test that holds
abbrev pub first_cause : List (Bool × SpecCause) → Option SpecCause
first_cause tests = option_map (λ t. t.1) (find (λ t. t.0) tests)

-- what may be wrong with a line of this form, after what earlier lines say, in the order in which it is sought
abbrev pub form_tests : Circuit → KindName → Draft → Form → List (Bool × SpecCause)
form_tests c k d form =
    (has_no_form form, BadLine)
    ∷ (is_too_large d form, TooLarge)
    ∷ (has_great_number form, NumberTooLarge)
    ∷ (is_duplicate d form, DuplicateWord)
    ∷ (has_unknown_net c form, UnknownNet)
    ∷ (has_unknown_word d form, UnknownWord)
    ∷ (is_bad_order c d form, BadOrder)
    ∷ (is_bad_split c d form, BadSplit)
    ∷ (is_not_for_kind k form, SplitNotForKind)
    ∷ []

abbrev pub form_fault : Circuit → KindName → Draft → Form → Option SpecCause
form_fault c k d form = first_cause (form_tests c k d form)

-- what is wrong with a line, after what earlier lines say
abbrev pub line_fault : Circuit → KindName → Draft → List ℕ → Option SpecCause
line_fault c k d line = form_fault c k d (form_of line)

abbrev pub fault : ℕ → SpecCause → SpecFault
fault line cause = record { line = line; cause = cause }

-- over the half adder with the inputs a and b and the gates s and c, after a word a
abbrev after_a : Draft
after_a = draft None [] (single (codes "a") 0 ∷ []) []

no_fault : line_fault half Hdd after_a (codes "check a*a == 1") ≡ None
no_fault = refl

bad_line : line_fault half Hdd after_a (codes "check a*a = 1") ≡ Some BadLine
bad_line = refl

long_net : line_fault half Hdd after_a (codes "order " ++ replicate 65 97) ≡ Some TooLarge
long_net = refl

-- a name of 64 bytes is unknown
longest_net : line_fault half Hdd after_a (codes "order " ++ replicate 64 97) ≡ Some UnknownNet
longest_net = refl

long_name : line_fault half Hdd after_a (codes "check " ++ replicate 65 97 ++ codes " == 1") ≡ Some TooLarge
long_name = refl

longest_name : line_fault half Hdd after_a (codes "check " ++ replicate 64 97 ++ codes " == 1") ≡ Some UnknownWord
longest_name = refl

word_65 : line_fault half Hdd (draft None [] (replicate 64 (single (codes "x") 0)) []) (codes "word a = a") ≡ Some TooLarge
word_65 = refl

check_65 : line_fault half Hdd (draft None [] [] (replicate 64 (half_adder_check))) (codes "check 1 == 1") ≡ Some TooLarge
check_65 = refl

greatest_number : line_fault half Hdd after_a (codes "check 170141183460469231731687303715884105727 == a") ≡ None
greatest_number = refl

number_too_large : line_fault half Hdd after_a (codes "check b == 170141183460469231731687303715884105728") ≡ Some NumberTooLarge
number_too_large = refl

nested_64 : line_fault half Hdd after_a (codes "check a == " ++ replicate 63 45 ++ codes "(a)") ≡ None
nested_64 = refl

nested_65 : line_fault half Hdd after_a (codes "check a == " ++ replicate 64 45 ++ codes "(a)") ≡ Some TooLarge
nested_65 = refl

duplicate_word : line_fault half Hdd after_a (codes "word a = t") ≡ Some DuplicateWord
duplicate_word = refl

unknown_net : line_fault half Hdd after_a (codes "word b = b t") ≡ Some UnknownNet
unknown_net = refl

unknown_word : line_fault half Hdd after_a (codes "check a == b") ≡ Some UnknownWord
unknown_word = refl

second_order : line_fault half Hdd (draft (Some (0 ∷ 1 ∷ [])) [] [] []) (codes "order a b") ≡ Some BadOrder
second_order = refl

order_of_gate : line_fault half Hdd after_a (codes "order a b s") ≡ Some BadOrder
order_of_gate = refl

order_with_input_twice : line_fault half Hdd after_a (codes "order a b a") ≡ Some BadOrder
order_with_input_twice = refl

order_lacks_input : line_fault half Hdd after_a (codes "order b") ≡ Some BadOrder
order_lacks_input = refl

good_order : line_fault half Hdd after_a (codes "order b a") ≡ None
good_order = refl

-- the first cause in the order above decides
unknown_net_in_order : line_fault half Hdd after_a (codes "order a a t") ≡ Some UnknownNet
unknown_net_in_order = refl

split_of_gate : line_fault half Hdd after_a (codes "split N s") ≡ Some BadSplit
split_of_gate = refl

split_of_input_twice : line_fault half Hdd after_a (codes "split N a a") ≡ Some BadSplit
split_of_input_twice = refl

split_of_split_input : line_fault half Evbdd (with_form half after_a (form_of (codes "split S b"))) (codes "split N a b") ≡ Some BadSplit
split_of_split_input = refl

split_not_for_kind : line_fault half StarBmd after_a (codes "split N a b") ≡ Some SplitNotForKind
split_not_for_kind = refl
