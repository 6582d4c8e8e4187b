-- What a text says: a specification, or its first fault.
use Rattle.std.specs.Prelude.{◌≡◌, ℕ, ◌+◌, ◌==◌, List, [], ◌∷◌, ◌++◌, map, find, Option, Some, None, unwrap_or, Result, Ok, Err, pos, codes, refl}
use Rattle.std.specs.List.{range_with_len}
use Rattle.std.specs.Option.{option_map_or}
use Rattle.circuits.specs.Circuit.{Circuit, input_count}
use Rattle.circuits.specs.Examples.{half}
use Rattle.spec_grammar.specs.declared.fault.SpecCause.{SpecCause}
use Rattle.spec_grammar.specs.declared.fault.SpecCause.TheVariants.{BadLine, UnknownWord, BadOrder, SplitNotForKind, NumberTooLarge, NoCheck}
use Rattle.spec_grammar.specs.declared.fault.SpecError.{SpecError}
use Rattle.spec_grammar.specs.declared.fault.SpecError.TheVariants.{Fault, Memory}
use Rattle.spec_grammar.specs.declared.fault.SpecFault.{SpecFault}
use Rattle.spec_grammar.specs.Faults.{Draft, empty_draft, with_form, line_fault, fault}
use Rattle.spec_grammar.specs.Forms.{form_of}
use Rattle.spec_lang.specs.Formula.{number, word, negative, sum, difference, product}
use Rattle.spec_lang.specs.Specification.{Check, Specification, named_word, specification, single, half_adder}
use Rattle.texts.specs.Lines.{lines}
use Rattle.word_base.specs.Kind.{usual_letter}
use Rattle.word_base.specs.declared.decomp.Decomp.{Decomp}
use Rattle.word_base.specs.declared.decomp.Decomp.TheVariants.{S, P, N}
use Rattle.word_base.specs.declared.kind_name.KindName.{KindName}
use Rattle.word_base.specs.declared.kind_name.KindName.TheVariants.{Evbdd, StarBmd, Hdd}

-- the order that was asked for, or that of the inputs by number
abbrev pub chosen_order : Circuit → Draft → List ℕ
chosen_order c d = unwrap_or d.order (range_with_len 0 (input_count c))

-- the letter that was asked for, or the usual one of the kind
abbrev pub chosen_letter : KindName → Draft → ℕ → Decomp
chosen_letter k d n = option_map_or (λ p. p.1) (find (λ p. p.0 == n) d.letters) (usual_letter k)

-- Order and letters hold for all checks, wherever they stand.
abbrev pub specified : Circuit → KindName → Draft → Specification
specified c k d = let order = chosen_order c d in specification order (map (chosen_letter k d) order) d.words d.checks

abbrev pub at_end : List Check → Specification → Result Specification SpecFault
at_end [] spec = Err (fault 0 NoCheck)
at_end (check ∷ more) spec = Ok spec

-- a line's fault, or else what follows
abbrev pub unless : Option SpecCause → ℕ → Result Specification SpecFault → Result Specification SpecFault
unless (Some cause) n later = Err (fault n cause)
unless None n later = later

-- what lines say from line n on, after what earlier lines say: the first line with a fault decides
abbrev pub reading_from : Circuit → KindName → ℕ → Draft → List (List ℕ) → Result Specification SpecFault
reading_from c k n d [] = at_end d.checks (specified c k d)
reading_from c k n d (line ∷ more) = unless (line_fault c k d line) n (reading_from c k (n + 1) (with_form c d (form_of line)) more)

-- Over a netlist and for a kind of diagram, each text has one specification or one first fault.
abbrev pub reading : Circuit → KindName → List ℕ → Result Specification SpecFault
reading c k bytes = reading_from c k 1 empty_draft (lines bytes)

-- The error has the reading's fault. Want of memory says nothing.
abbrev pub IsFaultOf : SpecError → Result Specification SpecFault → Type 0
IsFaultOf (Fault f) r = r ≡ Err f
IsFaultOf Memory r = Unit {0}

abbrev half_words : List ℕ
half_words = codes "word a = a\nword b = b\nword s = s\nword c = c\n"

half_is_read : reading half Hdd (half_words ++ codes "check s + 2*c == a + b\n") ≡ Ok half_adder
half_is_read = refl

-- without LF at the end, with white space, comments and empty lines
half_in_other_bytes : reading half Hdd (codes "#\r\n" ++ half_words ++ codes "\n \t# sum\n\tcheck\ts+2 * c==a+b#") ≡ Ok half_adder
half_in_other_bytes = refl

-- the order and the letters of a later line hold, and the check comes before the last words
ordered : reading half Hdd (codes "word w = a s\ncheck -w == 07 - w\norder b a\nsplit N a\nword x = b\n")
    ≡ Ok (specification
    (1 ∷ 0 ∷ [])
    (P ∷ N ∷ [])
    (named_word (codes "w") (0 ∷ 2 ∷ []) ∷ single (codes "x") 1 ∷ [])
    (record { left = negative (word 0); right = difference (number (pos 7)) (word 0) } ∷ []))
ordered = refl

two_checks : reading half Evbdd (codes "check 1 == 1\ncheck 2*(1 + 1) == 4")
    ≡ Ok (specification
    (0 ∷ 1 ∷ [])
    (S ∷ S ∷ [])
    []
    (record { left = number (pos 1); right = number (pos 1) }
    ∷ record { left = product (number (pos 2)) (sum (number (pos 1)) (number (pos 1))); right = number (pos 4) }
    ∷ []))
two_checks = refl

no_lines : reading half Hdd [] ≡ Err (fault 0 NoCheck)
no_lines = refl

no_check : reading half Hdd half_words ≡ Err (fault 0 NoCheck)
no_check = refl

-- the first of two lines with a fault, and lines without symbols count
first_line : reading half Hdd (codes "\n# a\norder a\ncheck a ==\n") ≡ Err (fault 3 BadOrder)
first_line = refl

fault_before_no_check : reading half Hdd (codes "word a = a\nword") ≡ Err (fault 2 BadLine)
fault_before_no_check = refl

-- a check names words of earlier lines
word_too_late : reading half Hdd (codes "check a == 0\nword a = a\n") ≡ Err (fault 1 UnknownWord)
word_too_late = refl

split_for_another_kind : reading half Evbdd (codes "split P a\n" ++ half_words ++ codes "check a == a\n") ≡ Err (fault 1 SplitNotForKind)
split_for_another_kind = refl

too_large : reading half StarBmd (codes "check 170141183460469231731687303715884105728 == 0\n") ≡ Err (fault 1 NumberTooLarge)
too_large = refl
