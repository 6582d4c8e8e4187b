-- The words of a line, in any ASCII case.
use Rattle.std.specs.Prelude.{◌≡◌, ℕ, List, [], ◌∷◌, find, Option, Some, None, option_map, codes, refl}
use Rattle.std.specs.Str.{str_eq_ignore_ascii_case}
use Rattle.circuits.specs.declared.gate_word.GateWord.{GateWord}
use Rattle.circuits.specs.declared.gate_word.GateWord.TheVariants.{And, Nand, Or, Nor, Xor, Xnor, Not, Buff}

abbrev pub gate_words : List (List ℕ × GateWord)
gate_words =
    (codes "AND", And)
    ∷ (codes "NAND", Nand)
    ∷ (codes "OR", Or)
    ∷ (codes "NOR", Nor)
    ∷ (codes "XOR", Xor)
    ∷ (codes "XNOR", Xnor)
    ∷ (codes "NOT", Not)
    ∷ (codes "BUFF", Buff)
    ∷ (codes "BUF", Buff)
    ∷ []

-- what a gate with this word computes
abbrev pub gate_word : List ℕ → Option GateWord
gate_word word = option_map (λ entry. entry.1) (find (λ entry. str_eq_ignore_ascii_case word entry.0) gate_words)

small_letters : gate_word (codes "nAnd") ≡ Some Nand
small_letters = refl

short_word : gate_word (codes "buf") ≡ Some Buff
short_word = refl

no_gate : gate_word (codes "AN") ≡ None
no_gate = refl
