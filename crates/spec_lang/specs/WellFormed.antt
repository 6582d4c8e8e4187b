-- What holds of each specification that is made, and when one is over a circuit.
use Rattle.std.specs.Prelude.{◌≡◌, ℕ, ◌<◌, ◌≤◌, List, length, nat_eq, All, Contains, ◌↔◌, codes}
use Rattle.std.specs.List.{IsDistinct}
use Rattle.std.proofs.Math.Dec.{lit<, lit≤}
use Rattle.circuits.specs.Circuit.{Circuit, input_count, net_count}
use Rattle.spec_lang.specs.declared.limits.TheConstants.{MOST_WORDS, MOST_CHECKS, MOST_NETS_OF_WORD, MOST_SYMBOLS}
use Rattle.spec_lang.specs.Formula.{Formula}
use Rattle.spec_lang.specs.Named.{namings}
use Rattle.spec_lang.specs.Size.{check_size}
use Rattle.spec_lang.specs.Specification.{Word, Check, Specification, single}

-- a word has nets, and not too many
pub record IsSizedWord (w : Word) : Type 0 where
  pub some : 0 < length w.nets
  pub few : length w.nets ≤ MOST_NETS_OF_WORD

-- each word that the formula names is one of so many
abbrev pub NamesBelow : ℕ → Formula → Type 0
NamesBelow words formula = All (λ w. w < words) (namings formula)

pub record NamesWords (words : ℕ) (check : Check) : Type 0 where
  pub left : NamesBelow words check.left
  pub right : NamesBelow words check.right

-- the numbers below the length, each once
pub record IsOrder (order : List ℕ) : Type 0 where
  pub no_input_twice : IsDistinct nat_eq order
  pub each_input : (net : ℕ) → Contains order net ↔ (net < length order)

pub record IsWellFormed (s : Specification) : Type 0 where
  pub order : IsOrder s.order
  pub one_letter_each : length s.letters ≡ length s.order
  pub few_words : length s.words ≤ MOST_WORDS
  pub few_checks : length s.checks ≤ MOST_CHECKS
  pub each_word : All IsSizedWord s.words
  pub each_check : All (NamesWords (length s.words)) s.checks
  pub few_symbols : All (λ check. check_size check ≤ MOST_SYMBOLS) s.checks

-- the order is over the circuit's inputs, and the words over its nets
pub record IsOver (c : Circuit) (s : Specification) : Type 0 where
  pub inputs : length s.order ≡ input_count c
  pub nets : All (λ w. All (λ net. net < net_count c) w.nets) s.words

sized : IsSizedWord (single (codes "a") 0)
sized = record { some = lit< tt; few = lit≤ tt }
