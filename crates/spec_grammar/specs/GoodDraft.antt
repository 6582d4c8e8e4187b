-- For proofs alone: what holds of what the lines of a text say.
use Rattle.std.specs.Prelude.{◌≡◌, ℕ, ◌<◌, ◌≤◌, true, List, length, All, Option, Some, None}
use Rattle.circuits.specs.Circuit.{Circuit, input_count, net_count}
use Rattle.spec_grammar.specs.Faults.{Draft}
use Rattle.spec_lang.specs.Size.{check_size}
use Rattle.spec_lang.specs.WellFormed.{IsSizedWord, IsOrder, NamesWords}
use Rattle.spec_lang.specs.declared.limits.TheConstants.{MOST_WORDS, MOST_CHECKS, MOST_SYMBOLS}
use Rattle.word_base.specs.Kind.{is_allowed}
use Rattle.word_base.specs.declared.kind_name.KindName.{KindName}

pub record ListsInputs (inputs : ℕ) (ns : List ℕ) : Type 0 where
  pub order : IsOrder ns
  pub one_each : length ns ≡ inputs

abbrev pub IsGoodOrder : Circuit → Option (List ℕ) → Type 0
IsGoodOrder c None = Unit {0}
IsGoodOrder c (Some ns) = ListsInputs (input_count c) ns

pub record IsGood (c : Circuit) (k : KindName) (d : Draft) : Type 0 where
  pub order : IsGoodOrder c d.order
  pub letters : All (λ p. is_allowed k p.1 ≡ true) d.letters
  pub few_words : length d.words ≤ MOST_WORDS
  pub each_word : All IsSizedWord d.words
  pub nets : All (λ w. All (λ net. net < net_count c) w.nets) d.words
  pub few_checks : length d.checks ≤ MOST_CHECKS
  pub each_check : All (NamesWords (length d.words)) d.checks
  pub few_symbols : All (λ check. check_size check ≤ MOST_SYMBOLS) d.checks
