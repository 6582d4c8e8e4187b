-- What holds of each specification that a text says.
use Rattle.std.specs.Prelude.{◌≡◌, ℕ, true, List, All, Ok}
use Rattle.circuits.specs.Circuit.{Circuit}
use Rattle.spec_grammar.specs.Reading.{reading}
use Rattle.spec_lang.specs.Specification.{Specification}
use Rattle.spec_lang.specs.WellFormed.{IsWellFormed, IsOver}
use Rattle.word_base.specs.Kind.{is_allowed}
use Rattle.word_base.specs.declared.kind_name.KindName.{KindName}

-- it is well formed, over the netlist, and the kind has each of its letters
pub record IsReadFor (c : Circuit) (k : KindName) (s : Specification) : Type 0 where
  pub well_formed : IsWellFormed s
  pub over : IsOver c s
  pub letters : All (λ letter. is_allowed k letter ≡ true) s.letters

abbrev pub ReadingIsWellFormed : Type 0
ReadingIsWellFormed = (c : Circuit) (k : KindName) (bytes : List ℕ) (s : Specification) → reading c k bytes ≡ Ok s → IsReadFor c k s
