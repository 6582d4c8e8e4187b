-- What is written of a fault.
use Rattle.std.specs.Prelude.{◌≡◌, ℕ, List, ◌++◌, codes, decimal, refl}
use Rattle.std.specs.Fmt.{digits}
use Rattle.word_base.specs.declared.levels.TheConstants.{MOST_LEVELS}
use Rattle.word_base.specs.declared.levels.LevelsFault.{LevelsFault}
use Rattle.word_base.specs.declared.levels.LevelsFault.TheVariants.{TooMany, Memory}

abbrev pub fault_text : LevelsFault → List ℕ
fault_text TooMany = codes "more than " ++ decimal MOST_LEVELS ++ codes " levels"
fault_text Memory = codes "out of memory"

too_many : fault_text TooMany ≡ codes "more than 4352 levels"
unfolding digits
too_many = refl
