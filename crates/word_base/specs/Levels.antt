-- How many levels a diagram may have.
use Rattle.std.specs.Prelude.{◌≡◌, ◌+◌, refl}
use Rattle.word_base.specs.declared.levels.TheConstants.{MOST_LEVELS}

-- one for each of 256 inputs and 4,096 gates
most_levels : MOST_LEVELS ≡ 256 + 4096
most_levels = refl
