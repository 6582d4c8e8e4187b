-- The line of a multiplier that was made.
use Rattle.std.specs.Prelude.{◌≡◌, ℕ, List, [], ◌∷◌, ◌++◌, codes, decimal, refl}
use Rattle.std.specs.Fmt.{digits}

-- its size, and how many inputs and gates its netlist has
abbrev pub made_line : ℕ → ℕ → ℕ → List ℕ
made_line size inputs gates =
    codes "gen " ++ decimal size ++ codes " inputs " ++ decimal inputs ++ codes " gates " ++ decimal gates ++ 10 ∷ []

two_by_two : made_line 2 4 8 ≡ codes "gen 2 inputs 4 gates 8" ++ 10 ∷ []
unfolding digits
two_by_two = refl
