-- The lines of checks.
use Rattle.std.specs.Prelude.{◌≡◌, ℕ, ◌+◌, pos, negsuc, Bool, true, false, List, [], ◌∷◌, ◌++◌, codes, decimal, if◌then◌else◌, refl}
use Rattle.std.specs.Fmt.{digits, signed_decimal}
use Rattle.std.specs.List.{zip, flat_map}
use Rattle.checks.specs.declared.verdict.Verdict.{Verdict}
use Rattle.checks.specs.declared.verdict.Verdict.TheVariants.{Equal, Different, Overflow, Full}

abbrev pub digit : Bool → List ℕ
digit bit = if bit then codes "1" else codes "0"

-- for each input from the top level down a space, its name, = and its bit
abbrev pub assignment : List (List ℕ) → List Bool → List ℕ
assignment names bits = flat_map (λ (name, bit). codes " " ++ name ++ codes "=" ++ digit bit) (zip names bits)

-- the names are those of the inputs from the top level down
abbrev pub verdict_text : List (List ℕ) → Verdict → List ℕ
verdict_text names (Equal nodes) = codes "equal nodes " ++ decimal nodes
verdict_text names (Different left right at) =
    codes "different left " ++ signed_decimal left ++ codes " right " ++ signed_decimal right ++ codes " at" ++ assignment names at
verdict_text names Overflow = codes "overflow"
verdict_text names Full = codes "full"

-- the line of a check, which is counted from 1
abbrev pub verdict_line : ℕ → List (List ℕ) → Verdict → List ℕ
verdict_line k names verdict = codes "check " ++ decimal k ++ codes " " ++ verdict_text names verdict ++ 10 ∷ []

-- the lines of checks, whose first has this number
abbrev pub lines_from : ℕ → List (List ℕ) → List Verdict → List ℕ
lines_from k names [] = []
lines_from k names (verdict ∷ more) = verdict_line k names verdict ++ lines_from (k + 1) names more

-- the lines of all checks
abbrev pub report : List (List ℕ) → List Verdict → List ℕ
report names verdicts = lines_from 1 names verdicts

equal_sides : verdict_line 1 (codes "a" ∷ []) (Equal 12) ≡ codes "check 1 equal nodes 12" ++ 10 ∷ []
unfolding digits
equal_sides = refl

different_sides : verdict_line 1 (codes "a" ∷ codes "b" ∷ []) (Different (pos 1) (pos 2) (true ∷ true ∷ []))
    ≡ codes "check 1 different left 1 right 2 at a=1 b=1" ++ 10 ∷ []
unfolding digits
different_sides = refl

-- a side that is negative
negative_side : verdict_line 12 (codes "a" ∷ codes "b" ∷ []) (Different (negsuc 0) (pos 12) (false ∷ true ∷ []))
    ≡ codes "check 12 different left -1 right 12 at a=0 b=1" ++ 10 ∷ []
unfolding digits
negative_side = refl

-- with no input, nothing follows the word
no_inputs : verdict_line 1 [] (Different (pos 1) (pos 2) []) ≡ codes "check 1 different left 1 right 2 at" ++ 10 ∷ []
unfolding digits
no_inputs = refl

over_range : verdict_line 1 [] Overflow ≡ codes "check 1 overflow" ++ 10 ∷ []
unfolding digits
over_range = refl

short_of_cells : verdict_line 1 [] Full ≡ codes "check 1 full" ++ 10 ∷ []
unfolding digits
short_of_cells = refl

two_checks : report (codes "a" ∷ []) (Equal 1 ∷ Different (pos 0) (pos 1) (true ∷ []) ∷ [])
    ≡ codes "check 1 equal nodes 1" ++ 10 ∷ codes "check 2 different left 0 right 1 at a=1" ++ 10 ∷ []
unfolding digits
two_checks = refl
