-- The lines of a text, and what stands on a line in front of its comment.
use Rattle.std.specs.Prelude.{◌≡◌, ℕ, ◌==◌, Bool, List, [], ◌∷◌, ◌++◌, codes, nat_lt, if◌then◌else◌, refl}
use Rattle.std.specs.List.{before_first, onto_first}

-- A line ends by LF. The last may lack it.
abbrev pub lines : List ℕ → List (List ℕ)
lines [] = []
lines (b ∷ bytes) = if b == 10 then [] ∷ lines bytes else onto_first b (lines bytes)

-- what stands before the first #
abbrev pub uncommented : List ℕ → List ℕ
uncommented line = before_first (λ b. b == 35) line

-- no ASCII
abbrev pub is_above_127 : ℕ → Bool
is_above_127 b = nat_lt 127 b

three_lines : lines (codes "a\n\nbc\n") ≡ codes "a" ∷ [] ∷ codes "bc" ∷ []
three_lines = refl

last_without_end : lines (codes "a\nb") ≡ codes "a" ∷ codes "b" ∷ []
last_without_end = refl

no_lines : lines [] ≡ []
no_lines = refl

comment : uncommented (codes "a = NOT(b) # the sum # of" ++ 255 ∷ []) ≡ codes "a = NOT(b) "
comment = refl
