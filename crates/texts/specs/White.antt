-- White space at the front of a text.
use Rattle.std.specs.Prelude.{◌≡◌, ℕ, ◌==◌, Bool, not, ◌||◌, List, drop, codes, refl}
use Rattle.std.specs.List.{position_or_len}

-- a space, a tab or CR
abbrev pub is_white : ℕ → Bool
is_white b = b == 32 || b == 9 || b == 13

-- how many bytes of it are at the front
abbrev pub white_len : List ℕ → ℕ
white_len text = position_or_len (λ b. not (is_white b)) text

abbrev pub behind_white : List ℕ → List ℕ
behind_white text = drop (white_len text) text

spaced : behind_white (codes " \t\ra b") ≡ codes "a b"
spaced = refl

white_alone : behind_white (codes " \t") ≡ codes ""
white_alone = refl
