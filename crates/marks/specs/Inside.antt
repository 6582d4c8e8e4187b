-- What the fields of a set of marks say.
use Rattle.std.specs.Prelude.{◌≡◌, ℕ, ◌-◌, ◌==◌, ◌<◌, ◌≤◌, ◌^◌, List, [], ◌∷◌, ◌++◌, Bool, map, length, replicate, get_or, refl}
use Rattle.std.specs.List.{count_by}

-- an id is in the set exactly if its stamp is the last one
abbrev pub marked_under : ℕ → List ℕ → List Bool
marked_under stamp stamps = map (λ s. s == stamp) stamps

-- the stamps of so many ids, where those past the end are 0
abbrev pub padded : List ℕ → ℕ → List ℕ
padded stamps cells = stamps ++ replicate (cells - length stamps) 0

pub record IsSound (stamps : List ℕ) (stamp count : ℕ) : Type 0 where
  pub some_stamp : 0 < stamp
  -- no stamp is to come
  pub used : (i : ℕ) → get_or stamps i 0 ≤ stamp
  pub counted : count ≡ count_by (λ s. s == stamp) stamps
  pub few : length stamps < 2 ^ 32

pub record IsStored (stamps : List ℕ) (cells stamp count capacity : ℕ) : Type 0 where
  pub sound : IsSound (padded stamps cells) stamp count
  pub within : length stamps ≤ cells
  pub capacious : cells ≤ capacity

-- ---- examples
two_padded : padded (5 ∷ []) 3 ≡ 5 ∷ 0 ∷ 0 ∷ []
two_padded = refl

none_padded : padded (5 ∷ 6 ∷ []) 1 ≡ 5 ∷ 6 ∷ []
none_padded = refl
