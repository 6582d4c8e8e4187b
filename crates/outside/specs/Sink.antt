-- What a put leaves.
use Rattle.std.specs.Prelude.{◌≡◌, ℕ, ◌≤◌, List, [], ◌∷◌, length, take, Option, Some, refl}
use Rattle.std.specs.Io.KnownBytes.{Appends}
use Rattle.std.proofs.Common.{lit≤}

-- The first `count` of the bytes were appended to what was written, where that is told.
pub record AppendsPrefix (old new : Option (List ℕ)) (bytes : List ℕ) : Type 0 where
  pub count : ℕ
  pub within : count ≤ length bytes
  pub appended : Appends old new (take count bytes)

-- two of three bytes were appended
appends-two_of_three : AppendsPrefix (Some (7 ∷ [])) (Some (7 ∷ 8 ∷ 9 ∷ [])) (8 ∷ 9 ∷ 10 ∷ [])
appends-two_of_three = record { count = 2; within = lit≤ tt; appended = refl }
