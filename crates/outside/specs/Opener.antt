-- What a file that was opened has left to be read.
use Rattle.std.specs.Prelude.{◌≡◌, ℕ, List, Option, Some, None, codes, refl}
use Rattle.std.specs.Option.{option_map}

-- All the bytes of the file are left, where they are told. One that is told to be absent is not opened.
abbrev pub GivesFile : Option (Option (List ℕ)) → Option (List ℕ) → Type 0
GivesFile None left = Unit {0}
GivesFile (Some None) left = ⊥
GivesFile (Some (Some file)) left = left ≡ Some file

gives-ab : GivesFile (Some (Some (codes "ab"))) (Some (codes "ab"))
gives-ab = refl

-- what a reader of a file tells of it: the bytes that it has left
abbrev pub file_left : Option (List ℕ) → Option (Option (List ℕ))
file_left = option_map Some

file_left-ab : file_left (Some (codes "ab")) ≡ Some (Some (codes "ab"))
file_left-ab = refl
