-- The words of a command line, and the number that a program ends with.
use Rattle.std.specs.Prelude.{◌≡◌, ℕ, List, [], ◌∷◌, drop, map, string_bytes, codes, Result, Ok, Err, refl}
use Rattle.std.specs.Vec.Iter.{into_iter_items}
use Rattle.std.specs.declared.alloc.AllocError.{AllocError}
use Rattle.std.specs.declared.alloc.Global.{Global}
use Rattle.std.specs.declared.string.String.{String}
use Rattle.std.specs.declared.vec.IntoIter.{IntoIter}
use Rattle.check_run.specs.Statuses.{status_number}
use Rattle.check_run.specs.declared.status.Status.{Status}
use Rattle.check_run.specs.declared.status.Status.TheVariants.{Refused, NoMemory}

-- the words behind the program's name
abbrev pub behind_name : {A : Type 0} → List A → List A
behind_name arguments = drop 1 arguments

behind_name-two : behind_name (codes "worddd" ∷ codes "check" ∷ codes "n" ∷ []) ≡ codes "check" ∷ codes "n" ∷ []
behind_name-two = refl

-- the bytes of the words of a command line. One that could not be read as text has none
abbrev pub words_in : {E : Type 0} → Result (IntoIter (String Global) Global) E → List (List ℕ)
words_in (Ok arguments) = map string_bytes (behind_name (into_iter_items arguments))
words_in (Err error) = []

-- the number that the program ends with: that of its status, or of want of memory
abbrev pub exit_number : Result Status AllocError → ℕ
exit_number (Ok status) = status_number status
exit_number (Err error) = status_number NoMemory

exit_number-refused : exit_number (Ok Refused) ≡ 2
exit_number-refused = refl
