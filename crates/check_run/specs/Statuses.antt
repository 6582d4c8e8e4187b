-- How a run ends, by the verdicts that it wrote, and the numbers of the statuses.
use Rattle.std.specs.Prelude.{◌≡◌, ℕ, pos, Bool, true, false, List, [], ◌∷◌, if◌then◌else◌, refl}
use Rattle.std.specs.List.{list_any}
use Rattle.checks.specs.declared.verdict.Verdict.{Verdict}
use Rattle.checks.specs.declared.verdict.Verdict.TheVariants.{Equal, Different, Overflow, Full}
use Rattle.check_run.specs.declared.status.Status.{Status}
use Rattle.check_run.specs.declared.status.Status.TheVariants.{Done, Differs, Refused, Limited, ReadFault, WriteFault, NoMemory}

abbrev pub is_limit : Verdict → Bool
is_limit (Equal nodes) = false
is_limit (Different left right at) = false
is_limit Overflow = true
is_limit Full = true

abbrev pub is_different : Verdict → Bool
is_different (Equal nodes) = false
is_different (Different left right at) = true
is_different Overflow = false
is_different Full = false

-- the status of a run that wrote a line for each verdict
abbrev pub status_of : List Verdict → Status
status_of verdicts =
    if list_any is_limit verdicts then Limited else (if list_any is_different verdicts then Differs else Done)

abbrev pub status_number : Status → ℕ
status_number Done = 0
status_number Differs = 1
status_number Refused = 2
status_number Limited = 3
status_number ReadFault = 4
status_number WriteFault = 5
status_number NoMemory = 6

limited : status_of (Different (pos 1) (pos 2) [] ∷ Overflow ∷ []) ≡ Limited
limited = refl

differs : status_of (Equal 2 ∷ Different (pos 1) (pos 2) [] ∷ []) ≡ Differs
differs = refl

equal_alone : status_of (Equal 2 ∷ Equal 0 ∷ []) ≡ Done
equal_alone = refl
