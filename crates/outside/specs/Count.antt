-- Counts of fetches and of faults.
use Rattle.std.specs.Prelude.{◌≡◌, ℕ, ◌+◌, ◌-◌, ◌^◌, ◌≤◌, min, max, Bool, true, false, if◌then◌else◌, refl}
use Rattle.std.proofs.Common.{lit≤}

-- the greatest count. One that has reached it stays there
abbrev pub last_count : ℕ
last_count = 2 ^ 64 - 1

-- a count, and one more, up to the greatest
abbrev pub raised : ℕ → ℕ
raised count = max count (min (count + 1) last_count)

raised-three : raised 3 ≡ 4
raised-three = refl

raised-last : raised last_count ≡ last_count
raised-last = refl

-- the count after a call that met a fault, or met none
abbrev pub counted : Bool → ℕ → ℕ
counted fault count = if fault then raised count else count

counted-fault : counted true 3 ≡ 4
counted-fault = refl

counted-none : counted false 3 ≡ 3
counted-none = refl

-- the count rose in a call, or stands at its last value
abbrev pub Rose : ℕ → ℕ → Type 0
Rose before now = raised before ≤ now

rose-to_four : Rose 3 4
rose-to_four = lit≤ tt

-- it stands at its last value
rose-last : Rose last_count last_count
rose-last = lit≤ tt
