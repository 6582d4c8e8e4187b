use Rattle.std.proofs.Common.{◌≡◌, ◌-◌, length, vec_capacity}
use Rattle.marks.specs.Inside.{padded}
use Rattle.marks.proofs.marks.extend.Given as goal

-- what is still to be written
abbrev pub invariant-loop-stamps : goal.invariant-loop-stamps
invariant-loop-stamps l =
    record { items : padded l.stamps.items l.len ≡ padded l.initial.stamps.items l.len; capacity : vec_capacity l.stamps ≡ vec_capacity l.initial.stamps }

abbrev pub decreases-loop-stamps : goal.decreases-loop-stamps
decreases-loop-stamps l = l.len - length l.stamps.items
