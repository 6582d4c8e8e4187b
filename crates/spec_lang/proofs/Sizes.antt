-- The depth of a formula is at most its size.
use Rattle.std.proofs.Common.{ℕ, ◌+◌, ◌≤◌, arith, max}
use Rattle.spec_lang.specs.Formula.{number, word, negative, sum, difference, product}
use Rattle.spec_lang.specs.Size.{size, depth, DepthIsAtMostSize}

of_two : (c d m n : ℕ) → c ≤ m → d ≤ n → max c d + 1 ≤ m + n + 1
of_two c d m n first second = omega arith

pub depth_at_most_size : DepthIsAtMostSize
depth_at_most_size (number z) = omega arith
depth_at_most_size (word w) = omega arith
depth_at_most_size (negative a) = let h = depth_at_most_size a in omega arith
depth_at_most_size (sum a b) = of_two (depth a) (depth b) (size a) (size b) (depth_at_most_size a) (depth_at_most_size b)
depth_at_most_size (difference a b) = of_two (depth a) (depth b) (size a) (size b) (depth_at_most_size a) (depth_at_most_size b)
depth_at_most_size (product a b) = of_two (depth a) (depth b) (size a) (size b) (depth_at_most_size a) (depth_at_most_size b)
