-- The additive weight of an edge; and those of a join and of parts, which private functions and proofs alone use.
use Rattle.std.specs.Prelude.{◌≡◌, ◌↔◌, ℤ, pos, negsuc, ◌+ℤ◌, ◌-ℤ◌, true, refl}
use Rattle.std.specs.Ordering.{int_eq}
use Rattle.std.proofs.Common.{◌∙◌, ap}
use Rattle.tables.proofs.TreeLaws.{int_eq-same, int_eq-refl}
use Rattle.word_base.specs.declared.decomp.Decomp.{Decomp}
use Rattle.word_base.specs.declared.decomp.Decomp.TheVariants.{S, P, N}

-- an additive weight is its number
abbrev pub own_extra : ℤ → ℤ
own_extra x = x

-- and two are equal where their numbers are
pub own_extra_eq : (x y : ℤ) → (int_eq x y ≡ true) ↔ (x ≡ y)
own_extra_eq x y = (int_eq-same x y, λ e. ap (λ (z : ℤ). int_eq z y) e ∙ int_eq-refl y)

-- what the high edge of a join keeps, before it is divided, from the additive weights of the low and the high edge
abbrev pub rest_of : Decomp → ℤ → ℤ → ℤ
rest_of S low high = high -ℤ low
rest_of P low high = high
rest_of N low high = high

-- that of a high part, from the root's and from the product of the root's weight and the node's added one
abbrev pub high_extra_of : Decomp → ℤ → ℤ → ℤ
high_extra_of S root added = root +ℤ added
high_extra_of P root added = added
high_extra_of N root added = added

-- 6 and -4 differ by -10, which is the high part's again
rest-at_shannon : rest_of S (pos 6) (negsuc 3) ≡ negsuc 9
rest-at_shannon = refl

high-at_shannon : high_extra_of S (pos 6) (negsuc 9) ≡ negsuc 3
high-at_shannon = refl
