-- What can be taken from a diagram's root and put back: a factor, where edges multiply, and a summand, where they add.
use Rattle.std.specs.Prelude.{◌≡◌, ◌≢◌, ℤ, pos, negsuc, ◌+ℤ◌, ◌*ℤ◌, ◌∷◌, [], Bool, true, false, int_div, refl}
use Rattle.std.specs.Bool.{MatchBool}
use Rattle.integers.specs.Gcd.{signed_gcd}
use Rattle.word_base.specs.declared.decomp.Decomp.TheVariants.{S, P}
use Rattle.word_base.specs.declared.kind_name.KindName.{KindName}
use Rattle.word_base.specs.declared.kind_name.KindName.TheVariants.{Evbdd, StarBmd, Hdd, KStarBmd}
use Rattle.tables.specs.Table.{Table, entry, halves, each, multiple}
use Rattle.tables.specs.Tree.{Weights, leaf, node, Tree, weights, tree}
use Rattle.tables.specs.Canonical.{canonical}

-- ---- factors

-- whether a root has a multiplicative weight
abbrev pub has_factor : KindName → Bool
has_factor Evbdd = false
has_factor StarBmd = true
has_factor Hdd = false
has_factor KStarBmd = true

-- the factors that a root can take: any but 0, and else 1 alone
abbrev pub IsFactor : KindName → ℤ → Type 0
IsFactor k s = MatchBool (has_factor k) (s ≢ pos 0) (s ≡ pos 1)

-- the factor of a root, which in a K*BMD divides both weights; 0 for the constant 0
abbrev pub factor_of : KindName → Weights → ℤ
factor_of Evbdd w = pos 1
factor_of StarBmd w = w.weight
factor_of Hdd w = pos 1
factor_of KStarBmd w = signed_gcd w.weight w.extra (pos 0)

abbrev pub scaled_weights : KindName → ℤ → Weights → Weights
scaled_weights Evbdd s w = w
scaled_weights StarBmd s w = weights (s *ℤ w.weight) (pos 0)
scaled_weights Hdd s w = w
scaled_weights KStarBmd s w = weights (s *ℤ w.weight) (s *ℤ w.extra)

abbrev pub unscaled_weights : KindName → Weights → Weights
unscaled_weights Evbdd w = w
unscaled_weights StarBmd w = weights (pos 1) (pos 0)
unscaled_weights Hdd w = w
unscaled_weights KStarBmd w = let g = factor_of KStarBmd w in weights (int_div w.weight g) (int_div w.extra g)

-- the tree times one of its kind's factors
abbrev pub scaled_tree : KindName → ℤ → Tree → Tree
scaled_tree k s t = record { root = scaled_weights k s t.root; shape = t.shape }

-- the tree without its factor
abbrev pub unscaled_tree : KindName → Tree → Tree
unscaled_tree k t = record { root = unscaled_weights k t.root; shape = t.shape }

-- ---- summands

-- whether a root has an additive weight
abbrev pub has_summand : KindName → Bool
has_summand Evbdd = true
has_summand StarBmd = false
has_summand Hdd = false
has_summand KStarBmd = true

-- the summands that a root can take: any, and else 0 alone
abbrev pub IsSummand : KindName → ℤ → Type 0
IsSummand k c = MatchBool (has_summand k) (Unit {0}) (c ≡ pos 0)

-- the summand of a root
abbrev pub summand_of : KindName → Weights → ℤ
summand_of Evbdd w = w.weight
summand_of StarBmd w = pos 0
summand_of Hdd w = pos 0
summand_of KStarBmd w = w.extra

abbrev pub shifted_weights : KindName → ℤ → Weights → Weights
shifted_weights Evbdd c w = weights (c +ℤ w.weight) (pos 0)
shifted_weights StarBmd c w = w
shifted_weights Hdd c w = w
shifted_weights KStarBmd c w = weights w.weight (c +ℤ w.extra)

abbrev pub unshifted_weights : KindName → Weights → Weights
unshifted_weights Evbdd w = weights (pos 0) (pos 0)
unshifted_weights StarBmd w = w
unshifted_weights Hdd w = w
unshifted_weights KStarBmd w = weights w.weight (pos 0)

-- the tree with one of its kind's summands added
abbrev pub shifted_tree : KindName → ℤ → Tree → Tree
shifted_tree k c t = record { root = shifted_weights k c t.root; shape = t.shape }

-- the tree without its summand
abbrev pub unshifted_tree : KindName → Tree → Tree
unshifted_tree k t = record { root = unshifted_weights k t.root; shape = t.shape }

-- a constant added to each entry
abbrev pub raised_by : ℤ → Table → Table
raised_by c = each (λ x. c +ℤ x)

-- ---- examples

factor-of_evbdd : IsFactor Evbdd (pos 1)
factor-of_evbdd = refl

summand-of_star_bmd : IsSummand StarBmd (pos 0)
summand-of_star_bmd = refl

summand-of_evbdd : IsSummand Evbdd (negsuc 6)
summand-of_evbdd = tt

-- 6 - 4*f is -2 * (-3 + 2*f): the factor has the sign of the weight that multiplies
taken-factor : factor_of KStarBmd (weights (negsuc 3) (pos 6)) ≡ negsuc 1
taken-factor = refl

without-factor : unscaled_tree KStarBmd (tree (negsuc 3) (pos 6) leaf) ≡ tree (pos 2) (negsuc 2) leaf
without-factor = refl

factor-put_back : scaled_tree KStarBmd (negsuc 1) (tree (pos 2) (negsuc 2) leaf) ≡ tree (negsuc 3) (pos 6) leaf
factor-put_back = refl

taken-summand : summand_of Evbdd (weights (pos 5) (pos 0)) ≡ pos 5
taken-summand = refl

without-summand : unshifted_tree KStarBmd (tree (negsuc 3) (pos 6) leaf) ≡ tree (negsuc 3) (pos 0) leaf
without-summand = refl

summand-put_back : shifted_tree Evbdd (pos 5) (tree (pos 0) (pos 0) leaf) ≡ tree (pos 5) (pos 0) leaf
summand-put_back = refl

abbrev two : ℤ → ℤ → Table
two x y = halves (entry x) (entry y)

-- 2 and 3, times -2, are -4 and -6: their *BMD is that of 2 and 3 with the factor -2 at the root
multiple-of_two_and_three : canonical StarBmd (P ∷ []) 0 (multiple (negsuc 1) (two (pos 2) (pos 3)))
    ≡ scaled_tree StarBmd (negsuc 1) (tree (pos 1) (pos 0) (node 0 (weights (pos 2) (pos 0)) leaf (weights (pos 1) (pos 0)) leaf))
multiple-of_two_and_three = refl

raised-numbers : raised_by (pos 10) (two (pos 2) (negsuc 2)) ≡ two (pos 12) (pos 7)
raised-numbers = refl

-- 12 and 13 are 2 and 3, and 10 more
raised-two_and_three : canonical Evbdd (S ∷ []) 0 (raised_by (pos 10) (two (pos 2) (pos 3)))
    ≡ shifted_tree Evbdd (pos 10) (tree (pos 2) (pos 0) (node 0 (weights (pos 0) (pos 0)) leaf (weights (pos 1) (pos 0)) leaf))
raised-two_and_three = refl
