-- What is taken from an edge, a factor or a summand, and the edge with it put back.
use Rattle.std.specs.Prelude.{◌≡◌, ℕ, zero, suc, ℤ, pos, negsuc, true, Result, refl}
use Rattle.std.specs.Result.{OkIff}
use Rattle.std.specs.Bool.{MatchBool}
use Rattle.word_base.specs.declared.kind_name.KindName.{KindName}
use Rattle.word_base.specs.declared.kind_name.KindName.TheVariants.{Evbdd, StarBmd, Hdd, KStarBmd}
use Rattle.word_base.specs.declared.weight.Overflow.{Overflow}
use Rattle.tables.specs.Tree.{Weights}
use Rattle.tables.specs.Factors.{IsSummand, factor_of, has_factor, scaled_weights, shifted_weights, summand_of, unscaled_weights, unshifted_weights}
use Rattle.tables.specs.Fits.{weights_in_range}
use Rattle.kind_laws.specs.Plain.{PlainEdge, plain_edge}

-- ---- factors

-- the factor of an edge is that of its root
abbrev pub scale_of : KindName → Weights → ℤ
scale_of = factor_of

-- the edge that is left without its factor
abbrev pub unscaled : KindName → PlainEdge → PlainEdge
unscaled k e = record { root = unscaled_weights k e.root; node = e.node }

-- the factors that an edge of the kind can take: 0 too, where it multiplies
abbrev pub MayScale : KindName → ℤ → Type 0
MayScale k s = MatchBool (has_factor k) (Unit {0}) (s ≡ pos 1)

-- what 0 times an edge leads to is the leaf
abbrev pub scaled_node : ℤ → ℕ → ℕ
scaled_node (pos zero) n = 0
scaled_node (pos (suc s)) n = n
scaled_node (negsuc s) n = n

-- the edge of the multiple
abbrev pub scaled : KindName → ℤ → PlainEdge → PlainEdge
scaled Evbdd s e = e
scaled StarBmd s e = record { root = scaled_weights StarBmd s e.root; node = scaled_node s e.node }
scaled Hdd s e = e
scaled KStarBmd s e = record { root = scaled_weights KStarBmd s e.root; node = scaled_node s e.node }

-- ---- summands

-- the summand of an edge is that of its root
abbrev pub shift_of : KindName → Weights → ℤ
shift_of = summand_of

-- the edge that is left without its summand
abbrev pub unshifted : KindName → PlainEdge → PlainEdge
unshifted k e = record { root = unshifted_weights k e.root; node = e.node }

-- the summands that an edge of the kind can take
abbrev pub MayShift : KindName → ℤ → Type 0
MayShift = IsSummand

-- the edge of the sum
abbrev pub shifted : KindName → ℤ → PlainEdge → PlainEdge
shifted k c e = record { root = shifted_weights k c e.root; node = e.node }

-- ---- answers

-- the edge, and an overflow exactly where a weight of its is out of range
abbrev IsEdgeInRange : Result PlainEdge Overflow → PlainEdge → Type 0
IsEdgeInRange result e = OkIff result (weights_in_range e.root ≡ true) e

abbrev pub Scales : KindName → ℤ → PlainEdge → Result PlainEdge Overflow → Type 0
Scales k s e result = IsEdgeInRange result (scaled k s e)

abbrev pub Shifts : KindName → ℤ → PlainEdge → Result PlainEdge Overflow → Type 0
Shifts k c e result = IsEdgeInRange result (shifted k c e)

-- ---- examples

-- 6 - 4*f is -2 * (-3 + 2*f): the factor has the sign of the weight that multiplies
taken-scale : scale_of KStarBmd (plain_edge (negsuc 3) (pos 6) 5).root ≡ negsuc 1
taken-scale = refl

taken-rest : unscaled KStarBmd (plain_edge (negsuc 3) (pos 6) 5) ≡ plain_edge (pos 2) (negsuc 2) 5
taken-rest = refl

put-back : scaled KStarBmd (negsuc 1) (plain_edge (pos 2) (negsuc 2) 5) ≡ plain_edge (negsuc 3) (pos 6) 5
put-back = refl

-- 0 times an edge to a node is the constant 0
scaled-zero : scaled StarBmd (pos 0) (plain_edge (pos 3) (pos 0) 5) ≡ plain_edge (pos 0) (pos 0) 0
scaled-zero = refl

shifted-edge : shifted Evbdd (negsuc 1) (plain_edge (pos 5) (pos 0) 7) ≡ plain_edge (pos 3) (pos 0) 7
shifted-edge = refl
