-- The eight words of a node.
use Rattle.std.specs.Prelude.{◌≡◌, ℕ, ◌+◌, ◌*◌, ◌/◌, ◌%◌, ◌^◌, ◌<◌, ℤ, pos, negsuc, List, [], ◌∷◌, ◌++◌, refl}
use Rattle.std.specs.Int.{w128, cast_unsigned}
use Rattle.tables.specs.Tree.{Weights, weights}
use Rattle.word_base.specs.Range.{InRange}
use Rattle.kind_laws.specs.declared.fields.Fields.{Fields}
use Rattle.word_base.specs.declared.kind_name.KindName.{KindName}
use Rattle.word_base.specs.declared.kind_name.KindName.TheVariants.{Evbdd, StarBmd, Hdd, KStarBmd}

-- a weight as two words: its two's complement in 128 bits, the lower word first
abbrev pub weight_words : ℤ → List ℕ
weight_words z = cast_unsigned w128 z % 2 ^ 64 ∷ cast_unsigned w128 z / 2 ^ 64 ∷ []

-- The layout: the level and 1; the id of the low child and 2^32 times that of the high child; and the weights
abbrev pub body_of : Fields → List ℕ
body_of f =
    (f.level + 1) ∷ (f.low + 2 ^ 32 * f.high) ∷ (weight_words f.low_weight ++ (weight_words f.added ++ weight_words f.high_weight))

-- fields that eight words can hold
pub record FitsBody (f : Fields) : Type 0 where
  pub level : f.level < 2 ^ 16
  pub low : f.low < 2 ^ 32
  pub high : f.high < 2 ^ 32
  pub low_weight : InRange f.low_weight
  pub added : InRange f.added
  pub high_weight : InRange f.high_weight

-- words that say something
abbrev pub IsBody : List ℕ → Type 0
IsBody body = (f : Fields) × FitsBody f × (body ≡ body_of f)

-- the fact holds of the fields that the words say
abbrev pub Reads : List ℕ → (Fields → Type 0) → Type 0
Reads body Fact = (f : Fields) → FitsBody f → body ≡ body_of f → Fact f

-- What the weights of a node's two edges are. A K*BMD's high edge has both; in a hybrid diagram a weight is the constant
-- of an edge to the leaf
abbrev pub low_weights : KindName → Fields → Weights
low_weights Evbdd f = weights (pos 0) (pos 0)
low_weights StarBmd f = weights f.low_weight (pos 0)
low_weights Hdd f = weights f.low_weight (pos 0)
low_weights KStarBmd f = weights f.low_weight (pos 0)

abbrev pub high_weights : KindName → Fields → Weights
high_weights Evbdd f = weights f.added (pos 0)
high_weights StarBmd f = weights f.high_weight (pos 0)
high_weights Hdd f = weights f.high_weight (pos 0)
high_weights KStarBmd f = weights f.high_weight f.added

-- the words that a kind does not use are 0
abbrev pub LeavesZeros : KindName → Fields → Type 0
LeavesZeros Evbdd f = (f.low_weight ≡ pos 0) × (f.high_weight ≡ pos 0)
LeavesZeros StarBmd f = f.added ≡ pos 0
LeavesZeros Hdd f = f.added ≡ pos 0
LeavesZeros KStarBmd f = Unit {0}

-- the nodes of the half adder's sum in a *BMD: that of level 1, and with its id 1 the one of level 0
lower : body_of (record { level = 1; low = 0; high = 0; low_weight = pos 0; added = pos 0; high_weight = pos 1 })
    ≡ 2 ∷ 0 ∷ 0 ∷ 0 ∷ 0 ∷ 0 ∷ 1 ∷ 0 ∷ []
lower = refl

upper : body_of (record { level = 0; low = 1; high = 0; low_weight = pos 1; added = pos 0; high_weight = pos 1 })
    ≡ 1 ∷ 1 ∷ 1 ∷ 0 ∷ 0 ∷ 0 ∷ 1 ∷ 0 ∷ []
upper = refl

minus_one : weight_words (negsuc 0) ≡ 18446744073709551615 ∷ 18446744073709551615 ∷ []
minus_one = refl
