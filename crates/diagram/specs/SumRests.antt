-- What is left of the operands of a sum without their shifts and their common factor, which the sum gets back. Private functions and proofs alone use this.
use Rattle.std.specs.Prelude.{◌≡◌, ◌≢◌, ◌⊎◌, ℤ, pos, negsuc, ◌+ℤ◌, ◌*ℤ◌, Result, Ok, Err, refl}
use Rattle.word_base.specs.declared.kind_name.KindName.{KindName}
use Rattle.word_base.specs.declared.kind_name.KindName.TheVariants.{Evbdd, KStarBmd}
use Rattle.word_base.specs.declared.weight.Overflow.{Overflow}
use Rattle.tables.specs.Table.{plus}
use Rattle.kind_laws.specs.Plain.{PlainEdge, plain_edge}
use Rattle.kind_laws.specs.Scale.{scale_of, unscaled, MayScale, scaled, shift_of, unshifted, MayShift, shifted}
use Rattle.diagram.specs.Calls.{IsOfBoth}
use Rattle.diagram.specs.Sums.{sum_work}
use Rattle.diagram.specs.View.{View, IsEdge, Keeps}
use Rattle.diagram.specs.declared.limit.Limit.{Limit}
use Rattle.diagram.specs.declared.limit.Limit.TheVariants as limit
use Rattle.diagram.specs.declared.walk.Walk.{Walk}
use Rattle.diagram.specs.declared.walk.Walk.TheVariants.{Stripping, Plain}

-- the sum of two edges, from one view to another
abbrev pub IsSum : Walk → KindName → View → View → PlainEdge × PlainEdge → Result PlainEdge Limit → Type 0
IsSum walk k v w both result = IsOfBoth plus (sum_work walk) k v w both.0 both.1 result

-- a number that changes nothing, and the edges as they are
abbrev pub AreThemselves : ℤ → PlainEdge × PlainEdge → ℤ × PlainEdge × PlainEdge → Type 0
AreThemselves none both r = (r.0 ≡ none) × (r.1 ≡ both.0) × (r.2 ≡ both.1)

-- ---- shifts
-- the sum of the shifts of two edges, and the edges without them
abbrev pub IsUnshifted : Walk → KindName → PlainEdge × PlainEdge → ℤ × PlainEdge × PlainEdge → Type 0
IsUnshifted Stripping k both r = (r.0 ≡ shift_of k both.0.root +ℤ shift_of k both.1.root) × (r.1 ≡ unshifted k both.0) × (r.2 ≡ unshifted k both.1)
IsUnshifted Plain k both r = AreThemselves (pos 0) both r

abbrev pub Unshifts : Walk → KindName → PlainEdge × PlainEdge → Result (ℤ × PlainEdge × PlainEdge) Overflow → Type 0
Unshifts walk k both (Ok r) = IsUnshifted walk k both r
Unshifts walk k both (Err e) = walk ≡ Stripping

-- ---- factors
-- the edge over a divisor of its factor
pub record IsQuotient (k : KindName) (g : ℤ) (a x : PlainEdge) : Type 0 where
  pub some : scale_of k a.root ≢ pos 0
  pub may : MayScale k g
  pub left : ℤ
  pub exact : g *ℤ left ≡ scale_of k a.root
  pub is : x ≡ scaled k left (unscaled k a)

pub record AreQuotients (k : KindName) (g : ℤ) (a b x y : PlainEdge) : Type 0 where
  pub some : g ≢ pos 0
  pub first : IsQuotient k g a x
  pub second : IsQuotient k g b y

-- a common factor of two edges and their quotients by it, or 1 and the edges
abbrev pub IsReduced : Walk → KindName → PlainEdge × PlainEdge → ℤ × PlainEdge × PlainEdge → Type 0
IsReduced walk k both r = AreThemselves (pos 1) both r ⊎ ((walk ≡ Stripping) × AreQuotients k r.0 both.0 both.1 r.1 r.2)

abbrev pub Reduces : Walk → KindName → PlainEdge × PlainEdge → Result (ℤ × PlainEdge × PlainEdge) Overflow → Type 0
Reduces walk k both (Ok r) = IsReduced walk k both r
Reduces walk k both (Err e) = walk ≡ Stripping

-- ---- sums
-- the sum of two edges, from that of what is left of them
abbrev pub IsPutBack : Walk → KindName → ℤ → ℤ → PlainEdge → PlainEdge → Type 0
IsPutBack Stripping k factor shift rest total = total ≡ shifted k shift (scaled k factor rest)
IsPutBack Plain k factor shift rest total = total ≡ rest

abbrev pub PutsBack : Walk → KindName → ℤ → ℤ → PlainEdge → Result PlainEdge Overflow → Type 0
PutsBack walk k factor shift rest (Ok total) = IsPutBack walk k factor shift rest total
PutsBack walk k factor shift rest (Err e) = walk ≡ Stripping

-- two edges are left of two others, whose sum is that of the two with a factor and a shift put back
pub record AreRests (walk : Walk) (k : KindName) (v : View) (both rests : PlainEdge × PlainEdge) (factor shift : ℤ) : Type 0 where
  pub first_good : IsEdge k v rests.0
  pub second_good : IsEdge k v rests.1
  pub first_node : rests.0.node ≡ both.0.node
  pub second_node : rests.1.node ≡ both.1.node
  pub may_scale : MayScale k factor
  pub may_shift : MayShift k shift
  pub refuses : (w : View) (e : Limit) → Keeps v w → IsSum walk k v w rests (Err e) → IsSum walk k v w both (Err e)
  pub overflows : (w : View) (rest : PlainEdge) → Keeps v w → IsSum walk k v w rests (Ok rest) → walk ≡ Stripping → IsSum walk k v w both (Err limit.Overflow)
  pub back : (w : View) (rest total : PlainEdge) → Keeps v w → IsSum walk k v w rests (Ok rest) → IsPutBack walk k factor shift rest total →
      IsSum walk k v w both (Ok total)

-- ---- examples
-- 5 + f and 3 + g are 8 + (f + g)
unshifted-edges : IsUnshifted Stripping Evbdd (plain_edge (pos 5) (pos 0) 7, plain_edge (pos 3) (pos 0) 9) (pos 8, plain_edge (pos 0) (pos 0) 7, plain_edge (pos 0) (pos 0) 9)
unshifted-edges = (refl, refl, refl)

-- 3 + -2 * (-3 + 2*f) is 9 - 4*f
put_back-edge : IsPutBack Stripping KStarBmd (negsuc 1) (pos 3) (plain_edge (pos 2) (negsuc 2) 5) (plain_edge (negsuc 3) (pos 9) 5)
put_back-edge = refl
