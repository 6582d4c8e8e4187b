-- A sum by that of the operands without their common factor.
use Rattle.std.proofs.Common.{◌≡◌, refl, sym, ◌∙◌, ap, subst, ℕ, ℤ, pos, ◌*ℤ◌, List, length, drop}
use Rattle.std.specs.Prelude.{◌≢◌, Ok, Err, unsigned_abs}
use Rattle.std.specs.Int.{◌∣◌}
use Rattle.std.proofs.Math.IntN.{*ℤ-zero}
use Rattle.integers.specs.Gcd.{signed_gcd}
use Rattle.integers.proofs.GcdLaws.{gcd3-divides_first, gcd3-divides_second}
use Rattle.integers.proofs.Ring.{*ℤ_assoc, *ℤ-distrib_left, one-*ℤ}
use Rattle.integers.proofs.SignedGcd.{unsigned_abs-signed_gcd, signed_gcd-is_zero}
use Rattle.word_base.specs.declared.decomp.Decomp.{Decomp}
use Rattle.word_base.specs.declared.kind_name.KindName.{KindName}
use Rattle.word_base.specs.declared.kind_name.KindName.TheVariants.{Evbdd, StarBmd, Hdd, KStarBmd}
use Rattle.tables.specs.Table.{Table, entry, halves, IsOver, plus, multiple}
use Rattle.tables.specs.Tree.{Weights, Tree}
use Rattle.tables.specs.Canonical.{canonical}
use Rattle.tables.specs.Factors.{IsFactor}
use Rattle.tables.proofs.FactorLaws.{factors_go_through}
use Rattle.tables.proofs.PieceLaws.{Covers}
use Rattle.tables.proofs.TableLaws.{both_halves, each-plus}
use Rattle.kind_laws.specs.Plain.{PlainEdge}
use Rattle.kind_laws.specs.Scale.{scale_of, unscaled, MayScale, scaled}
use Rattle.kind_laws.proofs.ScaleLaws.{scaled-keeps_node, unscaled-keeps_node}
use Rattle.diagram.specs.SumRests.{IsQuotient, AreQuotients}
use Rattle.diagram.specs.Sums.{sum_work}
use Rattle.diagram.specs.View.{View, StandsAt, IsEdge, Keeps}
use Rattle.diagram.specs.declared.limit.Limit.{Limit}
use Rattle.diagram.specs.declared.walk.Walk.TheVariants.{Stripping}
use Rattle.diagram.proofs.CallLaws.{Ran, ran_nothing, ran_then, refuses_then}
use Rattle.diagram.proofs.JoinCauses.{no_cause}
use Rattle.diagram.proofs.ScaledEdges.{is_factor, scaled_stands, unscaled_stands}
use Rattle.diagram.proofs.StrippedSums.{same_shapes_covered, IsStripped}

-- ---- common factors
may_scale_common : (k : KindName) (v w : Weights) → MayScale k (signed_gcd (scale_of k v) (scale_of k w) (pos 0))
may_scale_common Evbdd v w = refl
may_scale_common StarBmd v w = tt
may_scale_common Hdd v w = refl
may_scale_common KStarBmd v w = tt

may_scale_quotient : (k : KindName) (g p : ℤ) (w : Weights) → MayScale k g → g *ℤ p ≡ scale_of k w → MayScale k p
may_scale_quotient Evbdd g p w may exact = sym (ap (λ (z : ℤ). z *ℤ p) may ∙ one-*ℤ p) ∙ exact
may_scale_quotient StarBmd g p w may exact = tt
may_scale_quotient Hdd g p w may exact = sym (ap (λ (z : ℤ). z *ℤ p) may ∙ one-*ℤ p) ∙ exact
may_scale_quotient KStarBmd g p w may exact = tt

-- ---- tables
multiple_twice : (g p : ℤ) (t : Table) → multiple (g *ℤ p) t ≡ multiple g (multiple p t)
multiple_twice g p (entry x) = ap entry (*ℤ_assoc g p x)
multiple_twice g p (halves a b) = both_halves (multiple_twice g p a) (multiple_twice g p b)

plus_of_multiples : (n : ℕ) (g : ℤ) (t u x y : Table) → IsOver n x → IsOver n y → t ≡ multiple g x → u ≡ multiple g y → plus t u ≡ multiple g (plus x y)
plus_of_multiples n g t u x y o p is_t is_u =
    ap (λ (z : Table). plus z u) is_t ∙ ap (plus (multiple g x)) is_u
    ∙ sym (each-plus n (λ z. g *ℤ z) (λ z. g *ℤ z) (*ℤ-distrib_left g) x y o p)

multiple_shape : (k : KindName) (ds : List Decomp) (l : ℕ) (g : ℤ) (t x : Table) → IsFactor k g → t ≡ multiple g x →
    (canonical k ds l x).shape ≡ (canonical k ds l t).shape
multiple_shape k ds l g t x factor is =
    sym (ap (λ (z : Table). (canonical k ds l z).shape) is ∙ ap (λ (z : Tree). z.shape) (factors_go_through k ds l g x factor))

-- ---- quotients of edges
left_nonzero : (k : KindName) (g : ℤ) (a x : PlainEdge) (q : IsQuotient k g a x) → q.left ≢ pos 0
left_nonzero k g a x q z = q.some (sym q.exact ∙ ap (λ (y : ℤ). g *ℤ y) z ∙ *ℤ-zero g)

pub quotient_node : (k : KindName) (g : ℤ) (a x : PlainEdge) → IsQuotient k g a x → x.node ≡ a.node
quotient_node k g a x q =
    ap (λ (e : PlainEdge). e.node) q.is ∙ scaled-keeps_node k q.left (unscaled k a) (left_nonzero k g a x q) ∙ unscaled-keeps_node k a

-- a table is a multiple of that which the quotient stands for
record IsMultipleAt (k : KindName) (v : View) (l : ℕ) (g : ℤ) (t : Table) (x : PlainEdge) : Type 0 where
  rest : Table
  is_multiple : t ≡ multiple g rest
  stands : StandsAt k v l rest x

quotient_stands : (k : KindName) (v : View) (l : ℕ) (g : ℤ) (t : Table) (a x : PlainEdge) → IsQuotient k g a x → StandsAt k v l t a → IsMultipleAt k v l g t x
quotient_stands k v l g t a x q h =
    let m = unscaled_stands k v l t a q.some h in
    let may = may_scale_quotient k g q.left a.root q.may q.exact in
    record {
      rest = multiple q.left m.rest;
      is_multiple = m.is_multiple ∙ ap (λ (s : ℤ). multiple s m.rest) (sym q.exact) ∙ multiple_twice g q.left m.rest;
      stands = subst (StandsAt k v l (multiple q.left m.rest)) (sym q.is)
          (scaled_stands k v l q.left m.rest (unscaled k a) may (left_nonzero k g a x q) m.stands);
    }

pub quotient_good : (k : KindName) (v : View) (g : ℤ) (a x : PlainEdge) → IsQuotient k g a x → IsEdge k v a → IsEdge k v x
quotient_good k v g a x q h = let m = quotient_stands k v 0 g h.0 a x q h.1 in (m.rest, m.stands)

-- ---- their sum
record Rests (k : KindName) (v : View) (l : ℕ) (g : ℤ) (t u : Table) (x y : PlainEdge) : Type 0 where
  some : g ≢ pos 0
  may : MayScale k g
  first : IsMultipleAt k v l g t x
  second : IsMultipleAt k v l g u y

rests_of : (k : KindName) (v : View) (l : ℕ) (g : ℤ) (t u : Table) (a b x y : PlainEdge) → AreQuotients k g a b x y → StandsAt k v l t a → StandsAt k v l u b →
    Rests k v l g t u x y
rests_of k v l g t u a b x y q h j = record {
  some = q.some;
  may = q.first.may;
  first = quotient_stands k v l g t a x q.first h;
  second = quotient_stands k v l g u b y q.second j;
}

sum_is : (k : KindName) (v : View) (l : ℕ) (g : ℤ) (t u : Table) (x y : PlainEdge) (m : Rests k v l g t u x y) →
    plus t u ≡ multiple g (plus m.first.rest m.second.rest)
sum_is k v l g t u x y m =
    plus_of_multiples (length (drop l v.letters)) g t u m.first.rest m.second.rest m.first.stands.stands.over m.second.stands.stands.over
    m.first.is_multiple m.second.is_multiple

rests_covered : (k : KindName) (v : View) (l : ℕ) (g : ℤ) (t u : Table) (x y : PlainEdge) (m : Rests k v l g t u x y) →
    Covers k v.letters (sum_work Stripping l t u) (sum_work Stripping l m.first.rest m.second.rest)
rests_covered k v l g t u x y m =
    let ds = drop l v.letters in
    let factor = is_factor k g m.may m.some in
    let p = m.first.rest in
    let r = m.second.rest in
    same_shapes_covered k v.letters l t u p r (
    record {
      first = multiple_shape k ds l g t p factor m.first.is_multiple;
      second = multiple_shape k ds l g u r factor m.second.is_multiple;
      sum = multiple_shape k ds l g (plus t u) (plus p r) factor (sum_is k v l g t u x y m);
    }
    )

pub quotients_refuse : (k : KindName) (v w : View) (g : ℤ) (a b x y : PlainEdge) (e : Limit) → AreQuotients k g a b x y → Keeps v w →
    IsStripped k v w x y (Err e) → IsStripped k v w a b (Err e)
quotients_refuse k v w g a b x y e q keeps sum l t u h j =
    let m = rests_of k v l g t u a b x y q h j in
    refuses_then k v v w (sum_work Stripping l t u) _ l l (plus t u) _ e (ran_nothing k v (sum_work Stripping l t u)) keeps (rests_covered k v l g t u x y m)
    (sum l m.first.rest m.second.rest m.first.stands m.second.stands)

rests_ran : (k : KindName) (v w : View) (l : ℕ) (g : ℤ) (t u : Table) (x y rest : PlainEdge) → Rests k v l g t u x y → Keeps v w →
    IsStripped k v w x y (Ok rest) → Ran k v w (sum_work Stripping l t u)
rests_ran k v w l g t u x y rest m keeps sum =
    ran_then k v v w (sum_work Stripping l t u) _ l _ (Ok rest) (ran_nothing k v (sum_work Stripping l t u)) keeps (rests_covered k v l g t u x y m)
    (sum l m.first.rest m.second.rest m.first.stands m.second.stands)

pub factor_put_back : (k : KindName) (v w : View) (g : ℤ) (a b x y rest total : PlainEdge) → AreQuotients k g a b x y → Keeps v w →
    total ≡ scaled k g rest → IsStripped k v w x y (Ok rest) → IsStripped k v w a b (Ok total)
factor_put_back k v w g a b x y rest total q keeps is sum l t u h j =
    let m = rests_of k v l g t u a b x y q h j in
    let answers = sum l m.first.rest m.second.rest m.first.stands m.second.stands in
    record {
      made = (rests_ran k v w l g t u x y rest m keeps sum).made;
      cause = no_cause k w (sum_work Stripping l t u) total;
      stands = subst (StandsAt k w l (plus t u)) (sym is)
          (subst (λ (z : Table). StandsAt k w l z (scaled k g rest)) (sym (sum_is k v l g t u x y m))
          (scaled_stands k w l g (plus m.first.rest m.second.rest) rest m.may m.some answers.stands));
    }

-- ---- the quotients of two edges by their common factor
-- the greatest common divisor of the factors of two edges of which none is the constant 0
pub record IsCommon (k : KindName) (s r g : ℤ) (a b : PlainEdge) : Type 0 where
  pub some_a : scale_of k a.root ≢ pos 0
  pub some_b : scale_of k b.root ≢ pos 0
  pub first : s ≡ scale_of k a.root
  pub second : r ≡ scale_of k b.root
  pub is : g ≡ signed_gcd s r (pos 0)

pub common_nonzero : (k : KindName) (s r g : ℤ) (a b : PlainEdge) → IsCommon k s r g a b → g ≢ pos 0
common_nonzero k s r g a b c z = c.some_a (sym c.first ∙ ((signed_gcd-is_zero s r (pos 0)).0 (sym c.is ∙ z)).0)

pub common_divides_first : (k : KindName) (s r g : ℤ) (a b : PlainEdge) → IsCommon k s r g a b → unsigned_abs g ∣ unsigned_abs s
common_divides_first k s r g a b c =
    subst (λ (n : ℕ). n ∣ unsigned_abs s) (sym (ap unsigned_abs c.is ∙ unsigned_abs-signed_gcd s r (pos 0))) (gcd3-divides_first s r (pos 0))

pub common_divides_second : (k : KindName) (s r g : ℤ) (a b : PlainEdge) → IsCommon k s r g a b → unsigned_abs g ∣ unsigned_abs r
common_divides_second k s r g a b c =
    subst (λ (n : ℕ). n ∣ unsigned_abs r) (sym (ap unsigned_abs c.is ∙ unsigned_abs-signed_gcd s r (pos 0))) (gcd3-divides_second s r (pos 0))

pub may_scale_factor : (k : KindName) (s r g : ℤ) (a b : PlainEdge) → IsCommon k s r g a b → MayScale k g
may_scale_factor k s r g a b c =
    subst (MayScale k) (sym (c.is ∙ ap (λ (x : ℤ). signed_gcd x r (pos 0)) c.first ∙ ap (λ (y : ℤ). signed_gcd (scale_of k a.root) y (pos 0)) c.second))
    (may_scale_common k a.root b.root)

pub may_scale_first : (k : KindName) (s r g p : ℤ) (a b : PlainEdge) → IsCommon k s r g a b → g *ℤ p ≡ s → MayScale k p
may_scale_first k s r g p a b c exact = may_scale_quotient k g p a.root (may_scale_factor k s r g a b c) (exact ∙ c.first)

pub may_scale_second : (k : KindName) (s r g p : ℤ) (a b : PlainEdge) → IsCommon k s r g a b → g *ℤ p ≡ r → MayScale k p
may_scale_second k s r g p a b c exact = may_scale_quotient k g p b.root (may_scale_factor k s r g a b c) (exact ∙ c.second)

-- an edge times what is left of its factor, which was taken from it
pub record IsTaken (k : KindName) (g s p : ℤ) (a rest x : PlainEdge) : Type 0 where
  pub exact : g *ℤ p ≡ s
  pub rest_is : rest ≡ unscaled k a
  pub is : x ≡ scaled k p rest

pub common_quotients : (k : KindName) (s r g p q : ℤ) (a b rest_a rest_b x y : PlainEdge) → IsCommon k s r g a b → IsTaken k g s p a rest_a x →
    IsTaken k g r q b rest_b y → AreQuotients k g a b x y
common_quotients k s r g p q a b rest_a rest_b x y c first second =
    let may = may_scale_factor k s r g a b c in
    record {
      some = common_nonzero k s r g a b c;
      first = record { some = c.some_a; may = may; left = p; exact = first.exact ∙ c.first; is = first.is ∙ ap (scaled k p) first.rest_is };
      second = record { some = c.some_b; may = may; left = q; exact = second.exact ∙ c.second; is = second.is ∙ ap (scaled k q) second.rest_is };
    }
