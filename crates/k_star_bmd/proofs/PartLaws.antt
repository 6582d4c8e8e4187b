-- The parts of an edge, from the products of its weight and those of the node.
use Rattle.std.proofs.Common.{◌≡◌, refl, sym, ap, ◌∙◌, subst, ℤ, ◌+ℤ◌, ◌*ℤ◌, Bool, true, false, ◌&&◌}
use Rattle.std.specs.Prelude.{Result, Ok, Err, IsErr}
use Rattle.std.proofs.lemmas.Bool.{and_from, and_parts, false_from_ne_true}
use Rattle.word_base.specs.Range.{InRange, in_range}
use Rattle.word_base.specs.declared.decomp.Decomp.{Decomp}
use Rattle.word_base.specs.declared.decomp.Decomp.TheVariants.{S, P, N}
use Rattle.word_base.specs.declared.kind_name.KindName.TheVariants.{KStarBmd}
use Rattle.word_base.proofs.RangeLaws.{in_range_if, in_range_only_if}
use Rattle.word_base.specs.declared.weight.Overflow.{Overflow}
use Rattle.tables.specs.Tree.{Weights, weights}
use Rattle.tables.specs.Fits.{weights_in_range}
use Rattle.kind_laws.specs.Kind.{HasParts, parts_in_range, low_part_of, high_part_of, added_in_range}
use Rattle.kind_laws.specs.Plain.{PlainEdge, plain_edge, answered}
use Rattle.kind_laws.specs.declared.fields.Fields.{Fields}
use Rattle.k_star_bmd.specs.Additive.{high_extra_of}

-- a number in range that is this
abbrev pub Exact : ℤ → ℤ → Type 0
Exact y z = InRange y × (z ≡ y)

pub exactly : {x y : ℤ} (a z : ℤ) → x ≡ y → Exact (a *ℤ x) z → Exact (a *ℤ y) z
exactly a z e h = subst (λ n. Exact (a *ℤ n) z) e h

-- the parts, and that all weights are in range
pub record AreParts (d : Decomp) (w x : ℤ) (f : Fields) (low_weight high_weight extra : ℤ) : Type 0 where
  pub in_range : parts_in_range KStarBmd d (weights w x) f ≡ true
  pub low : plain_edge low_weight x f.low ≡ low_part_of KStarBmd (weights w x) f
  pub high : plain_edge high_weight extra f.high ≡ high_part_of KStarBmd d (weights w x) f

pub are_parts : (d : Decomp) (w x : ℤ) (f : Fields) (low_weight high_weight added extra : ℤ) → InRange x → Exact (w *ℤ f.low_weight) low_weight →
    Exact (w *ℤ f.high_weight) high_weight → Exact (w *ℤ f.added) added → Exact (high_extra_of d x added) extra → AreParts d w x f low_weight high_weight extra
are_parts d w x f low_weight high_weight added extra rx l h a e =
    record { in_range = and_from _ _ (and_from _ _ (in_range_if (w *ℤ f.low_weight) l.0) (in_range_if x rx)) (high_in_range d e.0); low = ap (λ z. plain_edge z x f.low) l.1; high = high_is d e.1 }
  where
    high_test : Decomp → Bool
    high_test d = weights_in_range (high_part_of KStarBmd d (weights w x) f).root && added_in_range KStarBmd d (weights w x) f

    product : in_range (w *ℤ f.high_weight) ≡ true
    product = in_range_if (w *ℤ f.high_weight) h.0

    summand : in_range (w *ℤ f.added) ≡ true
    summand = in_range_if (w *ℤ f.added) a.0

    high_in_range : (d : Decomp) → InRange (high_extra_of d x added) → high_test d ≡ true
    high_in_range S r = and_from _ _ (and_from _ _ product (in_range_if (x +ℤ w *ℤ f.added) (subst (λ (z : ℤ). InRange (x +ℤ z)) a.1 r))) summand
    high_in_range P r = and_from _ _ (and_from _ _ product summand) refl
    high_in_range N r = and_from _ _ (and_from _ _ product summand) refl

    high_is : (d : Decomp) → extra ≡ high_extra_of d x added → plain_edge high_weight extra f.high ≡ high_part_of KStarBmd d (weights w x) f
    high_is S r = ap (λ z. plain_edge z extra f.high) h.1 ∙ ap (λ z. plain_edge (w *ℤ f.high_weight) z f.high) (r ∙ ap (λ z. x +ℤ z) a.1)
    high_is P r = ap (λ z. plain_edge z extra f.high) h.1 ∙ ap (λ z. plain_edge (w *ℤ f.high_weight) z f.high) (r ∙ a.1)
    high_is N r = ap (λ z. plain_edge z extra f.high) h.1 ∙ ap (λ z. plain_edge (w *ℤ f.high_weight) z f.high) (r ∙ a.1)

-- weights of the high part that are out of range
pub high_weight_out : (d : Decomp) (w x : ℤ) (f : Fields) → (InRange (w *ℤ f.high_weight) → ⊥) → parts_in_range KStarBmd d (weights w x) f ≡ false
high_weight_out d w x f out = false_from_ne_true _ (λ all. out (in_range_only_if (w *ℤ f.high_weight) (first d (and_parts _ _ all).1)))
  where
    first : (d : Decomp) → weights_in_range (high_part_of KStarBmd d (weights w x) f).root && added_in_range KStarBmd d (weights w x) f ≡ true → in_range (w *ℤ f.high_weight) ≡ true
    first S h = (and_parts _ _ (and_parts _ _ h).0).0
    first P h = (and_parts _ _ (and_parts _ _ h).0).0
    first N h = (and_parts _ _ (and_parts _ _ h).0).0

pub added_out : (d : Decomp) (w x : ℤ) (f : Fields) → (InRange (w *ℤ f.added) → ⊥) → parts_in_range KStarBmd d (weights w x) f ≡ false
added_out d w x f out = false_from_ne_true _ (λ all. out (in_range_only_if (w *ℤ f.added) (first d (and_parts _ _ all).1)))
  where
    first : (d : Decomp) → weights_in_range (high_part_of KStarBmd d (weights w x) f).root && added_in_range KStarBmd d (weights w x) f ≡ true → in_range (w *ℤ f.added) ≡ true
    first S h = (and_parts _ _ h).1
    first P h = (and_parts _ _ (and_parts _ _ h).0).1
    first N h = (and_parts _ _ (and_parts _ _ h).0).1

pub extra_out : (d : Decomp) (w x added : ℤ) (f : Fields) → added ≡ w *ℤ f.added → (InRange (high_extra_of d x added) → ⊥) → parts_in_range KStarBmd d (weights w x) f ≡ false
extra_out d w x added f is out = false_from_ne_true _ (λ all. out (first d (and_parts _ _ all).1))
  where
    first : (d : Decomp) → weights_in_range (high_part_of KStarBmd d (weights w x) f).root && added_in_range KStarBmd d (weights w x) f ≡ true → InRange (high_extra_of d x added)
    first S h = subst (λ (z : ℤ). InRange (x +ℤ z)) (sym is) (in_range_only_if (x +ℤ w *ℤ f.added) (and_parts _ _ (and_parts _ _ h).0).1)
    first P h = subst InRange (sym is) (in_range_only_if (w *ℤ f.added) (and_parts _ _ (and_parts _ _ h).0).1)
    first N h = subst InRange (sym is) (in_range_only_if (w *ℤ f.added) (and_parts _ _ (and_parts _ _ h).0).1)

pub refused_parts : {T : Type 0} (to : T → PlainEdge × PlainEdge) (result : Result T Overflow) (d : Decomp) (root : Weights) (f : Fields) →
    IsErr result → parts_in_range KStarBmd d root f ≡ false → HasParts KStarBmd d root f (answered to result)
refused_parts to (Ok x) d root f is out = absurd (cc)
refused_parts to (Err e) d root f is out = out
