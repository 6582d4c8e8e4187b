-- Products by those of the operands without their scales, and multiples by the scale put into an edge.
use Rattle.std.proofs.Common.{◌≡◌, refl, sym, ◌∙◌, ap, subst, ℕ, ℤ, pos, List, true, false, length, drop, arith}
use Rattle.std.specs.Prelude.{◌≢◌, Result, Ok, Err}
use Rattle.std.proofs.lemmas.Bool.{false_from_ne_true}
use Rattle.word_base.specs.declared.decomp.Decomp.{Decomp}
use Rattle.word_base.specs.declared.kind_name.KindName.{KindName}
use Rattle.word_base.specs.declared.kind_name.KindName.TheVariants.{Evbdd, StarBmd, Hdd, KStarBmd}
use Rattle.tables.specs.Table.{Table, times, multiple}
use Rattle.tables.specs.Factors.{has_factor}
use Rattle.tables.specs.Fits.{weights_in_range, fits}
use Rattle.tables.specs.Pieces.{scale_work}
use Rattle.tables.proofs.FactorLaws.{factors_fit}
use Rattle.tables.proofs.PieceLaws.{Covers}
use Rattle.tables.proofs.TableLaws.{products_of_multiples}
use Rattle.kind_laws.specs.Plain.{PlainEdge}
use Rattle.kind_laws.specs.Scale.{scale_of, unscaled, MayScale, scaled}
use Rattle.kind_laws.proofs.RootLaws.{fits_root}
use Rattle.kind_laws.proofs.ScaleLaws.{scale-taken}
use Rattle.diagram.specs.Answers.{Answers}
use Rattle.diagram.specs.Calls.{IsOfEach, IsOfBoth}
use Rattle.diagram.specs.Products.{product_work, AreSome}
use Rattle.diagram.specs.View.{View, StandsAt, Keeps}
use Rattle.diagram.specs.declared.limit.Limit.{Limit}
use Rattle.diagram.specs.declared.limit.Limit.TheVariants as limit
use Rattle.diagram.proofs.CallLaws.{Ran, ran_nothing, ran_then, refuses_then, ran_overflows}
use Rattle.diagram.proofs.FactorCovers.{AreFactors, mul_work_covers}
use Rattle.diagram.proofs.JoinCauses.{no_cause, answers_at_once, answers_overflow}
use Rattle.diagram.proofs.LevelLaws.{allowed_from}
use Rattle.diagram.proofs.MultipleLaws.{scale_covers_multiple}
use Rattle.diagram.proofs.ProductLaws.{product_covers_product}
use Rattle.diagram.proofs.ScaledEdges.{is_factor, scaled_stands, IsUnscaled, unscaled_stands, some_scale}

-- a table does not fit where a weight of its edge is out of range
out_of_range : (k : KindName) (v : View) (l : ℕ) (t : Table) (e : PlainEdge) → StandsAt k v l t e → (weights_in_range e.root ≡ true → ⊥) →
    fits k (drop l v.letters) t ≡ false
out_of_range k v l t e h far =
    let ds = drop l v.letters in
    false_from_ne_true _ (λ fit. far (ap weights_in_range h.stands.root_is ∙ fits_root k ds l t (allowed_from k v.letters l h.allowed) h.stands.over fit))

-- ---- products
-- the product of two edges, from one view to another
abbrev pub IsProduct : KindName → View → View → PlainEdge → PlainEdge → Result PlainEdge Limit → Type 0
IsProduct k v w a b r = IsOfBoth times (product_work v.letters) k v w a b r

-- what is left of two tables without the scales of their edges
record Rests (k : KindName) (v : View) (l : ℕ) (t u : Table) (a b : PlainEdge) : Type 0 where
  some_a : scale_of k a.root ≢ pos 0
  some_b : scale_of k b.root ≢ pos 0
  first : IsUnscaled k v l t a
  second : IsUnscaled k v l u b

rests_of : (k : KindName) (v : View) (l : ℕ) (t u : Table) (a b : PlainEdge) → AreSome k a b → StandsAt k v l t a → StandsAt k v l u b → Rests k v l t u a b
rests_of k v l t u a b some h g =
    let some_a = some_scale k v l t a h some.first in
    let some_b = some_scale k v l u b g some.second in
    record { some_a = some_a; some_b = some_b; first = unscaled_stands k v l t a some_a h; second = unscaled_stands k v l u b some_b g }

rests_covered : (k : KindName) (v : View) (l : ℕ) (t u : Table) (a b : PlainEdge) (m : Rests k v l t u a b) →
    Covers k v.letters (product_work v.letters l t u) (product_work v.letters l m.first.rest m.second.rest)
rests_covered k v l t u a b m =
    let x = m.first.rest in
    let y = m.second.rest in
    let Work : Table → Table → Type 0 = λ p q. Covers k v.letters (product_work v.letters l p q) (product_work v.letters l x y) in
    let are : AreFactors k (scale_of k a.root) (scale_of k b.root) = record {
      first = is_factor k (scale_of k a.root) (scale-taken k a.root) m.some_a;
      second = is_factor k (scale_of k b.root) (scale-taken k b.root) m.some_b;
    } in
    subst (λ (p : Table). Work p u) (sym m.first.is_multiple)
    (subst (Work (multiple (scale_of k a.root) x)) (sym m.second.is_multiple)
    (mul_work_covers k v.letters (drop l v.letters) l (scale_of k a.root) (scale_of k b.root) x y are m.first.stands.stands.over m.second.stands.stands.over))

product_is : (k : KindName) (v : View) (l : ℕ) (t u : Table) (a b : PlainEdge) (m : Rests k v l t u a b) →
    multiple (scale_of k a.root) (multiple (scale_of k b.root) (times m.first.rest m.second.rest)) ≡ times t u
product_is k v l t u a b m =
    sym (products_of_multiples (length (drop l v.letters)) (scale_of k a.root) (scale_of k b.root) m.first.rest m.second.rest m.first.stands.stands.over m.second.stands.stands.over)
    ∙ ap (λ (z : Table). times z (multiple (scale_of k b.root) m.second.rest)) (sym m.first.is_multiple) ∙ ap (times t) (sym m.second.is_multiple)

rests_ran : (k : KindName) (v w : View) (l : ℕ) (t u : Table) (a b rest : PlainEdge) (m : Rests k v l t u a b) → Keeps v w →
    IsProduct k v w (unscaled k a) (unscaled k b) (Ok rest) → Ran k v w (product_work v.letters l t u)
rests_ran k v w l t u a b rest m keeps product =
    ran_then k v v w (product_work v.letters l t u) _ l _ (Ok rest) (ran_nothing k v (product_work v.letters l t u)) keeps (rests_covered k v l t u a b m)
    (product l m.first.rest m.second.rest m.first.stands m.second.stands)

pub rests_product_refuses : (k : KindName) (v w : View) (a b : PlainEdge) (e : Limit) → AreSome k a b → Keeps v w →
    IsProduct k v w (unscaled k a) (unscaled k b) (Err e) → IsProduct k v w a b (Err e)
rests_product_refuses k v w a b e some keeps product l t u h g =
    let m = rests_of k v l t u a b some h g in
    refuses_then k v v w (product_work v.letters l t u) _ l l (times t u) _ e (ran_nothing k v (product_work v.letters l t u)) keeps (rests_covered k v l t u a b m)
    (product l m.first.rest m.second.rest m.first.stands m.second.stands)

-- the product of what is left, with the second scale put back
second_stands : (k : KindName) (v w : View) (l : ℕ) (t u : Table) (a b rest : PlainEdge) (m : Rests k v l t u a b) →
    IsProduct k v w (unscaled k a) (unscaled k b) (Ok rest) →
    StandsAt k w l (multiple (scale_of k b.root) (times m.first.rest m.second.rest)) (scaled k (scale_of k b.root) rest)
second_stands k v w l t u a b rest m product =
    scaled_stands k w l (scale_of k b.root) _ rest (scale-taken k b.root) m.some_b (product l m.first.rest m.second.rest m.first.stands m.second.stands).stands

-- and the first one
first_stands : (k : KindName) (v w : View) (l : ℕ) (t u : Table) (a b rest : PlainEdge) (m : Rests k v l t u a b) →
    IsProduct k v w (unscaled k a) (unscaled k b) (Ok rest) → StandsAt k w l (times t u) (scaled k (scale_of k a.root) (scaled k (scale_of k b.root) rest))
first_stands k v w l t u a b rest m product =
    subst (λ (z : Table). StandsAt k w l z (scaled k (scale_of k a.root) (scaled k (scale_of k b.root) rest))) (product_is k v l t u a b m)
    (scaled_stands k w l (scale_of k a.root) _ (scaled k (scale_of k b.root) rest) (scale-taken k a.root) m.some_a (second_stands k v w l t u a b rest m product))

-- where the product does not fit
product_overflows : (k : KindName) (v w : View) (l : ℕ) (t u : Table) (a b rest : PlainEdge) (m : Rests k v l t u a b) → Keeps v w →
    IsProduct k v w (unscaled k a) (unscaled k b) (Ok rest) → fits k (drop l v.letters) (times t u) ≡ false →
    Answers k v w (product_work v.letters l t u) l (times t u) (Err limit.Overflow)
product_overflows k v w l t u a b rest m keeps product unfit =
    ran_overflows k v w (product_work v.letters l t u) l (times t u) (rests_ran k v w l t u a b rest m keeps product)
    ((product_covers_product k v.letters l t u).unfit (record { level = l; table = times t u }, (0, omega arith, refl), unfit))

pub second_scale_overflows : (k : KindName) (v w : View) (a b rest : PlainEdge) → AreSome k a b → Keeps v w →
    IsProduct k v w (unscaled k a) (unscaled k b) (Ok rest) → (weights_in_range (scaled k (scale_of k b.root) rest).root ≡ true → ⊥) →
    IsProduct k v w a b (Err limit.Overflow)
second_scale_overflows k v w a b rest some keeps product far l t u h g =
    let m = rests_of k v l t u a b some h g in
    let inside = multiple (scale_of k b.root) (times m.first.rest m.second.rest) in
    let ds = drop l v.letters in
    let unfit : fits k ds inside ≡ false =
    subst (λ (es : List Decomp). fits k (drop l es) inside ≡ false) keeps.letters
    (out_of_range k w l inside (scaled k (scale_of k b.root) rest) (second_stands k v w l t u a b rest m product) far) in
    let factor = is_factor k (scale_of k a.root) (scale-taken k a.root) m.some_a in
    let whole : fits k ds (multiple (scale_of k a.root) inside) ≡ false =
    false_from_ne_true _ (λ fit. let e = factors_fit k ds (scale_of k a.root) inside factor fit in absurd (cc)) in
    product_overflows k v w l t u a b rest m keeps product (subst (λ (z : Table). fits k ds z ≡ false) (product_is k v l t u a b m) whole)

pub first_scale_overflows : (k : KindName) (v w : View) (a b rest : PlainEdge) → AreSome k a b → Keeps v w →
    IsProduct k v w (unscaled k a) (unscaled k b) (Ok rest) →
    (weights_in_range (scaled k (scale_of k a.root) (scaled k (scale_of k b.root) rest)).root ≡ true → ⊥) → IsProduct k v w a b (Err limit.Overflow)
first_scale_overflows k v w a b rest some keeps product far l t u h g =
    let m = rests_of k v l t u a b some h g in
    product_overflows k v w l t u a b rest m keeps product
    (subst (λ (es : List Decomp). fits k (drop l es) (times t u) ≡ false) keeps.letters
    (out_of_range k w l (times t u) _ (first_stands k v w l t u a b rest m product) far))

pub scales_put_back : (k : KindName) (v w : View) (a b rest : PlainEdge) → AreSome k a b → Keeps v w →
    IsProduct k v w (unscaled k a) (unscaled k b) (Ok rest) → IsProduct k v w a b (Ok (scaled k (scale_of k a.root) (scaled k (scale_of k b.root) rest)))
scales_put_back k v w a b rest some keeps product l t u h g =
    let m = rests_of k v l t u a b some h g in
    record {
      made = (rests_ran k v w l t u a b rest m keeps product).made;
      cause = no_cause k w (product_work v.letters l t u) _;
      stands = first_stands k v w l t u a b rest m product;
    }

-- ---- multiples
may_scale : (k : KindName) (s : ℤ) → has_factor k ≡ true → MayScale k s
may_scale Evbdd s has = absurd (cc)
may_scale StarBmd s has = tt
may_scale Hdd s has = absurd (cc)
may_scale KStarBmd s has = tt

pub scale_answers : (k : KindName) (v : View) (s : ℤ) (a : PlainEdge) → has_factor k ≡ true → s ≢ pos 0 →
    IsOfEach (multiple s) (scale_work s) k v v a (Ok (scaled k s a))
scale_answers k v s a has some l t h = answers_at_once k v (scale_work s l t) l (multiple s t) (scaled k s a) (scaled_stands k v l s t a (may_scale k s has) some h)

pub scale_overflows : (k : KindName) (v : View) (s : ℤ) (a : PlainEdge) → has_factor k ≡ true → s ≢ pos 0 → (weights_in_range (scaled k s a).root ≡ true → ⊥) →
    IsOfEach (multiple s) (scale_work s) k v v a (Err limit.Overflow)
scale_overflows k v s a has some far l t h =
    answers_overflow k v (scale_work s l t) l (multiple s t)
    ((scale_covers_multiple k v.letters s l t).unfit (
      record { level = l; table = multiple s t },
      (0, omega arith, refl),
      out_of_range k v l (multiple s t) (scaled k s a) (scaled_stands k v l s t a (may_scale k s has) some h) far,
    ))
