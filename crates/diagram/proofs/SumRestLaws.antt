-- What the sum of what is left of two edges makes of that of the edges.
use Rattle.std.proofs.Common.{◌≡◌, refl, sym, ◌∙◌, ap, subst, ℤ, pos, ◌+ℤ◌, arith, inl, inr}
use Rattle.std.specs.Prelude.{◌≢◌, Result, Ok, Err, IsErr}
use Rattle.std.proofs.lemmas.Int.{ints}
use Rattle.word_base.specs.declared.kind_name.KindName.{KindName}
use Rattle.word_base.specs.declared.kind_name.KindName.TheVariants.{Evbdd, StarBmd, Hdd, KStarBmd}
use Rattle.word_base.specs.declared.weight.Overflow.{Overflow}
use Rattle.tables.specs.Table.{Table, plus}
use Rattle.tables.proofs.TableLaws.{times_one}
use Rattle.kind_laws.specs.Plain.{PlainEdge, answered}
use Rattle.kind_laws.specs.Scale.{shift_of, unshifted, MayScale, scaled, MayShift, Shifts, shifted}
use Rattle.diagram.specs.Remembered.{IsResult}
use Rattle.diagram.specs.SumRests.{IsSum, IsUnshifted, Unshifts, AreQuotients, IsReduced, Reduces, IsPutBack, PutsBack, AreRests}
use Rattle.diagram.specs.Sums.{sum_work}
use Rattle.diagram.specs.View.{View, StandsAt, IsEdge, Keeps}
use Rattle.diagram.specs.declared.limit.Limit.{Limit}
use Rattle.diagram.specs.declared.limit.Limit.TheVariants as limit
use Rattle.diagram.specs.declared.operation.Operation.TheVariants.{Sum}
use Rattle.diagram.specs.declared.walk.Walk.{Walk}
use Rattle.diagram.specs.declared.walk.Walk.TheVariants.{Stripping, Plain}
use Rattle.diagram.proofs.CallLaws.{ran_overflows}
use Rattle.diagram.proofs.FactoredSums.{quotient_good, quotient_node, quotients_refuse, factor_put_back}
use Rattle.diagram.proofs.JoinCauses.{no_cause}
use Rattle.diagram.proofs.RememberedLaws.{known_both}
use Rattle.diagram.proofs.ScaledEdges.{scaled_stands}
use Rattle.diagram.proofs.ShiftLaws.{unshifted_good, may_shift_both}
use Rattle.diagram.proofs.StoreLaws.{keeps_itself}
use Rattle.diagram.proofs.StrippedSums.{unfit_anyway, IsStripped, overflows_anyway, rests_refuse, shifts_put_back}

-- ---- the factor 1 and the shift 0
may_scale_by_one : (k : KindName) → MayScale k (pos 1)
may_scale_by_one Evbdd = refl
may_scale_by_one StarBmd = tt
may_scale_by_one Hdd = refl
may_scale_by_one KStarBmd = tt

may_shift_by_none : (k : KindName) → MayShift k (pos 0)
may_shift_by_none Evbdd = tt
may_shift_by_none StarBmd = refl
may_shift_by_none Hdd = refl
may_shift_by_none KStarBmd = tt

one_is_some : pos 1 ≢ pos 0
one_is_some h = omega (arith, ints, h)

one_put_back : (k : KindName) (v w : View) (x y rest : PlainEdge) → IsStripped k v w x y (Ok rest) → IsStripped k v w x y (Ok (scaled k (pos 1) rest))
one_put_back k v w x y rest sum l t u h j =
    let answers = sum l t u h j in
    let total = scaled k (pos 1) rest in
    record {
      made = answers.made;
      cause = no_cause k w (sum_work Stripping l t u) total;
      stands = subst (λ (z : Table). StandsAt k w l z total) (times_one (plus t u))
          (scaled_stands k w l (pos 1) (plus t u) rest (may_scale_by_one k) one_is_some answers.stands);
    }

-- ---- the factor
record Reduction (k : KindName) (v : View) (x y p q : PlainEdge) (g : ℤ) : Type 0 where
  first_good : IsEdge k v p
  second_good : IsEdge k v q
  first_node : p.node ≡ x.node
  second_node : q.node ≡ y.node
  may_scale : MayScale k g
  refuses : (w : View) (e : Limit) → Keeps v w → IsStripped k v w p q (Err e) → IsStripped k v w x y (Err e)
  back : (w : View) (rest : PlainEdge) → Keeps v w → IsStripped k v w p q (Ok rest) → IsStripped k v w x y (Ok (scaled k g rest))

by_quotients : (k : KindName) (v : View) (x y p q : PlainEdge) (g : ℤ) → IsEdge k v x → IsEdge k v y → AreQuotients k g x y p q → Reduction k v x y p q g
by_quotients k v x y p q g good_x good_y are = record {
  first_good = quotient_good k v g x p are.first good_x;
  second_good = quotient_good k v g y q are.second good_y;
  first_node = quotient_node k g x p are.first;
  second_node = quotient_node k g y q are.second;
  may_scale = are.first.may;
  refuses = λ w e keeps sum. quotients_refuse k v w g x y p q e are keeps sum;
  back = λ w rest keeps sum. factor_put_back k v w g x y p q rest (scaled k g rest) are keeps refl sum;
}

unreduced : (k : KindName) (v : View) (x y : PlainEdge) → IsEdge k v x → IsEdge k v y → Reduction k v x y x y (pos 1)
unreduced k v x y good_x good_y = record {
  first_good = good_x;
  second_good = good_y;
  first_node = refl;
  second_node = refl;
  may_scale = may_scale_by_one k;
  refuses = λ w e keeps sum. sum;
  back = λ w rest keeps sum. one_put_back k v w x y rest sum;
}

by_themselves : (k : KindName) (v : View) (x y p q : PlainEdge) (g : ℤ) → IsEdge k v x → IsEdge k v y → g ≡ pos 1 → p ≡ x → q ≡ y → Reduction k v x y p q g
by_themselves k v x y p q g good_x good_y one first second =
    subst (Reduction k v x y p q) (sym one)
    (subst (λ (e : PlainEdge). Reduction k v x y p e (pos 1)) (sym second)
    (subst (λ (e : PlainEdge). Reduction k v x y e y (pos 1)) (sym first) (unreduced k v x y good_x good_y)))

reduction : (k : KindName) (v : View) (x y : PlainEdge) (q : ℤ × PlainEdge × PlainEdge) → IsEdge k v x → IsEdge k v y → IsReduced Stripping k (x, y) q →
    Reduction k v x y q.1 q.2 q.0
reduction k v x y q good_x good_y (inl (one, first, second)) = by_themselves k v x y q.1 q.2 q.0 good_x good_y one first second
reduction k v x y q good_x good_y (inr (strips, are)) = by_quotients k v x y q.1 q.2 q.0 good_x good_y are

-- ---- the shifts
of_unshifted : (k : KindName) (v w : View) (a b x y : PlainEdge) (r : Result PlainEdge Limit) → x ≡ unshifted k a → y ≡ unshifted k b → IsStripped k v w x y r →
    IsStripped k v w (unshifted k a) (unshifted k b) r
of_unshifted k v w a b x y r first second sum =
    subst (λ (e : PlainEdge). IsStripped k v w (unshifted k a) e r) second (subst (λ (e : PlainEdge). IsStripped k v w e y r) first sum)

-- the sum overflows, whatever it was
made_and_overflows : (k : KindName) (v w : View) (a b rest : PlainEdge) → Keeps v w → IsStripped k v w a b (Ok rest) → IsStripped k v w a b (Err limit.Overflow)
made_and_overflows k v w a b rest keeps sum l t u h g =
    ran_overflows k v w (sum_work Stripping l t u) l (plus t u) (record { keeps = keeps; made = (sum l t u h g).made }) (unfit_anyway k v.letters l t u)

both_put_back : (k : KindName) (v w : View) (a b x y p q rest : PlainEdge) (g shift : ℤ) → shift ≡ shift_of k a.root +ℤ shift_of k b.root → x ≡ unshifted k a →
    y ≡ unshifted k b → Reduction k v x y p q g → Keeps v w → IsStripped k v w p q (Ok rest) → IsStripped k v w a b (Ok (shifted k shift (scaled k g rest)))
both_put_back k v w a b x y p q rest g shift shift_is first second red keeps sum =
    let multiple = scaled k g rest in
    shifts_put_back k v w a b multiple (shifted k shift multiple) shift keeps shift_is refl
    (of_unshifted k v w a b x y (Ok multiple) first second (red.back w rest keeps sum))

stripped_rests : (k : KindName) (v : View) (both : PlainEdge × PlainEdge) (r q : ℤ × PlainEdge × PlainEdge) → IsEdge k v both.0 → IsEdge k v both.1 →
    IsUnshifted Stripping k both r → Reduction k v r.1 r.2 q.1 q.2 q.0 → AreRests Stripping k v both (q.1, q.2) q.0 r.0
stripped_rests k v both r q good_a good_b un red =
    let back : (w : View) (rest : PlainEdge) → Keeps v w → IsStripped k v w q.1 q.2 (Ok rest) →
    IsStripped k v w both.0 both.1 (Ok (shifted k r.0 (scaled k q.0 rest))) = λ w rest keeps sum.
    both_put_back k v w both.0 both.1 r.1 r.2 q.1 q.2 rest q.0 r.0 un.0 un.1 un.2 red keeps sum in
    record {
      first_good = red.first_good;
      second_good = red.second_good;
      first_node = red.first_node ∙ ap (λ (e : PlainEdge). e.node) un.1;
      second_node = red.second_node ∙ ap (λ (e : PlainEdge). e.node) un.2;
      may_scale = red.may_scale;
      may_shift = subst (MayShift k) (sym un.0) (may_shift_both k both.0.root both.1.root);
      refuses = λ w e keeps sum.
          rests_refuse k v w both.0 both.1 e keeps (of_unshifted k v w both.0 both.1 r.1 r.2 (Err e) un.1 un.2 (red.refuses w e keeps sum));
      overflows = λ w rest keeps sum strips. made_and_overflows k v w both.0 both.1 _ keeps (back w rest keeps sum);
      back = λ w rest total keeps sum is. subst (λ (e : PlainEdge). IsStripped k v w both.0 both.1 (Ok e)) (sym is) (back w rest keeps sum);
    }

-- ---- the plain walk
of_themselves : (k : KindName) (v w : View) (a b x y : PlainEdge) (r : Result PlainEdge Limit) → x ≡ a → y ≡ b → IsSum Plain k v w (x, y) r → IsSum Plain k v w (a, b) r
of_themselves k v w a b x y r first second sum =
    subst (λ (e : PlainEdge). IsSum Plain k v w (a, e) r) second (subst (λ (e : PlainEdge). IsSum Plain k v w (e, y) r) first sum)

plain_rests : (k : KindName) (v : View) (both rests : PlainEdge × PlainEdge) → IsEdge k v both.0 → IsEdge k v both.1 → rests.0 ≡ both.0 → rests.1 ≡ both.1 →
    AreRests Plain k v both rests (pos 1) (pos 0)
plain_rests k v both rests good_a good_b first second = record {
  first_good = subst (IsEdge k v) (sym first) good_a;
  second_good = subst (IsEdge k v) (sym second) good_b;
  first_node = ap (λ (e : PlainEdge). e.node) first;
  second_node = ap (λ (e : PlainEdge). e.node) second;
  may_scale = may_scale_by_one k;
  may_shift = may_shift_by_none k;
  refuses = λ w e keeps sum. of_themselves k v w both.0 both.1 rests.0 rests.1 (Err e) first second sum;
  overflows = λ w rest keeps sum strips. absurd (cc);
  back = λ w rest total keeps sum is.
      of_themselves k v w both.0 both.1 rests.0 rests.1 (Ok total) first second
      (subst (λ (e : PlainEdge). IsSum Plain k v w (rests.0, rests.1) (Ok e)) (sym is) sum);
}

plain_walk_rests : (k : KindName) (v : View) (both : PlainEdge × PlainEdge) (r q : ℤ × PlainEdge × PlainEdge) → IsEdge k v both.0 → IsEdge k v both.1 →
    IsUnshifted Plain k both r → IsReduced Plain k (r.1, r.2) q → AreRests Plain k v both (q.1, q.2) q.0 r.0
plain_walk_rests k v both r q good_a good_b un (inl (one, first, second)) =
    subst (AreRests Plain k v both (q.1, q.2) q.0) (sym un.0)
    (subst (λ (g : ℤ). AreRests Plain k v both (q.1, q.2) g (pos 0)) (sym one)
    (plain_rests k v both (q.1, q.2) good_a good_b (first ∙ un.1) (second ∙ un.2)))
plain_walk_rests k v both r q good_a good_b un (inr (strips, are)) = absurd (cc)

-- ---- either walk
pub rests_are : (walk : Walk) (k : KindName) (v : View) (both : PlainEdge × PlainEdge) (r q : ℤ × PlainEdge × PlainEdge) → IsEdge k v both.0 → IsEdge k v both.1 →
    IsUnshifted walk k both r → IsReduced walk k (r.1, r.2) q → AreRests walk k v both (q.1, q.2) q.0 r.0
rests_are Stripping k v both r q good_a good_b un reduced =
    let good_x : IsEdge k v r.1 = subst (IsEdge k v) (sym un.1) (unshifted_good k v both.0 good_a) in
    let good_y : IsEdge k v r.2 = subst (IsEdge k v) (sym un.2) (unshifted_good k v both.1 good_b) in
    stripped_rests k v both r q good_a good_b un (reduction k v r.1 r.2 q good_x good_y reduced)
rests_are Plain k v both r q good_a good_b un reduced = plain_walk_rests k v both r q good_a good_b un reduced

-- before a factor is taken
pub unshifted_rests : (walk : Walk) (k : KindName) (v : View) (both : PlainEdge × PlainEdge) (r : ℤ × PlainEdge × PlainEdge) → IsEdge k v both.0 → IsEdge k v both.1 →
    IsUnshifted walk k both r → AreRests walk k v both (r.1, r.2) (pos 1) r.0
unshifted_rests walk k v both r good_a good_b un = rests_are walk k v both r (pos 1, r.1, r.2) good_a good_b un (inl (refl, refl, refl))

-- a walk that strips may overflow at once
pub strips_and_overflows : (walk : Walk) (k : KindName) (v : View) (both : PlainEdge × PlainEdge) → walk ≡ Stripping → IsSum walk k v v both (Err limit.Overflow)
strips_and_overflows walk k v both strips =
    subst (λ (w : Walk). IsSum w k v v both (Err limit.Overflow)) (sym strips) (overflows_anyway k v both.0 both.1)

-- ---- a sum that is known
pub known_put_back : (walk : Walk) (k : KindName) (v : View) (both rests : PlainEdge × PlainEdge) (factor shift : ℤ) (rest total : PlainEdge) →
    AreRests walk k v both rests factor shift → IsResult Sum k v rests.0 rests.1 rest → IsPutBack walk k factor shift rest total → IsSum walk k v v both (Ok total)
known_put_back walk k v both rests factor shift rest total are known is =
    are.back v rest total (keeps_itself v) (known_both Sum k (sum_work walk) v rests.0 rests.1 rest known) is

pub known_overflows : (walk : Walk) (k : KindName) (v : View) (both rests : PlainEdge × PlainEdge) (factor shift : ℤ) (rest : PlainEdge) →
    AreRests walk k v both rests factor shift → IsResult Sum k v rests.0 rests.1 rest → walk ≡ Stripping → IsSum walk k v v both (Err limit.Overflow)
known_overflows walk k v both rests factor shift rest are known strips =
    are.overflows v rest (keeps_itself v) (known_both Sum k (sum_work walk) v rests.0 rests.1 rest known) strips

-- ---- what the steps answer
pub refused_unshift : {T : Type 0} (walk : Walk) (k : KindName) (both : PlainEdge × PlainEdge) (f : T → ℤ × PlainEdge × PlainEdge) (result : Result T Overflow) → IsErr result →
    walk ≡ Stripping → Unshifts walk k both (answered f result)
refused_unshift walk k both f (Ok x) is strips = absurd (cc)
refused_unshift walk k both f (Err e) is strips = strips

pub refused_reduction : {T : Type 0} (walk : Walk) (k : KindName) (both : PlainEdge × PlainEdge) (f : T → ℤ × PlainEdge × PlainEdge) (result : Result T Overflow) → IsErr result →
    walk ≡ Stripping → Reduces walk k both (answered f result)
refused_reduction walk k both f (Ok x) is strips = absurd (cc)
refused_reduction walk k both f (Err e) is strips = strips

pub shifts_put : (walk : Walk) (k : KindName) (factor shift : ℤ) (rest multiple : PlainEdge) (result : Result PlainEdge Overflow) → walk ≡ Stripping →
    multiple ≡ scaled k factor rest → Shifts k shift multiple result → PutsBack walk k factor shift rest result
shifts_put walk k factor shift rest multiple (Ok total) strips is puts =
    subst (λ (w : Walk). IsPutBack w k factor shift rest total) (sym strips) (puts.1 ∙ ap (shifted k shift) is)
shifts_put walk k factor shift rest multiple (Err e) strips is puts = strips

pub refused_back : {T : Type 0} (walk : Walk) (k : KindName) (factor shift : ℤ) (rest : PlainEdge) (f : T → PlainEdge) (result : Result T Overflow) → IsErr result →
    walk ≡ Stripping → PutsBack walk k factor shift rest (answered f result)
refused_back walk k factor shift rest f (Ok x) is strips = absurd (cc)
refused_back walk k factor shift rest f (Err e) is strips = strips

pub reduced_by : (walk : Walk) (k : KindName) (both : PlainEdge × PlainEdge) (result : Result (ℤ × PlainEdge × PlainEdge) Overflow) → walk ≡ Stripping →
    Reduces Stripping k both result → Reduces walk k both result
reduced_by walk k both result strips is = subst (λ (w : Walk). Reduces w k both result) (sym strips) is
