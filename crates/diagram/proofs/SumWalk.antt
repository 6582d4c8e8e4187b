-- Sums that wait in frames: what the answers for which they wait make of them.
use Rattle.std.proofs.Common.{◌≡◌, refl, sym, ◌∙◌, ap, subst, ℕ, ℤ, Bool, true, false, length, min, ◌<◌, ◌≤◌, arith}
use Rattle.std.specs.Prelude.{Result, Ok, Err}
use Rattle.std.specs.Result.{IsErrAnd}
use Rattle.word_base.specs.declared.kind_name.KindName.{KindName}
use Rattle.word_base.specs.declared.weight.Overflow.{Overflow}
use Rattle.tables.specs.Table.{plus}
use Rattle.kind_laws.specs.Plain.{PlainEdge}
use Rattle.kind_laws.specs.Scale.{MayScale, MayShift}
use Rattle.result_cache.specs.declared.key.CacheKey.{CacheKey}
use Rattle.diagram.specs.Calls.{CanJoin, IsJoin, PlainSplit, Splits, upper}
use Rattle.diagram.specs.Remembered.{IsKept, IsKeyOf}
use Rattle.diagram.specs.SumFrames.{SumCall, PlainSum, AreBoth, IsAt, Waits, IsWaiting, Place, GoesOn}
use Rattle.diagram.specs.SumRests.{IsSum, IsPutBack, AreRests}
use Rattle.diagram.specs.Sums.{sum_work}
use Rattle.diagram.specs.View.{View, top_of, Keeps, IsEdge}
use Rattle.diagram.specs.declared.limit.Limit.{Limit}
use Rattle.diagram.specs.declared.limit.Limit.TheVariants as limit
use Rattle.diagram.specs.declared.operation.Operation.TheVariants.{Sum}
use Rattle.diagram.specs.declared.walk.Walk.{Walk}
use Rattle.diagram.specs.declared.walk.Walk.TheVariants.{Stripping}
use Rattle.diagram.proofs.BothLaws.{HaveNode}
use Rattle.diagram.proofs.CallLaws.{both_of_parts, both_unfit}
use Rattle.diagram.proofs.LevelLaws.{still_edge}
use Rattle.diagram.proofs.RememberedLaws.{both_result}
use Rattle.diagram.proofs.SplitLaws.{split_lies_below}
use Rattle.diagram.proofs.StoreLaws.{keeps_on, keeps_itself}
use Rattle.diagram.proofs.SumCalls.{low_refuses, high_refuses, sum_joins, sums_can_join}
use Rattle.diagram.proofs.SumLaws.{sum_by_halves, sum_covers_operands}

-- ---- where a frame is
at_low : (walk : Walk) (k : KindName) (outer inner : SumCall) (f : PlainSum) (w : Waits walk k outer f inner) → f.has_low ≡ false → IsAt walk k outer f inner w.parts false
at_low walk k outer inner f w is = subst (IsAt walk k outer f inner w.parts) is w.at

at_high : (walk : Walk) (k : KindName) (outer inner : SumCall) (f : PlainSum) (w : Waits walk k outer f inner) → f.has_low ≡ true → IsAt walk k outer f inner w.parts true
at_high walk k outer inner f w is = subst (IsAt walk k outer f inner w.parts) is w.at

-- the sum for which it waits, as that of its parts
of_both : (walk : Walk) (k : KindName) (v x : View) (p q : PlainEdge × PlainEdge) (r : Result PlainEdge Limit) → AreBoth p q → IsSum walk k v x p r → IsSum walk k v x q r
of_both walk k v x p q r are is =
    subst (λ (e : PlainEdge). IsSum walk k v x (q.0, e) r) are.1 (subst (λ (e : PlainEdge). IsSum walk k v x (e, p.1) r) are.0 is)

of_low : (walk : Walk) (k : KindName) (outer inner : SumCall) (x : View) (low : PlainEdge × PlainEdge) (r : Result PlainEdge Limit) → inner.view ≡ outer.view →
    AreBoth inner.operands low → IsSum walk k inner.view x inner.operands r → IsSum walk k outer.view x low r
of_low walk k outer inner x low r view are is = subst (λ (v : View). IsSum walk k v x low r) view (of_both walk k inner.view x inner.operands low r are is)

-- ---- a refusal is handed on
refuses_at : (walk : Walk) (k : KindName) (outer inner : SumCall) (f : PlainSum) (x : View) (e : Limit) (b : Bool) → f.has_low ≡ b → Waits walk k outer f inner →
    Keeps inner.view x → IsSum walk k inner.view x inner.operands (Err e) → IsSum walk k outer.view x outer.operands (Err e)
refuses_at walk k outer inner f x e false is w keeps refused =
    let at = at_low walk k outer inner f w is in
    let first = of_low walk k outer inner x w.parts.low (Err e) at.0 at.1 refused in
    let whole = keeps_on outer.view inner.view x w.keeps keeps in
    w.are_rests.refuses x e whole (w.of_parts x (Err e) whole (λ t u s.
    low_refuses walk k outer.view x f.level t u w.parts (λ (y : PlainEdge). y) (Err e) e w.below s refl whole first))
refuses_at walk k outer inner f x e true is w keeps refused =
    let at = at_high walk k outer inner f w is in
    let second = of_both walk k inner.view x inner.operands w.parts.high (Err e) at.0 refused in
    let whole = keeps_on outer.view inner.view x w.keeps keeps in
    w.are_rests.refuses x e whole (w.of_parts x (Err e) whole (λ t u s.
    high_refuses walk k outer.view inner.view x f.level t u w.parts f.first (λ (y : PlainEdge). y) (Err e) e w.below s refl w.keeps at.1 keeps second))

pub waiting_refuses : (walk : Walk) (k : KindName) (outer inner : SumCall) (f : PlainSum) (x : View) (e : Limit) → Waits walk k outer f inner → Keeps inner.view x →
    IsSum walk k inner.view x inner.operands (Err e) → IsSum walk k outer.view x outer.operands (Err e)
waiting_refuses walk k outer inner f x e w keeps refused = refuses_at walk k outer inner f x e f.has_low refl w keeps refused

-- ---- the low sum is known
pub waits_for_high : (walk : Walk) (k : KindName) (outer inner : SumCall) (f : PlainSum) (x : View) (known : PlainEdge) → Waits walk k outer f inner → f.has_low ≡ false →
    Keeps inner.view x → IsSum walk k inner.view x inner.operands (Ok known) →
    Waits walk k outer (record { key = f.key; level = f.level; factor = f.factor; shift = f.shift; has_low = true; first = known; second = f.second })
    (record { view = x; operands = (f.first, f.second) })
waits_for_high walk k outer inner f x known w is keeps low =
    let at = at_low walk k outer inner f w is in
    record {
      rests = w.rests;
      parts = w.parts;
      below = w.below;
      are_rests = w.are_rests;
      of_parts = w.of_parts;
      is_key = w.is_key;
      keeps = keeps_on outer.view inner.view x w.keeps keeps;
      at = ((at.2, at.3), of_low walk k outer inner x w.parts.low (Ok known) at.0 at.1 low);
    }

-- ---- a sum that begins
pub waits_for_low : (walk : Walk) (k : KindName) (v : View) (both rests : PlainEdge × PlainEdge) (split : PlainSplit) (key : CacheKey) (factor shift : ℤ) →
    AreRests walk k v both rests factor shift → ((rests.0.node ≡ 0) × (rests.1.node ≡ 0) → ⊥) → Splits k v rests.0 rests.1 (Ok split) →
    IsKeyOf Sum k rests.0 rests.1 key →
    Waits walk k (record { view = v; operands = both })
    (record { key = key; level = split.level; factor = factor; shift = shift; has_low = false; first = split.parts.high.0; second = split.parts.high.1 })
    (record { view = v; operands = split.parts.low })
waits_for_low walk k v both rests split key factor shift are some splits is_key =
    let have : HaveNode k v rests.0 rests.1 = record { first = are.first_good; second = are.second_good; some = some } in
    record {
      rests = rests;
      parts = split.parts;
      below = split_lies_below k v v rests.0 rests.1 split have refl splits;
      are_rests = are;
      of_parts = λ w r keeps part.
          both_of_parts k plus (sum_work walk) v v w rests.0 rests.1 split r refl are.first_good are.second_good keeps (sum_by_halves walk k v are.first_good.1.allowed)
          splits part;
      is_key = is_key;
      keeps = keeps_itself v;
      at = (refl, (refl, refl), refl, refl);
    }

-- a sum waits at the level of the upper node of its operands
pub rests_level : (walk : Walk) (k : KindName) (v : View) (both rests : PlainEdge × PlainEdge) (split : PlainSplit) (factor shift : ℤ) →
    AreRests walk k v both rests factor shift → Splits k v rests.0 rests.1 (Ok split) → split.level ≡ upper v both.0 both.1
rests_level walk k v both rests split factor shift are splits =
    splits.0 ∙ ap (λ (n : ℕ). min (top_of v n) (top_of v rests.1.node)) are.first_node ∙ ap (λ (n : ℕ). min (top_of v both.0.node) (top_of v n)) are.second_node

-- so there is room for it
pub rests_place : (walk : Walk) (k : KindName) (v : View) (both rests : PlainEdge × PlainEdge) (factor shift : ℤ) (waiting : ℕ) → AreRests walk k v both rests factor shift →
    waiting ≤ upper v both.0 both.1 → waiting ≤ upper v rests.0 rests.1
rests_place walk k v both rests factor shift waiting are place =
    let first : top_of v rests.0.node ≡ top_of v both.0.node = ap (top_of v) are.first_node in
    let second : top_of v rests.1.node ≡ top_of v both.1.node = ap (top_of v) are.second_node in
    omega arith

pub split_has_room : (k : KindName) (v : View) (a b : PlainEdge) (split : PlainSplit) (waiting : ℕ) → IsEdge k v a → IsEdge k v b → ((a.node ≡ 0) × (b.node ≡ 0) → ⊥) →
    Splits k v a b (Ok split) → waiting ≤ upper v a b → waiting < length v.letters
split_has_room k v a b split waiting good_a good_b some splits place =
    let have : HaveNode k v a b = record { first = good_a; second = good_b; some = some } in
    let below = split_lies_below k v v a b split have refl splits in
    omega (arith, splits.0, below.within)

-- the parts of what is left do not fit
pub rests_unfit : (walk : Walk) (k : KindName) (v : View) (both rests : PlainEdge × PlainEdge) (o : Overflow) (factor shift : ℤ) → AreRests walk k v both rests factor shift →
    Splits k v rests.0 rests.1 (Err o) → IsSum walk k v v both (Err limit.Overflow)
rests_unfit walk k v both rests o factor shift are splits =
    are.refuses v limit.Overflow (keeps_itself v)
    (both_unfit k plus (sum_work walk) v v rests.0 rests.1 o refl are.first_good are.second_good (sum_by_halves walk k v are.first_good.1.allowed)
    (λ l x y. sum_covers_operands walk k v.letters l x y) splits)

-- ---- both sums are known
record BothKnown (walk : Walk) (k : KindName) (f : PlainSum) (x : View) (known : PlainEdge) : Type 0 where
  outer : SumCall
  inner : SumCall
  waits : Waits walk k outer f inner
  keeps : Keeps inner.view x
  first : IsSum walk k outer.view inner.view waits.parts.low (Ok f.first)
  second : IsSum walk k inner.view x waits.parts.high (Ok known)

abbrev both_known : (walk : Walk) (k : KindName) (f : PlainSum) (x : View) (known : PlainEdge) → f.has_low ≡ true → IsWaiting walk k x f known → BothKnown walk k f x known
both_known walk k f x known is at =
    let high = at_high walk k at.outer at.inner f at.waits is in
    record {
      outer = at.outer;
      inner = at.inner;
      waits = at.waits;
      keeps = at.keeps;
      first = high.1;
      second = of_both walk k at.inner.view x at.inner.operands at.waits.parts.high (Ok known) high.0 at.is_known;
    }

pub waiting_can_join : (walk : Walk) (k : KindName) (f : PlainSum) (x : View) (known : PlainEdge) → f.has_low ≡ true → IsWaiting walk k x f known →
    CanJoin k x f.level f.first known
waiting_can_join walk k f x known is at =
    let b = both_known walk k f x known is at in
    sums_can_join walk k b.outer.view b.inner.view x f.level b.waits.parts f.first known b.waits.below b.waits.keeps b.first b.keeps b.second

pub waiting_may_scale : (walk : Walk) (k : KindName) (f : PlainSum) (x : View) (known : PlainEdge) → IsWaiting walk k x f known → MayScale k f.factor
waiting_may_scale walk k f x known at = at.waits.are_rests.may_scale

pub waiting_may_shift : (walk : Walk) (k : KindName) (f : PlainSum) (x : View) (known : PlainEdge) → IsWaiting walk k x f known → MayShift k f.shift
waiting_may_shift walk k f x known at = at.waits.are_rests.may_shift

-- from the call on, to the join and after it
waiting_keeps : (walk : Walk) (k : KindName) (f : PlainSum) (x y : View) (known : PlainEdge) (at : IsWaiting walk k x f known) → Keeps x y → Keeps at.outer.view y
waiting_keeps walk k f x y known at keeps = keeps_on at.outer.view at.inner.view y at.waits.keeps (keeps_on at.inner.view x y at.keeps keeps)

-- the join is the sum of what is left
rests_join : (walk : Walk) (k : KindName) (f : PlainSum) (x y : View) (known : PlainEdge) (r : Result PlainEdge Limit) → f.has_low ≡ true → (at : IsWaiting walk k x f known) →
    Keeps x y → IsJoin k x y f.level f.first known r → IsSum walk k at.outer.view y at.waits.rests r
rests_join walk k f x y known r is at keeps join =
    let b = both_known walk k f x known is at in
    b.waits.of_parts y r (waiting_keeps walk k f x y known at keeps) (λ t u s.
    sum_joins walk k b.outer.view b.inner.view x y f.level t u b.waits.parts f.first known r b.waits.below s b.waits.keeps b.first b.keeps b.second keeps join)

pub waiting_join_refused : (walk : Walk) (k : KindName) (f : PlainSum) (x y : View) (known : PlainEdge) (e : Limit) → f.has_low ≡ true → (at : IsWaiting walk k x f known) →
    Keeps x y → IsJoin k x y f.level f.first known (Err e) → IsSum walk k at.outer.view y at.outer.operands (Err e)
waiting_join_refused walk k f x y known e is at keeps join =
    at.waits.are_rests.refuses y e (waiting_keeps walk k f x y known at keeps) (rests_join walk k f x y known (Err e) is at keeps join)

pub waiting_overflows : (walk : Walk) (k : KindName) (f : PlainSum) (x y : View) (known rest : PlainEdge) → f.has_low ≡ true → (at : IsWaiting walk k x f known) →
    Keeps x y → IsJoin k x y f.level f.first known (Ok rest) → walk ≡ Stripping → IsSum walk k at.outer.view y at.outer.operands (Err limit.Overflow)
waiting_overflows walk k f x y known rest is at keeps join strips =
    at.waits.are_rests.overflows y rest (waiting_keeps walk k f x y known at keeps) (rests_join walk k f x y known (Ok rest) is at keeps join) strips

pub waiting_answers : (walk : Walk) (k : KindName) (f : PlainSum) (x y : View) (known rest total : PlainEdge) → f.has_low ≡ true → (at : IsWaiting walk k x f known) →
    Keeps x y → IsJoin k x y f.level f.first known (Ok rest) → IsPutBack walk k f.factor f.shift rest total → IsSum walk k at.outer.view y at.outer.operands (Ok total)
waiting_answers walk k f x y known rest total is at keeps join back =
    at.waits.are_rests.back y rest total (waiting_keeps walk k f x y known at keeps) (rests_join walk k f x y known (Ok rest) is at keeps join) back

-- what was joined is the result of the key's operation
pub waiting_kept : (walk : Walk) (k : KindName) (f : PlainSum) (x y : View) (known rest : PlainEdge) → f.has_low ≡ true → IsWaiting walk k x f known → Keeps x y →
    IsJoin k x y f.level f.first known (Ok rest) → IsKept k y f.key rest
waiting_kept walk k f x y known rest is at keeps join =
    let v = at.outer.view in
    let a = at.waits.rests.0 in
    let b = at.waits.rests.1 in
    let whole = waiting_keeps walk k f x y known at keeps in
    let good_a = at.waits.are_rests.first_good in
    let good_b = at.waits.are_rests.second_good in
    record {
      operation = Sum;
      first = a;
      second = b;
      is_key = at.waits.is_key;
      first_good = still_edge k v y a whole good_a;
      second_good = still_edge k v y b whole good_b;
      is_result = both_result Sum k (sum_work walk) v y a b rest whole good_a good_b (rests_join walk k f x y known (Ok rest) is at keeps join);
    }

-- ---- refusals
pub goes_on_refused : {K X E : Type 0} (walk : Walk) (k : KindName) (of : X → ℤ) (outer : SumCall) (w : View) (f g : PlainSum) (result : Result (Place K X E) Limit) (e : Limit) →
    IsErrAnd result (λ y. y ≡ e) → IsSum walk k outer.view w outer.operands (Err e) → GoesOn walk k of outer w f g result
goes_on_refused walk k of outer w f g (Ok x) e is refused = absurd is
goes_on_refused walk k of outer w f g (Err h) e is refused = subst (λ (y : Limit). IsSum walk k outer.view w outer.operands (Err y)) (sym is) refused
