-- Multiples that wait in frames: what the answers for which they wait make of them.
use Rattle.std.proofs.Common.{◌≡◌, refl, sym, subst, ℕ, ◌<◌, ◌≤◌, ℤ, Bool, true, false, length, arith}
use Rattle.std.specs.Prelude.{◌≢◌, Result, Ok, Err}
use Rattle.std.specs.Result.{IsErrAnd}
use Rattle.word_base.specs.declared.kind_name.KindName.{KindName}
use Rattle.tables.specs.Pieces.{scale_work}
use Rattle.tables.specs.Table.{constant_table, multiple}
use Rattle.kind_laws.specs.Plain.{PlainEdge, constant_edge}
use Rattle.result_cache.specs.declared.key.CacheKey.{CacheKey}
use Rattle.diagram.specs.Calls.{CanJoin, IsJoin, ArePartsOf, SplitsOne}
use Rattle.diagram.specs.Multiples.{IsMultiple, MultipleCall, PlainMultiple, IsAt, Waits, IsWaiting, Place, GoesOn}
use Rattle.diagram.specs.Remembered.{IsKept, IsKeyOf}
use Rattle.diagram.specs.View.{View, IsEdge, Keeps, top_of}
use Rattle.diagram.specs.declared.limit.Limit.{Limit}
use Rattle.diagram.specs.declared.operation.Operation.TheVariants.{Product}
use Rattle.diagram.proofs.EachLaws.{can_part_at, part_lies_below, each_of_parts}
use Rattle.diagram.proofs.LevelLaws.{still_edge}
use Rattle.diagram.proofs.MultipleCalls.{low_multiple_refuses, high_multiple_refuses, multiple_joins, multiples_can_join}
use Rattle.diagram.proofs.MultipleLaws.{scale_by_halves}
use Rattle.diagram.proofs.PartLaws.{constant_stands}
use Rattle.diagram.proofs.RememberedLaws.{each_result}
use Rattle.diagram.proofs.StoreLaws.{keeps_on, keeps_itself}

-- ---- where a frame is
at_low : (c : ℤ) (k : KindName) (outer inner : MultipleCall) (f : PlainMultiple) (w : Waits c k outer f inner) → f.has_low ≡ false → IsAt c k outer f inner w.low w.high false
at_low c k outer inner f w is = subst (IsAt c k outer f inner w.low w.high) is w.at

at_high : (c : ℤ) (k : KindName) (outer inner : MultipleCall) (f : PlainMultiple) (w : Waits c k outer f inner) → f.has_low ≡ true → IsAt c k outer f inner w.low w.high true
at_high c k outer inner f w is = subst (IsAt c k outer f inner w.low w.high) is w.at

-- the multiple for which it waits, as that of its part
of_low : (c : ℤ) (k : KindName) (outer inner : MultipleCall) (x : View) (low : PlainEdge) (r : Result PlainEdge Limit) → inner.view ≡ outer.view → inner.operands ≡ low →
    IsMultiple c k inner.view x inner.operands r → IsMultiple c k outer.view x low r
of_low c k outer inner x low r view edge is =
    subst (λ (v : View). IsMultiple c k v x low r) view (subst (λ (e : PlainEdge). IsMultiple c k inner.view x e r) edge is)

of_high : (c : ℤ) (k : KindName) (inner : MultipleCall) (x : View) (high : PlainEdge) (r : Result PlainEdge Limit) → inner.operands ≡ high →
    IsMultiple c k inner.view x inner.operands r → IsMultiple c k inner.view x high r
of_high c k inner x high r edge is = subst (λ (e : PlainEdge). IsMultiple c k inner.view x e r) edge is

-- ---- a refusal is handed on
refuses_at : (c : ℤ) (k : KindName) (outer inner : MultipleCall) (f : PlainMultiple) (x : View) (e : Limit) (b : Bool) → f.has_low ≡ b → Waits c k outer f inner → Keeps inner.view x →
    IsMultiple c k inner.view x inner.operands (Err e) → IsMultiple c k outer.view x outer.operands (Err e)
refuses_at c k outer inner f x e false is w keeps refused =
    let at = at_low c k outer inner f w is in
    let first = of_low c k outer inner x w.low (Err e) at.0 at.1 refused in
    w.of_part x (Err e) (keeps_on outer.view inner.view x w.keeps keeps) (λ t s.
    low_multiple_refuses k outer.view x f.level c t w.low w.high (λ (y : PlainEdge). y) (Err e) e w.below s refl (keeps_on outer.view inner.view x w.keeps keeps) first)
refuses_at c k outer inner f x e true is w keeps refused =
    let at = at_high c k outer inner f w is in
    let second = of_high c k inner x w.high (Err e) at.0 refused in
    w.of_part x (Err e) (keeps_on outer.view inner.view x w.keeps keeps) (λ t s.
    high_multiple_refuses k outer.view inner.view x f.level c t w.low w.high f.part (λ (y : PlainEdge). y) (Err e) e w.below s refl w.keeps at.1 keeps second)

pub waiting_refuses : (c : ℤ) (k : KindName) (outer inner : MultipleCall) (f : PlainMultiple) (x : View) (e : Limit) → Waits c k outer f inner → Keeps inner.view x →
    IsMultiple c k inner.view x inner.operands (Err e) → IsMultiple c k outer.view x outer.operands (Err e)
waiting_refuses c k outer inner f x e w keeps refused = refuses_at c k outer inner f x e f.has_low refl w keeps refused

-- ---- the low multiple is known
pub waits_for_high : (c : ℤ) (k : KindName) (outer inner : MultipleCall) (f : PlainMultiple) (x : View) (known : PlainEdge) → Waits c k outer f inner → f.has_low ≡ false →
    Keeps inner.view x → IsMultiple c k inner.view x inner.operands (Ok known) →
    Waits c k outer (record { key = f.key; level = f.level; has_low = true; part = known }) (record { view = x; operands = f.part })
waits_for_high c k outer inner f x known w is keeps low =
    let at = at_low c k outer inner f w is in
    record {
      low = w.low;
      high = w.high;
      below = w.below;
      of_part = w.of_part;
      good = w.good;
      is_key = w.is_key;
      keeps = keeps_on outer.view inner.view x w.keeps keeps;
      at = (at.2, of_low c k outer inner x w.low (Ok known) at.0 at.1 low);
    }

-- ---- a multiple that begins
pub waits_for_low : (c : ℤ) (k : KindName) (v : View) (a low high : PlainEdge) (level : ℕ) (key : CacheKey) → IsEdge k v a → a.node ≢ 0 →
    SplitsOne k v a (Ok (level, low, high)) → IsKeyOf Product k (constant_edge k c) a key →
    Waits c k (record { view = v; operands = a }) (record { key = key; level = level; has_low = false; part = high }) (record { view = v; operands = low })
waits_for_low c k v a low high level key good some splits is_key =
    let parts = subst (λ (l : ℕ). ArePartsOf k v l a (Ok (low, high))) (sym splits.0) splits.1 in
    record {
      low = low;
      high = high;
      below = part_lies_below k v level a low high (can_part_at k v a level good some splits.0) parts;
      of_part = λ w r keeps part.
          each_of_parts k (multiple c) (scale_work c) v v w a level low high r refl good keeps (scale_by_halves k v c good.1.allowed) splits part;
      good = good;
      is_key = is_key;
      keeps = keeps_itself v;
      at = (refl, refl, refl);
    }

-- there is room for a multiple that waits at the level of its operand's node
pub split_has_room : (k : KindName) (v : View) (a low high : PlainEdge) (level waiting : ℕ) → IsEdge k v a → a.node ≢ 0 → SplitsOne k v a (Ok (level, low, high)) →
    waiting ≤ top_of v a.node → waiting < length v.letters
split_has_room k v a low high level waiting good some splits place = let can = can_part_at k v a level good some splits.0 in omega (arith, splits.0, can.below)

-- ---- both multiples are known
-- from the low multiple on
record Both (c : ℤ) (k : KindName) (f : PlainMultiple) (x : View) (known : PlainEdge) : Type 0 where
  outer : MultipleCall
  inner : MultipleCall
  waits : Waits c k outer f inner
  keeps : Keeps inner.view x
  first : IsMultiple c k outer.view inner.view waits.low (Ok f.part)
  second : IsMultiple c k inner.view x waits.high (Ok known)

abbrev both : (c : ℤ) (k : KindName) (f : PlainMultiple) (x : View) (known : PlainEdge) → f.has_low ≡ true → IsWaiting c k x f known → Both c k f x known
both c k f x known is at =
    let high = at_high c k at.outer at.inner f at.waits is in
    record {
      outer = at.outer;
      inner = at.inner;
      waits = at.waits;
      keeps = at.keeps;
      first = high.1;
      second = of_high c k at.inner x at.waits.high (Ok known) high.0 at.is_known;
    }

pub waiting_can_join : (c : ℤ) (k : KindName) (f : PlainMultiple) (x : View) (known : PlainEdge) → f.has_low ≡ true → IsWaiting c k x f known →
    CanJoin k x f.level f.part known
waiting_can_join c k f x known is at =
    let b = both c k f x known is at in
    multiples_can_join k b.outer.view b.inner.view x f.level c b.waits.low b.waits.high f.part known b.waits.below b.waits.keeps b.first b.keeps b.second

pub waiting_joins : (c : ℤ) (k : KindName) (f : PlainMultiple) (x y : View) (known : PlainEdge) (r : Result PlainEdge Limit) → f.has_low ≡ true → (at : IsWaiting c k x f known) →
    Keeps x y → IsJoin k x y f.level f.part known r → IsMultiple c k at.outer.view y at.outer.operands r
waiting_joins c k f x y known r is at keeps join =
    let b = both c k f x known is at in
    let whole = keeps_on b.outer.view b.inner.view y b.waits.keeps (keeps_on b.inner.view x y b.keeps keeps) in
    b.waits.of_part y r whole (λ t s.
    multiple_joins k b.outer.view b.inner.view x y f.level c t b.waits.low b.waits.high f.part known r b.waits.below s b.waits.keeps b.first b.keeps b.second keeps join)

-- what was joined is the result of the key's operation
pub waiting_kept : (c : ℤ) (k : KindName) (f : PlainMultiple) (x y : View) (known e : PlainEdge) → f.has_low ≡ true → IsWaiting c k x f known → Keeps x y →
    IsJoin k x y f.level f.part known (Ok e) → IsKept k y f.key e
waiting_kept c k f x y known e is at keeps join =
    let v = at.outer.view in
    let a = at.outer.operands in
    let zero : PlainEdge = constant_edge k c in
    let whole = keeps_on v at.inner.view y at.waits.keeps (keeps_on at.inner.view x y at.keeps keeps) in
    let good = at.waits.good in
    let start : 0 ≤ length v.letters = omega arith in
    let constant : IsEdge k v zero = (constant_table (length v.letters) c, constant_stands k v 0 c good.1.allowed good.1.no_zero start) in
    record {
      operation = Product;
      first = zero;
      second = a;
      is_key = at.waits.is_key;
      first_good = still_edge k v y zero whole constant;
      second_good = still_edge k v y a whole good;
      is_result = each_result k c (scale_work c) v y zero a e refl whole good (waiting_joins c k f x y known (Ok e) is at keeps join);
    }

-- ---- refusals
pub goes_on_refused : {K X E : Type 0} (c : ℤ) (k : KindName) (of : X → ℤ) (outer : MultipleCall) (w : View) (f g : PlainMultiple) (result : Result (Place K X E) Limit) (e : Limit) →
    IsErrAnd result (λ y. y ≡ e) → IsMultiple c k outer.view w outer.operands (Err e) → GoesOn c k of outer w f g result
goes_on_refused c k of outer w f g (Ok x) e is refused = absurd is
goes_on_refused c k of outer w f g (Err h) e is refused = subst (λ (y : Limit). IsMultiple c k outer.view w outer.operands (Err y)) (sym is) refused
