-- Products that wait in frames: what the answers for which they wait make of them.
use Rattle.std.proofs.Common.{◌≡◌, refl, sym, ◌∙◌, ap, subst, ℕ, ◌+◌, ◌<◌, ℤ, List, length, inl, inr}
use Rattle.std.specs.Prelude.{◌⊎◌, Result, Ok, Err}
use Rattle.std.specs.Result.{IsErrAnd}
use Rattle.word_base.specs.declared.decomp.Decomp.{Decomp}
use Rattle.word_base.specs.declared.decomp.Decomp.TheVariants.{S, P, N}
use Rattle.word_base.specs.declared.kind_name.KindName.{KindName}
use Rattle.word_base.specs.declared.weight.Overflow.{Overflow}
use Rattle.tables.specs.Pieces.{Piece, add_work}
use Rattle.tables.specs.Table.{Table, plus, times, part0, part1}
use Rattle.tables.proofs.PieceLaws.{Covers}
use Rattle.kind_laws.specs.Plain.{PlainEdge, answered}
use Rattle.kind_laws.specs.Scale.{scale_of, unscaled, scaled}
use Rattle.result_cache.specs.declared.key.CacheKey.{CacheKey}
use Rattle.diagram.specs.Answers.{Answers}
use Rattle.diagram.specs.Calls.{CanJoin, IsJoin, IsOfBoth, LieBelow, PlainParts, PlainSplit, Splits, StandForParts, upper}
use Rattle.diagram.specs.ProductFrames.{IsProduct, ProductCall, PlainProduct, pair_at, HasParts, product_at, HasStage, AreMade, HighStands, IsBegun, SoFar, Waits, IsWaiting, AreRests, GoesOn, Completes, Finishes, HasBoth, IsOut, PutsBack, rest_of}
use Rattle.diagram.specs.Products.{product_work, mixed_products, high_products, AreSome}
use Rattle.diagram.specs.Remembered.{IsKept, IsKeyOf, IsResult}
use Rattle.diagram.specs.SumFrames.{AreBoth, Place}
use Rattle.diagram.specs.View.{View, letter_at, StandsAt, IsEdge, Keeps}
use Rattle.diagram.specs.declared.limit.Limit.{Limit}
use Rattle.diagram.specs.declared.limit.Limit.TheVariants as limit
use Rattle.diagram.specs.declared.operation.Operation.TheVariants.{Product}
use Rattle.diagram.specs.declared.product_walk.Stage.{Stage}
use Rattle.diagram.specs.declared.product_walk.Stage.TheVariants.{Low, LowHigh, HighLow, High}
use Rattle.diagram.proofs.BothLaws.{HaveNode, lies_below}
use Rattle.diagram.proofs.CallLaws.{Ran, both_of_parts, both_unfit}
use Rattle.diagram.proofs.FactoredProducts.{rests_product_refuses, second_scale_overflows, first_scale_overflows, scales_put_back}
use Rattle.diagram.proofs.LevelLaws.{stays, still_edge, good_at}
use Rattle.diagram.proofs.ProductCalls.{some_parts, shannon_at, davio_at}
use Rattle.diagram.proofs.ProductLaws.{high_part, high_part-davio, high_part-shannon, mul_by_halves, product_covers_operands, product_joins}
use Rattle.diagram.proofs.RememberedLaws.{known_both, both_result}
use Rattle.diagram.proofs.SplitLaws.{split_lies_below}
use Rattle.diagram.proofs.SumCalls.{refused_both}
use Rattle.diagram.proofs.StepLaws.{Step, step_ran, step_refuses, step_answers, both_step, sum_step, join_step}
use Rattle.diagram.proofs.StoreLaws.{keeps_on, keeps_itself}

-- ---- letters
shannon_or_davio : (d : Decomp) → (d ≡ S) ⊎ (d ≡ S → ⊥)
shannon_or_davio S = inl refl
shannon_or_davio P = inr (λ e. cc)
shannon_or_davio N = inr (λ e. cc)

-- ---- a product of parts, as a step of the whole
covers_low : (k : KindName) (v : View) (l : ℕ) (t u : Table) (parts : PlainParts) → LieBelow k v l parts → StandForParts k v l t u parts →
    Covers k v.letters (product_work v.letters l t u) (product_work v.letters (l + 1) (part0 (letter_at v.letters l) t) (part0 (letter_at v.letters l) u))
covers_low k v l t u parts below s =
    elim (shannon_or_davio (letter_at v.letters l)) [
      | inl shannon ↦ (shannon_at k v l t u parts shannon below s).low
      | inr davio ↦ (davio_at k v l t u parts davio below s).low
    ]

covers_high : (k : KindName) (v : View) (l : ℕ) (t u : Table) (parts : PlainParts) → LieBelow k v l parts → StandForParts k v l t u parts →
    Covers k v.letters (product_work v.letters l t u) (product_work v.letters (l + 1) (part1 (letter_at v.letters l) t) (part1 (letter_at v.letters l) u))
covers_high k v l t u parts below s =
    elim (shannon_or_davio (letter_at v.letters l)) [
      | inl shannon ↦ (shannon_at k v l t u parts shannon below s).high
      | inr davio ↦ (davio_at k v l t u parts davio below s).high_high
    ]

part_step : (k : KindName) (v w x : View) (qs : List Piece) (l : ℕ) (p q : Table) (a b : PlainEdge) (r : Result PlainEdge Limit) → Keeps v w → Keeps w x →
    IsProduct k w x a b r → StandsAt k v l p a → StandsAt k v l q b → Covers k v.letters qs (product_work v.letters l p q) → Step k v.letters w x qs l (times p q) r
part_step k v w x qs l p q a b r before keeps product h g covers =
    both_step k v.letters times (product_work v.letters) w x qs l p q a b r keeps
    (subst (λ (ds : List Decomp). IsOfBoth times (product_work ds) k w x a b r) before.letters product)
    (stays k v w l p a before h) (stays k v w l q b before g) covers

stage_step : (k : KindName) (v w x : View) (l : ℕ) (t u : Table) (parts : PlainParts) (stage : Stage) (r : Result PlainEdge Limit) → HasStage (letter_at v.letters l) stage →
    LieBelow k v l parts → StandForParts k v l t u parts → Keeps v w → Keeps w x → IsProduct k w x (pair_at parts stage).0 (pair_at parts stage).1 r →
    Step k v.letters w x (product_work v.letters l t u) (l + 1) (product_at (letter_at v.letters l) t u stage) r
stage_step k v w x l t u parts Low r has below s before keeps product =
    part_step k v w x (product_work v.letters l t u) (l + 1) _ _ parts.low.0 parts.low.1 r before keeps product s.first_low s.second_low (covers_low k v l t u parts below s)
stage_step k v w x l t u parts LowHigh r davio below s before keeps product =
    part_step k v w x (product_work v.letters l t u) (l + 1) _ _ parts.low.0 parts.high.1 r before keeps product s.first_low s.second_high
    (davio_at k v l t u parts davio below s).low_high
stage_step k v w x l t u parts HighLow r davio below s before keeps product =
    part_step k v w x (product_work v.letters l t u) (l + 1) _ _ parts.high.0 parts.low.1 r before keeps product s.first_high s.second_low
    (davio_at k v l t u parts davio below s).high_low
stage_step k v w x l t u parts High r has below s before keeps product =
    part_step k v w x (product_work v.letters l t u) (l + 1) _ _ parts.high.0 parts.high.1 r before keeps product s.first_high s.second_high (covers_high k v l t u parts below s)

-- the product for which a frame waits
waited_step : (k : KindName) (outer inner : ProductCall) (f : PlainProduct) (x : View) (r : Result PlainEdge Limit) → (w : Waits k outer f inner) → Keeps inner.view x →
    IsProduct k inner.view x inner.operands.0 inner.operands.1 r → (t u : Table) → StandForParts k outer.view f.level t u w.parts →
    Step k outer.view.letters inner.view x (product_work outer.view.letters f.level t u) (f.level + 1) (product_at (letter_at outer.view.letters f.level) t u f.stage) r
waited_step k outer inner f x r w keeps product t u s =
    let pair = pair_at w.parts f.stage in
    stage_step k outer.view inner.view x f.level t u w.parts f.stage r w.has_stage w.begun.below s w.keeps keeps
    (subst (λ (e : PlainEdge). IsProduct k inner.view x pair.0 e r) w.operands_are.1
    (subst (λ (e : PlainEdge). IsProduct k inner.view x e inner.operands.1 r) w.operands_are.0 product))

waited_ran : (k : KindName) (outer inner : ProductCall) (f : PlainProduct) → (w : Waits k outer f inner) → (t u : Table) → StandForParts k outer.view f.level t u w.parts →
    Ran k outer.view inner.view (product_work outer.view.letters f.level t u)
waited_ran k outer inner f w t u s = record { keeps = w.keeps; made = (w.so_far t u s).made }

-- ---- a refusal is handed on
refuses_whole : (k : KindName) (outer : ProductCall) (f : PlainProduct) (parts : PlainParts) (x : View) (e : Limit) → IsBegun k outer f parts → Keeps outer.view x →
    ((t u : Table) → StandForParts k outer.view f.level t u parts → Answers k outer.view x (product_work outer.view.letters f.level t u) f.level (times t u) (Err e)) →
    IsProduct k outer.view x outer.operands.0 outer.operands.1 (Err e)
refuses_whole k outer f parts x e begun keeps refused =
    rests_product_refuses k outer.view x outer.operands.0 outer.operands.1 e begun.some keeps (begun.of_parts x (Err e) keeps refused)

refused_step : (k : KindName) (v w x : View) (qs : List Piece) (l m : ℕ) (t u : Table) (e : Limit) → Ran k v w qs → Step k v.letters w x qs m u (Err e) →
    Answers k v x qs l t (Err e)
refused_step k v w x qs l m t u e ran s = step_refuses k v w x qs l m t u (λ (y : PlainEdge). y) (Err e) e refl ran s

pub waiting_refuses : (k : KindName) (outer inner : ProductCall) (f : PlainProduct) (x : View) (e : Limit) → Waits k outer f inner → Keeps inner.view x →
    IsProduct k inner.view x inner.operands.0 inner.operands.1 (Err e) → IsProduct k outer.view x outer.operands.0 outer.operands.1 (Err e)
waiting_refuses k outer inner f x e w keeps refused =
    refuses_whole k outer f w.parts x e w.begun (keeps_on outer.view inner.view x w.keeps keeps) (λ t u s.
    refused_step k outer.view inner.view x (product_work outer.view.letters f.level t u) f.level (f.level + 1) (times t u) _ e (waited_ran k outer inner f w t u s)
    (waited_step k outer inner f x (Err e) w keeps refused t u s))

-- ---- what all edges stand for, where the product for which a frame waits is known
still_made : (k : KindName) (w x : View) (l : ℕ) (d : Decomp) (t u : Table) (low mixed : PlainEdge) (stage : Stage) → Keeps w x → AreMade k w l d t u low mixed stage →
    AreMade k x l d t u low mixed stage
still_made k w x l d t u low mixed Low keeps made = tt
still_made k w x l d t u low mixed LowHigh keeps made = stays k w x l _ low keeps made
still_made k w x l d t u low mixed HighLow keeps made = (stays k w x l _ low keeps made.0, stays k w x l _ mixed keeps made.1)
still_made k w x l d t u low mixed High keeps made = (stays k w x l _ low keeps made.0, (λ davio. stays k w x l _ mixed keeps (made.1 davio)))

record AllStand (k : KindName) (v x : View) (f : PlainProduct) (known : PlainEdge) (t u : Table) (stage : Stage) : Type 0 where
  ran : Ran k v x (product_work v.letters f.level t u)
  made : AreMade k x (f.level + 1) (letter_at v.letters f.level) t u f.low f.mixed stage
  stands : StandsAt k x (f.level + 1) (product_at (letter_at v.letters f.level) t u stage) known

all_stand : (k : KindName) (f : PlainProduct) (x : View) (known : PlainEdge) (stage : Stage) → (at : IsWaiting k x f known) → f.stage ≡ stage → (t u : Table) →
    StandForParts k at.outer.view f.level t u at.waits.parts → AllStand k at.outer.view x f known t u stage
all_stand k f x known stage at is t u s =
    let v = at.outer.view in
    let w = at.inner.view in
    let step = waited_step k at.outer at.inner f x (Ok known) at.waits at.keeps at.is_known t u s in
    subst (AllStand k v x f known t u) is
    (record {
      ran = step_ran k v w x (product_work v.letters f.level t u) (f.level + 1) _ (Ok known) (waited_ran k at.outer at.inner f at.waits t u s) step;
      made = still_made k w x (f.level + 1) (letter_at v.letters f.level) t u f.low f.mixed f.stage at.keeps (at.waits.so_far t u s).stand;
      stands = step.answers.stands;
    })

whole_keeps : (k : KindName) (f : PlainProduct) (x : View) (known : PlainEdge) → (at : IsWaiting k x f known) → Keeps at.outer.view x
whole_keeps k f x known at = keeps_on at.outer.view at.inner.view x at.waits.keeps at.keeps

pub waiting_within : (k : KindName) (f : PlainProduct) (x : View) (known : PlainEdge) → IsWaiting k x f known → f.level < length x.letters
waiting_within k f x known at =
    subst (λ (ds : List Decomp). f.level < length ds) (sym (whole_keeps k f x known at).letters) at.waits.begun.below.within

-- two tables for whose parts the parts stand
some_stand : (k : KindName) (f : PlainProduct) (x : View) (known : PlainEdge) (stage : Stage) → (at : IsWaiting k x f known) → f.stage ≡ stage →
    (t : Table) × (u : Table) × AllStand k at.outer.view x f known t u stage
some_stand k f x known stage at is =
    let some = some_parts k at.outer.view f.level at.waits.parts at.waits.begun.below in
    (some.first, some.second, all_stand k f x known stage at is some.first some.second some.stand)

-- ---- a product goes on
-- a later stage has fewer products to come
pub fewer_left : (n : ℕ) (s stage : Stage) → s ≡ stage → n < rest_of stage → n < rest_of s
fewer_left n s stage is less = subst (λ (x : Stage). n < rest_of x) (sym is) less

-- the frame at a stage
abbrev pub moved : PlainProduct → Stage → PlainEdge → PlainEdge → PlainProduct
moved f stage low mixed = record {
  key = f.key;
  level = f.level;
  stage = stage;
  first_scale = f.first_scale;
  second_scale = f.second_scale;
  low = low;
  mixed = mixed;
  high = f.high;
}

-- the parts that a frame at a stage still has
parts_at : (k : KindName) (f : PlainProduct) (outer inner : ProductCall) (stage : Stage) → f.stage ≡ stage → (w : Waits k outer f inner) → HasParts w.parts f.low f.mixed f.high stage
parts_at k f outer inner stage is w = subst (HasParts w.parts f.low f.mixed f.high) is w.has_parts

waits_on : (k : KindName) (f : PlainProduct) (parts : PlainParts) (outer : ProductCall) (y : View) (stage : Stage) (low mixed a b : PlainEdge) → IsBegun k outer f parts →
    Keeps outer.view y → HasStage (letter_at outer.view.letters f.level) stage → AreBoth (a, b) (pair_at parts stage) → HasParts parts low mixed f.high stage →
    ((t u : Table) → StandForParts k outer.view f.level t u parts → SoFar k outer.view y (moved f stage low mixed) t u) →
    Waits k outer (moved f stage low mixed) (record { view = y; operands = (a, b) })
waits_on k f parts outer y stage low mixed a b begun keeps has pair has_parts so_far = record {
  parts = parts;
  begun = record {
    some = begun.some;
    first_scale = begun.first_scale;
    second_scale = begun.second_scale;
    first_good = begun.first_good;
    second_good = begun.second_good;
    is_key = begun.is_key;
    below = begun.below;
    of_parts = begun.of_parts;
  };
  keeps = keeps;
  operands_are = pair;
  has_stage = has;
  has_parts = has_parts;
  so_far = so_far;
}

-- the letter of a frame's level stays
still_davio : (k : KindName) (f : PlainProduct) (x : View) (known : PlainEdge) → (at : IsWaiting k x f known) → (letter_at x.letters f.level ≡ S → ⊥) →
    letter_at at.outer.view.letters f.level ≡ S → ⊥
still_davio k f x known at davio shannon =
    davio (ap (λ (ds : List Decomp). letter_at ds f.level) (whole_keeps k f x known at).letters ∙ shannon)

still_shannon : (k : KindName) (f : PlainProduct) (x : View) (known : PlainEdge) → (at : IsWaiting k x f known) → letter_at x.letters f.level ≡ S →
    letter_at at.outer.view.letters f.level ≡ S
still_shannon k f x known at shannon =
    sym (ap (λ (ds : List Decomp). letter_at ds f.level) (whole_keeps k f x known at).letters) ∙ shannon

pub waits_for_low_high : (k : KindName) (f : PlainProduct) (x : View) (known : PlainEdge) → (at : IsWaiting k x f known) → f.stage ≡ Low →
    (letter_at x.letters f.level ≡ S → ⊥) → Waits k at.outer (moved f LowHigh known f.mixed) (record { view = x; operands = (f.low, f.high.1) })
waits_for_low_high k f x known at is davio =
    let has = parts_at k f at.outer at.inner Low is at.waits in
    let pair : AreBoth (f.low, f.high.1) (pair_at at.waits.parts LowHigh) = (has.0, ap (λ (p : PlainEdge × PlainEdge). p.1) has.2) in
    waits_on k f at.waits.parts at.outer x LowHigh known f.mixed f.low f.high.1 at.waits.begun (whole_keeps k f x known at) (still_davio k f x known at davio) pair
    (has.1, has.2) (λ t u s.
    let all = all_stand k f x known Low at is t u s in
    record { made = all.ran.made; stand = all.stands })

pub waits_for_high_low : (k : KindName) (f : PlainProduct) (x : View) (known : PlainEdge) → (at : IsWaiting k x f known) → f.stage ≡ LowHigh →
    Waits k at.outer (moved f HighLow f.low known) (record { view = x; operands = (f.high.0, f.mixed) })
waits_for_high_low k f x known at is =
    let has = parts_at k f at.outer at.inner LowHigh is at.waits in
    let pair : AreBoth (f.high.0, f.mixed) (pair_at at.waits.parts HighLow) = (ap (λ (p : PlainEdge × PlainEdge). p.0) has.1, has.0) in
    waits_on k f at.waits.parts at.outer x HighLow f.low known f.high.0 f.mixed at.waits.begun (whole_keeps k f x known at)
    (subst (HasStage (letter_at at.outer.view.letters f.level)) is at.waits.has_stage) pair has.1 (λ t u s.
    let all = all_stand k f x known LowHigh at is t u s in
    record { made = all.ran.made; stand = (all.made, all.stands) })

high_pair : (parts : PlainParts) (high : PlainEdge × PlainEdge) → high ≡ parts.high → AreBoth high (pair_at parts High)
high_pair parts high is = (ap (λ (p : PlainEdge × PlainEdge). p.0) is, ap (λ (p : PlainEdge × PlainEdge). p.1) is)

pub waits_for_high_shannon : (k : KindName) (f : PlainProduct) (x : View) (known : PlainEdge) → (at : IsWaiting k x f known) → f.stage ≡ Low →
    letter_at x.letters f.level ≡ S → Waits k at.outer (moved f High known f.mixed) (record { view = x; operands = (f.high.0, f.high.1) })
waits_for_high_shannon k f x known at is shannon =
    let has = parts_at k f at.outer at.inner Low is at.waits in
    waits_on k f at.waits.parts at.outer x High known f.mixed f.high.0 f.high.1 at.waits.begun (whole_keeps k f x known at) tt
    (high_pair at.waits.parts f.high has.2) tt (λ t u s.
    let all = all_stand k f x known Low at is t u s in
    record { made = all.ran.made; stand = (all.stands, (λ davio. absurd (davio (still_shannon k f x known at shannon)))) })

-- ---- the sum of the mixed products
pub mixed_good : (k : KindName) (f : PlainProduct) (x : View) (known : PlainEdge) → f.stage ≡ HighLow → IsWaiting k x f known → IsEdge k x f.mixed
mixed_good k f x known is at =
    let some = some_stand k f x known HighLow at is in
    good_at k x f.mixed (f.level + 1) _ some.2.made.1

pub known_good : (k : KindName) (f : PlainProduct) (x : View) (known : PlainEdge) → IsWaiting k x f known → IsEdge k x known
known_good k f x known at =
    let some = some_stand k f x known f.stage at refl in
    good_at k x known (f.level + 1) _ some.2.stands

is_davio : (k : KindName) (f : PlainProduct) (x : View) (known : PlainEdge) → f.stage ≡ HighLow → (at : IsWaiting k x f known) → (letter_at at.outer.view.letters f.level ≡ S → ⊥)
is_davio k f x known is at = subst (HasStage (letter_at at.outer.view.letters f.level)) is at.waits.has_stage

mixed_step : (k : KindName) (f : PlainProduct) (x y : View) (known : PlainEdge) (r : Result PlainEdge Limit) → f.stage ≡ HighLow → (at : IsWaiting k x f known) →
    Keeps x y → IsOfBoth plus add_work k x y f.mixed known r → (t u : Table) → StandForParts k at.outer.view f.level t u at.waits.parts →
    Step k at.outer.view.letters x y (product_work at.outer.view.letters f.level t u) (f.level + 1) (mixed_products (letter_at at.outer.view.letters f.level) t u) r
mixed_step k f x y known r is at keeps sum t u s =
    let v = at.outer.view in
    let all = all_stand k f x known HighLow at is t u s in
    sum_step k v.letters x y (product_work v.letters f.level t u) (f.level + 1) _ _ f.mixed known r keeps sum all.made.1 all.stands
    (davio_at k v f.level t u at.waits.parts (is_davio k f x known is at) at.waits.begun.below s).cross

pub mixed_refuses : (k : KindName) (f : PlainProduct) (x y : View) (known : PlainEdge) (e : Limit) → f.stage ≡ HighLow → (at : IsWaiting k x f known) →
    Keeps x y → IsOfBoth plus add_work k x y f.mixed known (Err e) → IsProduct k at.outer.view y at.outer.operands.0 at.outer.operands.1 (Err e)
mixed_refuses k f x y known e is at keeps sum =
    let v = at.outer.view in
    refuses_whole k at.outer f at.waits.parts y e at.waits.begun (keeps_on v x y (whole_keeps k f x known at) keeps) (λ t u s.
    refused_step k v x y (product_work v.letters f.level t u) f.level (f.level + 1) (times t u) _ e (all_stand k f x known HighLow at is t u s).ran
    (mixed_step k f x y known (Err e) is at keeps sum t u s))

pub waits_for_high_davio : (k : KindName) (f : PlainProduct) (x y : View) (known mixed : PlainEdge) → f.stage ≡ HighLow → (at : IsWaiting k x f known) →
    Keeps x y → IsOfBoth plus add_work k x y f.mixed known (Ok mixed) → Waits k at.outer (moved f High f.low mixed) (record { view = y; operands = (f.high.0, f.high.1) })
waits_for_high_davio k f x y known mixed is at keeps sum =
    let v = at.outer.view in
    let has = parts_at k f at.outer at.inner HighLow is at.waits in
    waits_on k f at.waits.parts at.outer y High f.low mixed f.high.0 f.high.1 at.waits.begun (keeps_on v x y (whole_keeps k f x known at) keeps) tt
    (high_pair at.waits.parts f.high has) tt (λ t u s.
    let all = all_stand k f x known HighLow at is t u s in
    let step = mixed_step k f x y known (Ok mixed) is at keeps sum t u s in
    let ran = step_ran k v x y (product_work v.letters f.level t u) (f.level + 1) _ (Ok mixed) all.ran step in
    record { made = ran.made; stand = (stays k x y (f.level + 1) _ f.low keeps all.made.0, (λ davio. step.answers.stands)) })

-- ---- the high part
abbrev both_at_shannon : (k : KindName) (f : PlainProduct) (x : View) (known : PlainEdge) → f.stage ≡ High → letter_at x.letters f.level ≡ S → (at : IsWaiting k x f known) →
    HasBoth k x f known
both_at_shannon k f x known is shannon at = record {
  outer = at.outer;
  parts = at.waits.parts;
  begun = at.waits.begun;
  keeps = whole_keeps k f x known at;
  stand = λ t u s.
      let all = all_stand k f x known High at is t u s in
      record {
        made = all.ran.made;
        low_stands = all.made.0;
        high_stands = ((λ same. all.stands), (λ davio. absurd (davio (still_shannon k f x known at shannon))));
      };
}

pub shannon_has_both : (k : KindName) (f : PlainProduct) (x : View) (known : PlainEdge) → f.stage ≡ High → letter_at x.letters f.level ≡ S → IsWaiting k x f known →
    HasBoth k x f known
shannon_has_both k f x known is shannon at = both_at_shannon k f x known is shannon at

pub shannon_completes : (k : KindName) (f : PlainProduct) (x y : View) (known : PlainEdge) (r : Result PlainEdge Limit) → f.stage ≡ High → letter_at x.letters f.level ≡ S →
    Completes k x y f known r → Finishes k x y f known r
shannon_completes k f x y known r is shannon completes at = completes (both_at_shannon k f x known is shannon at)

pub last_mixed_good : (k : KindName) (f : PlainProduct) (x : View) (known : PlainEdge) → f.stage ≡ High → (letter_at x.letters f.level ≡ S → ⊥) → IsWaiting k x f known →
    IsEdge k x f.mixed
last_mixed_good k f x known is davio at =
    let some = some_stand k f x known High at is in
    good_at k x f.mixed (f.level + 1) _ (some.2.made.1 (still_davio k f x known at davio))

high_step : (k : KindName) (f : PlainProduct) (x y : View) (known : PlainEdge) (r : Result PlainEdge Limit) → f.stage ≡ High → (letter_at x.letters f.level ≡ S → ⊥) →
    (at : IsWaiting k x f known) → Keeps x y → IsOfBoth plus add_work k x y f.mixed known r → (t u : Table) → StandForParts k at.outer.view f.level t u at.waits.parts →
    Step k at.outer.view.letters x y (product_work at.outer.view.letters f.level t u) (f.level + 1) (high_products (letter_at at.outer.view.letters f.level) t u) r
high_step k f x y known r is davio at keeps sum t u s =
    let v = at.outer.view in
    let other = still_davio k f x known at davio in
    let all = all_stand k f x known High at is t u s in
    sum_step k v.letters x y (product_work v.letters f.level t u) (f.level + 1) _ _ f.mixed known r keeps sum (all.made.1 other) all.stands
    (davio_at k v f.level t u at.waits.parts other at.waits.begun.below s).high

pub high_refuses : (k : KindName) (f : PlainProduct) (x y : View) (known : PlainEdge) (e : Limit) → f.stage ≡ High → (letter_at x.letters f.level ≡ S → ⊥) →
    (at : IsWaiting k x f known) → Keeps x y → IsOfBoth plus add_work k x y f.mixed known (Err e) → IsProduct k at.outer.view y at.outer.operands.0 at.outer.operands.1 (Err e)
high_refuses k f x y known e is davio at keeps sum =
    let v = at.outer.view in
    refuses_whole k at.outer f at.waits.parts y e at.waits.begun (keeps_on v x y (whole_keeps k f x known at) keeps) (λ t u s.
    refused_step k v x y (product_work v.letters f.level t u) f.level (f.level + 1) (times t u) _ e (all_stand k f x known High at is t u s).ran
    (high_step k f x y known (Err e) is davio at keeps sum t u s))

abbrev both_at_davio : (k : KindName) (f : PlainProduct) (x y : View) (known high : PlainEdge) → f.stage ≡ High → (letter_at x.letters f.level ≡ S → ⊥) →
    (at : IsWaiting k x f known) → Keeps x y → IsOfBoth plus add_work k x y f.mixed known (Ok high) → HasBoth k y f high
both_at_davio k f x y known high is davio at keeps sum =
    let v = at.outer.view in
    record {
      outer = at.outer;
      parts = at.waits.parts;
      begun = at.waits.begun;
      keeps = keeps_on v x y (whole_keeps k f x known at) keeps;
      stand = λ t u s.
          let all = all_stand k f x known High at is t u s in
          let step = high_step k f x y known (Ok high) is davio at keeps sum t u s in
          let ran = step_ran k v x y (product_work v.letters f.level t u) (f.level + 1) _ (Ok high) all.ran step in
          record {
            made = ran.made;
            low_stands = stays k x y (f.level + 1) _ f.low keeps all.made.0;
            high_stands = ((λ shannon. absurd (still_davio k f x known at davio shannon)), (λ other. step.answers.stands));
          };
    }

pub davio_has_both : (k : KindName) (f : PlainProduct) (x y : View) (known high : PlainEdge) → f.stage ≡ High → (letter_at x.letters f.level ≡ S → ⊥) →
    IsWaiting k x f known → Keeps x y → IsOfBoth plus add_work k x y f.mixed known (Ok high) → HasBoth k y f high
davio_has_both k f x y known high is davio at keeps sum = both_at_davio k f x y known high is davio at keeps sum

pub davio_completes : (k : KindName) (f : PlainProduct) (x y z : View) (known high : PlainEdge) (r : Result PlainEdge Limit) → f.stage ≡ High →
    (letter_at x.letters f.level ≡ S → ⊥) → Keeps x y → IsOfBoth plus add_work k x y f.mixed known (Ok high) → Completes k y z f high r → Finishes k x z f known r
davio_completes k f x y z known high r is davio keeps sum completes at = completes (both_at_davio k f x y known high is davio at keeps sum)

-- ---- both parts are known
high_part_stands : (k : KindName) (v : View) (l : ℕ) (d : Decomp) (t u : Table) (high : PlainEdge) → HighStands k v l d t u high → StandsAt k v l (high_part d t u) high
high_part_stands k v l d t u high stands =
    elim (shannon_or_davio d) [
      | inl shannon ↦ subst (λ (x : Table). StandsAt k v l x high) (high_part-shannon d t u shannon) (stands.0 shannon)
      | inr davio ↦ subst (λ (x : Table). StandsAt k v l x high) (high_part-davio d t u davio) (stands.1 davio)
    ]

pub both_can_join : (k : KindName) (x : View) (f : PlainProduct) (high : PlainEdge) → HasBoth k x f high → CanJoin k x f.level f.low high
both_can_join k x f high both =
    let v = both.outer.view in
    let some = some_parts k v f.level both.parts both.begun.below in
    let stand = both.stand some.first some.second some.stand in
    let d = letter_at v.letters f.level in
    let one = lies_below k x f.level _ f.low stand.low_stands in
    let two = lies_below k x f.level _ high (high_part_stands k x (f.level + 1) d some.first some.second high stand.high_stands) in
    record {
      below = subst (λ (ds : List Decomp). f.level < length ds) (sym both.keeps.letters) both.begun.below.within;
      low_good = one.good;
      high_good = two.good;
      low_below = one.below;
      high_below = two.below;
    }

-- the product of the operands without their scales
both_join : (k : KindName) (x y : View) (f : PlainProduct) (high : PlainEdge) (r : Result PlainEdge Limit) → (both : HasBoth k x f high) → Keeps x y →
    IsJoin k x y f.level f.low high r → IsProduct k both.outer.view y (unscaled k both.outer.operands.0) (unscaled k both.outer.operands.1) r
both_join k x y f high r both keeps join =
    let v = both.outer.view in
    let below = both.begun.below in
    both.begun.of_parts y r (keeps_on v x y both.keeps keeps) (λ t u s.
    let stand = both.stand t u s in
    let qs = product_work v.letters f.level t u in
    let joins = product_joins k v f.level t u s.first_low.allowed below.within s.first_over s.second_over in
    let ran : Ran k v x qs = record { keeps = both.keeps; made = stand.made } in
    step_answers k v x y qs f.level (times t u) r ran
    (join_step k v.letters x y qs f.level _ _ (times t u) f.low high r both.keeps.letters keeps join stand.low_stands
    (high_part_stands k x (f.level + 1) (letter_at v.letters f.level) t u high stand.high_stands) joins.join joins.merges))

pub both_refuse : (k : KindName) (x y : View) (f : PlainProduct) (high : PlainEdge) (e : Limit) → (both : HasBoth k x f high) → Keeps x y →
    IsJoin k x y f.level f.low high (Err e) → IsProduct k both.outer.view y both.outer.operands.0 both.outer.operands.1 (Err e)
both_refuse k x y f high e both keeps join =
    rests_product_refuses k both.outer.view y both.outer.operands.0 both.outer.operands.1 e both.begun.some (keeps_on both.outer.view x y both.keeps keeps)
    (both_join k x y f high (Err e) both keeps join)

-- what was joined is the result of the key's operation
pub both_kept : (k : KindName) (x y : View) (f : PlainProduct) (high rest : PlainEdge) → HasBoth k x f high → Keeps x y → IsJoin k x y f.level f.low high (Ok rest) →
    IsKept k y f.key rest
both_kept k x y f high rest both keeps join =
    let v = both.outer.view in
    let a = unscaled k both.outer.operands.0 in
    let b = unscaled k both.outer.operands.1 in
    let begun = both.begun in
    let whole = keeps_on v x y both.keeps keeps in
    record {
      operation = Product;
      first = a;
      second = b;
      is_key = begun.is_key;
      first_good = still_edge k v y a whole begun.first_good;
      second_good = still_edge k v y b whole begun.second_good;
      is_result = both_result Product k (product_work v.letters) v y a b rest whole begun.first_good begun.second_good (both_join k x y f high (Ok rest) both keeps join);
    }

-- ---- the scales are put back
pub puts_back : (k : KindName) (v w : View) (a b rest : PlainEdge) (s z : ℤ) (r : Result PlainEdge Limit) → AreSome k a b → Keeps v w → s ≡ scale_of k a.root → z ≡ scale_of k b.root →
    IsProduct k v w (unscaled k a) (unscaled k b) (Ok rest) → PutsBack k s z rest r → IsProduct k v w a b r
puts_back k v w a b rest s z (Ok e) some keeps first second product back =
    let is = back ∙ ap (λ (y : ℤ). scaled k y (scaled k z rest)) first ∙ ap (λ (y : ℤ). scaled k (scale_of k a.root) (scaled k y rest)) second in
    subst (λ (y : PlainEdge). IsProduct k v w a b (Ok y)) (sym is) (scales_put_back k v w a b rest some keeps product)
puts_back k v w a b rest s z (Err h) some keeps first second product (is, inl out) =
    subst (λ (y : Limit). IsProduct k v w a b (Err y)) (sym is)
    (second_scale_overflows k v w a b rest some keeps product (subst (λ (y : ℤ). IsOut (scaled k y rest)) second out))
puts_back k v w a b rest s z (Err h) some keeps first second product (is, inr out) =
    subst (λ (y : Limit). IsProduct k v w a b (Err y)) (sym is)
    (first_scale_overflows k v w a b rest some keeps product
    (subst (λ (y : ℤ). IsOut (scaled k (scale_of k a.root) (scaled k y rest))) second (subst (λ (y : ℤ). IsOut (scaled k y (scaled k z rest))) first out)))

pub put_back_refused : {T : Type 0} (k : KindName) (s z : ℤ) (rest : PlainEdge) (f : T → PlainEdge) (result : Result T Limit) → IsErrAnd result (λ y. y ≡ limit.Overflow) →
    IsOut (scaled k z rest) ⊎ IsOut (scaled k s (scaled k z rest)) → PutsBack k s z rest (answered f result)
put_back_refused k s z rest f (Ok x) is out = absurd is
put_back_refused k s z rest f (Err h) is out = (is, out)

-- a product that was joined, with the scales
pub both_answer : (k : KindName) (x y z : View) (f : PlainProduct) (high rest : PlainEdge) (r : Result PlainEdge Limit) → (both : HasBoth k x f high) → Keeps x y →
    IsJoin k x y f.level f.low high (Ok rest) → z ≡ y → PutsBack k f.first_scale f.second_scale rest r →
    IsProduct k both.outer.view z both.outer.operands.0 both.outer.operands.1 r
both_answer k x y z f high rest r both keeps join same back =
    let v = both.outer.view in
    subst (λ (w : View). IsProduct k v w both.outer.operands.0 both.outer.operands.1 r) (sym same)
    (puts_back k v y both.outer.operands.0 both.outer.operands.1 rest f.first_scale f.second_scale r both.begun.some (keeps_on v x y both.keeps keeps) both.begun.first_scale
    both.begun.second_scale (both_join k x y f high (Ok rest) both keeps join) back)

-- ---- a product that begins
-- what holds of the rests holds of the edges without their scales
of_rests : (Holds : PlainEdge → PlainEdge → Type 0) (k : KindName) (a b first second : PlainEdge) (s z : ℤ) → AreRests k a b first second s z → Holds first second →
    Holds (unscaled k a) (unscaled k b)
of_rests Holds k a b first second s z are holds =
    subst (λ (e : PlainEdge). Holds (unscaled k a) e) are.second_is (subst (λ (e : PlainEdge). Holds e second) are.first_is holds)

pub known_product : (k : KindName) (v : View) (a b first second rest : PlainEdge) (s z : ℤ) (r : Result PlainEdge Limit) → AreRests k a b first second s z →
    IsResult Product k v first second rest → PutsBack k s z rest r → IsProduct k v v a b r
known_product k v a b first second rest s z r are known back =
    puts_back k v v a b rest s z r are.some (keeps_itself v) are.first_scale are.second_scale
    (known_both Product k (product_work v.letters) v (unscaled k a) (unscaled k b) rest (of_rests (λ x y. IsResult Product k v x y rest) k a b first second s z are known)) back

-- two edges that can be split, and how they were
record CanSplit (k : KindName) (v : View) (x y : PlainEdge) (r : Result PlainSplit Overflow) : Type 0 where
  have : HaveNode k v x y
  splits : Splits k v x y r

pub split_refused : (k : KindName) (v : View) (a b first second : PlainEdge) (s z : ℤ) (o : Overflow) → AreRests k a b first second s z → HaveNode k v first second →
    Splits k v first second (Err o) → IsProduct k v v a b (Err limit.Overflow)
split_refused k v a b first second s z o are have splits =
    let x = unscaled k a in
    let y = unscaled k b in
    let can : CanSplit k v x y (Err o) = of_rests (λ p q. CanSplit k v p q (Err o)) k a b first second s z are (record { have = have; splits = splits }) in
    rests_product_refuses k v v a b limit.Overflow are.some (keeps_itself v)
    (both_unfit k times (product_work v.letters) v v x y o refl can.have.first can.have.second (mul_by_halves k v can.have.first.1.allowed)
    (λ l t u. product_covers_operands k v.letters l t u) can.splits)

pub waits_for_low : (k : KindName) (v : View) (a b first second : PlainEdge) (s z : ℤ) (split : PlainSplit) (key : CacheKey) → AreRests k a b first second s z →
    HaveNode k v first second → IsKeyOf Product k first second key → Splits k v first second (Ok split) →
    Waits k (record { view = v; operands = (a, b) })
    (record {
      key = key;
      level = split.level;
      stage = Low;
      first_scale = s;
      second_scale = z;
      low = split.parts.low.0;
      mixed = split.parts.low.1;
      high = split.parts.high;
    })
    (record { view = v; operands = (split.parts.low.0, split.parts.low.1) })
waits_for_low k v a b first second s z split key are have is_key splits =
    let x = unscaled k a in
    let y = unscaled k b in
    let can : CanSplit k v x y (Ok split) = of_rests (λ p q. CanSplit k v p q (Ok split)) k a b first second s z are (record { have = have; splits = splits }) in
    let good = can.have.first in
    record {
      parts = split.parts;
      begun = record {
        some = are.some;
        first_scale = are.first_scale;
        second_scale = are.second_scale;
        first_good = good;
        second_good = can.have.second;
        is_key = of_rests (λ p q. IsKeyOf Product k p q key) k a b first second s z are is_key;
        below = split_lies_below k v v x y split can.have refl can.splits;
        of_parts = λ w r keeps parts.
            both_of_parts k times (product_work v.letters) v v w x y split r refl good can.have.second keeps (mul_by_halves k v good.1.allowed) can.splits parts;
      };
      keeps = keeps_itself v;
      operands_are = (refl, refl);
      has_stage = tt;
      has_parts = (refl, refl, refl);
      so_far = λ t u s. record { made = λ id h. inl h; stand = tt };
    }

-- the level of the rests is that of the edges
pub rests_level : (k : KindName) (v : View) (a b first second : PlainEdge) (s z : ℤ) (level : ℕ) → AreRests k a b first second s z → level ≡ upper v first second →
    level ≡ upper v a b
rests_level k v a b first second s z level are is = of_rests (λ x y. level ≡ upper v x y) k a b first second s z are is

-- ---- refusals
pub goes_on_refused : {K X E : Type 0} (k : KindName) (of : X → ℤ) (outer : ProductCall) (w : View) (f g : PlainProduct)
    (result : Result (Place K X E) Limit) (e : Limit) → IsErrAnd result (λ y. y ≡ e) →
    IsProduct k outer.view w outer.operands.0 outer.operands.1 (Err e) → GoesOn k of outer w f g result
goes_on_refused k of outer w f g (Ok x) e is refused = absurd is
goes_on_refused k of outer w f g (Err h) e is refused = subst (λ (y : Limit). IsProduct k outer.view w outer.operands.0 outer.operands.1 (Err y)) (sym is) refused

pub product_refused : {T : Type 0} (k : KindName) (v w : View) (a b : PlainEdge) (f : T → PlainEdge) (result : Result T Limit) (e : Limit) → IsErrAnd result (λ y. y ≡ e) →
    IsProduct k v w a b (Err e) → IsProduct k v w a b (answered f result)
product_refused k v w a b f result e is product = refused_both k times (product_work v.letters) v w a b f result e is product
