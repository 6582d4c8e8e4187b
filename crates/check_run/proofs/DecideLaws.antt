-- From the edges of both sides to the verdict.
use Rattle.std.proofs.Common.{◌≡◌, refl, sym, ◌∙◌, ap, subst, ℕ, zero, suc, ℤ, Bool, true, false, List, [], ◌∷◌, length, drop, ⊎_elim}
use Rattle.std.specs.Prelude.{◌&&◌, ◌^◌, Contains, IfOk, IfSome, Option, Some, None, Result, Ok, Err, slice_get, unsigned_abs, if◌then◌else◌}
use Rattle.std.specs.declared.alloc.AllocError.{AllocError}
use Rattle.std.proofs.lemmas.Bool.{and_parts, false_from_ne_true, ltb-true}
use Rattle.std.proofs.lemmas.List.Elements.{Contains-append_left, Contains-append_right}
use Rattle.std.specs.Option.{option_map_or}
use Rattle.word_base.specs.declared.decomp.Decomp.{Decomp}
use Rattle.word_base.specs.declared.kind_name.KindName.{KindName}
use Rattle.word_base.specs.Range.{InRange}
use Rattle.circuits.specs.Circuit.{Circuit}
use Rattle.circuits.proofs.Members.{Contains-nil}
use Rattle.diagram.proofs.StoreLaws.{keeps_itself}
use Rattle.spec_lang.specs.declared.eval_error.EvalError.{EvalError}
use Rattle.spec_lang.specs.declared.eval_error.EvalError.TheVariants as eval
use Rattle.spec_lang.specs.Evaluated.{IsEvaluated}
use Rattle.spec_lang.specs.Placed.{net_values}
use Rattle.spec_lang.specs.Formula.{Formula}
use Rattle.spec_lang.specs.Specification.{Check, Specification, Word}
use Rattle.spec_lang.specs.Value.{all_in_range, value}
use Rattle.spec_lang.proofs.Values.{whole_in_range}
use Rattle.tables.specs.Canonical.{IsNodeOf, canonical, node_count}
use Rattle.tables.specs.Fits.{fits}
use Rattle.tables.specs.Pieces.{Piece}
use Rattle.tables.specs.Table.{tabulate, same_table}
use Rattle.checks.specs.Answer.{Difference, answer, entry_at, first_difference}
use Rattle.checks.specs.Forward.{building_work, difference_work, forward_work}
use Rattle.checks.specs.Work.{walk}
use Rattle.checks.specs.Limits.{over, short}
use Rattle.checks.specs.declared.method.Method.TheVariants.{Forward}
use Rattle.checks.specs.Sides.{side}
use Rattle.checks.proofs.FirstDifference.{first_difference_found, same_table-same}
use Rattle.checks.proofs.FormulaTables.{sides_are_over}
use Rattle.kind_laws.specs.Plain.{PlainEdge}
use Rattle.kind_laws.proofs.GraphLaws.{HasShape-extends}
use Rattle.record_store.specs.Solo.{IsSoloView}
use Rattle.record_store.specs.StoreView.{find_in}
use Rattle.diagram.specs.Answers.{Causes, HasCause, HasNodeShape}
use Rattle.diagram.specs.View.{View, StandsAt, Keeps}
use Rattle.diagram.specs.declared.limit.Limit.{Limit}
use Rattle.diagram.specs.declared.limit.Limit.TheVariants as limit
use Rattle.cone_builder.specs.Causes.{limit_met}
use Rattle.cone_builder.specs.declared.build_error.BuildError.{BuildError}
use Rattle.cone_builder.specs.declared.build_error.BuildError.TheVariants as build
use Rattle.cone_builder.specs.Sides.{AreSides, build_error_of}
use Rattle.cone_builder.proofs.NetLaws.{if_some_at}
use Rattle.checks.specs.declared.verdict.Verdict.TheVariants.{Equal, Different, Overflow, Full}
use Rattle.checks.specs.declared.verdict.Verdict.{Verdict}
use Rattle.check_run.specs.Deciding.{HasBuilt, verdict_at, verdict_of_limit}
use Rattle.check_run.specs.Verdicts.{IsReported}
use Rattle.check_run.proofs.LimitLaws.{over_of_unfit, over_of_values, short_of_spent}

pub overflow_decided : (k : KindName) (cells : ℕ) (c : Circuit) (s : Specification) (place : ℕ) (check : Check) → slice_get s.checks place ≡ Some check → over k Forward c s check ≡ true → IsReported k cells c s place Overflow
overflow_decided k cells c s place check is beyond = (check, is, beyond)

pub full_decided : (k : KindName) (cells : ℕ) (c : Circuit) (s : Specification) (place : ℕ) (check : Check) → slice_get s.checks place ≡ Some check → short k Forward 1 cells c s check ≡ true → IsReported k cells c s place Full
full_decided k cells c s place check is spent = (check, is, spent)

answer_of : (k : KindName) (c : Circuit) (s : Specification) (check : Check) (o : Option Difference) → first_difference (side c s check.left) (side c s check.right) ≡ o →
    option_map_or (λ d. Different d.left d.right d.at) o (Equal (node_count k s.letters (side c s check.left))) ≡ answer k c s check
answer_of k c s check o is =
    ap (λ p. option_map_or (λ d. Different d.left d.right d.at) p (Equal (node_count k s.letters (side c s check.left)))) (sym is)

pub equal_decided : (k : KindName) (cells : ℕ) (c : Circuit) (s : Specification) (place : ℕ) (check : Check) → slice_get s.checks place ≡ Some check →
    side c s check.left ≡ side c s check.right → (nodes : ℕ) → nodes ≡ node_count k s.letters (side c s check.left) → IsReported k cells c s place (Equal nodes)
equal_decided k cells c s place check is same nodes counted =
    let left = side c s check.left in
    let none : first_difference left (side c s check.right) ≡ None = ap (first_difference left) (sym same) ∙ first_difference_found.none_of_same left in
    (check, is, ap Equal counted ∙ answer_of k c s check None none)

entry_of_tabulate : (n : ℕ) (f : List Bool → ℤ) (bits : List Bool) → length bits ≡ n → entry_at (tabulate n f) bits ≡ f bits
entry_of_tabulate zero f [] many = refl
entry_of_tabulate zero f (b ∷ bits) many = absurd (cc)
entry_of_tabulate (suc n) f [] many = absurd (cc)
entry_of_tabulate (suc n) f (false ∷ bits) many = entry_of_tabulate n (λ more. f (false ∷ more)) bits (cc)
entry_of_tabulate (suc n) f (true ∷ bits) many = entry_of_tabulate n (λ more. f (true ∷ more)) bits (cc)

-- a value whose parts are weights is one
value_in_range : (words : List Word) (values : List Bool) (f : Formula) (z : ℤ) → z ≡ value words values f → all_in_range words values f ≡ true → InRange z
value_in_range words values f z is fits =
    subst InRange (sym is) (ltb-true (unsigned_abs (value words values f)) (2 ^ 127) (whole_in_range words values f fits))

-- the values at the bits of the first difference are those of the answer
pub different_decided : (k : KindName) (cells : ℕ) (c : Circuit) (s : Specification) (place : ℕ) (check : Check) (d : Difference) (left right : ℤ) (at : List Bool) → slice_get s.checks place ≡ Some check →
    first_difference (side c s check.left) (side c s check.right) ≡ Some d → at ≡ d.at →
    (all_in_range s.words (net_values c s at) check.left && all_in_range s.words (net_values c s at) check.right) ≡ true →
    left ≡ value s.words (net_values c s at) check.left → right ≡ value s.words (net_values c s at) check.right →
    IsReported k cells c s place (Different left right at)
different_decided k cells c s place check d left right at is found at_is fits left_is right_is =
    let t = side c s check.left in
    let u = side c s check.right in
    let n = length s.order in
    let first = first_difference_found.found n t u d (sides_are_over.of_formula c s check.left) (sides_are_over.of_formula c s check.right) found in
    let bits : List Bool = d.at in
    let l : left ≡ d.left =
    left_is ∙ ap (λ b. value s.words (net_values c s b) check.left) at_is
    ∙ sym (entry_of_tabulate n (λ b. value s.words (net_values c s b) check.left) bits first.full) ∙ first.left in
    let r : right ≡ d.right =
    right_is ∙ ap (λ b. value s.words (net_values c s b) check.right) at_is
    ∙ sym (entry_of_tabulate n (λ b. value s.words (net_values c s b) check.right) bits first.full) ∙ first.right in
    let low : all_in_range s.words (net_values c s at) check.left ≡ true = (and_parts (all_in_range s.words (net_values c s at) check.left) (all_in_range s.words (net_values c s at) check.right) fits).0 in
    let high : all_in_range s.words (net_values c s at) check.right ≡ true = (and_parts (all_in_range s.words (net_values c s at) check.left) (all_in_range s.words (net_values c s at) check.right) fits).1 in (
      check,
      is,
      (value_in_range s.words (net_values c s at) check.left left left_is low, value_in_range s.words (net_values c s at) check.right right right_is high, ap (λ x. Different x right at) l ∙ ap (λ x. Different d.left x at) r ∙ ap (Different d.left d.right) at_is ∙ answer_of k c s check (Some d) found),
    )

-- what the edges of the sides stand for
pub sides_at : (k : KindName) (c : Circuit) (s : Specification) (place : ℕ) (check : Check) (v : View) (left right : PlainEdge) → slice_get s.checks place ≡ Some check →
    AreSides k c s place v left right → StandsAt k v 0 (side c s check.left) left × StandsAt k v 0 (side c s check.right) right
sides_at k c s place check v left right is sides =
    if_some_at (slice_get s.checks place) check (λ x. StandsAt k v 0 (side c s x.left) left × StandsAt k v 0 (side c s x.right) right) is sides

-- the verdict from both values at the first difference
values_decided : (k : KindName) (cells : ℕ) (c : Circuit) (s : Specification) (place : ℕ) (check : Check) (d : Difference) (at : List Bool) (values : Result (ℤ × ℤ) EvalError) → slice_get s.checks place ≡ Some check →
    first_difference (side c s check.left) (side c s check.right) ≡ Some d → at ≡ d.at →
    IsEvaluated values (all_in_range s.words (net_values c s at) check.left && all_in_range s.words (net_values c s at) check.right)
    (value s.words (net_values c s at) check.left, value s.words (net_values c s at) check.right) →
    IfOk (verdict_at at values) (λ v. IsReported k cells c s place v)
values_decided k cells c s place check d at (Ok values) is found at_is (fits, same) =
    different_decided k cells c s place check d values.0 values.1 at is found at_is fits (ap (λ p. p.0) same) (ap (λ p. p.1) same)
values_decided k cells c s place check d at (Err eval.Overflow) is found at_is out =
    overflow_decided k cells c s place check is (over_of_values k c s check d at found at_is out)
values_decided k cells c s place check d at (Err eval.Memory) is found at_is _ = tt

pub evaluated_decided : (k : KindName) (cells : ℕ) (c : Circuit) (s : Specification) (place : ℕ) (check : Check) (d : Difference) (at : List Bool) (values : Result (ℤ × ℤ) EvalError) (r : Result Verdict AllocError) → slice_get s.checks place ≡ Some check →
    first_difference (side c s check.left) (side c s check.right) ≡ Some d → at ≡ d.at →
    IfSome (slice_get s.checks place) (λ sides. IsEvaluated values (all_in_range s.words (net_values c s at) sides.left && all_in_range s.words (net_values c s at) sides.right)
    (value s.words (net_values c s at) sides.left, value s.words (net_values c s at) sides.right)) →
    r ≡ verdict_at at values → IfOk r (λ v. IsReported k cells c s place v)
evaluated_decided k cells c s place check d at values r is found at_is evaluated verdict =
    let told = if_some_at (slice_get s.checks place) check
    (λ sides. IsEvaluated values (all_in_range s.words (net_values c s at) sides.left && all_in_range s.words (net_values c s at) sides.right)
    (value s.words (net_values c s at) sides.left, value s.words (net_values c s at) sides.right)) is evaluated in
    subst (λ (o : Result Verdict AllocError). IfOk o (λ v. IsReported k cells c s place v)) (sym verdict)
    (values_decided k cells c s place check d at values is found at_is told)

-- ---- limits
-- what a fresh builder makes is what its store holds
pub built_of_fresh : {X : Type 0} (k : KindName) (c : Circuit) (s : Specification) (check : Check) (old new : View) (ps : List Piece) (r : Result X Limit) → old.store.made ≡ [] →
    Causes k old new ps r → (id : ℕ) → Contains new.store.made id → HasNodeShape k new ps id
built_of_fresh k c s check old new ps r empty causes id has =
    ⊎_elim (λ was. absurd (Contains-nil id (subst (λ (ids : List ℕ). Contains ids id) empty was))) (λ node. node) (causes.made id has)

-- among more pieces, and after a call that keeps all
more_pieces : (k : KindName) (v w : View) (ps qs : List Piece) (id : ℕ) → Keeps v w → ((p : Piece) → Contains ps p → Contains qs p) → HasNodeShape k v ps id → HasNodeShape k w qs id
more_pieces k v w ps qs id keeps within (x, (p, listed, is), shape) =
    (x, (p, within p listed, subst (λ (ds : List Decomp). IsNodeOf x (canonical k (drop p.level ds) p.level p.table).shape) (sym keeps.letters) is), HasShape-extends k (find_in v.store) (find_in w.store) keeps.known id x shape)

-- the verdict from a limit that was met, over pieces of the work
pub limit_decided : {X : Type 0} (k : KindName) (cells : ℕ) (c : Circuit) (s : Specification) (place : ℕ) (check : Check) (v w : View) (count : ℕ) (ps : List Piece) (error : Limit) →
    slice_get s.checks place ≡ Some check → w.letters ≡ s.letters → w.store.room ≡ cells → IsSoloView w.store count → ((p : Piece) → Contains ps p → Contains (forward_work c s check) p) →
    ((id : ℕ) → Contains w.store.made id → HasNodeShape k w (forward_work c s check) id) → HasCause {X = X} k w ps (Err error) →
    IfOk (verdict_of_limit (build_error_of error)) (λ v. IsReported k cells c s place v)
limit_decided k cells c s place check v w count ps limit.Overflow is letters room solo within made cause =
    let unfit = cause.overflow refl in
    overflow_decided k cells c s place check is
    (over_of_unfit k c s check (unfit.0, within unfit.0 unfit.1, subst (λ (ds : List Decomp). fits k (drop unfit.0.level ds) unfit.0.table ≡ false) letters unfit.2))
limit_decided k cells c s place check v w count ps limit.Full is letters room solo within made cause =
    full_decided k cells c s place check is (short_of_spent k cells c s check w count letters room solo (cause.full refl).0 made)

-- a limit that the building met
pub not_built_decided : (X : Type 0) (k : KindName) (cells : ℕ) (c : Circuit) (s : Specification) (place : ℕ) (check : Check) (v w : View) (count : ℕ) (error : BuildError) (r : Result Verdict AllocError) →
    slice_get s.checks place ≡ Some check → v.store.made ≡ [] → w.letters ≡ s.letters → w.store.room ≡ cells → IsSoloView w.store count → Keeps v w →
    IfSome (slice_get s.checks place) (λ sides. Causes k v w (building_work c s sides) (limit_met {X = X} (Err error))) → r ≡ verdict_of_limit error →
    IfOk r (λ x. IsReported k cells c s place x)
not_built_decided X k cells c s place check v w count error r is empty letters room solo keeps caused verdict =
    subst (λ (o : Result Verdict AllocError). IfOk o (λ x. IsReported k cells c s place x)) (sym verdict)
    (by_error error (if_some_at (slice_get s.checks place) check (λ sides. Causes k v w (building_work c s sides) (limit_met {X = X} (Err error))) is caused))
  where
    within : (p : Piece) → Contains (building_work c s check) p → Contains (forward_work c s check) p
    within p has = Contains-append_left (building_work c s check) (difference_work 0 c s check) p has

    made : {Y : Type 0} (q : Result Y Limit) → Causes k v w (building_work c s check) q → (id : ℕ) → Contains w.store.made id → HasNodeShape k w (forward_work c s check) id
    made q causes id has =
        more_pieces k w w (building_work c s check) (forward_work c s check) id (keeps_itself w) within (built_of_fresh k c s check v w (building_work c s check) q empty causes id has)

    by_error : (e : BuildError) → Causes k v w (building_work c s check) (limit_met {X = X} (Err e)) → IfOk (verdict_of_limit e) (λ x. IsReported k cells c s place x)
    by_error build.Overflow causes =
        limit_decided {X = Unit {0}} k cells c s place check v w count (building_work c s check) limit.Overflow is letters room solo within (made (Err limit.Overflow) causes) causes.cause
    by_error build.Full causes =
        limit_decided {X = Unit {0}} k cells c s place check v w count (building_work c s check) limit.Full is letters room solo within (made (Err limit.Full) causes) causes.cause
    by_error build.Memory causes = tt

-- ---- the walk to the first difference
-- sides that differ have the walk in their work
pub walk_within : (c : Circuit) (s : Specification) (check : Check) → (side c s check.left ≡ side c s check.right → ⊥) →
    (p : Piece) → Contains (walk s.letters 0 (side c s check.left) (side c s check.right)) p → Contains (forward_work c s check) p
walk_within c s check differ p has =
    let left = side c s check.left in
    let right = side c s check.right in
    let apart : same_table left right ≡ false = false_from_ne_true (same_table left right) (λ e. differ (same_table-same left right e)) in
    Contains-append_right (building_work c s check) (difference_work 0 c s check) p
    (subst (λ (b : Bool). Contains (if b then [] else walk s.letters 0 left right) p) (sym apart) has)

-- a limit that the walk met
pub walk_decided : {X : Type 0} (k : KindName) (c : Circuit) (s : Specification) (place : ℕ) (check : Check) (v w : View) (count : ℕ) (error : Limit) (r : Result Verdict AllocError) →
    slice_get s.checks place ≡ Some check → HasBuilt k c s place v → (side c s check.left ≡ side c s check.right → ⊥) → Keeps v w → IsSoloView w.store count →
    Causes {X = X} k v w (walk v.letters 0 (side c s check.left) (side c s check.right)) (Err error) → r ≡ verdict_of_limit (build_error_of error) →
    IfOk r (λ x. IsReported k v.store.room c s place x)
walk_decided {X = X} k c s place check v w count error r is built differ keeps solo causes verdict =
    subst (λ (o : Result Verdict AllocError). IfOk o (λ x. IsReported k v.store.room c s place x)) (sym verdict)
    (limit_decided {X = X} k v.store.room c s place check v w count steps error is (keeps.letters ∙ built.letters) keeps.room solo within made here.cause)
  where
    steps : List Piece
    steps = walk s.letters 0 (side c s check.left) (side c s check.right)

    here : Causes {X = X} k v w steps (Err error)
    here = subst (λ (ds : List Decomp). Causes {X = X} k v w (walk ds 0 (side c s check.left) (side c s check.right)) (Err error)) built.letters causes

    within : (p : Piece) → Contains steps p → Contains (forward_work c s check) p
    within = walk_within c s check differ

    made : (id : ℕ) → Contains w.store.made id → HasNodeShape k w (forward_work c s check) id
    made id has = ⊎_elim
        (λ was. more_pieces k v w (building_work c s check) (forward_work c s check) id keeps
        (λ p listed. Contains-append_left (building_work c s check) (difference_work 0 c s check) p listed)
        (if_some_at (slice_get s.checks place) check (λ x. HasNodeShape k v (building_work c s x) id) is (built.made id was)))
        (λ node. more_pieces k w w steps (forward_work c s check) id (keeps_itself w) within node)
        (here.made id has)
