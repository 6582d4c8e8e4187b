use Rattle.std.proofs.Common.{◌≡◌, ◌∙◌, List, ap, subst, arith}
use Rattle.checks.specs.Sides.{side}
use Rattle.cone_builder.proofs.NetLaws.{check_there}
use Rattle.kind_laws.specs.Plain.{plain}
use Rattle.tables.specs.Canonical.{node_count}
use Rattle.word_base.specs.declared.decomp.Decomp.{Decomp}
use Rattle.record_store.specs.Solo.{IsSoloView}
use Rattle.record_store.specs.StoreView.{StoreView}
use Rattle.check_run.specs.Deciding.{verdict_of_limit}
use Rattle.check_run.proofs.DecideLaws.{equal_decided, evaluated_decided, sides_at, walk_decided}
use Rattle.check_run.proofs.decide.compare.Goals as goal

pub returns-then-same : goal.returns-then-same
returns-then-same g c =
    let k = g.K.Kind.NAME in
    let of = g.K.Kind.extra_of in
    let n = c.args.netlist.now in
    let s = c.args.spec.now in
    let v = c.args.builder.now in
    let found = check_there s c.args.check c.requires.check in
    let left = plain of c.args.sides.0 in
    let right = plain of c.args.sides.1 in
    let both = sides_at k n s c.args.check found.0 v left right found.1 c.requires.sides in
    equal_decided k v.store.room n s c.args.check found.0 found.1 ((c.same.ensures 0 (side n s found.0.left) (side n s found.0.right) both.0 both.1).0 c.if-same.true)
    c.count.result
    (c.count.ensures.count 0 (side n s found.0.left) both.0 ∙ ap (λ (ds : List Decomp). node_count k ds (side n s found.0.left)) c.requires.built.letters)

pub count-requires-after_bounds : goal.count-requires-after_bounds
count-requires-after_bounds g c κs within =
    let k = g.K.Kind.NAME in
    let of = g.K.Kind.extra_of in
    let n = c.args.netlist.now in
    let s = c.args.spec.now in
    let v = c.args.builder.now in
    let found = check_there s c.args.check c.requires.check in
    let left = plain of c.args.sides.0 in
    let right = plain of c.args.sides.1 in
    let both = sides_at k n s c.args.check found.0 v left right found.1 c.requires.sides in
    (side n s found.0.left, both.0)

pub first_difference-requires-clause-left_lies : goal.first_difference-requires-clause-left_lies
first_difference-requires-clause-left_lies g c κs within =
    let k = g.K.Kind.NAME in
    let of = g.K.Kind.extra_of in
    let n = c.args.netlist.now in
    let s = c.args.spec.now in
    let v = c.args.builder.now in
    let found = check_there s c.args.check c.requires.check in
    let left = plain of c.args.sides.0 in
    let right = plain of c.args.sides.1 in
    let both = sides_at k n s c.args.check found.0 v left right found.1 c.requires.sides in
    record { good = (side n s found.0.left, both.0); not_above = omega arith }

pub first_difference-requires-clause-right_lies : goal.first_difference-requires-clause-right_lies
first_difference-requires-clause-right_lies g c κs within =
    let k = g.K.Kind.NAME in
    let of = g.K.Kind.extra_of in
    let n = c.args.netlist.now in
    let s = c.args.spec.now in
    let v = c.args.builder.now in
    let found = check_there s c.args.check c.requires.check in
    let left = plain of c.args.sides.0 in
    let right = plain of c.args.sides.1 in
    let both = sides_at k n s c.args.check found.0 v left right found.1 c.requires.sides in
    record { good = (side n s found.0.right, both.1); not_above = omega arith }

pub first_difference-requires-clause-differ : goal.first_difference-requires-clause-differ
first_difference-requires-clause-differ g c κs within = λ t u h i is.
    let same = (c.same.ensures 0 t u h i).1 is in
    let other = c.if-same.false in cc

pub returns-in-Ok : goal.returns-in-Ok
returns-in-Ok g c =
    let k = g.K.Kind.NAME in
    let of = g.K.Kind.extra_of in
    let n = c.args.netlist.now in
    let s = c.args.spec.now in
    let v = c.args.builder.now in
    let found = check_there s c.args.check c.requires.check in
    let left = plain of c.args.sides.0 in
    let right = plain of c.args.sides.1 in
    let both = sides_at k n s c.args.check found.0 v left right found.1 c.requires.sides in
    let first = c.in-Ok.ensures.first (side n s found.0.left) (side n s found.0.right) both.0 both.1 in
    evaluated_decided k v.store.room n s c.args.check found.0 first.difference c.first_difference.new.into c.evaluate-values.result c.verdict_at.result
    found.1 first.found first.at c.evaluate-values.ensures c.verdict_at.ensures

pub returns-in-Err : goal.returns-in-Err
returns-in-Err g c =
    let k = g.K.Kind.NAME in
    let of = g.K.Kind.extra_of in
    let n = c.args.netlist.now in
    let s = c.args.spec.now in
    let v = c.args.builder.now in
    let found = check_there s c.args.check c.requires.check in
    let left = plain of c.args.sides.0 in
    let right = plain of c.args.sides.1 in
    let both = sides_at k n s c.args.check found.0 v left right found.1 c.requires.sides in
    let w = c.first_difference.new.builder in
    let solo = subst (λ (x : StoreView). IsSoloView x c.len-known.result) c.store.ensures c.len-known.ensures.view in
    let differ : side n s found.0.left ≡ side n s found.0.right → ⊥ =
    λ is. let same = (c.same.ensures 0 (side n s found.0.left) (side n s found.0.right) both.0 both.1).1 is in let other = c.if-same.false in cc in
    walk_decided {X = Unit {0}} k n s c.args.check found.0 v w c.len-known.result c.in-Err.limit c.verdict_of_limit.result found.1 c.requires.built differ c.in-Err.ensures.keeps solo
    (c.in-Err.ensures.causes (side n s found.0.left) (side n s found.0.right) both.0 both.1)
    (subst (λ (e : _). c.verdict_of_limit.result ≡ verdict_of_limit e) c.from.ensures c.verdict_of_limit.ensures)
