use Rattle.std.proofs.Common.{sym, ◌∙◌, ap, subst, ◌≤◌, ℤ, length}
use Rattle.kind_laws.specs.Plain.{PlainEdge, plain}
use Rattle.kind_laws.specs.Scale.{MayScale, unscaled}
use Rattle.kind_laws.proofs.ScaleLaws.{scale-taken}
use Rattle.diagram.specs.Calls.{upper}
use Rattle.diagram.specs.View.{IsEdge}
use Rattle.diagram.proofs.ScaledEdges.{unscaled_good}
use Rattle.diagram.proofs.product_walk.begin_rests.Goals as goal

pub begin_unscaled-requires-clause-first_good : goal.begin_unscaled-requires-clause-first_good
begin_unscaled-requires-clause-first_good g c κs within =
    let k = g.K.Kind.NAME in
    let v = c.args.manager.now in
    subst (IsEdge k v) (sym c.take_scale-first_scale.ensures.rest) (unscaled_good k v (plain g.K.Kind.extra_of c.args.a) c.requires.a_good c.requires.some.first)

pub begin_unscaled-requires-clause-second_good : goal.begin_unscaled-requires-clause-second_good
begin_unscaled-requires-clause-second_good g c κs within =
    let k = g.K.Kind.NAME in
    let v = c.args.manager.now in
    subst (IsEdge k v) (sym c.take_scale-second_scale.ensures.rest) (unscaled_good k v (plain g.K.Kind.extra_of c.args.b) c.requires.b_good c.requires.some.second)

pub begin_unscaled-requires-clause-some_node : goal.begin_unscaled-requires-clause-some_node
begin_unscaled-requires-clause-some_node g c κs within = λ leaves.
    let node : PlainEdge → _ = λ e. e.node in
    c.requires.some_node (sym (ap node c.take_scale-first_scale.ensures.rest) ∙ leaves.0, sym (ap node c.take_scale-second_scale.ensures.rest) ∙ leaves.1)

pub begin_unscaled-requires-clause-place : goal.begin_unscaled-requires-clause-place
begin_unscaled-requires-clause-place g c κs within =
    let v = c.args.manager.now in
    let waiting = length c.args.frames.now.items in
    subst (λ (e : PlainEdge). waiting ≤ upper v e (plain g.K.Kind.extra_of c.take_scale-second_scale.result.1)) (sym c.take_scale-first_scale.ensures.rest)
    (subst (λ (e : PlainEdge). waiting ≤ upper v (unscaled g.K.Kind.NAME (plain g.K.Kind.extra_of c.args.a)) e) (sym c.take_scale-second_scale.ensures.rest) c.requires.place)

pub begin_unscaled-requires-clause-first_scale : goal.begin_unscaled-requires-clause-first_scale
begin_unscaled-requires-clause-first_scale g c κs within =
    let k = g.K.Kind.NAME in
    subst (λ (s : ℤ). MayScale k s) (sym c.take_scale-first_scale.ensures.scale) (scale-taken k (plain g.K.Kind.extra_of c.args.a).root)

pub begin_unscaled-requires-clause-second_scale : goal.begin_unscaled-requires-clause-second_scale
begin_unscaled-requires-clause-second_scale g c κs within =
    let k = g.K.Kind.NAME in
    subst (λ (s : ℤ). MayScale k s) (sym c.take_scale-second_scale.ensures.scale) (scale-taken k (plain g.K.Kind.extra_of c.args.b).root)

pub returns-clause-begins : goal.returns-clause-begins
returns-clause-begins g c =
    c.begin_unscaled.ensures.begins (plain g.K.Kind.extra_of c.args.a) (plain g.K.Kind.extra_of c.args.b)
    (record {
      first_is = c.take_scale-first_scale.ensures.rest;
      second_is = c.take_scale-second_scale.ensures.rest;
      first_scale = c.take_scale-first_scale.ensures.scale;
      second_scale = c.take_scale-second_scale.ensures.scale;
      some = c.requires.some;
    })
