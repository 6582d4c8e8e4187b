use Rattle.std.proofs.Common.{◌∙◌, ap, subst, inl, inr}
use Rattle.kind_laws.specs.Plain.{PlainEdge, plain}
use Rattle.kind_laws.specs.Scale.{scaled}
use Rattle.diagram.specs.ProductFrames.{IsOut}
use Rattle.diagram.proofs.ProductWalk.{put_back_refused}
use Rattle.diagram.proofs.product_walk.put_back.Goals as goal

pub returns-in_err-multiple : goal.returns-in_err-multiple
returns-in_err-multiple g c =
    put_back_refused g.K.Kind.NAME c.args.first_scale c.args.second_scale (plain g.K.Kind.extra_of c.args.rest) (plain g.K.Kind.extra_of) c.from_residual.result
    c.from_residual.ensures.1 (inl c.in_err-multiple.ensures)

pub returns-in_err-product : goal.returns-in_err-product
returns-in_err-product g c =
    let k = g.K.Kind.NAME in
    put_back_refused k c.args.first_scale c.args.second_scale (plain g.K.Kind.extra_of c.args.rest) (plain g.K.Kind.extra_of) c.from_residual-in_err-product.result
    c.from_residual-in_err-product.ensures.1
    (inr (subst (λ (e : PlainEdge). IsOut (scaled k c.args.first_scale e)) c.in_ok-multiple.ensures.1 c.in_err-product.ensures))

pub returns : goal.returns
returns g c = c.in_ok-product.ensures.1 ∙ ap (scaled g.K.Kind.NAME c.args.first_scale) c.in_ok-multiple.ensures.1
