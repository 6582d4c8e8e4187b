use Rattle.std.proofs.Common.{subst, ap, ◌∙◌, ℕ, ℤ, ◌*ℤ◌}
use Rattle.word_base.specs.Range.{InRange}
use Rattle.tables.specs.Tree.{weights}
use Rattle.kind_laws.specs.Plain.{plain_edge}
use Rattle.k_star_bmd.proofs.PartLaws.{exactly, are_parts, high_weight_out, added_out, extra_out, refused_parts}
use Rattle.k_star_bmd.proofs.k_star_bmd.KStarBmdKind.parts.Goals as goal

pub returns : goal.returns
returns c = λ f fits is.
    let w = c.args.edge.weight in
    let x = c.args.edge.extra in
    let range = subst InRange c.get-extra.ensures.value c.get-extra.ensures.in_range in
    let parts = are_parts c.args.letter w x f c.in_ok-low_weight.low_weight c.in_ok-high_weight.high_weight c.in_ok-added.added c.in_ok-high_extra.high_extra range
    (exactly w c.in_ok-low_weight.low_weight (c.low_weight_of.ensures f fits is) (c.in_ok-low_weight.ensures))
    (exactly w c.in_ok-high_weight.high_weight (c.high_weight_of.ensures f fits is) (c.in_ok-high_weight.ensures))
    (exactly w c.in_ok-added.added (c.added_of.ensures f fits is) (c.in_ok-added.ensures)) (c.in_ok-high_extra.ensures) in (
      parts.in_range,
      c.make_edge-low.ensures ∙ ap (λ (n : ℕ). plain_edge c.in_ok-low_weight.low_weight x n) (c.children-low.ensures.low f fits is) ∙ parts.low,
      c.make_edge-high.ensures ∙ ap (λ (n : ℕ). plain_edge c.in_ok-high_weight.high_weight c.in_ok-high_extra.high_extra n) (c.children-low.ensures.high f fits is) ∙ parts.high,
    )

pub returns-in_err-high_weight : goal.returns-in_err-high_weight
returns-in_err-high_weight c = λ f fits is.
    let w = c.args.edge.weight in
    refused_parts _ _ c.args.letter (weights w c.args.edge.extra) f c.from_residual-in_err-high_weight.ensures.0
    (high_weight_out c.args.letter w c.args.edge.extra f (subst (λ (z : ℤ). InRange (w *ℤ z) → ⊥) (c.high_weight_of.ensures f fits is) c.in_err-high_weight.ensures))

pub returns-in_err-added : goal.returns-in_err-added
returns-in_err-added c = λ f fits is.
    let w = c.args.edge.weight in
    refused_parts _ _ c.args.letter (weights w c.args.edge.extra) f c.from_residual-in_err-added.ensures.0
    (added_out c.args.letter w c.args.edge.extra f (subst (λ (z : ℤ). InRange (w *ℤ z) → ⊥) (c.added_of.ensures f fits is) c.in_err-added.ensures))

pub returns-in_err-high_extra : goal.returns-in_err-high_extra
returns-in_err-high_extra c = λ f fits is.
    let w = c.args.edge.weight in
    let added = exactly w c.in_ok-added.added (c.added_of.ensures f fits is) c.in_ok-added.ensures in
    refused_parts _ _ c.args.letter (weights w c.args.edge.extra) f c.from_residual-in_err-high_extra.ensures.0
    (extra_out c.args.letter w c.args.edge.extra c.in_ok-added.added f added.1 c.in_err-high_extra.ensures)
