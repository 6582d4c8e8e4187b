use Rattle.std.proofs.Common.{◌∙◌, ◌∷◌, [], ◌++◌, ap}
use Rattle.multiplier.specs.Adders.{partial_product}
use Rattle.multiplier.proofs.Ranges.{map-more}
use Rattle.multiplier.proofs.adders.push_partial_row.Goals as goal

pub loop-column-preserved : goal.loop-column-preserved
loop-column-preserved c =
    map-more (partial_product c.args.row) c.loop-column.column _ _ _ c.loop-column.invariant
    (c.in_ok-push.ensures.items ∙ ap (λ gate. c.loop-column.made.items ++ gate ∷ []) c.partial_product.ensures)
