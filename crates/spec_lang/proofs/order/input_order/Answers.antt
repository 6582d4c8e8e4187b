use Rattle.std.proofs.Common.{◌∙◌, ◌++◌, ◌∷◌, [], sym, ap, subst}
use Rattle.spec_lang.specs.WellFormed.{IsOrder}
use Rattle.spec_lang.proofs.Orders.{range_is_order, range_with_len-more}
use Rattle.spec_lang.proofs.order.input_order.Goals as goal

pub loop-net-preserved : goal.loop-net-preserved
loop-net-preserved c = c.in_ok-push.ensures.items ∙ ap (λ order. order ++ c.loop-net.net ∷ []) c.loop-net.invariant ∙ sym (range_with_len-more c.loop-net.net)

pub returns-clause-is_order : goal.returns-clause-is_order
returns-clause-is_order c = subst IsOrder (sym c.loop-net.invariant) (range_is_order c.loop-net.net)
