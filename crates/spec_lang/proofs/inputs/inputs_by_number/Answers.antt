use Rattle.std.proofs.Common.{◌∙◌, ap, subst, sym, arith, get_or, set, false, ◌+◌}
use Rattle.std.proofs.lemmas.Option.{get_or_from_slice_get}
use Rattle.spec_lang.proofs.Placed.{ArePlaced, input_of_level, placed-more, placed-all}
use Rattle.spec_lang.proofs.inputs.inputs_by_number.Goals as goal

pub overflow_cast-order : goal.overflow_cast-order
overflow_cast-order c =
    let input = input_of_level c.args.order.now c.loop-level.level c.requires.order (omega arith) in
    omega arith

pub set-requires : goal.set-requires
set-requires c =
    let input = input_of_level c.args.order.now c.loop-level.level c.requires.order (omega arith) in
    let many = c.loop-level.invariant.many in
    omega arith

pub loop-level-preserved : goal.loop-level-preserved
loop-level-preserved c =
    let level = c.loop-level.level in
    let bit = get_or_from_slice_get c.args.at.now level c.get.result false c.get.ensures in
    subst (ArePlaced c.args.order.now c.args.at.now (level + 1)) (sym (c.set.ensures ∙ ap (set c.loop-level.inputs (get_or c.args.order.now level 0)) (sym bit)))
    (placed-more c.args.order.now c.args.at.now level c.loop-level.inputs c.requires.order (omega arith) c.loop-level.invariant)

pub returns : goal.returns
returns c = placed-all c.args.order.now c.args.at.now c.loop-level.level c.loop-level.inputs c.requires.order (omega arith) c.loop-level.invariant
