use Rattle.std.proofs.Common.{sym, subst, ap, ◌∙◌, ℕ, List, arith}
use Rattle.std.specs.Vec.{vec_capacity}
use Rattle.marks.specs.Inside.{marked_under, padded, IsStored}
use Rattle.marks.proofs.MarkLaws.{zeros_unmarked}
use Rattle.marks.proofs.PaddedLaws.{padded_none, none_stored}
use Rattle.marks.proofs.marks.Marks.with_stamp.Goals as goal

pub invariant_of-result : goal.invariant_of-result
invariant_of-result c =
    let capacity = vec_capacity c.in_ok-stamps.stamps in
    subst (λ (ss : List ℕ). IsStored ss c.args.cells c.args.stamp 0 capacity) (sym c.in_ok-stamps.ensures.items)
    (none_stored c.args.cells c.args.stamp capacity c.requires (search arith) c.in_ok-stamps.ensures.capacity)

pub returns : goal.returns
returns c =
    ap (λ (ss : List ℕ). marked_under c.args.stamp (padded ss c.args.cells)) c.in_ok-stamps.ensures.items
    ∙ ap (marked_under c.args.stamp) (padded_none c.args.cells)
    ∙ zeros_unmarked c.args.cells c.args.stamp c.requires
