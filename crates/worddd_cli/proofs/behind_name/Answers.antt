use Rattle.std.proofs.Common.{◌∙◌, ◌≡◌, ap, length, vec_len, drop}
use Rattle.std.proofs.lemmas.Iterator.Adapters.{YieldsList-from_skip, YieldsList-from_vec, fact_from_collect}
use Rattle.std.proofs.lemmas.Result.{IfOk-weaker}
use Rattle.std.specs.Vec.Iter.{into_iter_items, into_iter_len}
use Rattle.worddd_cli.proofs.behind_name.Goals as goal

pub returns : goal.returns
returns c =
    let length_is = ap into_iter_len c.skip.ensures.source ∙ c.args.arguments.rest.ok.0 in
    let all = YieldsList-from_vec _ (ap into_iter_items c.skip.ensures.source) length_is in
    IfOk-weaker c.collect.result _ _ (λ words holds. holds.0)
    (fact_from_collect (λ words v. (v.items ≡ words) × (vec_len v ≡ length words)) c.collect.result c.collect.ensures.ran
    (YieldsList-from_skip 1 all c.skip.ensures.count))
