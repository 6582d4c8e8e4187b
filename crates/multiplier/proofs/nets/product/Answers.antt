use Rattle.std.proofs.Common.{◌-◌, Some, refl, rules}
use Rattle.std.proofs.lemmas.Iterator.{YieldsList-from_map, YieldsList-from_range, items_from_collect}
use Rattle.std.proofs.lemmas.Iterator.Adapters.{YieldsList-from_once}
use Rattle.std.proofs.lemmas.Iterator.Consumers.{YieldsList-at, YieldsList-from_chain}
use Rattle.multiplier.specs.declared.net.Net.TheVariants.{Partial, Sum, Carry}
use Rattle.multiplier.proofs.nets.product.Goals as goal

pub returns : goal.returns
returns c =
    let size = c.args.size in
    let last = size - 1 in
    items_from_collect _ c.collect.ensures.ran (YieldsList-from_chain
    (YieldsList-at c.chain-3.ensures.first (YieldsList-from_chain
    (YieldsList-at c.chain-2.ensures.first (YieldsList-from_chain
    (YieldsList-from_once (Some (Partial 0 0)) (cc))
    (YieldsList-at c.chain.ensures.second (YieldsList-from_map _ (λ row. Sum row 0)
    (YieldsList-from_range 1 size last (cc) refl) c.map.ensures.closure (λ x r q k. search rules)))
    (cc) (cc)))
    (YieldsList-at c.chain-2.ensures.second (YieldsList-from_map _ (λ column. Sum last column)
    (YieldsList-from_range 1 size last (cc) refl) c.map-2.ensures.closure (λ x r q k. search rules)))
    (cc) (cc)))
    (YieldsList-from_once (Some (Carry last last)) (cc))
    (cc) (cc))
