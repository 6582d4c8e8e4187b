use Rattle.std.proofs.Common.{◌≡◌, sym, subst, List, []}
use Rattle.std.specs.Prelude.{None}
use Rattle.std.specs.Cmp.{nat_cmp_total}
use Rattle.std.specs.FinMap.{get-from_entries}
use Rattle.record_store.specs.Solo.{solo_view}
use Rattle.record_store.specs.StoreView.{find_in}
use Rattle.record_store.proofs.solo.SoloStore.create.Goals as goal

pub returns-clause-nothing : goal.returns-clause-nothing
returns-clause-nothing c = λ id.
    subst (λ (bodies : List (List _)). find_in (solo_view (record { bodies = bodies; cells = c.args.cells })) id ≡ None) (sym c.in_ok-bodies.ensures.items)
    (get-from_entries nat_cmp_total [] id)
