use Rattle.std.proofs.Common.{◌≡◌, None, sym, subst, []}
use Rattle.std.specs.Cmp.{nat_cmp_total}
use Rattle.std.specs.FinMap.{get-from_entries}
use Rattle.record_store.specs.StoreView.{find_in}
use Rattle.table_rule.specs.PassStore.{pass_store}
use Rattle.table_rule.specs.declared.view.PassView.{PassView}
use Rattle.unique_table.proofs.table.SharedTable.pass.Goals as goal

pub returns-clause-nothing : goal.returns-clause-nothing
returns-clause-nothing c = λ id.
    subst (λ (v : PassView). find_in (pass_store c.args.self.now.names c.args.self.now.layout v) id ≡ None) (sym c.token.invariant.2) (get-from_entries nat_cmp_total [] id)
