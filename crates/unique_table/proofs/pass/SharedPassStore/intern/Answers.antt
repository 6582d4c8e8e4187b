use Rattle.std.proofs.Common.{subst}
use Rattle.record_store.specs.Interns.{Interns}
use Rattle.unique_table.specs.Passes.{pass_view}
use Rattle.unique_table.specs.declared.token.PassValue.{PassValue}
use Rattle.unique_table.proofs.Passes.{ends_interns}
use Rattle.unique_table.proofs.pass.SharedPassStore.intern.Goals as goal

pub returns-clause-interns : goal.returns-clause-interns
returns-clause-interns c =
    let t = c.self.inside.table.now in
    let w = c.find_or_add.new.place.me.0 in
    let e = c.find_or_add.ensures in
    subst (λ (p : PassValue). Interns (pass_view p) (pass_view (record { names = t.names; layout = t.layout; view = w })) c.args.body.now c.find_or_add.result) c.self.view_is
    (ends_interns t.names t.layout c.self.inside.place.me.0 w c.args.body.now c.find_or_add.result c.self.invariant.shape.layout e.pass.possible e.came)
