use Rattle.std.proofs.Common.{◌-◌, length, ap, sym, subst, ◌∙◌}
use Rattle.std.proofs.lemmas.List.FromFn.{length-range_with_len}
use Rattle.unique_table.specs.Passes.{IsSoundPass}
use Rattle.unique_table.specs.declared.token.PassValue.{PassValue}
use Rattle.unique_table.proofs.Passes.{sound}
use Rattle.unique_table.proofs.pass.SharedPass.unused.Goals as goal

pub returns-clause-count : goal.returns-clause-count
returns-clause-count c =
    let s = c.self.inside.stock in
    sym (length-range_with_len s.next (s.end - s.next)) ∙ sym (ap length c.self.invariant.seated.stock.held) ∙ ap (λ (p : PassValue). length p.view.held) c.self.view_is

pub returns-clause-pass : goal.returns-clause-pass
returns-clause-pass c =
    let t = c.self.inside.table.now in
    subst IsSoundPass c.self.view_is (sound t.names t.layout c.self.inside.place.me.0 c.self.invariant.shape c.self.invariant.seated.possible c.self.invariant.seated.live c.self.invariant.empty)
