use Rattle.std.proofs.Common.{ap, sym, ◌∙◌, arith}
use Rattle.unique_table.specs.declared.table.TableValue.{TableValue}
use Rattle.unique_table.proofs.Possible.{forks_seat}
use Rattle.unique_table.proofs.Splits.{pass_kept, pass_split}
use Rattle.unique_table.proofs.Values.{same_names}
use Rattle.unique_table.proofs.pass.SharedPass.split.Goals as goal

pub split_seat-place-requires : goal.split_seat-place-requires
split_seat-place-requires c =
    let shared = c.table.inside.table.shared in
    let count = c.table.invariant.2 in (
      same_names c.self.inside.place.table_id shared.table_id (c.self.invariant.seated.own.0 ∙ sym (ap (λ (t : TableValue). t.names) c.table.view_is)),
      omega arith,
      forks_seat shared.key c.self.inside.place.id c.self.inside.place.me.0 c.self.invariant.seated.live,
    )

pub invariant_of-self : goal.invariant_of-self
invariant_of-self c =
    let e = c.split_seat-place.ensures in
    pass_kept c.self.inside.table.now c.self.inside.place c.self.inside.stock c.self.invariant c.split_seat-place.new.seat e.0 e.2

pub invariant_of-result : goal.invariant_of-result
invariant_of-result c =
    let e = c.split_seat-place.ensures in
    pass_split c.self.inside.table.now c.self.inside.place c.self.inside.stock c.self.invariant c.split_seat-place.result e.3 e.4
