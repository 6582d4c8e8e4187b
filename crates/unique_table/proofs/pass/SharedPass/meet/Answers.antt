use Rattle.std.proofs.Common.{◌≡◌, ℕ, List, ap, sym, subst, ◌∙◌, arith}
use Rattle.table_rule.specs.Laws.{IsViewOf}
use Rattle.table_rule.specs.Views.{see_chunk}
use Rattle.table_rule.specs.declared.layout.Layout.{Layout}
use Rattle.table_rule.specs.declared.view.PassView.{PassView}
use Rattle.table_rule.specs.Stores.{AreOfOneTable}
use Rattle.unique_table.specs.Passes.{pass_view, IsOneTable, HasMet}
use Rattle.unique_table.specs.Values.{IsShape}
use Rattle.unique_table.proofs.Tables.{one_layout}
use Rattle.unique_table.specs.declared.table.TableValue.{TableValue}
use Rattle.unique_table.specs.declared.token.PassValue.{PassValue}
use Rattle.unique_table.proofs.Passes.{meets, sound, live_met, empty_met}
use Rattle.unique_table.proofs.Possible.{joins_seats}
use Rattle.unique_table.proofs.Splits.{pass_met}
use Rattle.unique_table.proofs.Values.{same_names}
use Rattle.unique_table.proofs.pass.SharedPass.meet.Goals as goal

-- both are of one table
one : (p q x y : PassValue) → IsShape p.layout → IsShape q.layout → p ≡ x → q ≡ y → AreOfOneTable (pass_view x) (pass_view y) → IsOneTable p q
one p q x y a b e f h = one_layout p q a b (subst (λ (z : PassValue). AreOfOneTable (pass_view p) (pass_view z)) (sym f) (subst (λ (z : PassValue). AreOfOneTable (pass_view z) (pass_view y)) (sym e) h))

pub join_seat-requires : goal.join_seat-requires
join_seat-requires c =
    let shared = c.table.inside.table.shared in
    let count = c.table.invariant.2 in
    let table = ap (λ (t : TableValue). t.names) c.table.view_is in
    let mine = c.self.invariant.seated.own.0 ∙ sym table in
    let t = c.self.inside.table.now in
    let o = c.other.inside.table.now in
    let same = one (record { names = t.names; layout = t.layout; view = c.self.inside.place.me.0 }) (record { names = o.names; layout = o.layout; view = c.other.inside.place.me.0 }) _ _ c.self.invariant.shape c.other.invariant.shape c.self.view_is c.other.view_is c.requires.table in
    let names : o.names ≡ t.names = same.0 in
    let theirs = c.other.invariant.seated.own.0 ∙ names ∙ sym table in (
      same_names c.self.inside.place.table_id shared.table_id mine,
      same_names c.other.inside.place.table_id shared.table_id theirs,
      c.other.invariant.seated.own.1,
      omega arith,
      joins_seats shared.key c.self.inside.place.id c.self.inside.place.me.0 c.other.inside.place.id c.other.inside.place.me.0 c.self.invariant.seated.live c.other.invariant.seated.live,
    )

pub invariant_of-self : goal.invariant_of-self
invariant_of-self c =
    let v : PassView = c.self.inside.place.me.0 in
    let u : PassView = c.other.inside.place.me.0 in
    let e = c.look_chunk.ensures in
    let joined = ap (λ (m : PassView × List (ℕ × Unit {0})). m.0) c.join_seat.ensures.2 in
    let is = e.view ∙ ap (see_chunk 0 c.look_chunk.result) joined in
    pass_met c.self.inside.table.now c.self.inside.place c.self.inside.stock c.self.invariant u c.look_chunk.new.place c.look_chunk.result c.other.invariant.empty e.own.0 e.own.1 e.possible is

pub returns : goal.returns
returns c =
    let t = c.self.inside.table.now in
    let o = c.other.inside.table.now in
    let v : PassView = c.self.inside.place.me.0 in
    let u : PassView = c.other.inside.place.me.0 in
    let w : PassView = c.look_chunk.new.place.me.0 in
    let e = c.look_chunk.ensures in
    let joined = ap (λ (m : PassView × List (ℕ × Unit {0})). m.0) c.join_seat.ensures.2 in
    let is = e.view ∙ ap (see_chunk 0 c.look_chunk.result) joined in
    let same = one (record { names = t.names; layout = t.layout; view = v }) (record { names = o.names; layout = o.layout; view = u }) _ _ c.self.invariant.shape c.other.invariant.shape c.self.view_is c.other.view_is c.requires.table in
    let names : o.names ≡ t.names = same.0 in
    let layout : o.layout ≡ t.layout = same.1 in
    let possible : IsViewOf t.layout u = subst (λ (L : Layout). IsViewOf L u) layout c.other.invariant.seated.possible in
    let met = meets t.names t.layout v u w 0 c.look_chunk.result is c.self.invariant.shape c.self.invariant.seated.possible possible e.possible in
    let new : PassValue = record { names = t.names; layout = t.layout; view = w } in
    let old : PassValue = record { names = t.names; layout = t.layout; view = v } in
    let of_table : HasMet old (record { names = o.names; layout = o.layout; view = u }) new = subst (λ (x : List ℕ × Layout). HasMet old (record { names = x.0; layout = x.1; view = u }) new) (λ i. (sym names i, sym layout i)) met in
    let of_other : HasMet old c.args.other new = subst (λ (q : PassValue). HasMet old q new) c.other.view_is of_table in
    record {
      met = subst (λ (p : PassValue). HasMet p c.args.other new) c.self.view_is of_other;
      sound = sound t.names t.layout w c.self.invariant.shape e.possible (live_met t.names t.layout v u w 0 c.look_chunk.result is) (empty_met t.names t.layout v u w 0 c.look_chunk.result is c.self.invariant.empty c.other.invariant.empty);
    }
