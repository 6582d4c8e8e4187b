use Rattle.std.proofs.Common.{◌≡◌, ◌≤◌, ℕ, List, length, refl, sym, subst, ap, ◌∙◌, arith}
use Rattle.table_rule.specs.Laws.{IsViewOf}
use Rattle.table_rule.specs.Views.{fresh, dealt_left}
use Rattle.table_rule.specs.declared.layout.Layout.{Layout}
use Rattle.table_rule.specs.declared.view.PassView.{PassView}
use Rattle.unique_table.specs.declared.token.PassValue.{PassValue}
use Rattle.unique_table.specs.declared.table.TableValue.{TableValue}
use Rattle.unique_table.proofs.Possible.{deals_seat, dealt_possible}
use Rattle.unique_table.proofs.Values.{same_names}
use Rattle.unique_table.proofs.token.PassToken.deal.Goals as goal

pub split_seat-place-requires : goal.split_seat-place-requires
split_seat-place-requires c =
    let v : PassView = c.self.inside.place.me.0 in
    let names = ap (λ (p : PassValue). p.names) c.self.view_is ∙ c.requires.own.0 ∙ sym (ap (λ (t : TableValue). t.names) c.table.view_is) in
    let view = ap (λ (p : PassValue). p.view) c.self.view_is in
    let unbegun : v ≡ fresh v.tokens = c.self.invariant.2 in
    let two : 2 ≤ length v.tokens = omega (arith, ap (λ (x : PassView). length x.tokens) view, c.requires.two) in
    let words = c.table.invariant.2 in (
      same_names c.self.inside.place.table_id c.table.inside.table.shared.table_id names,
      omega arith,
      deals_seat c.table.inside.table.shared.key c.self.inside.place.id v unbegun two,
    )

pub invariant_of-self : goal.invariant_of-self
invariant_of-self c =
    let v : PassView = c.self.inside.place.me.0 in
    let view = ap (λ (p : PassValue). p.view) c.self.view_is in
    let unbegun : v ≡ fresh v.tokens = c.self.invariant.2 in
    let two : 2 ≤ length v.tokens = omega (arith, ap (λ (x : PassView). length x.tokens) view, c.requires.two) in
    let e = c.split_seat-place.ensures in
    let both = dealt_possible c.self.inside.layout v c.self.invariant.0 unbegun two in (
      subst (IsViewOf c.self.inside.layout) (ap (λ (m : PassView × List (ℕ × Unit {0})). m.0) (sym e.2)) both.0,
      ap (λ (m : PassView × List (ℕ × Unit {0})). m.1) e.2 ∙ c.self.invariant.1,
      subst (λ (x : PassView). x ≡ fresh x.tokens) (ap (λ (m : PassView × List (ℕ × Unit {0})). m.0) (sym e.2)) (ap dealt_left unbegun),
    )

pub invariant_of-result : goal.invariant_of-result
invariant_of-result c =
    let v : PassView = c.self.inside.place.me.0 in
    let view = ap (λ (p : PassValue). p.view) c.self.view_is in
    let unbegun : v ≡ fresh v.tokens = c.self.invariant.2 in
    let two : 2 ≤ length v.tokens = omega (arith, ap (λ (x : PassView). length x.tokens) view, c.requires.two) in
    let e = c.split_seat-place.ensures in
    let layout : c.self.inside.layout ≡ c.table.inside.layout = ap (λ (p : PassValue). p.layout) c.self.view_is ∙ c.requires.own.1 ∙ sym (ap (λ (t : TableValue). t.layout) c.table.view_is) in
    let both = dealt_possible c.self.inside.layout v c.self.invariant.0 unbegun two in
    let there : IsViewOf c.self.inside.layout c.split_seat-place.result.me.0 = subst (IsViewOf c.self.inside.layout) (ap (λ (m : PassView × List (ℕ × Unit {0})). m.0) (sym e.4)) both.1 in (
      subst (λ (L : Layout). IsViewOf L c.split_seat-place.result.me.0) layout there,
      ap (λ (m : PassView × List (ℕ × Unit {0})). m.1) e.4,
      subst (λ (x : PassView). x ≡ fresh x.tokens) (ap (λ (m : PassView × List (ℕ × Unit {0})). m.0) (sym e.4)) refl,
    )
