-- A pass after a split, and after another met in it.
use Rattle.std.proofs.Common.{◌≡◌, ℕ, ◌*◌, ◌<◌, List, [], refl, sym, ap, subst, ◌∙◌, arith}
use Rattle.atomic_table.specs.declared.shared.Seat.{Seat}
use Rattle.table_rule.specs.Laws.{IsViewOf}
use Rattle.table_rule.specs.Views.{forked_left, forked_right, joined_view, see_chunk}
use Rattle.table_rule.specs.Words.{chunks}
use Rattle.table_rule.specs.declared.layout.Layout.{Layout}
use Rattle.table_rule.specs.declared.view.PassView.{PassView}
use Rattle.unique_table.specs.PassInside.{IsPass}
use Rattle.unique_table.specs.Stocked.{IsStock, StartsEmpty}
use Rattle.unique_table.specs.Values.{names_of, IsShape}
use Rattle.unique_table.specs.declared.stock.Stock.{Stock}
use Rattle.unique_table.specs.declared.table.TableValue.{TableValue}
use Rattle.unique_table.proofs.Passes.{stock_met, live_met, empty_met}
use Rattle.unique_table.proofs.Possible.{forked_possible}

abbrev Place : Type 0
Place = Seat (Unit {0}) PassView

module _ (t : TableValue) (p : Place) (s : Stock) (h : IsPass t p s) where
  pub pass_kept : (q : Place) → q.table_id ≡ p.table_id → q.me ≡ (forked_left p.me.0, p.me.1) → IsPass t q s
  pass_kept q id me =
      let view : q.me.0 ≡ forked_left p.me.0 = ap (λ (m : PassView × List (ℕ × Unit {0})). m.0) me in
      let left : IsStock t.layout (forked_left p.me.0) s = record { held = h.seated.stock.held; order = h.seated.stock.order; within = h.seated.stock.within; few_chunks = h.seated.stock.few_chunks; taken = h.seated.stock.taken } in
      record {
        shape = h.shape;
        seated = record {
          own = (ap names_of id ∙ h.seated.own.0, ap (λ (m : PassView × List (ℕ × Unit {0})). m.1) me ∙ h.seated.own.1);
          live = ap (λ (v : PassView). v.ended) view ∙ h.seated.live;
          possible = subst (IsViewOf t.layout) (sym view) (forked_possible t.layout p.me.0 h.seated.possible h.seated.live).0;
          stock = subst (λ (v : PassView). IsStock t.layout v s) (sym view) left;
        };
        empty = subst StartsEmpty (sym view) h.empty;
      }

  pub pass_split : (q : Place) → q.table_id ≡ p.table_id → q.me ≡ (forked_right p.me.0, []) → IsPass t q (record { next = 0; end = 0; chunk = s.chunk })
  pass_split q id me =
      let view : q.me.0 ≡ forked_right p.me.0 = ap (λ (m : PassView × List (ℕ × Unit {0})). m.0) me in
      let none : Stock = record { next = 0; end = 0; chunk = s.chunk } in
      let right : IsStock t.layout (forked_right p.me.0) none = record { held = refl; order = omega arith; within = omega arith; few_chunks = h.seated.stock.few_chunks; taken = h.seated.stock.taken } in
      record {
        shape = h.shape;
        seated = record {
          own = (ap names_of id ∙ h.seated.own.0, ap (λ (m : PassView × List (ℕ × Unit {0})). m.1) me);
          live = ap (λ (v : PassView). v.ended) view;
          possible = subst (IsViewOf t.layout) (sym view) (forked_possible t.layout p.me.0 h.seated.possible h.seated.live).1;
          stock = subst (λ (v : PassView). IsStock t.layout v none) (sym view) right;
        };
        empty = subst StartsEmpty (sym view) (λ _. (refl, refl));
      }

  pub pass_met : (u : PassView) (q : Place) (n : ℕ) → StartsEmpty u → names_of q.table_id ≡ t.names → q.me.1 ≡ [] → IsViewOf t.layout q.me.0 → q.me.0 ≡ see_chunk 0 n (joined_view p.me.0 u) → IsPass t q s
  pass_met u q n empty names none possible is = record {
    shape = h.shape;
    seated = record {
      own = (names, none);
      live = live_met t.names t.layout p.me.0 u q.me.0 0 n is;
      possible = possible;
      stock = stock_met t.names t.layout p.me.0 u q.me.0 0 n is s h.seated.stock;
    };
    empty = empty_met t.names t.layout p.me.0 u q.me.0 0 n is h.empty empty;
  }

-- a table has a chunk
pub some_chunks : (L : Layout) → IsShape L → 0 < chunks L
some_chunks L h =
    let whole = h.layout.whole_chunks in
    let some = h.layout.some_cells in
    let size = h.chunk in
    let e : chunks L * L.chunk ≡ chunks L * 256 = ap (λ (n : ℕ). chunks L * n) size in
    omega arith
