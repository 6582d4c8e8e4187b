-- What a pass owns after it tried to take a chunk.
use Rattle.std.proofs.Common.{◌≡◌, ◌≢◌, ℕ, zero, suc, ◌+◌, ◌-◌, ◌*◌, ◌<◌, ◌≤◌, [], true, refl, sym, ap, subst, ◌∙◌, inl, inr, ⊎_elim, arith}
use Rattle.std.proofs.lemmas.Bool.{cases_eq}
use Rattle.std.specs.List.{range_with_len}
use Rattle.table_rule.specs.Counts.{IsIn}
use Rattle.table_rule.specs.PassStore.{is_spent}
use Rattle.table_rule.specs.Views.{take_chunk, see_chunk}
use Rattle.table_rule.specs.Words.{chunks}
use Rattle.table_rule.specs.declared.layout.Layout.{Layout}
use Rattle.table_rule.specs.declared.view.PassView.{PassView}
use Rattle.table_rule.proofs.PassStore.{spends}
use Rattle.unique_table.specs.Exploring.{HasExplored}
use Rattle.unique_table.specs.Stocked.{IsStock}
use Rattle.unique_table.specs.declared.stock.Stock.{Stock}
use Rattle.unique_table.proofs.Exploring.{explored_same}

-- no cell is left
pub none_held : (L : Layout) (v : PassView) (s : Stock) → IsStock L v s → s.end ≤ s.next → v.held ≡ []
none_held L v s h none =
    let e : s.end - s.next ≡ 0 = omega arith in
    h.held ∙ ap (λ (n : ℕ). range_with_len s.next n) e

pub saw_a_chunk : (h n : ℕ) (v : PassView) → HasExplored v (see_chunk h n v)
saw_a_chunk h zero v = explored_same v
saw_a_chunk h (suc n) v = record {
  looked = record { known = refl; made = refl; gone = refl; tokens = refl; joined = refl; forked = refl; ended = refl };
  seen = λ b id there. there;
  words = λ id i word there. there;
}

pub took_a_chunk : (L : Layout) (h : ℕ) (v : PassView) → HasExplored v (take_chunk L h v)
took_a_chunk L h v = record {
  looked = record { known = refl; made = refl; gone = refl; tokens = refl; joined = refl; forked = refl; ended = refl };
  seen = λ b id there. there;
  words = λ id i word there. there;
}

-- a chunk is taken
pub stock_took : (L : Layout) (v w : PassView) (s t : Stock) → L.chunk ≡ 256 → IsStock L v s → s.chunk < chunks L → 256 * s.chunk + 256 ≤ L.cells → w ≡ take_chunk L s.chunk v → t.next ≡ 256 * s.chunk → t.end ≡ 256 * s.chunk + 256 → t.chunk ≡ s.chunk + 1 → IsStock L w t
stock_took L v w s t size h few fits is next end chunk =
    let h' : ℕ = s.chunk in
    let start : h' * L.chunk ≡ t.next = ap (λ (n : ℕ). h' * n) size ∙ (let e : h' * 256 ≡ t.next = omega arith in e) in
    let count : L.chunk ≡ t.end - t.next = size ∙ (let e : 256 ≡ t.end - t.next = omega arith in e) in
    record {
      held = ap (λ (x : PassView). x.held) is ∙ ap (λ (x : ℕ × ℕ). range_with_len x.0 x.1) (λ i. (start i, count i));
      order = omega arith;
      within = omega arith;
      few_chunks = omega arith;
      taken = λ j below.
          ⊎_elim
          (λ (last : j ≡ h'). subst (λ (x : PassView). IsIn x.taken j) (sym is) (inl (sym last)))
          (λ (before : j ≢ h'). subst (λ (x : PassView). IsIn x.taken j) (sym is) (inr (h.taken j (omega arith))))
          (cases_eq j h');
    }

-- a chunk was taken by another
pub stock_lost : (L : Layout) (v w : PassView) (s t : Stock) (n : ℕ) → IsStock L v s → s.chunk < chunks L → 0 < n → w ≡ see_chunk s.chunk n v → t.next ≡ s.next → t.end ≡ s.end → t.chunk ≡ s.chunk + 1 → IsStock L w t
stock_lost L v w s t zero h few some is next end chunk = absurd (omega arith)
stock_lost L v w s t (suc n) h few some is next end chunk =
    record {
      held = ap (λ (x : PassView). x.held) is ∙ h.held ∙ ap (λ (x : ℕ × ℕ). range_with_len x.0 (x.1 - x.0)) (λ i. (sym next i, sym end i));
      order = let o = h.order in omega arith;
      within = let w' = h.within in omega arith;
      few_chunks = omega arith;
      taken = λ j below.
          ⊎_elim
          (λ (last : j ≡ s.chunk). subst (λ (x : PassView). IsIn x.taken j) (sym is) (inl (sym last)))
          (λ (before : j ≢ s.chunk). subst (λ (x : PassView). IsIn x.taken j) (sym is) (inr (h.taken j (omega arith))))
          (cases_eq j s.chunk);
    }

pub stock_spent : (L : Layout) (v : PassView) (s : Stock) → IsStock L v s → s.end ≤ s.next → chunks L ≤ s.chunk → is_spent L v ≡ true
stock_spent L v s h none all = spends L v (none_held L v s h none) (λ j few. h.taken j (omega arith))
