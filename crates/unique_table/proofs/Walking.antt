-- What a step tells the pass that took it.
use Rattle.std.proofs.Common.{◌≡◌, ℕ, zero, suc, ◌+◌, ◌<◌, ◌≤◌, List, [], length, Bool, false, refl, sym, ap, ◌∙◌, arith}
use Rattle.std.proofs.lemmas.Bool.{ne_eqb}
use Rattle.std.specs.Prelude.{slice_index, slice_set, ◌==◌}
use prog.Atomic.{either}
use Rattle.table_rule.specs.Rule.{Rule}
use Rattle.table_rule.specs.Steps.{load_bucket, exchange_bucket, store_word, load_chunk, exchange_chunk, IsCovered, draft_cell, exchanged, chunk_exchanged, put_if_zero}
use Rattle.table_rule.specs.Views.{see, publish, see_chunk, take_chunk}
use Rattle.table_rule.specs.Words.{bucket, bucket_at, word_at, chunk_at, chunk_word, chunks}
use Rattle.table_rule.specs.declared.layout.Layout.{Layout}
use Rattle.table_rule.specs.declared.view.PassView.{PassView}
use Rattle.table_rule.proofs.Passes.{known_placed}
use Rattle.table_rule.proofs.Publishing.{draft_is_new}
use Rattle.table_rule.proofs.WordLaws.{set_same}
use Rattle.unique_table.specs.Taking.{CanTake, HasTaken}
use Rattle.unique_table.specs.Walking.{IsNewBehind}

-- a load of a bucket
pub can_look : (L : Layout) (v : PassView) (word b : ℕ) → v.ended ≡ false → b < L.buckets → CanTake L (λ _. load_bucket b) v word (λ n. n)
can_look L v word b live few = record {
  live = live;
  allowed = λ s p l r at. few;
  leaves = λ s p. sym (set_same s.words word);
  own = λ s p n. refl;
}

-- an id that stands in a bucket is that of a cell
within_cells : (L : Layout) (words : List ℕ) (views : List PassView) (b n : ℕ) → Rule L words views → b < L.buckets → bucket L words b ≡ n → n ≤ L.cells
within_cells L words views b zero r few is = omega arith
within_cells L words views b (suc n) r few is = (r.ids.within b (suc n) (few, omega arith, is)).0

module _ (L : Layout) (v w : PassView) (word b found : ℕ) (few : b < L.buckets) (here : word ≡ 1 + b) (h : HasTaken L (λ _. load_bucket b) v word found w) where
  looked : bucket L h.state.words b ≡ found
  looked = ap (slice_index h.state.words) (sym here) ∙ h.is_found

  pub look_sees : w ≡ see b found v
  look_sees = h.learned ∙ ap (λ (n : ℕ). see b n v) looked

  pub look_within : found ≤ L.cells
  look_within = within_cells L h.state.words h.state.views b found h.ruled few looked

  pub look_is_new : v.ended ≡ false → found ≡ 0 → IsNewBehind L v b
  look_is_new live none node covered id known =
      let r = h.ruled in
      let a = r.agree h.pass v h.stands in
      let placed = known_placed L h.state.words v a id node known in
      draft_is_new L h.layout h.state.words h.state.views h.pass v r h.stands live b (looked ∙ none) node covered placed.0.0 id placed.0.1 placed.1

-- what an exchange from 0 leaves
put_is : (words : List ℕ) (at new n : ℕ) → slice_index words at ≡ n → put_if_zero words at new n ≡ slice_set words at (either (n == 0) new n)
put_is words at new zero is = refl
put_is words at new (suc n) is =
    let not_zero : (suc n == 0) ≡ false = ne_eqb (suc n) 0 (λ e. absurd (omega arith)) in
    sym (ap (λ (b : Bool). slice_set words at (either b new (suc n))) not_zero ∙ ap (slice_set words at) (sym is) ∙ set_same words at)

-- an exchange of a bucket
pub can_publish : (L : Layout) (v : PassView) (b new : ℕ) → v.ended ≡ false → b < L.buckets → length v.draft ≡ 8 → IsCovered L v v.draft b → new ≡ draft_cell v + 1 → CanTake L (λ _. exchange_bucket b) v (bucket_at b) (λ n. either (n == 0) new n)
can_publish L v b new live few full covered is = record {
  live = live;
  allowed = λ s p l r at. (few, full, covered);
  leaves = λ s p. put_is s.words (bucket_at b) (draft_cell v + 1) (slice_index s.words (bucket_at b)) refl ∙ ap (λ (m : ℕ). slice_set s.words (bucket_at b) (either (slice_index s.words (bucket_at b) == 0) m (slice_index s.words (bucket_at b)))) (sym is);
  own = λ s p n. refl;
}

exchanged_zero : (b n : ℕ) (v : PassView) → n ≡ 0 → exchanged b n v ≡ publish b (draft_cell v + 1) v
exchanged_zero b zero v e = refl
exchanged_zero b (suc n) v e = absurd (omega arith)

exchanged_some : (b n : ℕ) (v : PassView) → 0 < n → exchanged b n v ≡ see b n v
exchanged_some b zero v h = absurd (omega arith)
exchanged_some b (suc n) v h = refl

module _ (L : Layout) (v w : PassView) (b found : ℕ) (few : b < L.buckets) (h : HasTaken L (λ _. exchange_bucket b) v (bucket_at b) found w) where
  pub publish_made : (new : ℕ) → new ≡ draft_cell v + 1 → found ≡ 0 → w ≡ publish b new v
  publish_made new is none = h.learned ∙ exchanged_zero b (bucket L h.state.words b) v (h.is_found ∙ none) ∙ ap (λ (n : ℕ). publish b n v) (sym is)

  pub publish_lost : 0 < found → w ≡ see b found v
  publish_lost some =
      let e = h.is_found in
      h.learned ∙ exchanged_some b (bucket L h.state.words b) v (omega arith) ∙ ap (λ (n : ℕ). see b n v) h.is_found

  pub publish_within : found ≤ L.cells
  publish_within = within_cells L h.state.words h.state.views b found h.ruled few h.is_found

-- a store into the draft
pub can_write : (L : Layout) (v : PassView) (i word : ℕ) → v.ended ≡ false → i < 8 → i ≤ length v.draft → 0 < length v.held → CanTake L (λ _. store_word i word) v (word_at L (draft_cell v) i) (λ _. word)
can_write L v i word live few next some = record {
  live = live;
  allowed = λ s p l r at. (few, next, some);
  leaves = λ s p. refl;
  own = λ s p n. refl;
}

-- an exchange of a chunk word
pub can_take_chunk : (L : Layout) (v : PassView) (h : ℕ) → v.ended ≡ false → h < chunks L → v.held ≡ [] → CanTake L (λ _. exchange_chunk h) v (chunk_at L h) (λ n. either (n == 0) 1 n)
can_take_chunk L v h live few none = record {
  live = live;
  allowed = λ s p l r at. (few, none);
  leaves = λ s p. put_is s.words (chunk_at L h) 1 (slice_index s.words (chunk_at L h)) refl;
  own = λ s p n. refl;
}

chunk_zero : (L : Layout) (h n : ℕ) (v : PassView) → n ≡ 0 → chunk_exchanged L h n v ≡ take_chunk L h v
chunk_zero L h zero v e = refl
chunk_zero L h (suc n) v e = absurd (omega arith)

chunk_some : (L : Layout) (h n : ℕ) (v : PassView) → 0 < n → chunk_exchanged L h n v ≡ see_chunk h n v
chunk_some L h zero v s = absurd (omega arith)
chunk_some L h (suc n) v s = refl

module _ (L : Layout) (v w : PassView) (h found : ℕ) (taken : HasTaken L (λ _. exchange_chunk h) v (chunk_at L h) found w) where
  pub chunk_took : found ≡ 0 → w ≡ take_chunk L h v
  chunk_took none = taken.learned ∙ chunk_zero L h (chunk_word L taken.state.words h) v (taken.is_found ∙ none)

  pub chunk_lost : 0 < found → w ≡ see_chunk h found v
  chunk_lost some =
      let e = taken.is_found in
      taken.learned ∙ chunk_some L h (chunk_word L taken.state.words h) v (omega arith) ∙ ap (λ (n : ℕ). see_chunk h n v) taken.is_found

-- a load of a chunk word
pub can_look_chunk : (L : Layout) (v : PassView) (h : ℕ) → v.ended ≡ false → h < chunks L → CanTake L (λ _. load_chunk h) v (chunk_at L h) (λ n. n)
can_look_chunk L v h live few = record {
  live = live;
  allowed = λ s p l r at. few;
  leaves = λ s p. sym (set_same s.words (chunk_at L h));
  own = λ s p n. refl;
}

pub chunk_sees : (L : Layout) (v w : PassView) (h found : ℕ) → HasTaken L (λ _. load_chunk h) v (chunk_at L h) found w → w ≡ see_chunk h found v
chunk_sees L v w h found taken = taken.learned ∙ ap (λ (n : ℕ). see_chunk h n v) taken.is_found
