-- The rule is kept where a pass only learns: loads, and exchanges that fail.
use Rattle.std.proofs.Common.{◌≡◌, ℕ, zero, suc, ◌-◌, ◌<◌, ◌≤◌, List, [], ◌∷◌, set, slice_get, Some, true, false, true≢false, Bool, refl, sym, ◌∙◌, ⊎_elim, arith}
use Rattle.table_rule.specs.Counts.{IsIn}
use Rattle.table_rule.specs.Rule.{Holds, IsPlaced, Agrees, Rule}
use Rattle.table_rule.specs.Steps.{IsMet}
use Rattle.table_rule.specs.Views.{see, read, know, see_chunk}
use Rattle.table_rule.specs.Words.{chunks, bucket, cell_word, chunk_word, body}
use Rattle.table_rule.specs.declared.layout.Layout.{Layout}
use Rattle.table_rule.specs.declared.view.PassView.{PassView}
use Rattle.table_rule.proofs.Lists.{each_in, each-append, in_left}
use Rattle.table_rule.proofs.ViewLaws.{learns}

not_both : (b : Bool) → b ≡ false → b ≡ true → ⊥
not_both b f t = true≢false (sym t ∙ f)

module _ (L : Layout) (words : List ℕ) (views : List PassView) (p : ℕ) (v : PassView) (r : Rule L words views) (at : slice_get views p ≡ Some v) (live : v.ended ≡ false) where
  a : Agrees L words v
  a = r.agree p v at

  saw : (b n : ℕ) → b < L.buckets → bucket L words b ≡ n → Rule L words (set views p (see b n v))
  saw b zero few is = learns L words views p v v at (record { made = refl; held = refl; gone = refl; tokens = refl; joined = refl; forked = refl; ended = refl }) (r.agree p v at) (λ id node k. k) r
  saw b (suc n) few is =
      let w : PassView = see b (suc n) v in
      let o = r.agree p v at in
      learns L words views p v w at
      (record { made = refl; held = refl; gone = refl; tokens = refl; joined = refl; forked = refl; ended = refl })
      (record {
        seen = ((few, omega arith, is), o.seen);
        words_read = o.words_read;
        known = o.known;
        made = o.made;
        held = o.held;
        gone = o.gone;
        draft = o.draft;
        taken = o.taken;
        ended = λ e. absurd (not_both v.ended live e);
      })
      (λ id node k. k)
      r

  pub saw_bucket : (b : ℕ) → b < L.buckets → Rule L words (set views p (see b (bucket L words b) v))
  saw_bucket b few = saw b (bucket L words b) few refl

  -- an id that was met stands in a bucket
  pub met_placed : (id : ℕ) → IsMet v id → IsPlaced L words id
  met_placed id met =
      let o = r.agree p v at in
      ⊎_elim
      (λ (s : (b : ℕ) × IsIn v.seen (b, id)). (s.0, each_in (λ x. Holds L words x.0 x.1) v.seen (s.0, id) o.seen s.1))
      (λ (k : (node : List ℕ) × IsIn v.known (id, node)). (each_in (λ x. IsPlaced L words x.0 × (body L words x.0 ≡ x.1)) v.known (id, k.0) o.known k.1).0)
      met

  pub read_word : (id i : ℕ) → i < 8 → IsMet v id → Rule L words (set views p (read id i (cell_word L words (id - 1) i) v))
  read_word id i few met =
      let w : PassView = read id i (cell_word L words (id - 1) i) v in
      let o = r.agree p v at in
      learns L words views p v w at
      (record { made = refl; held = refl; gone = refl; tokens = refl; joined = refl; forked = refl; ended = refl })
      (record {
        seen = o.seen;
        words_read = ((met_placed id met, few, refl), o.words_read);
        known = o.known;
        made = o.made;
        held = o.held;
        gone = o.gone;
        draft = o.draft;
        taken = o.taken;
        ended = λ e. absurd (not_both v.ended live e);
      })
      (λ other node k. k)
      r

  pub read_last_word : (id i : ℕ) → i < 8 → IsMet v id → Rule L words (set views p (know id (body L words id) (read id i (cell_word L words (id - 1) i) v)))
  read_last_word id i few met =
      let w : PassView = know id (body L words id) (read id i (cell_word L words (id - 1) i) v) in
      let o = r.agree p v at in
      let placed = met_placed id met in
      learns L words views p v w at
      (record { made = refl; held = refl; gone = refl; tokens = refl; joined = refl; forked = refl; ended = refl })
      (record {
        seen = o.seen;
        words_read = ((placed, few, refl), o.words_read);
        known = each-append (λ x. IsPlaced L words x.0 × (body L words x.0 ≡ x.1)) v.known ((id, body L words id) ∷ []) o.known ((placed, refl), tt);
        made = o.made;
        held = o.held;
        gone = o.gone;
        draft = o.draft;
        taken = o.taken;
        ended = λ e. absurd (not_both v.ended live e);
      })
      (λ other node k. in_left v.known ((id, body L words id) ∷ []) (other, node) k)
      r

  saw_chunk_word : (h n : ℕ) → h < chunks L → chunk_word L words h ≡ n → n ≤ 1 → Rule L words (set views p (see_chunk h n v))
  saw_chunk_word h zero few is flag = learns L words views p v v at (record { made = refl; held = refl; gone = refl; tokens = refl; joined = refl; forked = refl; ended = refl }) (r.agree p v at) (λ id node k. k) r
  saw_chunk_word h (suc n) few is flag =
      let w : PassView = see_chunk h (suc n) v in
      let o = r.agree p v at in
      learns L words views p v w at
      (record { made = refl; held = refl; gone = refl; tokens = refl; joined = refl; forked = refl; ended = refl })
      (record {
        seen = o.seen;
        words_read = o.words_read;
        known = o.known;
        made = o.made;
        held = o.held;
        gone = o.gone;
        draft = o.draft;
        taken = ((few, omega arith), o.taken);
        ended = λ e. absurd (not_both v.ended live e);
      })
      (λ id node k. k)
      r

  pub saw_chunk : (h : ℕ) → h < chunks L → Rule L words (set views p (see_chunk h (chunk_word L words h) v))
  saw_chunk h few = saw_chunk_word h (chunk_word L words h) few refl (r.cells.flags h few)
