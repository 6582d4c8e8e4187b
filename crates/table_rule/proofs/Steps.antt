-- The rule holds of a blank table, and each step keeps it.
use Rattle.std.proofs.Common.{◌≡◌, ◌≢◌, ℕ, zero, suc, ◌+◌, ◌*◌, ◌<◌, ◌≤◌, List, [], ◌∷◌, length, set, slice_get, Option, Some, true, false, true≢false, refl, sym, ap, subst, arith}
use Rattle.std.proofs.lemmas.List.{length-replicate}
use Rattle.std.proofs.lemmas.List.FromFn.{length-range_with_len}
use Rattle.std.proofs.lemmas.Option.{none-some, same_Some}
use Rattle.std.specs.List.{AllByRecursion as Each, range_with_len}
use Rattle.std.specs.Option.{unwrap_or}
use Rattle.std.specs.Prelude.{slice_index, replicate}
use Rattle.table_rule.specs.Counts.{IsIn, holders}
use Rattle.table_rule.specs.Laws.{blank, IsRuled, IsRun, RuleBegins, StepsKeepTheRule, RuleAlwaysHolds}
use Rattle.table_rule.specs.Rule.{EachView, Holds, Agrees, Rule}
use Rattle.table_rule.specs.Steps.{State, Event, load_bucket, exchange_bucket, load_word, store_word, load_chunk, exchange_chunk, fork, deal, join, IsAllowed, IsCovered, words_after, views_after, view_of, exchanged, chunk_exchanged, put_if_zero, draft_cell}
use Rattle.table_rule.specs.Views.{first_view, see, see_chunk, joined_view, ended_view}
use Rattle.table_rule.specs.Words.{IsLayout, chunks, chunk_of, bucket, bucket_at, chunk_at, chunk_word, word_count}
use Rattle.table_rule.specs.declared.layout.Layout.{Layout}
use Rattle.table_rule.specs.declared.view.PassView.{PassView}
use Rattle.table_rule.proofs.Chunks.{times_within, each_in_range, chunk_taken}
use Rattle.table_rule.proofs.Drafts.{stored}
use Rattle.table_rule.proofs.Joining.{joins}
use Rattle.table_rule.proofs.Learning.{saw_bucket, read_word, read_last_word, saw_chunk}
use Rattle.table_rule.proofs.Lists.{hit_apart}
use Rattle.table_rule.proofs.Publishing.{published}
use Rattle.table_rule.proofs.Splitting.{fresh_agrees, forks, deals}

-- a word of a blank table is 0
blank_word : (n i : ℕ) → slice_index (replicate n 0) i ≡ 0
blank_word zero i = refl
blank_word (suc n) zero = refl
blank_word (suc n) (suc i) = blank_word n i

none_hold : (f : ℕ → ℕ) (x n : ℕ) → 0 < x → ((b : ℕ) → f b ≡ 0) → holders f x n ≡ 0
none_hold f x zero some none = refl
none_hold f x (suc n) some none = let e = none n in omega (arith, hit_apart (f n) x (λ h. absurd (omega arith)), none_hold f x n some none)

one_view : (P : PassView → Type 0) (v : PassView) → P v → EachView P (v ∷ [])
one_view P v mine zero u e = subst P (same_Some v u e) mine
one_view P v mine (suc q) u e = absurd (none-some u e)

pub begins : RuleBegins
begins L l =
    let words : List ℕ = replicate (word_count L) 0 in
    let v : PassView = first_view L in
    let empty : (i : ℕ) → slice_index words i ≡ 0 = blank_word (word_count L) in
    let nothing : (b id : ℕ) → Holds L words b id → ⊥ = λ b id h. let some = h.1 in let is = h.2 in let e = empty (bucket_at b) in absurd (omega arith) in
    let has : L.tokens ≡ length v.tokens = sym (length-range_with_len 0 L.tokens) in
    record {
      size = length-replicate (word_count L) 0;
      ids = record { within = λ b id h. absurd (nothing b id h); once = λ b c id h k. absurd (nothing b id h) };
      bodies = λ b c id other h k e. absurd (nothing b id h);
      paths = λ b id h. absurd (nothing b id h);
      cells = record {
        flags = λ h few. omega (arith, empty (chunk_at L h));
        cells = λ c few. omega (arith, empty (chunk_at L (chunk_of L c)), none_hold (bucket L words) (c + 1) L.buckets (omega arith) (λ b. empty (bucket_at b)));
      };
      agree = one_view (Agrees L words) v (fresh_agrees L words (range_with_len 0 L.tokens));
      made = record {
        once = λ id some. omega (arith, none_hold (bucket L words) id L.buckets some (λ b. empty (bucket_at b)));
        known = one_view (λ u. Each (λ id. (node : List ℕ) × IsIn u.known (id, node)) u.made) v tt;
      };
      few = one_view (λ u. (length u.held ≤ L.chunk) × (length u.gone ≤ L.chunk * u.joined)) v (omega arith, omega arith);
      tokens = record {
        numbers = one_view (λ u. Each (λ t. t < L.tokens) u.tokens) v (each_in_range (λ t. t < L.tokens) 0 L.tokens (λ x low high. omega arith));
        once = λ t few. omega (arith, times_within t 0 L.tokens (omega arith) (omega arith));
        enough = one_view (λ u. u.ended ≡ false → u.forked ≡ false → u.joined + 1 ≤ length u.tokens) v (λ _ _. let some = l.some_tokens in omega arith);
        forked = one_view (λ u. u.forked ≡ true → (q : ℕ) × (x : PassView) × (slice_get (v ∷ []) q ≡ Some x) × (x.forked ≡ true) × (0 < length x.tokens)) v (λ is. absurd (true≢false (sym is)));
      };
    }

module _ (L : Layout) (l : IsLayout L) (words : List ℕ) (views : List PassView) (p : ℕ) (v : PassView) (r : Rule L words views) (at : slice_get views p ≡ Some v) (live : v.ended ≡ false) where
  bucket_exchanged : (b n : ℕ) → b < L.buckets → length v.draft ≡ 8 → IsCovered L v v.draft b → bucket L words b ≡ n → Rule L (put_if_zero words (bucket_at b) (draft_cell v + 1) n) (set views p (exchanged b n v))
  bucket_exchanged b zero few full covered is = published L l words views p v r at live b few full covered is
  bucket_exchanged b (suc n) few full covered is = subst (λ (m : ℕ). Rule L words (set views p (see b m v))) is (saw_bucket L words views p v r at live b few)

  chunk_tried : (h n : ℕ) → h < chunks L → v.held ≡ [] → chunk_word L words h ≡ n → Rule L (put_if_zero words (chunk_at L h) 1 n) (set views p (chunk_exchanged L h n v))
  chunk_tried h zero few empty is = chunk_taken L l words views p v r at live h few empty is
  chunk_tried h (suc n) few empty is = subst (λ (m : ℕ). Rule L words (set views p (see_chunk h m v))) is (saw_chunk L words views p v r at live h few)

  met : (q : ℕ) (u : PassView) → q ≢ p → slice_get views q ≡ Some u → u.ended ≡ false → Rule L words (set (set views p (joined_view v (view_of views q))) q ended_view)
  met q u apart there alive =
      let is : view_of views q ≡ u = ap (λ (o : Option PassView). unwrap_or o ended_view) there in
      subst (λ (x : PassView). Rule L words (set (set views p (joined_view v x)) q ended_view)) (sym is) (joins L words views p v r at live q u apart there alive)

  pub stepped : (e : Event) → IsAllowed L (record { words = words; views = views }) p v e → Rule L (words_after L (record { words = words; views = views }) p v e) (views_after L (record { words = words; views = views }) p v e)
  stepped (load_bucket b) h = saw_bucket L words views p v r at live b h
  stepped (exchange_bucket b) h = bucket_exchanged b (bucket L words b) h.0 h.1 h.2 refl
  stepped (load_word id i false) h = read_word L words views p v r at live id i h.0 h.1
  stepped (load_word id i true) h = read_last_word L words views p v r at live id i h.0 h.1
  stepped (store_word i word) h = stored L l words views p v r at live i word h.0 h.1 h.2
  stepped (load_chunk c) h = saw_chunk L words views p v r at live c h
  stepped (exchange_chunk c) h = chunk_tried c (chunk_word L words c) h.0 h.1 refl
  stepped fork h = forks L words views p v r at live
  stepped deal h = deals L words views p v r at live h.0 h.1
  stepped (join q) h = met q h.1 h.0 h.2 h.3

pub keeps : StepsKeepTheRule
keeps L p e s t l r step =
    let after = stepped L l s.words s.views p step.view r step.stands step.live e step.allowed in
    let with_words : Rule L t.words (views_after L s p step.view e) = subst (λ (ws : List ℕ). Rule L ws (views_after L s p step.view e)) (sym step.words) after in
    subst (λ (vs : List PassView). Rule L t.words vs) (sym step.views) with_words

runs : (L : Layout) (steps : List (ℕ × Event)) (s t : State) → IsLayout L → IsRuled L s → IsRun L steps s t → IsRuled L t
runs L [] s t l r run = subst (IsRuled L) run r
runs L (x ∷ xs) s t l r run = runs L xs run.0 t l (keeps L x.0 x.1 s run.0 l r run.1) run.2

pub always : RuleAlwaysHolds
always L steps s l run = runs L steps (blank L) s l (begins L l) run
