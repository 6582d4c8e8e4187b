-- The rule is kept where a chunk is taken.
use Rattle.std.proofs.Common.{◌≡◌, ◌≢◌, ℕ, zero, suc, ◌+◌, ◌-◌, ◌*◌, ◌/◌, ◌<◌, ◌≤◌, List, [], length, length-set, set, slice_get, Some, false, true≢false, refl, sym, ap, subst, ◌∙◌, ⊎_elim, arith}
use Rattle.std.proofs.Math.Nat.{div-eq_of_lt-le, div-mul-le_self, lt-div-mul-add, mul-le-mul_right, suc-mul}
use Rattle.std.proofs.lemmas.Bool.{cases_eq, cases_lt}
use Rattle.std.proofs.lemmas.List.FromFn.{length-range_with_len}
use Rattle.std.specs.List.{AllByRecursion as Each, range_with_len}
use Rattle.std.specs.Prelude.{slice_index}
use Rattle.record_store.specs.Path.{path_bucket}
use Rattle.table_rule.specs.Counts.{times, holders}
use Rattle.table_rule.specs.Rule.{spare, Holds, IsPlaced, IsReached, Agrees, Rule}
use Rattle.table_rule.specs.Views.{take_chunk}
use Rattle.table_rule.specs.Words.{IsLayout, chunks, chunk_of, bucket, cell_word, chunk_word, body, chunk_at}
use Rattle.table_rule.specs.declared.layout.Layout.{Layout}
use Rattle.table_rule.specs.declared.view.PassView.{PassView}
use Rattle.table_rule.proofs.Lists.{hit_apart, hit_same, holders_same, total_set}
use Rattle.table_rule.proofs.WordLaws.{same_eight, chunk_set, chunk_kept, bucket_kept_by_chunk, word_kept_by_chunk}
use Rattle.table_rule.proofs.ViewLaws.{each_set, made_set, few_set, tokens_set, Kept, agrees_kept, undrafted_kept, draft_cell_within}
use Rattle.table_rule.proofs.Drafts.{path_within}

-- a row of numbers has each of them once, and no other
pub times_before : (x a n : ℕ) → x < a → times x (range_with_len a n) ≡ 0
times_before x a zero h = refl
times_before x a (suc n) h = omega (arith, hit_apart a x (λ e. absurd (omega arith)), times_before x (a + 1) n (omega arith))

pub times_within : (x a n : ℕ) → a ≤ x → x < a + n → times x (range_with_len a n) ≡ 1
times_within x a zero h k = absurd (omega arith)
times_within x a (suc n) h k =
    ⊎_elim
    (λ (here : a ≡ x). omega (arith, hit_same a x here, times_before x (a + 1) n (omega arith)))
    (λ (apart : a ≢ x). omega (arith, hit_apart a x apart, times_within x (a + 1) n (omega arith) (omega arith)))
    (cases_eq a x)

pub times_behind : (x a n : ℕ) → a + n ≤ x → times x (range_with_len a n) ≡ 0
times_behind x a zero h = refl
times_behind x a (suc n) h = omega (arith, hit_apart a x (λ e. absurd (omega arith)), times_behind x (a + 1) n (omega arith))

pub each_in_range : (P : ℕ → Type 0) (a n : ℕ) → ((x : ℕ) → a ≤ x → x < a + n → P x) → Each P (range_with_len a n)
each_in_range P a zero f = tt
each_in_range P a (suc n) f = (f a (omega arith) (omega arith), each_in_range P (a + 1) n (λ x h k. f x (omega arith) (omega arith)))

module _ (L : Layout) (l : IsLayout L) where
  -- the cells of a chunk
  pub cell_in_chunk : (h c : ℕ) → h * L.chunk ≤ c → c < h * L.chunk + L.chunk → chunk_of L c ≡ h
  cell_in_chunk h c low high = div-eq_of_lt-le {k = h} L.chunk low (omega (arith, suc-mul h L.chunk))

  pub chunk_has_cell : (h c : ℕ) → chunk_of L c ≡ h → (h * L.chunk ≤ c) × (c < h * L.chunk + L.chunk)
  chunk_has_cell h c is =
      let low : c / L.chunk * L.chunk ≤ c = div-mul-le_self c L.chunk in
      let high : c < c / L.chunk * L.chunk + L.chunk = lt-div-mul-add l.some_chunk in
      let same : c / L.chunk * L.chunk ≡ h * L.chunk = ap (λ (n : ℕ). n * L.chunk) is in
      (omega arith, omega arith)

  pub times_in_chunk : (h c : ℕ) → chunk_of L c ≡ h → times c (range_with_len (h * L.chunk) L.chunk) ≡ 1
  times_in_chunk h c is = let k = chunk_has_cell h c is in times_within c (h * L.chunk) L.chunk k.0 k.1

  pub times_in_other_chunk : (h c : ℕ) → chunk_of L c ≢ h → times c (range_with_len (h * L.chunk) L.chunk) ≡ 0
  times_in_other_chunk h c apart =
      ⊎_elim
      (λ (before : c < h * L.chunk). times_before c (h * L.chunk) L.chunk before)
      (λ (not_before : h * L.chunk ≤ c).
      ⊎_elim
      (λ (within : c < h * L.chunk + L.chunk). absurd (apart (cell_in_chunk h c not_before within)))
      (λ (behind : h * L.chunk + L.chunk ≤ c). times_behind c (h * L.chunk) L.chunk behind)
      (cases_lt c (h * L.chunk + L.chunk)))
      (cases_lt c (h * L.chunk))

  -- a chunk ends within the cells
  pub chunk_fits : (h : ℕ) → h < chunks L → h * L.chunk + L.chunk ≤ L.cells
  chunk_fits h few =
      let more : suc h * L.chunk ≤ chunks L * L.chunk = mul-le-mul_right L.chunk few in
      omega (arith, suc-mul h L.chunk, l.whole_chunks)

module _ (L : Layout) (l : IsLayout L) (words : List ℕ) (views : List PassView) (p : ℕ) (v : PassView) (r : Rule L words views) (at : slice_get views p ≡ Some v) (live : v.ended ≡ false) where
  pub chunk_taken : (h : ℕ) → h < chunks L → v.held ≡ [] → chunk_word L words h ≡ 0 → Rule L (set words (chunk_at L h) 1) (set views p (take_chunk L h v))
  chunk_taken h in_table empty free =
      let o = r.agree p v at in
      let after : List ℕ = set words (chunk_at L h) 1 in
      let w : PassView = take_chunk L h v in
      let here : chunk_word L after h ≡ 1 = chunk_set L words r.size h 1 in_table in
      let else : (j : ℕ) → j ≢ h → chunk_word L after j ≡ chunk_word L words j = chunk_kept L words r.size h 1 in_table in
      let buckets : (b : ℕ) → b < L.buckets → bucket L after b ≡ bucket L words b = bucket_kept_by_chunk L words r.size h 1 in_table in
      let cell_words : (c i : ℕ) → c < L.cells → i < 8 → cell_word L after c i ≡ cell_word L words c i = word_kept_by_chunk L words r.size h 1 in_table in
      let in_cells : (id : ℕ) → IsPlaced L words id → id - 1 < L.cells = λ id s. let w' = r.ids.within s.0 id s.1 in let some = s.1.1 in omega arith in
      let holds : (b id : ℕ) → Holds L words b id → Holds L after b id = λ b id s. (s.0, s.1, buckets b s.0 ∙ s.2) in
      let held_before : (b id : ℕ) → Holds L after b id → Holds L words b id = λ b id s. (s.0, s.1, sym (buckets b s.0) ∙ s.2) in
      let still : (j : ℕ) → chunk_word L words j ≡ 1 → chunk_word L after j ≡ 1 = λ j t.
      ⊎_elim (λ (same : j ≡ h). absurd (omega (arith, ap (chunk_word L words) same))) (λ (apart : j ≢ h). else j apart ∙ t) (cases_eq j h)
      in
      let kept : Kept L words after = record {
        holds = holds;
        bodies = λ id i s few. cell_words (id - 1) i (in_cells id s) few;
        taken = still;
      } in
      let bodies : (id : ℕ) → IsPlaced L words id → body L after id ≡ body L words id = λ id s. same_eight (cell_word L after (id - 1)) (cell_word L words (id - 1)) (λ i few. kept.bodies id i s few) in
      let rest = undrafted_kept L words after v kept live o in
      let no_draft : length v.draft ≡ 0 =
      ⊎_elim
      (λ (none : length v.draft ≡ 0). none)
      (λ (some : length v.draft ≢ 0). absurd (omega (arith, o.draft.some_cell (omega arith), ap length empty)))
      (cases_eq (length v.draft) 0)
      in
      let mine : Agrees L after w = record {
        seen = rest.seen;
        words_read = rest.words_read;
        known = rest.known;
        made = rest.made;
        held = each_in_range (λ c. c < L.cells) (h * L.chunk) L.chunk (λ c low high. omega (arith, chunk_fits L l h in_table));
        gone = o.gone;
        draft = record { short = omega arith; some_cell = λ some. absurd (omega arith); written = λ i some. absurd (omega arith) };
        taken = ((in_table, here), rest.taken);
        ended = λ e. absurd (true≢false (sym e ∙ live));
      } in
      let holders_kept : (id : ℕ) → holders (bucket L after) id L.buckets ≡ holders (bucket L words) id L.buckets = λ id. holders_same (bucket L words) (bucket L after) id L.buckets buckets in
      let few = r.few p v at in
      record {
        size = length-set words (chunk_at L h) 1 ∙ r.size;
        ids = record {
          within = λ b id s. let before = r.ids.within b id (held_before b id s) in (before.0, still (chunk_of L (id - 1)) before.1);
          once = λ b d id s t. r.ids.once b d id (held_before b id s) (held_before d id t);
        };
        bodies = λ b d id other s t e.
            let s' = held_before b id s in
            let t' = held_before d other t in
            r.bodies b d id other s' t' (sym (bodies id (b, s')) ∙ e ∙ bodies other (d, t'));
        paths = λ b id s.
            let s' = held_before b id s in
            let reached = r.paths b id s' in
            subst (λ (node : List ℕ). IsReached L after node b) (sym (bodies id (b, s')))
            (record { distance = reached.distance; here = reached.here; taken = λ d k. let t = reached.taken d k in omega (arith, buckets (path_bucket (body L words id) L.buckets d) (path_within L l (body L words id) d)) });
        cells = record {
          flags = λ j few.
              ⊎_elim (λ (same : j ≡ h). omega (arith, ap (chunk_word L after) same)) (λ (apart : j ≢ h). omega (arith, else j apart, r.cells.flags j few)) (cases_eq j h);
          cells = λ c few.
              let views_now = total_set (spare c) views p v w at in
              let none : times c v.held ≡ 0 = ap (times c) empty in
              let before = r.cells.cells c few in
              ⊎_elim
              (λ (same : chunk_of L c ≡ h). omega (arith, holders_kept (c + 1), times_in_chunk L l h c same, ap (chunk_word L after) same, ap (chunk_word L words) same))
              (λ (apart : chunk_of L c ≢ h). omega (arith, holders_kept (c + 1), times_in_other_chunk L l h c apart, else (chunk_of L c) apart))
              (cases_eq (chunk_of L c) h);
        };
        agree = each_set (Agrees L words) (Agrees L after) views p w
            (λ q u apart e.
            let a = r.agree q u e in
            agrees_kept L words after u kept (λ i short has. cell_words (slice_index u.held 0) i (draft_cell_within L words u a has) short) a)
            mine;
        made =
            let m = made_set L words views p v w at refl (r.made.known p v at) r.made in
            record { once = λ id s. m.once id s ∙ sym (holders_kept id); known = m.known };
        few = few_set L views p w (omega (arith, length-range_with_len (h * L.chunk) L.chunk), few.1) r.few;
        tokens = tokens_set L views p v w at refl refl refl refl r.tokens;
      }
