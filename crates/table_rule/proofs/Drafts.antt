-- The rule is kept where a word is stored into a draft.
use Rattle.std.proofs.Common.{◌≡◌, ◌≢◌, ℕ, zero, suc, ◌+◌, ◌-◌, ◌<◌, ◌≤◌, List, [], ◌∷◌, ◌++◌, length, set, take, slice_get, Some, false, true≢false, refl, sym, ap, subst, ◌∙◌, ⊎_elim, arith, length-set}
use Rattle.std.proofs.Math.Nat.{mod-lt}
use Rattle.std.proofs.lemmas.Bool.{cases_lt}
use Rattle.std.specs.Prelude.{slice_index}
use Rattle.record_store.specs.Path.{path_bucket, start_of}
use Rattle.table_rule.specs.Counts.{holders}
use Rattle.table_rule.specs.Rule.{spare, Holds, IsPlaced, IsReached, DraftAgrees, Agrees, Rule}
use Rattle.table_rule.specs.Steps.{draft_cell}
use Rattle.table_rule.specs.Views.{write}
use Rattle.table_rule.specs.Words.{IsLayout, chunk_of, bucket, cell_word, chunk_word, body, word_at}
use Rattle.table_rule.specs.declared.layout.Layout.{Layout}
use Rattle.table_rule.specs.declared.view.PassView.{PassView}
use Rattle.table_rule.proofs.Lists.{holders_same, two_le_total}
use Rattle.table_rule.proofs.WordLaws.{word_set, word_kept, bucket_kept_by_word, chunk_kept_by_word}
use Rattle.table_rule.proofs.ViewLaws.{each_set, cells_set, made_set, few_set, tokens_set, Kept, agrees_kept, undrafted_kept, body_kept, spare_once, not_placed, draft_cell_within, draft_cell_spare}

-- the words written so far, with one more
pub written_get : (xs : List ℕ) (i j word : ℕ) → i ≤ length xs → j < i → slice_index (take i xs ++ word ∷ []) j ≡ slice_index xs j
written_get xs zero j word h k = absurd (omega arith)
written_get [] (suc i) j word h k = absurd (omega arith)
written_get (x ∷ xs) (suc i) zero word h k = refl
written_get (x ∷ xs) (suc i) (suc j) word h k = written_get xs i j word (omega arith) (omega arith)

pub written_last : (xs : List ℕ) (i word : ℕ) → i ≤ length xs → slice_index (take i xs ++ word ∷ []) i ≡ word
written_last xs zero word h = refl
written_last [] (suc i) word h = absurd (omega arith)
written_last (x ∷ xs) (suc i) word h = written_last xs i word (omega arith)

pub written_length : (xs : List ℕ) (i word : ℕ) → i ≤ length xs → length (take i xs ++ word ∷ []) ≡ i + 1
written_length xs zero word h = refl
written_length [] (suc i) word h = absurd (omega arith)
written_length (x ∷ xs) (suc i) word h = omega (arith, written_length xs i word (omega arith))

pub path_within : (L : Layout) → IsLayout L → (node : List ℕ) (d : ℕ) → path_bucket node L.buckets d < L.buckets
path_within L l node d =
    let some : 0 < L.buckets = let m = l.more_buckets in omega arith in
    mod-lt (start_of node L.buckets + d) some

module _ (L : Layout) (l : IsLayout L) (words : List ℕ) (views : List PassView) (p : ℕ) (v : PassView) (r : Rule L words views) (at : slice_get views p ≡ Some v) (live : v.ended ≡ false) where
  pub stored : (i word : ℕ) → i < 8 → i ≤ length v.draft → 0 < length v.held → Rule L (set words (word_at L (draft_cell v) i) word) (set views p (write i word v))
  stored i word few next some =
      let c : ℕ = draft_cell v in
      let o = r.agree p v at in
      let after : List ℕ = set words (word_at L c i) word in
      let w : PassView = write i word v in
      let within : c < L.cells = draft_cell_within L words v o some in
      let owned : 0 < spare c v = draft_cell_spare L v some in
      let once = spare_once L l words views p v c r at within owned in
      let buckets : (b : ℕ) → b < L.buckets → bucket L after b ≡ bucket L words b = λ b h. bucket_kept_by_word L words r.size c i word within few b h in
      let flags : (h : ℕ) → chunk_word L after h ≡ chunk_word L words h = λ h. chunk_kept_by_word L words r.size c i word within few h in
      let holds : (b id : ℕ) → Holds L words b id → Holds L after b id = λ b id h. (h.0, h.1, buckets b h.0 ∙ h.2) in
      let held_before : (b id : ℕ) → Holds L after b id → Holds L words b id = λ b id h. (h.0, h.1, sym (buckets b h.0) ∙ h.2) in
      let kept : Kept L words after = record {
        holds = holds;
        bodies = λ id j s short. word_kept L words r.size c i word within few (id - 1) j short
            (λ same.
            let some_id = s.1.1 in
            let is : id ≡ c + 1 = omega arith in
            absurd (not_placed L l words views p v c r at within owned s.0 (subst (Holds L words s.0) is s.1)));
        taken = λ h t. flags h ∙ t;
      } in
      let bodies : (id : ℕ) → IsPlaced L words id → body L after id ≡ body L words id = body_kept L words after kept in
      let others : (q : ℕ) (u : PassView) → q ≢ p → slice_get views q ≡ Some u → Agrees L after u = λ q u apart e.
      let a = r.agree q u e in
      agrees_kept L words after u kept
      (λ j short has.
      word_kept L words r.size c i word within few (slice_index u.held 0) j short
      (λ same.
      let theirs : 0 < spare (slice_index u.held 0) u = draft_cell_spare L u has in
      let theirs' : 0 < spare c u = subst (λ (x : ℕ). 0 < spare x u) same theirs in
      let two = two_le_total (spare c) views q p u v apart e at in
      absurd (omega (arith, once.1))))
      a
      in
      let draft : DraftAgrees L after v.held (take i v.draft ++ word ∷ []) =
      let long = written_length v.draft i word next in
      record {
        short = omega arith;
        some_cell = λ _. some;
        written = λ j h.
            ⊎_elim
            (λ (before : j < i).
            word_kept L words r.size c i word within few c j (omega arith) (λ _ e. absurd (omega arith)) ∙ o.draft.written j (omega arith) ∙ sym (written_get v.draft i j word next before))
            (λ (not_before : i ≤ j).
            let last : j ≡ i = omega arith in
            ap (cell_word L after c) last ∙ word_set L words r.size c i word within few ∙ sym (written_last v.draft i word next) ∙ ap (slice_index (take i v.draft ++ word ∷ [])) (sym last))
            (cases_lt j i);
      }
      in
      let rest = undrafted_kept L words after v kept live o in
      let mine : Agrees L after w =
      record {
        seen = rest.seen;
        words_read = rest.words_read;
        known = rest.known;
        made = rest.made;
        held = o.held;
        gone = o.gone;
        draft = draft;
        taken = rest.taken;
        ended = λ e. absurd (true≢false (sym e ∙ live));
      }
      in
      let holders_kept : (id : ℕ) → holders (bucket L after) id L.buckets ≡ holders (bucket L words) id L.buckets = λ id. holders_same (bucket L words) (bucket L after) id L.buckets buckets in
      let few' = r.few p v at in
      record {
        size = length-set words (word_at L c i) word ∙ r.size;
        ids = record {
          within = λ b id h. let before = r.ids.within b id (held_before b id h) in (before.0, flags (chunk_of L (id - 1)) ∙ before.1);
          once = λ b d id h k. r.ids.once b d id (held_before b id h) (held_before d id k);
        };
        bodies = λ b d id other h k e.
            let h' = held_before b id h in
            let k' = held_before d other k in
            r.bodies b d id other h' k' (sym (bodies id (b, h')) ∙ e ∙ bodies other (d, k'));
        paths = λ b id h.
            let h' = held_before b id h in
            let reached = r.paths b id h' in
            subst (λ (node : List ℕ). IsReached L after node b) (sym (bodies id (b, h')))
            (record { distance = reached.distance; here = reached.here; taken = λ d k. let t = reached.taken d k in omega (arith, buckets (path_bucket (body L words id) L.buckets d) (path_within L l (body L words id) d)) });
        cells =
            let set_cells = cells_set L words views p v w at (λ _. refl) r.cells in
            record {
              flags = λ h k. omega (arith, flags h, r.cells.flags h k);
              cells = λ d k. omega (arith, flags (chunk_of L d), holders_kept (d + 1), set_cells.cells d k);
            };
        agree = each_set (Agrees L words) (Agrees L after) views p w others mine;
        made =
            let m = made_set L words views p v w at refl (r.made.known p v at) r.made in
            record { once = λ id s. m.once id s ∙ sym (holders_kept id); known = m.known };
        few = few_set L views p w few' r.few;
        tokens = tokens_set L views p v w at refl refl refl refl r.tokens;
      }
