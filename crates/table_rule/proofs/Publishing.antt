-- The rule is kept where a draft is published: no body stands under two ids.
use Rattle.std.proofs.Common.{◌≡◌, ◌≢◌, ◌⊎◌, ℕ, ◌+◌, ◌-◌, ◌<◌, ◌≤◌, List, [], ◌∷◌, length, length-set, set, drop, slice_get, Some, false, true≢false, refl, sym, ap, subst, ◌∙◌, inl, inr, ⊎_elim, arith}
use Rattle.std.proofs.lemmas.Bool.{cases_eq, cases_lt}
use Rattle.std.specs.List.{AllByRecursion as Each}
use Rattle.std.specs.Prelude.{slice_index}
use Rattle.record_store.specs.Path.{path_bucket}
use Rattle.table_rule.specs.Counts.{IsIn, hit, times, holders}
use Rattle.table_rule.specs.Rule.{spare, Holds, IsPlaced, IsReached, Agrees, Rule}
use Rattle.table_rule.specs.Steps.{draft_cell, IsCovered, Differs}
use Rattle.table_rule.specs.Views.{publish}
use Rattle.table_rule.specs.Words.{IsLayout, chunk_of, bucket, cell_word, chunk_word, cell_body, body, bucket_at}
use Rattle.table_rule.specs.declared.layout.Layout.{Layout}
use Rattle.table_rule.specs.declared.view.PassView.{PassView}
use Rattle.table_rule.proofs.Lists.{hit_apart, hit_next, times-append, each_in, each-append, each_weaker, in_left, in_right, holders_set, total_set}
use Rattle.table_rule.proofs.WordLaws.{get_eight, same_eight, eight_of, bucket_set, bucket_kept, word_kept_by_bucket, chunk_kept_by_bucket}
use Rattle.table_rule.proofs.ViewLaws.{each_set, few_set, tokens_set, Kept, agrees_kept, undrafted_kept, spare_once, not_placed, draft_cell_within, draft_cell_spare}

-- the first of a list, and the others
pub times_first : (c : ℕ) (xs : List ℕ) → 0 < length xs → times c xs ≡ hit (slice_index xs 0) c + times c (drop 1 xs)
times_first c [] h = absurd (omega arith)
times_first c (x ∷ xs) h = refl

each_drop : (P : ℕ → Type 0) (xs : List ℕ) → Each P xs → Each P (drop 1 xs)
each_drop P [] a = tt
each_drop P (x ∷ xs) a = a.1

length_drop : (xs : List ℕ) → length (drop 1 xs) ≤ length xs
length_drop [] = omega arith
length_drop (x ∷ xs) = omega arith

module _ (L : Layout) (words : List ℕ) (v : PassView) (o : Agrees L words v) where
  -- a draft of eight words is the body of its cell
  pub drafted : length v.draft ≡ 8 → cell_body L words (draft_cell v) ≡ v.draft
  drafted full =
      same_eight (cell_word L words (draft_cell v)) (slice_index v.draft) (λ i h. o.draft.written i (omega arith)) ∙ eight_of v.draft full

  -- where a bucket was seen with a body that differs, it holds an id of another body
  pub differs_from : (node : List ℕ) (b : ℕ) → Differs v node b → (id : ℕ) × Holds L words b id × (body L words id ≡ node → ⊥)
  differs_from node b d =
      let holds : Holds L words b d.0 = each_in (λ s. Holds L words s.0 s.1) v.seen (b, d.0) o.seen d.3 in
      let word : IsPlaced L words d.0 × (d.1 < 8) × (cell_word L words (d.0 - 1) d.1 ≡ d.2) = each_in (λ r. IsPlaced L words r.0 × (r.1 < 8) × (cell_word L words (r.0 - 1) r.1 ≡ r.2)) v.words (d.0, d.1, d.2) o.words_read d.4 in
      (d.0, holds, λ same. d.5 (sym word.2 ∙ sym (get_eight (cell_word L words (d.0 - 1)) d.1 word.1) ∙ ap (λ (n : List ℕ). slice_index n d.1) same))

module _ (L : Layout) (l : IsLayout L) (words : List ℕ) (views : List PassView) (p : ℕ) (v : PassView) (r : Rule L words views) (at : slice_get views p ≡ Some v) (live : v.ended ≡ false) where
  -- The body of the draft stands in no bucket: it would stand before this one, where the view has read other bodies, or
  -- behind it, and this one would be taken
  pub draft_is_new : (b : ℕ) → bucket L words b ≡ 0 → (node : List ℕ) → IsCovered L v node b → (d id : ℕ) → Holds L words d id → body L words id ≡ node → ⊥
  draft_is_new b empty node covered d id h same =
      let o = r.agree p v at in
      let reached : IsReached L words node d = subst (λ (n : List ℕ). IsReached L words n d) same (r.paths d id h) in
      ⊎_elim
      (λ (before : reached.distance < covered.distance).
      let other = differs_from L words v o node (path_bucket node L.buckets reached.distance) (covered.passed reached.distance before) in
      let is : other.0 ≡ id = sym other.1.2 ∙ ap (bucket L words) reached.here ∙ h.2 in
      other.2 (ap (body L words) is ∙ same))
      (λ (not_before : covered.distance ≤ reached.distance).
      ⊎_elim
      (λ (behind : covered.distance < reached.distance).
      let taken = reached.taken covered.distance behind in
      let none : bucket L words (path_bucket node L.buckets covered.distance) ≡ 0 = ap (bucket L words) covered.here ∙ empty in
      absurd (omega arith))
      (λ (not_behind : reached.distance ≤ covered.distance).
      let is : reached.distance ≡ covered.distance = omega arith in
      let here : d ≡ b = sym reached.here ∙ ap (path_bucket node L.buckets) is ∙ covered.here in
      let none : id ≡ 0 = sym h.2 ∙ ap (bucket L words) here ∙ empty in
      let some = h.1 in
      absurd (omega arith))
      (cases_lt covered.distance reached.distance))
      (cases_lt reached.distance covered.distance)

  pub published : (b : ℕ) → b < L.buckets → length v.draft ≡ 8 → IsCovered L v v.draft b → bucket L words b ≡ 0 → Rule L (set words (bucket_at b) (draft_cell v + 1)) (set views p (publish b (draft_cell v + 1) v))
  published b in_table full covered empty =
      let c : ℕ = draft_cell v in
      let id : ℕ = c + 1 in
      let o = r.agree p v at in
      let after : List ℕ = set words (bucket_at b) id in
      let w : PassView = publish b id v in
      let some : 0 < length v.held = o.draft.some_cell (omega arith) in
      let within : c < L.cells = draft_cell_within L words v o some in
      let owned : 0 < spare c v = draft_cell_spare L v some in
      let once = spare_once L l words views p v c r at within owned in
      let absent : (d : ℕ) → Holds L words d id → ⊥ = not_placed L l words views p v c r at within owned in
      let here : bucket L after b ≡ id = bucket_set L words r.size b id in_table in
      let else : (d : ℕ) → d ≢ b → bucket L after d ≡ bucket L words d = bucket_kept L words r.size b id in_table in
      let cell_words : (d i : ℕ) → cell_word L after d i ≡ cell_word L words d i = word_kept_by_bucket L words r.size b id in_table in
      let flags : (h : ℕ) → chunk_word L after h ≡ chunk_word L words h = chunk_kept_by_bucket L words r.size b id in_table in
      let bodies : (other : ℕ) → body L after other ≡ body L words other = λ other. same_eight (cell_word L after (other - 1)) (cell_word L words (other - 1)) (λ i h. cell_words (other - 1) i) in
      let its_body : body L words id ≡ v.draft = ap (cell_body L words) (let e : id - 1 ≡ c = omega arith in e) ∙ drafted L words v o full in
      let not_here : (d other : ℕ) → Holds L words d other → d ≢ b = λ d other h same. let s = h.1 in let e : other ≡ 0 = sym h.2 ∙ ap (bucket L words) same ∙ empty in absurd (omega arith) in
      let holds : (d other : ℕ) → Holds L words d other → Holds L after d other = λ d other h. (h.0, h.1, else d (not_here d other h) ∙ h.2) in
      let holds_new : Holds L after b id = (in_table, omega arith, here) in
      let held_before : (d other : ℕ) → Holds L after d other → ((d ≡ b) × (other ≡ id)) ⊎ Holds L words d other = λ d other h.
      ⊎_elim
      (λ (same : d ≡ b). inl (same, sym h.2 ∙ ap (bucket L after) same ∙ here))
      (λ (apart : d ≢ b). inr (h.0, h.1, sym (else d apart) ∙ h.2))
      (cases_eq d b)
      in
      let still_taken : (d : ℕ) → 0 < bucket L words d → 0 < bucket L after d = λ d h.
      ⊎_elim (λ (same : d ≡ b). omega (arith, ap (bucket L words) same)) (λ (apart : d ≢ b). omega (arith, else d apart)) (cases_eq d b)
      in
      let kept : Kept L words after = record {
        holds = holds;
        bodies = λ other i s short. cell_words (other - 1) i;
        taken = λ h t. flags h ∙ t;
      } in
      let unheard : (d other : ℕ) → Holds L words d other → body L words other ≡ v.draft → ⊥ = draft_is_new b empty v.draft covered in
      let rest = undrafted_kept L words after v kept live o in
      let mine : Agrees L after w = record {
        seen = (holds_new, rest.seen);
        words_read = rest.words_read;
        known = each-append (λ n. IsPlaced L after n.0 × (body L after n.0 ≡ n.1)) v.known ((id, v.draft) ∷ []) rest.known (((b, holds_new), bodies id ∙ its_body), tt);
        made = each-append (IsPlaced L after) v.made (id ∷ []) rest.made ((b, holds_new), tt);
        held = each_drop (λ x. x < L.cells) v.held o.held;
        gone = o.gone;
        draft = record { short = omega arith; some_cell = λ h. absurd (omega arith); written = λ i h. absurd (omega arith) };
        taken = rest.taken;
        ended = λ e. absurd (true≢false (sym e ∙ live));
      } in
      let holders_now : (other : ℕ) → 0 < other → holders (bucket L after) other L.buckets ≡ holders (bucket L words) other L.buckets + hit id other = λ other h.
      let none : hit (bucket L words b) other ≡ 0 = hit_apart (bucket L words b) other (λ e. absurd (omega arith)) in
      omega (arith, holders_set (bucket L words) (bucket L after) other L.buckets b id in_table here (λ d k apart. else d apart))
      in
      let few = r.few p v at in
      record {
        size = length-set words (bucket_at b) id ∙ r.size;
        ids = record {
          within = λ d other h.
              ⊎_elim
              (λ (new : (d ≡ b) × (other ≡ id)).
              let e : other - 1 ≡ c = let n = new.1 in omega arith in
              (omega (arith, new.1), flags (chunk_of L (other - 1)) ∙ ap (λ (x : ℕ). chunk_word L words (chunk_of L x)) e ∙ once.2))
              (λ (old : Holds L words d other). let before = r.ids.within d other old in (before.0, flags (chunk_of L (other - 1)) ∙ before.1))
              (held_before d other h);
          once = λ d e other h k.
              ⊎_elim
              (λ (new : (d ≡ b) × (other ≡ id)).
              ⊎_elim
              (λ (new' : (e ≡ b) × (other ≡ id)). new.0 ∙ sym new'.0)
              (λ (old : Holds L words e other). absurd (absent e (subst (Holds L words e) new.1 old)))
              (held_before e other k))
              (λ (old : Holds L words d other).
              ⊎_elim
              (λ (new : (e ≡ b) × (other ≡ id)). absurd (absent d (subst (Holds L words d) new.1 old)))
              (λ (old' : Holds L words e other). r.ids.once d e other old old')
              (held_before e other k))
              (held_before d other h);
        };
        bodies = λ d e x y h k same.
            let same' : body L words x ≡ body L words y = sym (bodies x) ∙ same ∙ bodies y in
            ⊎_elim
            (λ (new : (d ≡ b) × (x ≡ id)).
            ⊎_elim
            (λ (new' : (e ≡ b) × (y ≡ id)). new.0 ∙ sym new'.0)
            (λ (old : Holds L words e y). absurd (unheard e y old (sym same' ∙ ap (body L words) new.1 ∙ its_body)))
            (held_before e y k))
            (λ (old : Holds L words d x).
            ⊎_elim
            (λ (new : (e ≡ b) × (y ≡ id)). absurd (unheard d x old (same' ∙ ap (body L words) new.1 ∙ its_body)))
            (λ (old' : Holds L words e y). r.bodies d e x y old old' same')
            (held_before e y k))
            (held_before d x h);
        paths = λ d other h.
            ⊎_elim
            (λ (new : (d ≡ b) × (other ≡ id)).
            let node : body L after other ≡ v.draft = bodies other ∙ ap (body L words) new.1 ∙ its_body in
            subst (λ (n : List ℕ). IsReached L after n d) (sym node)
            (record {
              distance = covered.distance;
              here = covered.here ∙ sym new.0;
              taken = λ x k.
                  let there = differs_from L words v o v.draft (path_bucket v.draft L.buckets x) (covered.passed x k) in
                  let s = there.1.1 in
                  still_taken (path_bucket v.draft L.buckets x) (omega (arith, there.1.2));
            }))
            (λ (old : Holds L words d other).
            let reached = r.paths d other old in
            subst (λ (n : List ℕ). IsReached L after n d) (sym (bodies other))
            (record { distance = reached.distance; here = reached.here; taken = λ x k. still_taken (path_bucket (body L words other) L.buckets x) (reached.taken x k) }))
            (held_before d other h);
        cells = record {
          flags = λ h k. omega (arith, flags h, r.cells.flags h k);
          cells = λ x k.
              let views_now = total_set (spare x) views p v w at in
              let before = times_first x v.held some in
              let same = hit_next c x in
              omega (arith, flags (chunk_of L x), holders_now (x + 1) (omega arith), r.cells.cells x k);
        };
        agree = each_set (Agrees L words) (Agrees L after) views p w (λ q u apart e. agrees_kept L words after u kept (λ i short has. cell_words (slice_index u.held 0) i) (r.agree q u e)) mine;
        made = record {
          once = λ other s.
              let views_now = total_set (λ (u : PassView). times other u.made) views p v w at in
              let now = times-append other v.made (id ∷ []) in
              omega (arith, holders_now other s, r.made.once other s);
          known = each_set
              (λ u. Each (λ x. (node : List ℕ) × IsIn u.known (x, node)) u.made)
              (λ u. Each (λ x. (node : List ℕ) × IsIn u.known (x, node)) u.made)
              views p w (λ q u _ e. r.made.known q u e)
              (each-append (λ x. (node : List ℕ) × IsIn w.known (x, node)) v.made (id ∷ [])
              (each_weaker (λ x. (node : List ℕ) × IsIn v.known (x, node)) (λ x. (node : List ℕ) × IsIn w.known (x, node)) (λ x k. (k.0, in_left v.known ((id, v.draft) ∷ []) (x, k.0) k.1)) v.made (r.made.known p v at))
              ((v.draft, in_right v.known ((id, v.draft) ∷ []) (id, v.draft) (inl refl)), tt));
        };
        few = few_set L views p w (omega (arith, length_drop v.held), few.1) r.few;
        tokens = tokens_set L views p v w at refl refl refl refl r.tokens;
      }
