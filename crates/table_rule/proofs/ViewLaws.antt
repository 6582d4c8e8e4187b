-- What stays where one view is replaced, and what a view keeps where the words change.
use Rattle.std.proofs.Common.{◌≡◌, ◌≢◌, ℕ, ◌+◌, ◌-◌, ◌*◌, ◌<◌, ◌≤◌, List, [], ◌∷◌, length, set, slice_get, Some, true, false, true≢false, refl, sym, ap, subst, ◌∙◌, inl, ⊎_elim, arith}
use Rattle.std.proofs.Math.Nat.{div-lt_iff_lt-mul}
use Rattle.std.proofs.lemmas.Bool.{cases_eq}
use Rattle.std.proofs.lemmas.Option.{same_Some}
use Rattle.std.specs.List.{AllByRecursion as Each}
use Rattle.std.specs.Prelude.{slice_index}
use Rattle.table_rule.specs.Counts.{times, holders, total, IsIn}
use Rattle.table_rule.specs.Rule.{EachView, spare, Holds, IsPlaced, CellsStandOnce, DraftAgrees, Agrees, IdsAreMadeOnce, CellsAreFew, TokensAreGathered, Rule}
use Rattle.table_rule.specs.Words.{IsLayout, chunks, chunk_of, bucket, cell_word, chunk_word, body}
use Rattle.table_rule.specs.declared.layout.Layout.{Layout}
use Rattle.table_rule.specs.declared.view.PassView.{PassView}
use Rattle.table_rule.proofs.Lists.{times_is_in, each_in, each_weaker, get_set, get_set_here, get_set_else, total_set, le_total, some_holder}
use Rattle.table_rule.proofs.WordLaws.{same_eight}

pub each_set : (P Q : PassView → Type 0) (views : List PassView) (p : ℕ) (w : PassView) → ((q : ℕ) (u : PassView) → q ≢ p → slice_get views q ≡ Some u → Q u) → Q w → EachView Q (set views p w)
each_set P Q views p w others mine q u e =
    ⊎_elim
    (λ (here : (q ≡ p) × (w ≡ u)). subst Q here.1 mine)
    (λ (there : (q ≢ p) × (slice_get views q ≡ Some u)). others q u there.0 there.1)
    (get_set views p q w u e)

module _ (L : Layout) where
  -- the cells stay where the pass has them still
  pub cells_set : (words : List ℕ) (views : List PassView) (p : ℕ) (v w : PassView) → slice_get views p ≡ Some v → ((c : ℕ) → spare c w ≡ spare c v) → CellsStandOnce L words views → CellsStandOnce L words (set views p w)
  cells_set words views p v w at same h = record {
    flags = h.flags;
    cells = λ c few. omega (arith, total_set (spare c) views p v w at, same c, h.cells c few);
  }

  pub made_set : (words : List ℕ) (views : List PassView) (p : ℕ) (v w : PassView) → slice_get views p ≡ Some v → w.made ≡ v.made → Each (λ id. (node : List ℕ) × IsIn w.known (id, node)) w.made → IdsAreMadeOnce L words views → IdsAreMadeOnce L words (set views p w)
  made_set words views p v w at same known h = record {
    once = λ id some. omega (arith, total_set (λ (u : PassView). times id u.made) views p v w at, ap (times id) same, h.once id some);
    known = each_set (λ u. Each (λ id. (node : List ℕ) × IsIn u.known (id, node)) u.made) (λ u. Each (λ id. (node : List ℕ) × IsIn u.known (id, node)) u.made) views p w (λ q u _ e. h.known q u e) known;
  }

  pub few_set : (views : List PassView) (p : ℕ) (w : PassView) → (length w.held ≤ L.chunk) × (length w.gone ≤ L.chunk * w.joined) → CellsAreFew L views → CellsAreFew L (set views p w)
  few_set views p w mine h = each_set (λ u. (length u.held ≤ L.chunk) × (length u.gone ≤ L.chunk * u.joined)) (λ u. (length u.held ≤ L.chunk) × (length u.gone ≤ L.chunk * u.joined)) views p w (λ q u _ e. h q u e) mine

  -- the tokens stay with the pass
  pub tokens_set : (views : List PassView) (p : ℕ) (v w : PassView) → slice_get views p ≡ Some v → w.tokens ≡ v.tokens → w.joined ≡ v.joined → w.forked ≡ v.forked → w.ended ≡ v.ended → TokensAreGathered L views → TokensAreGathered L (set views p w)
  tokens_set views p v w at tokens joined forked ended h =
      let P1 : PassView → Type 0 = λ u. Each (λ t. t < L.tokens) u.tokens in
      let P2 : PassView → Type 0 = λ u. u.ended ≡ false → u.forked ≡ false → u.joined + 1 ≤ length u.tokens in
      let still : (q : ℕ) (u : PassView) → slice_get views q ≡ Some u → u.forked ≡ true → (r : ℕ) × (x : PassView) × (slice_get (set views p w) r ≡ Some x) × (x.forked ≡ true) × (0 < length x.tokens) =
      λ q u e is.
      let s = h.forked q u e is in
      ⊎_elim
      (λ (same : s.0 ≡ p).
      let v_is : s.1 ≡ v = same_Some s.1 v (sym s.2 ∙ ap (slice_get views) same ∙ at) in
      (p, w, get_set_here views p v w at, forked ∙ ap (λ (x : PassView). x.forked) (sym v_is) ∙ s.3, omega (arith, ap (λ (x : PassView). length x.tokens) v_is, ap length tokens, s.4)))
      (λ (apart : s.0 ≢ p). (s.0, s.1, get_set_else views p s.0 w apart ∙ s.2, s.3, s.4))
      (cases_eq s.0 p)
      in record {
        numbers = each_set P1 P1 views p w (λ q u _ e. h.numbers q u e) (subst (Each (λ t. t < L.tokens)) (sym tokens) (h.numbers p v at));
        once = λ t few. omega (arith, total_set (λ (u : PassView). times t u.tokens) views p v w at, ap (times t) tokens, h.once t few);
        enough = each_set P2 P2 views p w (λ q u _ e. h.enough q u e) (λ live never. let m = h.enough p v at (sym ended ∙ live) (sym forked ∙ never) in omega (arith, ap length tokens, joined));
        forked = each_set P2 (λ u. u.forked ≡ true → (r : ℕ) × (x : PassView) × (slice_get (set views p w) r ≡ Some x) × (x.forked ≡ true) × (0 < length x.tokens)) views p w (λ q u _ e. still q u e) (λ is. still p v at (sym forked ∙ is));
      }

  -- what a step keeps of the words
  pub record Kept (words after : List ℕ) : Type 0 where
    pub holds : (b id : ℕ) → Holds L words b id → Holds L after b id
    pub bodies : (id i : ℕ) → IsPlaced L words id → i < 8 → cell_word L after (id - 1) i ≡ cell_word L words (id - 1) i
    pub taken : (h : ℕ) → chunk_word L words h ≡ 1 → chunk_word L after h ≡ 1

  -- the draft of a pass is not written
  abbrev pub DraftKept : List ℕ → List ℕ → PassView → Type 0
  DraftKept words after v = (i : ℕ) → i < 8 → 0 < length v.held → cell_word L after (slice_index v.held 0) i ≡ cell_word L words (slice_index v.held 0) i

  pub placed_kept : (words after : List ℕ) → Kept words after → (id : ℕ) → IsPlaced L words id → IsPlaced L after id
  placed_kept words after k id s = (s.0, k.holds s.0 id s.1)

  pub body_kept : (words after : List ℕ) → Kept words after → (id : ℕ) → IsPlaced L words id → body L after id ≡ body L words id
  body_kept words after k id s = same_eight (cell_word L after (id - 1)) (cell_word L words (id - 1)) (λ i h. k.bodies id i s h)

  pub draft_kept : (words after : List ℕ) (v : PassView) → DraftKept words after v → DraftAgrees L words v.held v.draft → DraftAgrees L after v.held v.draft
  draft_kept words after v same d = record {
    short = d.short;
    some_cell = d.some_cell;
    written = λ i h. let s = d.short in let few : 0 < length v.draft = omega arith in same i (omega arith) (d.some_cell few) ∙ d.written i h;
  }

  pub agrees_kept : (words after : List ℕ) (v : PassView) → Kept words after → DraftKept words after v → Agrees L words v → Agrees L after v
  agrees_kept words after v k same a = record {
    seen = each_weaker (λ s. Holds L words s.0 s.1) (λ s. Holds L after s.0 s.1) (λ s h. k.holds s.0 s.1 h) v.seen a.seen;
    words_read = each_weaker (λ r. IsPlaced L words r.0 × (r.1 < 8) × (cell_word L words (r.0 - 1) r.1 ≡ r.2)) (λ r. IsPlaced L after r.0 × (r.1 < 8) × (cell_word L after (r.0 - 1) r.1 ≡ r.2)) (λ r h. (placed_kept words after k r.0 h.0, h.1, k.bodies r.0 r.1 h.0 h.1 ∙ h.2)) v.words a.words_read;
    known = each_weaker (λ n. IsPlaced L words n.0 × (body L words n.0 ≡ n.1)) (λ n. IsPlaced L after n.0 × (body L after n.0 ≡ n.1)) (λ n h. (placed_kept words after k n.0 h.0, body_kept words after k n.0 h.0 ∙ h.1)) v.known a.known;
    made = each_weaker (IsPlaced L words) (IsPlaced L after) (placed_kept words after k) v.made a.made;
    held = a.held;
    gone = a.gone;
    draft = draft_kept words after v same a.draft;
    taken = each_weaker (λ h. (h < chunks L) × (chunk_word L words h ≡ 1)) (λ h. (h < chunks L) × (chunk_word L after h ≡ 1)) (λ h t. (t.0, k.taken h t.1)) v.taken a.taken;
    ended = a.ended;
  }

  -- all but the draft
  pub undrafted_kept : (words after : List ℕ) (v : PassView) → Kept words after → v.ended ≡ false → Agrees L words v → Agrees L after (record v { draft = [] })
  undrafted_kept words after v k live a =
      let w : PassView = record v { draft = [] } in
      record {
        seen = each_weaker (λ s. Holds L words s.0 s.1) (λ s. Holds L after s.0 s.1) (λ s h. k.holds s.0 s.1 h) v.seen a.seen;
        words_read = each_weaker (λ r. IsPlaced L words r.0 × (r.1 < 8) × (cell_word L words (r.0 - 1) r.1 ≡ r.2)) (λ r. IsPlaced L after r.0 × (r.1 < 8) × (cell_word L after (r.0 - 1) r.1 ≡ r.2)) (λ r h. (placed_kept words after k r.0 h.0, h.1, k.bodies r.0 r.1 h.0 h.1 ∙ h.2)) v.words a.words_read;
        known = each_weaker (λ n. IsPlaced L words n.0 × (body L words n.0 ≡ n.1)) (λ n. IsPlaced L after n.0 × (body L after n.0 ≡ n.1)) (λ n h. (placed_kept words after k n.0 h.0, body_kept words after k n.0 h.0 ∙ h.1)) v.known a.known;
        made = each_weaker (IsPlaced L words) (IsPlaced L after) (placed_kept words after k) v.made a.made;
        held = a.held;
        gone = a.gone;
        draft = record { short = omega arith; some_cell = λ h. absurd (omega arith); written = λ i h. absurd (omega arith) };
        taken = each_weaker (λ h. (h < chunks L) × (chunk_word L words h ≡ 1)) (λ h. (h < chunks L) × (chunk_word L after h ≡ 1)) (λ h t. (t.0, k.taken h t.1)) v.taken a.taken;
        ended = λ e. absurd (true≢false (sym e ∙ live));
      }

  -- A pass learns: the words stay, and what it owns
  pub record HasSame (v w : PassView) : Type 0 where
    pub made : w.made ≡ v.made
    pub held : w.held ≡ v.held
    pub gone : w.gone ≡ v.gone
    pub tokens : w.tokens ≡ v.tokens
    pub joined : w.joined ≡ v.joined
    pub forked : w.forked ≡ v.forked
    pub ended : w.ended ≡ v.ended

  pub learns : (words : List ℕ) (views : List PassView) (p : ℕ) (v w : PassView) → slice_get views p ≡ Some v → HasSame v w → Agrees L words w → ((id : ℕ) (node : List ℕ) → IsIn v.known (id, node) → IsIn w.known (id, node)) → Rule L words views → Rule L words (set views p w)
  learns words views p v w at same agrees knows r =
      let spares : (c : ℕ) → spare c w ≡ spare c v = λ c. omega (arith, ap (times c) same.held, ap (times c) same.gone) in
      let known : Each (λ id. (node : List ℕ) × IsIn w.known (id, node)) w.made = subst (Each (λ id. (node : List ℕ) × IsIn w.known (id, node))) (sym same.made) (each_weaker (λ id. (node : List ℕ) × IsIn v.known (id, node)) (λ id. (node : List ℕ) × IsIn w.known (id, node)) (λ id k. (k.0, knows id k.0 k.1)) v.made (r.made.known p v at)) in
      let few = r.few p v at in
      let more : L.chunk * w.joined ≡ L.chunk * v.joined = ap (λ n. L.chunk * n) same.joined in
      record {
        size = r.size;
        ids = r.ids;
        bodies = r.bodies;
        paths = r.paths;
        cells = cells_set words views p v w at spares r.cells;
        agree = each_set (Agrees L words) (Agrees L words) views p w (λ q u _ e. r.agree q u e) agrees;
        made = made_set words views p v w at same.made known r.made;
        few = few_set views p w (omega (arith, ap length same.held), omega (arith, ap length same.gone)) r.few;
        tokens = tokens_set views p v w at same.tokens same.joined same.forked same.ended r.tokens;
      }

  -- the chunk of a cell
  pub chunk_within : IsLayout L → (c : ℕ) → c < L.cells → chunk_of L c < chunks L
  chunk_within l c h = (div-lt_iff_lt-mul l.some_chunk).1 (omega (arith, l.whole_chunks))

  -- A cell that a pass owns stands in no bucket, and no other pass owns it
  pub spare_once : IsLayout L → (words : List ℕ) (views : List PassView) (p : ℕ) (v : PassView) (c : ℕ) → Rule L words views → slice_get views p ≡ Some v → c < L.cells → 0 < spare c v → (holders (bucket L words) (c + 1) L.buckets ≡ 0) × (total (spare c) views ≡ 1) × (chunk_word L words (chunk_of L c) ≡ 1)
  spare_once l words views p v c r at few some =
      let n = r.cells.cells c few in
      let f = r.cells.flags (chunk_of L c) (chunk_within l c few) in
      let t = le_total (spare c) views p v at in
      (omega arith, omega arith, omega arith)

  pub not_placed : IsLayout L → (words : List ℕ) (views : List PassView) (p : ℕ) (v : PassView) (c : ℕ) → Rule L words views → slice_get views p ≡ Some v → c < L.cells → 0 < spare c v → (b : ℕ) → Holds L words b (c + 1) → ⊥
  not_placed l words views p v c r at few some b h =
      let s = some_holder (bucket L words) (c + 1) L.buckets b h.0 h.2 in
      let o = spare_once l words views p v c r at few some in
      absurd (omega (arith, o.0))

  -- the first cell that a pass holds
  pub first_held : (xs : List ℕ) → 0 < length xs → IsIn xs (slice_index xs 0)
  first_held [] h = absurd (omega arith)
  first_held (x ∷ xs) h = inl refl

  pub draft_cell_within : (words : List ℕ) (v : PassView) → Agrees L words v → 0 < length v.held → slice_index v.held 0 < L.cells
  draft_cell_within words v a some = each_in (λ c. c < L.cells) v.held (slice_index v.held 0) a.held (first_held v.held some)

  pub draft_cell_spare : (v : PassView) → 0 < length v.held → 0 < spare (slice_index v.held 0) v
  draft_cell_spare v some =
      let t = times_is_in (slice_index v.held 0) v.held (first_held v.held some) in omega arith
