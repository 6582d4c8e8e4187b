-- What the rule says of a pass: it knows and makes each id once, and a whole pass owns each cell.
use Rattle.std.proofs.Common.{◌≡◌, ◌≢◌, ◌⊎◌, ℕ, zero, suc, ◌+◌, ◌-◌, ◌%◌, ◌<◌, ◌≤◌, List, length, slice_get, Some, true, false, true≢false, refl, sym, ap, ◌∙◌, inl, inr, ⊎_elim, arith}
use Rattle.std.proofs.Math.Nat.{mod-lt, mod-eq_of_lt, add-mod_right}
use Rattle.std.proofs.lemmas.Bool.{cases_eq, cases_lt}
use Rattle.std.proofs.lemmas.Option.{same_Some}
use Rattle.std.specs.Prelude.{slice_index}
use Rattle.record_store.specs.Path.{path_bucket, start_of}
use Rattle.table_rule.specs.Counts.{IsIn, hit, times, holders, total}
use Rattle.table_rule.specs.Laws.{PassesKnowOnce, PassesMakeOnce, IsWhole, WholeIsAlone, OwnsAll, WholePassesOwnAll, BucketsAreLeft}
use Rattle.table_rule.specs.Rule.{spare, IsPlaced, Agrees, Rule}
use Rattle.table_rule.specs.Views.{ended_view}
use Rattle.table_rule.specs.Words.{IsLayout, chunks, chunk_of, bucket, chunk_word, body}
use Rattle.table_rule.specs.declared.layout.Layout.{Layout}
use Rattle.table_rule.specs.declared.view.PassView.{PassView}
use Rattle.table_rule.proofs.Lists.{hit_same, hit_apart, each_in, is_in_times, times_is_in, le_total, two_le_total, total_one}
use Rattle.table_rule.proofs.Splitting.{either_truth}
use Rattle.table_rule.proofs.ViewLaws.{chunk_within, first_held}

module _ (L : Layout) (words : List ℕ) (v : PassView) (a : Agrees L words v) where
  -- an id that is known stands in a bucket, with its body
  pub known_placed : (id : ℕ) (node : List ℕ) → IsIn v.known (id, node) → IsPlaced L words id × (body L words id ≡ node)
  known_placed id node there = each_in (λ k. IsPlaced L words k.0 × (body L words k.0 ≡ k.1)) v.known (id, node) a.known there

pub knows_once : PassesKnowOnce
knows_once L v l h =
    let r = h.ruled in
    let a = r.agree h.pass v h.stands in
    record {
      ids = λ id other node one two.
          let x = known_placed L h.words v a id node one in
          let y = known_placed L h.words v a other node two in
          let same : x.0.0 ≡ y.0.0 = r.bodies x.0.0 y.0.0 id other x.0.1 y.0.1 (x.1 ∙ sym y.1) in
          sym x.0.1.2 ∙ ap (bucket L h.words) same ∙ y.0.1.2;
      bodies = λ id node other one two. sym (known_placed L h.words v a id node one).1 ∙ (known_placed L h.words v a id other two).1;
      within = λ id node one.
          let x = known_placed L h.words v a id node one in
          (x.0.1.1, (r.ids.within x.0.0 id x.0.1).0);
    }

-- an id stands in at most one bucket
holders_few : (L : Layout) → IsLayout L → (words : List ℕ) (views : List PassView) → Rule L words views → (id : ℕ) → 0 < id → id ≤ L.cells → holders (bucket L words) id L.buckets ≤ 1
holders_few L l words views r id some few =
    let within : id - 1 < L.cells = omega arith in
    let cells = r.cells.cells (id - 1) within in
    let flag = r.cells.flags (chunk_of L (id - 1)) (chunk_within L l (id - 1) within) in
    let same : id - 1 + 1 ≡ id = omega arith in
    let e : holders (bucket L words) (id - 1 + 1) L.buckets ≡ holders (bucket L words) id L.buckets = ap (λ (x : ℕ). holders (bucket L words) x L.buckets) same in
    omega arith

pub makes_once : PassesMakeOnce
makes_once L v l h =
    let r = h.ruled in
    let a = r.agree h.pass v h.stands in
    record {
      once = λ id.
          ⊎_elim
          (λ (some : 0 < times id v.made).
          let placed = each_in (IsPlaced L h.words) v.made id a.made (is_in_times id v.made some) in
          let within = r.ids.within placed.0 id placed.1 in
          omega (arith, r.made.once id placed.1.1, le_total (λ (u : PassView). times id u.made) h.views h.pass v h.stands, holders_few L l h.words h.views r id placed.1.1 within.0))
          (λ (none : times id v.made ≤ 0). omega arith)
          (cases_lt 0 (times id v.made));
      known = λ id there. each_in (λ x. (node : List ℕ) × IsIn v.known (x, node)) v.made id (r.made.known h.pass v h.stands) there;
    }

module _ (L : Layout) (words : List ℕ) (views : List PassView) (p : ℕ) (v : PassView) (r : Rule L words views) (at : slice_get views p ≡ Some v) (whole : IsWhole L v) where
  -- no other pass has a token
  no_tokens : (q : ℕ) (u : PassView) → slice_get views q ≡ Some u → q ≢ p → 0 < length u.tokens → ⊥
  no_tokens q u there apart some =
      let t : ℕ = slice_index u.tokens 0 in
      let is : IsIn u.tokens t = first_held L u.tokens some in
      let few : t < L.tokens = each_in (λ x. x < L.tokens) u.tokens t (r.tokens.numbers q u there) is in
      absurd (omega (arith, two_le_total (λ (x : PassView). times t x.tokens) views q p u v apart there at, times_is_in t u.tokens is, times_is_in t v.tokens (whole.tokens t few), r.tokens.once t few))

  pub alone : (q : ℕ) (u : PassView) → slice_get views q ≡ Some u → q ≢ p → u.ended ≡ true
  alone q u there apart =
      ⊎_elim
      (λ (ended : u.ended ≡ true). ended)
      (λ (live : u.ended ≡ false).
      ⊎_elim
      (λ (forked : u.forked ≡ true).
      let s = r.tokens.forked q u there forked in
      ⊎_elim
      (λ (here : s.0 ≡ p).
      let is : s.1 ≡ v = same_Some s.1 v (sym s.2 ∙ ap (slice_get views) here ∙ at) in
      absurd (true≢false (sym s.3 ∙ ap (λ (x : PassView). x.forked) is ∙ whole.unforked)))
      (λ (other : s.0 ≢ p). absurd (no_tokens s.0 s.1 s.2 other s.4))
      (cases_eq s.0 p))
      (λ (never : u.forked ≡ false). absurd (no_tokens q u there apart (omega (arith, r.tokens.enough q u there live never))))
      (either_truth u.forked))
      (either_truth u.ended)

  nothing_else : (f : PassView → ℕ) → f ended_view ≡ 0 → total f views ≡ f v
  nothing_else f none = total_one f views p v at (λ q u apart there. ap f ((r.agree q u there).ended (alone q u there apart)) ∙ none)

  pub owns : IsLayout L → OwnsAll L v
  owns l cell few taken =
      let a = r.agree p v at in
      let flag = (each_in (λ h. (h < chunks L) × (chunk_word L words h ≡ 1)) v.taken (chunk_of L cell) a.taken taken).1 in
      let spares = nothing_else (spare cell) refl in
      let mades = nothing_else (λ (u : PassView). times (cell + 1) u.made) refl in
      let cells = r.cells.cells cell few in
      let made = r.made.once (cell + 1) (omega arith) in
      ⊎_elim
      (λ (held : 0 < times cell v.held). inr (inl (is_in_times cell v.held held)))
      (λ (not_held : times cell v.held ≤ 0).
      ⊎_elim
      (λ (gone : 0 < times cell v.gone). inr (inr (is_in_times cell v.gone gone)))
      (λ (not_gone : times cell v.gone ≤ 0). inl (is_in_times (cell + 1) v.made (omega arith)))
      (cases_lt 0 (times cell v.gone)))
      (cases_lt 0 (times cell v.held))

pub whole_is_alone : WholeIsAlone
whole_is_alone L s p q v u r at there apart whole = alone L s.words s.views p v r at whole q u there apart

pub whole_owns_all : WholePassesOwnAll
whole_owns_all L v l h whole = owns L h.words h.views h.pass v h.ruled h.stands whole l

-- how many of the first n buckets hold an id from 1 to m
counted : (ℕ → ℕ) → ℕ → ℕ → ℕ
counted f zero n = 0
counted f (suc m) n = holders f (suc m) n + counted f m n

counted_few : (f : ℕ → ℕ) (m n : ℕ) → ((x : ℕ) → 0 < x → x ≤ m → holders f x n ≤ 1) → counted f m n ≤ m
unfolding counted
counted_few f zero n few = omega arith
counted_few f (suc m) n few = omega (arith, few (suc m) (omega arith) (omega arith), counted_few f m n (λ x some h. few x some (omega arith)))

-- how many of the numbers from 1 to m are y
hits : ℕ → ℕ → ℕ
hits y zero = 0
hits y (suc m) = hit y (suc m) + hits y m

no_hits : (y m : ℕ) → m < y → hits y m ≡ 0
unfolding hits
no_hits y zero h = refl
no_hits y (suc m) h = omega (arith, hit_apart y (suc m) (λ e. absurd (omega arith)), no_hits y m (omega arith))

one_hit : (y m : ℕ) → 0 < y → y ≤ m → hits y m ≡ 1
unfolding hits
one_hit y zero some h = absurd (omega arith)
one_hit y (suc m) some h =
    ⊎_elim
    (λ (last : y ≡ suc m). omega (arith, hit_same y (suc m) last, no_hits y m (omega arith)))
    (λ (apart : y ≢ suc m). omega (arith, hit_apart y (suc m) apart, one_hit y m some (omega arith)))
    (cases_eq y (suc m))

counted_next : (f : ℕ → ℕ) (m n : ℕ) → counted f m (suc n) ≡ hits (f n) m + counted f m n
unfolding counted hits
counted_next f zero n = refl
counted_next f (suc m) n = omega (arith, counted_next f m n)

none_counted : (f : ℕ → ℕ) (m : ℕ) → counted f m 0 ≡ 0
unfolding counted
none_counted f zero = refl
none_counted f (suc m) = omega (arith, none_counted f m)

all_counted : (f : ℕ → ℕ) (m n : ℕ) → ((b : ℕ) → b < n → (0 < f b) × (f b ≤ m)) → counted f m n ≡ n
all_counted f m zero all = none_counted f m
all_counted f m (suc n) all =
    let last = all n (omega arith) in
    omega (arith, counted_next f m n, one_hit (f n) m last.0 last.1, all_counted f m n (λ b h. all b (omega arith)))

find_empty : (f : ℕ → ℕ) (n : ℕ) → ((b : ℕ) × (b < n) × (f b ≡ 0)) ⊎ ((b : ℕ) → b < n → 0 < f b)
find_empty f zero = inr (λ b h. absurd (omega arith))
find_empty f (suc n) =
    ⊎_elim
    (λ (empty : f n ≡ 0). inl (n, omega arith, empty))
    (λ (taken : f n ≢ 0).
    ⊎_elim
    (λ (s : (b : ℕ) × (b < n) × (f b ≡ 0)). inl (s.0, omega (arith, s.1), s.2))
    (λ (all : (b : ℕ) → b < n → 0 < f b). inr (λ b h. ⊎_elim (λ (last : b ≡ n). omega (arith, ap f last)) (λ (before : b ≢ n). all b (omega arith)) (cases_eq b n)))
    (find_empty f n))
    (cases_eq (f n) 0)

pub buckets_left : BucketsAreLeft
buckets_left L s l r =
    ⊎_elim
    (λ (empty : (b : ℕ) × (b < L.buckets) × (bucket L s.words b ≡ 0)). empty)
    (λ (all : (b : ℕ) → b < L.buckets → 0 < bucket L s.words b).
    let counts = all_counted (bucket L s.words) L.cells L.buckets (λ b h. (all b h, (r.ids.within b (bucket L s.words b) (h, all b h, refl)).0)) in
    let few = counted_few (bucket L s.words) L.cells L.buckets (λ x some h. holders_few L l s.words s.views r x some h) in
    let more = l.more_buckets in
    absurd (omega arith))
    (find_empty (bucket L s.words) L.buckets)

-- from each start there is a distance to each bucket
distance_to : (start n b : ℕ) → start < n → b < n → (d : ℕ) × (d < n) × ((start + d) % n ≡ b)
distance_to start n b within h =
    ⊎_elim
    (λ (below : b < start).
    let e : start + (b + n - start) ≡ b + n = omega arith in
    (b + n - start, omega arith, ap (λ (x : ℕ). x % n) e ∙ add-mod_right b n ∙ mod-eq_of_lt h))
    (λ (above : start ≤ b).
    let e : start + (b - start) ≡ b = omega arith in
    (b - start, omega arith, ap (λ (x : ℕ). x % n) e ∙ mod-eq_of_lt h))
    (cases_lt b start)

-- no path leads round by taken buckets alone
pub path_ends : (L : Layout) → IsLayout L → (words : List ℕ) (views : List PassView) → Rule L words views → (node : List ℕ) → ((d : ℕ) → d < L.buckets → 0 < bucket L words (path_bucket node L.buckets d)) → ⊥
path_ends L l words views r node all =
    let left = buckets_left L (record { words = words; views = views }) l r in
    let more = l.more_buckets in
    let start : start_of node L.buckets < L.buckets = mod-lt _ (omega arith) in
    let there = distance_to (start_of node L.buckets) L.buckets left.0 start left.1 in
    let taken : 0 < bucket L words (path_bucket node L.buckets there.0) = all there.0 there.1 in
    let is : bucket L words (path_bucket node L.buckets there.0) ≡ 0 = ap (bucket L words) there.2 ∙ left.2 in
    absurd (omega arith)
