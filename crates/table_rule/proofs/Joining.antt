-- The rule is kept where a pass meets in another.
use Rattle.std.proofs.Common.{◌≡◌, ◌≢◌, ◌⊎◌, ℕ, ◌+◌, ◌-◌, ◌*◌, ◌<◌, ◌≤◌, List, ◌++◌, length, length-append, set, slice_get, Some, Bool, ◌||◌, true, false, true≢false, refl, sym, ap, ◌∙◌, inl, inr, ⊎_elim, arith}
use Rattle.std.proofs.lemmas.Bool.{cases_eq}
use Rattle.std.proofs.lemmas.Option.{same_Some}
use Rattle.std.specs.List.{AllByRecursion as Each}
use Rattle.table_rule.specs.Counts.{IsIn, times, total}
use Rattle.table_rule.specs.Rule.{EachView, spare, Holds, IsPlaced, Agrees, Rule}
use Rattle.table_rule.specs.Views.{joined_view, ended_view}
use Rattle.table_rule.specs.Words.{chunks, cell_word, chunk_word, body}
use Rattle.table_rule.specs.declared.layout.Layout.{Layout}
use Rattle.table_rule.specs.declared.view.PassView.{PassView}
use Rattle.table_rule.proofs.Lists.{times-append, each-append, each_weaker, in_left, in_right, get_set_here, get_set_else, total_set}
use Rattle.table_rule.proofs.ViewLaws.{each_set}

-- what holds of neither
pub neither : (a b : Bool) → (a || b) ≡ false → (a ≡ false) × (b ≡ false)
neither true b e = absurd (true≢false e)
neither false b e = (refl, e)

one_of : (a b : Bool) → (a || b) ≡ true → (a ≡ true) ⊎ (b ≡ true)
one_of true b e = inl refl
one_of false b e = inr e

or_left : (a b : Bool) → a ≡ true → (a || b) ≡ true
or_left true b e = refl
or_left false b e = absurd (true≢false (sym e))

or_right : (a b : Bool) → b ≡ true → (a || b) ≡ true
or_right true b e = refl
or_right false b e = e

module _ (L : Layout) (words : List ℕ) (views : List PassView) (p : ℕ) (v : PassView) (r : Rule L words views) (at : slice_get views p ≡ Some v) (live : v.ended ≡ false) (q : ℕ) (u : PassView) (apart : q ≢ p) (there : slice_get views q ≡ Some u) (live_too : u.ended ≡ false) where
  abbrev w : PassView
  w = joined_view v u

  abbrev after : List PassView
  after = set (set views p w) q ended_view

  there_still : slice_get (set views p w) q ≡ Some u
  there_still = get_set_else views p q w apart ∙ there

  sums : (f : PassView → ℕ) → f w ≡ f v + f u → f ended_view ≡ 0 → total f after ≡ total f views
  sums f both none = omega (arith, total_set f views p v w at, total_set f (set views p w) q u ended_view there_still)

  each_after : (P : PassView → Type 0) → EachView P views → P w → P ended_view → EachView P after
  each_after P all mine none = each_set P P (set views p w) q ended_view (λ x y n e. each_set P P views p w (λ x' y' _ e'. all x' y' e') mine x y e) none

  w_stands : slice_get after p ≡ Some w
  w_stands = get_set_else (set views p w) q p ended_view (λ e. apart (sym e)) ∙ get_set_here views p v w at

  still_there : (x : ℕ) (y : PassView) → x ≢ p → x ≢ q → slice_get views x ≡ Some y → slice_get after x ≡ Some y
  still_there x y np nq e = get_set_else (set views p w) q x ended_view nq ∙ get_set_else views p x w np ∙ e

  pub joins : Rule L words after
  joins =
      let a = r.agree p v at in
      let b = r.agree q u there in
      let few_v = r.few p v at in
      let few_u = r.few q u there in
      let agrees : Agrees L words w = record {
        seen = each-append (λ s. Holds L words s.0 s.1) v.seen u.seen a.seen b.seen;
        words_read = each-append (λ x. IsPlaced L words x.0 × (x.1 < 8) × (cell_word L words (x.0 - 1) x.1 ≡ x.2)) v.words u.words a.words_read b.words_read;
        known = each-append (λ x. IsPlaced L words x.0 × (body L words x.0 ≡ x.1)) v.known u.known a.known b.known;
        made = each-append (IsPlaced L words) v.made u.made a.made b.made;
        held = a.held;
        gone = each-append (λ c. c < L.cells) (v.gone ++ u.held) u.gone (each-append (λ c. c < L.cells) v.gone u.held a.gone b.held) b.gone;
        draft = a.draft;
        taken = each-append (λ h. (h < chunks L) × (chunk_word L words h ≡ 1)) v.taken u.taken a.taken b.taken;
        ended = λ e. absurd (true≢false (sym e));
      } in
      let nothing : Agrees L words ended_view = record {
        seen = tt;
        words_read = tt;
        known = tt;
        made = tt;
        held = tt;
        gone = tt;
        draft = record { short = omega arith; some_cell = λ some. absurd (omega arith); written = λ i some. absurd (omega arith) };
        taken = tt;
        ended = λ _. refl;
      } in
      let K : PassView → Type 0 = λ x. Each (λ id. (node : List ℕ) × IsIn x.known (id, node)) x.made in
      let F : PassView → Type 0 = λ x. (length x.held ≤ L.chunk) × (length x.gone ≤ L.chunk * x.joined) in
      let N : PassView → Type 0 = λ x. Each (λ t. t < L.tokens) x.tokens in
      let M : PassView → Type 0 = λ x. x.ended ≡ false → x.forked ≡ false → x.joined + 1 ≤ length x.tokens in
      let T : Type 0 = (x : ℕ) × (y : PassView) × (slice_get after x ≡ Some y) × (y.forked ≡ true) × (0 < length y.tokens) in
      let G : PassView → Type 0 = λ y. y.forked ≡ true → T in
      let token : (x : ℕ) (y : PassView) → slice_get views x ≡ Some y → y.forked ≡ true → T = λ x y e is.
      let s = r.tokens.forked x y e is in
      let long = length-append v.tokens u.tokens in
      ⊎_elim
      (λ (here : s.0 ≡ p).
      let v_is : s.1 ≡ v = same_Some s.1 v (sym s.2 ∙ ap (slice_get views) here ∙ at) in
      let some : 0 < length v.tokens = omega (arith, ap (λ (z : PassView). length z.tokens) v_is, s.4) in
      (p, w, w_stands, or_left v.forked u.forked (ap (λ (z : PassView). z.forked) (sym v_is) ∙ s.3), omega arith))
      (λ (not_p : s.0 ≢ p).
      ⊎_elim
      (λ (here : s.0 ≡ q).
      let u_is : s.1 ≡ u = same_Some s.1 u (sym s.2 ∙ ap (slice_get views) here ∙ there) in
      let some : 0 < length u.tokens = omega (arith, ap (λ (z : PassView). length z.tokens) u_is, s.4) in
      (p, w, w_stands, or_right v.forked u.forked (ap (λ (z : PassView). z.forked) (sym u_is) ∙ s.3), omega arith))
      (λ (not_q : s.0 ≢ q). (s.0, s.1, still_there s.0 s.1 not_p not_q s.2, s.3, s.4))
      (cases_eq s.0 q))
      (cases_eq s.0 p)
      in
      record {
        size = r.size;
        ids = r.ids;
        bodies = r.bodies;
        paths = r.paths;
        cells = record {
          flags = r.cells.flags;
          cells = λ c h. omega (arith, sums (spare c) (omega (arith, times-append c (v.gone ++ u.held) u.gone, times-append c v.gone u.held)) refl, r.cells.cells c h);
        };
        agree = each_after (Agrees L words) r.agree agrees nothing;
        made = record {
          once = λ id h. sums (λ x. times id x.made) (times-append id v.made u.made) refl ∙ r.made.once id h;
          known = each_after K r.made.known
              (each-append (λ id. (node : List ℕ) × IsIn w.known (id, node)) v.made u.made
              (each_weaker (λ id. (node : List ℕ) × IsIn v.known (id, node)) (λ id. (node : List ℕ) × IsIn w.known (id, node)) (λ id k. (k.0, in_left v.known u.known (id, k.0) k.1)) v.made (r.made.known p v at))
              (each_weaker (λ id. (node : List ℕ) × IsIn u.known (id, node)) (λ id. (node : List ℕ) × IsIn w.known (id, node)) (λ id k. (k.0, in_right v.known u.known (id, k.0) k.1)) u.made (r.made.known q u there)))
              tt;
        };
        few = each_after F r.few (few_v.0, omega (arith, length-append (v.gone ++ u.held) u.gone, length-append v.gone u.held, few_v.1, few_u.0, few_u.1)) (omega arith, omega arith);
        tokens = record {
          numbers = each_after N r.tokens.numbers (each-append (λ t. t < L.tokens) v.tokens u.tokens (r.tokens.numbers p v at) (r.tokens.numbers q u there)) tt;
          once = λ t h. sums (λ x. times t x.tokens) (times-append t v.tokens u.tokens) refl ∙ r.tokens.once t h;
          enough = each_after M r.tokens.enough
              (λ _ never.
              let n = neither v.forked u.forked never in
              omega (arith, r.tokens.enough p v at live n.0, r.tokens.enough q u there live_too n.1, length-append v.tokens u.tokens))
              (λ never. absurd (true≢false never));
          forked = each_set G G (set views p w) q ended_view
              (λ x y n e. each_set G G views p w (λ x' y' _ e'. token x' y' e') (λ is. ⊎_elim (λ (a_is : v.forked ≡ true). token p v at a_is) (λ (b_is : u.forked ≡ true). token q u there b_is) (one_of v.forked u.forked is)) x y e)
              (λ is. absurd (true≢false (sym is)));
        };
      }
