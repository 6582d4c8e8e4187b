-- The rule is kept where a pass is split, so that the new one knows the same or gets a token.
use Rattle.std.proofs.Common.{◌≡◌, ◌≢◌, ◌⊎◌, ℕ, ◌+◌, ◌*◌, ◌<◌, ◌≤◌, List, [], ◌∷◌, ◌++◌, length, set, take, drop, slice_get, Some, Bool, true, false, true≢false, refl, sym, ap, subst, ◌∙◌, inl, inr, ⊎_elim, arith}
use Rattle.std.proofs.lemmas.Bool.{cases_lt}
use Rattle.std.proofs.lemmas.Option.{same_Some}
use Rattle.std.specs.List.{AllByRecursion as Each}
use Rattle.table_rule.specs.Counts.{IsIn, times, total}
use Rattle.table_rule.specs.Rule.{EachView, spare, DraftAgrees, Agrees, Rule}
use Rattle.table_rule.specs.Views.{fresh, forked_left, forked_right, dealt_left, dealt_right}
use Rattle.table_rule.specs.declared.layout.Layout.{Layout}
use Rattle.table_rule.specs.declared.view.PassView.{PassView}
use Rattle.table_rule.proofs.Lists.{get_push, get_left, get_set_here, get_set_else, total_set, total_push}
use Rattle.table_rule.proofs.ViewLaws.{each_set}

pub either_truth : (b : Bool) → (b ≡ true) ⊎ (b ≡ false)
either_truth true = inl refl
either_truth false = inr refl

each_push : (P : PassView → Type 0) (views : List PassView) (w : PassView) → EachView P views → P w → EachView P (views ++ w ∷ [])
each_push P views w all mine q u e =
    ⊎_elim (λ (old : slice_get views q ≡ Some u). all q u old) (λ (new : w ≡ u). subst P new mine) (get_push views w u q e)

no_draft : (L : Layout) (words held : List ℕ) → DraftAgrees L words held []
no_draft L words held = record { short = omega arith; some_cell = λ some. absurd (omega arith); written = λ i some. absurd (omega arith) }

-- a pass that knows nothing agrees with the words
pub fresh_agrees : (L : Layout) (words tokens : List ℕ) → Agrees L words (fresh tokens)
fresh_agrees L words tokens = record {
  seen = tt;
  words_read = tt;
  known = tt;
  made = tt;
  held = tt;
  gone = tt;
  draft = no_draft L words [];
  taken = tt;
  ended = λ e. absurd (true≢false (sym e));
}

times-split : (t : ℕ) (xs : List ℕ) → times t (drop 1 xs) + times t (take 1 xs) ≡ times t xs
times-split t [] = refl
times-split t (x ∷ xs) = omega arith

length-split : (xs : List ℕ) → 0 < length xs → (length (take 1 xs) ≡ 1) × (length (drop 1 xs) + 1 ≡ length xs)
length-split [] h = absurd (omega arith)
length-split (x ∷ xs) h = (refl, omega arith)

each_split : (P : ℕ → Type 0) (xs : List ℕ) → Each P xs → Each P (take 1 xs) × Each P (drop 1 xs)
each_split P [] a = (tt, tt)
each_split P (x ∷ xs) a = ((a.0, tt), a.1)

module _ (L : Layout) (words : List ℕ) (views : List PassView) (p : ℕ) (v : PassView) (r : Rule L words views) (at : slice_get views p ≡ Some v) (live : v.ended ≡ false) where
  abbrev IsForkedWithToken : List PassView → Type 0
  IsForkedWithToken vs = (q : ℕ) × (u : PassView) × (slice_get vs q ≡ Some u) × (u.forked ≡ true) × (0 < length u.tokens)

  pub forks : Rule L words (set views p (forked_left v) ++ forked_right v ∷ [])
  forks =
      let left : PassView = forked_left v in
      let right : PassView = forked_right v in
      let set_views : List PassView = set views p left in
      let o = r.agree p v at in
      let few = r.few p v at in
      let sums : (f : PassView → ℕ) → f left ≡ f v → f right ≡ 0 → total f (set_views ++ right ∷ []) ≡ total f views = λ f same none. omega (arith, total_push f set_views right, total_set f views p v left at) in
      let agrees_left : Agrees L words left = record {
        seen = o.seen;
        words_read = o.words_read;
        known = o.known;
        made = o.made;
        held = o.held;
        gone = o.gone;
        draft = o.draft;
        taken = o.taken;
        ended = λ e. absurd (true≢false (sym e ∙ live));
      } in
      let agrees_right : Agrees L words right = record {
        seen = o.seen;
        words_read = o.words_read;
        known = o.known;
        made = tt;
        held = tt;
        gone = tt;
        draft = no_draft L words [];
        taken = o.taken;
        ended = λ e. absurd (true≢false (sym e));
      } in
      let with_token : IsForkedWithToken (set_views ++ right ∷ []) =
      ⊎_elim
      (λ (some : 0 < length v.tokens). (p, left, get_left set_views (right ∷ []) p left (get_set_here views p v left at), refl, some))
      (λ (none : length v.tokens ≤ 0).
      let was : v.forked ≡ true = ⊎_elim (λ (t : v.forked ≡ true). t) (λ (f : v.forked ≡ false). absurd (omega (arith, r.tokens.enough p v at live f))) (either_truth v.forked) in
      let s = r.tokens.forked p v at was in
      let apart : s.0 ≢ p = λ same. let is : s.1 ≡ v = same_Some s.1 v (sym s.2 ∙ ap (slice_get views) same ∙ at) in absurd (omega (arith, ap (λ (x : PassView). length x.tokens) is, s.4)) in
      (s.0, s.1, get_left set_views (right ∷ []) s.0 s.1 (get_set_else views p s.0 left apart ∙ s.2), s.3, s.4))
      (cases_lt 0 (length v.tokens))
      in
      let K : PassView → Type 0 = λ u. Each (λ id. (node : List ℕ) × IsIn u.known (id, node)) u.made in
      let F : PassView → Type 0 = λ u. (length u.held ≤ L.chunk) × (length u.gone ≤ L.chunk * u.joined) in
      let N : PassView → Type 0 = λ u. Each (λ t. t < L.tokens) u.tokens in
      let M : PassView → Type 0 = λ u. u.ended ≡ false → u.forked ≡ false → u.joined + 1 ≤ length u.tokens in
      record {
        size = r.size;
        ids = r.ids;
        bodies = r.bodies;
        paths = r.paths;
        cells = record { flags = r.cells.flags; cells = λ c h. omega (arith, sums (spare c) refl refl, r.cells.cells c h) };
        agree = each_push (Agrees L words) set_views right (each_set (Agrees L words) (Agrees L words) views p left (λ q u _ e. r.agree q u e) agrees_left) agrees_right;
        made = record {
          once = λ id h. sums (λ u. times id u.made) refl refl ∙ r.made.once id h;
          known = each_push K set_views right (each_set K K views p left (λ q u _ e. r.made.known q u e) (r.made.known p v at)) tt;
        };
        few = each_push F set_views right (each_set F F views p left (λ q u _ e. r.few q u e) few) (omega arith, omega arith);
        tokens = record {
          numbers = each_push N set_views right (each_set N N views p left (λ q u _ e. r.tokens.numbers q u e) (r.tokens.numbers p v at)) tt;
          once = λ t h. sums (λ u. times t u.tokens) refl refl ∙ r.tokens.once t h;
          enough = each_push M set_views right (each_set M M views p left (λ q u _ e. r.tokens.enough q u e) (λ _ never. absurd (true≢false never))) (λ _ never. absurd (true≢false never));
          forked = λ q u e is. with_token;
        };
      }

  pub deals : v ≡ fresh v.tokens → 2 ≤ length v.tokens → Rule L words (set views p (dealt_left v) ++ dealt_right v ∷ [])
  deals blank two =
      let left : PassView = dealt_left v in
      let right : PassView = dealt_right v in
      let set_views : List PassView = set views p left in
      let o = r.agree p v at in
      let few = r.few p v at in
      let unforked : v.forked ≡ false = ap (λ (x : PassView). x.forked) blank in
      let unjoined : v.joined ≡ 0 = ap (λ (x : PassView). x.joined) blank in
      let parts = length-split v.tokens (omega arith) in
      let numbers = each_split (λ t. t < L.tokens) v.tokens (r.tokens.numbers p v at) in
      let sums : (f : PassView → ℕ) → f left + f right ≡ f v → total f (set_views ++ right ∷ []) ≡ total f views = λ f same. omega (arith, total_push f set_views right, total_set f views p v left at) in
      let agrees_left : Agrees L words left = record {
        seen = o.seen;
        words_read = o.words_read;
        known = o.known;
        made = o.made;
        held = o.held;
        gone = o.gone;
        draft = o.draft;
        taken = o.taken;
        ended = λ e. absurd (true≢false (sym e ∙ live));
      } in
      let K : PassView → Type 0 = λ u. Each (λ id. (node : List ℕ) × IsIn u.known (id, node)) u.made in
      let F : PassView → Type 0 = λ u. (length u.held ≤ L.chunk) × (length u.gone ≤ L.chunk * u.joined) in
      let N : PassView → Type 0 = λ u. Each (λ t. t < L.tokens) u.tokens in
      let M : PassView → Type 0 = λ u. u.ended ≡ false → u.forked ≡ false → u.joined + 1 ≤ length u.tokens in
      let G : PassView → Type 0 = λ u. u.forked ≡ true → IsForkedWithToken (set_views ++ right ∷ []) in
      record {
        size = r.size;
        ids = r.ids;
        bodies = r.bodies;
        paths = r.paths;
        cells = record { flags = r.cells.flags; cells = λ c h. omega (arith, sums (spare c) (omega arith), r.cells.cells c h) };
        agree = each_push (Agrees L words) set_views right (each_set (Agrees L words) (Agrees L words) views p left (λ q u _ e. r.agree q u e) agrees_left) (fresh_agrees L words (take 1 v.tokens));
        made = record {
          once = λ id h. sums (λ u. times id u.made) (omega arith) ∙ r.made.once id h;
          known = each_push K set_views right (each_set K K views p left (λ q u _ e. r.made.known q u e) (r.made.known p v at)) tt;
        };
        few = each_push F set_views right (each_set F F views p left (λ q u _ e. r.few q u e) few) (omega arith, omega arith);
        tokens = record {
          numbers = each_push N set_views right (each_set N N views p left (λ q u _ e. r.tokens.numbers q u e) numbers.1) numbers.0;
          once = λ t h. sums (λ u. times t u.tokens) (times-split t v.tokens) ∙ r.tokens.once t h;
          enough = each_push M set_views right (each_set M M views p left (λ q u _ e. r.tokens.enough q u e) (λ _ _. omega (arith, parts.1))) (λ _ _. omega (arith, parts.0));
          forked = each_push G set_views right
              (each_set M G views p left
              (λ q u apart e is.
              let s = r.tokens.forked q u e is in
              let other : s.0 ≢ p = λ same. let v_is : s.1 ≡ v = same_Some s.1 v (sym s.2 ∙ ap (slice_get views) same ∙ at) in absurd (true≢false (sym s.3 ∙ ap (λ (x : PassView). x.forked) v_is ∙ unforked)) in
              (s.0, s.1, get_left set_views (right ∷ []) s.0 s.1 (get_set_else views p s.0 left other ∙ s.2), s.3, s.4))
              (λ is. absurd (true≢false (sym is ∙ unforked))))
              (λ is. absurd (true≢false (sym is)));
        };
      }
