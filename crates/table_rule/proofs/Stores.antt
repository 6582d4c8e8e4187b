-- Passes as stores: one pass, and two that met.
use Rattle.std.proofs.Common.{◌≡◌, ◌⊎◌, ℕ, ◌+◌, ◌-◌, ◌*◌, ◌<◌, ◌≤◌, List, [], ◌∷◌, ◌++◌, length, length-append, cond, Bool, true, false, ◌||◌, refl, sym, ap, subst, ◌∙◌, inl, inr, ⊎_elim, arith}
use Rattle.std.specs.Prelude.{IsTrue}
use Rattle.table_rule.specs.Counts.{IsIn}
use Rattle.table_rule.specs.Laws.{IsViewOf, IsWhole, IsAccounted}
use Rattle.table_rule.specs.PassStore.{pass_store, stamp_of, is_spent}
use Rattle.table_rule.specs.Stamps.{joined_count}
use Rattle.table_rule.specs.Stores.{IsWholeStore, IsSoundStore, HasJoined, PassesAreSound, PassesJoin}
use Rattle.table_rule.specs.Words.{IsLayout, chunk_of}
use Rattle.table_rule.specs.declared.layout.Layout.{Layout}
use Rattle.table_rule.specs.declared.view.PassView.{PassView}
use Rattle.table_rule.proofs.Joining.{neither}
use Rattle.table_rule.proofs.Lists.{in_left, in_right, in_append}
use Rattle.table_rule.proofs.PassStore.{known_in, in_known, spends, spent_is}
use Rattle.table_rule.proofs.Passes.{knows_once, makes_once, whole_owns_all}
use Rattle.table_rule.proofs.Published.{accounted}
use Rattle.table_rule.proofs.Stamps.{table_part_is, token_count_is, gone_count_is, joined_count_is, forked_mark_is, tokens_in_is}
use Rattle.table_rule.proofs.ViewLaws.{chunk_within}

mark_none : (b : Bool) → ◌≡◌ {A = ℕ} (cond b 1 0) 0 → b ≡ false
mark_none true e = absurd (omega arith)
mark_none false e = refl

none_mark : (b : Bool) → b ≡ false → ◌≡◌ {A = ℕ} (cond b 1 0) 0
none_mark b e = ap (λ (c : Bool). let n : ℕ = cond c 1 0 in n) e

neither_or : (a b : Bool) → a ≡ false → b ≡ false → (a || b) ≡ false
neither_or a b e f = ap (λ (c : Bool). c || b) e ∙ f

empty_of : (xs : List ℕ) → length xs ≤ 0 → xs ≡ []
empty_of [] h = refl
empty_of (x ∷ xs) h = absurd (omega arith)

module _ (names : List ℕ) (L : Layout) (v : PassView) (l : IsLayout L) (p : IsViewOf L v) (live : v.ended ≡ false) where
  is_whole : IsWholeStore (pass_store names L v) → IsWhole L v
  is_whole w = record {
    unforked = mark_none v.forked (sym (forked_mark_is names L v) ∙ w.unforked);
    live = live;
    tokens = λ t few. subst (λ (ts : List ℕ). IsIn ts t) (tokens_in_is names L v) (w.tokens t (subst (λ (n : ℕ). t < n) (sym (token_count_is names L v)) few));
  }

  -- where the pass is whole and spent, each cell's id was made, or the cell was given up
  made_or_gone : IsWholeStore (pass_store names L v) → IsTrue (is_spent L v) → (cell : ℕ) → cell < L.cells → IsAccounted v cell
  made_or_gone w spent cell few =
      whole_owns_all L v l p (is_whole w) cell few ((spent_is L v spent).1 (chunk_of L cell) (chunk_within L l cell few))

  pub sound_store : IsSoundStore L.chunk (pass_store names L v)
  sound_store =
      let knows = knows_once L v l p in
      let makes = makes_once L v l p in
      let few = (p.ruled.few p.pass v p.stands).1 in
      let gone = gone_count_is names L v in
      let joined = joined_count_is names L v in
      record {
        once = λ i j node a b. knows.ids i j node (known_in names L v i node a) (known_in names L v j node b);
        within = λ id k. knows.within id k.0 (known_in names L v id k.0 k.1);
        made_once = makes.once;
        made_known = λ id there. let k = makes.known id there in (k.0, in_known names L v knows id k.0 k.1);
        gone = let e : L.chunk * joined_count (stamp_of names L v) ≡ L.chunk * v.joined = ap (λ (n : ℕ). L.chunk * n) joined in omega (arith, few, gone, e);
        published = λ w spent.
            let none : length v.held ≡ 0 = ap (λ (xs : List ℕ). length xs) (spent_is L v spent).0 in
            omega (arith, gone, none, accounted v.made v.held v.gone L.cells (made_or_gone w spent));
        all_published = λ w spent alone id some within.
            let nothing : L.chunk * v.joined ≡ L.chunk * 0 = ap (λ (n : ℕ). L.chunk * n) (sym joined ∙ alone) in
            let zero_of : L.chunk * 0 ≡ 0 = omega arith in
            let none : v.held ≡ [] = (spent_is L v spent).0 in
            let no_gone : v.gone ≡ [] = empty_of v.gone (omega arith) in
            let same : id - 1 + 1 ≡ id = omega arith in
            ⊎_elim
            (λ (made : IsIn v.made (id - 1 + 1)). subst (IsIn v.made) same made)
            (λ (spare : IsIn v.held (id - 1) ⊎ IsIn v.gone (id - 1)).
            ⊎_elim
            (λ (held : IsIn v.held (id - 1)). absurd (subst (λ (xs : List ℕ). IsIn xs (id - 1)) none held))
            (λ (given : IsIn v.gone (id - 1)). absurd (subst (λ (xs : List ℕ). IsIn xs (id - 1)) no_gone given))
            spare)
            (made_or_gone w spent (id - 1) (omega arith));
      }

-- what a pass is after it took another in, and perhaps looked at chunks
pub record HasTakenIn (v u w : PassView) : Type 0 where
  pub known : w.known ≡ v.known ++ u.known
  pub made : w.made ≡ v.made ++ u.made
  pub held : w.held ≡ v.held
  pub gone : w.gone ≡ v.gone ++ u.held ++ u.gone
  pub tokens : w.tokens ≡ v.tokens ++ u.tokens
  pub joined : w.joined ≡ v.joined + u.joined + 1
  pub forked : w.forked ≡ (v.forked || u.forked)
  pub taken : (h : ℕ) → IsIn v.taken h ⊎ IsIn u.taken h → IsIn w.taken h

module _ (names : List ℕ) (L : Layout) (v u w : PassView) (l : IsLayout L) (pv : IsViewOf L v) (pu : IsViewOf L u) (pw : IsViewOf L w) (is : HasTakenIn v u w) where
  still_spent : IsTrue (is_spent L v) → IsTrue (is_spent L w)
  still_spent spent =
      let parts = spent_is L v spent in
      spends L w (is.held ∙ parts.0) (λ h few. is.taken h (inl (parts.1 h few)))

  pub joined_stores : HasJoined L.chunk (pass_store names L v) (pass_store names L u) (pass_store names L w)
  joined_stores =
      let once_v = knows_once L v l pv in
      let once_u = knows_once L u l pu in
      let once_w = knows_once L w l pw in
      let few = (pu.ruled.few pu.pass u pu.stands).0 in
      record {
        one_table = record { room = refl; table = table_part_is names L w ∙ sym (table_part_is names L v) };
        own = λ id node e. in_known names L w once_w id node (subst (λ (es : List (ℕ × List ℕ)). IsIn es (id, node)) (sym is.known) (in_left v.known u.known (id, node) (known_in names L v id node e)));
        others = λ id node e. in_known names L w once_w id node (subst (λ (es : List (ℕ × List ℕ)). IsIn es (id, node)) (sym is.known) (in_right v.known u.known (id, node) (known_in names L u id node e)));
        at_most = λ id node e.
            ⊎_elim
            (λ (mine : IsIn v.known (id, node)). inl (in_known names L v once_v id node mine))
            (λ (theirs : IsIn u.known (id, node)). inr (in_known names L u once_u id node theirs))
            (in_append v.known u.known (id, node) (subst (λ (es : List (ℕ × List ℕ)). IsIn es (id, node)) is.known (known_in names L w id node e)));
        made = is.made;
        spent = still_spent;
        given_up = record {
          unused = length u.held;
          few = few;
          none = λ spent. ap (λ (xs : List ℕ). length xs) (spent_is L u spent).0;
          gone = omega (arith, gone_count_is names L v, gone_count_is names L u, gone_count_is names L w, ap (λ (xs : List ℕ). length xs) is.gone, length-append (v.gone ++ u.held) u.gone, length-append v.gone u.held);
        };
        joined = omega (arith, joined_count_is names L v, joined_count_is names L u, joined_count_is names L w, is.joined);
        forked = (
          λ e.
              let n = neither v.forked u.forked (sym is.forked ∙ mark_none w.forked (sym (forked_mark_is names L w) ∙ e)) in
              (forked_mark_is names L v ∙ none_mark v.forked n.0, forked_mark_is names L u ∙ none_mark u.forked n.1),
          λ both.
              let mine = mark_none v.forked (sym (forked_mark_is names L v) ∙ both.0) in
              let theirs = mark_none u.forked (sym (forked_mark_is names L u) ∙ both.1) in
              forked_mark_is names L w ∙ none_mark w.forked (is.forked ∙ neither_or v.forked u.forked mine theirs),
        );
        tokens = tokens_in_is names L w ∙ is.tokens ∙ (λ i. sym (tokens_in_is names L v) i ++ sym (tokens_in_is names L u) i);
      }

pub passes_are_sound : PassesAreSound
passes_are_sound names L v l p live = sound_store names L v l p live

pub passes_join : PassesJoin
passes_join names L v u l pv pu pw =
    joined_stores names L v u _ l pv pu pw
    (record {
      known = refl;
      made = refl;
      held = refl;
      gone = refl;
      tokens = refl;
      joined = refl;
      forked = refl;
      taken = λ h there. ⊎_elim (λ (mine : IsIn v.taken h). in_left v.taken u.taken h mine) (λ (theirs : IsIn u.taken h). in_right v.taken u.taken h theirs) there;
    })
