-- A step that the rule allows may be taken on the words.
use Rattle.std.proofs.Common.{◌≡◌, ℕ, zero, suc, List, [], ◌∷◌, slice_get, Some, refl, sym, ap, subst}
use Rattle.std.specs.Prelude.{slice_index, slice_set}
use mathlib.Core.Option.{some, none, some-injective, some-ne-none}
use lib.ListN.{get_elem?}
use Rattle.atomic_table.specs.Table as atomic
use Rattle.atomic_table.specs.Table.{Allows, keeps, step}
use Rattle.table_rule.specs.Laws.{IsRuled}
use Rattle.table_rule.specs.Rule.{Rule}
use Rattle.table_rule.specs.Steps.{State, Event, view_after, words_after, views_after}
use Rattle.table_rule.specs.Words.{IsLayout}
use Rattle.table_rule.specs.declared.layout.Layout.{Layout}
use Rattle.table_rule.specs.declared.view.PassView.{PassView}
use Rattle.table_rule.proofs.Lists.{get_set_here}
use Rattle.table_rule.proofs.Steps.{stepped}
use Rattle.unique_table.specs.Taking.{IsTable, CanTake, HasTaken, Told, ToldWriter}

-- a view, by the look-up of the definitions
pub at_place : {A : Type 0} (xs : List A) (i : ℕ) (x : A) → get_elem? xs i ≡ some x → slice_get xs i ≡ Some x
at_place [] i x e = absurd (some-ne-none x (sym e))
at_place (y ∷ ys) zero x e = ap Some (some-injective y x e)
at_place (y ∷ ys) (suc i) x e = at_place ys i x e

module _ (L : Layout) (event : ℕ → Event) (v : PassView) (word : ℕ) (f : ℕ → ℕ) (can : CanTake L event v word f) (s : State) (p : ℕ) (l : IsLayout L) (r : IsRuled L s) (at : slice_get s.views p ≡ Some v) where
  found : ℕ
  found = slice_index s.words word

  pub rule_after : Rule L (slice_set s.words word (f (slice_index s.words word))) (slice_set s.views p (view_after L s p v (event (slice_index s.words word))))
  rule_after =
      let e : Event = event (slice_index s.words word) in
      let after : Rule L (words_after L s p v e) (views_after L s p v e) = stepped L l s.words s.views p v r at can.live e (can.allowed s p l r at) in
      let with_words = subst (λ (ws : List ℕ). Rule L ws (views_after L s p v e)) (can.leaves s p) after in
      subst (λ (vs : List PassView). Rule L (slice_set s.words word (f (slice_index s.words word))) vs) (can.own s p (slice_index s.words word)) with_words

  pub taken : HasTaken L event v word (slice_index s.words word) (view_after L s p v (event (slice_index s.words word)))
  taken =
      let w : PassView = view_after L s p v (event (slice_index s.words word)) in
      record {
        state = s;
        pass = p;
        layout = l;
        ruled = r;
        stands = at;
        is_found = refl;
        learned = refl;
        after = record {
          words = slice_set s.words word (f (slice_index s.words word));
          views = slice_set s.views p w;
          pass = p;
          stands = get_set_here s.views p v w at;
          ruled = rule_after;
        };
      }

pub takes : (L : Layout) (slots id : ℕ) (me : atomic.Me (Unit {0}) PassView) (word a b : ℕ) (f : ℕ → ℕ) (event : ℕ → Event) → CanTake L event me.0 word f → Allows (IsTable L) slots id me word f (Told L event (step slots word a b none) me)
takes L slots id me word a b f event can s h long at small =
    let now : State = record { words = s.words; views = s.views } in
    let stands = at_place s.views id me.0 at in
    let n : ℕ = slice_index s.words word in (
      view_after L now id me.0 (event n),
      keeps,
      tt,
      (h.0, rule_after L event me.0 word f can now id h.0 h.1 stands),
      (taken L event me.0 word f can now id h.0 h.1 stands, refl),
    )

pub writes : (L : Layout) (slots id : ℕ) (me : atomic.Me (Unit {0}) PassView) (word new : ℕ) (event : ℕ → Event) → CanTake L event me.0 word (λ _. new) → Allows (IsTable L) slots id me word (λ _. new) (λ _. ToldWriter L event (step slots word new 0 none) me new)
writes L slots id me word new event can s h long at small =
    let now : State = record { words = s.words; views = s.views } in
    let stands = at_place s.views id me.0 at in
    let n : ℕ = slice_index s.words word in (
      view_after L now id me.0 (event n),
      keeps,
      tt,
      (h.0, rule_after L event me.0 word (λ _. new) can now id h.0 h.1 stands),
      ((n, word, taken L event me.0 word (λ _. new) can now id h.0 h.1 stands), refl),
    )
