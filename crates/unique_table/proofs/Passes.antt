-- A pass as a store: what a call of `intern` does to it, and what its ids stand for.
use Rattle.std.proofs.Common.{◌≡◌, ℕ, zero, suc, ◌<◌, List, [], ◌∷◌, ◌++◌, length, cond, false, Ok, Err, Result, refl, sym, ap, subst, ◌∙◌, inl, inr, ⊎_elim, arith}
use Rattle.std.proofs.lemmas.Option.{none-some}
use Rattle.std.specs.FinMap.{from_entries}
use Rattle.std.specs.Prelude.{slice_index}
use Rattle.record_store.specs.Interns.{Interns}
use Rattle.record_store.specs.declared.store.StoreFull.{StoreFull}
use Rattle.table_rule.specs.Counts.{IsIn}
use Rattle.table_rule.specs.Laws.{IsViewOf}
use Rattle.table_rule.specs.PassStore.{pass_store, stamp_of, is_spent}
use Rattle.table_rule.specs.Stores.{IsSoundStore, HasJoined}
use Rattle.table_rule.specs.Views.{joined_view, see_chunk}
use Rattle.table_rule.specs.Words.{IsLayout}
use Rattle.table_rule.specs.declared.layout.Layout.{Layout}
use Rattle.table_rule.specs.declared.view.PassView.{PassView}
use Rattle.table_rule.proofs.Lists.{in_left, in_right}
use Rattle.table_rule.proofs.PassStore.{in_known, interns_known, interns_made, interns_full, spends, spent_is}
use Rattle.table_rule.proofs.Stamps.{gone_count_is}
use Rattle.table_rule.proofs.Stores.{HasTakenIn, sound_store, joined_stores}
use Rattle.table_rule.proofs.Passes.{knows_once, whole_owns_all, known_placed}
use Rattle.table_rule.proofs.WordLaws.{same_eight, eight_of}
use Rattle.unique_table.specs.Exploring.{HasOnlyRead}
use Rattle.unique_table.specs.Passes.{IsSoundPass, HasMet}
use Rattle.unique_table.specs.Probing.{Ends}
use Rattle.unique_table.specs.Stocked.{IsStock, StartsEmpty}
use Rattle.unique_table.specs.Values.{IsShape}
use Rattle.unique_table.specs.declared.stock.Stock.{Stock}

module _ (names : List ℕ) (L : Layout) where
  same_stamp : (v w : PassView) → w.gone ≡ v.gone → w.tokens ≡ v.tokens → w.joined ≡ v.joined → w.forked ≡ v.forked → stamp_of names L w ≡ stamp_of names L v
  same_stamp v w gone tokens joined forked =
      λ i. length names ∷ names ++ L.tokens ∷ length (gone i) ∷ joined i ∷ cond (forked i) 1 0 ∷ tokens i

  pub ends_interns : (v w : PassView) (node : List ℕ) (r : Result ℕ StoreFull) → IsLayout L → IsViewOf L w → Ends L v node r w → Interns (pass_store names L v) (pass_store names L w) node r
  ends_interns v w node (Ok id) l p h =
      let once = knows_once L w l p in
      let stamp = same_stamp v w h.gone h.tokens h.joined h.forked in
      ⊎_elim
      (λ (same : w.made ≡ v.made). interns_known names L v w id node once h.known same stamp)
      (λ (new : (w.made ≡ v.made ++ id ∷ []) × ((other : List ℕ) → IsIn v.known (id, other) → ⊥)). interns_made names L v w id node once h.known new.0 stamp new.1)
      h.made
  ends_interns v w node (Err e) l p h =
      let k = h.0.explored.looked in
      interns_full names L v w node k.known k.made (same_stamp v w k.gone k.tokens k.joined k.forked) h.0.spent h.1

  -- reading leaves the store
  pub same_store : (v w : PassView) → HasOnlyRead v w → pass_store names L w ≡ pass_store names L v
  same_store v w h =
      let k = h.explored.looked in
      let known : (pass_store names L w).known ≡ (pass_store names L v).known = ap (λ (es : List (ℕ × List ℕ)). from_entries es) k.known in
      let spent : is_spent L w ≡ is_spent L v = ap (λ (x : List ℕ × List ℕ). is_spent L (record v { held = x.0; taken = x.1 })) (λ i. (h.held i, h.taken i)) in
      let stamp = same_stamp v w k.gone k.tokens k.joined k.forked in
      λ i. record { known = known i; made = k.made i; spent = spent i; room = L.cells; stamp = stamp i }

  -- a body that is known, word for word
  pub is_body : (v : PassView) → IsViewOf L v → (id : ℕ) (node words : List ℕ) → IsIn v.known (id, node) → length words ≡ 8 → ((j : ℕ) → j < 8 → slice_index words j ≡ slice_index node j) → node ≡ words
  is_body v p id node words known long same =
      let a = p.ruled.agree p.pass v p.stands in
      let is = (known_placed L p.words v a id node known).1 in
      let node_long : length node ≡ 8 = ap (λ (n : List ℕ). length n) (sym is) in
      sym (eight_of node node_long) ∙ same_eight (slice_index node) (slice_index words) (λ j few. sym (same j few)) ∙ eight_of words long

knows_none : (es : List (ℕ × List ℕ)) → ((id : ℕ) (node : List ℕ) → IsIn es (id, node) → ⊥) → es ≡ []
knows_none [] none = refl
knows_none (e ∷ es) none = absurd (none e.0 e.1 (inl refl))

-- what holds of every pass
pub sound : (names : List ℕ) (L : Layout) (v : PassView) → IsShape L → IsViewOf L v → v.ended ≡ false → StartsEmpty v → IsSoundPass (record { names = names; layout = L; view = v })
sound names L v shape p live empty =
    let few = p.ruled.few p.pass v p.stands in
    let size = shape.chunk in
    record {
      live = live;
      store = subst (λ (n : ℕ). IsSoundStore n (pass_store names L v)) size (sound_store names L v shape.layout p live);
      empty = λ none. let e = empty (knows_none v.known (λ id node there. absurd (none-some node (sym (none id) ∙ in_known names L v (knows_once L v shape.layout p) id node there)))) in (e.0, gone_count_is names L v ∙ ap (λ (xs : List ℕ). length xs) e.1);
      held = omega (arith, few.0);
      spent = (λ e. spent_is L v e, λ all. spends L v all.0 all.1);
      whole = whole_owns_all L v shape.layout p;
    }

see_chunk_same : (h n : ℕ) (v : PassView) → ((see_chunk h n v).known ≡ v.known) × ((see_chunk h n v).made ≡ v.made) × ((see_chunk h n v).held ≡ v.held) × ((see_chunk h n v).gone ≡ v.gone) × ((see_chunk h n v).tokens ≡ v.tokens) × ((see_chunk h n v).joined ≡ v.joined) × ((see_chunk h n v).forked ≡ v.forked) × ((see_chunk h n v).ended ≡ v.ended) × ((j : ℕ) → IsIn v.taken j → IsIn (see_chunk h n v).taken j)
see_chunk_same h zero v = (refl, refl, refl, refl, refl, refl, refl, refl, λ j k. k)
see_chunk_same h (suc n) v = (refl, refl, refl, refl, refl, refl, refl, refl, λ j k. inr k)

module _ (names : List ℕ) (L : Layout) (v u w : PassView) (h n : ℕ) (is : w ≡ see_chunk h n (joined_view v u)) where
  took_in : HasTakenIn v u w
  took_in =
      let same = see_chunk_same h n (joined_view v u) in
      record {
        known = ap (λ (x : PassView). x.known) is ∙ same.0;
        made = ap (λ (x : PassView). x.made) is ∙ same.1;
        held = ap (λ (x : PassView). x.held) is ∙ same.2;
        gone = ap (λ (x : PassView). x.gone) is ∙ same.3;
        tokens = ap (λ (x : PassView). x.tokens) is ∙ same.4;
        joined = ap (λ (x : PassView). x.joined) is ∙ same.5;
        forked = ap (λ (x : PassView). x.forked) is ∙ same.6;
        taken = λ j there. subst (λ (x : PassView). IsIn x.taken j) (sym is)
            (same.8 j (⊎_elim (λ (mine : IsIn v.taken j). in_left v.taken u.taken j mine) (λ (theirs : IsIn u.taken j). in_right v.taken u.taken j theirs) there));
      }

  pub meets : IsShape L → IsViewOf L v → IsViewOf L u → IsViewOf L w → HasMet (record { names = names; layout = L; view = v }) (record { names = names; layout = L; view = u }) (record { names = names; layout = L; view = w })
  meets shape pv pu pw = record {
    table = (refl, refl);
    stores = subst (λ (c : ℕ). HasJoined c (pass_store names L v) (pass_store names L u) (pass_store names L w)) shape.chunk (joined_stores names L v u w shape.layout pv pu pw took_in);
    held = took_in.held;
    gone = took_in.gone;
    taken = took_in.taken;
  }

  pub stock_met : (s : Stock) → IsStock L v s → IsStock L w s
  stock_met s st =
      let same = see_chunk_same h n (joined_view v u) in
      record {
        held = ap (λ (x : PassView). x.held) is ∙ same.2 ∙ st.held;
        order = st.order;
        within = st.within;
        few_chunks = st.few_chunks;
        taken = λ j few. subst (λ (x : PassView). IsIn x.taken j) (sym is) (same.8 j (in_left v.taken u.taken j (st.taken j few)));
      }

  pub live_met : w.ended ≡ false
  live_met = ap (λ (x : PassView). x.ended) is ∙ (see_chunk_same h n (joined_view v u)).7

no_left : (xs ys : List (ℕ × List ℕ)) → xs ++ ys ≡ [] → (xs ≡ []) × (ys ≡ [])
no_left [] ys e = (refl, e)
no_left (x ∷ xs) ys e = absurd (omega (arith, ap (λ (zs : List (ℕ × List ℕ)). length zs) e))

-- what a pass owns that knows nothing, after it took in another
pub empty_met : (names : List ℕ) (L : Layout) (v u w : PassView) (h n : ℕ) → w ≡ see_chunk h n (joined_view v u) → StartsEmpty v → StartsEmpty u → StartsEmpty w
empty_met names L v u w h n is a b none =
    let t = took_in names L v u w h n is in
    let both = no_left v.known u.known (sym t.known ∙ none) in
    let x = a both.0 in
    let y = b both.1 in
    (t.held ∙ x.0, t.gone ∙ (λ i. x.1 i ++ y.0 i ++ y.1 i))
