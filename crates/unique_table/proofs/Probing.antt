-- What a draft and an exchange of a bucket do to what a pass owns and knows.
use Rattle.std.proofs.Common.{◌≡◌, ℕ, zero, suc, ◌+◌, ◌-◌, ◌<◌, List, [], ◌∷◌, ◌++◌, length, drop, refl, sym, ap, subst, ◌∙◌, inl, inr, ⊎_elim, arith}
use Rattle.std.proofs.lemmas.List.FromFn.{length-range_with_len}
use Rattle.std.specs.List.{range_with_len}
use Rattle.std.specs.Prelude.{slice_index}
use Rattle.table_rule.specs.Counts.{IsIn}
use Rattle.table_rule.specs.Laws.{IsViewOf}
use Rattle.table_rule.specs.Rule.{spare}
use Rattle.table_rule.specs.Steps.{IsCovered, Differs, draft_cell}
use Rattle.table_rule.specs.Views.{publish, see}
use Rattle.table_rule.specs.Words.{IsLayout}
use Rattle.table_rule.specs.declared.layout.Layout.{Layout}
use Rattle.table_rule.specs.declared.view.PassView.{PassView}
use Rattle.table_rule.proofs.Passes.{known_placed}
use Rattle.table_rule.proofs.ViewLaws.{not_placed, draft_cell_spare}
use Rattle.unique_table.specs.Exploring.{HasExplored, HasOnlyRead, HasLearned, HasFoundOther, drafted}
use Rattle.unique_table.specs.Probing.{IsDrafted, HasAdded, HasLost}
use Rattle.unique_table.specs.Stocked.{IsStock}
use Rattle.unique_table.specs.declared.stock.Stock.{Stock}
use Rattle.unique_table.proofs.Exploring.{explored_on, saw_a_bucket}

module _ (L : Layout) (v : PassView) (s : Stock) (h : IsStock L v s) (some : s.next < s.end) where
  more : s.end - s.next ≡ suc (s.end - (s.next + 1))
  more = omega arith

  pub holds_some : 0 < length v.held
  holds_some = omega (arith, ap length h.held, length-range_with_len s.next (s.end - s.next))

  -- the draft's cell is the next
  pub next_is_first : draft_cell v ≡ s.next
  next_is_first = ap (λ (xs : List ℕ). slice_index xs 0) h.held ∙ ap (λ (n : ℕ). slice_index (range_with_len s.next n) 0) more

  pub next_within : s.next < L.cells
  next_within = let w = h.within in omega arith

  -- its id is not known
  pub next_not_known : IsLayout L → IsViewOf L v → (node : List ℕ) → IsIn v.known (s.next + 1, node) → ⊥
  next_not_known l p node known =
      let a = p.ruled.agree p.pass v p.stands in
      let placed = known_placed L p.words v a (s.next + 1) node known in
      let owned : 0 < spare s.next v = subst (λ (c : ℕ). 0 < spare c v) next_is_first (draft_cell_spare L v holds_some) in
      not_placed L l p.words p.views p.pass v s.next p.ruled p.stands next_within owned placed.0.0 placed.0.1

  pub stock_published : (b : ℕ) (w : PassView) (t : Stock) → w ≡ publish b (s.next + 1) v → t.next ≡ s.next + 1 → t.end ≡ s.end → t.chunk ≡ s.chunk → IsStock L w t
  stock_published b w t is next end chunk =
      record {
        held = ap (λ (x : PassView). x.held) is ∙ ap (drop 1) h.held ∙ ap (λ (n : ℕ). drop 1 (range_with_len s.next n)) more ∙ ap (λ (x : ℕ × ℕ). range_with_len x.0 (x.1 - x.0)) (λ i. (sym next i, sym end i));
        order = omega arith;
        within = let w' = h.within in omega arith;
        few_chunks = let f = h.few_chunks in omega arith;
        taken = λ j few. subst (λ (x : PassView). IsIn x.taken j) (sym is) (h.taken j (omega arith));
      }

  pub added : IsLayout L → IsViewOf L v → (b : ℕ) (w : PassView) (node : List ℕ) → v.draft ≡ node → w ≡ publish b (s.next + 1) v → HasAdded v (s.next + 1) node w
  added l p b w node draft is =
      record {
        known = ap (λ (x : PassView). x.known) is ∙ ap (λ (n : List ℕ). v.known ++ (s.next + 1, n) ∷ []) draft;
        made = inr (ap (λ (x : PassView). x.made) is, next_not_known l p);
        gone = ap (λ (x : PassView). x.gone) is;
        tokens = ap (λ (x : PassView). x.tokens) is;
        joined = ap (λ (x : PassView). x.joined) is;
        forked = ap (λ (x : PassView). x.forked) is;
        ended = ap (λ (x : PassView). x.ended) is;
      }

-- a view that differs by its draft
pub stock_drafted : (L : Layout) (v w : PassView) (node : List ℕ) (s : Stock) → IsStock L v s → w ≡ drafted node v → IsStock L w s
stock_drafted L v w node s h is = subst (λ (x : PassView). IsStock L x s) (sym is) (record { held = h.held; order = h.order; within = h.within; few_chunks = h.few_chunks; taken = h.taken })

pub explored_drafted : (v w x : PassView) (node : List ℕ) → HasExplored v w → x ≡ drafted node w → HasExplored v x
explored_drafted v w x node h is =
    subst (HasExplored v) (sym is)
    (explored_on v w (drafted node w) h
    (record { looked = record { known = refl; made = refl; gone = refl; tokens = refl; joined = refl; forked = refl; ended = refl }; seen = λ b id there. there; words = λ id i word there. there }))

-- what a pass owns while it reads
pub stock_read : (L : Layout) (v w : PassView) (s : Stock) → IsStock L v s → HasOnlyRead v w → IsStock L w s
stock_read L v w s h r = record {
  held = r.held ∙ h.held;
  order = h.order;
  within = h.within;
  few_chunks = h.few_chunks;
  taken = λ j few. subst (λ (xs : List ℕ). IsIn xs j) (sym r.taken) (h.taken j few);
}

pub draft_read : (v w : PassView) (node : List ℕ) (s : Stock) → IsDrafted v node s → HasOnlyRead v w → IsDrafted w node s
draft_read v w node s d r = (r.draft ∙ d.0, d.1)

-- an id was found in the bucket
pub lost : (b found : ℕ) (v w : PassView) → 0 < found → w ≡ see b found v → HasLost v b found w
lost b zero v w some is = absurd (omega arith)
lost b (suc n) v w some is = subst (HasLost v b (suc n)) (sym is) (record { explored = (saw_a_bucket b (suc n) v).explored; there = inl refl; some = some })

-- what was covered stays covered
pub still_differs : (v w : PassView) (node : List ℕ) (b : ℕ) → HasExplored v w → Differs v node b → Differs w node b
still_differs v w node b h d = (d.0, d.1, d.2, h.seen b d.0 d.3, h.words d.0 d.1 d.2 d.4, d.5)

pub still_covered : (L : Layout) (v w : PassView) (node : List ℕ) (b : ℕ) → HasExplored v w → IsCovered L v node b → IsCovered L w node b
still_covered L v w node b h c = record { distance = c.distance; here = c.here; passed = λ d k. still_differs v w node _ h (c.passed d k) }

-- what was added after a look round was added to what was known before
pub added_after : (v u w : PassView) (id : ℕ) (node : List ℕ) → HasExplored v u → HasAdded u id node w → HasAdded v id node w
added_after v u w id node h a =
    let l = h.looked in
    record {
      known = a.known ∙ ap (λ (es : List (ℕ × List ℕ)). es ++ (id, node) ∷ []) l.known;
      made = ⊎_elim
          (λ (same : w.made ≡ u.made). inl (same ∙ l.made))
          (λ (new : (w.made ≡ u.made ++ id ∷ []) × ((other : List ℕ) → IsIn u.known (id, other) → ⊥)).
          inr (new.0 ∙ ap (λ (xs : List ℕ). xs ++ id ∷ []) l.made, λ other k. new.1 other (subst (λ (es : List (ℕ × List ℕ)). IsIn es (id, other)) (sym l.known) k)))
          a.made;
      gone = a.gone ∙ l.gone;
      tokens = a.tokens ∙ l.tokens;
      joined = a.joined ∙ l.joined;
      forked = a.forked ∙ l.forked;
      ended = a.ended ∙ l.ended;
    }

pub lost_after : (v u w : PassView) (b id : ℕ) → HasExplored v u → HasLost u b id w → HasLost v b id w
lost_after v u w b id h l = record { explored = explored_on v u w h l.explored; there = l.there; some = l.some }

-- the id is known from then on
pub learned : (v w : PassView) (id : ℕ) (node : List ℕ) → HasLearned v id node w → HasAdded v id node w
learned v w id node h =
    let u : PassView = h.before in
    let l = h.read.explored.looked in
    record {
      known = ap (λ (x : PassView). x.known) h.known ∙ ap (λ (es : List (ℕ × List ℕ)). es ++ (id, node) ∷ []) l.known;
      made = inl (ap (λ (x : PassView). x.made) h.known ∙ l.made);
      gone = ap (λ (x : PassView). x.gone) h.known ∙ l.gone;
      tokens = ap (λ (x : PassView). x.tokens) h.known ∙ l.tokens;
      joined = ap (λ (x : PassView). x.joined) h.known ∙ l.joined;
      forked = ap (λ (x : PassView). x.forked) h.known ∙ l.forked;
      ended = ap (λ (x : PassView). x.ended) h.known ∙ l.ended;
    }

pub stock_learned : (L : Layout) (v w : PassView) (id : ℕ) (node : List ℕ) (s : Stock) → HasLearned v id node w → IsStock L v s → IsStock L w s
stock_learned L v w id node s h st =
    let r = stock_read L v h.before s st h.read in
    subst (λ (x : PassView). IsStock L x s) (sym h.known) (record { held = r.held; order = r.order; within = r.within; few_chunks = r.few_chunks; taken = r.taken })

pub found_other : (v w : PassView) (b id : ℕ) (node : List ℕ) → IsIn v.seen (b, id) → HasFoundOther v id node w → HasOnlyRead v w × Differs w node b
found_other v w b id node there h = (h.read, (id, h.place, h.word, h.read.explored.seen b id there, h.there, h.other))
