-- What a load of a word of a body tells.
use Rattle.std.proofs.Common.{◌≡◌, ◌≢◌, ℕ, ◌-◌, ◌<◌, ◌≤◌, List, Bool, true, false, refl, sym, ap, subst, ◌∙◌, inl, inr, ⊎_elim, arith, eq-eqb}
use Rattle.std.proofs.lemmas.Bool.{cases_eq, ne_eqb}
use Rattle.std.specs.Prelude.{slice_index, ◌==◌}
use Rattle.table_rule.specs.Counts.{IsIn}
use Rattle.table_rule.specs.Laws.{IsViewOf}
use Rattle.table_rule.specs.Rule.{IsPlaced, Agrees}
use Rattle.table_rule.specs.Steps.{State, load_word, IsMet, HasRead, IsAllowed, view_after}
use Rattle.table_rule.specs.Views.{read, know}
use Rattle.table_rule.specs.Words.{word_at, cell_word, body}
use Rattle.table_rule.specs.declared.layout.Layout.{Layout}
use Rattle.table_rule.specs.declared.view.PassView.{PassView}
use Rattle.table_rule.proofs.Learning.{met_placed}
use Rattle.table_rule.proofs.Lists.{each_in}
use Rattle.table_rule.proofs.Passes.{known_placed}
use Rattle.table_rule.proofs.WordLaws.{get_eight, same_eight, eight_of, set_same}
use Rattle.unique_table.specs.Taking.{CanTake, HasTaken}
use Rattle.unique_table.specs.Walking.{KnowsAfter}

-- an id that was met is that of a cell
pub met_within : (L : Layout) (v : PassView) → IsViewOf L v → v.ended ≡ false → (id : ℕ) → IsMet v id → (0 < id) × (id ≤ L.cells)
met_within L v h live id met =
    let placed = met_placed L h.words h.views h.pass v h.ruled h.stands live id met in
    (placed.1.1, (h.ruled.ids.within placed.0 id placed.1).0)

pub can_read : (L : Layout) (v : PassView) (id i : ℕ) → v.ended ≡ false → i < 8 → IsMet v id → CanTake L (λ _. load_word id i false) v (word_at L (id - 1) i) (λ n. n)
can_read L v id i live few met = record {
  live = live;
  allowed = λ s p l r at. (few, met);
  leaves = λ s p. sym (set_same s.words (word_at L (id - 1) i));
  own = λ s p n. refl;
}

pub reads : (L : Layout) (v w : PassView) (id i found : ℕ) → HasTaken L (λ _. load_word id i false) v (word_at L (id - 1) i) found w → w ≡ read id i found v
reads L v w id i found h = h.learned ∙ ap (λ (n : ℕ). read id i n v) h.is_found

-- the word of a body that is known
pub reads_known : (L : Layout) (v w : PassView) (id i found : ℕ) → i < 8 → HasTaken L (λ _. load_word id i false) v (word_at L (id - 1) i) found w → (node : List ℕ) → IsIn v.known (id, node) → found ≡ slice_index node i
reads_known L v w id i found few h node known =
    let a = h.ruled.agree h.pass v h.stands in
    let placed = known_placed L h.state.words v a id node known in
    sym h.is_found ∙ sym (get_eight (cell_word L h.state.words (id - 1)) i few) ∙ ap (λ (n : List ℕ). slice_index n i) placed.1

-- a word that was read stands in the cell
word_agrees : (L : Layout) (words : List ℕ) (v : PassView) → Agrees L words v → (id i word : ℕ) → IsIn v.words (id, i, word) → cell_word L words (id - 1) i ≡ word
word_agrees L words v a id i word there = (each_in (λ x. IsPlaced L words x.0 × (x.1 < 8) × (cell_word L words (x.0 - 1) x.1 ≡ x.2)) v.words (id, i, word) a.words_read there).2

allow_last : (L : Layout) (s : State) (p : ℕ) (v : PassView) (id : ℕ) → Agrees L s.words v → IsMet v id → ((j : ℕ) → j < 7 → (word : ℕ) × IsIn v.words (id, j, word)) → (b : Bool) → IsAllowed L s p v (load_word id 7 b)
allow_last L s p v id a met before false = (omega arith, met)
allow_last L s p v id a met before true = (omega arith, met, all)
  where
    all : HasRead (read id 7 (cell_word L s.words (id - 1) 7) v) id (body L s.words id)
    all i few =
        let here : slice_index (body L s.words id) i ≡ cell_word L s.words (id - 1) i = get_eight (cell_word L s.words (id - 1)) i few in
        ⊎_elim
        (λ (last : i ≡ 7).
        let word : cell_word L s.words (id - 1) 7 ≡ slice_index (body L s.words id) i = sym (here ∙ ap (cell_word L s.words (id - 1)) last) in
        inl (λ k. (id, sym last k, word k)))
        (λ (apart : i ≢ 7).
        let b = before i (omega arith) in
        let same : b.0 ≡ slice_index (body L s.words id) i = sym (here ∙ word_agrees L s.words v a id i b.0 b.1) in
        inr (subst (λ (n : ℕ). IsIn v.words (id, i, n)) same b.1))
        (cases_eq i 7)

pub can_read_last : (L : Layout) (v : PassView) (id wanted : ℕ) → v.ended ≡ false → IsMet v id → ((j : ℕ) → j < 7 → (word : ℕ) × IsIn v.words (id, j, word)) → CanTake L (λ n. load_word id 7 (n == wanted)) v (word_at L (id - 1) 7) (λ n. n)
can_read_last L v id wanted live met before = record {
  live = live;
  allowed = λ s p l r at. allow_last L s p v id (r.agree p v at) met before (slice_index s.words (word_at L (id - 1) 7) == wanted);
  leaves = λ s p. sym (set_same s.words (word_at L (id - 1) 7));
  own = λ s p n. refl;
}

module _ (L : Layout) (v w : PassView) (id wanted found : ℕ) (h : HasTaken L (λ n. load_word id 7 (n == wanted)) v (word_at L (id - 1) 7) found w) where
  pub reads_other : found ≢ wanted → w ≡ read id 7 found v
  reads_other apart =
      h.learned
      ∙ ap (λ (b : Bool). view_after L h.state h.pass v (load_word id 7 b)) (ne_eqb found wanted apart)
      ∙ ap (λ (n : ℕ). read id 7 n v) h.is_found

  pub reads_last : found ≡ wanted → KnowsAfter v id wanted w
  reads_last same node long before last =
      let a = h.ruled.agree h.pass v h.stands in
      let words : List ℕ = h.state.words in
      let each : (i : ℕ) → i < 8 → cell_word L words (id - 1) i ≡ slice_index node i = λ i few.
      ⊎_elim
      (λ (is : i ≡ 7). ap (cell_word L words (id - 1)) is ∙ h.is_found ∙ same ∙ sym last ∙ ap (slice_index node) (sym is))
      (λ (apart : i ≢ 7). word_agrees L words v a id i (slice_index node i) (before i (omega arith)))
      (cases_eq i 7)
      in
      let is_body : body L words id ≡ node = same_eight (cell_word L words (id - 1)) (slice_index node) each ∙ eight_of node long in
      h.learned
      ∙ ap (λ (b : Bool). view_after L h.state h.pass v (load_word id 7 b)) (eq-eqb found wanted same)
      ∙ ap (λ (x : List ℕ × ℕ). know id x.0 (read id 7 x.1 v)) (λ k. (is_body k, (h.is_found ∙ same) k))
