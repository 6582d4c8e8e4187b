-- The steps of the example are allowed: they are a run, and the rule holds after it.
use Rattle.std.proofs.Common.{◌≡◌, ◌≢◌, ℕ, List, [], ◌∷◌, true, refl, sym, ap, inl, inr, ⊎_elim, arith}
use Rattle.std.proofs.lemmas.Bool.{cases_eq}
use Rattle.record_store.specs.Path.{mixed, path_bucket, lower_node}
use Rattle.table_rule.specs.Examples.{small, made, dealt, owned, store_all, published, knower, gathered, met}
use Rattle.table_rule.specs.Laws.{blank, IsRuled, IsRun, IsViewOf}
use Rattle.table_rule.specs.PassStore.{pass_store}
use Rattle.table_rule.specs.Steps.{State, Event, exchange_bucket, store_word, exchange_chunk, deal, join, IsStep, IsCovered}
use Rattle.table_rule.specs.Stores.{IsSoundStore, IsWholeStore, HasJoined}
use Rattle.table_rule.specs.Views.{fresh}
use Rattle.table_rule.specs.Words.{IsLayout}
use Rattle.table_rule.specs.declared.view.PassView.{PassView}
use Rattle.table_rule.proofs.Steps.{keeps, always}
use Rattle.table_rule.proofs.Stores.{passes_are_sound, passes_join}

is_layout : IsLayout small
is_layout = record { some_cells = omega arith; more_buckets = omega arith; some_chunk = omega arith; whole_chunks = refl; some_tokens = omega arith }

-- the first pass with so much of the draft written
abbrev drafting : List ℕ → PassView
drafting draft = record (fresh (1 ∷ [])) { held = 0 ∷ []; draft = draft; taken = 0 ∷ [] }

abbrev writing : List ℕ → State
writing draft = store_all owned draft 0

at_start : IsCovered small (drafting lower_node) lower_node 0
unfolding mixed
at_start = record { distance = 0; here = refl; passed = λ d h. absurd (omega arith) }

deals : IsStep small 0 deal made dealt
deals = record { view = fresh (0 ∷ 1 ∷ []); stands = refl; live = refl; allowed = (refl, omega arith); words = refl; views = refl }

takes : IsStep small 0 (exchange_chunk 0) dealt owned
takes = record { view = fresh (1 ∷ []); stands = refl; live = refl; allowed = (omega arith, refl); words = refl; views = refl }

writes_0 : IsStep small 0 (store_word 0 2) (writing ([])) (writing (2 ∷ []))
writes_0 = record { view = drafting ([]); stands = refl; live = refl; allowed = (omega arith, omega arith, omega arith); words = refl; views = refl }

writes_1 : IsStep small 0 (store_word 1 0) (writing (2 ∷ [])) (writing (2 ∷ 0 ∷ []))
writes_1 = record { view = drafting (2 ∷ []); stands = refl; live = refl; allowed = (omega arith, omega arith, omega arith); words = refl; views = refl }

writes_2 : IsStep small 0 (store_word 2 0) (writing (2 ∷ 0 ∷ [])) (writing (2 ∷ 0 ∷ 0 ∷ []))
writes_2 = record { view = drafting (2 ∷ 0 ∷ []); stands = refl; live = refl; allowed = (omega arith, omega arith, omega arith); words = refl; views = refl }

writes_3 : IsStep small 0 (store_word 3 0) (writing (2 ∷ 0 ∷ 0 ∷ [])) (writing (2 ∷ 0 ∷ 0 ∷ 0 ∷ []))
writes_3 = record { view = drafting (2 ∷ 0 ∷ 0 ∷ []); stands = refl; live = refl; allowed = (omega arith, omega arith, omega arith); words = refl; views = refl }

writes_4 : IsStep small 0 (store_word 4 0) (writing (2 ∷ 0 ∷ 0 ∷ 0 ∷ [])) (writing (2 ∷ 0 ∷ 0 ∷ 0 ∷ 0 ∷ []))
writes_4 = record { view = drafting (2 ∷ 0 ∷ 0 ∷ 0 ∷ []); stands = refl; live = refl; allowed = (omega arith, omega arith, omega arith); words = refl; views = refl }

writes_5 : IsStep small 0 (store_word 5 0) (writing (2 ∷ 0 ∷ 0 ∷ 0 ∷ 0 ∷ [])) (writing (2 ∷ 0 ∷ 0 ∷ 0 ∷ 0 ∷ 0 ∷ []))
writes_5 = record { view = drafting (2 ∷ 0 ∷ 0 ∷ 0 ∷ 0 ∷ []); stands = refl; live = refl; allowed = (omega arith, omega arith, omega arith); words = refl; views = refl }

writes_6 : IsStep small 0 (store_word 6 1) (writing (2 ∷ 0 ∷ 0 ∷ 0 ∷ 0 ∷ 0 ∷ [])) (writing (2 ∷ 0 ∷ 0 ∷ 0 ∷ 0 ∷ 0 ∷ 1 ∷ []))
writes_6 = record { view = drafting (2 ∷ 0 ∷ 0 ∷ 0 ∷ 0 ∷ 0 ∷ []); stands = refl; live = refl; allowed = (omega arith, omega arith, omega arith); words = refl; views = refl }

writes_7 : IsStep small 0 (store_word 7 0) (writing (2 ∷ 0 ∷ 0 ∷ 0 ∷ 0 ∷ 0 ∷ 1 ∷ [])) (writing (2 ∷ 0 ∷ 0 ∷ 0 ∷ 0 ∷ 0 ∷ 1 ∷ 0 ∷ []))
writes_7 = record { view = drafting (2 ∷ 0 ∷ 0 ∷ 0 ∷ 0 ∷ 0 ∷ 1 ∷ []); stands = refl; live = refl; allowed = (omega arith, omega arith, omega arith); words = refl; views = refl }

publishes : IsStep small 0 (exchange_bucket 0) (writing lower_node) published
publishes = record { view = drafting lower_node; stands = refl; live = refl; allowed = (omega arith, refl, at_start); words = refl; views = refl }

steps : List (ℕ × Event)
steps = (0, deal) ∷ (0, exchange_chunk 0) ∷ (0, store_word 0 2) ∷ (0, store_word 1 0) ∷ (0, store_word 2 0) ∷ (0, store_word 3 0) ∷ (0, store_word 4 0) ∷ (0, store_word 5 0) ∷ (0, store_word 6 1) ∷ (0, store_word 7 0) ∷ (0, exchange_bucket 0) ∷ []

run : IsRun small steps (blank small) published
unfolding steps
run = (dealt, deals, (owned, takes, (writing (2 ∷ []), writes_0, (writing (2 ∷ 0 ∷ []), writes_1, (writing (2 ∷ 0 ∷ 0 ∷ []), writes_2, (writing (2 ∷ 0 ∷ 0 ∷ 0 ∷ []), writes_3, (writing (2 ∷ 0 ∷ 0 ∷ 0 ∷ 0 ∷ []), writes_4, (writing (2 ∷ 0 ∷ 0 ∷ 0 ∷ 0 ∷ 0 ∷ []), writes_5, (writing (2 ∷ 0 ∷ 0 ∷ 0 ∷ 0 ∷ 0 ∷ 1 ∷ []), writes_6, (writing (2 ∷ 0 ∷ 0 ∷ 0 ∷ 0 ∷ 0 ∷ 1 ∷ 0 ∷ []), writes_7, (published, publishes, refl)))))))))))

ruled : IsRuled small published
ruled = always small steps published is_layout run

-- it meets the second pass
joins : IsStep small 0 (join 1) published met
joins = record { view = knower; stands = refl; live = refl; allowed = ((λ e. absurd (omega arith)), fresh (0 ∷ []), refl, refl); words = refl; views = refl }

met_ruled : IsRuled small met
met_ruled = keeps small 0 (join 1) published met is_layout ruled joins

-- the views of both before, and of the first after
mine : IsViewOf small knower
mine = record { words = published.words; views = published.views; pass = 0; stands = refl; ruled = ruled }

theirs : IsViewOf small (fresh (0 ∷ []))
theirs = record { words = published.words; views = published.views; pass = 1; stands = refl; ruled = ruled }

after_both : IsViewOf small gathered
after_both = record { words = met.words; views = met.views; pass = 0; stands = refl; ruled = met_ruled }

-- as a store it is joined, sound, whole and spent, and has published the one cell
stores_join : HasJoined 1 (pass_store (7 ∷ 9 ∷ []) small knower) (pass_store (7 ∷ 9 ∷ []) small (fresh (0 ∷ []))) (pass_store (7 ∷ 9 ∷ []) small gathered)
stores_join = passes_join (7 ∷ 9 ∷ []) small knower (fresh (0 ∷ [])) is_layout mine theirs after_both

store_is_sound : IsSoundStore 1 (pass_store (7 ∷ 9 ∷ []) small gathered)
store_is_sound = passes_are_sound (7 ∷ 9 ∷ []) small gathered is_layout after_both refl

store_is_whole : IsWholeStore (pass_store (7 ∷ 9 ∷ []) small gathered)
store_is_whole = record {
  unforked = refl;
  tokens = λ t few. ⊎_elim (λ (last : t ≡ 1). inl (sym last)) (λ (first : t ≢ 1). inr (inl (let e : 0 ≡ t = omega arith in e))) (cases_eq t 1);
}

store_is_spent : (pass_store (7 ∷ 9 ∷ []) small gathered).spent ≡ true
store_is_spent = refl

-- the draft may not be published in the second bucket of its path before the first was seen with another body
too_far : IsCovered small (drafting lower_node) lower_node 1 → ⊥
unfolding mixed
too_far c =
    ⊎_elim
    (λ (none : c.distance ≡ 0). absurd (omega (arith, ap (λ (d : ℕ). path_bucket lower_node 2 d) none, c.here)))
    (λ (some : c.distance ≢ 0). absurd ((c.passed 0 (omega arith)).3))
    (cases_eq c.distance 0)
