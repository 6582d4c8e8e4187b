-- A table of one cell and two buckets, which two passes share: each kind of step, worked.
use Rattle.std.specs.Prelude.{◌≡◌, ℕ, ◌+◌, List, [], ◌∷◌, refl, true, false}
use Rattle.record_store.specs.Path.{mixed, path_bucket, lower_node}
use Rattle.table_rule.specs.Laws.{blank}
use Rattle.table_rule.specs.Steps.{State, Event, load_bucket, exchange_bucket, load_word, store_word, load_chunk, exchange_chunk, fork, deal, join, words_after, views_after, view_of}
use Rattle.table_rule.specs.PassStore.{is_spent, stamp_of}
use Rattle.table_rule.specs.Views.{fresh, ended_view}
use Rattle.table_rule.specs.Words.{body}
use Rattle.table_rule.specs.declared.layout.Layout.{Layout}
use Rattle.table_rule.specs.declared.view.PassView.{PassView}

abbrev pub small : Layout
small = record { buckets = 2; cells = 1; chunk = 1; tokens = 2 }

-- the state after a step of the pass p, whose view is v
abbrev pub after : State → ℕ → Event → State
after s p e = record { words = words_after small s p (view_of s.views p) e; views = views_after small s p (view_of s.views p) e }

abbrev pub made : State
made = blank small

made_is : made ≡ record { words = 0 ∷ 0 ∷ 0 ∷ 0 ∷ 0 ∷ 0 ∷ 0 ∷ 0 ∷ 0 ∷ 0 ∷ 0 ∷ 0 ∷ []; views = fresh (0 ∷ 1 ∷ []) ∷ [] }
made_is = refl

-- each pass gets a token
abbrev pub dealt : State
dealt = after made 0 deal

dealt_is : dealt ≡ record { words = made.words; views = fresh (1 ∷ []) ∷ fresh (0 ∷ []) ∷ [] }
dealt_is = refl

-- the first takes the chunk, whose word is the last
abbrev pub owned : State
owned = after dealt 0 (exchange_chunk 0)

owned_is : owned ≡ record { words = 0 ∷ 0 ∷ 0 ∷ 0 ∷ 0 ∷ 0 ∷ 0 ∷ 0 ∷ 0 ∷ 0 ∷ 0 ∷ 1 ∷ []; views = record (fresh (1 ∷ [])) { held = 0 ∷ []; taken = 0 ∷ [] } ∷ fresh (0 ∷ []) ∷ [] }
owned_is = refl

-- and writes the body into its cell, one word after another
abbrev pub first_word : State
first_word = after owned 0 (store_word 0 2)

first_word_is : first_word ≡ record { words = 0 ∷ 0 ∷ 0 ∷ 2 ∷ 0 ∷ 0 ∷ 0 ∷ 0 ∷ 0 ∷ 0 ∷ 0 ∷ 1 ∷ []; views = record (fresh (1 ∷ [])) { held = 0 ∷ []; draft = 2 ∷ []; taken = 0 ∷ [] } ∷ fresh (0 ∷ []) ∷ [] }
first_word_is = refl

abbrev pub store_all : State → List ℕ → ℕ → State
store_all s [] i = s
store_all s (w ∷ ws) i = store_all (after s 0 (store_word i w)) ws (i + 1)

filled_is : store_all owned lower_node 0 ≡ record { words = 0 ∷ 0 ∷ 0 ∷ 2 ∷ 0 ∷ 0 ∷ 0 ∷ 0 ∷ 0 ∷ 1 ∷ 0 ∷ 1 ∷ []; views = record (fresh (1 ∷ [])) { held = 0 ∷ []; draft = lower_node; taken = 0 ∷ [] } ∷ fresh (0 ∷ []) ∷ [] }
filled_is = refl

-- the path of the body begins at bucket 0, and the first pass puts the id there
abbrev pub published : State
published = after (store_all owned lower_node 0) 0 (exchange_bucket 0)

abbrev pub knower : PassView
knower = record (fresh (1 ∷ [])) { seen = (0, 1) ∷ []; known = (1, lower_node) ∷ []; made = 1 ∷ []; taken = 0 ∷ [] }

published_is : published ≡ record { words = 0 ∷ 1 ∷ 0 ∷ 2 ∷ 0 ∷ 0 ∷ 0 ∷ 0 ∷ 0 ∷ 1 ∷ 0 ∷ 1 ∷ []; views = knower ∷ fresh (0 ∷ []) ∷ [] }
published_is = refl

published_body : body small published.words 1 ≡ lower_node
published_body = refl

starts_at_first : path_bucket lower_node 2 0 ≡ 0
unfolding mixed
starts_at_first = refl

-- the second pass finds the id there, also where it comes too late with an exchange
looked_is : after published 1 (load_bucket 0) ≡ record { words = published.words; views = knower ∷ record (fresh (0 ∷ [])) { seen = (0, 1) ∷ [] } ∷ [] }
looked_is = refl

late_is : after published 1 (exchange_bucket 0) ≡ after published 1 (load_bucket 0)
late_is = refl

-- an empty bucket teaches nothing
empty_is : after published 1 (load_bucket 1) ≡ published
empty_is = refl

-- it reads a word of the body, and with the last one it knows the id
read_is : after published 1 (load_word 1 0 false) ≡ record { words = published.words; views = knower ∷ record (fresh (0 ∷ [])) { words = (1, 0, 2) ∷ [] } ∷ [] }
read_is = refl

learned_is : after published 1 (load_word 1 7 true) ≡ record { words = published.words; views = knower ∷ record (fresh (0 ∷ [])) { words = (1, 7, 0) ∷ []; known = (1, lower_node) ∷ [] } ∷ [] }
learned_is = refl

-- it finds the chunk taken, also where it tries to take it
chunk_is : after published 1 (load_chunk 0) ≡ record { words = published.words; views = knower ∷ record (fresh (0 ∷ [])) { taken = 0 ∷ [] } ∷ [] }
chunk_is = refl

late_chunk_is : after published 1 (exchange_chunk 0) ≡ after published 1 (load_chunk 0)
late_chunk_is = refl

-- a pass that forks off knows the same, and owns and made nothing
forked_is : after published 0 fork ≡ record { words = published.words; views = record knower { forked = true } ∷ fresh (0 ∷ []) ∷ record knower { made = []; tokens = []; forked = true } ∷ [] }
forked_is = refl

-- a pass that takes another in has the tokens of both
abbrev pub met : State
met = after published 0 (join 1)

abbrev pub gathered : PassView
gathered = record knower { tokens = 1 ∷ 0 ∷ []; joined = 1 }

met_is : met ≡ record { words = published.words; views = gathered ∷ ended_view ∷ [] }
met_is = refl

-- the cells of the other that were not published are given up
given_up_is : (view_of (views_after small owned 1 (fresh (0 ∷ [])) (join 0)) 1).gone ≡ 0 ∷ []
given_up_is = refl

-- the first pass is spent once its one cell is published, and the second once it has seen the chunk taken
spent_is : is_spent small knower ≡ true
spent_is = refl

not_spent_is : is_spent small (fresh (0 ∷ [])) ≡ false
not_spent_is = refl

stamp_is : stamp_of (7 ∷ 9 ∷ []) small (record knower { gone = 3 ∷ 4 ∷ []; joined = 1; forked = true }) ≡ 2 ∷ 7 ∷ 9 ∷ 2 ∷ 2 ∷ 1 ∷ 1 ∷ 1 ∷ []
stamp_is = refl
