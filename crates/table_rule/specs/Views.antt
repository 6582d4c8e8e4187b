-- The views of passes, and what a pass learns.
use Rattle.std.specs.Prelude.{ℕ, zero, suc, ◌+◌, ◌*◌, List, [], ◌∷◌, ◌++◌, true, false, ◌||◌, take, drop}
use Rattle.std.specs.List.{range_with_len}
use Rattle.table_rule.specs.declared.layout.Layout.{Layout}
use Rattle.table_rule.specs.declared.view.PassView.{PassView}

-- a pass that knows nothing and has these tokens
abbrev pub fresh : List ℕ → PassView
fresh tokens = record {
  seen = [];
  words = [];
  known = [];
  made = [];
  held = [];
  draft = [];
  gone = [];
  taken = [];
  tokens = tokens;
  joined = 0;
  forked = false;
  ended = false;
}

-- the first pass has all tokens
abbrev pub first_view : Layout → PassView
first_view L = fresh (range_with_len 0 L.tokens)

-- what is left of a pass that met in another
abbrev pub ended_view : PassView
ended_view = record (fresh []) { ended = true }

-- the bucket was found with an id, or empty
abbrev pub see : ℕ → ℕ → PassView → PassView
see b zero v = v
see b (suc id) v = record v { seen = (b, suc id) ∷ v.seen }

-- a word of a body was read
abbrev pub read : ℕ → ℕ → ℕ → PassView → PassView
read id i word v = record v { words = (id, i, word) ∷ v.words }

-- the id is known with its body
abbrev pub know : ℕ → List ℕ → PassView → PassView
know id body v = record v { known = v.known ++ (id, body) ∷ [] }

-- a word was written into the draft, behind the words before it
abbrev pub write : ℕ → ℕ → PassView → PassView
write i word v = record v { draft = take i v.draft ++ word ∷ [] }

-- the draft was published in a bucket
abbrev pub publish : ℕ → ℕ → PassView → PassView
publish b id v = record v {
  seen = (b, id) ∷ v.seen;
  known = v.known ++ (id, v.draft) ∷ [];
  made = v.made ++ id ∷ [];
  held = drop 1 v.held;
  draft = [];
}

-- the chunk was found taken, or free
abbrev pub see_chunk : ℕ → ℕ → PassView → PassView
see_chunk h zero v = v
see_chunk h (suc n) v = record v { taken = h ∷ v.taken }

-- the chunk was taken, with its cells
abbrev pub take_chunk : Layout → ℕ → PassView → PassView
take_chunk L h v = record v { held = range_with_len (h * L.chunk) L.chunk; taken = h ∷ v.taken }

-- A pass that forks keeps all that it has
abbrev pub forked_left : PassView → PassView
forked_left v = record v { forked = true }

-- and the new pass knows the same, and owns nothing
abbrev pub forked_right : PassView → PassView
forked_right v = record (fresh []) { seen = v.seen; words = v.words; known = v.known; taken = v.taken; forked = true }

-- A pass that deals keeps its tokens but the first, which the new pass gets
abbrev pub dealt_left : PassView → PassView
dealt_left v = record v { tokens = drop 1 v.tokens }

abbrev pub dealt_right : PassView → PassView
dealt_right v = fresh (take 1 v.tokens)

-- a pass takes another in, whose cells are given up
abbrev pub joined_view : PassView → PassView → PassView
joined_view v u = record {
  seen = v.seen ++ u.seen;
  words = v.words ++ u.words;
  known = v.known ++ u.known;
  made = v.made ++ u.made;
  held = v.held;
  draft = v.draft;
  gone = v.gone ++ u.held ++ u.gone;
  taken = v.taken ++ u.taken;
  tokens = v.tokens ++ u.tokens;
  joined = v.joined + u.joined + 1;
  forked = v.forked || u.forked;
  ended = false;
}
