-- Lists of edges, and the tables that they stand for.
use Rattle.std.proofs.Common.{◌≡◌, refl, sym, ◌∙◌, ap, subst, ℕ, zero, suc, ◌-◌, ◌<◌, ◌≤◌, ℤ, List, [], ◌∷◌, ◌++◌, length, map, get_or, take, drop, arith}
use Rattle.std.specs.Prelude.{slice_index_or}
use Rattle.std.proofs.lemmas.List.{take_all}
use Rattle.diagram.specs.View.{View, StandsAt, IsEdge, Keeps}
use Rattle.diagram.proofs.LevelLaws.{stays, still_edge}
use Rattle.kind_laws.specs.Plain.{PlainEdge, plain}
use Rattle.kind_laws.specs.declared.kind.Edge.{Edge}
use Rattle.tables.specs.Table.{Table}
use Rattle.word_base.specs.declared.kind_name.KindName.{KindName}
use Rattle.word_apply.specs.Applied.{AllStand, AreEdges, plain_edges}

pub all_stay : (k : KindName) (v w : View) (l : ℕ) (ts : List Table) (es : List PlainEdge) → Keeps v w → AllStand k v l ts es → AllStand k w l ts es
all_stay k v w l [] [] keeps h = tt
all_stay k v w l [] (e ∷ es) keeps h = h
all_stay k v w l (t ∷ ts) [] keeps h = h
all_stay k v w l (t ∷ ts) (e ∷ es) keeps h = (stays k v w l t e keeps h.0, all_stay k v w l ts es keeps h.1)

pub still_edges : (k : KindName) (v w : View) (es : List PlainEdge) → Keeps v w → AreEdges k v es → AreEdges k w es
still_edges k v w [] keeps h = tt
still_edges k v w (e ∷ es) keeps h = (still_edge k v w e keeps h.0, still_edges k v w es keeps h.1)

-- good edges stand for tables over all levels
pub all_somewhere : (k : KindName) (v : View) (es : List PlainEdge) → AreEdges k v es → (ts : List Table) × AllStand k v 0 ts es
all_somewhere k v [] h = ([], tt)
all_somewhere k v (e ∷ es) h = let rest = all_somewhere k v es h.1 in (h.0.0 ∷ rest.0, (h.0.1, rest.1))

-- a list that is not empty is its first element and the rest
pub first_and_rest : {X : Type 0} (xs : List X) (x : X) → 1 ≤ length xs → x ≡ get_or xs 0 x → xs ≡ x ∷ take (length xs - 1) (drop 1 xs)
first_and_rest [] x h e = absurd (omega arith)
first_and_rest (y ∷ ys) x h e =
    let less : suc (length ys) - 1 ≡ length ys = omega arith in
    let whole : take (suc (length ys) - 1) ys ≡ ys = ap (λ (n : ℕ). take n ys) less ∙ take_all (length ys) ys (omega arith) in
    let same : x ≡ y = e in cc

pub shorter : {X : Type 0} (xs more : List X) (x : X) (t : ℕ) → t ≡ length xs → xs ≡ x ∷ more → length more < t
shorter xs more x t is e = let longer : length xs ≡ suc (length more) = ap length e in omega arith

-- the edge at a place stands for the table at the place
pub stands_there : {K X E : Type 0} (k : KindName) (v : View) (of : X → ℤ) (l w : ℕ) (ts : List Table) (es : List (Edge K X E)) (t : Table) (d : Edge K X E) → w < length es →
    AllStand k v l ts (plain_edges of es) → StandsAt k v l (slice_index_or ts w t) (plain of (slice_index_or es w d))
stands_there k v of l w ts [] t d low all = absurd (omega arith)
stands_there k v of l w [] (e ∷ es) t d low all = absurd all
stands_there k v of l zero (u ∷ us) (e ∷ es) t d low all = all.0
stands_there k v of l (suc w) (u ∷ us) (e ∷ es) t d low all = stands_there k v of l w us es t d (omega arith) all.1

pub is_empty : {X : Type 0} (xs : List X) → length xs < 1 → xs ≡ []
is_empty [] h = refl
is_empty (x ∷ xs) h = absurd (omega arith)

-- one more good edge at the end
pub one_more_edge : {K X E : Type 0} (k : KindName) (v : View) (of : X → ℤ) (es more : List (Edge K X E)) (e : Edge K X E) → more ≡ es ++ e ∷ [] →
    AreEdges k v (plain_edges of es) → IsEdge k v (plain of e) → AreEdges k v (plain_edges of more)
one_more_edge k v of es more e is all good = subst (λ (xs : List _). AreEdges k v (plain_edges of xs)) (sym is) (pushed es all)
  where
    pushed : (xs : List _) → AreEdges k v (plain_edges of xs) → AreEdges k v (plain_edges of (xs ++ e ∷ []))
    pushed [] h = (good, tt)
    pushed (x ∷ xs) h = (h.0, pushed xs h.1)
