-- Lists of edges, of which more and more are built.
use Rattle.word_base.specs.declared.kind_name.KindName.{KindName}
use Rattle.std.proofs.Common.{◌≡◌, refl, sym, ◌∙◌, ap, subst, ℕ, ℤ, pos, zero, suc, ◌+◌, ◌<◌, Bool, true, false, List, [], ◌∷◌, ◌++◌, length, replicate, take, get_or, arith, eqb-true, ⊎_elim}
use Rattle.std.specs.Prelude.{◌==◌, ◌||◌, slice_index_or, slice_set, Contains, map}
use Rattle.std.proofs.lemmas.Bool.{cases_Bool}
use Rattle.std.proofs.lemmas.List.{get_or_default, get_or-set_same, get_or-set_other, length-set, take_more, map-append}
use Rattle.circuits.proofs.Members.{Contains-cons, Contains-head}
use Rattle.tables.specs.Table.{Table}
use Rattle.kind_laws.specs.Plain.{PlainEdge, plain, plain_edge}
use Rattle.kind_laws.specs.declared.kind.Edge.{Edge}
use Rattle.diagram.specs.View.{View, StandsAt, IsEdge, Keeps}
use Rattle.diagram.proofs.LevelLaws.{stays}
use Rattle.word_apply.specs.Applied.{AreEdges, AllStand, plain_edges}
use Rattle.word_apply.proofs.EdgeLists.{still_edges}
use Rattle.cone_builder.specs.Built.{AreBuilt, or_listed}

pub still_built : (k : KindName) (v w : View) (table : ℕ → Table) (built : ℕ → Bool) (es : List PlainEdge) → Keeps v w → AreBuilt k v table built es → AreBuilt k w table built es
still_built k v w table built es keeps h = record {
  good = still_edges k v w es keeps h.good;
  stand = λ i d low p. stays k v w 0 (table i) (slice_index_or es i d) keeps (h.stand i d low p);
}

pub fewer_built : (k : KindName) (v : View) (table : ℕ → Table) (built some : ℕ → Bool) (es : List PlainEdge) → ((i : ℕ) → some i ≡ true → built i ≡ true) → AreBuilt k v table built es → AreBuilt k v table some es
fewer_built k v table built some es within h = record { good = h.good; stand = λ i d low q. h.stand i d low (within i q) }

pub none_built : (k : KindName) (v : View) (table : ℕ → Table) (es : List PlainEdge) → AreEdges k v es → AreBuilt k v table (λ i. false) es
none_built k v table es good = record { good = good; stand = λ i d low p. absurd (cc) }

-- ---- one more
pub with_edge : (k : KindName) (v : View) (es : List PlainEdge) (n : ℕ) (e : PlainEdge) → AreEdges k v es → IsEdge k v e → AreEdges k v (slice_set es n e)
with_edge k v [] n e good one = tt
with_edge k v (x ∷ es) zero e good one = (one, good.1)
with_edge k v (x ∷ es) (suc n) e good one = (good.0, with_edge k v es n e good.1 one)

other_built : (p q : Bool) → (p || (q || false)) ≡ true → q ≡ false → p ≡ true
other_built true q e f = refl
other_built false true e f = absurd (cc)
other_built false false e f = e

pub one_more_built : (k : KindName) (v w : View) (table : ℕ → Table) (built : ℕ → Bool) (es : List PlainEdge) (n : ℕ) (e : PlainEdge) → Keeps v w → AreBuilt k v table built es →
    StandsAt k w 0 (table n) e → IsEdge k w e → AreBuilt k w table (or_listed built (n ∷ [])) (slice_set es n e)
one_more_built k v w table built es n e keeps h stands good = record {
  good = with_edge k w es n e (still_edges k v w es keeps h.good) good;
  stand = λ i d low p.
      let below = subst (λ (j : ℕ). i < j) (length-set es n e) low in
      ⊎_elim (λ same. here i d below (eqb-true i n same)) (λ differs. elsewhere i d below differs (other_built (built i) (i == n) p differs)) (cases_Bool (i == n));
}
  where
    here : (i : ℕ) (d : PlainEdge) → i < length es → i ≡ n → StandsAt k w 0 (table i) (slice_index_or (slice_set es n e) i d)
    here i d low is =
        subst (λ (j : ℕ). StandsAt k w 0 (table j) (slice_index_or (slice_set es n e) j d)) (sym is)
        (subst (λ (x : PlainEdge). StandsAt k w 0 (table n) x) (sym (get_or-set_same es n e d (subst (λ (j : ℕ). j < length es) is low))) stands)

    apart : (i : ℕ) → (i == n) ≡ false → i ≡ n → ⊥
    apart i differs is = let same : (n == n) ≡ false = subst (λ (j : ℕ). (j == n) ≡ false) is differs in grind arith

    elsewhere : (i : ℕ) (d : PlainEdge) → i < length es → (i == n) ≡ false → built i ≡ true → StandsAt k w 0 (table i) (slice_index_or (slice_set es n e) i d)
    elsewhere i d low differs p =
        subst (λ (x : PlainEdge). StandsAt k w 0 (table i) x) (sym (get_or-set_other es n i e d (apart i differs)))
        (stays k v w 0 (table i) (slice_index_or es i d) keeps (h.stand i d low p))

-- ---- edges put behind one another
pub gathered_stand : (k : KindName) (v : View) (table : ℕ → Table) (built : ℕ → Bool) (es : List PlainEdge) (d : PlainEdge) (nets : List ℕ) → AreBuilt k v table built es →
    ((net : ℕ) → Contains nets net → (net < length es) × (built net ≡ true)) → AllStand k v 0 (map table nets) (map (λ net. slice_index_or es net d) nets)
gathered_stand k v table built es d [] h all = tt
gathered_stand k v table built es d (net ∷ nets) h all =
    let first = all net (Contains-head net nets) in
    (h.stand net d first.0 first.1, gathered_stand k v table built es d nets h (λ n has. all n (Contains-cons net nets n has)))

edge_at : (k : KindName) (v : View) (es : List PlainEdge) (n : ℕ) (d : PlainEdge) → n < length es → AreEdges k v es → IsEdge k v (slice_index_or es n d)
edge_at k v [] n d low good = absurd (omega arith)
edge_at k v (e ∷ es) zero d low good = good.0
edge_at k v (e ∷ es) (suc n) d low good = edge_at k v es n d (omega arith) good.1

pub gathered_good : (k : KindName) (v : View) (es : List PlainEdge) (d : PlainEdge) (nets : List ℕ) → AreEdges k v es → ((net : ℕ) → Contains nets net → net < length es) →
    AreEdges k v (map (λ net. slice_index_or es net d) nets)
gathered_good k v es d [] good all = tt
gathered_good k v es d (net ∷ nets) good all =
    (edge_at k v es net d (all net (Contains-head net nets)) good, gathered_good k v es d nets good (λ n has. all n (Contains-cons net nets n has)))

-- edges as plain data, at a place and with one changed
pub plain_at : {K X E : Type 0} (of : X → ℤ) (es : List (Edge K X E)) (n : ℕ) (d : Edge K X E) → slice_index_or (plain_edges of es) n (plain of d) ≡ plain of (slice_index_or es n d)
plain_at of [] n d = refl
plain_at of (e ∷ es) zero d = refl
plain_at of (e ∷ es) (suc n) d = plain_at of es n d

pub plain_set : {K X E : Type 0} (of : X → ℤ) (es : List (Edge K X E)) (n : ℕ) (e : Edge K X E) → plain_edges of (slice_set es n e) ≡ slice_set (plain_edges of es) n (plain of e)
plain_set of [] n e = refl
plain_set of (x ∷ es) zero e = refl
plain_set of (x ∷ es) (suc n) e = ap (λ (ps : List PlainEdge). plain of x ∷ ps) (plain_set of es n e)

pub plain_replicate : {K X E : Type 0} (of : X → ℤ) (n : ℕ) (e : Edge K X E) → plain_edges of (replicate n e) ≡ replicate n (plain of e)
plain_replicate of zero e = refl
plain_replicate of (suc n) e = ap (λ (ps : List PlainEdge). plain of e ∷ ps) (plain_replicate of n e)

pub gathered_more : (edges : List PlainEdge) (nets : List ℕ) (i : ℕ) (d e : PlainEdge) (into : List PlainEdge) → i < length nets → get_or nets i 0 < length edges →
    into ≡ map (λ net. slice_index_or edges net d) (take i nets) → e ≡ slice_index_or edges (get_or nets i 0) e →
    into ++ e ∷ [] ≡ map (λ net. slice_index_or edges net d) (take (i + 1) nets)
gathered_more edges nets i d e into low within so_far is =
    let f : ℕ → PlainEdge = λ net. slice_index_or edges net d in
    let last : e ≡ f (get_or nets i 0) = is ∙ get_or_default edges (get_or nets i 0) e d within in
    ap (λ (es : List PlainEdge). es ++ e ∷ []) so_far ∙ ap (λ (x : PlainEdge). map f (take i nets) ++ x ∷ []) last
    ∙ sym (ap (map f) (take_more nets i 0 low) ∙ map-append f (take i nets) (get_or nets i 0 ∷ []))

-- some edge, where the law asks for one and does not look at it
pub no_edge : PlainEdge
no_edge = plain_edge (pos 0) (pos 0) 0
