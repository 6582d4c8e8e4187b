-- What a walk over a store gathers.
use Rattle.std.proofs.Common.{◌≡◌, refl, sym, ◌∙◌, ap, subst, ℕ, ℤ, pos, List, [], Bool, drop}
use Rattle.std.specs.Prelude.{unsigned_abs}
use Rattle.std.proofs.Math.Nat.{one-dvd}
use Rattle.std.proofs.lemmas.Nat.Gcd.{dvd_refl}
use Rattle.std.proofs.lemmas.Option.{same_Some}
use Rattle.integers.specs.Gcd.{gcd}
use Rattle.integers.proofs.GcdLaws.{gcd_is, gcd-zero_left, gcd-zero_right, gcd_comm, gcd_assoc}
use Rattle.word_base.specs.declared.kind_name.KindName.{KindName}
use Rattle.word_base.specs.declared.kind_name.KindName.TheVariants.{Evbdd, StarBmd, Hdd, KStarBmd}
use Rattle.marks.specs.Marked.{none_of}
use Rattle.record_store.specs.StoreView.{find_in}
use Rattle.tables.specs.Tree.{Weights, Shape, leaf, node}
use Rattle.tables.specs.Canonical.{canonical, add_nodes}
use Rattle.kind_laws.specs.Body.{low_weights, high_weights}
use Rattle.kind_laws.specs.Content.{content_of_edge, content_of_fields}
use Rattle.kind_laws.specs.Graph.{Lookup, HasShape}
use Rattle.kind_laws.specs.Plain.{PlainEdge}
use Rattle.kind_laws.specs.declared.fields.Fields.{Fields}
use Rattle.kind_laws.proofs.BodyLaws.{body_of-tells}
use Rattle.diagram.specs.Contents.{GathersContents, content_of_node, contents}
use Rattle.diagram.specs.Totals.{IsContent}
use Rattle.diagram.specs.View.{View, StandsAt}
use Rattle.diagram.proofs.BelowLaws.{AddsNone, AreBothWalked, child_shapes, cleared}
use Rattle.diagram.proofs.ContentLaws.{content_below, node_added, contents_added, content_of_canonical}
use Rattle.diagram.proofs.LevelLaws.{allowed_from}

pub none_gathers : (k : KindName) (find : Lookup) (id : ℕ) (marks : List Bool) (w : ℤ) → AddsNone k find id marks → GathersContents k find id marks w w
none_gathers k find id marks w none s found n shape met is =
    subst (λ (ts : List Shape). w ≡ pos (gcd n (contents k ts))) (sym (none s found shape met)) is

-- a body's content is that of its node
fields_content : (k : KindName) (f : Fields) → content_of_fields k f ≡ content_of_node k (low_weights k f) (high_weights k f)
fields_content Evbdd f = refl
fields_content StarBmd f = refl
fields_content Hdd f = refl
fields_content KStarBmd f = refl

node_second : (n c m : ℕ) → gcd (gcd n c) m ≡ gcd (gcd n m) c
node_second n c m = gcd_assoc n c m ∙ ap (gcd n) (gcd_comm c m) ∙ sym (gcd_assoc n m c)

pub gathers_node : (k : KindName) (find : Lookup) (id low high : ℕ) (old next new : List Bool) (both : AreBothWalked k find id low high old next new)
    (before here then after : ℤ) → here ≡ pos (gcd (unsigned_abs before) (content_of_fields k both.step.inner.fields)) →
    GathersContents k find low old here then → GathersContents k find high next then after → GathersContents k find id old before after
gathers_node k find id low high old next new both before here then after here_is lows highs s found n shape met is = at s shape
  where
    at : (x : Shape) → HasShape k find id x → after ≡ pos (gcd n (contents k (add_nodes x found)))
    at leaf h = absurd (both.apart h)
    at (node l a t b r) h =
        let f = both.step.inner in
        let one : f.fields ≡ h.fields = body_of-tells f.fields h.fields f.fits h.fits (same_Some _ _ (sym f.known ∙ h.known)) in
        let m = content_of_node k a b in
        let node_content : content_of_fields k f.fields ≡ m =
        ap (content_of_fields k) one ∙ fields_content k h.fields ∙ ap (λ (w : Weights). content_of_node k w (high_weights k h.fields)) h.low_is ∙ ap (content_of_node k a) h.high_is in
        let first : here ≡ pos (gcd (gcd n m) (contents k found)) =
        here_is ∙ ap (λ (w : ℤ). pos (gcd (unsigned_abs w) (content_of_fields k f.fields))) is
        ∙ ap (λ (x : ℕ). pos (gcd (gcd n (contents k found)) x)) node_content
        ∙ ap pos (node_second n (contents k found) m) in
        let children = child_shapes k find id low high l a t b r both.step h in
        let second : then ≡ pos (gcd (gcd n m) (contents k (add_nodes t found))) = lows t found (gcd n m) children.0 met first in
        let third : after ≡ pos (gcd (gcd n m) (contents k (add_nodes r (add_nodes t found)))) =
        highs r (add_nodes t found) (gcd n m) children.1 (both.lows t found children.0 met) second in
        third ∙ ap pos (gcd_assoc n m (contents k (add_nodes r (add_nodes t found)))) ∙ ap (λ (x : ℕ). pos (gcd n x)) (sym (node_added k l a t b r found))

-- 1 and any number have the divisor 1 alone in common
pub gcd-one_left : (n : ℕ) → gcd 1 n ≡ 1
gcd-one_left n = gcd_is 1 n 1 (dvd_refl 1, one-dvd n, λ d p q. p)

-- ---- the whole walk
pub gathered : (k : KindName) (v w : View) (e : PlainEdge) (cells : ℕ) (old : List Bool) (before after : ℤ) → w ≡ v → old ≡ none_of cells →
    before ≡ pos (content_of_edge k e.root) → GathersContents k (find_in w.store) e.node old before after → IsContent k v e after
gathered k v w e cells old before after same clear begins gathers l t h =
    let here = subst (λ (x : View). StandsAt k x l t e) (sym same) h in
    let ds = drop l w.letters in
    let tree = canonical k ds l t in
    let root = content_of_edge k e.root in
    let start : before ≡ pos (gcd root 0) = begins ∙ ap pos (sym (gcd-zero_right root)) in
    let all : contents k (add_nodes tree.shape []) ≡ content_below k tree.shape = contents_added k tree.shape [] ∙ gcd-zero_left (content_below k tree.shape) in
    gathers tree.shape [] root here.stands.shape_is (cleared k (find_in w.store) cells old clear) start
    ∙ ap (λ (n : ℕ). pos (gcd root n)) all
    ∙ ap (λ (x : Weights). pos (gcd (content_of_edge k x) (content_below k tree.shape))) here.stands.root_is
    ∙ ap pos (sym (content_of_canonical k ds l t (allowed_from k w.letters l here.allowed) here.stands.over))
