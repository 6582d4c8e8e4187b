-- Which node a join makes, and when it refuses.
use Rattle.std.proofs.Common.{◌≡◌, refl, sym, ◌∙◌, ap, subst, ℕ, zero, suc, ◌+◌, ◌<◌, ◌≤◌, List, [], ◌∷◌, true, false, length, drop, arith, inl, inr}
use Rattle.std.specs.Prelude.{Some, Result, Ok, Err, IfOk, IsErr}
use Rattle.std.specs.FinMap as map
use Rattle.std.specs.List.{Contains}
use Rattle.std.specs.Ordering.{nat_cmp}
use Rattle.std.specs.Result.{IsErrAnd}
use Rattle.std.proofs.lemmas.Bool.{false_from_ne_true}
use Rattle.std.proofs.lemmas.List.Elements.{Contains-append_cases}
use Rattle.word_base.specs.declared.decomp.Decomp.{Decomp}
use Rattle.word_base.specs.declared.kind_name.KindName.{KindName}
use Rattle.record_store.specs.StoreView.{StoreView, find_in, HasBody}
use Rattle.record_store.specs.Interns.{Interns}
use Rattle.record_store.specs.declared.store.StoreFull.{StoreFull}
use Rattle.tables.specs.Table.{Table, merged}
use Rattle.tables.specs.Tree.{Weights, Shape, leaf, node, Tree}
use Rattle.tables.specs.Canonical.{canonical, IsNodeOf}
use Rattle.tables.specs.Fits.{difference_in_range, fits}
use Rattle.tables.specs.Pieces.{Piece, InNodes, SomeUnfit, join_work}
use Rattle.tables.proofs.CanonicalLaws.{allowed_below, canonical-merged}
use Rattle.kind_laws.proofs.RootLaws.{root_at, fits_difference}
use Rattle.tables.proofs.TableLaws.{IsOver-merged, part0-merged, part1-merged}
use Rattle.kind_laws.specs.Body.{body_of, FitsBody, LeavesZeros, low_weights, high_weights}
use Rattle.kind_laws.specs.Graph.{HasShape, IsGoodStore}
use Rattle.kind_laws.specs.Kind.{JoinsTo}
use Rattle.kind_laws.specs.Plain.{PlainEdge, PlainJoined, skip, made, over_shape, answered}
use Rattle.kind_laws.specs.declared.fields.Fields.{Fields}
use Rattle.kind_laws.proofs.BodyLaws.{node_tells}
use Rattle.kind_laws.proofs.GraphLaws.{HasShape-extends, same_id_of_shape}
use Rattle.diagram.specs.View.{View, letter_at, StandsAt, Keeps, IsGood}
use Rattle.diagram.specs.Answers.{HasNodeShape, Makes, HasCause, Answers}
use Rattle.diagram.specs.Calls.{CanJoin, KeepsGood}
use Rattle.diagram.specs.declared.limit.Limit.{Limit}
use Rattle.diagram.specs.declared.limit.Limit.TheVariants as limit
use Rattle.diagram.proofs.LevelLaws.{has_letter, raise, stands_somewhere}
use Rattle.diagram.proofs.StoreLaws.{interned_keeps, interned_good, keeps_itself}
use Rattle.diagram.proofs.JoinLaws.{Joinable, join_stands, joined_tree, shapes_of}

-- the node that a join makes is the top node of the merged table's diagram
record MadeNode (k : KindName) (v : View) (l : ℕ) (t : Table) (body : List ℕ) : Type 0 where
  fields : Fields
  fits_body : FitsBody fields
  zeros : LeavesZeros k fields
  body_is : body ≡ body_of fields
  level_is : fields.level ≡ l
  low_shape : Shape
  high_shape : Shape
  low : HasShape k (find_in v.store) fields.low low_shape
  high : HasShape k (find_in v.store) fields.high high_shape
  diagram : (canonical k (drop l v.letters) l t).shape ≡ node l (low_weights k fields) low_shape (high_weights k fields) high_shape

made_node : (k : KindName) (v : View) (l : ℕ) (p q : Table) (low high : PlainEdge) (root : Weights) (body : List ℕ) → Joinable k v l p q low high →
    JoinsTo k (letter_at v.letters l) l low high (made root body) → MadeNode k v l (merged (letter_at v.letters l) p q) body
made_node k v l p q low high root body j to =
    let d = letter_at v.letters l in
    let ds = drop (l + 1) v.letters in
    let s = (canonical k ds (l + 1) p).shape in
    let r = (canonical k ds (l + 1) q).shape in
    let low_shape = j.low_stands.stands.shape_is in
    let high_shape = j.high_stands.stands.shape_is in
    let answer = to.joins s r (shapes_of k (find_in v.store) v.letters low.node high.node s r j.good low_shape high_shape) in
    let letter = has_letter k v l j.low_stands.allowed j.below in
    let tree : canonical k (d ∷ ds) l (merged d p q) ≡ record { root = root; shape = node l (low_weights k answer.fields) s (high_weights k answer.fields) r } =
    canonical-merged k d ds l p q j.low_stands.stands.over j.high_stands.stands.over
    ∙ joined_tree k v l p q low high root body j to in
    record {
      fields = answer.fields;
      fits_body = answer.fits;
      zeros = answer.zeros;
      body_is = answer.body_is;
      level_is = answer.level_is;
      low_shape = s;
      high_shape = r;
      low = subst (λ (n : ℕ). HasShape k (find_in v.store) n s) (sym answer.low_is) low_shape;
      high = subst (λ (n : ℕ). HasShape k (find_in v.store) n r) (sym answer.high_is) high_shape;
      diagram = ap (λ (xs : List Decomp). (canonical k xs l (merged d p q)).shape) letter.letters ∙ ap (λ (t : Tree). t.shape) tree;
    }

-- the shape of the made node
abbrev top_node : {k : KindName} {v : View} {l : ℕ} {t : Table} {body : List ℕ} → MadeNode k v l t body → Shape
top_node {k} {v} {l} m = node l (low_weights k m.fields) m.low_shape (high_weights k m.fields) m.high_shape

among : (k : KindName) (v : View) (d : Decomp) (l : ℕ) (p q : Table) (body : List ℕ) (m : MadeNode k v l (merged d p q) body) →
    InNodes k v.letters (join_work d l p q) (top_node m)
among k v d l p q body m =
    (record { level = l; table = merged d p q }, (2, omega arith, refl), subst (IsNodeOf (top_node m)) (sym m.diagram) (inl refl))

has_top : (k : KindName) (v w : View) (l : ℕ) (t : Table) (body : List ℕ) (m : MadeNode k v l t body) (id : ℕ) → Keeps v w → find_in w.store id ≡ Some body →
    HasShape k (find_in w.store) id (top_node m)
has_top k v w l t body m id keeps found = record {
  fields = m.fields;
  fits = m.fits_body;
  zeros = m.zeros;
  known = found ∙ ap Some m.body_is;
  level_is = m.level_is;
  low_is = refl;
  high_is = refl;
  low = HasShape-extends k (find_in v.store) (find_in w.store) keeps.known m.fields.low m.low_shape m.low;
  high = HasShape-extends k (find_in v.store) (find_in w.store) keeps.known m.fields.high m.high_shape m.high;
}

-- a body that is not known is that of no id with its shape
no_such_id : (k : KindName) (v : View) (l : ℕ) (t : Table) (body : List ℕ) (m : MadeNode k v l t body) → IsGoodStore k (find_in v.store) v.letters →
    (HasBody v.store body → ⊥) → (id : ℕ) → HasShape k (find_in v.store) id (top_node m) → ⊥
no_such_id k v l t body m good unknown id h =
    let find = find_in v.store in
    let e1 = same_id_of_shape k find good.distinct m.low_shape h.fields.low m.fields.low h.low m.low in
    let e2 = same_id_of_shape k find good.distinct m.high_shape h.fields.high m.fields.high h.high m.high in
    let one = node_tells k h.fields m.fields h.zeros m.zeros (h.level_is ∙ sym m.level_is) e1 e2 h.low_is h.high_is in
    unknown (id, h.known ∙ ap (λ (f : Fields). Some (body_of f)) one ∙ ap Some (sym m.body_is))

pub in_one : {X : Type 0} (x y : X) → Contains (x ∷ []) y → x ≡ y
in_one x y (zero, low, at) = at
in_one x y (suc n, low, at) = absurd (omega arith)

-- ---- the answers of a join
makes_nothing : (k : KindName) (v w : View) (ps : List Piece) → w.store.made ≡ v.store.made → Makes k v w ps
makes_nothing k v w ps same id h = inl (subst (λ (ids : List ℕ). Contains ids id) same h)

pub no_cause : {X : Type 0} (k : KindName) (w : View) (ps : List Piece) (x : X) → HasCause k w ps (Ok x)
no_cause k w ps x = record { overflow = λ e. absurd (cc); full = λ e. absurd (cc) }

pub answers_at_once : (k : KindName) (v : View) (ps : List Piece) (l : ℕ) (t : Table) (e : PlainEdge) → StandsAt k v l t e → Answers k v v ps l t (Ok e)
answers_at_once k v ps l t e h = record { made = makes_nothing k v v ps refl; cause = no_cause k v ps e; stands = h }

pub answers_overflow : (k : KindName) (v : View) (ps : List Piece) (l : ℕ) (t : Table) → SomeUnfit k v.letters ps → Answers k v v ps l t (Err limit.Overflow)
answers_overflow k v ps l t unfit = record {
  made = makes_nothing k v v ps refl;
  cause = record { overflow = λ e. unfit; full = λ e. absurd (cc) };
  stands = tt;
}

-- where the difference of the additive weights is out of range, the joined table does not fit
pub join_unfit : (k : KindName) (v : View) (l : ℕ) (p q : Table) (low high : PlainEdge) → Joinable k v l p q low high →
    difference_in_range k (letter_at v.letters l) (over_shape low leaf) (over_shape high leaf) ≡ false → SomeUnfit k v.letters (join_work (letter_at v.letters l) l p q)
join_unfit k v l p q low high j far =
    let d = letter_at v.letters l in
    let ds = drop (l + 1) v.letters in
    let n = length ds in
    let m = merged d p q in
    let letter = has_letter k v l j.low_stands.allowed j.below in
    let below = allowed_below k d ds letter.allowed in
    let o = j.low_stands.stands in
    let r = j.high_stands.stands in
    let near : fits k (drop l v.letters) m ≡ true → difference_in_range k d (over_shape low leaf) (over_shape high leaf) ≡ true =
    λ fit. fits_difference k d ds m (over_shape low leaf) (over_shape high leaf) letter.allowed (IsOver-merged n d p q o.over r.over)
    (o.root_is ∙ root_at k ds (l + 1) 1 p below o.over ∙ ap (λ (t : Table). (canonical k ds 1 t).root) (sym (part0-merged d p q)))
    (r.root_is ∙ root_at k ds (l + 1) 1 q below r.over ∙ ap (λ (t : Table). (canonical k ds 1 t).root) (sym (part1-merged n d p q o.over r.over)))
    (subst (λ (xs : List Decomp). fits k xs m ≡ true) letter.letters fit) in
    (record { level = l; table = m }, (2, omega arith, refl), false_from_ne_true _ (λ fit. let e = near fit in absurd (cc)))

-- the view after a body was interned
abbrev pub with_store : View → StoreView → View
with_store v w = record { store = w; letters = v.letters }

found_id : (v w : StoreView) (body : List ℕ) (result : Result ℕ StoreFull) (id : ℕ) → Interns v w body result → result ≡ Ok id → find_in w id ≡ Some body
found_id v w body result id interns is =
    (subst (λ (r : Result ℕ StoreFull). IfOk r (λ i. (find_in w i ≡ Some body) × (0 < i) × (i ≤ w.room))) is interns.answers).0

pub joined_answers : (k : KindName) (v : View) (w : StoreView) (l : ℕ) (p q : Table) (low high e : PlainEdge) (root : Weights) (body : List ℕ)
    (result : Result ℕ StoreFull) → Joinable k v l p q low high → JoinsTo k (letter_at v.letters l) l low high (made root body) → Interns v.store w body result →
    result ≡ Ok e.node → e.root ≡ root →
    Answers k v (with_store v w) (join_work (letter_at v.letters l) l p q) l (merged (letter_at v.letters l) p q) (Ok e)
joined_answers k v w l p q low high e root body result j to interns is root_is =
    let d = letter_at v.letters l in
    let x = with_store v w in
    let ps = join_work d l p q in
    let keeps = interned_keeps v w body result interns in
    let m = made_node k v l p q low high root body j to in
    let is_made : (i : ℕ) → result ≡ Ok i → HasNodeShape k x ps i =
    λ i same. (top_node m, among k v d l p q body m, has_top k v x l (merged d p q) body m i keeps (found_id v.store w body result i interns same)) in
    record {
      made = λ id h. elim interns.made [
        | inl same ↦ inl (subst (λ (ids : List ℕ). Contains ids id) same h)
        | inr (i, same, fresh, more) ↦ elim (Contains-append_cases v.store.made (i ∷ []) id (subst (λ (ids : List ℕ). Contains ids id) more h)) [
          | inl before ↦ inl before
          | inr one ↦ inr (subst (HasNodeShape k x ps) (in_one i id one) (is_made i same))
        ]
      ];
      cause = no_cause k x ps e;
      stands = join_stands k v x l p q low high e (made root body) j keeps to (root_is, found_id v.store w body result e.node interns is);
    }

pub full_answers : (k : KindName) (v : View) (w : StoreView) (l : ℕ) (p q : Table) (low high : PlainEdge) (root : Weights) (body : List ℕ)
    (result : Result ℕ StoreFull) (f : StoreFull) → Joinable k v l p q low high → JoinsTo k (letter_at v.letters l) l low high (made root body) →
    Interns v.store w body result → result ≡ Err f →
    Answers k v (with_store v w) (join_work (letter_at v.letters l) l p q) l (merged (letter_at v.letters l) p q) (Err limit.Full)
full_answers k v w l p q low high root body result f j to interns is =
    let d = letter_at v.letters l in
    let ps = join_work d l p q in
    let m = made_node k v l p q low high root body j to in
    let full = interns.full (subst IsErr (sym is) refl) in
    let back : (id : ℕ) → HasShape k (find_in w) id (top_node m) → HasShape k (find_in v.store) id (top_node m) =
    λ id h. subst (λ (known : map.FinMap nat_cmp (List ℕ)). HasShape k (λ i. map.get known i) id (top_node m)) full.2 h in
    record {
      made = makes_nothing k v (with_store v w) ps full.3;
      cause = record {
        overflow = λ e. absurd (cc);
        full = λ e. (full.0, (top_node m, among k v d l p q body m, λ id h. no_such_id k v l (merged d p q) body m j.good full.1 id (back id h)));
      };
      stands = tt;
    }

-- a store stays good, whatever it makes of the body of a join
pub join_keeps_good : (k : KindName) (v : View) (l : ℕ) (p q : Table) (low high : PlainEdge) (root : Weights) (body : List ℕ) → IsGood k v →
    Joinable k v l p q low high → JoinsTo k (letter_at v.letters l) l low high (made root body) → KeepsGood k v body
join_keeps_good k v l p q low high root body good j to w result interns =
    let d = letter_at v.letters l in
    let keeps = interned_keeps v w body result interns in
    let sum : 0 + l ≡ l = omega arith in
    interned_good k v w body result good interns (λ id is.
    let e : PlainEdge = record { root = root; node = id } in
    let stands = join_stands k v (with_store v w) l p q low high e (made root body) j keeps to (refl, found_id v.store w body result id interns is) in
    (_, root, (raise k (with_store v w) e l 0 l (merged d p q) sum stands).stands))

-- ---- at the call
-- the exit of a `?` returns what the call refused
pub refused : {T : Type 0} (k : KindName) (v w : View) (ps : List Piece) (l : ℕ) (t : Table) (f : T → PlainEdge) (result : Result T Limit) (e : Limit) →
    IsErrAnd result (λ y. y ≡ e) → Answers k v w ps l t (Err e) → Answers k v w ps l t (answered f result)
refused k v w ps l t f (Ok x) e is answers = absurd is
refused k v w ps l t f (Err y) e is answers = subst (λ (z : Limit). Answers k v w ps l t (Err z)) (sym is) answers

pub same_letter : (k : KindName) (v : View) (l : ℕ) (d : Decomp) (low high : PlainEdge) (joined : PlainJoined) → d ≡ letter_at v.letters l →
    JoinsTo k d l low high joined → JoinsTo k (letter_at v.letters l) l low high joined
same_letter k v l d low high joined is to = subst (λ (x : Decomp). JoinsTo k x l low high joined) is to

pub joinable : (k : KindName) (v : View) (l : ℕ) (p q : Table) (low high : PlainEdge) → IsGood k v → CanJoin k v l low high →
    StandsAt k v (l + 1) p low → StandsAt k v (l + 1) q high → Joinable k v l p q low high
joinable k v l p q low high good can h g = record { good = good.store; below = can.below; low_stands = h; high_stands = g }

-- tables that the two edges stand for below the level
pub record SomeTables (k : KindName) (v : View) (l : ℕ) (low high : PlainEdge) : Type 0 where
  pub first : Table
  pub second : Table
  pub joinable : Joinable k v l first second low high

pub some_tables : (k : KindName) (v : View) (l : ℕ) (low high : PlainEdge) → IsGood k v → CanJoin k v l low high → SomeTables k v l low high
some_tables k v l low high good can =
    let below = can.below in
    let low_below = can.low_below in
    let high_below = can.high_below in
    let next : l + 1 ≤ length v.letters = omega arith in
    let p = stands_somewhere k v low (l + 1) can.low_good (omega arith) next in
    let q = stands_somewhere k v high (l + 1) can.high_good (omega arith) next in
    record { first = p.0; second = q.0; joinable = joinable k v l p.0 q.0 low high good can p.1 q.1 }

pub skip_answers : (k : KindName) (v : View) (l : ℕ) (p q : Table) (low high e : PlainEdge) → Joinable k v l p q low high →
    JoinsTo k (letter_at v.letters l) l low high (skip e) →
    Answers k v v (join_work (letter_at v.letters l) l p q) l (merged (letter_at v.letters l) p q) (Ok e)
skip_answers k v l p q low high e j to =
    answers_at_once k v _ l _ e (join_stands k v v l p q low high e (skip e) j (keeps_itself v) to refl)

-- the view that has the new store and the old letters
pub same_view : (v w : View) → w.letters ≡ v.letters → with_store v w.store ≡ w
same_view v w e = ap (λ (ds : List Decomp). record { store = w.store; letters = ds }) (sym e)
