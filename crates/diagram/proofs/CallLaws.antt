-- How the answers of calls that follow one another make that of the whole, and how an answer at one level is one at the levels above.
use Rattle.std.proofs.Common.{◌≡◌, refl, sym, ◌∙◌, subst, ℕ, zero, suc, ◌+◌, ◌-◌, ◌<◌, ◌≤◌, List, [], ◌∷◌, length, drop, min, arith, inl, inr}
use Rattle.std.specs.Prelude.{Result, Ok, Err, IfOk}
use Rattle.word_base.specs.declared.decomp.Decomp.{Decomp}
use Rattle.word_base.specs.declared.kind_name.KindName.{KindName}
use Rattle.record_store.specs.StoreView.{find_in}
use Rattle.tables.specs.Table.{Table, halves, IsOver}
use Rattle.tables.specs.Pieces.{Piece, pieces, InNodes, SomeUnfit}
use Rattle.tables.proofs.PieceLaws.{Covers}
use Rattle.kind_laws.specs.Plain.{PlainEdge}
use Rattle.kind_laws.proofs.GraphLaws.{HasShape-extends}
use Rattle.diagram.specs.Answers.{Makes, HasCause, Causes, Answers}
use Rattle.diagram.specs.Calls.{IsOfEach, IsOfBoth, IsOfParts, ArePartsOfBoth, PlainSplit, Splits, upper}
use Rattle.diagram.specs.View.{View, StandsAt, IsEdge, top_of, Keeps}
use Rattle.diagram.specs.declared.limit.Limit.{Limit}
use Rattle.diagram.specs.declared.limit.Limit.TheVariants as limit
use Rattle.word_base.specs.declared.weight.Overflow.{Overflow}
use Rattle.diagram.proofs.JoinCauses.{answers_overflow, no_cause}
use Rattle.diagram.proofs.LevelLaws.{from_level, descend, ascend, top_within}
use Rattle.diagram.proofs.StoreLaws.{keeps_itself, keeps_on}

-- the calls so far made nodes of the pieces alone
pub record Ran (k : KindName) (v w : View) (ps : List Piece) : Type 0 where
  pub keeps : Keeps v w
  pub made : Makes k v w ps

pub ran_nothing : (k : KindName) (v : View) (ps : List Piece) → Ran k v v ps
ran_nothing k v ps = record { keeps = keeps_itself v; made = λ id h. inl h }

made_on : (k : KindName) (v w x : View) (qs ps : List Piece) → Keeps v w → Keeps w x → Makes k v w qs → Makes k w x ps → Covers k v.letters qs ps → Makes k v x qs
made_on k v w x qs ps before after first second covers id h =
    let letters = after.letters ∙ before.letters in
    let Nodes : List Piece → List Decomp → Type 0 = λ rs ds. (s : _) → InNodes k ds rs s → InNodes k ds qs s in
    elim (second id h) [
      | inl was ↦ elim (first id was) [
        | inl old ↦ inl old
        | inr (s, among, shape) ↦ inr (s, subst (λ (ds : List Decomp). InNodes k ds qs s) (sym after.letters) among, HasShape-extends k (find_in w.store) (find_in x.store) after.known id s shape)
      ]
      | inr (s, among, shape) ↦
          inr (s, subst (λ (ds : List Decomp). InNodes k ds qs s) (sym letters) (covers.nodes s (subst (λ (ds : List Decomp). InNodes k ds ps s) letters among)), shape)
    ]

cause_on : {X Y : Type 0} (k : KindName) (x : View) (ds : List Decomp) (qs ps : List Piece) (r : Result X Limit) (q : Result Y Limit) → x.letters ≡ ds →
    Covers k ds qs ps → ((e : Limit) → q ≡ Err e → r ≡ Err e) → HasCause k x ps r → HasCause k x qs q
cause_on k x ds qs ps r q letters covers same cause =
    let here : Covers k x.letters qs ps = subst (λ (es : List Decomp). Covers k es qs ps) (sym letters) covers in
    record {
      overflow = λ e. here.unfit (cause.overflow (same _ e));
      full = λ e. let f = cause.full (same _ e) in (f.0, (f.1.0, here.nodes f.1.0 f.1.1, f.1.2));
    }

pub ran_then : (k : KindName) (v w x : View) (qs ps : List Piece) (l : ℕ) (t : Table) (r : Result PlainEdge Limit) → Ran k v w qs → Keeps w x →
    Covers k v.letters qs ps → Answers k w x ps l t r → Ran k v x qs
ran_then k v w x qs ps l t r ran keeps covers answers = record {
  keeps = keeps_on v w x ran.keeps keeps;
  made = made_on k v w x qs ps ran.keeps keeps ran.made answers.made covers;
}

-- the last call's answer is that of the whole
pub answers_then : (k : KindName) (v w x : View) (qs ps : List Piece) (l : ℕ) (t : Table) (r : Result PlainEdge Limit) → Ran k v w qs → Keeps w x →
    Covers k v.letters qs ps → Answers k w x ps l t r → Answers k v x qs l t r
answers_then k v w x qs ps l t r ran keeps covers answers = record {
  made = made_on k v w x qs ps ran.keeps keeps ran.made answers.made covers;
  cause = cause_on k x v.letters qs ps r r (keeps.letters ∙ ran.keeps.letters) covers (λ e h. h) answers.cause;
  stands = answers.stands;
}

-- and so is its refusal, whatever was to be answered
pub refuses_then : (k : KindName) (v w x : View) (qs ps : List Piece) (l m : ℕ) (t u : Table) (e : Limit) → Ran k v w qs → Keeps w x →
    Covers k v.letters qs ps → Answers k w x ps m u (Err e) → Answers k v x qs l t (Err e)
refuses_then k v w x qs ps l m t u e ran keeps covers answers = record {
  made = made_on k v w x qs ps ran.keeps keeps ran.made answers.made covers;
  cause = cause_on k x v.letters qs ps _ _ (keeps.letters ∙ ran.keeps.letters) covers (λ d h. h) answers.cause;
  stands = tt;
}

-- an overflow after the calls so far
pub ran_overflows : (k : KindName) (v w : View) (ps : List Piece) (l : ℕ) (t : Table) → Ran k v w ps → SomeUnfit k v.letters ps →
    Answers k v w ps l t (Err limit.Overflow)
ran_overflows k v w ps l t ran unfit = record {
  made = ran.made;
  cause = record { overflow = λ e. subst (λ (ds : List Decomp). SomeUnfit k ds ps) (sym ran.keeps.letters) unfit; full = λ e. absurd (cc) };
  stands = tt;
}

-- ---- calls that answer no edge
pub causes_of : (k : KindName) (v w : View) (ps : List Piece) (l : ℕ) (t : Table) (r : Result PlainEdge Limit) → Answers k v w ps l t r → Causes k v w ps r
causes_of k v w ps l t r answers = record { made = answers.made; cause = answers.cause }

-- nothing was refused
pub ran_causes : {X : Type 0} (k : KindName) (v w : View) (ps : List Piece) (x : X) → Ran k v w ps → Causes k v w ps (Ok x)
ran_causes k v w ps x ran = record { made = ran.made; cause = no_cause k w ps x }

pub ran_on : {X : Type 0} (k : KindName) (v w x : View) (qs ps : List Piece) (r : Result X Limit) → Ran k v w qs → Keeps w x → Covers k v.letters qs ps →
    Causes k w x ps r → Ran k v x qs
ran_on k v w x qs ps r ran keeps covers causes = record {
  keeps = keeps_on v w x ran.keeps keeps;
  made = made_on k v w x qs ps ran.keeps keeps ran.made causes.made covers;
}

-- what refuses the whole has refused the last call
pub causes_then : {X Y : Type 0} (k : KindName) (v w x : View) (qs ps : List Piece) (r : Result X Limit) (q : Result Y Limit) → Ran k v w qs → Keeps w x →
    Covers k v.letters qs ps → ((e : Limit) → q ≡ Err e → r ≡ Err e) → Causes k w x ps r → Causes k v x qs q
causes_then k v w x qs ps r q ran keeps covers same causes = record {
  made = made_on k v w x qs ps ran.keeps keeps ran.made causes.made covers;
  cause = cause_on k x v.letters qs ps r q (keeps.letters ∙ ran.keeps.letters) covers same causes.cause;
}

-- ---- from the level of the upper node to those above it
raised_value : (k : KindName) (w : View) (l : ℕ) (t : Table) (r : Result PlainEdge Limit) → IfOk r (λ e. StandsAt k w (l + 1) t e) → IfOk r (λ e. StandsAt k w l (halves t t) e)
raised_value k w l t (Ok e) h = ascend k w l t e h
raised_value k w l t (Err f) h = tt

pub answers_above : (k : KindName) (v w : View) (qs ps : List Piece) (l : ℕ) (t : Table) (r : Result PlainEdge Limit) → Keeps v w → Covers k v.letters qs ps →
    Answers k v w ps (l + 1) t r → Answers k v w qs l (halves t t) r
answers_above k v w qs ps l t r keeps covers answers = record {
  made = made_on k v v w qs ps (keeps_itself v) keeps (λ id h. inl h) answers.made covers;
  cause = cause_on k w v.letters qs ps r r keeps.letters covers (λ e h. h) answers.cause;
  stands = raised_value k w l t r answers.stands;
}

-- an operation on tables that goes by halves, and whose work on two equal halves covers that on the half
pub record GoesByHalves (k : KindName) (v : View) (op : Table → Table) (work : ℕ → Table → List Piece) : Type 0 where
  pub by_halves : (t : Table) → op (halves t t) ≡ halves (op t) (op t)
  pub covers : (l : ℕ) (t : Table) → l < length v.letters → IsOver (length (drop (l + 1) v.letters)) t → Covers k v.letters (work l (halves t t)) (work (l + 1) t)

pub record BothByHalves (k : KindName) (v : View) (op : Table → Table → Table) (work : ℕ → Table → Table → List Piece) : Type 0 where
  pub by_halves : (t u : Table) → op (halves t t) (halves u u) ≡ halves (op t u) (op t u)
  pub covers : (l : ℕ) (t u : Table) → l < length v.letters → IsOver (length (drop (l + 1) v.letters)) t → IsOver (length (drop (l + 1) v.letters)) u →
      Covers k v.letters (work l (halves t t) (halves u u)) (work (l + 1) t u)

each_at : (k : KindName) (v w : View) (op : Table → Table) (work : ℕ → Table → List Piece) (a : PlainEdge) (r : Result PlainEdge Limit) (n l m : ℕ) → l + n ≡ m →
    m ≤ length v.letters → m ≤ top_of v a.node → Keeps v w → GoesByHalves k v op work →
    ((t : Table) → StandsAt k v m t a → Answers k v w (work m t) m (op t) r) → (t : Table) → StandsAt k v l t a → Answers k v w (work l t) l (op t) r
each_at k v w op work a r zero l m sum within tops keeps halving step t h =
    let same : l ≡ m = omega arith in
    let Holds : ℕ → Type 0 = λ x. (t : Table) → StandsAt k v x t a → Answers k v w (work x t) x (op t) r in
    subst Holds (sym same) step t h
each_at k v w op work a r (suc n) l m sum within tops keeps halving step t h =
    let less : l < length v.letters = omega arith in
    let under : l < top_of v a.node = omega arith in
    let down = descend k v l t a under less h in
    let rest : l + 1 + n ≡ m = omega arith in
    let below = each_at k v w op work a r n (l + 1) m rest within tops keeps halving step down.0 down.2 in
    let up = answers_above k v w (work l (halves down.0 down.0)) (work (l + 1) down.0) l (op down.0) r keeps (halving.covers l down.0 less down.2.stands.over) below in
    let Whole : Table → Type 0 = λ x. Answers k v w (work l x) l (op x) r in
    subst Whole (sym down.1) (subst (λ (x : Table). Answers k v w (work l (halves down.0 down.0)) l x r) (sym (halving.by_halves down.0)) up)

-- a call on an edge is known by what it answers at the level of the edge's node
pub each_from_top : (k : KindName) (v w : View) (op : Table → Table) (work : ℕ → Table → List Piece) (a : PlainEdge) (level : ℕ) (r : Result PlainEdge Limit) → IsEdge k v a →
    level ≡ top_of v a.node → Keeps v w → GoesByHalves k v op work →
    ((t : Table) → StandsAt k v level t a → Answers k v w (work level t) level (op t) r) → IsOfEach op work k v w a r
each_from_top k v w op work a level r good is keeps halving step l t h =
    let from = from_level k v l t a h in
    let within = top_within k v a good in
    let sum : l + (level - l) ≡ level = omega arith in
    each_at k v w op work a r (level - l) l level sum (omega arith) (omega arith) keeps halving step t h

both_at : (k : KindName) (v w : View) (op : Table → Table → Table) (work : ℕ → Table → Table → List Piece) (a b : PlainEdge) (r : Result PlainEdge Limit) (n l m : ℕ) → l + n ≡ m →
    m ≤ length v.letters → m ≤ top_of v a.node → m ≤ top_of v b.node → Keeps v w → BothByHalves k v op work →
    ((t u : Table) → StandsAt k v m t a → StandsAt k v m u b → Answers k v w (work m t u) m (op t u) r) →
    (t u : Table) → StandsAt k v l t a → StandsAt k v l u b → Answers k v w (work l t u) l (op t u) r
both_at k v w op work a b r zero l m sum within tops_a tops_b keeps halving step t u h g =
    let same : l ≡ m = omega arith in
    let Holds : ℕ → Type 0 = λ x. (t u : Table) → StandsAt k v x t a → StandsAt k v x u b → Answers k v w (work x t u) x (op t u) r in
    subst Holds (sym same) step t u h g
both_at k v w op work a b r (suc n) l m sum within tops_a tops_b keeps halving step t u h g =
    let less : l < length v.letters = omega arith in
    let under_a : l < top_of v a.node = omega arith in
    let under_b : l < top_of v b.node = omega arith in
    let down_a = descend k v l t a under_a less h in
    let down_b = descend k v l u b under_b less g in
    let rest : l + 1 + n ≡ m = omega arith in
    let below = both_at k v w op work a b r n (l + 1) m rest within tops_a tops_b keeps halving step down_a.0 down_b.0 down_a.2 down_b.2 in
    let x = down_a.0 in
    let y = down_b.0 in
    let up = answers_above k v w (work l (halves x x) (halves y y)) (work (l + 1) x y) l (op x y) r keeps (halving.covers l x y less down_a.2.stands.over down_b.2.stands.over) below in
    let First : Table → Type 0 = λ z. Answers k v w (work l z u) l (op z u) r in
    let Second : Table → Type 0 = λ z. Answers k v w (work l (halves x x) z) l (op (halves x x) z) r in
    subst First (sym down_a.1) (subst Second (sym down_b.1)
    (subst (λ (z : Table). Answers k v w (work l (halves x x) (halves y y)) l z r) (sym (halving.by_halves x y)) up))

pub both_from_top : (k : KindName) (v w : View) (op : Table → Table → Table) (work : ℕ → Table → Table → List Piece) (a b : PlainEdge) (level : ℕ) (r : Result PlainEdge Limit) →
    IsEdge k v a → IsEdge k v b → level ≡ min (top_of v a.node) (top_of v b.node) → Keeps v w → BothByHalves k v op work →
    ((t u : Table) → StandsAt k v level t a → StandsAt k v level u b → Answers k v w (work level t u) level (op t u) r) → IsOfBoth op work k v w a b r
both_from_top k v w op work a b level r good_a good_b is keeps halving step l t u h g =
    let from_a = from_level k v l t a h in
    let from_b = from_level k v l u b g in
    let within = top_within k v a good_a in
    let sum : l + (level - l) ≡ level = omega arith in
    both_at k v w op work a b r (level - l) l level sum (omega arith) (omega arith) (omega arith) keeps halving step t u h g

-- ---- at a view that did not change
-- an operation on two edges, from what it makes of their parts
pub both_of_parts : (k : KindName) (op : Table → Table → Table) (work : ℕ → Table → Table → List Piece) (v x w : View) (a b : PlainEdge) (split : PlainSplit)
    (r : Result PlainEdge Limit) → x ≡ v → IsEdge k v a → IsEdge k v b → Keeps x w → BothByHalves k v op work →
    Splits k v a b (Ok split) → IsOfParts op work k x w split.level split.parts r → IsOfBoth op work k v w a b r
both_of_parts k op work v x w a b split r same good_a good_b keeps halving splits of_parts =
    let here = subst (λ (l : ℕ). ArePartsOfBoth k v l a b (Ok split.parts)) (sym splits.0) splits.1 in
    let from = subst (λ (z : View). IsOfParts op work k z w split.level split.parts r) same of_parts in
    both_from_top k v w op work a b split.level r good_a good_b splits.0 (subst (λ (z : View). Keeps z w) same keeps) halving
    (λ t u h g. from t u (here t u h g))

-- the parts of two operands do not fit
pub both_unfit : (k : KindName) (op : Table → Table → Table) (work : ℕ → Table → Table → List Piece) (v w : View) (a b : PlainEdge) (o : Overflow) →
    w ≡ v → IsEdge k v a → IsEdge k v b → BothByHalves k v op work → ((l : ℕ) (t u : Table) → Covers k v.letters (work l t u) (pieces l (t ∷ u ∷ []))) →
    Splits k v a b (Err o) → IsOfBoth op work k v w a b (Err limit.Overflow)
both_unfit k op work v w a b o same good_a good_b halving covers splits =
    let level = upper v a b in
    subst (λ (z : View). IsOfBoth op work k v z a b (Err limit.Overflow)) (sym same)
    (both_from_top k v v op work a b level (Err limit.Overflow) good_a good_b refl (keeps_itself v) halving
    (λ t u h g. answers_overflow k v (work level t u) level (op t u) ((covers level t u).unfit (splits t u h g))))
