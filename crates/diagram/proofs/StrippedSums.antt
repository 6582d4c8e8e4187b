-- A sum by that of the operands without their shifts, and the sum by both walks.
use Rattle.std.proofs.Common.{◌≡◌, refl, sym, ◌∙◌, ap, subst, ℕ, zero, suc, ℤ, pos, ◌+ℤ◌, List, [], ◌∷◌, false, length, drop, arith, inl, inr}
use Rattle.std.specs.Prelude.{◌^◌, Result, Ok, Err, neg_ℤ}
use Rattle.std.proofs.lemmas.List.Elements.{Contains-append_cases}
use Rattle.word_base.specs.declared.decomp.Decomp.{Decomp}
use Rattle.word_base.specs.declared.kind_name.KindName.{KindName}
use Rattle.word_base.specs.declared.kind_name.KindName.TheVariants.{Evbdd, StarBmd, Hdd, KStarBmd}
use Rattle.tables.specs.Table.{Table, entry, plus}
use Rattle.tables.specs.Tree.{Shape, constant}
use Rattle.tables.specs.Canonical.{canonical, IsNodeOf}
use Rattle.tables.specs.Fits.{fits}
use Rattle.tables.specs.Pieces.{Piece, InNodes, SomeUnfit, add_work}
use Rattle.tables.proofs.KindLaws.{constant-leaf}
use Rattle.tables.proofs.PieceLaws.{Covers, covers_itself}
use Rattle.tables.proofs.TableLaws.{IsOver-each, IsOver-zip_with}
use Rattle.kind_laws.specs.Plain.{PlainEdge}
use Rattle.kind_laws.specs.Scale.{shift_of, unshifted, shifted}
use Rattle.diagram.specs.Answers.{Makes, Answers}
use Rattle.diagram.specs.Calls.{IsOfBoth}
use Rattle.diagram.specs.Sums.{no_weight, sum_work}
use Rattle.diagram.specs.View.{View, StandsAt, Keeps}
use Rattle.diagram.specs.declared.limit.Limit.{Limit}
use Rattle.diagram.specs.declared.limit.Limit.TheVariants as limit
use Rattle.diagram.specs.declared.walk.Walk.TheVariants.{Stripping}
use Rattle.diagram.proofs.CallLaws.{Ran, ran_nothing, ran_then, answers_then, refuses_then, ran_overflows}
use Rattle.diagram.proofs.JoinCauses.{no_cause, in_one}
use Rattle.diagram.proofs.LevelLaws.{stays}
use Rattle.diagram.proofs.ShiftLaws.{lowered, may_lower, may_shift_both, shifted_stands, unshifted_stands, raised_shape, sum_put_back}

-- ---- the walk without shifts may overflow whatever fits
too_large : (k : KindName) (ds : List Decomp) → fits k ds (entry (pos (2 ^ 127))) ≡ false
too_large Evbdd ds = refl
too_large StarBmd ds = refl
too_large Hdd ds = refl
too_large KStarBmd ds = refl

pub unfit_anyway : (k : KindName) (ds : List Decomp) (l : ℕ) (t u : Table) → SomeUnfit k ds (sum_work Stripping l t u)
unfit_anyway k ds l t u = (no_weight, (0, omega arith, refl), too_large k (drop 0 ds))

no_node : (k : KindName) (c : ℤ) (s : Shape) → IsNodeOf s (constant k c).shape → ⊥
no_node k c s h = subst (IsNodeOf s) (constant-leaf k c) h

abbrev IsNodeOfPiece : KindName → List Decomp → Shape → Piece → Type 0
IsNodeOfPiece k ds s p = IsNodeOf s (canonical k (drop p.level ds) p.level p.table).shape

-- its nodes are those of the work of the sum
work_nodes : (k : KindName) (ds : List Decomp) (l : ℕ) (t u : Table) (s : Shape) → InNodes k ds (sum_work Stripping l t u) s → InNodes k ds (add_work l t u) s
work_nodes k ds l t u s (p, at, is) =
    elim (Contains-append_cases (no_weight ∷ []) (add_work l t u) p at) [
      | inl here ↦ absurd (no_node k (pos (2 ^ 127)) s (subst (IsNodeOfPiece k ds s) (sym (in_one no_weight p here)) is))
      | inr there ↦ (p, there, is)
    ]

-- ---- nodes of the sum of what is left
pub record SameShapes (k : KindName) (ds : List Decomp) (l : ℕ) (t u x y : Table) : Type 0 where
  pub first : (canonical k (drop l ds) l x).shape ≡ (canonical k (drop l ds) l t).shape
  pub second : (canonical k (drop l ds) l y).shape ≡ (canonical k (drop l ds) l u).shape
  pub sum : (canonical k (drop l ds) l (plus x y)).shape ≡ (canonical k (drop l ds) l (plus t u)).shape

same_nodes : (k : KindName) (ds : List Decomp) (l : ℕ) (t u x y : Table) → SameShapes k ds l t u x y → (s : Shape) →
    InNodes k ds (sum_work Stripping l x y) s → InNodes k ds (sum_work Stripping l t u) s
same_nodes k ds l t u x y same s (p, (zero, low, at), is) = (p, (0, omega arith, at), is)
same_nodes k ds l t u x y same s (p, (suc zero, low, at), is) =
    (record { level = l; table = t }, (1, omega arith, refl), subst (IsNodeOf s) same.first (subst (IsNodeOfPiece k ds s) (sym at) is))
same_nodes k ds l t u x y same s (p, (suc (suc zero), low, at), is) =
    (record { level = l; table = u }, (2, omega arith, refl), subst (IsNodeOf s) same.second (subst (IsNodeOfPiece k ds s) (sym at) is))
same_nodes k ds l t u x y same s (p, (suc (suc (suc zero)), low, at), is) =
    (record { level = l; table = plus t u }, (3, omega arith, refl), subst (IsNodeOf s) same.sum (subst (IsNodeOfPiece k ds s) (sym at) is))
same_nodes k ds l t u x y same s (p, (suc (suc (suc (suc n))), low, at), is) = absurd (omega arith)

same_shapes : (k : KindName) (v : View) (l : ℕ) (t u : Table) (a b : PlainEdge) → StandsAt k v l t a → StandsAt k v l u b →
    SameShapes k v.letters l t u (lowered k a t) (lowered k b u)
same_shapes k v l t u a b h g =
    let n = length (drop l v.letters) in
    let c = shift_of k a.root in
    let d = shift_of k b.root in
    let x = lowered k a t in
    let y = lowered k b u in
    let over_x = IsOver-each n (λ z. neg_ℤ c +ℤ z) t h.stands.over in
    let over_y = IsOver-each n (λ z. neg_ℤ d +ℤ z) u g.stands.over in
    record {
      first = raised_shape k v l (neg_ℤ c) t (may_lower k a.root) h.allowed h.stands.over;
      second = raised_shape k v l (neg_ℤ d) u (may_lower k b.root) g.allowed g.stands.over;
      sum = sym (raised_shape k v l (c +ℤ d) (plus x y) (may_shift_both k a.root b.root) h.allowed (IsOver-zip_with n (λ z w. z +ℤ w) x y over_x over_y))
          ∙ ap (λ (z : Table). (canonical k (drop l v.letters) l z).shape) (sum_put_back c d n t u h.stands.over g.stands.over);
    }

pub same_shapes_covered : (k : KindName) (ds : List Decomp) (l : ℕ) (t u x y : Table) → SameShapes k ds l t u x y →
    Covers k ds (sum_work Stripping l t u) (sum_work Stripping l x y)
same_shapes_covered k ds l t u x y same = record { nodes = same_nodes k ds l t u x y same; unfit = λ some. unfit_anyway k ds l t u }

rests_covered : (k : KindName) (v : View) (l : ℕ) (t u : Table) (a b : PlainEdge) → StandsAt k v l t a → StandsAt k v l u b →
    Covers k v.letters (sum_work Stripping l t u) (sum_work Stripping l (lowered k a t) (lowered k b u))
rests_covered k v l t u a b h g = same_shapes_covered k v.letters l t u (lowered k a t) (lowered k b u) (same_shapes k v l t u a b h g)

-- ---- the sum of two edges, from one view to another, without shifts
abbrev pub IsStripped : KindName → View → View → PlainEdge → PlainEdge → Result PlainEdge Limit → Type 0
IsStripped k v w a b r = IsOfBoth plus (sum_work Stripping) k v w a b r

rests_answer : (k : KindName) (v w : View) (l : ℕ) (t u : Table) (a b : PlainEdge) (r : Result PlainEdge Limit) → StandsAt k v l t a → StandsAt k v l u b →
    IsStripped k v w (unshifted k a) (unshifted k b) r →
    Answers k v w (sum_work Stripping l (lowered k a t) (lowered k b u)) l (plus (lowered k a t) (lowered k b u)) r
rests_answer k v w l t u a b r h g sum = sum l _ _ (unshifted_stands k v l t a h) (unshifted_stands k v l u b g)

-- it may overflow at once
pub overflows_anyway : (k : KindName) (v : View) (a b : PlainEdge) → IsStripped k v v a b (Err limit.Overflow)
overflows_anyway k v a b l t u h g =
    ran_overflows k v v (sum_work Stripping l t u) l (plus t u) (ran_nothing k v (sum_work Stripping l t u)) (unfit_anyway k v.letters l t u)

pub rests_refuse : (k : KindName) (v w : View) (a b : PlainEdge) (e : Limit) → Keeps v w → IsStripped k v w (unshifted k a) (unshifted k b) (Err e) →
    IsStripped k v w a b (Err e)
rests_refuse k v w a b e keeps sum l t u h g =
    refuses_then k v v w (sum_work Stripping l t u) _ l l (plus t u) _ e (ran_nothing k v (sum_work Stripping l t u)) keeps (rests_covered k v l t u a b h g)
    (rests_answer k v w l t u a b (Err e) h g sum)

rests_ran : (k : KindName) (v w : View) (l : ℕ) (t u : Table) (a b rest : PlainEdge) → Keeps v w → StandsAt k v l t a → StandsAt k v l u b →
    IsStripped k v w (unshifted k a) (unshifted k b) (Ok rest) → Ran k v w (sum_work Stripping l t u)
rests_ran k v w l t u a b rest keeps h g sum =
    ran_then k v v w (sum_work Stripping l t u) _ l _ (Ok rest) (ran_nothing k v (sum_work Stripping l t u)) keeps (rests_covered k v l t u a b h g)
    (rests_answer k v w l t u a b (Ok rest) h g sum)

pub shifts_put_back : (k : KindName) (v w : View) (a b rest sum : PlainEdge) (c : ℤ) → Keeps v w → c ≡ shift_of k a.root +ℤ shift_of k b.root →
    sum ≡ shifted k c rest → IsStripped k v w (unshifted k a) (unshifted k b) (Ok rest) → IsStripped k v w a b (Ok sum)
shifts_put_back k v w a b rest sum c keeps shift is stripped l t u h g =
    let both = shift_of k a.root +ℤ shift_of k b.root in
    let x = lowered k a t in
    let y = lowered k b u in
    let raised = shifted_stands k w l both (plus x y) rest (may_shift_both k a.root b.root) (rests_answer k v w l t u a b (Ok rest) h g stripped).stands in
    let table = sum_put_back (shift_of k a.root) (shift_of k b.root) (length (drop l v.letters)) t u h.stands.over g.stands.over in
    record {
      made = (rests_ran k v w l t u a b rest keeps h g stripped).made;
      cause = no_cause k w (sum_work Stripping l t u) sum;
      stands = subst (StandsAt k w l (plus t u)) (sym (is ∙ ap (λ (z : ℤ). shifted k z rest) shift))
          (subst (λ (z : Table). StandsAt k w l z (shifted k both rest)) table raised);
    }

-- ---- both walks
made_by_work : (k : KindName) (v w : View) (l : ℕ) (t u : Table) → Makes k v w (sum_work Stripping l t u) → Makes k v w (add_work l t u)
made_by_work k v w l t u made id h =
    elim (made id h) [ inl old ↦ inl old | inr (s, among, shape) ↦ inr (s, work_nodes k w.letters l t u s among, shape) ]

-- whatever the walk without shifts answered that is no overflow is the answer
pub stripped_answers : (k : KindName) (v w : View) (a b : PlainEdge) (r : Result PlainEdge Limit) → (r ≡ Err limit.Overflow → ⊥) → IsStripped k v w a b r →
    IsOfBoth plus add_work k v w a b r
stripped_answers k v w a b r other sum l t u h g =
    let answers = sum l t u h g in
    record {
      made = made_by_work k v w l t u answers.made;
      cause = record {
        overflow = λ e. absurd (other e);
        full = λ e. let f = answers.cause.full e in (f.0, (f.1.0, work_nodes k w.letters l t u f.1.0 f.1.1, f.1.2));
      };
      stands = answers.stands;
    }

-- and else what the plain walk answers after it
pub plain_answers : (k : KindName) (v w x : View) (a b : PlainEdge) (e : Limit) (r : Result PlainEdge Limit) → Keeps v w → IsStripped k v w a b (Err e) → Keeps w x →
    IsOfBoth plus add_work k w x a b r → IsOfBoth plus add_work k v x a b r
plain_answers k v w x a b e r keeps stripped later sum l t u h g =
    answers_then k v w x (add_work l t u) (add_work l t u) l (plus t u) r
    (record { keeps = keeps; made = made_by_work k v w l t u (stripped l t u h g).made }) later (covers_itself k v.letters (add_work l t u))
    (sum l t u (stays k v w l t a keeps h) (stays k v w l u b keeps g))
