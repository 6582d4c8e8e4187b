-- Expressions over edges: from the calls of the operands to that of the whole.
use Rattle.std.proofs.Common.{◌≡◌, sym, ◌∙◌, ap, subst, ℕ, ◌<◌, ◌≤◌, ℤ, pos, List, [], ◌++◌, length, drop}
use Rattle.std.specs.Prelude.{slice_index_or, Result, Ok, Err}
use Rattle.std.specs.Result.{IsErrAnd}
use Rattle.diagram.specs.Answers.{Answers}
use Rattle.diagram.specs.Calls.{IsOfEach, IsOfBoth}
use Rattle.diagram.specs.View.{View, StandsAt, IsEdge, Keeps}
use Rattle.diagram.specs.declared.limit.Limit.{Limit}
use Rattle.diagram.proofs.CallLaws.{Ran, ran_nothing, ran_then, answers_then, refuses_then}
use Rattle.diagram.proofs.JoinCauses.{answers_at_once, refused}
use Rattle.diagram.proofs.LevelLaws.{stays}
use Rattle.kind_laws.specs.Plain.{PlainEdge, plain, answered}
use Rattle.kind_laws.specs.declared.kind.Edge.{Edge}
use Rattle.spec_lang.specs.Formula.{Formula, number, word, negative, formula_of}
use Rattle.spec_lang.specs.declared.expr.Expr.{Expr}
use Rattle.spec_lang.specs.declared.expr.Expr.TheVariants as variant
use Rattle.spec_lang.proofs.Formulas.{formula_of-Number, formula_of-Word, formula_of-Neg}
use Rattle.tables.specs.Pieces.{Piece, neg_work}
use Rattle.tables.specs.Table.{Table, entry, opposite, zip_with, constant_table}
use Rattle.tables.proofs.PieceLaws.{Covers, covers_on, covers_left, covers_right}
use Rattle.word_base.specs.declared.decomp.Decomp.{Decomp}
use Rattle.word_base.specs.declared.kind_name.KindName.{KindName}
use Rattle.word_apply.specs.Applied.{AllStand, IsOfAll, plain_edges, formula_at, formula_work_at, operation_of, operation_work}
use Rattle.word_apply.proofs.EdgeLists.{all_stay, stands_there}
use Rattle.word_apply.proofs.ExpressionLaws.{IsOfTwo, two_tables, two_works}
use Rattle.word_apply.proofs.TableLaws.{first_of_both}

-- a formula's value over the edges of the words
abbrev pub IsFormula : Formula → KindName → View → View → List PlainEdge → Result PlainEdge Limit → Type 0
IsFormula f k v w words r = IsOfAll (formula_at f v.letters) (formula_work_at f v.letters) k v w words r

-- ---- what takes no operation
-- what is no expression of two operands answers its first one
pub first_operand : (k : KindName) (v : View) (a b : PlainEdge) (x : Expr) (f : Formula) → formula_of x ≡ f → ((y z : ℤ) → operation_of f y z ≡ y) →
    IsOfBoth (zip_with (operation_of (formula_of x))) (operation_work (formula_of x) v.letters) k v v a b (Ok a)
first_operand k v a b x f is same =
    subst (λ (g : Formula). IsOfBoth (zip_with (operation_of g)) (operation_work g v.letters) k v v a b (Ok a)) (sym is)
    (λ l t u h g. answers_at_once k v (operation_work f v.letters l t u) l (zip_with (operation_of f) t u) a
    (subst (λ (z : Table). StandsAt k v l z a) (sym (first_of_both (operation_of f) same (length (drop l v.letters)) t u h.stands.over g.stands.over)) h))

pub number_answers : (k : KindName) (v : View) (x : Expr) (z : ℤ) (words : List PlainEdge) (e : PlainEdge) → x ≡ variant.Number z →
    ((l : ℕ) → l ≤ length v.letters → StandsAt k v l (constant_table (length (drop l v.letters)) z) e) → IsFormula (formula_of x) k v v words (Ok e)
number_answers k v x z words e is stands =
    subst (λ (f : Formula). IsFormula f k v v words (Ok e)) (sym (ap formula_of is ∙ formula_of-Number z))
    (λ l ts within all. answers_at_once k v (formula_work_at (number z) v.letters l ts) l (formula_at (number z) v.letters l ts) e (stands l within))

pub word_answers : {K X E : Type 0} (k : KindName) (v : View) (of : X → ℤ) (x : Expr) (w : ℕ) (words : List (Edge K X E)) (e d : Edge K X E) → x ≡ variant.Word w →
    w < length words → e ≡ slice_index_or words w d → IsFormula (formula_of x) k v v (plain_edges of words) (Ok (plain of e))
word_answers k v of x w words e d is low at =
    subst (λ (f : Formula). IsFormula f k v v (plain_edges of words) (Ok (plain of e))) (sym (ap formula_of is ∙ formula_of-Word w))
    (λ l ts within all. answers_at_once k v [] l (formula_at (word w) v.letters l ts) (plain of e)
    (subst (λ (y : _). StandsAt k v l (slice_index_or ts w (entry (pos 0))) (plain of y)) (sym at) (stands_there k v of l w ts words (entry (pos 0)) d low all)))

-- ---- negatives
pub operand_refuses : {T : Type 0} (k : KindName) (v w : View) (x a : Expr) (words : List PlainEdge) (f : T → PlainEdge) (result : Result T Limit) (e : Limit) →
    x ≡ variant.Neg a → IsErrAnd result (λ y. y ≡ e) → Keeps v w → IsFormula (formula_of a) k v w words (Err e) →
    IsFormula (formula_of x) k v w words (answered f result)
operand_refuses k v w x a words f result e neg is keeps of_a =
    subst (λ (g : Formula). IsFormula g k v w words (answered f result)) (sym (ap formula_of neg ∙ formula_of-Neg a))
    (λ l ts within all.
    let one = formula_work_at (formula_of a) v.letters l ts in
    let qs = formula_work_at (negative (formula_of a)) v.letters l ts in
    let t = formula_at (formula_of a) v.letters l ts in
    refused k v w qs l (opposite t) f result e is
    (refuses_then k v v w qs one l l (opposite t) t e (ran_nothing k v qs) keeps (covers_left k v.letters one (neg_work l t)) (of_a l ts within all)))

pub negative_answers : (k : KindName) (v w y : View) (x a : Expr) (words : List PlainEdge) (p : PlainEdge) (r : Result PlainEdge Limit) → x ≡ variant.Neg a → Keeps v w → Keeps w y →
    IsFormula (formula_of a) k v w words (Ok p) → IsOfEach opposite neg_work k w y p r → IsFormula (formula_of x) k v y words r
negative_answers k v w y x a words p r neg keeps after of_a negated =
    subst (λ (g : Formula). IsFormula g k v y words r) (sym (ap formula_of neg ∙ formula_of-Neg a))
    (λ l ts within all.
    let one = formula_work_at (formula_of a) v.letters l ts in
    let qs = formula_work_at (negative (formula_of a)) v.letters l ts in
    let t = formula_at (formula_of a) v.letters l ts in
    let made = of_a l ts within all in
    let ran = ran_then k v v w qs one l t (Ok p) (ran_nothing k v qs) keeps (covers_left k v.letters one (neg_work l t)) made in
    answers_then k v w y qs (neg_work l t) l (opposite t) r ran after (covers_right k v.letters one (neg_work l t)) (negated l t made.stands))

-- ---- two operands
-- the work of the whole covers those of the operands, and that of the operation
record TwoCovered (k : KindName) (ds : List Decomp) (x a b : Expr) (l : ℕ) (ts : List Table) : Type 0 where
  first : Covers k ds (formula_work_at (formula_of x) ds l ts) (formula_work_at (formula_of a) ds l ts)
  second : Covers k ds (formula_work_at (formula_of x) ds l ts) (formula_work_at (formula_of b) ds l ts)
  last : Covers k ds (formula_work_at (formula_of x) ds l ts)
      (operation_work (formula_of x) ds l (formula_at (formula_of a) ds l ts) (formula_at (formula_of b) ds l ts))

two_covered : (k : KindName) (ds : List Decomp) (x a b : Expr) (l : ℕ) (ts : List Table) → IsOfTwo x a b → TwoCovered k ds x a b l ts
two_covered k ds x a b l ts two =
    let ps = formula_work_at (formula_of a) ds l ts in
    let qs = formula_work_at (formula_of b) ds l ts in
    let rs = operation_work (formula_of x) ds l (formula_at (formula_of a) ds l ts) (formula_at (formula_of b) ds l ts) in
    let whole = two_works ds l ts x a b two in
    let front = covers_left k ds (ps ++ qs) rs in
    record {
      first = subst (λ (os : List Piece). Covers k ds os ps) whole (covers_on k ds (ps ++ qs ++ rs) (ps ++ qs) ps front (covers_left k ds ps qs));
      second = subst (λ (os : List Piece). Covers k ds os qs) whole (covers_on k ds (ps ++ qs ++ rs) (ps ++ qs) qs front (covers_right k ds ps qs));
      last = subst (λ (os : List Piece). Covers k ds os rs) whole (covers_right k ds (ps ++ qs) rs);
    }

pub first_refuses : {T : Type 0} (k : KindName) (v w : View) (x a b : Expr) (words : List PlainEdge) (f : T → PlainEdge) (result : Result T Limit) (e : Limit) → IsOfTwo x a b →
    IsErrAnd result (λ y. y ≡ e) → Keeps v w → IsFormula (formula_of a) k v w words (Err e) → IsFormula (formula_of x) k v w words (answered f result)
first_refuses k v w x a b words f result e two is keeps of_a l ts within all =
    let qs = formula_work_at (formula_of x) v.letters l ts in
    let t = formula_at (formula_of x) v.letters l ts in
    refused k v w qs l t f result e is
    (refuses_then k v v w qs (formula_work_at (formula_of a) v.letters l ts) l l t (formula_at (formula_of a) v.letters l ts) e (ran_nothing k v qs) keeps
    (two_covered k v.letters x a b l ts two).first (of_a l ts within all))

-- the first operand was made, and the second follows
first_ran : (k : KindName) (v w : View) (x a b : Expr) (words : List PlainEdge) (r : Result PlainEdge Limit) → IsOfTwo x a b → Keeps v w → IsFormula (formula_of a) k v w words r →
    (l : ℕ) (ts : List Table) → l ≤ length v.letters → AllStand k v l ts words → Ran k v w (formula_work_at (formula_of x) v.letters l ts)
first_ran k v w x a b words r two keeps of_a l ts within all =
    let qs = formula_work_at (formula_of x) v.letters l ts in
    ran_then k v v w qs (formula_work_at (formula_of a) v.letters l ts) l (formula_at (formula_of a) v.letters l ts) r (ran_nothing k v qs) keeps
    (two_covered k v.letters x a b l ts two).first (of_a l ts within all)

second_answers : (k : KindName) (v w y : View) (b : Expr) (words : List PlainEdge) (r : Result PlainEdge Limit) → Keeps v w → IsFormula (formula_of b) k w y words r →
    (l : ℕ) (ts : List Table) → l ≤ length v.letters → AllStand k v l ts words →
    Answers k w y (formula_work_at (formula_of b) v.letters l ts) l (formula_at (formula_of b) v.letters l ts) r
second_answers k v w y b words r keeps of_b l ts within all =
    let also : l ≤ length w.letters = rw keeps.letters within in
    subst (λ (ds : List Decomp). Answers k w y (formula_work_at (formula_of b) ds l ts) l (formula_at (formula_of b) ds l ts) r) keeps.letters
    (of_b l ts also (all_stay k v w l ts words keeps all))

pub second_refuses : {T : Type 0} (k : KindName) (v w y : View) (x a b : Expr) (words : List PlainEdge) (p : PlainEdge) (f : T → PlainEdge) (result : Result T Limit) (e : Limit) →
    IsOfTwo x a b → IsErrAnd result (λ y. y ≡ e) → Keeps v w → IsFormula (formula_of a) k v w words (Ok p) → Keeps w y → IsFormula (formula_of b) k w y words (Err e) →
    IsFormula (formula_of x) k v y words (answered f result)
second_refuses k v w y x a b words p f result e two is keeps of_a after of_b l ts within all =
    let qs = formula_work_at (formula_of x) v.letters l ts in
    let t = formula_at (formula_of x) v.letters l ts in
    refused k v y qs l t f result e is
    (refuses_then k v w y qs (formula_work_at (formula_of b) v.letters l ts) l l t (formula_at (formula_of b) v.letters l ts) e
    (first_ran k v w x a b words (Ok p) two keeps of_a l ts within all) after (two_covered k v.letters x a b l ts two).second
    (second_answers k v w y b words (Err e) keeps of_b l ts within all))

pub two_answers : (k : KindName) (v w y z : View) (x a b : Expr) (words : List PlainEdge) (p q : PlainEdge) (r : Result PlainEdge Limit) → IsOfTwo x a b → Keeps v w →
    IsFormula (formula_of a) k v w words (Ok p) → Keeps w y → IsFormula (formula_of b) k w y words (Ok q) → Keeps y z →
    IsOfBoth (zip_with (operation_of (formula_of x))) (operation_work (formula_of x) y.letters) k y z p q r → IsFormula (formula_of x) k v z words r
two_answers k v w y z x a b words p q r two keeps of_a after of_b last operated l ts within all =
    let ds = v.letters in
    let qs = formula_work_at (formula_of x) ds l ts in
    let t = formula_at (formula_of a) ds l ts in
    let u = formula_at (formula_of b) ds l ts in
    let covered = two_covered k ds x a b l ts two in
    let second = second_answers k v w y b words (Ok q) keeps of_b l ts within all in
    let left = stays k w y l t p after (of_a l ts within all).stands in
    let ran = ran_then k v w y qs (formula_work_at (formula_of b) ds l ts) l u (Ok q) (first_ran k v w x a b words (Ok p) two keeps of_a l ts within all) after covered.second second in
    let here = subst (λ (es : List Decomp). Answers k y z (operation_work (formula_of x) es l t u) l (zip_with (operation_of (formula_of x)) t u) r)
    (after.letters ∙ keeps.letters) (operated l t u left second.stands) in
    subst (λ (o : Table). Answers k v z qs l o r) (two_tables ds l ts x a b two)
    (answers_then k v y z qs (operation_work (formula_of x) ds l t u) l (zip_with (operation_of (formula_of x)) t u) r ran last covered.last here)
