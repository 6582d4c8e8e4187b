-- The calls of a gate's operations on two edges, and of its negation.
use Rattle.std.proofs.Common.{◌≡◌, sym, subst, ℕ, ℤ, pos, List, length, drop}
use Rattle.std.specs.Prelude.{Result, Ok, Err}
use Rattle.std.specs.Result.{IsErrAnd}
use Rattle.diagram.specs.Answers.{Answers}
use Rattle.diagram.specs.Calls.{IsOfEach, IsOfBoth}
use Rattle.diagram.specs.Products.{product_work}
use Rattle.diagram.specs.View.{View, StandsAt, Keeps}
use Rattle.diagram.specs.declared.limit.Limit.{Limit}
use Rattle.diagram.proofs.CallLaws.{Ran, ran_nothing, answers_then}
use Rattle.diagram.proofs.LevelLaws.{stays}
use Rattle.diagram.proofs.PartLaws.{constant_stands}
use Rattle.diagram.proofs.StepLaws.{Step, step_ran, step_refuses, step_answers, each_step, both_step}
use Rattle.checks.specs.Work.{not_work, step_table}
use Rattle.circuits.specs.Polynomial.{negation}
use Rattle.circuits.specs.declared.gate_word.GateWord.TheVariants.{Or, Xor}
use Rattle.kind_laws.specs.Plain.{PlainEdge, constant_edge, answered}
use Rattle.tables.specs.Pieces.{Piece, like, add_work, sub_work, scale_work}
use Rattle.tables.specs.Table.{Table, each, plus, minus, times, multiple, constant_table}
use Rattle.tables.proofs.PieceLaws.{Covers}
use Rattle.word_base.specs.declared.decomp.Decomp.{Decomp}
use Rattle.word_base.specs.declared.kind_name.KindName.{KindName}
use Rattle.word_apply.specs.Applied.{or_work_at, xor_work_at}
use Rattle.word_apply.proofs.CoverLaws.{not_covers, with_product, has_work, or_made, or_has_sum, or_has_difference, xor_made, xor_has_twice, xor_has_sum, xor_has_difference}
use Rattle.word_apply.proofs.TableLaws.{like_minus, constant_like, or-table, xor-table}

-- ---- negations
-- the difference from the constant 1
pub negation_answers : (k : KindName) (v w : View) (one a : PlainEdge) (r : Result PlainEdge Limit) → one ≡ constant_edge k (pos 1) → Keeps v w →
    IsOfBoth minus sub_work k v w one a r → IsOfEach (each negation) not_work k v w a r
negation_answers k v w one a r is keeps difference l t h =
    let stands = subst (StandsAt k v l (constant_table (length (drop l v.letters)) (pos 1))) (sym is) (constant_stands k v l (pos 1) h.allowed h.no_zero h.within) in
    let here = subst (λ (x : Table). StandsAt k v l x one) (constant_like (length (drop l v.letters)) (pos 1) t h.stands.over) stands in
    let made = answers_then k v v w (not_work l t) (sub_work l (like t (pos 1)) t) l (minus (like t (pos 1)) t) r (ran_nothing k v (not_work l t)) keeps
    (not_covers k v.letters l t) (difference l (like t (pos 1)) t here h) in
    subst (λ (x : Table). Answers k v w (not_work l t) l x r) (like_minus t) made

-- ---- the product of both, first
product_step : (made : Table → Table → List Table) (k : KindName) (v w : View) (a b : PlainEdge) (r : Result PlainEdge Limit) (l : ℕ) (t u : Table) → Keeps v w →
    IsOfBoth times (product_work v.letters) k v w a b r → StandsAt k v l t a → StandsAt k v l u b → Step k v.letters v w (with_product made v.letters l t u) l (times t u) r
product_step made k v w a b r l t u keeps product h g =
    both_step k v.letters times (product_work v.letters) v w (with_product made v.letters l t u) l t u a b r keeps product h g (has_work made k v.letters l t u)

pub product_refuses : {T : Type 0} (made : Table → Table → List Table) (op : Table → Table → Table) (k : KindName) (v w : View) (a b : PlainEdge) (f : T → PlainEdge)
    (result : Result T Limit) (e : Limit) → IsErrAnd result (λ y. y ≡ e) → Keeps v w → IsOfBoth times (product_work v.letters) k v w a b (Err e) →
    IsOfBoth op (with_product made v.letters) k v w a b (answered f result)
product_refuses made op k v w a b f result e is keeps product l t u h g =
    let qs = with_product made v.letters l t u in
    step_refuses k v v w qs l l (op t u) (times t u) f result e is (ran_nothing k v qs) (product_step made k v w a b (Err e) l t u keeps product h g)

-- ---- OR
-- the calls before the last one
record OrSteps (k : KindName) (v w x : View) (a b product : PlainEdge) (r : Result PlainEdge Limit) (l : ℕ) (t u : Table) : Type 0 where
  first : Step k v.letters v w (or_work_at v.letters l t u) l (times t u) (Ok product)
  second : Step k v.letters w x (or_work_at v.letters l t u) l (plus t u) r

or_steps : (k : KindName) (v w x : View) (a b product : PlainEdge) (r : Result PlainEdge Limit) → Keeps v w → IsOfBoth times (product_work v.letters) k v w a b (Ok product) →
    Keeps w x → IsOfBoth plus add_work k w x a b r → (l : ℕ) (t u : Table) → StandsAt k v l t a → StandsAt k v l u b → OrSteps k v w x a b product r l t u
or_steps k v w x a b product r keeps is_product after is_sum l t u h g = record {
  first = product_step or_made k v w a b (Ok product) l t u keeps is_product h g;
  second = both_step k v.letters plus add_work w x (or_work_at v.letters l t u) l t u a b r after is_sum (stays k v w l t a keeps h) (stays k v w l u b keeps g)
      (or_has_sum k v.letters l t u);
}

pub or_sum_refuses : {T : Type 0} (k : KindName) (v w x : View) (a b product : PlainEdge) (f : T → PlainEdge) (result : Result T Limit) (e : Limit) → IsErrAnd result (λ y. y ≡ e) →
    Keeps v w → IsOfBoth times (product_work v.letters) k v w a b (Ok product) → Keeps w x → IsOfBoth plus add_work k w x a b (Err e) →
    IsOfBoth (step_table Or) (or_work_at v.letters) k v x a b (answered f result)
or_sum_refuses k v w x a b product f result e is keeps is_product after is_sum l t u h g =
    let qs = or_work_at v.letters l t u in
    let steps = or_steps k v w x a b product (Err e) keeps is_product after is_sum l t u h g in
    step_refuses k v w x qs l l (step_table Or t u) (plus t u) f result e is (step_ran k v v w qs l (times t u) (Ok product) (ran_nothing k v qs) steps.first) steps.second

pub or_answers : (k : KindName) (v w x y : View) (a b product sum : PlainEdge) (r : Result PlainEdge Limit) → Keeps v w →
    IsOfBoth times (product_work v.letters) k v w a b (Ok product) → Keeps w x → IsOfBoth plus add_work k w x a b (Ok sum) → Keeps x y →
    IsOfBoth minus sub_work k x y sum product r → IsOfBoth (step_table Or) (or_work_at v.letters) k v y a b r
or_answers k v w x y a b product sum r keeps is_product after is_sum last is_difference l t u h g =
    let qs = or_work_at v.letters l t u in
    let steps = or_steps k v w x a b product (Ok sum) keeps is_product after is_sum l t u h g in
    let ran = step_ran k v w x qs l (plus t u) (Ok sum) (step_ran k v v w qs l (times t u) (Ok product) (ran_nothing k v qs) steps.first) steps.second in
    let difference = both_step k v.letters minus sub_work x y qs l (plus t u) (times t u) sum product r last is_difference steps.second.answers.stands
    (stays k w x l (times t u) product after steps.first.answers.stands) (or_has_difference k v.letters l t u) in
    subst (λ (z : Table). Answers k v y qs l z r) (or-table (length (drop l v.letters)) t u h.stands.over g.stands.over)
    (step_answers k v x y qs l (minus (plus t u) (times t u)) r ran difference)

-- ---- XOR
-- twice the product
record XorSteps (k : KindName) (v w x : View) (product : PlainEdge) (r : Result PlainEdge Limit) (l : ℕ) (t u : Table) : Type 0 where
  first : Step k v.letters v w (xor_work_at v.letters l t u) l (times t u) (Ok product)
  second : Step k v.letters w x (xor_work_at v.letters l t u) l (multiple (pos 2) (times t u)) r

xor_steps : (k : KindName) (v w x : View) (c : ℤ) (a b product : PlainEdge) (r : Result PlainEdge Limit) → c ≡ pos 2 → Keeps v w →
    IsOfBoth times (product_work v.letters) k v w a b (Ok product) → Keeps w x → IsOfEach (multiple c) (scale_work c) k w x product r →
    (l : ℕ) (t u : Table) → StandsAt k v l t a → StandsAt k v l u b → XorSteps k v w x product r l t u
xor_steps k v w x c a b product r two keeps is_product after is_twice l t u h g =
    let first = product_step xor_made k v w a b (Ok product) l t u keeps is_product h g in
    let twice = subst (λ (z : ℤ). IsOfEach (multiple z) (scale_work z) k w x product r) two is_twice in
    record {
      first = first;
      second = each_step k v.letters (multiple (pos 2)) (scale_work (pos 2)) w x (xor_work_at v.letters l t u) l (times t u) product r after twice
          first.answers.stands (xor_has_twice k v.letters l t u);
    }

pub xor_twice_refuses : {T : Type 0} (k : KindName) (v w x : View) (c : ℤ) (a b product : PlainEdge) (f : T → PlainEdge) (result : Result T Limit) (e : Limit) → c ≡ pos 2 →
    IsErrAnd result (λ y. y ≡ e) → Keeps v w → IsOfBoth times (product_work v.letters) k v w a b (Ok product) → Keeps w x →
    IsOfEach (multiple c) (scale_work c) k w x product (Err e) → IsOfBoth (step_table Xor) (xor_work_at v.letters) k v x a b (answered f result)
xor_twice_refuses k v w x c a b product f result e two is keeps is_product after is_twice l t u h g =
    let qs = xor_work_at v.letters l t u in
    let steps = xor_steps k v w x c a b product (Err e) two keeps is_product after is_twice l t u h g in
    step_refuses k v w x qs l l (step_table Xor t u) (multiple (pos 2) (times t u)) f result e is
    (step_ran k v v w qs l (times t u) (Ok product) (ran_nothing k v qs) steps.first) steps.second

-- and the sum of both
record XorSum (k : KindName) (v w x y : View) (product twice : PlainEdge) (r : Result PlainEdge Limit) (l : ℕ) (t u : Table) : Type 0 where
  ran : Ran k v x (xor_work_at v.letters l t u)
  doubled : StandsAt k x l (multiple (pos 2) (times t u)) twice
  sum : Step k v.letters x y (xor_work_at v.letters l t u) l (plus t u) r

xor_sum : (k : KindName) (v w x y : View) (c : ℤ) (a b product twice : PlainEdge) (r : Result PlainEdge Limit) → c ≡ pos 2 → Keeps v w →
    IsOfBoth times (product_work v.letters) k v w a b (Ok product) → Keeps w x → IsOfEach (multiple c) (scale_work c) k w x product (Ok twice) → Keeps x y →
    IsOfBoth plus add_work k x y a b r → (l : ℕ) (t u : Table) → StandsAt k v l t a → StandsAt k v l u b → XorSum k v w x y product twice r l t u
xor_sum k v w x y c a b product twice r two keeps is_product after is_twice later is_sum l t u h g =
    let qs = xor_work_at v.letters l t u in
    let steps = xor_steps k v w x c a b product (Ok twice) two keeps is_product after is_twice l t u h g in
    let ran = step_ran k v w x qs l (multiple (pos 2) (times t u)) (Ok twice) (step_ran k v v w qs l (times t u) (Ok product) (ran_nothing k v qs) steps.first) steps.second in
    record {
      ran = ran;
      doubled = steps.second.answers.stands;
      sum = both_step k v.letters plus add_work x y qs l t u a b r later is_sum (stays k v x l t a ran.keeps h) (stays k v x l u b ran.keeps g)
          (xor_has_sum k v.letters l t u);
    }

pub xor_sum_refuses : {T : Type 0} (k : KindName) (v w x y : View) (c : ℤ) (a b product twice : PlainEdge) (f : T → PlainEdge) (result : Result T Limit) (e : Limit) → c ≡ pos 2 →
    IsErrAnd result (λ y. y ≡ e) → Keeps v w → IsOfBoth times (product_work v.letters) k v w a b (Ok product) → Keeps w x →
    IsOfEach (multiple c) (scale_work c) k w x product (Ok twice) → Keeps x y → IsOfBoth plus add_work k x y a b (Err e) →
    IsOfBoth (step_table Xor) (xor_work_at v.letters) k v y a b (answered f result)
xor_sum_refuses k v w x y c a b product twice f result e two is keeps is_product after is_twice later is_sum l t u h g =
    let so_far = xor_sum k v w x y c a b product twice (Err e) two keeps is_product after is_twice later is_sum l t u h g in
    step_refuses k v x y (xor_work_at v.letters l t u) l l (step_table Xor t u) (plus t u) f result e is so_far.ran so_far.sum

pub xor_answers : (k : KindName) (v w x y z : View) (c : ℤ) (a b product twice sum : PlainEdge) (r : Result PlainEdge Limit) → c ≡ pos 2 → Keeps v w →
    IsOfBoth times (product_work v.letters) k v w a b (Ok product) → Keeps w x → IsOfEach (multiple c) (scale_work c) k w x product (Ok twice) → Keeps x y →
    IsOfBoth plus add_work k x y a b (Ok sum) → Keeps y z → IsOfBoth minus sub_work k y z sum twice r →
    IsOfBoth (step_table Xor) (xor_work_at v.letters) k v z a b r
xor_answers k v w x y z c a b product twice sum r two keeps is_product after is_twice later is_sum last is_difference l t u h g =
    let qs = xor_work_at v.letters l t u in
    let doubled = multiple (pos 2) (times t u) in
    let so_far = xor_sum k v w x y c a b product twice (Ok sum) two keeps is_product after is_twice later is_sum l t u h g in
    let difference = both_step k v.letters minus sub_work y z qs l (plus t u) doubled sum twice r last is_difference so_far.sum.answers.stands
    (stays k x y l doubled twice later so_far.doubled) (xor_has_difference k v.letters l t u) in
    subst (λ (o : Table). Answers k v z qs l o r) (xor-table (length (drop l v.letters)) t u h.stands.over g.stands.over)
    (step_answers k v y z qs l (minus (plus t u) doubled) r (step_ran k v x y qs l (plus t u) (Ok sum) so_far.ran so_far.sum) difference)
