-- Words over edges: the sum of the multiples of their nets.
use Rattle.std.proofs.Common.{◌≡◌, sym, ap, subst, ℕ, suc, ◌+◌, ◌*◌, ◌^◌, ◌≤◌, ℤ, pos, List, [], ◌∷◌, length, fold, arith}
use Rattle.std.specs.Prelude.{Result, Ok, Err}
use Rattle.std.specs.Result.{IsErrAnd}
use Rattle.diagram.specs.Answers.{Answers}
use Rattle.diagram.specs.Calls.{IsOfEach, IsOfBoth}
use Rattle.diagram.specs.View.{View, StandsAt, Keeps}
use Rattle.diagram.specs.declared.limit.Limit.{Limit}
use Rattle.diagram.proofs.CallLaws.{Ran, ran_nothing, answers_then}
use Rattle.diagram.proofs.JoinCauses.{answers_at_once}
use Rattle.diagram.proofs.LevelLaws.{stays}
use Rattle.diagram.proofs.StepLaws.{Step, step_ran, step_refuses, each_step, both_step}
use Rattle.checks.specs.Work.{multiples, word_table, word_work}
use Rattle.kind_laws.specs.Plain.{PlainEdge, answered}
use Rattle.tables.specs.Pieces.{add_work, scale_work}
use Rattle.tables.specs.Table.{Table, plus, multiple}
use Rattle.tables.proofs.TableLaws.{times_one}
use Rattle.word_base.specs.declared.kind_name.KindName.{KindName}
use Rattle.word_apply.specs.Applied.{AllStand, IsOfAll, IsOfRest, sum_work}
use Rattle.word_apply.proofs.CoverLaws.{has_sum, word_covers}
use Rattle.word_apply.proofs.EdgeLists.{all_stay}
use Rattle.word_apply.proofs.TableLaws.{doubled}

-- the sum with the multiples of more tables, of which the first counts so often
abbrev pub sum_from : ℕ → Table → List Table → Table
sum_from power t ts = fold plus t (multiples power ts)

pub sum_of_none : (power : ℕ) (k : KindName) (v : View) (start : PlainEdge) → IsOfRest (sum_from power) (sum_work power) k v v start [] (Ok start)
sum_of_none power k v start l t [] s all = answers_at_once k v (sum_work power l t []) l t start s
sum_of_none power k v start l t (u ∷ us) s all = absurd all

-- ---- the calls in turn
multiple_step : (power : ℕ) (k : KindName) (v w : View) (c : ℤ) (bit : PlainEdge) (r : Result PlainEdge Limit) (l : ℕ) (t u : Table) (us : List Table) → c ≡ pos power → Keeps v w →
    IsOfEach (multiple c) (scale_work c) k v w bit r → StandsAt k v l u bit → Step k v.letters v w (sum_work power l t (u ∷ us)) l (multiple (pos power) u) r
multiple_step power k v w c bit r l t u us factor keeps multiple_is h =
    let here = subst (λ (z : ℤ). IsOfEach (multiple z) (scale_work z) k v w bit r) factor multiple_is in
    each_step k v.letters (multiple (pos power)) (scale_work (pos power)) v w (sum_work power l t (u ∷ us)) l u bit r keeps here h (has_sum k v.letters power l t u us).scale

record SumSteps (power : ℕ) (k : KindName) (v w x : View) (r : Result PlainEdge Limit) (l : ℕ) (t u : Table) (us : List Table) : Type 0 where
  ran : Ran k v w (sum_work power l t (u ∷ us))
  sum : Step k v.letters w x (sum_work power l t (u ∷ us)) l (plus t (multiple (pos power) u)) r

sum_steps : (power : ℕ) (k : KindName) (v w x : View) (c : ℤ) (start bit times : PlainEdge) (r : Result PlainEdge Limit) → c ≡ pos power → Keeps v w →
    IsOfEach (multiple c) (scale_work c) k v w bit (Ok times) → Keeps w x → IsOfBoth plus add_work k w x start times r →
    (l : ℕ) (t u : Table) (us : List Table) → StandsAt k v l t start → StandsAt k v l u bit → SumSteps power k v w x r l t u us
sum_steps power k v w x c start bit times r factor keeps multiple_is after sum_is l t u us s h =
    let qs = sum_work power l t (u ∷ us) in
    let first = multiple_step power k v w c bit (Ok times) l t u us factor keeps multiple_is h in
    record {
      ran = step_ran k v v w qs l (multiple (pos power) u) (Ok times) (ran_nothing k v qs) first;
      sum = both_step k v.letters plus add_work w x qs l t (multiple (pos power) u) start times r after sum_is (stays k v w l t start keeps s) first.answers.stands
          (has_sum k v.letters power l t u us).add;
    }

pub multiple_refuses : {T : Type 0} (power : ℕ) (k : KindName) (v w : View) (c : ℤ) (start bit : PlainEdge) (more : List PlainEdge) (f : T → PlainEdge) (result : Result T Limit)
    (e : Limit) → c ≡ pos power → IsErrAnd result (λ y. y ≡ e) → Keeps v w → IsOfEach (multiple c) (scale_work c) k v w bit (Err e) →
    IsOfRest (sum_from power) (sum_work power) k v w start (bit ∷ more) (answered f result)
multiple_refuses power k v w c start bit more f result e factor is keeps multiple_is l t [] s all = absurd all
multiple_refuses power k v w c start bit more f result e factor is keeps multiple_is l t (u ∷ us) s all =
    let qs = sum_work power l t (u ∷ us) in
    step_refuses k v v w qs l l _ (multiple (pos power) u) f result e is (ran_nothing k v qs) (multiple_step power k v w c bit (Err e) l t u us factor keeps multiple_is all.0)

pub sum_refuses : {T : Type 0} (power : ℕ) (k : KindName) (v w x : View) (c : ℤ) (start bit times : PlainEdge) (more : List PlainEdge) (f : T → PlainEdge) (result : Result T Limit)
    (e : Limit) → c ≡ pos power → IsErrAnd result (λ y. y ≡ e) → Keeps v w → IsOfEach (multiple c) (scale_work c) k v w bit (Ok times) → Keeps w x →
    IsOfBoth plus add_work k w x start times (Err e) → IsOfRest (sum_from power) (sum_work power) k v x start (bit ∷ more) (answered f result)
sum_refuses power k v w x c start bit times more f result e factor is keeps multiple_is after sum_is l t [] s all = absurd all
sum_refuses power k v w x c start bit times more f result e factor is keeps multiple_is after sum_is l t (u ∷ us) s all =
    let steps = sum_steps power k v w x c start bit times (Err e) factor keeps multiple_is after sum_is l t u us s all.0 in
    step_refuses k v w x (sum_work power l t (u ∷ us)) l l _ (plus t (multiple (pos power) u)) f result e is steps.ran steps.sum

-- one multiple was made and added, and the rest follows
pub sum_answers : (exponent : ℕ) (k : KindName) (v w x y : View) (c : ℤ) (start bit times sum : PlainEdge) (more : List PlainEdge) (r : Result PlainEdge Limit) → c ≡ pos (2 ^ exponent) →
    Keeps v w → IsOfEach (multiple c) (scale_work c) k v w bit (Ok times) → Keeps w x → IsOfBoth plus add_work k w x start times (Ok sum) → Keeps x y →
    IsOfRest (sum_from (2 ^ (exponent + 1))) (sum_work (2 ^ (exponent + 1))) k x y sum more r →
    IsOfRest (sum_from (2 ^ exponent)) (sum_work (2 ^ exponent)) k v y start (bit ∷ more) r
sum_answers exponent k v w x y c start bit times sum more r factor keeps multiple_is after sum_is last rest l t [] s all = absurd all
sum_answers exponent k v w x y c start bit times sum more r factor keeps multiple_is after sum_is last rest l t (u ∷ us) s all =
    let power = 2 ^ exponent in
    let qs = sum_work power l t (u ∷ us) in
    let so_far = plus t (multiple (pos power) u) in
    let steps = sum_steps power k v w x c start bit times (Ok sum) factor keeps multiple_is after sum_is l t u us s all.0 in
    let ran = step_ran k v w x qs l so_far (Ok sum) steps.ran steps.sum in
    let others = rest l so_far us steps.sum.answers.stands (all_stay k v x l us more ran.keeps all.1) in
    let here = subst (λ (n : ℕ). Answers k x y (sum_work n l so_far us) l (sum_from n so_far us) r) (sym (doubled exponent)) others in
    answers_then k v x y qs (sum_work (2 * power) l so_far us) l (sum_from (2 * power) so_far us) r ran last (has_sum k v.letters power l t u us).rest here

-- ---- words
-- the first net counts once
pub word_answers : (k : KindName) (v w : View) (first : PlainEdge) (more : List PlainEdge) (r : Result PlainEdge Limit) → Keeps v w →
    IsOfRest (sum_from 2) (sum_work 2) k v w first more r → IsOfAll (λ l. word_table) word_work k v w (first ∷ more) r
word_answers k v w first more r keeps sum l [] within all = absurd all
word_answers k v w first more r keeps sum l (t ∷ ts) within all =
    let qs = word_work l (t ∷ ts) in
    subst (λ (u : Table). Answers k v w qs l (fold plus u (multiples 2 ts)) r) (sym (times_one t))
    (answers_then k v v w qs (sum_work 2 l t ts) l (sum_from 2 t ts) r (ran_nothing k v qs) keeps (word_covers k v.letters l t ts) (sum l t ts all.0 all.1))

pub one_fewer : {X : Type 0} (exponent : ℕ) (bits more : List X) (bit : X) → bits ≡ bit ∷ more → exponent + length bits ≤ 127 → exponent + 1 + length more ≤ 127
one_fewer exponent bits more bit is few = let longer : length bits ≡ suc (length more) = ap length is in omega arith
