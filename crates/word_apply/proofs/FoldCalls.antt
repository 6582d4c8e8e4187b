-- The fold of a gate's word over edges, and the gate.
use Rattle.std.proofs.Common.{◌≡◌, sym, subst, ℕ, ◌≤◌, ℤ, List, [], ◌∷◌, ◌++◌, Bool, true, false, length, drop}
use Rattle.std.specs.Prelude.{Result, Ok, Err, if◌then◌else◌}
use Rattle.std.specs.Result.{IsErrAnd}
use Rattle.diagram.specs.Answers.{Answers}
use Rattle.diagram.specs.Calls.{IsOfEach, IsOfBoth}
use Rattle.diagram.specs.View.{View, StandsAt, Keeps}
use Rattle.diagram.specs.declared.limit.Limit.{Limit}
use Rattle.diagram.proofs.CallLaws.{Ran, ran_nothing, ran_then, answers_then, refuses_then}
use Rattle.diagram.proofs.JoinCauses.{answers_at_once, refused}
use Rattle.checks.specs.Work.{step_work, step_table, fold_work, fold_table, not_work, gate_work, gate_table}
use Rattle.circuits.specs.Polynomial.{step, is_negated, negation}
use Rattle.circuits.specs.declared.gate_word.GateWord.{GateWord}
use Rattle.kind_laws.specs.Plain.{PlainEdge, answered}
use Rattle.tables.specs.Pieces.{Piece}
use Rattle.tables.specs.Table.{Table, each}
use Rattle.tables.proofs.PieceLaws.{Covers, covers_left, covers_right}
use Rattle.word_base.specs.declared.decomp.Decomp.{Decomp}
use Rattle.word_base.specs.declared.kind_name.KindName.{KindName}
use Rattle.word_apply.specs.Applied.{AllStand, IsOfAll, IsOfRest, step_work_at, fold_work_at, gate_work_at}
use Rattle.word_apply.proofs.EdgeLists.{all_stay}
use Rattle.word_apply.proofs.TableLaws.{first_of_both, negated_table, plain_table}

-- ---- steps
-- a step that is its first operand
pub step_of_none : (word : GateWord) (k : KindName) (v : View) (a b : PlainEdge) → ((x y : ℤ) → step word x y ≡ x) →
    IsOfBoth (step_table word) (step_work_at word v.letters) k v v a b (Ok a)
step_of_none word k v a b same l t u h g =
    answers_at_once k v (step_work_at word v.letters l t u) l (step_table word t u) a
    (subst (λ (z : Table). StandsAt k v l z a) (sym (first_of_both (step word) same (length (drop l v.letters)) t u h.stands.over g.stands.over)) h)

-- ---- folds
pub fold_of_none : (word : GateWord) (k : KindName) (v : View) (first : PlainEdge) → IsOfRest (fold_table word) (fold_work_at word v.letters) k v v first [] (Ok first)
fold_of_none word k v first l t [] s all = answers_at_once k v [] l t first s
fold_of_none word k v first l t (u ∷ us) s all = absurd all

-- its step was refused
pub fold_refuses : {T : Type 0} (word : GateWord) (k : KindName) (v w : View) (first next : PlainEdge) (more : List PlainEdge) (f : T → PlainEdge) (result : Result T Limit) (e : Limit) →
    IsErrAnd result (λ y. y ≡ e) → Keeps v w → IsOfBoth (step_table word) (step_work_at word v.letters) k v w first next (Err e) →
    IsOfRest (fold_table word) (fold_work_at word v.letters) k v w first (next ∷ more) (answered f result)
fold_refuses word k v w first next more f result e is keeps one l t [] s all = absurd all
fold_refuses word k v w first next more f result e is keeps one l t (u ∷ us) s all =
    let qs = fold_work_at word v.letters l t (u ∷ us) in
    refused k v w qs l _ f result e is
    (refuses_then k v v w qs (step_work_at word v.letters l t u) l l _ (step_table word t u) e (ran_nothing k v qs) keeps
    (covers_left k v.letters (step_work_at word v.letters l t u) (fold_work_at word v.letters l (step_table word t u) us)) (one l t u s all.0))

-- one step was made, and the rest follows
pub fold_answers : (word : GateWord) (k : KindName) (v w x : View) (first next folded : PlainEdge) (more : List PlainEdge) (r : Result PlainEdge Limit) → Keeps v w → Keeps w x →
    IsOfBoth (step_table word) (step_work_at word v.letters) k v w first next (Ok folded) →
    IsOfRest (fold_table word) (fold_work_at word w.letters) k w x folded more r →
    IsOfRest (fold_table word) (fold_work_at word v.letters) k v x first (next ∷ more) r
fold_answers word k v w x first next folded more r keeps after one others l t [] s all = absurd all
fold_answers word k v w x first next folded more r keeps after one others l t (u ∷ us) s all =
    let qs = fold_work_at word v.letters l t (u ∷ us) in
    let stepped = step_table word t u in
    let made = one l t u s all.0 in
    let ran = ran_then k v v w qs (step_work_at word v.letters l t u) l stepped (Ok folded) (ran_nothing k v qs) keeps
    (covers_left k v.letters (step_work_at word v.letters l t u) (fold_work_at word v.letters l stepped us)) made in
    let rest = subst (λ (ds : List Decomp). Answers k w x (fold_work_at word ds l stepped us) l (fold_table word stepped us) r) keeps.letters
    (others l stepped us made.stands (all_stay k v w l us more keeps all.1)) in
    answers_then k v w x qs (fold_work_at word v.letters l stepped us) l (fold_table word stepped us) r ran after
    (covers_right k v.letters (step_work_at word v.letters l t u) (fold_work_at word v.letters l stepped us)) rest

-- ---- gates
-- the negation of a fold's table, where the word is negated
abbrev last_work : GateWord → ℕ → Table → List Table → List Piece
last_work word l t ts = if is_negated word then not_work l (fold_table word t ts) else []

-- the gate ends with its fold
pub gate_refuses : {T : Type 0} (word : GateWord) (k : KindName) (v w : View) (first : PlainEdge) (rest : List PlainEdge) (f : T → PlainEdge) (result : Result T Limit) (e : Limit) →
    IsErrAnd result (λ y. y ≡ e) → Keeps v w → IsOfRest (fold_table word) (fold_work_at word v.letters) k v w first rest (Err e) →
    IsOfAll (λ l. gate_table word) (gate_work_at word v.letters) k v w (first ∷ rest) (answered f result)
gate_refuses word k v w first rest f result e is keeps fold l [] within all = absurd all
gate_refuses word k v w first rest f result e is keeps fold l (t ∷ ts) within all =
    let qs = gate_work_at word v.letters l (t ∷ ts) in
    refused k v w qs l _ f result e is
    (refuses_then k v v w qs (fold_work_at word v.letters l t ts) l l _ (fold_table word t ts) e (ran_nothing k v qs) keeps
    (covers_left k v.letters (fold_work_at word v.letters l t ts) (last_work word l t ts)) (fold l t ts all.0 all.1))

pub gate_folded : (word : GateWord) (k : KindName) (v w : View) (first : PlainEdge) (rest : List PlainEdge) (r : Result PlainEdge Limit) → is_negated word ≡ false → Keeps v w →
    IsOfRest (fold_table word) (fold_work_at word v.letters) k v w first rest r → IsOfAll (λ l. gate_table word) (gate_work_at word v.letters) k v w (first ∷ rest) r
gate_folded word k v w first rest r plain keeps fold l [] within all = absurd all
gate_folded word k v w first rest r plain keeps fold l (t ∷ ts) within all =
    let qs = gate_work_at word v.letters l (t ∷ ts) in
    subst (λ (z : Table). Answers k v w qs l z r) (plain_table word t ts plain)
    (answers_then k v v w qs (fold_work_at word v.letters l t ts) l (fold_table word t ts) r (ran_nothing k v qs) keeps
    (covers_left k v.letters (fold_work_at word v.letters l t ts) (last_work word l t ts)) (fold l t ts all.0 all.1))

pub gate_negated : (word : GateWord) (k : KindName) (v w x : View) (first folded : PlainEdge) (rest : List PlainEdge) (r : Result PlainEdge Limit) → is_negated word ≡ true →
    Keeps v w → Keeps w x → IsOfRest (fold_table word) (fold_work_at word v.letters) k v w first rest (Ok folded) → IsOfEach (each negation) not_work k w x folded r →
    IsOfAll (λ l. gate_table word) (gate_work_at word v.letters) k v x (first ∷ rest) r
gate_negated word k v w x first folded rest r negated keeps after fold not l [] within all = absurd all
gate_negated word k v w x first folded rest r negated keeps after fold not l (t ∷ ts) within all =
    let qs = gate_work_at word v.letters l (t ∷ ts) in
    let table = fold_table word t ts in
    let made = fold l t ts all.0 all.1 in
    let ran = ran_then k v v w qs (fold_work_at word v.letters l t ts) l table (Ok folded) (ran_nothing k v qs) keeps
    (covers_left k v.letters (fold_work_at word v.letters l t ts) (last_work word l t ts)) made in
    let covers : Covers k v.letters qs (not_work l table) =
    subst (λ (b : Bool). Covers k v.letters (fold_work_at word v.letters l t ts ++ (if b then not_work l table else [])) (not_work l table)) (sym negated)
    (covers_right k v.letters (fold_work_at word v.letters l t ts) (not_work l table)) in
    subst (λ (z : Table). Answers k v x qs l z r) (negated_table word t ts negated)
    (answers_then k v w x qs (not_work l table) l (each negation table) r ran after covers (not l table made.stands))
