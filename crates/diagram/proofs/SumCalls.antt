-- The sums of two parts, one after the other, and their join.
use Rattle.std.proofs.Common.{◌≡◌, sym, ◌∙◌, subst, ℕ, ◌+◌, ◌<◌, List, length, arith}
use Rattle.std.specs.Prelude.{Result, Ok, Err}
use Rattle.std.specs.Result.{IsErrAnd}
use Rattle.word_base.specs.declared.decomp.Decomp.{Decomp}
use Rattle.word_base.specs.declared.kind_name.KindName.{KindName}
use Rattle.tables.specs.Table.{Table, plus, part0, part1, merged}
use Rattle.tables.specs.Pieces.{Piece, join_work}
use Rattle.kind_laws.specs.Plain.{PlainEdge, answered}
use Rattle.diagram.specs.Answers.{Answers}
use Rattle.diagram.specs.Calls.{CanJoin, IsJoin, IsOfBoth, PlainParts, StandForParts, LiesBelow, LieBelow}
use Rattle.diagram.specs.SumRests.{IsSum}
use Rattle.diagram.specs.Sums.{sum_work}
use Rattle.diagram.specs.View.{View, letter_at, StandsAt, Keeps}
use Rattle.diagram.specs.declared.limit.Limit.{Limit}
use Rattle.diagram.specs.declared.walk.Walk.{Walk}
use Rattle.diagram.proofs.BothLaws.{lies_below}
use Rattle.diagram.proofs.CallLaws.{Ran, ran_nothing, ran_then, answers_then, refuses_then}
use Rattle.diagram.proofs.JoinCauses.{refused}
use Rattle.diagram.proofs.LevelLaws.{stays, stands_somewhere}
use Rattle.diagram.proofs.SumLaws.{SumCovers, sum_covers}

pub refused_both : {T : Type 0} (k : KindName) (op : Table → Table → Table) (work : ℕ → Table → Table → List Piece) (v w : View) (a b : PlainEdge) (f : T → PlainEdge)
    (result : Result T Limit) (e : Limit) → IsErrAnd result (λ y. y ≡ e) → IsOfBoth op work k v w a b (Err e) → IsOfBoth op work k v w a b (answered f result)
refused_both k op work v w a b f result e is both l t u h g = refused k v w (work l t u) l (op t u) f result e is (both l t u h g)

-- what the two sums cover, of tables whose parts the operands stand for
covers_of : (walk : Walk) (k : KindName) (v : View) (l : ℕ) (t u : Table) (parts : PlainParts) → LieBelow k v l parts → StandForParts k v l t u parts → SumCovers walk k v l t u
covers_of walk k v l t u parts below s = sum_covers walk k v l t u s.first_low.allowed below.within s.first_over s.second_over

pub low_refuses : {T : Type 0} (walk : Walk) (k : KindName) (v w : View) (l : ℕ) (t u : Table) (parts : PlainParts) (f : T → PlainEdge) (result : Result T Limit) (e : Limit) →
    LieBelow k v l parts → StandForParts k v l t u parts → IsErrAnd result (λ y. y ≡ e) → Keeps v w → IsSum walk k v w parts.low (Err e) →
    Answers k v w (sum_work walk l t u) l (plus t u) (answered f result)
low_refuses walk k v w l t u parts f result e below s is keeps sum =
    refused k v w (sum_work walk l t u) l (plus t u) f result e is
    (refuses_then k v v w (sum_work walk l t u) _ l (l + 1) (plus t u) _ e (ran_nothing k v (sum_work walk l t u)) keeps (covers_of walk k v l t u parts below s).low
    (sum (l + 1) _ _ s.first_low s.second_low))

-- the low sum was made
low_ran : (walk : Walk) (k : KindName) (v w : View) (l : ℕ) (t u : Table) (parts : PlainParts) (r : Result PlainEdge Limit) → LieBelow k v l parts → StandForParts k v l t u parts →
    Keeps v w → IsSum walk k v w parts.low r → Ran k v w (sum_work walk l t u)
low_ran walk k v w l t u parts r below s keeps sum =
    ran_then k v v w (sum_work walk l t u) _ (l + 1) _ r (ran_nothing k v (sum_work walk l t u)) keeps (covers_of walk k v l t u parts below s).low (sum (l + 1) _ _ s.first_low s.second_low)

-- the high sum, after it
high_answers : (walk : Walk) (k : KindName) (v w x : View) (l : ℕ) (t u : Table) (parts : PlainParts) (r : Result PlainEdge Limit) → StandForParts k v l t u parts →
    Keeps v w → IsSum walk k w x parts.high r →
    Answers k w x (sum_work walk (l + 1) (part1 (letter_at v.letters l) t) (part1 (letter_at v.letters l) u)) (l + 1) (plus (part1 (letter_at v.letters l) t) (part1 (letter_at v.letters l) u)) r
high_answers walk k v w x l t u parts r s keeps sum =
    sum (l + 1) _ _ (stays k v w (l + 1) _ parts.high.0 keeps s.first_high) (stays k v w (l + 1) _ parts.high.1 keeps s.second_high)

pub high_refuses : {T : Type 0} (walk : Walk) (k : KindName) (v w x : View) (l : ℕ) (t u : Table) (parts : PlainParts) (low : PlainEdge) (f : T → PlainEdge) (result : Result T Limit) (e : Limit) →
    LieBelow k v l parts → StandForParts k v l t u parts → IsErrAnd result (λ y. y ≡ e) → Keeps v w → IsSum walk k v w parts.low (Ok low) → Keeps w x →
    IsSum walk k w x parts.high (Err e) → Answers k v x (sum_work walk l t u) l (plus t u) (answered f result)
high_refuses walk k v w x l t u parts low f result e below s is keeps sum later sums =
    refused k v x (sum_work walk l t u) l (plus t u) f result e is
    (refuses_then k v w x (sum_work walk l t u) _ l (l + 1) (plus t u) _ e (low_ran walk k v w l t u parts (Ok low) below s keeps sum) later (covers_of walk k v l t u parts below s).high
    (high_answers walk k v w x l t u parts (Err e) s keeps sums))

-- both sums stand for those of the parts
record BothSums (k : KindName) (v x : View) (l : ℕ) (t u : Table) (low high : PlainEdge) : Type 0 where
  low_stands : StandsAt k x (l + 1) (plus (part0 (letter_at v.letters l) t) (part0 (letter_at v.letters l) u)) low
  high_stands : StandsAt k x (l + 1) (plus (part1 (letter_at v.letters l) t) (part1 (letter_at v.letters l) u)) high

both_sums : (walk : Walk) (k : KindName) (v w x : View) (l : ℕ) (t u : Table) (parts : PlainParts) (low high : PlainEdge) → StandForParts k v l t u parts →
    Keeps v w → IsSum walk k v w parts.low (Ok low) → Keeps w x → IsSum walk k w x parts.high (Ok high) → BothSums k v x l t u low high
both_sums walk k v w x l t u parts low high s keeps sum later sums = record {
  low_stands = stays k w x (l + 1) _ low later (sum (l + 1) _ _ s.first_low s.second_low).stands;
  high_stands = (high_answers walk k v w x l t u parts (Ok high) s keeps sums).stands;
}

pub sum_joins : (walk : Walk) (k : KindName) (v w x y : View) (l : ℕ) (t u : Table) (parts : PlainParts) (low high : PlainEdge) (r : Result PlainEdge Limit) → LieBelow k v l parts →
    StandForParts k v l t u parts → Keeps v w → IsSum walk k v w parts.low (Ok low) → Keeps w x → IsSum walk k w x parts.high (Ok high) →
    Keeps x y → IsJoin k x y l low high r → Answers k v y (sum_work walk l t u) l (plus t u) r
sum_joins walk k v w x y l t u parts low high r below s keeps sum later sums last join =
    let covers = covers_of walk k v l t u parts below s in
    let both = both_sums walk k v w x l t u parts low high s keeps sum later sums in
    let d = letter_at v.letters l in
    let p = plus (part0 d t) (part0 d u) in
    let q = plus (part1 d t) (part1 d u) in
    let letters = later.letters ∙ keeps.letters in
    let answers = subst (λ (ds : _). Answers k x y (join_work (letter_at ds l) l p q) l (merged (letter_at ds l) p q) r) letters (join p q both.low_stands both.high_stands) in
    let ran = ran_then k v w x (sum_work walk l t u) _ (l + 1) _ (Ok high) (low_ran walk k v w l t u parts (Ok low) below s keeps sum) later covers.high (high_answers walk k v w x l t u parts (Ok high) s keeps sums) in
    subst (λ (z : Table). Answers k v y (sum_work walk l t u) l z r) covers.merges
    (answers_then k v x y (sum_work walk l t u) (join_work d l p q) l (merged d p q) r ran last covers.join answers)

pub somewhere : (k : KindName) (v : View) (l : ℕ) (e : PlainEdge) → l < length v.letters → LiesBelow k v l e → (t : Table) × StandsAt k v (l + 1) t e
somewhere k v l e within h =
    let below = h.below in
    stands_somewhere k v e (l + 1) h.good (omega arith) (omega arith)

pub sums_can_join : (walk : Walk) (k : KindName) (v w x : View) (l : ℕ) (parts : PlainParts) (low high : PlainEdge) → LieBelow k v l parts →
    Keeps v w → IsSum walk k v w parts.low (Ok low) → Keeps w x → IsSum walk k w x parts.high (Ok high) → CanJoin k x l low high
sums_can_join walk k v w x l parts low high below keeps sum later sums =
    let within = below.within in
    let a = somewhere k v l parts.low.0 within below.first_low in
    let b = somewhere k v l parts.low.1 within below.second_low in
    let c = somewhere k v l parts.high.0 within below.first_high in
    let d = somewhere k v l parts.high.1 within below.second_high in
    let lows = stays k w x (l + 1) _ low later (sum (l + 1) a.0 b.0 a.1 b.1).stands in
    let highs = (sums (l + 1) c.0 d.0 (stays k v w (l + 1) c.0 parts.high.0 keeps c.1) (stays k v w (l + 1) d.0 parts.high.1 keeps d.1)).stands in
    let first = lies_below k x l _ low lows in
    let second = lies_below k x l _ high highs in
    record {
      below = subst (λ (ds : List Decomp). l < length ds) (sym (later.letters ∙ keeps.letters)) within;
      low_good = first.good;
      high_good = second.good;
      low_below = first.below;
      high_below = second.below;
    }
