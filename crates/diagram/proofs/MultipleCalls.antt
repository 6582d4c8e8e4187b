-- The multiples of two parts, one after the other, and their join.
use Rattle.std.proofs.Common.{◌≡◌, sym, ◌∙◌, subst, ℕ, ◌+◌, ◌<◌, ℤ, List, length}
use Rattle.std.specs.Prelude.{Result, Ok, Err}
use Rattle.std.specs.Result.{IsErrAnd}
use Rattle.word_base.specs.declared.decomp.Decomp.{Decomp}
use Rattle.word_base.specs.declared.kind_name.KindName.{KindName}
use Rattle.tables.specs.Table.{Table, multiple, part0, part1, merged}
use Rattle.tables.specs.Pieces.{scale_work, join_work}
use Rattle.kind_laws.specs.Plain.{PlainEdge, answered}
use Rattle.diagram.specs.Answers.{Answers}
use Rattle.diagram.specs.Calls.{CanJoin, IsJoin, PartLiesBelow, StandForPart}
use Rattle.diagram.specs.Multiples.{IsMultiple}
use Rattle.diagram.specs.View.{View, letter_at, Keeps}
use Rattle.diagram.specs.declared.limit.Limit.{Limit}
use Rattle.diagram.proofs.BothLaws.{lies_below}
use Rattle.diagram.proofs.CallLaws.{Ran, ran_nothing, ran_then, answers_then, refuses_then}
use Rattle.diagram.proofs.JoinCauses.{refused}
use Rattle.diagram.proofs.LevelLaws.{stays}
use Rattle.diagram.proofs.MultipleLaws.{MultipleCovers, multiple_covers}
use Rattle.diagram.proofs.SumCalls.{somewhere}

covers_of : (k : KindName) (v : View) (l : ℕ) (c : ℤ) (t : Table) (low high : PlainEdge) → PartLiesBelow k v l low high → StandForPart k v l t low high →
    MultipleCovers k v l c t
covers_of k v l c t low high below s = multiple_covers k v l c t s.low_stands.allowed below.within s.over

pub low_multiple_refuses : {T : Type 0} (k : KindName) (v w : View) (l : ℕ) (c : ℤ) (t : Table) (low high : PlainEdge) (f : T → PlainEdge) (result : Result T Limit) (e : Limit) →
    PartLiesBelow k v l low high → StandForPart k v l t low high → IsErrAnd result (λ y. y ≡ e) → Keeps v w → IsMultiple c k v w low (Err e) →
    Answers k v w (scale_work c l t) l (multiple c t) (answered f result)
low_multiple_refuses k v w l c t low high f result e below s is keeps first =
    refused k v w (scale_work c l t) l (multiple c t) f result e is
    (refuses_then k v v w (scale_work c l t) _ l (l + 1) (multiple c t) _ e (ran_nothing k v (scale_work c l t)) keeps (covers_of k v l c t low high below s).low
    (first (l + 1) _ s.low_stands))

-- the low multiple was made
low_ran : (k : KindName) (v w : View) (l : ℕ) (c : ℤ) (t : Table) (low high : PlainEdge) (r : Result PlainEdge Limit) → PartLiesBelow k v l low high →
    StandForPart k v l t low high → Keeps v w → IsMultiple c k v w low r → Ran k v w (scale_work c l t)
low_ran k v w l c t low high r below s keeps first =
    ran_then k v v w (scale_work c l t) _ (l + 1) _ r (ran_nothing k v (scale_work c l t)) keeps (covers_of k v l c t low high below s).low (first (l + 1) _ s.low_stands)

-- the high multiple, after it
high_answers : (k : KindName) (v w x : View) (l : ℕ) (c : ℤ) (t : Table) (low high : PlainEdge) (r : Result PlainEdge Limit) → StandForPart k v l t low high →
    Keeps v w → IsMultiple c k w x high r →
    Answers k w x (scale_work c (l + 1) (part1 (letter_at v.letters l) t)) (l + 1) (multiple c (part1 (letter_at v.letters l) t)) r
high_answers k v w x l c t low high r s keeps second = second (l + 1) _ (stays k v w (l + 1) _ high keeps s.high_stands)

pub high_multiple_refuses : {T : Type 0} (k : KindName) (v w x : View) (l : ℕ) (c : ℤ) (t : Table) (low high made : PlainEdge) (f : T → PlainEdge) (result : Result T Limit) (e : Limit) →
    PartLiesBelow k v l low high → StandForPart k v l t low high → IsErrAnd result (λ y. y ≡ e) → Keeps v w → IsMultiple c k v w low (Ok made) → Keeps w x →
    IsMultiple c k w x high (Err e) → Answers k v x (scale_work c l t) l (multiple c t) (answered f result)
high_multiple_refuses k v w x l c t low high made f result e below s is keeps first later second =
    refused k v x (scale_work c l t) l (multiple c t) f result e is
    (refuses_then k v w x (scale_work c l t) _ l (l + 1) (multiple c t) _ e (low_ran k v w l c t low high (Ok made) below s keeps first) later
    (covers_of k v l c t low high below s).high (high_answers k v w x l c t low high (Err e) s keeps second))

pub multiple_joins : (k : KindName) (v w x y : View) (l : ℕ) (c : ℤ) (t : Table) (low high first second : PlainEdge) (r : Result PlainEdge Limit) →
    PartLiesBelow k v l low high → StandForPart k v l t low high → Keeps v w → IsMultiple c k v w low (Ok first) → Keeps w x → IsMultiple c k w x high (Ok second) →
    Keeps x y → IsJoin k x y l first second r → Answers k v y (scale_work c l t) l (multiple c t) r
multiple_joins k v w x y l c t low high first second r below s keeps is_first later is_second last join =
    let covers = covers_of k v l c t low high below s in
    let d = letter_at v.letters l in
    let p = multiple c (part0 d t) in
    let q = multiple c (part1 d t) in
    let low_stands = stays k w x (l + 1) p first later (is_first (l + 1) _ s.low_stands).stands in
    let highs = high_answers k v w x l c t low high (Ok second) s keeps is_second in
    let letters = later.letters ∙ keeps.letters in
    let answers = subst (λ (ds : _). Answers k x y (join_work (letter_at ds l) l p q) l (merged (letter_at ds l) p q) r) letters (join p q low_stands highs.stands) in
    let ran = ran_then k v w x (scale_work c l t) _ (l + 1) _ (Ok second) (low_ran k v w l c t low high (Ok first) below s keeps is_first) later covers.high highs in
    subst (λ (z : Table). Answers k v y (scale_work c l t) l z r) covers.merges
    (answers_then k v x y (scale_work c l t) (join_work d l p q) l (merged d p q) r ran last covers.join answers)

pub multiples_can_join : (k : KindName) (v w x : View) (l : ℕ) (c : ℤ) (low high first second : PlainEdge) → PartLiesBelow k v l low high →
    Keeps v w → IsMultiple c k v w low (Ok first) → Keeps w x → IsMultiple c k w x high (Ok second) → CanJoin k x l first second
multiples_can_join k v w x l c low high first second below keeps is_first later is_second =
    let within = below.within in
    let a = somewhere k v l low within below.low_lies in
    let b = somewhere k v l high within below.high_lies in
    let one = lies_below k x l _ first (stays k w x (l + 1) _ first later (is_first (l + 1) a.0 a.1).stands) in
    let two = lies_below k x l _ second (is_second (l + 1) b.0 (stays k v w (l + 1) b.0 high keeps b.1)).stands in
    record {
      below = subst (λ (ds : List Decomp). l < length ds) (sym (later.letters ∙ keeps.letters)) within;
      low_good = one.good;
      high_good = two.good;
      low_below = one.below;
      high_below = two.below;
    }
