-- A step of the walk: what it chooses from on each side, and where it turns.
use Rattle.std.proofs.Common.{◌≡◌, refl, sym, ◌∙◌, ap, subst, ℕ, ◌+◌, ◌<◌, Bool, true, false, List, length, Decides, arith, inl}
use Rattle.std.specs.Prelude.{Result, Ok, Err, IsTrue, ◌↔◌, if◌then◌else◌}
use Rattle.std.specs.Result.{IsErrAnd}
use Rattle.std.proofs.lemmas.Bool.Decides.{same_from_decides}
use Rattle.word_base.specs.declared.decomp.Decomp.{Decomp}
use Rattle.word_base.specs.declared.decomp.Decomp.TheVariants.{N}
use Rattle.word_base.specs.declared.kind_name.KindName.{KindName}
use Rattle.word_base.specs.declared.weight.Overflow.{Overflow}
use Rattle.tables.specs.Table.{Table, IsOver, plus, part0, part1, same_table}
use Rattle.tables.specs.Pieces.{add_work}
use Rattle.tables.proofs.PieceLaws.{HasLetter}
use Rattle.checks.specs.Work.{tried, other}
use Rattle.checks.proofs.FirstDifference.{same_table-same, same_table-refl}
use Rattle.kind_laws.specs.Plain.{PlainEdge, answered}
use Rattle.diagram.specs.Answers.{Answers}
use Rattle.diagram.specs.Calls.{CanPart, ArePartsOf, IsOfBoth}
use Rattle.diagram.specs.View.{View, letter_at, StandsAt, IsEdge, Keeps}
use Rattle.diagram.specs.declared.limit.Limit.{Limit}
use Rattle.diagram.specs.declared.limit.Limit.TheVariants as limit
use Rattle.diagram.proofs.CallLaws.{Ran, ran_nothing, ran_then, answers_then, ran_causes, ran_on, causes_then}
use Rattle.diagram.proofs.EachLaws.{part_lies_below}
use Rattle.diagram.proofs.LevelLaws.{letters_at, has_letter, stays, still_edge, same_top}
use Rattle.counterexample.specs.Steps.{PlainChoice, Offers, choice_work, Chooses, IsChoice, PlainTurn, GoesTo, step_work, IsTurn}
use Rattle.counterexample.proofs.CoverLaws.{step_covers_left, step_covers_right, choice_covers_table, choice_covers_sum}

-- ---- refusals
pub err_is : {X : Type 0} (result : Result X Limit) (e : Limit) → IsErrAnd result (λ y. y ≡ e) → result ≡ Err e
err_is (Ok x) e is = absurd is
err_is (Err y) e is = ap Err is

pub err_is_answered : {X Y : Type 0} (f : X → Y) (result : Result X Limit) (e : Limit) → IsErrAnd result (λ y. y ≡ e) → answered f result ≡ Err e
err_is_answered f (Ok x) e is = absurd is
err_is_answered f (Err y) e is = ap Err is

pub err_same : {X Y : Type 0} (e d : Limit) → let r : Result X Limit = Err e in let q : Result Y Limit = Err e in q ≡ Err d → r ≡ Err d
err_same e d h = cc

-- ---- one side
-- the table of the edge does not fit
pub no_parts : (k : KindName) (v w : View) (level : ℕ) (e : PlainEdge) (o : Overflow) → w ≡ v → ArePartsOf k v level e (Err o) →
    IsChoice k v w level e (Err limit.Overflow)
no_parts k v w level e o same are t h =
    let d = letter_at v.letters level in
    let work = choice_work d level t in
    let unfit = (choice_covers_table k v.letters d level t).unfit (record { level = level; table = t }, (0, omega arith, refl), are t h) in
    subst (λ (x : View). Chooses k v x d level t (Err limit.Overflow)) (sym same) (record {
      causes = record { made = λ id among. inl among; cause = record { overflow = λ e. unfit; full = λ e. absurd (cc) } };
      offers = tt;
    })

-- the letter that was read
pub letter_read : (v w : View) (level : ℕ) (d : Decomp) → w ≡ v → d ≡ letter_at w.letters level → letter_at v.letters level ≡ d
letter_read v w level d same is = ap (λ (x : View). letter_at x.letters level) (sym same) ∙ sym is

-- at negative Davio the sum of the parts, which is made within the work of the choice
record Summed (k : KindName) (v x : View) (level : ℕ) (t : Table) (low : PlainEdge) (r : Result PlainEdge Limit) : Type 0 where
  low_stands : StandsAt k v (level + 1) (part0 N t) low
  ran : Ran k v x (choice_work N level t)
  answers : Answers k v x (choice_work N level t) (level + 1) (tried N t) r

summed : (k : KindName) (v w x : View) (level : ℕ) (e low high : PlainEdge) (r : Result PlainEdge Limit) → letter_at v.letters level ≡ N → level < length v.letters →
    w ≡ v → ArePartsOf k v level e (Ok (low, high)) → Keeps w x → IsOfBoth plus add_work k w x low high r → (t : Table) → StandsAt k v level t e →
    Summed k v x level t low r
summed k v w x level e low high r negative within same are keeps sum t h =
    let both = are t h in
    let work = choice_work N level t in
    let lows = subst (λ (d : Decomp). StandsAt k v (level + 1) (part0 d t) low) negative both.0 in
    let highs = subst (λ (d : Decomp). StandsAt k v (level + 1) (part1 d t) high) negative both.1 in
    let from = subst (λ (z : View). IsOfBoth plus add_work k z x low high r) same sum in
    let kept = subst (λ (z : View). Keeps z x) same keeps in
    let at = subst (HasLetter k v.letters level) negative (has_letter k v level h.allowed within) in
    let over = subst (λ (es : List Decomp). IsOver (length es) t) (letters_at v.letters level within) h.stands.over in
    let covers = choice_covers_sum k v.letters level t at over in
    let answers = from (level + 1) _ _ lows highs in
    record {
      low_stands = lows;
      ran = ran_then k v v x work _ (level + 1) _ r (ran_nothing k v work) kept covers answers;
      answers = answers_then k v v x work _ (level + 1) _ r (ran_nothing k v work) kept covers answers;
    }

pub sum_refuses : (k : KindName) (v w x : View) (level : ℕ) (e low high : PlainEdge) (l : Limit) → letter_at v.letters level ≡ N → level < length v.letters →
    w ≡ v → ArePartsOf k v level e (Ok (low, high)) → Keeps w x → IsOfBoth plus add_work k w x low high (Err l) → IsChoice k v x level e (Err l)
sum_refuses k v w x level e low high l negative within same are keeps sum t h =
    let made = summed k v w x level e low high (Err l) negative within same are keeps sum t h in
    let cause = made.answers.cause in
    subst (λ (d : Decomp). Chooses k v x d level t (Err l)) (sym negative) (record {
      causes = record {
        made = made.answers.made;
        cause = record { overflow = λ e. cause.overflow (err_same l _ e); full = λ e. cause.full (err_same l _ e) };
      };
      offers = tt;
    })

pub sum_offers : (k : KindName) (v w x : View) (level : ℕ) (e low high sum : PlainEdge) → letter_at v.letters level ≡ N → level < length v.letters →
    w ≡ v → ArePartsOf k v level e (Ok (low, high)) → Keeps w x → IsOfBoth plus add_work k w x low high (Ok sum) →
    IsChoice k v x level e (Ok (record { tried = sum; other = low }))
sum_offers k v w x level e low high sum negative within same are keeps adds t h =
    let made = summed k v w x level e low high (Ok sum) negative within same are keeps adds t h in
    let kept = subst (λ (z : View). Keeps z x) same keeps in
    let c : PlainChoice = record { tried = sum; other = low } in
    subst (λ (d : Decomp). Chooses k v x d level t (Ok c)) (sym negative) (record {
      causes = ran_causes k v x (choice_work N level t) c made.ran;
      offers = record { tried_stands = made.answers.stands; other_stands = stays k v x (level + 1) _ low kept made.low_stands };
    })

-- the parts are good edges
pub parts_good : (k : KindName) (v : View) (level : ℕ) (e low high : PlainEdge) → CanPart k v level e → ArePartsOf k v level e (Ok (low, high)) → IsEdge k v low × IsEdge k v high
parts_good k v level e low high can are =
    let lies = part_lies_below k v level e low high can are in (lies.low_lies.good, lies.high_lies.good)

-- ---- both sides
Decides-same_table : (t u : Table) → Decides (same_table t u) (t ≡ u)
Decides-same_table t u = (same_table-same t u, λ e. subst (λ (x : Table). same_table t x ≡ true) e (same_table-refl t))

-- what the test of the tried edges tells
abbrev TellsSame : KindName → View → PlainEdge → PlainEdge → Bool → Type 0
TellsSame k v a b same = (l : ℕ) (t u : Table) → StandsAt k v l t a → StandsAt k v l u b → IsTrue same ↔ (t ≡ u)

test_is : (k : KindName) (v : View) (d : Decomp) (level : ℕ) (t u : Table) (left right : PlainChoice) (same : Bool) → Offers k v d level t left → Offers k v d level u right →
    TellsSame k v left.tried right.tried same → same_table (tried d t) (tried d u) ≡ same
test_is k v d level t u left right same lefts rights tells =
    same_from_decides _ same (Decides-same_table (tried d t) (tried d u)) (tells (level + 1) _ _ lefts.tried_stands rights.tried_stands)

-- to the others where the tried edges stand for one table
pub goes_on : (k : KindName) (v : View) (d : Decomp) (level : ℕ) (t u : Table) (left right : PlainChoice) (same : Bool) → Offers k v d level t left → Offers k v d level u right →
    TellsSame k v left.tried right.tried same → same ≡ true → GoesTo k v d level t u (record { bit = true; left = left.other; right = right.other })
goes_on k v d level t u left right same lefts rights tells are =
    let test = test_is k v d level t u left right same lefts rights tells ∙ are in
    record {
      bit = sym test;
      left_stands = subst (λ (b : Bool). StandsAt k v (level + 1) (if b then other d t else tried d t) left.other) (sym test) lefts.other_stands;
      right_stands = subst (λ (b : Bool). StandsAt k v (level + 1) (if b then other d u else tried d u) right.other) (sym test) rights.other_stands;
    }

-- to the tried edges where they differ
pub goes_to_tried : (k : KindName) (v : View) (d : Decomp) (level : ℕ) (t u : Table) (left right : PlainChoice) (same : Bool) → Offers k v d level t left → Offers k v d level u right →
    TellsSame k v left.tried right.tried same → same ≡ false → GoesTo k v d level t u (record { bit = false; left = left.tried; right = right.tried })
goes_to_tried k v d level t u left right same lefts rights tells differ =
    let test = test_is k v d level t u left right same lefts rights tells ∙ differ in
    record {
      bit = sym test;
      left_stands = subst (λ (b : Bool). StandsAt k v (level + 1) (if b then other d t else tried d t) left.tried) (sym test) lefts.tried_stands;
      right_stands = subst (λ (b : Bool). StandsAt k v (level + 1) (if b then other d u else tried d u) right.tried) (sym test) rights.tried_stands;
    }

pub still_can_part : (k : KindName) (v w : View) (level : ℕ) (e : PlainEdge) → Keeps v w → CanPart k v level e → CanPart k w level e
still_can_part k v w level e keeps can =
    let not_above = can.not_above in
    let top = same_top k v w e keeps can.good in
    record {
      good = still_edge k v w e keeps can.good;
      below = subst (λ (ds : List Decomp). level < length ds) (sym keeps.letters) can.below;
      not_above = omega arith;
    }

-- ---- a step
pub left_refuses : (k : KindName) (v w : View) (level : ℕ) (left right : PlainEdge) (l : Limit) → Keeps v w → IsChoice k v w level left (Err l) →
    IsTurn k v w level left right (Err l)
left_refuses k v w level left right l keeps choice t u h g =
    let d = letter_at v.letters level in
    let work = step_work d level t u in
    record {
      causes = causes_then k v v w work (choice_work d level t) (Err l) (Err l) (ran_nothing k v work) keeps (step_covers_left k v.letters d level t u) (err_same l) (choice t h).causes;
      goes = tt;
    }

-- the left side's choice was made
left_ran : (k : KindName) (v w : View) (level : ℕ) (left right : PlainEdge) (r : Result PlainChoice Limit) → Keeps v w → IsChoice k v w level left r →
    (t u : Table) → StandsAt k v level t left → Ran k v w (step_work (letter_at v.letters level) level t u)
left_ran k v w level left right r keeps choice t u h =
    let d = letter_at v.letters level in
    let work = step_work d level t u in
    ran_on k v v w work (choice_work d level t) r (ran_nothing k v work) keeps (step_covers_left k v.letters d level t u) (choice t h).causes

-- the right side's choice, by the letter that the level had before
right_chooses : (k : KindName) (v w x : View) (level : ℕ) (right : PlainEdge) (r : Result PlainChoice Limit) → Keeps v w → IsChoice k w x level right r →
    (u : Table) → StandsAt k v level u right → Chooses k w x (letter_at v.letters level) level u r
right_chooses k v w x level right r keeps choice u g =
    subst (λ (ds : List Decomp). Chooses k w x (letter_at ds level) level u r) keeps.letters (choice u (stays k v w level u right keeps g))

pub right_refuses : (k : KindName) (v w x : View) (level : ℕ) (left right : PlainEdge) (c : PlainChoice) (l : Limit) → Keeps v w → IsChoice k v w level left (Ok c) → Keeps w x →
    IsChoice k w x level right (Err l) → IsTurn k v x level left right (Err l)
right_refuses k v w x level left right c l keeps first later second t u h g =
    let d = letter_at v.letters level in
    let work = step_work d level t u in
    record {
      causes = causes_then k v w x work (choice_work d level u) (Err l) (Err l) (left_ran k v w level left right (Ok c) keeps first t u h) later
          (step_covers_right k v.letters d level t u) (err_same l) (right_chooses k v w x level right (Err l) keeps second u g).causes;
      goes = tt;
    }

-- a choice from both sides
abbrev ChoosesFrom : KindName → View → PlainChoice → PlainChoice → PlainTurn → Type 0
ChoosesFrom k v left right turn = (d : Decomp) (level : ℕ) (t u : Table) → Offers k v d level t left → Offers k v d level u right → GoesTo k v d level t u turn

pub step_turns : (k : KindName) (v w x : View) (level : ℕ) (left right : PlainEdge) (c e : PlainChoice) (turn : PlainTurn) → Keeps v w → IsChoice k v w level left (Ok c) →
    Keeps w x → IsChoice k w x level right (Ok e) → ChoosesFrom k x c e turn → IsTurn k v x level left right (Ok turn)
step_turns k v w x level left right c e turn keeps first later second chooses t u h g =
    let d = letter_at v.letters level in
    let work = step_work d level t u in
    let lefts = (first t h).offers in
    let rights = right_chooses k v w x level right (Ok e) keeps second u g in
    let still : Offers k x d level t c = record {
      tried_stands = stays k w x (level + 1) _ c.tried later lefts.tried_stands;
      other_stands = stays k w x (level + 1) _ c.other later lefts.other_stands;
    } in
    record {
      causes = ran_causes k v x work turn
          (ran_on k v w x work (choice_work d level u) (Ok e) (left_ran k v w level left right (Ok c) keeps first t u h) later
          (step_covers_right k v.letters d level t u) rights.causes);
      goes = chooses d level t u still rights.offers;
    }
