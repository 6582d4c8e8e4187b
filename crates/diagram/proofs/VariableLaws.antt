-- The variable of a level: the constants that its edge joins, and its table at the levels above.
use Rattle.std.proofs.Common.{◌≡◌, refl, sym, ◌∙◌, ap, subst, ℕ, zero, suc, ◌+◌, ◌<◌, ℤ, pos, List, [], ◌∷◌, true, length, drop, arith}
use Rattle.std.specs.Prelude.{Result}
use Rattle.word_base.specs.declared.decomp.Decomp.{Decomp}
use Rattle.word_base.specs.declared.decomp.Decomp.TheVariants.{S, P, N}
use Rattle.word_base.specs.declared.kind_name.KindName.{KindName}
use Rattle.tables.specs.Table.{Table, halves, IsOver, merged, constant_table, variable_table}
use Rattle.tables.specs.Laws.{are_allowed}
use Rattle.tables.specs.Pieces.{pieces, join_work}
use Rattle.tables.proofs.PieceLaws.{covers_join, covers_twice}
use Rattle.tables.proofs.CanonicalLaws.{IsOver-constant}
use Rattle.kind_laws.specs.Plain.{PlainEdge}
use Rattle.diagram.specs.Answers.{Answers}
use Rattle.diagram.specs.Calls.{CanJoin, IsJoin, IsVariable, variable_low, variable_high}
use Rattle.diagram.specs.View.{View, letter_at, StandsAt, Keeps}
use Rattle.diagram.specs.declared.limit.Limit.{Limit}
use Rattle.diagram.proofs.BothLaws.{lies_below, zip_constants}
use Rattle.diagram.proofs.CallLaws.{ran_nothing, answers_then, answers_above}
use Rattle.diagram.proofs.LevelLaws.{has_letter}

-- ---- at its own level
merged_variable : (d : Decomp) (n : ℕ) → merged d (constant_table n (variable_low d)) (constant_table n (variable_high d)) ≡ variable_table (suc n) 0
merged_variable S n = refl
merged_variable P n = ap (halves (constant_table n (pos 0))) (zip_constants _ n _ _)
merged_variable N n = ap (λ (t : Table). halves t (constant_table n (pos 1))) (zip_constants _ n _ _)

pub constants_can_join : (k : KindName) (v : View) (l : ℕ) (p q : Table) (low high : PlainEdge) → l < length v.letters → StandsAt k v (l + 1) p low →
    StandsAt k v (l + 1) q high → CanJoin k v l low high
constants_can_join k v l p q low high within h g =
    let first = lies_below k v l p low h in
    let second = lies_below k v l q high g in
    record { below = within; low_good = first.good; high_good = second.good; low_below = first.below; high_below = second.below }

variable_here : (k : KindName) (v w : View) (l : ℕ) (x y : ℤ) (low high : PlainEdge) (r : Result PlainEdge Limit) → are_allowed k v.letters ≡ true → l < length v.letters →
    x ≡ variable_low (letter_at v.letters l) → y ≡ variable_high (letter_at v.letters l) →
    StandsAt k v (l + 1) (constant_table (length (drop (l + 1) v.letters)) x) low → StandsAt k v (l + 1) (constant_table (length (drop (l + 1) v.letters)) y) high →
    Keeps v w → IsJoin k v w l low high r →
    let t = variable_table (length (drop l v.letters)) 0 in Answers k v w (pieces l (t ∷ [])) l t r
variable_here k v w l x y low high r allowed within low_is high_is h g keeps join =
    let d = letter_at v.letters l in
    let n = length (drop (l + 1) v.letters) in
    let letter = has_letter k v l allowed within in
    let p = constant_table n x in
    let q = constant_table n y in
    let merges : merged d p q ≡ variable_table (suc n) 0 =
    ap (λ (z : ℤ). merged d (constant_table n z) q) low_is ∙ ap (λ (z : ℤ). merged d (constant_table n (variable_low d)) (constant_table n z)) high_is ∙ merged_variable d n in
    let t = merged d p q in
    let covers = covers_join k v.letters l d p q t letter (IsOver-constant n x) (IsOver-constant n y) refl in
    let answers = answers_then k v v w (pieces l (t ∷ [])) (join_work d l p q) l t r (ran_nothing k v (pieces l (t ∷ []))) keeps covers (join p q h g) in
    let Holds : Table → Type 0 = λ z. Answers k v w (pieces l (z ∷ [])) l z r in
    subst (λ (ds : List Decomp). Holds (variable_table (length ds) 0)) (sym letter.letters) (subst Holds merges answers)

-- ---- at the levels above
over_variable : (n l : ℕ) → IsOver n (variable_table n l)
over_variable zero l = tt
over_variable (suc n) zero = (IsOver-constant n (pos 0), IsOver-constant n (pos 1))
over_variable (suc n) (suc l) = (over_variable n l, over_variable n l)

variable_above : (k : KindName) (v w : View) (r : Result PlainEdge Limit) (n l m : ℕ) → l + n ≡ m → are_allowed k v.letters ≡ true → m < length v.letters → Keeps v w →
    (let t = variable_table (length (drop m v.letters)) 0 in Answers k v w (pieces m (t ∷ [])) m t r) →
    let t = variable_table (length (drop l v.letters)) n in Answers k v w (pieces l (t ∷ [])) l t r
variable_above k v w r zero l m sum allowed within keeps here =
    let same : m ≡ l = omega arith in
    subst (λ (x : ℕ). let t = variable_table (length (drop x v.letters)) 0 in Answers k v w (pieces x (t ∷ [])) x t r) same here
variable_above k v w r (suc n) l m sum allowed within keeps here =
    let d = letter_at v.letters l in
    let len = length (drop (l + 1) v.letters) in
    let less : l < length v.letters = omega arith in
    let rest : l + 1 + n ≡ m = omega arith in
    let letter = has_letter k v l allowed less in
    let t = variable_table len n in
    let below = variable_above k v w r n (l + 1) m rest allowed within keeps here in
    let up = answers_above k v w (pieces l (halves t t ∷ [])) (pieces (l + 1) (t ∷ [])) l t r keeps (covers_twice k v.letters l d t letter (over_variable len n)) below in
    subst (λ (ds : List Decomp). let z = variable_table (length ds) (suc n) in Answers k v w (pieces l (z ∷ [])) l z r) (sym letter.letters) up

pub variable_answers : (k : KindName) (v w : View) (l : ℕ) (x y : ℤ) (low high : PlainEdge) (r : Result PlainEdge Limit) → are_allowed k v.letters ≡ true → l < length v.letters →
    x ≡ variable_low (letter_at v.letters l) → y ≡ variable_high (letter_at v.letters l) →
    StandsAt k v (l + 1) (constant_table (length (drop (l + 1) v.letters)) x) low → StandsAt k v (l + 1) (constant_table (length (drop (l + 1) v.letters)) y) high →
    Keeps v w → IsJoin k v w l low high r → IsVariable k v w l r
variable_answers k v w l x y low high r allowed within low_is high_is h g keeps join =
    let sum : 0 + l ≡ l = omega arith in
    variable_above k v w r l 0 l sum allowed within keeps (variable_here k v w l x y low high r allowed within low_is high_is h g keeps join)
