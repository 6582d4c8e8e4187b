-- The variables of the first inputs are built.
use Rattle.word_base.specs.declared.kind_name.KindName.{KindName}
use Rattle.std.proofs.Common.{◌≡◌, refl, sym, ◌∙◌, ap, subst, ℕ, zero, suc, ◌+◌, ◌<◌, Bool, true, false, ◌&&◌, ◌||◌, List, [], ◌∷◌, ◌++◌, length, take, get_or, replicate, eqb-true}
use Rattle.std.specs.Prelude.{◌==◌, slice_get, slice_set, Some}
use Rattle.std.proofs.lemmas.List.{take_more, length-set}
use Rattle.circuits.specs.Order.{is_among}
use Rattle.circuits.specs.Valuation.{bit_of}
use Rattle.std.specs.Prelude.{Ok}
use Rattle.tables.specs.Pieces.{Piece, pieces}
use Rattle.diagram.specs.Answers.{Causes}
use Rattle.diagram.proofs.CallLaws.{ran_nothing, ran_causes}
use Rattle.cone_builder.specs.Causes.{Includes}
use Rattle.kind_laws.specs.Plain.{PlainEdge}
use Rattle.tables.specs.Table.{Table, variable_table}
use Rattle.word_base.specs.declared.decomp.Decomp.{Decomp}
use Rattle.diagram.specs.View.{View, StandsAt, IsEdge, Keeps}
use Rattle.diagram.proofs.StoreLaws.{keeps_itself, keeps_on}
use Rattle.word_apply.specs.Applied.{AreEdges}
use Rattle.cone_builder.specs.Built.{AreBuilt, AreVariables, is_marked, or_listed}
use Rattle.cone_builder.proofs.BuiltLaws.{none_built, one_more_built, fewer_built}

pub record InputsSoFar (k : KindName) (start v : View) (order : List ℕ) (marks : List Bool) (level : ℕ) (old edges : List PlainEdge) : Type 0 where
  pub keeps : Keeps start v
  pub long : length edges ≡ length old
  pub good : AreEdges k v edges
  pub built : (table : ℕ → Table) → AreVariables start order table → AreBuilt k v table (is_marked (take level order) marks) edges
  pub caused : (table : ℕ → Table) (ps : List Piece) → AreVariables start order table →
      ((net : ℕ) → is_marked order marks net ≡ true → Includes ps (pieces 0 (table net ∷ []))) → Causes {X = Unit {0}} k start v ps (Ok tt)

pub repeated_good : (k : KindName) (v : View) (n : ℕ) (e : PlainEdge) → IsEdge k v e → AreEdges k v (replicate n e)
repeated_good k v zero e good = tt
repeated_good k v (suc n) e good = (good, repeated_good k v n e good)

-- ---- lists
pub among_push : (xs : List ℕ) (x m : ℕ) → is_among (xs ++ x ∷ []) m ≡ (is_among xs m || (m == x))
among_push [] x m = or_false (m == x)
  where
    or_false : (b : Bool) → (b || false) ≡ b
    or_false true = refl
    or_false false = refl
among_push (y ∷ ys) x m = ap (λ (b : Bool). (m == y) || b) (among_push ys x m) ∙ or_assoc (m == y) (is_among ys m) (m == x)
  where
    or_assoc : (a b c : Bool) → (a || (b || c)) ≡ ((a || b) || c)
    or_assoc true b c = refl
    or_assoc false b c = refl

pub among_more : (xs : List ℕ) (i m : ℕ) → i < length xs → is_among (take (i + 1) xs) m ≡ (is_among (take i xs) m || (m == get_or xs i 0))
among_more xs i m low = ap (λ ys. is_among ys m) (take_more xs i 0 low) ∙ among_push (take i xs) (get_or xs i 0) m

-- ---- steps
pub no_inputs : (k : KindName) (start : View) (order : List ℕ) (marks : List Bool) (edges : List PlainEdge) → AreEdges k start edges → InputsSoFar k start start order marks 0 edges edges
no_inputs k start order marks edges good = record {
  keeps = keeps_itself start;
  long = refl;
  good = good;
  built = λ table are. fewer_built k start table (λ i. false) (is_marked [] marks) edges (λ i p. p) (none_built k start table edges good);
  caused = λ table ps are each_of. ran_causes k start start ps tt (ran_nothing k start ps);
}

was_marked : (listed here marked : Bool) → ((listed || here) && marked) ≡ true → ((listed && marked) || (here || false)) ≡ true
was_marked true here true e = refl
was_marked true here false e = absurd (cc)
was_marked false true true e = refl
was_marked false true false e = absurd (cc)
was_marked false false marked e = absurd (cc)

pub marked_input : (k : KindName) (start v w : View) (order : List ℕ) (marks : List Bool) (level net : ℕ) (old edges : List PlainEdge) (e : PlainEdge) → level < length order →
    get_or order level 0 ≡ net → slice_get order level ≡ Some net → InputsSoFar k start v order marks level old edges → Keeps v w → StandsAt k w 0 (variable_table (length v.letters) level) e →
    ((table : ℕ → Table) (ps : List Piece) → AreVariables start order table →
    ((n : ℕ) → is_marked order marks n ≡ true → Includes ps (pieces 0 (table n ∷ []))) → Causes {X = Unit {0}} k start w ps (Ok tt)) →
    InputsSoFar k start w order marks (level + 1) old (slice_set edges net e)
marked_input k start v w order marks level net old edges e low is get so_far keeps stands caused = record {
  caused = caused;
  keeps = keeps_on start v w so_far.keeps keeps;
  long = length-set edges net e ∙ so_far.long;
  good = (one_more_built k v w (λ i. variable_table (length v.letters) level) (λ i. false) edges net e keeps (none_built k v (λ i. variable_table (length v.letters) level) edges so_far.good) stands good).good;
  built = λ table are.
      let same : variable_table (length v.letters) level ≡ table net = ap (λ (ds : List Decomp). variable_table (length ds) level) so_far.keeps.letters ∙ sym (are level net get) in
      fewer_built k w table (or_listed (is_marked (take level order) marks) (net ∷ [])) (is_marked (take (level + 1) order) marks) (slice_set edges net e)
      (λ m p. was_marked (is_among (take level order) m) (m == net) (bit_of marks m)
      (ap (λ (b : Bool). b && bit_of marks m) (sym (among_more order level m low ∙ ap (λ (n : ℕ). is_among (take level order) m || (m == n)) is)) ∙ p))
      (one_more_built k v w table (is_marked (take level order) marks) edges net e keeps (so_far.built table are) (subst (λ (t : Table). StandsAt k w 0 t e) same stands) good);
}
  where
    good : IsEdge k w e
    good = (variable_table (length v.letters) level, stands)

still_marked : (listed here marked : Bool) → (here ≡ true → marked ≡ false) → ((listed || here) && marked) ≡ true → (listed && marked) ≡ true
still_marked true here true off e = refl
still_marked true here false off e = absurd (cc)
still_marked false true marked off e = absurd (let no = off refl in cc)
still_marked false false marked off e = absurd (cc)

pub unmarked_input : (k : KindName) (start v : View) (order : List ℕ) (marks : List Bool) (level net : ℕ) (old edges : List PlainEdge) → level < length order →
    get_or order level 0 ≡ net → bit_of marks net ≡ false → InputsSoFar k start v order marks level old edges → InputsSoFar k start v order marks (level + 1) old edges
unmarked_input k start v order marks level net old edges low is off so_far = record {
  caused = so_far.caused;
  keeps = so_far.keeps;
  long = so_far.long;
  good = so_far.good;
  built = λ table are.
      fewer_built k v table (is_marked (take level order) marks) (is_marked (take (level + 1) order) marks) edges
      (λ m p. still_marked (is_among (take level order) m) (m == net) (bit_of marks m) (λ here. ap (bit_of marks) (eqb-true m net here) ∙ off)
      (ap (λ (b : Bool). b && bit_of marks m) (sym (among_more order level m low ∙ ap (λ (n : ℕ). is_among (take level order) m || (m == n)) is)) ∙ p))
      (so_far.built table are);
}
