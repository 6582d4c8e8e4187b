-- The first gates are built.
use Rattle.word_base.specs.declared.kind_name.KindName.{KindName}
use Rattle.std.proofs.Common.{◌≡◌, refl, sym, ◌∙◌, ap, subst, ℕ, ◌+◌, ◌<◌, Bool, true, false, ◌||◌, List, [], ◌∷◌, length, take, get_or, map, arith}
use Rattle.std.specs.Prelude.{◌==◌, slice_set, slice_index_or, Option, Some, IfSome, Contains}
use Rattle.std.proofs.lemmas.Option.{slice_get-get_or}
use Rattle.circuits.specs.Circuit.{Circuit, Gate, gate_of, net_count}
use Rattle.circuits.specs.Sound.{IsSound}
use Rattle.circuits.specs.Order.{IsInput, is_among}
use Rattle.circuits.specs.declared.gate_word.GateWord.{GateWord}
use Rattle.circuits.specs.declared.gate_word.GateWord.TheVariants.{And, Nand, Or, Nor, Xor, Xnor, Not, Buff}
use Rattle.circuits.proofs.Gates.{gate-sized, some_inputs}
use Rattle.tables.specs.Table.{Table}
use Rattle.checks.specs.Work.{gate_table}
use Rattle.kind_laws.specs.Plain.{PlainEdge}
use Rattle.diagram.specs.View.{View, StandsAt, Keeps}
use Rattle.diagram.proofs.LevelLaws.{good_at}
use Rattle.diagram.proofs.StoreLaws.{keeps_itself, keeps_on}
use Rattle.std.specs.Prelude.{Ok}
use Rattle.tables.specs.Pieces.{Piece}
use Rattle.diagram.specs.Answers.{Causes}
use Rattle.diagram.proofs.CallLaws.{ran_nothing, ran_causes}
use Rattle.checks.specs.Forward.{net_work}
use Rattle.cone_builder.specs.Causes.{Includes}
use Rattle.word_apply.specs.Applied.{AreEdges, IsOfAll, gate_work_at}
use Rattle.cone_builder.specs.Built.{AreBuilt, AreGates, ComeAfter, ReadsBuilt, or_listed}
use Rattle.cone_builder.proofs.BuiltLaws.{one_more_built, fewer_built, gathered_stand}
use Rattle.cone_builder.proofs.InputLaws.{among_more}

pub record GatesSoFar (k : KindName) (c : Circuit) (start v : View) (gates : List ℕ) (place : ℕ) (old edges : List PlainEdge) : Type 0 where
  pub keeps : Keeps start v
  pub long : length edges ≡ length old
  pub good : AreEdges k v edges
  pub built : (table : ℕ → Table) (built : ℕ → Bool) → AreGates c table → AreBuilt k start table built old → ComeAfter c built gates →
      AreBuilt k v table (or_listed built (take place gates)) edges
  pub caused : (table : ℕ → Table) (built : ℕ → Bool) (ps : List Piece) → AreGates c table → AreBuilt k start table built old → ComeAfter c built gates →
      ((n : ℕ) → Contains gates n → Includes ps (net_work c start.letters table n)) → Causes {X = Unit {0}} k start v ps (Ok tt)

pub or_false : (b : Bool) → (b || false) ≡ true → b ≡ true
or_false true e = refl
or_false false e = e

pub no_gates : (k : KindName) (c : Circuit) (start : View) (gates : List ℕ) (edges : List PlainEdge) → AreEdges k start edges → GatesSoFar k c start start gates 0 edges edges
no_gates k c start gates edges good = record {
  keeps = keeps_itself start;
  long = refl;
  good = good;
  built = λ table built are h after. fewer_built k start table built (or_listed built []) edges (λ i p. or_false (built i) p) h;
  caused = λ table built ps are h after each_of. ran_causes k start start ps tt (ran_nothing k start ps);
}

pub or_more : (built : ℕ → Bool) (listed : List ℕ) (place n m : ℕ) → place < length listed → get_or listed place 0 ≡ n → or_listed built (take (place + 1) listed) m ≡ true →
    or_listed (or_listed built (take place listed)) (n ∷ []) m ≡ true
or_more built listed place n m low is p =
    assoc (built m) (is_among (take place listed) m) (m == n) (ap (λ (b : Bool). built m || b) (sym (among_more listed place m low ∙ ap (λ (j : ℕ). is_among (take place listed) m || (m == j)) is)) ∙ p)
  where
    assoc : (a b e : Bool) → (a || (b || e)) ≡ true → ((a || b) || (e || false)) ≡ true
    assoc true b e h = refl
    assoc false true e h = refl
    assoc false false true h = refl
    assoc false false false h = h

pub one_more_gate : (k : KindName) (c : Circuit) (start v w : View) (gates : List ℕ) (place net : ℕ) (old edges new : List PlainEdge) → place < length gates → get_or gates place 0 ≡ net →
    GatesSoFar k c start v gates place old edges → Keeps v w → length new ≡ length edges → AreEdges k w new →
    ((table : ℕ → Table) (built : ℕ → Bool) → AreGates c table → AreBuilt k v table built edges → ReadsBuilt c built net → AreBuilt k w table (or_listed built (net ∷ [])) new) →
    ((table : ℕ → Table) (built : ℕ → Bool) (ps : List Piece) → AreGates c table → AreBuilt k start table built old → ComeAfter c built gates →
    ((n : ℕ) → Contains gates n → Includes ps (net_work c start.letters table n)) → Causes {X = Unit {0}} k start w ps (Ok tt)) →
    GatesSoFar k c start w gates (place + 1) old new
one_more_gate k c start v w gates place net old edges new low is so_far keeps long good makes caused = record {
  caused = caused;
  keeps = keeps_on start v w so_far.keeps keeps;
  long = long ∙ so_far.long;
  good = good;
  built = λ table built are h after.
      fewer_built k w table (or_listed (or_listed built (take place gates)) (net ∷ [])) (or_listed built (take (place + 1) gates)) new
      (λ m p. or_more built gates place net m low is p)
      (makes table (or_listed built (take place gates)) are (so_far.built table built are h after) (after place net (slice_get-get_or gates place 0 low ∙ ap Some is)));
}

pub is_input : (c : Circuit) (net : ℕ) (gate : Gate) (input : ℕ) → gate_of c net ≡ Some gate → Contains gate.inputs input → IsInput c net input
is_input c net gate input of has = rw of has

pub inputs_within : (c : Circuit) (net : ℕ) (gate : Gate) (count : ℕ) → IsSound c → gate_of c net ≡ Some gate → count ≡ net_count c →
    (input : ℕ) → Contains gate.inputs input → input < count
inputs_within c net gate count sound of many input has = rw many (sound.inputs net input (is_input c net gate input of has))

pub reads_some : (c : Circuit) (net : ℕ) (gate : Gate) → IsSound c → gate_of c net ≡ Some gate → 0 < length gate.inputs
reads_some c net gate sound of = some_inputs gate.word (length gate.inputs) (gate-sized c sound net gate of).arity

-- a gate's edge was made from those of the nets that it reads
pub gate_built : (k : KindName) (c : Circuit) (v w : View) (net : ℕ) (gate : Gate) (edges : List PlainEdge) (d e : PlainEdge) → gate_of c net ≡ Some gate → Keeps v w →
    ((input : ℕ) → Contains gate.inputs input → input < length edges) →
    IsOfAll (λ l. gate_table gate.word) (gate_work_at gate.word v.letters) k v w (map (λ n. slice_index_or edges n d) gate.inputs) (Ok e) →
    (table : ℕ → Table) (built : ℕ → Bool) → AreGates c table → AreBuilt k v table built edges → ReadsBuilt c built net →
    AreBuilt k w table (or_listed built (net ∷ [])) (slice_set edges net e)
gate_built k c v w net gate edges d e of keeps within made table built are h reads =
    let is : table net ≡ gate_table gate.word (map table gate.inputs) = subst (λ (o : Option Gate). IfSome o (λ g. table net ≡ gate_table g.word (map table g.inputs))) of (are net) in
    let stands = subst (λ (t : Table). StandsAt k w 0 t e) (sym is)
    (made 0 (map table gate.inputs) (omega arith) (gathered_stand k v table built edges d gate.inputs h (λ n has. (within n has, reads n (is_input c net gate n of has))))).stands in
    one_more_built k v w table built edges net e keeps h stands (good_at k w e 0 (table net) stands)
