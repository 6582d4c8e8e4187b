-- The first words are built.
use Rattle.word_base.specs.declared.kind_name.KindName.{KindName}
use Rattle.std.proofs.Common.{◌≡◌, refl, sym, ◌∙◌, subst, ℕ, ◌+◌, ◌<◌, Bool, true, List, [], ◌∷◌, length, take, get_or, map, arith}
use Rattle.std.specs.Prelude.{slice_set, slice_index_or, Contains}
use Rattle.spec_lang.specs.Specification.{Word}
use Rattle.spec_lang.specs.Value.{nets_of}
use Rattle.tables.specs.Table.{Table}
use Rattle.std.specs.Prelude.{Ok}
use Rattle.std.proofs.lemmas.List.Elements.{Contains-get_or}
use Rattle.tables.specs.Pieces.{Piece}
use Rattle.checks.specs.Work.{word_table, word_work}
use Rattle.diagram.specs.Answers.{Causes}
use Rattle.diagram.proofs.CallLaws.{ran_nothing, ran_causes}
use Rattle.cone_builder.specs.Causes.{Includes}
use Rattle.kind_laws.specs.Plain.{PlainEdge}
use Rattle.diagram.specs.View.{View, StandsAt, Keeps}
use Rattle.diagram.proofs.LevelLaws.{good_at}
use Rattle.diagram.proofs.StoreLaws.{keeps_itself, keeps_on}
use Rattle.word_apply.specs.Applied.{AreEdges, IsOfAll}
use Rattle.cone_builder.specs.Built.{AreBuilt, AreWords, or_listed}
use Rattle.cone_builder.proofs.BuiltLaws.{still_built, one_more_built, fewer_built, gathered_stand}
use Rattle.cone_builder.proofs.GateLaws.{or_more, or_false}

pub record WordsSoFar (k : KindName) (all : List Word) (start v : View) (numbers : List ℕ) (place : ℕ) (nets old words : List PlainEdge) : Type 0 where
  pub keeps : Keeps start v
  pub long : length words ≡ length old
  pub nets_good : AreEdges k v nets
  pub good : AreEdges k v words
  pub built : (of_net table : ℕ → Table) (built_nets built : ℕ → Bool) → AreWords all of_net table → AreBuilt k start of_net built_nets nets → AreBuilt k start table built old →
      ((w net : ℕ) → Contains numbers w → Contains (nets_of all w) net → built_nets net ≡ true) → AreBuilt k v table (or_listed built (take place numbers)) words
  pub caused : (of_net : ℕ → Table) (built_nets : ℕ → Bool) (ps : List Piece) → AreBuilt k start of_net built_nets nets →
      ((w net : ℕ) → Contains numbers w → Contains (nets_of all w) net → built_nets net ≡ true) →
      ((w : ℕ) → Contains numbers w → Includes ps (word_work 0 (map of_net (nets_of all w)))) → Causes {X = Unit {0}} k start v ps (Ok tt)

pub no_words : (k : KindName) (all : List Word) (start : View) (numbers : List ℕ) (nets words : List PlainEdge) → AreEdges k start nets → AreEdges k start words → WordsSoFar k all start start numbers 0 nets words words
no_words k all start numbers nets words nets_good good = record {
  keeps = keeps_itself start;
  long = refl;
  nets_good = nets_good;
  good = good;
  built = λ of_net table built_nets built are nets_built h named. fewer_built k start table built (or_listed built []) words (λ i p. or_false (built i) p) h;
  caused = λ of_net built_nets ps h named each_of. ran_causes k start start ps tt (ran_nothing k start ps);
}

pub one_more_word : (k : KindName) (all : List Word) (start v w : View) (numbers : List ℕ) (place number : ℕ) (nets old words new : List PlainEdge) → place < length numbers → get_or numbers place 0 ≡ number →
    WordsSoFar k all start v numbers place nets old words → Keeps v w → length new ≡ length words → AreEdges k w nets → AreEdges k w new →
    ((of_net table : ℕ → Table) (built_nets built : ℕ → Bool) → AreWords all of_net table → AreBuilt k v of_net built_nets nets → AreBuilt k v table built words →
    ((net : ℕ) → Contains (nets_of all number) net → built_nets net ≡ true) → AreBuilt k w table (or_listed built (number ∷ [])) new) →
    ((of_net : ℕ → Table) (built_nets : ℕ → Bool) (ps : List Piece) → AreBuilt k start of_net built_nets nets →
    ((n net : ℕ) → Contains numbers n → Contains (nets_of all n) net → built_nets net ≡ true) →
    ((n : ℕ) → Contains numbers n → Includes ps (word_work 0 (map of_net (nets_of all n)))) → Causes {X = Unit {0}} k start w ps (Ok tt)) →
    WordsSoFar k all start w numbers (place + 1) nets old new
one_more_word k all start v w numbers place number nets old words new low is so_far keeps long nets_good good makes caused = record {
  caused = caused;
  keeps = keeps_on start v w so_far.keeps keeps;
  long = long ∙ so_far.long;
  nets_good = nets_good;
  good = good;
  built = λ of_net table built_nets built are nets_built h named.
      fewer_built k w table (or_listed (or_listed built (take place numbers)) (number ∷ [])) (or_listed built (take (place + 1) numbers)) new
      (λ m p. or_more built numbers place number m low is p)
      (makes of_net table built_nets (or_listed built (take place numbers)) are (still_built k start v of_net built_nets nets so_far.keeps nets_built)
      (so_far.built of_net table built_nets built are nets_built h named) (λ net has. named number net (subst (Contains numbers) is (Contains-get_or numbers place 0 low)) has));
}

-- a word's edge was made from those of its nets
pub word_built : (k : KindName) (all : List Word) (v w : View) (number : ℕ) (nets words : List PlainEdge) (d e : PlainEdge) → number < length all → Keeps v w →
    ((net : ℕ) → Contains (nets_of all number) net → net < length nets) →
    IsOfAll (λ l. word_table) word_work k v w (map (λ n. slice_index_or nets n d) (nets_of all number)) (Ok e) →
    (of_net table : ℕ → Table) (built_nets built : ℕ → Bool) → AreWords all of_net table → AreBuilt k v of_net built_nets nets → AreBuilt k v table built words →
    ((net : ℕ) → Contains (nets_of all number) net → built_nets net ≡ true) → AreBuilt k w table (or_listed built (number ∷ [])) (slice_set words number e)
word_built k all v w number nets words d e low keeps within made of_net table built_nets built are nets_built h named =
    let stands = subst (λ (t : Table). StandsAt k w 0 t e) (sym (are number low))
    (made 0 (map of_net (nets_of all number)) (omega arith)
    (gathered_stand k v of_net built_nets nets d (nets_of all number) nets_built (λ n has. (within n has, named n has)))).stands in
    one_more_built k v w table built words number e keeps h stands (good_at k w e 0 (table number) stands)
