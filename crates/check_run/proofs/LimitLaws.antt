-- A limit that was met in a check is one that its work asks for.
use Rattle.std.proofs.Common.{◌≡◌, refl, sym, ◌∙◌, ap, subst, ℕ, suc, ◌+◌, ◌*◌, ◌-◌, ◌≤◌, Bool, true, false, not, ◌&&◌, ◌||◌, List, [], ◌∷◌, length, drop, arith, inl, inr, ⊎_elim}
use Rattle.std.specs.Prelude.{◌⊎◌, Contains, Option, Some, IsTrue, nat_eq, nat_le}
use Rattle.std.specs.List.{AllByRecursion, IsDistinct, list_all}
use Rattle.std.specs.Cmp.{IsEquivalence}
use Rattle.std.specs.Option.{option_map_or}
use Rattle.std.specs.Set.{is_member}
use Rattle.std.proofs.lemmas.Bool.{cases_Bool, or_left, or_right}
use Rattle.std.proofs.lemmas.Bool.Decides.{nat_tests}
use Rattle.std.proofs.lemmas.List.Elements.{All-contains, All-from_recursion}
use Rattle.std.proofs.lemmas.List.FromFn.{length-range_with_len}
use Rattle.std.proofs.lemmas.Map.Keys.{IsDistinct-cons, IsDistinct-head, IsDistinct-tail}
use Rattle.std.proofs.lemmas.Map.Made.{length-le_from_is_member}
use Rattle.circuits.specs.Circuit.{Circuit}
use Rattle.circuits.proofs.Members.{Contains-cases, Contains-cons, Contains-head, Contains-nil, list_all-true}
use Rattle.spec_lang.specs.Placed.{net_values}
use Rattle.spec_lang.specs.Specification.{Check, Specification}
use Rattle.spec_lang.specs.Value.{all_in_range}
use Rattle.word_base.specs.declared.decomp.Decomp.{Decomp}
use Rattle.word_base.specs.declared.kind_name.KindName.{KindName}
use Rattle.tables.specs.Canonical.{IsNodeOf, canonical, has}
use Rattle.tables.specs.Pieces.{Piece, InNodes, SomeUnfit}
use Rattle.tables.specs.Tree.{Shape, same_shape}
use Rattle.tables.proofs.NodeLaws.{nodes_are_added, none_distinct}
use Rattle.tables.proofs.TreeLaws.{same_shape-same, same_shape-refl}
use Rattle.checks.specs.Answer.{Difference, first_difference}
use Rattle.checks.specs.Forward.{forward_work}
use Rattle.checks.specs.Limits.{need, nodes_of, over, piece_fits, short, values_in_range}
use Rattle.checks.specs.Sides.{side}
use Rattle.checks.specs.declared.method.Method.TheVariants.{Forward}
use Rattle.kind_laws.specs.Graph.{HasShape, Lookup}
use Rattle.kind_laws.proofs.GraphLaws.{same_id_of_shape}
use Rattle.record_store.specs.Solo.{IsSoloView}
use Rattle.record_store.specs.StoreView.{find_in}
use Rattle.diagram.specs.Answers.{HasNodeShape}
use Rattle.diagram.specs.View.{View}

-- ---- over the range
list_fails : {X : Type 0} (p : X → Bool) (xs : List X) (x : X) → Contains xs x → p x ≡ false → list_all p xs ≡ false
list_fails p xs x has fails =
    ⊎_elim (λ all. absurd (let passes = list_all-true p xs all x has in cc)) (λ some. some) (cases_Bool (list_all p xs))

pub over_of_unfit : (k : KindName) (c : Circuit) (s : Specification) (check : Check) → SomeUnfit k s.letters (forward_work c s check) → over k Forward c s check ≡ true
over_of_unfit k c s check (p, listed, unfit) =
    let work = forward_work c s check in
    let fails = list_fails (piece_fits k s.letters) work p listed unfit in
    or_left (not (list_all (piece_fits k s.letters) work)) (not (values_in_range c s check)) (ap not fails)

pub over_of_values : (k : KindName) (c : Circuit) (s : Specification) (check : Check) (d : Difference) (at : List Bool) → first_difference (side c s check.left) (side c s check.right) ≡ Some d → at ≡ d.at →
    (all_in_range s.words (net_values c s at) check.left && all_in_range s.words (net_values c s at) check.right) ≡ false → over k Forward c s check ≡ true
over_of_values k c s check d at found at_is out =
    let within : Difference → Bool = λ x. all_in_range s.words (net_values c s x.at) check.left && all_in_range s.words (net_values c s x.at) check.right in
    let here : within d ≡ false = subst (λ (bits : List Bool). (all_in_range s.words (net_values c s bits) check.left && all_in_range s.words (net_values c s bits) check.right) ≡ false) at_is out in
    let values : values_in_range c s check ≡ false = ap (λ (o : Option Difference). option_map_or within o true) found ∙ here in
    or_right (not (list_all (piece_fits k s.letters) (forward_work c s check))) (not (values_in_range c s check)) (ap not values)

-- ---- the nodes of a work
listed_node : (k : KindName) (ds : List Decomp) (ps : List Piece) (s : Shape) → InNodes k ds ps s → has (nodes_of k ds ps) s ≡ true
listed_node k ds [] s (p, listed, is) = absurd (Contains-nil p listed)
listed_node k ds (q ∷ ps) s (p, listed, is) =
    let first = (canonical k (drop q.level ds) q.level q.table).shape in
    ⊎_elim
    (λ here. (nodes_are_added first (nodes_of k ds ps) s).1 (inr (subst (λ (x : Piece). IsNodeOf s (canonical k (drop x.level ds) x.level x.table).shape) (sym here) is)))
    (λ more. (nodes_are_added first (nodes_of k ds ps) s).1 (inl (listed_node k ds ps s (p, more, is))))
    (Contains-cases q ps p listed)

-- ---- as many nodes as ids
shapes_alike : IsEquivalence same_shape
shapes_alike = record {
  refl = same_shape-refl;
  symm = λ s t. alike s t (same_shape s t) (same_shape t s) refl refl;
  congr = λ s t u same. ap (λ (x : Shape). same_shape x u) (same_shape-same s t same);
}
  where
    alike : (s t : Shape) (a b : Bool) → same_shape s t ≡ a → same_shape t s ≡ b → same_shape s t ≡ same_shape t s
    alike s t true b is other = let same = same_shape-same s t is in ap (λ (x : Shape). same_shape x t) same ∙ ap (λ (x : Shape). same_shape t x) (sym same)
    alike s t false true is other = let same = same_shape-same t s other in ap (λ (x : Shape). same_shape s x) same ∙ ap (λ (x : Shape). same_shape x s) (sym same)
    alike s t false false is other = is ∙ sym other

member_of_has : (ts : List Shape) (s : Shape) → has ts s ≡ true → is_member same_shape ts s ≡ true
member_of_has [] s h = h
member_of_has (t ∷ ts) s h = or_parts (same_shape t s) (same_shape s t) (has ts s) (is_member same_shape ts s) (shapes_alike.symm t s) (λ more. member_of_has ts s more) h
  where
    or_parts : (a b p q : Bool) → a ≡ b → (p ≡ true → q ≡ true) → (a || p) ≡ true → (b || q) ≡ true
    or_parts true b p q same more h = rw (← same) refl
    or_parts false b p q same more h = rw (← same) (more h)

-- shapes that are among the nodes, each of one of the ids
abbrev Listed : KindName → Lookup → List Shape → List ℕ → List Shape → Type 0
Listed k find nodes ids = AllByRecursion (λ s. (has nodes s ≡ true) × ((id : ℕ) × Contains ids id × HasShape k find id s))

record Counted (k : KindName) (find : Lookup) (nodes : List Shape) (ids : List ℕ) : Type 0 where
  pub shapes : List Shape
  pub many : length shapes ≡ length ids
  pub listed : Listed k find nodes ids shapes
  pub distinct : IsDistinct same_shape shapes

module _ (k : KindName) (find : Lookup) (nodes : List Shape) (no_twice : (i j : ℕ) (body : List ℕ) → find i ≡ Some body → find j ≡ Some body → i ≡ j) where
  later : (id : ℕ) (ids : List ℕ) (shapes : List Shape) → Listed k find nodes ids shapes → Listed k find nodes (id ∷ ids) shapes
  later id ids [] all = tt
  later id ids (s ∷ shapes) all =
      let h = all.0 in ((h.0, (h.1.0, Contains-cons id ids h.1.0 h.1.1, h.1.2)), later id ids shapes all.1)

  apart : (id : ℕ) (ids : List ℕ) (s : Shape) (shapes : List Shape) → (Contains ids id → ⊥) → HasShape k find id s → Listed k find nodes ids shapes →
      AllByRecursion (λ t. same_shape s t ≡ false) shapes
  apart id ids s [] fresh of all = tt
  apart id ids s (t ∷ shapes) fresh of all =
      ⊎_elim
      (λ same.
      let is = same_shape-same s t same in
      let one = same_id_of_shape k find no_twice t id all.0.1.0 (subst (HasShape k find id) is of) all.0.1.2 in
      absurd (fresh (subst (Contains ids) (sym one) all.0.1.1)))
      (λ differs. (differs, apart id ids s shapes fresh of all.1))
      (cases_Bool (same_shape s t))

  none_again : (id : ℕ) (ids : List ℕ) → IsDistinct nat_eq (id ∷ ids) → Contains ids id → ⊥
  none_again id ids d has =
      let differs = All-contains (λ y. nat_eq id y ≡ false) ids id (All-from_recursion (λ y. nat_eq id y ≡ false) ids (IsDistinct-head nat_eq id ids d)) has in
      grind (arith, nat_tests)

  counted : (ids : List ℕ) → IsDistinct nat_eq ids → ((id : ℕ) → Contains ids id → (s : Shape) × (has nodes s ≡ true) × HasShape k find id s) → Counted k find nodes ids
  counted [] d told = record { shapes = []; many = refl; listed = tt; distinct = none_distinct }
  counted (id ∷ ids) d told =
      let first = told id (Contains-head id ids) in
      let rest = counted ids (IsDistinct-tail nat_eq id ids d) (λ j has. told j (Contains-cons id ids j has)) in
      record {
        shapes = first.0 ∷ rest.shapes;
        many = ap suc rest.many;
        listed = ((first.1, (id, Contains-head id ids, first.2)), later id ids rest.shapes rest.listed);
        distinct = IsDistinct-cons same_shape first.0 rest.shapes (apart id ids first.0 rest.shapes (none_again id ids d) first.2 rest.listed) rest.distinct;
      }

  all_members : (ids : List ℕ) (shapes : List Shape) → Listed k find nodes ids shapes → (q : Shape) → is_member same_shape shapes q ≡ true → is_member same_shape nodes q ≡ true
  all_members ids [] all q h = absurd (cc)
  all_members ids (s ∷ shapes) all q h =
      ⊎_elim
      (λ same. ap (is_member same_shape nodes) (same_shape-same q s same) ∙ member_of_has nodes s all.0.0)
      (λ more. all_members ids shapes all.1 q more)
      (or_cases (same_shape q s) (is_member same_shape shapes q) h)
    where
      or_cases : (a b : Bool) → (a || b) ≡ true → (a ≡ true) ⊎ (b ≡ true)
      or_cases true b e = inl refl
      or_cases false b e = inr e

  as_many : (ids : List ℕ) → IsDistinct nat_eq ids → ((id : ℕ) → Contains ids id → (s : Shape) × (has nodes s ≡ true) × HasShape k find id s) → length ids ≤ length nodes
  as_many ids d told =
      let all = counted ids d told in
      let fewer = length-le_from_is_member shapes_alike all.shapes nodes all.distinct (all_members ids all.shapes all.listed) in
      omega (arith, fewer, all.many)

-- ---- short of cells
-- where a store that is spent holds nodes of the work alone, the check is short of cells
pub short_of_spent : (k : KindName) (cells : ℕ) (c : Circuit) (s : Specification) (check : Check) (v : View) (count : ℕ) → v.letters ≡ s.letters → v.store.room ≡ cells →
    IsSoloView v.store count → IsTrue v.store.spent → ((id : ℕ) → Contains v.store.made id → HasNodeShape k v (forward_work c s check) id) →
    short k Forward 1 cells c s check ≡ true
short_of_spent k cells c s check v count letters room solo spent made =
    let nodes = nodes_of k s.letters (forward_work c s check) in
    let fewer = as_many k (find_in v.store) nodes solo.distinct v.store.made solo.made_once (λ id has. in_work id (made id has)) in
    let many : length v.store.made ≡ count = ap length solo.made ∙ length-range_with_len 1 count in
    let full : count ≡ v.store.room = solo.spent.0 spent in
    short_of (need k Forward c s check) (omega (arith, fewer, many, full, room))
  where
    short_of : (n : ℕ) → cells ≤ n → nat_le cells (n + 256 * (1 - 1)) ≡ true
    short_of n h = grind (arith, nat_tests)

    in_work : (id : ℕ) → HasNodeShape k v (forward_work c s check) id → (x : Shape) × (has (nodes_of k s.letters (forward_work c s check)) x ≡ true) × HasShape k (find_in v.store) id x
    in_work id (x, (p, listed, is), shape) =
        let node = subst (λ (ds : List Decomp). IsNodeOf x (canonical k (drop p.level ds) p.level p.table).shape) letters is in
        (x, listed_node k s.letters (forward_work c s check) x (p, listed, node), shape)
