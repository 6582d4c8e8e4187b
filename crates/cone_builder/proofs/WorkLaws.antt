-- The work of building a check's sides has that of each net, gate and word that it needs.
use Rattle.word_base.specs.declared.kind_name.KindName.{KindName}
use Rattle.std.proofs.Common.{◌≡◌, refl, sym, ◌∙◌, ap, subst, ℕ, ◌<◌, Bool, true, false, ◌&&◌, List, [], ◌∷◌, ◌++◌, length, drop, get_or, map, arith, ⊎_elim}
use Rattle.std.specs.Prelude.{Contains, filter, flat_map, IfSome, Result, slice_get, Some}
use Rattle.std.specs.List.{range_with_len}
use Rattle.std.proofs.lemmas.List.FromFn.{length-range_with_len, get_or-range_with_len}
use Rattle.std.proofs.lemmas.List.Elements.{Contains-append_left, Contains-append_right, Contains-get_or}
use Rattle.circuits.specs.Circuit.{Circuit, input_count, net_count}
use Rattle.circuits.specs.Cone.{cone, is_in_cone}
use Rattle.circuits.specs.Sound.{IsSound}
use Rattle.circuits.specs.Order.{IsAccepted, is_among}
use Rattle.circuits.specs.Valuation.{bit_of}
use Rattle.circuits.proofs.Members.{Contains-cases, Contains-cons, Contains-from_among, Contains-head, Contains-nil, among-from_Contains}
use Rattle.spec_lang.specs.Formula.{Formula, word}
use Rattle.spec_lang.specs.Named.{namings, nets_named, words_of_check}
use Rattle.spec_lang.specs.Specification.{Check, Specification}
use Rattle.spec_lang.specs.Value.{nets_of}
use Rattle.spec_lang.specs.WellFormed.{IsOver, IsWellFormed}
use Rattle.spec_lang.proofs.Naming.{filter-has, net_of_word_named}
use Rattle.tables.specs.Table.{Table}
use Rattle.tables.specs.Pieces.{Piece, pieces}
use Rattle.checks.specs.Forward.{building_work, cone_work, input_work, net_work, word_work_of}
use Rattle.checks.specs.FormulaWork.{formula_work}
use Rattle.checks.specs.Sides.{net_table, side}
use Rattle.checks.specs.Work.{word_work}
use Rattle.kind_laws.specs.Plain.{PlainEdge}
use Rattle.diagram.specs.declared.limit.Limit.{Limit}
use Rattle.diagram.specs.Answers.{Causes}
use Rattle.diagram.specs.View.{View, Keeps}
use Rattle.diagram.proofs.CallLaws.{causes_of}
use Rattle.word_apply.specs.Applied.{IsOfAll, formula_at, formula_work_at}
use Rattle.cone_builder.specs.Built.{AreBuilt, AreGates, AreVariables, ComeAfter, NetsAreBuilt, is_marked, or_listed}
use Rattle.cone_builder.specs.Causes.{Includes, limit_met}
use Rattle.cone_builder.specs.Plans.{BuildsPlan, CoversPlan, IsPlanOf, PlainPlan, is_needed}
use Rattle.cone_builder.specs.declared.build_error.BuildError.{BuildError}
use Rattle.cone_builder.proofs.CauseLaws.{causes_included, causes_on}
use Rattle.cone_builder.proofs.NetLaws.{can_build, if_some_at, if_some_from}
use Rattle.cone_builder.proofs.SideLaws.{named_are_built, side_answers}

-- ---- membership
map-has : {X Y : Type 0} (f : X → Y) (xs : List X) (x : X) → Contains xs x → Contains (map f xs) (f x)
map-has f [] x has = absurd (Contains-nil x has)
map-has f (y ∷ ys) x has =
    ⊎_elim (λ here. subst (λ z. Contains (f y ∷ map f ys) (f z)) here (Contains-head (f y) (map f ys)))
    (λ there. Contains-cons (f y) (map f ys) (f x) (map-has f ys x there)) (Contains-cases y ys x has)

flat_map-includes : (f : ℕ → List Piece) (xs : List ℕ) (x : ℕ) → Contains xs x → Includes (flat_map f xs) (f x)
flat_map-includes f [] x has p of = absurd (Contains-nil x has)
flat_map-includes f (y ∷ ys) x has p of =
    ⊎_elim (λ here. Contains-append_left (f y) (flat_map f ys) p (subst (λ z. Contains (f z) p) (sym here) of))
    (λ there. Contains-append_right (f y) (flat_map f ys) p (flat_map-includes f ys x there p of)) (Contains-cases y ys x has)

range-has : (n k : ℕ) → k < n → Contains (range_with_len 0 n) k
range-has n k low =
    let is : get_or (range_with_len 0 n) k 0 ≡ k = omega (arith, get_or-range_with_len 0 n k 0 low) in
    subst (Contains (range_with_len 0 n)) is (Contains-get_or (range_with_len 0 n) k 0 (omega (arith, length-range_with_len 0 n, low)))

-- ---- parts
included_on : (ps qs rs : List Piece) → Includes ps qs → Includes qs rs → Includes ps rs
included_on ps qs rs outer inner = λ p has. outer p (inner p has)

-- the five parts of the work
pub record HasParts (ps : List Piece) (c : Circuit) (s : Specification) (check : Check) : Type 0 where
  pub inputs : Includes ps (input_work c s check)
  pub gates : Includes ps (cone_work c s check)
  pub words : Includes ps (flat_map (word_work_of c s) (words_of_check check))
  pub left : Includes ps (formula_work s.letters 0 (side c s) check.left)
  pub right : Includes ps (formula_work s.letters 0 (side c s) check.right)

pub has_parts : (c : Circuit) (s : Specification) (check : Check) → HasParts (building_work c s check) c s check
has_parts c s check =
    let a = input_work c s check in
    let b = cone_work c s check in
    let d = flat_map (word_work_of c s) (words_of_check check) in
    let l = formula_work s.letters 0 (side c s) check.left in
    let r = formula_work s.letters 0 (side c s) check.right in
    record {
      inputs = λ p h. Contains-append_left (a ++ b ++ d ++ l) r p (Contains-append_left (a ++ b ++ d) l p (Contains-append_left (a ++ b) d p (Contains-append_left a b p h)));
      gates = λ p h. Contains-append_left (a ++ b ++ d ++ l) r p (Contains-append_left (a ++ b ++ d) l p (Contains-append_left (a ++ b) d p (Contains-append_right a b p h)));
      words = λ p h. Contains-append_left (a ++ b ++ d ++ l) r p (Contains-append_left (a ++ b ++ d) l p (Contains-append_right (a ++ b) d p h));
      left = λ p h. Contains-append_left (a ++ b ++ d ++ l) r p (Contains-append_right (a ++ b ++ d) l p h);
      right = λ p h. Contains-append_right (a ++ b ++ d ++ l) r p h;
    }

-- ---- nets
both_hold : (a b : Bool) → (a && b) ≡ true → (a ≡ true) × (b ≡ true)
both_hold true b e = (refl, e)
both_hold false b e = absurd (cc)

-- the variable of a marked input
input_included : (c : Circuit) (s : Specification) (check : Check) (named : List ℕ) (marks : List Bool) (ps : List Piece) (net : ℕ) → IsOver c s → IsWellFormed s →
    named ≡ nets_named s check → ((n : ℕ) → n < net_count c → bit_of marks n ≡ is_in_cone c named n) → Includes ps (input_work c s check) →
    is_marked s.order marks net ≡ true → Includes ps (pieces 0 (net_table c s net ∷ []))
input_included c s check named marks ps net over good same tells includes marked = λ p has.
    ⊎_elim (λ is. subst (Contains ps) is (includes piece among)) (λ none. absurd (Contains-nil p none)) (Contains-cases piece [] p has)
  where
    piece : Piece
    piece = record { level = 0; table = net_table c s net }

    listed : Contains s.order net
    listed = Contains-from_among s.order net (both_hold (is_among s.order net) (bit_of marks net) marked).0

    low : net < input_count c
    low = rw (← over.inputs) ((good.order.each_input net).0 listed)

    within : is_in_cone c (nets_named s check) net ≡ true
    within =
        let below : net < net_count c = omega (arith, low) in
        ap (λ (ns : List ℕ). is_in_cone c ns net) (sym same) ∙ sym (tells net below) ∙ (both_hold (is_among s.order net) (bit_of marks net) marked).1

    among : Contains (input_work c s check) piece
    among =
        let inputs = filter (is_in_cone c (nets_named s check)) (range_with_len 0 (input_count c)) in
        map-has (λ (t : Table). record { level = 0; table = t }) (map (net_table c s) inputs) (net_table c s net)
        (map-has (net_table c s) inputs net
        (filter-has (is_in_cone c (nets_named s check)) (range_with_len 0 (input_count c)) net (range-has (input_count c) net low) within))

covers_plan : (c : Circuit) (s : Specification) (check : Check) (named : List ℕ) (plan : PlainPlan) (v : View) (ps : List Piece) → IsOver c s → IsWellFormed s →
    v.letters ≡ s.letters → named ≡ nets_named s check → IsPlanOf c s named plan → Includes ps (input_work c s check) → Includes ps (cone_work c s check) →
    CoversPlan c v plan (net_table c s) ps
covers_plan c s check named plan v ps over good letters same is inputs works =
    record {
      inputs = λ net needed.
          input_included c s check named plan.marks ps net over good same is.marks inputs
          (subst (λ (order : List ℕ). is_needed (record plan { order = order }) net ≡ true) is.order needed);
      gates = λ net has.
          subst (λ ds. Includes ps (net_work c ds (net_table c s) net)) (sym letters)
          (included_on ps (cone_work c s check) (net_work c s.letters (net_table c s) net) works
          (flat_map-includes (net_work c s.letters (net_table c s)) (cone c (nets_named s check)) net
          (subst (λ (ns : List ℕ). Contains ns net) (is.gates ∙ ap (cone c) same) has)));
    }

pub nets_caused : {X : Type 0} (k : KindName) (c : Circuit) (s : Specification) (check : Check) (named : List ℕ) (plan : PlainPlan) (v w : View) (edges : List PlainEdge)
    (r : Result X BuildError) (ps : List Piece) → IsOver c s → IsWellFormed s → IsSound c → IsAccepted c → v.letters ≡ s.letters → named ≡ nets_named s check →
    IsPlanOf c s named plan → BuildsPlan k c v w plan edges r → Includes ps (input_work c s check) → Includes ps (cone_work c s check) → Causes k v w ps (limit_met r)
nets_caused k c s check named plan v w edges r ps over good sound accepted letters same is builds inputs works =
    builds.causes (net_table c s) ps (can_build c s named plan v over good sound accepted letters is)
    (covers_plan c s check named plan v ps over good letters same is inputs works)

-- ---- words
-- what the building of words asks of the work
abbrev pub WordsCauses : {X : Type 0} → KindName → Specification → View → View → List PlainEdge → List ℕ → Result X Limit → Type 0
WordsCauses k s v w nets numbers r =
    (of_net : ℕ → Table) (built_nets : ℕ → Bool) (ps : List Piece) → AreBuilt k v of_net built_nets nets →
    ((n net : ℕ) → Contains numbers n → Contains (nets_of s.words n) net → built_nets net ≡ true) →
    ((n : ℕ) → Contains numbers n → Includes ps (word_work 0 (map of_net (nets_of s.words n)))) → Causes k v w ps r

pub words_caused : {X : Type 0} (k : KindName) (c : Circuit) (s : Specification) (place : ℕ) (check : Check) (v w : View) (nets : List PlainEdge) (numbers : List ℕ) (r : Result X Limit) (ps : List Piece) →
    slice_get s.checks place ≡ Some check → numbers ≡ words_of_check check → NetsAreBuilt k c s place v nets → WordsCauses k s v w nets numbers r →
    Includes ps (flat_map (word_work_of c s) (words_of_check check)) → Causes k v w ps r
words_caused k c s place check v w nets numbers r ps is same nets_built call works =
    call (net_table c s) (is_among (nets_named s check)) ps
    (if_some_at (slice_get s.checks place) check (λ x. AreBuilt k v (net_table c s) (is_among (nets_named s x)) nets) is nets_built.built)
    (λ n net has of.
    among-from_Contains (nets_named s check) net (net_of_word_named s check n net (subst (λ (ns : List ℕ). Contains ns n) same has) of))
    (λ n has.
    included_on ps (flat_map (word_work_of c s) (words_of_check check)) (word_work_of c s n) works
    (flat_map-includes (word_work_of c s) (words_of_check check) n (subst (λ (ns : List ℕ). Contains ns n) same has)))

-- ---- sides
-- the causes of all before an expression, and of the expression of one side, whatever it answers
pub side_after : {X : Type 0} (k : KindName) (c : Circuit) (s : Specification) (place : ℕ) (check : Check) (u v w : View) (words : List PlainEdge) (numbers : List ℕ) (f : Formula)
    (q : Result X Limit) (r : Result PlainEdge Limit) → IsWellFormed s → slice_get s.checks place ≡ Some check → numbers ≡ words_of_check check → v.letters ≡ s.letters →
    length words ≡ length s.words → AreBuilt k v (λ i. side c s (word i)) (or_listed (λ i. false) numbers) words →
    ((i : ℕ) → Contains (namings f) i → Contains (words_of_check check) i) → Includes (building_work c s check) (formula_work s.letters 0 (side c s) f) → Keeps u v → Keeps v w →
    Causes k u v (building_work c s check) q → IsOfAll (formula_at f v.letters) (formula_work_at f v.letters) k v w words r → Causes k u w (building_work c s check) r
side_after k c s place check u v w words numbers f q r good is same letters many built within includes before keeps so_far call =
    let ps = building_work c s check in
    let of_side = side_answers k c s v w words f (or_listed (λ i. false) numbers) r good letters many built (named_are_built s place check numbers f good is same within) call in
    causes_on k u v w ps q r before keeps so_far
    (causes_included k v w ps (formula_work s.letters 0 (side c s) f) r keeps includes (causes_of k v w (formula_work s.letters 0 (side c s) f) 0 (side c s f) r of_side))

-- what is known of the check of a number
pub causes_there : {X : Type 0} (k : KindName) (c : Circuit) (s : Specification) (place : ℕ) (check : Check) (v w : View) (r : Result X Limit) → slice_get s.checks place ≡ Some check →
    Causes k v w (building_work c s check) r → IfSome (slice_get s.checks place) (λ sides. Causes k v w (building_work c s sides) r)
causes_there k c s place check v w r is caused = if_some_from (slice_get s.checks place) check (λ sides. Causes k v w (building_work c s sides) r) is caused
