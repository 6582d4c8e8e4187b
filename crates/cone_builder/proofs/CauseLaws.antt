-- The causes of calls that build more and more.
use Rattle.std.proofs.Common.{◌≡◌, sym, ◌∙◌, ap, subst, ℕ, ◌<◌, Bool, true, List, [], ◌∷◌, length, drop, take, get_or, map, arith}
use Rattle.std.specs.Prelude.{Result, Ok, Err, Contains, Option, Some, slice_get, slice_index_or}
use Rattle.std.specs.Option.{option_map_or}
use Rattle.std.specs.Result.{IsErrAnd, OnOk}
use Rattle.std.proofs.lemmas.Option.{slice_get-get_or}
use Rattle.std.proofs.lemmas.List.Elements.{Contains-get_or}
use Rattle.circuits.specs.Circuit.{Circuit, Gate, gate_of}
use Rattle.spec_lang.specs.Specification.{Word}
use Rattle.spec_lang.specs.Value.{nets_of}
use Rattle.word_base.specs.declared.decomp.Decomp.{Decomp}
use Rattle.word_base.specs.declared.kind_name.KindName.{KindName}
use Rattle.tables.specs.Pieces.{Piece, pieces}
use Rattle.tables.proofs.PieceLaws.{covers_contained, covers_itself}
use Rattle.checks.specs.Work.{gate_work, gate_table, word_table, word_work}
use Rattle.kind_laws.specs.Plain.{PlainEdge}
use Rattle.diagram.specs.declared.limit.Limit.{Limit}
use Rattle.diagram.specs.declared.limit.Limit.TheVariants as limit
use Rattle.diagram.specs.Answers.{Causes}
use Rattle.diagram.specs.View.{View, Keeps}
use Rattle.diagram.proofs.CallLaws.{ran_nothing, causes_of, causes_then}
use Rattle.word_apply.specs.Applied.{IsOfAll, gate_work_at}
use Rattle.cone_builder.specs.declared.build_error.BuildError.{BuildError}
use Rattle.cone_builder.specs.declared.build_error.BuildError.TheVariants as error
use Rattle.cone_builder.specs.Sides.{build_error_of}
use Rattle.cone_builder.specs.Built.{AreBuilt, AreGates, AreVariables, ComeAfter, ReadsBuilt, is_marked, or_listed}
use Rattle.checks.specs.Forward.{net_work}
use Rattle.cone_builder.specs.Causes.{limit_met, Includes}
use Rattle.cone_builder.proofs.BuiltLaws.{gathered_stand, still_built}
use Rattle.cone_builder.proofs.GateLaws.{GatesSoFar, is_input}
use Rattle.cone_builder.proofs.InputLaws.{InputsSoFar}
use Rattle.cone_builder.proofs.WordLaws.{WordsSoFar}
use Rattle.tables.specs.Table.{Table, variable_table}
use Rattle.circuits.specs.Valuation.{bit_of}
use Rattle.circuits.proofs.Members.{among-from_Contains}

-- ---- results
-- nothing is said of the value of a call that refused
pub none_if_refused : {X E : Type 0} (r : Result X E) (A : Type 0) (P : E → Type 0) → IsErrAnd r P → OnOk r A
none_if_refused (Ok x) A P is = absurd is
none_if_refused (Err e) A P is = tt

-- what answers has no cause to give
pub causes_answered : {X Y : Type 0} (k : KindName) (v w : View) (ps : List Piece) (r : Result X Limit) (y : Y) → Causes k v w ps r → Causes k v w ps (Ok y)
causes_answered k v w ps r y d = record { made = d.made; cause = record { overflow = λ e. absurd (cc); full = λ e. absurd (cc) } }

-- a limit that a call met
pub limit_refused : {X T : Type 0} (k : KindName) (v w : View) (ps : List Piece) (result : Result T BuildError) (was : Result X Limit) (e : Limit) → was ≡ Err e →
    IsErrAnd result (λ y. y ≡ build_error_of e) → Causes k v w ps was → Causes k v w ps (limit_met result)
limit_refused k v w ps (Ok x) was e is and d = absurd and
limit_refused {T = T} k v w ps (Err y) was limit.Overflow is and d =
    let met : Causes {X = Unit {0}} k v w ps (Err limit.Overflow) = record { made = d.made; cause = record { overflow = λ h. d.cause.overflow is; full = λ h. absurd (cc) } } in
    subst (λ (z : BuildError). Causes k v w ps (limit_met {X = T} (Err z))) (sym and) met
limit_refused {T = T} k v w ps (Err y) was limit.Full is and d =
    let met : Causes {X = Unit {0}} k v w ps (Err limit.Full) = record { made = d.made; cause = record { overflow = λ h. absurd (cc); full = λ h. d.cause.full is } } in
    subst (λ (z : BuildError). Causes k v w ps (limit_met {X = T} (Err z))) (sym and) met

-- a limit that goes up as it is
pub limit_came_up : {X T : Type 0} (k : KindName) (v w : View) (ps : List Piece) (result : Result T Limit) (was : Result X Limit) (e : Limit) → was ≡ Err e →
    IsErrAnd result (λ y. y ≡ e) → Causes k v w ps was → Causes k v w ps result
limit_came_up k v w ps (Ok x) was e is and d = absurd and
limit_came_up k v w ps (Err y) was limit.Overflow is and d = record { made = d.made; cause = record { overflow = λ h. d.cause.overflow is; full = λ h. absurd (cc) } }
limit_came_up k v w ps (Err y) was limit.Full is and d = record { made = d.made; cause = record { overflow = λ h. absurd (cc); full = λ h. d.cause.full is } }

-- an error that a call answered
pub error_refused : {X T : Type 0} (k : KindName) (v w : View) (ps : List Piece) (result : Result T BuildError) (was : Result X BuildError) (e : BuildError) → was ≡ Err e →
    IsErrAnd result (λ y. y ≡ e) → Causes k v w ps (limit_met was) → Causes k v w ps (limit_met result)
error_refused k v w ps (Ok x) was e is and d = absurd and
error_refused k v w ps (Err y) (Ok x) e is and d = absurd (cc)
error_refused {X = X} {T = T} k v w ps (Err y) (Err z) e is and d = same y (subst (λ (x : BuildError). Causes k v w ps (limit_met {X = X} (Err x))) zy d)
  where
    zy : z ≡ y
    zy = cc

    same : (x : BuildError) → Causes k v w ps (limit_met {X = X} (Err x)) → Causes k v w ps (limit_met {X = T} (Err x))
    same error.Overflow h = h
    same error.Full h = h
    same error.Memory h = h

-- want of memory
pub memory_refused : {X T : Type 0} (k : KindName) (v w : View) (ps : List Piece) (result : Result T BuildError) (r : Result X Limit) → IsErrAnd result (λ y. y ≡ error.Memory) →
    Causes k v w ps r → Causes k v w ps (limit_met result)
memory_refused k v w ps (Ok x) r and d = absurd and
memory_refused {T = T} k v w ps (Err y) r and d = subst (λ (z : BuildError). Causes k v w ps (limit_met {X = T} (Err z))) (sym and) (causes_answered k v w ps r tt d)

-- ---- calls in turn, within one list
pub causes_on : {X Y : Type 0} (k : KindName) (u v w : View) (ps : List Piece) (r : Result X Limit) (q : Result Y Limit) → Keeps u v → Keeps v w → Causes k u v ps r → Causes k v w ps q → Causes k u w ps q
causes_on k u v w ps r q before keeps c d =
    causes_then k u v w ps ps q q (record { keeps = before; made = c.made }) keeps (covers_itself k u.letters ps) (λ e h. h) d

pub causes_included : {X : Type 0} (k : KindName) (v w : View) (ps qs : List Piece) (r : Result X Limit) → Keeps v w → Includes ps qs → Causes k v w qs r → Causes k v w ps r
causes_included k v w ps qs r keeps includes c = causes_then k v v w ps qs r r (ran_nothing k v ps) keeps (covers_contained k v.letters ps qs includes) (λ e h. h) c

-- ---- gates
pub gate_causes : (k : KindName) (c : Circuit) (v w : View) (net : ℕ) (gate : Gate) (edges : List PlainEdge) (d : PlainEdge) (r : Result PlainEdge Limit) → gate_of c net ≡ Some gate → Keeps v w →
    ((input : ℕ) → Contains gate.inputs input → input < length edges) →
    IsOfAll (λ l. gate_table gate.word) (gate_work_at gate.word v.letters) k v w (map (λ n. slice_index_or edges n d) gate.inputs) r →
    (table : ℕ → Table) (built : ℕ → Bool) (ps : List Piece) → AreBuilt k v table built edges → ReadsBuilt c built net → Includes ps (net_work c v.letters table net) → Causes k v w ps r
gate_causes k c v w net gate edges d r of keeps within call table built ps h reads includes =
    causes_included k v w ps (gate_work gate.word v.letters 0 (map table gate.inputs)) r keeps
    (subst (λ (o : Option Gate). Includes ps (option_map_or (λ g. gate_work g.word v.letters 0 (map table g.inputs)) o [])) of includes)
    (causes_of k v w (gate_work gate.word v.letters 0 (map table gate.inputs)) 0 (gate_table gate.word (map table gate.inputs)) r
    (call 0 (map table gate.inputs) (omega arith) (gathered_stand k v table built edges d gate.inputs h (λ n has. (within n has, reads n (is_input c net gate n of has))))))

-- ---- words
pub word_causes : (k : KindName) (all : List Word) (v w : View) (number : ℕ) (nets : List PlainEdge) (d : PlainEdge) (r : Result PlainEdge Limit) → Keeps v w →
    ((net : ℕ) → Contains (nets_of all number) net → net < length nets) → IsOfAll (λ l. word_table) word_work k v w (map (λ n. slice_index_or nets n d) (nets_of all number)) r →
    (of_net : ℕ → Table) (built_nets : ℕ → Bool) (ps : List Piece) → AreBuilt k v of_net built_nets nets →
    ((net : ℕ) → Contains (nets_of all number) net → built_nets net ≡ true) → Includes ps (word_work 0 (map of_net (nets_of all number))) → Causes k v w ps r
word_causes k all v w number nets d r keeps within call of_net built_nets ps h named includes =
    causes_included k v w ps (word_work 0 (map of_net (nets_of all number))) r keeps includes
    (causes_of k v w (word_work 0 (map of_net (nets_of all number))) 0 (word_table (map of_net (nets_of all number))) r
    (call 0 (map of_net (nets_of all number)) (omega arith)
    (gathered_stand k v of_net built_nets nets d (nets_of all number) h (λ n has. (within n has, named n has)))))

-- ---- loops
-- the causes of the first gates, and of the next one's call, whatever it answers
pub next_gate_causes : (k : KindName) (c : Circuit) (start v w : View) (gates : List ℕ) (place net : ℕ) (old edges : List PlainEdge) (q : Result (Unit {0}) Limit) → place < length gates →
    get_or gates place 0 ≡ net → GatesSoFar k c start v gates place old edges → Keeps v w →
    ((table : ℕ → Table) (built : ℕ → Bool) (ps : List Piece) → AreBuilt k v table built edges → ReadsBuilt c built net → Includes ps (net_work c v.letters table net) → Causes k v w ps q) →
    (table : ℕ → Table) (built : ℕ → Bool) (ps : List Piece) → AreGates c table → AreBuilt k start table built old → ComeAfter c built gates →
    ((n : ℕ) → Contains gates n → Includes ps (net_work c start.letters table n)) → Causes k start w ps q
next_gate_causes k c start v w gates place net old edges q low is so_far keeps call table built ps are h after each_of =
    let reads = after place net (slice_get-get_or gates place 0 low ∙ ap Some is) in
    let has = subst (Contains gates) is (Contains-get_or gates place 0 low) in
    let includes = subst (λ (ds : List Decomp). Includes ps (net_work c ds table net)) (sym so_far.keeps.letters) (each_of net has) in
    causes_on k start v w ps (Ok tt) q so_far.keeps keeps (so_far.caused table built ps are h after each_of)
    (call table (or_listed built (take place gates)) ps (so_far.built table built are h after) reads includes)

-- the same of words
pub next_word_causes : (k : KindName) (all : List Word) (start v w : View) (numbers : List ℕ) (place number : ℕ) (nets old words : List PlainEdge) (q : Result (Unit {0}) Limit) → place < length numbers →
    get_or numbers place 0 ≡ number → WordsSoFar k all start v numbers place nets old words → Keeps v w →
    ((of_net : ℕ → Table) (built_nets : ℕ → Bool) (ps : List Piece) → AreBuilt k v of_net built_nets nets →
    ((net : ℕ) → Contains (nets_of all number) net → built_nets net ≡ true) → Includes ps (word_work 0 (map of_net (nets_of all number))) → Causes k v w ps q) →
    (of_net : ℕ → Table) (built_nets : ℕ → Bool) (ps : List Piece) → AreBuilt k start of_net built_nets nets →
    ((n net : ℕ) → Contains numbers n → Contains (nets_of all n) net → built_nets net ≡ true) →
    ((n : ℕ) → Contains numbers n → Includes ps (word_work 0 (map of_net (nets_of all n)))) → Causes k start w ps q
next_word_causes k all start v w numbers place number nets old words q low is so_far keeps call of_net built_nets ps h named each_of =
    let has = subst (Contains numbers) is (Contains-get_or numbers place 0 low) in
    causes_on k start v w ps (Ok tt) q so_far.keeps keeps (so_far.caused of_net built_nets ps h named each_of)
    (call of_net built_nets ps (still_built k start v of_net built_nets nets so_far.keeps h) (λ net at. named number net has at) (each_of number has))

-- the same of variables
pub next_input_causes : {X : Type 0} (k : KindName) (start v w : View) (order : List ℕ) (marks : List Bool) (level net : ℕ) (old edges : List PlainEdge) (q : Result X Limit) → level < length order →
    get_or order level 0 ≡ net → slice_get order level ≡ Some net → bit_of marks net ≡ true → InputsSoFar k start v order marks level old edges → Keeps v w →
    Causes k v w (pieces 0 (variable_table (length v.letters) level ∷ [])) q →
    (table : ℕ → Table) (ps : List Piece) → AreVariables start order table →
    ((n : ℕ) → is_marked order marks n ≡ true → Includes ps (pieces 0 (table n ∷ []))) → Causes k start w ps q
next_input_causes k start v w order marks level net old edges q low is get marked so_far keeps call table ps are each_of =
    let same : variable_table (length v.letters) level ≡ table net =
    ap (λ (ds : List Decomp). variable_table (length ds) level) so_far.keeps.letters ∙ sym (are level net get) in
    let among = among-from_Contains order net (subst (Contains order) is (Contains-get_or order level 0 low)) in
    let both : is_marked order marks net ≡ true = rw among marked in
    causes_on k start v w ps (Ok tt) q so_far.keeps keeps (so_far.caused table ps are each_of)
    (causes_included k v w ps (pieces 0 (variable_table (length v.letters) level ∷ [])) q keeps
    (subst (λ (t : Table). Includes ps (pieces 0 (t ∷ []))) (sym same) (each_of net both)) call)
