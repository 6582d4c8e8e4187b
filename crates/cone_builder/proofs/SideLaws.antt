-- From the edges of a check's words to those of its sides.
use Rattle.std.proofs.Common.{◌≡◌, refl, sym, ◌∙◌, ap, subst, ℕ, zero, suc, ◌<◌, pos, Bool, true, false, List, [], ◌∷◌, ◌++◌, drop, length, get_or, arith}
use Rattle.std.specs.Prelude.{All, Contains, Result, Some, None, slice_get, slice_index_or}
use Rattle.std.proofs.lemmas.List.Elements.{Contains-append_left, Contains-append_right, All-from_get_or, All-get_or, All-head, All-tail, Contains-get_or}
use Rattle.std.proofs.lemmas.Option.{get_or_from_slice_get}
use Rattle.word_base.specs.declared.decomp.Decomp.{Decomp}
use Rattle.word_base.specs.declared.kind_name.KindName.{KindName}
use Rattle.circuits.specs.Circuit.{Circuit, net_count}
use Rattle.circuits.specs.Order.{is_among}
use Rattle.circuits.proofs.Members.{Contains-head, among-from_Contains}
use Rattle.spec_lang.specs.Formula.{Formula, number, word, negative, sum, difference, product}
use Rattle.spec_lang.specs.Named.{namings, nets_named, words_of_check}
use Rattle.spec_lang.specs.Specification.{Check, Specification, Word}
use Rattle.spec_lang.specs.Value.{nets_of}
use Rattle.spec_lang.specs.WellFormed.{IsOver, IsSizedWord, IsWellFormed, NamesWords}
use Rattle.spec_lang.proofs.Naming.{named_within, net_of_word_named}
use Rattle.tables.specs.Pieces.{Piece, pieces, neg_work, add_work, sub_work, mul_work}
use Rattle.tables.specs.Table.{Table, entry, opposite, plus, minus, times}
use Rattle.checks.specs.FormulaWork.{formula_work}
use Rattle.checks.specs.Sides.{net_table, side}
use Rattle.checks.proofs.FormulaTables.{formula_tables}
use Rattle.checks.proofs.WordTables.{word_tables}
use Rattle.kind_laws.specs.Plain.{PlainEdge}
use Rattle.kind_laws.proofs.GraphLaws.{same_table_of_edge}
use Rattle.diagram.specs.declared.limit.Limit.{Limit}
use Rattle.diagram.specs.Answers.{Answers}
use Rattle.diagram.specs.View.{View, StandsAt}
use Rattle.record_store.specs.StoreView.{find_in}
use Rattle.word_apply.specs.Applied.{AllStand, AreEdges, IsOfAll, formula_table, formula_at, formula_work_at}
use Rattle.cone_builder.specs.Built.{AreBuilt, AreWords, NetsAreBuilt, or_listed}
use Rattle.cone_builder.proofs.BuiltLaws.{no_edge, none_built}
use Rattle.cone_builder.proofs.NetLaws.{below_length, if_some_at, nets_below}

-- ---- the table that each edge stands for
tables_of : (k : KindName) (v : View) (es : List PlainEdge) → AreEdges k v es → List Table
tables_of k v [] good = []
tables_of k v (e ∷ es) good = good.0.0 ∷ tables_of k v es good.1

tables_stand : (k : KindName) (v : View) (es : List PlainEdge) (good : AreEdges k v es) → AllStand k v 0 (tables_of k v es good) es
unfolding tables_of
tables_stand k v [] good = tt
tables_stand k v (e ∷ es) good = (good.0.1, tables_stand k v es good.1)

-- an edge stands for no other table
only_table : (k : KindName) (v : View) (t u : Table) (e : PlainEdge) → StandsAt k v 0 t e → StandsAt k v 0 u e → t ≡ u
only_table k v t u e h g = same_table_of_edge k (find_in v.store) v.letters 0 t u e.root e.node h.allowed h.no_zero h.stands g.stands

tables_at : (k : KindName) (v : View) (es : List PlainEdge) (good : AreEdges k v es) (i : ℕ) (d : PlainEdge) (t u : Table) → i < length es → StandsAt k v 0 u (slice_index_or es i d) →
    slice_index_or (tables_of k v es good) i t ≡ u
unfolding tables_of
tables_at k v [] good i d t u low stands = absurd (omega arith)
tables_at k v (e ∷ es) good zero d t u low stands = only_table k v good.0.0 u e good.0.1 stands
tables_at k v (e ∷ es) good (suc i) d t u low stands = tables_at k v es good.1 i d t u (omega arith) stands

both_same : {p q r s : List Piece} → p ≡ q → r ≡ s → p ++ r ≡ q ++ s
both_same {q = q} {r = r} e f = ap (λ (x : List Piece). x ++ r) e ∙ ap (λ (x : List Piece). q ++ x) f

work_same : (work : Table → Table → List Piece) {a b t u : Table} → a ≡ b → t ≡ u → work a t ≡ work b u
work_same work {b = b} {t = t} e f = ap (λ (x : Table). work x t) e ∙ ap (work b) f

-- ---- formulas
-- where the named words have their tables, a formula has the table of its side
side_of_words : (c : Circuit) (s : Specification) (ts : List Table) (f : Formula) →
    ((w : ℕ) → Contains (namings f) w → slice_index_or ts w (entry (pos 0)) ≡ side c s (word w)) → formula_table (length s.order) ts f ≡ side c s f
side_of_words c s ts (number z) all = sym (formula_tables.of_number c s z)
side_of_words c s ts (word w) all = all w (Contains-head w [])
side_of_words c s ts (negative a) all = ap opposite (side_of_words c s ts a all) ∙ sym (formula_tables.of_negative c s a)
side_of_words c s ts (sum a b) all =
    ap (λ t. plus t (formula_table (length s.order) ts b)) (side_of_words c s ts a (λ w has. all w (Contains-append_left (namings a) (namings b) w has)))
    ∙ ap (plus (side c s a)) (side_of_words c s ts b (λ w has. all w (Contains-append_right (namings a) (namings b) w has))) ∙ sym (formula_tables.of_sum c s a b)
side_of_words c s ts (difference a b) all =
    ap (λ t. minus t (formula_table (length s.order) ts b)) (side_of_words c s ts a (λ w has. all w (Contains-append_left (namings a) (namings b) w has)))
    ∙ ap (minus (side c s a)) (side_of_words c s ts b (λ w has. all w (Contains-append_right (namings a) (namings b) w has))) ∙ sym (formula_tables.of_difference c s a b)
side_of_words c s ts (product a b) all =
    ap (λ t. times t (formula_table (length s.order) ts b)) (side_of_words c s ts a (λ w has. all w (Contains-append_left (namings a) (namings b) w has)))
    ∙ ap (times (side c s a)) (side_of_words c s ts b (λ w has. all w (Contains-append_right (namings a) (namings b) w has))) ∙ sym (formula_tables.of_product c s a b)

-- the tables of the edges of named words are those of the words' sides
words_have_tables : (k : KindName) (c : Circuit) (s : Specification) (v : View) (words : List PlainEdge) (f : Formula) (built : ℕ → Bool) → length words ≡ length s.words →
    (h : AreBuilt k v (λ i. side c s (word i)) built words) → ((i : ℕ) → Contains (namings f) i → (i < length s.words) × (built i ≡ true)) →
    (i : ℕ) → Contains (namings f) i → slice_index_or (tables_of k v words h.good) i (entry (pos 0)) ≡ side c s (word i)
words_have_tables k c s v words f built many h named i has =
    let known = named i has in
    let low : i < length words = rw many known.0 in
    tables_at k v words h.good i no_edge (entry (pos 0)) (side c s (word i)) low (h.stand i no_edge low known.1)

-- the same of the work
work_of_words : (c : Circuit) (s : Specification) (ds : List Decomp) (ts : List Table) (f : Formula) →
    ((w : ℕ) → Contains (namings f) w → slice_index_or ts w (entry (pos 0)) ≡ side c s (word w)) →
    formula_work ds 0 (formula_table (length s.order) ts) f ≡ formula_work ds 0 (side c s) f
work_of_words c s ds ts (number z) all = ap (λ (t : Table). pieces 0 (t ∷ [])) (side_of_words c s ts (number z) all)
work_of_words c s ds ts (word w) all = refl
work_of_words c s ds ts (negative a) all =
    both_same (work_of_words c s ds ts a all) (ap (neg_work 0) (side_of_words c s ts a all))
work_of_words c s ds ts (sum a b) all =
    let left = λ (w : ℕ) (has : Contains (namings a) w). all w (Contains-append_left (namings a) (namings b) w has) in
    let right = λ (w : ℕ) (has : Contains (namings b) w). all w (Contains-append_right (namings a) (namings b) w has) in
    both_same (both_same (work_of_words c s ds ts a left) (work_of_words c s ds ts b right))
    (work_same (add_work 0) (side_of_words c s ts a left) (side_of_words c s ts b right))
work_of_words c s ds ts (difference a b) all =
    let left = λ (w : ℕ) (has : Contains (namings a) w). all w (Contains-append_left (namings a) (namings b) w has) in
    let right = λ (w : ℕ) (has : Contains (namings b) w). all w (Contains-append_right (namings a) (namings b) w has) in
    both_same (both_same (work_of_words c s ds ts a left) (work_of_words c s ds ts b right))
    (work_same (sub_work 0) (side_of_words c s ts a left) (side_of_words c s ts b right))
work_of_words c s ds ts (product a b) all =
    let left = λ (w : ℕ) (has : Contains (namings a) w). all w (Contains-append_left (namings a) (namings b) w has) in
    let right = λ (w : ℕ) (has : Contains (namings b) w). all w (Contains-append_right (namings a) (namings b) w has) in
    both_same (both_same (work_of_words c s ds ts a left) (work_of_words c s ds ts b right))
    (work_same (mul_work ds 0) (side_of_words c s ts a left) (side_of_words c s ts b right))

-- a call on an expression, over the edges of words, is one on the side
pub side_answers : (k : KindName) (c : Circuit) (s : Specification) (v w : View) (words : List PlainEdge) (f : Formula) (built : ℕ → Bool) (r : Result PlainEdge Limit) →
    IsWellFormed s → v.letters ≡ s.letters → length words ≡ length s.words → AreBuilt k v (λ i. side c s (word i)) built words →
    ((i : ℕ) → Contains (namings f) i → (i < length s.words) × (built i ≡ true)) →
    IsOfAll (formula_at f v.letters) (formula_work_at f v.letters) k v w words r → Answers k v w (formula_work s.letters 0 (side c s) f) 0 (side c s f) r
side_answers k c s v w words f built r good letters many h named call =
    subst (λ (t : Table). Answers k v w (formula_work s.letters 0 (side c s) f) 0 t r) same_table
    (subst (λ (qs : List Piece). Answers k v w qs 0 (formula_table (length v.letters) ts f) r) same_work (call 0 ts (omega arith) (tables_stand k v words h.good)))
  where
    ts : List Table
    ts = tables_of k v words h.good

    named_tables : (w : ℕ) → Contains (namings f) w → slice_index_or ts w (entry (pos 0)) ≡ side c s (word w)
    named_tables = words_have_tables k c s v words f built many h named

    same_table : formula_table (length v.letters) ts f ≡ side c s f
    same_table = ap (λ (n : ℕ). formula_table n ts f) (ap length letters ∙ good.one_letter_each) ∙ side_of_words c s ts f named_tables

    same_work : formula_work v.letters 0 (formula_table (length v.letters) ts) f ≡ formula_work s.letters 0 (side c s) f
    same_work =
        ap (λ (ds : List Decomp). formula_work ds 0 (formula_table (length ds) ts) f) letters
        ∙ ap (λ (n : ℕ). formula_work s.letters 0 (formula_table n ts) f) good.one_letter_each
        ∙ work_of_words c s s.letters ts f named_tables

-- ---- words
sized_there : (words : List Word) (w : ℕ) → All IsSizedWord words → w < length words → 0 < length (nets_of words w)
sized_there [] w all low = absurd (omega arith)
sized_there (x ∷ xs) zero all low = (All-head IsSizedWord x xs all).some
sized_there (x ∷ xs) (suc w) all low = sized_there xs w (All-tail IsSizedWord x xs all) (omega arith)

pub are_words : (c : Circuit) (s : Specification) → IsWellFormed s → AreWords s.words (net_table c s) (λ w. side c s (word w))
are_words c s good = λ w low. word_tables.of_word c s w (sized_there s.words w good.each_word low)

-- ---- the numbers of a check's words
pub names_at : (s : Specification) (place : ℕ) (check : Check) → IsWellFormed s → slice_get s.checks place ≡ Some check → NamesWords (length s.words) check
names_at s place check good is =
    let low = below_length s.checks place check is in
    subst (NamesWords (length s.words)) (get_or_from_slice_get s.checks place check check is)
    (All-get_or (NamesWords (length s.words)) s.checks place check low good.each_check)

pub numbers_below : (s : Specification) (place : ℕ) (check : Check) (numbers : List ℕ) → IsWellFormed s → slice_get s.checks place ≡ Some check →
    numbers ≡ words_of_check check → All (λ w. w < length s.words) numbers
numbers_below s place check numbers good is same =
    All-from_get_or (λ w. w < length s.words) numbers 0
    (λ i low.
    named_within (length s.words) check (get_or numbers i 0) (names_at s place check good is)
    (subst (λ (ns : List ℕ). Contains ns (get_or numbers i 0)) same (Contains-get_or numbers i 0 low)))

pub nets_within : (c : Circuit) (s : Specification) (numbers : List ℕ) (n : ℕ) → IsOver c s → n ≡ net_count c →
    All (λ w. All (λ net. net < n) (nets_of s.words w)) numbers
nets_within c s numbers n over same =
    All-from_get_or (λ w. All (λ net. net < n) (nets_of s.words w)) numbers 0
    (λ i low.
    All-from_get_or (λ net. net < n) (nets_of s.words (get_or numbers i 0)) 0
    (λ j below.
    rw same
    (nets_below s.words (net_count c) (get_or numbers i 0) (get_or (nets_of s.words (get_or numbers i 0)) j 0) over.nets
    (Contains-get_or (nets_of s.words (get_or numbers i 0)) j 0 below))))

-- ---- the words that a check names
pub words_are_built : (k : KindName) (c : Circuit) (s : Specification) (place : ℕ) (check : Check) (v w : View) (nets old words : List PlainEdge) (numbers : List ℕ) → IsWellFormed s →
    slice_get s.checks place ≡ Some check → numbers ≡ words_of_check check → NetsAreBuilt k c s place v nets → AreEdges k v old →
    ((of_net table : ℕ → Table) (built_nets built : ℕ → Bool) → AreWords s.words of_net table → AreBuilt k v of_net built_nets nets → AreBuilt k v table built old →
    ((w net : ℕ) → Contains numbers w → Contains (nets_of s.words w) net → built_nets net ≡ true) → AreBuilt k w table (or_listed built numbers) words) →
    AreBuilt k w (λ i. side c s (word i)) (or_listed (λ i. false) numbers) words
words_are_built k c s place check v w nets old words numbers good is same nets_built old_good makes =
    makes (net_table c s) (λ i. side c s (word i)) (is_among (nets_named s check)) (λ i. false) (are_words c s good)
    (if_some_at (slice_get s.checks place) check (λ x. AreBuilt k v (net_table c s) (is_among (nets_named s x)) nets) is nets_built.built)
    (none_built k v (λ i. side c s (word i)) old old_good)
    (λ n net has of.
    among-from_Contains (nets_named s check) net (net_of_word_named s check n net (subst (λ (ns : List ℕ). Contains ns n) same has) of))

pub named_are_built : (s : Specification) (place : ℕ) (check : Check) (numbers : List ℕ) (f : Formula) → IsWellFormed s → slice_get s.checks place ≡ Some check →
    numbers ≡ words_of_check check → ((i : ℕ) → Contains (namings f) i → Contains (words_of_check check) i) →
    (i : ℕ) → Contains (namings f) i → (i < length s.words) × (or_listed (λ i. false) numbers i ≡ true)
named_are_built s place check numbers f good is same within i has =
    let named = within i has in (
      named_within (length s.words) check i (names_at s place check good is) named,
      among-from_Contains numbers i (subst (λ (ns : List ℕ). Contains ns i) (sym same) named),
    )
