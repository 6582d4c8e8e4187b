-- What a line adds to what earlier lines say, by its keyword.
use Rattle.std.proofs.Common.{◌≡◌, ℕ, Bool, true, false, ◌&&◌, cond, List, [], ◌∷◌, ◌++◌, length, map, codes, Option, Some, None, is_some, option_map, Result, Ok, Err, refl, sym, ap, subst, ◌==◌}
use Rattle.std.specs.List.{before_first, after_first}
use Rattle.std.specs.Result.{IsErrAnd}
use Rattle.std.specs.Str.{bytes_eq}
use Rattle.std.proofs.lemmas.Bool.{eqb-true}
use Rattle.std.proofs.lemmas.List.{nil_from_length}
use Rattle.std.proofs.lemmas.Option.{same_Some}
use Rattle.circuits.specs.Circuit.{Circuit}
use Rattle.spec_grammar.specs.declared.fault.SpecCause.{SpecCause}
use Rattle.spec_grammar.specs.Fields.{fields}
use Rattle.spec_grammar.specs.Faults.{Draft, draft, numbers, with_form, form_fault}
use Rattle.spec_grammar.specs.Forms.{Form, empty_line, order_line, split_line, word_line, check_line, no_form, are_nets, order_form, split_with, split_form, word_form, check_of, check_form, is_equals_sign, form_behind}
use Rattle.spec_grammar.specs.Names.{letter, is_word_name}
use Rattle.spec_grammar.specs.Symbols.{Symbol, symbols}
use Rattle.spec_grammar.specs.Trees.{Tree}
use Rattle.spec_lang.specs.Specification.{Word, Check}
use Rattle.spec_reader.specs.declared.line_error.LineError.{LineError}
use Rattle.spec_reader.specs.declared.line_error.LineError.TheVariants.{Fault, Memory}
use Rattle.spec_reader.specs.Steps.{Tells, order_fault, order_said, split_fault, split_said, word_fault, word_said, check_fault, check_said}
use Rattle.word_base.specs.declared.decomp.Decomp.{Decomp}
use Rattle.word_base.specs.declared.kind_name.KindName.{KindName}

-- ---- errors

along_err : {Y : Type 0} (e f : LineError) (o : Option SpecCause) (Q : Y → Type 0) → f ≡ e → Tells {X = Y} (Err e) o Q → Tells {X = Y} (Err f) o Q
along_err {Y = Y} e f o Q same h = let R : LineError → Type 0 = λ e. Tells {X = Y} (Err e) o Q in subst R (sym same) h

other_answer : {X Y : Type 0} (e : LineError) (o : Option SpecCause) (P : X → Type 0) (Q : Y → Type 0) → Tells {X = X} (Err e) o P → Tells {X = Y} (Err e) o Q
other_answer (Fault cause) o P Q h = h
other_answer Memory o P Q h = tt

pub err_told : {X Y : Type 0} (r : Result Y LineError) (e : LineError) (o : Option SpecCause) (P : X → Type 0) (Q : Y → Type 0) → IsErrAnd r (λ f. f ≡ e) → Tells {X = X} (Err e) o P → Tells r o Q
err_told (Ok y) e o P Q same h = absurd same
err_told (Err f) e o P Q same h = along_err e f o Q same (other_answer e o P Q h)

pub want_told : {Y : Type 0} (r : Result Y LineError) (o : Option SpecCause) (Q : Y → Type 0) → IsErrAnd r (λ f. f ≡ Memory) → Tells r o Q
want_told (Ok y) o Q same = absurd same
want_told (Err f) o Q same = along_err Memory f o Q same tt

-- ---- what is added

pub order_added : (c : Circuit) (given : Bool) (d : Draft) (f : Form) (ns : List ℕ) → order_fault c given f ≡ None → ns ≡ order_said c f → draft (Some ns) d.letters d.words d.checks ≡ with_form c d f
order_added c given d empty_line ns e is = absurd (cc)
order_added c given d (order_line nets) ns e is = ap (λ ns. draft (Some ns) d.letters d.words d.checks) is
order_added c given d (split_line l nets) ns e is = absurd (cc)
order_added c given d (word_line text nets) ns e is = absurd (cc)
order_added c given d (check_line line a b) ns e is = absurd (cc)
order_added c given d no_form ns e is = absurd (cc)

pub split_added : (c : Circuit) (d : Draft) (f : Form) (l : Decomp) (ns : List ℕ) → Some (l, ns) ≡ split_said c f → draft d.order (d.letters ++ map (λ n. (n, l)) ns) d.words d.checks ≡ with_form c d f
split_added c d empty_line l ns is = absurd (cc)
split_added c d (order_line nets) l ns is = absurd (cc)
split_added c d (split_line m nets) l ns is =
    let same = same_Some (l, ns) (m, numbers c nets) is in
    ap (λ p. draft d.order (d.letters ++ map (λ n. (n, p.0)) p.1) d.words d.checks) same
split_added c d (word_line text nets) l ns is = absurd (cc)
split_added c d (check_line line a b) l ns is = absurd (cc)
split_added c d no_form l ns is = absurd (cc)

pub word_added : (c : Circuit) (d : Draft) (f : Form) (w : Word) → Some w ≡ word_said c f → draft d.order d.letters (d.words ++ w ∷ []) d.checks ≡ with_form c d f
word_added c d empty_line w is = absurd (cc)
word_added c d (order_line nets) w is = absurd (cc)
word_added c d (split_line m nets) w is = absurd (cc)
word_added c d (word_line text nets) w is = ap (λ w. draft d.order d.letters (d.words ++ w ∷ []) d.checks) (same_Some w _ is)
word_added c d (check_line line a b) w is = absurd (cc)
word_added c d no_form w is = absurd (cc)

pub check_added : (c : Circuit) (d : Draft) (f : Form) (k : Check) → check_said d.words f ≡ Some k → draft d.order d.letters d.words (d.checks ++ k ∷ []) ≡ with_form c d f
check_added c d empty_line k is = absurd (cc)
check_added c d (order_line nets) k is = absurd (cc)
check_added c d (split_line m nets) k is = absurd (cc)
check_added c d (word_line text nets) k is = absurd (cc)
check_added c d (check_line line a b) k is = ap (λ k. draft d.order d.letters d.words (d.checks ++ k ∷ [])) (sym (same_Some _ k is))
check_added c d no_form k is = absurd (cc)

-- ---- the fault of each kind of line is that of its form

module _ (c : Circuit) (k : KindName) (d : Draft) where
  order_chosen : (b : Bool) (nets : List (List ℕ)) → form_fault c k d (cond b (order_line nets) no_form) ≡ order_fault c (is_some d.order) (cond b (order_line nets) no_form)
  order_chosen true nets = refl
  order_chosen false nets = refl

  order_glue : (nets : List (List ℕ)) → form_fault c k d (order_form nets) ≡ order_fault c (is_some d.order) (order_form nets)
  order_glue [] = refl
  order_glue (net ∷ more) = order_chosen (are_nets (net ∷ more)) (net ∷ more)

  split_chosen : (b : Bool) (l : Decomp) (nets : List (List ℕ)) → form_fault c k d (cond b (split_line l nets) no_form) ≡ split_fault c k d.letters (cond b (split_line l nets) no_form)
  split_chosen true l nets = refl
  split_chosen false l nets = refl

  split_lettered : (o : Option Decomp) (nets : List (List ℕ)) → form_fault c k d (split_with o nets) ≡ split_fault c k d.letters (split_with o nets)
  split_lettered None nets = refl
  split_lettered (Some l) nets = split_chosen (are_nets nets) l nets

  split_glue : (texts : List (List ℕ)) → form_fault c k d (split_form texts) ≡ split_fault c k d.letters (split_form texts)
  split_glue [] = refl
  split_glue (text ∷ []) = refl
  split_glue (text ∷ net ∷ more) = split_lettered (letter text) (net ∷ more)

  word_chosen : (b : Bool) (text : List ℕ) (nets : List (List ℕ)) → form_fault c k d (cond b (word_line text nets) no_form) ≡ word_fault c d.words (cond b (word_line text nets) no_form)
  word_chosen true text nets = refl
  word_chosen false text nets = refl

  word_glue : (names nets : List (List ℕ)) → form_fault c k d (word_form names nets) ≡ word_fault c d.words (word_form names nets)
  word_glue [] nets = refl
  word_glue (text ∷ []) [] = refl
  word_glue (text ∷ []) (net ∷ more) = word_chosen (is_word_name text && are_nets (net ∷ more)) text (net ∷ more)
  word_glue (text ∷ other ∷ names) [] = refl
  word_glue (text ∷ other ∷ names) (net ∷ more) = refl

  check_chosen : (line : List Symbol) (a b : Option Tree) → form_fault c k d (check_of line a b) ≡ check_fault d.words (length d.checks) (check_of line a b)
  check_chosen line None None = refl
  check_chosen line None (Some b) = refl
  check_chosen line (Some a) None = refl
  check_chosen line (Some a) (Some b) = refl

  check_glue : (line : List Symbol) → form_fault c k d (check_form line) ≡ check_fault d.words (length d.checks) (check_form line)
  check_glue line = check_chosen line _ _

-- ---- the form of a line by its keyword

pub form_behind-order : (w rest : List ℕ) → bytes_eq w (codes "order") ≡ true → form_behind w rest ≡ order_form (fields rest)
form_behind-order [] rest e = absurd (cc)
form_behind-order (b ∷ more) rest e = rw e refl

pub form_behind-split : (w rest : List ℕ) → bytes_eq w (codes "order") ≡ false → bytes_eq w (codes "split") ≡ true → form_behind w rest ≡ split_form (fields rest)
form_behind-split [] rest e f = absurd (cc)
form_behind-split (b ∷ more) rest e f = rw (e, f) refl

pub form_behind-word : (w rest : List ℕ) → bytes_eq w (codes "order") ≡ false → bytes_eq w (codes "split") ≡ false → bytes_eq w (codes "word") ≡ true
    → form_behind w rest ≡ word_form (fields (before_first is_equals_sign rest)) (fields (after_first is_equals_sign rest))
form_behind-word [] rest e f g = absurd (cc)
form_behind-word (b ∷ more) rest e f g = rw (e, f, g) refl

pub form_behind-check : (w rest : List ℕ) → bytes_eq w (codes "order") ≡ false → bytes_eq w (codes "split") ≡ false → bytes_eq w (codes "word") ≡ false → bytes_eq w (codes "check") ≡ true
    → form_behind w rest ≡ check_form (symbols rest)
form_behind-check [] rest e f g h = absurd (cc)
form_behind-check (b ∷ more) rest e f g h = rw (e, f, g, h) refl

pub form_behind-none : (w rest : List ℕ) → (length w == 0) ≡ false → bytes_eq w (codes "order") ≡ false → bytes_eq w (codes "split") ≡ false → bytes_eq w (codes "word") ≡ false → bytes_eq w (codes "check") ≡ false
    → form_behind w rest ≡ no_form
form_behind-none [] rest n e f g h = absurd (cc)
form_behind-none (b ∷ more) rest n e f g h = rw (e, f, g, h) refl

pub form_behind-nothing : (w rest : List ℕ) → (length w == 0) ≡ true → form_behind w rest ≡ empty_line
form_behind-nothing w rest n = let none : w ≡ [] = nil_from_length w (eqb-true (length w) 0 n) in ap (λ w. form_behind w rest) none

-- ---- an answer for the form is one for the line

module _ {X : Type 0} (see : X → Draft) (c : Circuit) (k : KindName) (d : Draft) (r : Result X LineError) (f : Form) where
  along : (g : Form) (o : Option SpecCause) → f ≡ g → form_fault c k d g ≡ o → Tells r o (λ next. see next ≡ with_form c d g) → Tells r (form_fault c k d f) (λ next. see next ≡ with_form c d f)
  along g o same glue h =
      let P : Form → Type 0 = λ f. Tells r (form_fault c k d f) (λ next. see next ≡ with_form c d f) in
      let Q : Option SpecCause → Type 0 = λ o. Tells r o (λ next. see next ≡ with_form c d g) in
      subst P (sym same) (subst Q (sym glue) h)

  pub along_order : (nets : List (List ℕ)) → f ≡ order_form nets → Tells r (order_fault c (is_some d.order) (order_form nets)) (λ next. see next ≡ with_form c d (order_form nets)) → Tells r (form_fault c k d f) (λ next. see next ≡ with_form c d f)
  along_order nets same h = along (order_form nets) _ same (order_glue c k d nets) h

  pub along_split : (texts : List (List ℕ)) → f ≡ split_form texts → Tells r (split_fault c k d.letters (split_form texts)) (λ next. see next ≡ with_form c d (split_form texts)) → Tells r (form_fault c k d f) (λ next. see next ≡ with_form c d f)
  along_split texts same h = along (split_form texts) _ same (split_glue c k d texts) h

  pub along_word : (names nets : List (List ℕ)) → f ≡ word_form names nets → Tells r (word_fault c d.words (word_form names nets)) (λ next. see next ≡ with_form c d (word_form names nets)) → Tells r (form_fault c k d f) (λ next. see next ≡ with_form c d f)
  along_word names nets same h = along (word_form names nets) _ same (word_glue c k d names nets) h

  pub along_check : (line : List Symbol) → f ≡ check_form line → Tells r (check_fault d.words (length d.checks) (check_form line)) (λ next. see next ≡ with_form c d (check_form line)) → Tells r (form_fault c k d f) (λ next. see next ≡ with_form c d f)
  along_check line same h = along (check_form line) _ same (check_glue c k d line) h

pub is_some-map : {X Y : Type 0} (f : X → Y) (o : Option X) → is_some (option_map f o) ≡ is_some o
is_some-map f None = refl
is_some-map f (Some x) = refl
