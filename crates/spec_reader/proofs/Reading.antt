-- The steps of the reading of a text, line by line.
use Rattle.std.proofs.Common.{◌≡◌, ℕ, ◌+◌, ◌<◌, ◌≤◌, ◌==◌, true, false, cond, List, [], ◌∷◌, length, map, drop, find, get_or, Option, Some, None, Result, Ok, Err, refl, sym, ap, subst, ◌∙◌}
use Rattle.std.specs.Option.{option_map_or}
use Rattle.std.proofs.lemmas.Bool.{eqb-true}
use Rattle.std.proofs.lemmas.List.{at_drop_more, at_drop_all, nil_from_length}
use Rattle.circuits.specs.Circuit.{Circuit}
use Rattle.spec_grammar.specs.declared.fault.SpecCause.{SpecCause}
use Rattle.spec_grammar.specs.declared.fault.SpecError.{SpecError}
use Rattle.spec_grammar.specs.declared.fault.SpecFault.{SpecFault}
use Rattle.spec_grammar.specs.Faults.{Draft, with_form, line_fault}
use Rattle.spec_grammar.specs.Forms.{form_of}
use Rattle.spec_grammar.specs.Reading.{chosen_order, chosen_letter, specified, at_end, unless, reading_from, IsFaultOf}
use Rattle.spec_lang.specs.Specification.{Check, Specification, specification}
use Rattle.spec_reader.specs.AtLine.{IsAtLine}
use Rattle.spec_reader.specs.declared.line_error.LineError.{LineError}
use Rattle.spec_reader.specs.declared.line_error.LineError.TheVariants.{Fault, Memory}
use Rattle.spec_reader.specs.Steps.{Tells}
use Rattle.word_base.specs.Kind.{usual_letter}
use Rattle.word_base.specs.declared.decomp.Decomp.{Decomp}
use Rattle.word_base.specs.declared.kind_name.KindName.{KindName}

-- ---- the letter of an input

module _ (letters : List (ℕ × Decomp)) (n : ℕ) (usual : Decomp) (i : ℕ) where
  abbrev letter_in : List (ℕ × Decomp) → Decomp
  letter_in some = option_map_or (λ p. p.1) (find (λ p. p.0 == n) some) usual

  letter_from : (d : ℕ × Decomp) → i < length letters → letter_in (drop i letters) ≡ option_map_or (λ (p : ℕ × Decomp). p.1) (cond ((get_or letters i d).0 == n) (Some (get_or letters i d)) (find (λ p. p.0 == n) (drop (i + 1) letters))) usual
  letter_from d below = at_drop_more letter_in letters i d below

  pub letter_hit : (d : ℕ × Decomp) (whole : Decomp) → i < length letters → letter_in (drop i letters) ≡ whole → ((get_or letters i d).0 == n) ≡ true → (get_or letters i d).1 ≡ whole
  letter_hit d whole below is same =
      sym (letter_from d below ∙ ap (λ b. option_map_or (λ (p : ℕ × Decomp). p.1) (cond b (Some (get_or letters i d)) (find (λ p. p.0 == n) (drop (i + 1) letters))) usual) same) ∙ is

  pub letter_miss : (d : ℕ × Decomp) (whole : Decomp) → i < length letters → letter_in (drop i letters) ≡ whole → ((get_or letters i d).0 == n) ≡ false → letter_in (drop (i + 1) letters) ≡ whole
  letter_miss d whole below is other =
      sym (letter_from d below ∙ ap (λ b. option_map_or (λ (p : ℕ × Decomp). p.1) (cond b (Some (get_or letters i d)) (find (λ p. p.0 == n) (drop (i + 1) letters))) usual) other) ∙ is

  pub letter_none : (whole : Decomp) → length letters ≤ i → letter_in (drop i letters) ≡ whole → usual ≡ whole
  letter_none whole past is = sym (at_drop_all letter_in letters i past) ∙ is

-- ---- the end

pub ended_well : (checks : List Check) (s : Specification) → (length checks == 0) ≡ false → at_end checks s ≡ Ok s
ended_well [] s e = absurd (cc)
ended_well (check ∷ more) s e = refl

pub ended_empty : (checks : List Check) (s t : Specification) → (length checks == 0) ≡ true → at_end checks s ≡ at_end [] s
ended_empty checks s t e = let none : checks ≡ [] = nil_from_length checks (eqb-true (length checks) 0 e) in ap (λ c. at_end c s) none

-- ---- a line

module _ (c : Circuit) (k : KindName) (n : ℕ) (d : Draft) (line : List ℕ) (more : List (List ℕ)) (whole : Result Specification SpecFault) where
  at_line : (o : Option SpecCause) → line_fault c k d line ≡ o → reading_from c k n d (line ∷ more) ≡ whole → unless o n (reading_from c k (n + 1) (with_form c d (form_of line)) more) ≡ whole
  at_line o e is = sym (ap (λ o. unless o n (reading_from c k (n + 1) (with_form c d (form_of line)) more)) e) ∙ is

  pub goes_on : (next : Draft) → reading_from c k n d (line ∷ more) ≡ whole → line_fault c k d line ≡ None → next ≡ with_form c d (form_of line) → reading_from c k (n + 1) next more ≡ whole
  goes_on next is none same = ap (λ d. reading_from c k (n + 1) d more) same ∙ at_line None none is

  pub stops : {X : Type 0} (e : LineError) (error : SpecError) (P : X → Type 0) → reading_from c k n d (line ∷ more) ≡ whole → Tells {X = X} (Err e) (line_fault c k d line) P → IsAtLine n e error → IsFaultOf error whole
  stops (Fault cause) error P is told at =
      let R : SpecError → Type 0 = λ e. IsFaultOf e whole in
      subst R (sym at) (sym (at_line (Some cause) told is))
  stops Memory error P is told at = let R : SpecError → Type 0 = λ e. IsFaultOf e whole in subst R (sym at) tt

-- ---- what was made of all lines

pub made_so : (c : Circuit) (k : KindName) (d : Draft) (order : List ℕ) (given : List (ℕ × Decomp)) (seen : List ℕ) (letters : List Decomp) → order ≡ chosen_order c d → given ≡ d.letters → seen ≡ order
    → letters ≡ map (λ n. option_map_or (λ p. p.1) (find (λ p. p.0 == n) given) (usual_letter k)) seen → specification order letters d.words d.checks ≡ specified c k d
made_so c k d order given seen letters o g s l =
    ap (λ o. specification o letters d.words d.checks) o
    ∙ ap (λ l. specification (chosen_order c d) l d.words d.checks)
    (l ∙ ap (λ given. map (λ n. option_map_or (λ (p : ℕ × Decomp). p.1) (find (λ p. p.0 == n) given) (usual_letter k)) seen) g
    ∙ ap (map (chosen_letter k d)) (s ∙ o))

pub along_fault : (error : SpecError) (r s : Result Specification SpecFault) → r ≡ s → IsFaultOf error r → IsFaultOf error s
along_fault error r s same h = let R : Result Specification SpecFault → Type 0 = λ r. IsFaultOf error r in subst R same h
