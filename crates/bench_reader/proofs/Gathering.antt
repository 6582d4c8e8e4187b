-- Gathering what lines say, line by line.
use Rattle.std.proofs.Common.{◌≡◌, ℕ, zero, suc, ◌+◌, ◌^◌, ◌<◌, ◌≤◌, Bool, List, [], ◌∷◌, ◌++◌, length, map, take, drop, filter_map, Option, Some, None, Err, option_map, option_to_list, is_some, refl, sym, ap, subst, ◌∙◌, arith, add-one}
use Rattle.std.specs.List.{cons_option}
use Rattle.std.specs.Option.{option_or}
use Rattle.std.proofs.lemmas.List.{append-nil, length_push, take-append-drop}
use Rattle.std.proofs.lemmas.List.Elements.{filter_map-append}
use Rattle.std.proofs.lemmas.List.Sums.{fold_push}
use Rattle.netlist.specs.Draft.{Draft, nothing}
use Rattle.bench_reader.specs.declared.fault.BenchCause.{BenchCause}
use Rattle.bench_reader.specs.Faults.{fault, line_fault}
use Rattle.bench_reader.specs.Gathered.{line_numbers, IsWhole, IsAtLine, number_more, Gathers}
use Rattle.bench_reader.specs.declared.fault.BenchError.{BenchError}
use Rattle.bench_reader.specs.declared.line_error.LineError.{LineError}
use Rattle.bench_reader.specs.declared.line_error.LineError.TheVariants as line_errors
use Rattle.bench_reader.specs.Later.{said_at}
use Rattle.bench_reader.specs.Reading.{first_line_fault}
use Rattle.bench_reader.specs.Statements.{Statement, said_by, said}
use Rattle.bench_reader.specs.Steps.{with_statement, with_said, drafted, line_fault_after, Adds, RefusesLine}
use Rattle.bench_reader.proofs.LineFaults.{line_parts}

-- after n lines of the text, with these lines left
pub record IsGathered (text : List (List ℕ)) (n : ℕ) (maker : Draft) (numbers : List ℕ) (left : List (List ℕ)) : Type 0 where
  pub rest : drop n text ≡ left
  pub size : length (take n text) ≡ n
  pub draft : maker ≡ drafted (said (take n text))
  pub lines : numbers ≡ line_numbers 1 (take n text)
  pub faults : first_line_fault 1 [] text ≡ first_line_fault (n + 1) (said (take n text)) left

-- ---- one line more

taken_more : (n : ℕ) (text : List (List ℕ)) (line : List ℕ) (more : List (List ℕ)) → drop n text ≡ line ∷ more → (take (suc n) text ≡ take n text ++ line ∷ []) × (drop (suc n) text ≡ more)
taken_more zero [] line more e = absurd cc
taken_more zero (x ∷ text) line more e = let same : x ≡ line = cc in (ap (λ y. y ∷ []) same, cc)
taken_more (suc n) [] line more e = absurd cc
taken_more (suc n) (x ∷ text) line more e = let h = taken_more n text line more e in (ap (λ ys. x ∷ ys) h.0, h.1)

said_more : (done : List (List ℕ)) (line : List ℕ) → said (done ++ line ∷ []) ≡ said done ++ option_to_list (said_by line)
said_more done line = filter_map-append said_by done (line ∷ []) ∙ ap (λ ss. said done ++ ss) (at (said_by line))
  where
    at : (o : Option Statement) → filter_map (λ (x : Option Statement). x) (o ∷ []) ≡ option_to_list o
    at None = refl
    at (Some s) = refl

drafted_more : (all : List Statement) (o : Option Statement) → drafted (all ++ option_to_list o) ≡ with_said (drafted all) o
drafted_more all None = ap drafted (append-nil all)
drafted_more all (Some s) = fold_push with_statement nothing all s

line_numbers_more : (n m : ℕ) (done : List (List ℕ)) (line : List ℕ) → n + length done ≡ m → line_numbers n (done ++ line ∷ []) ≡ line_numbers n done ++ number_more m (is_some (said_by line))
line_numbers_more n m [] line e = at (said_by line)
  where
    at : (o : Option Statement) → map (λ (p : ℕ × Statement). p.0) (cons_option (option_map (λ (s : Statement). (n, s)) o) []) ≡ number_more m (is_some o)
    at None = refl
    at (Some s) = ap (λ k. k ∷ []) (omega (arith, e))
line_numbers_more n m (first ∷ done) line e = at (said_by first) (line_numbers_more (n + 1) m done line (omega (arith, e)))
  where
    at : (o : Option Statement) → line_numbers (n + 1) (done ++ line ∷ []) ≡ line_numbers (n + 1) done ++ number_more m (is_some (said_by line))
        → map (λ (p : ℕ × Statement). p.0) (cons_option (option_map (λ (s : Statement). (n, s)) o) (said_at (n + 1) (done ++ line ∷ [])))
        ≡ map (λ (p : ℕ × Statement). p.0) (cons_option (option_map (λ (s : Statement). (n, s)) o) (said_at (n + 1) done)) ++ number_more m (is_some (said_by line))
    at None h = h
    at (Some s) h = ap (λ ns. n ∷ ns) h

pub said-shorter : (text : List (List ℕ)) → length (said text) ≤ length text
said-shorter [] = omega arith
said-shorter (line ∷ text) = at (said_by line) (said-shorter text)
  where
    at : (o : Option Statement) → length (said text) ≤ length text → length (cons_option o (said text)) ≤ suc (length text)
    at None h = omega (arith, h)
    at (Some s) h = omega (arith, h)

-- ---- the steps of the loop

pub starts : (text : List (List ℕ)) → IsGathered text 0 nothing [] text
starts text = record { rest = refl; size = refl; draft = refl; lines = refl; faults = refl }

fault_here : (text : List (List ℕ)) (n : ℕ) (maker : Draft) (numbers : List ℕ) (line : List ℕ) (more : List (List ℕ)) → n < 2 ^ 32 → IsGathered text n maker numbers (line ∷ more) → line_fault (said (take n text)) line ≡ line_fault_after maker line
fault_here text n maker numbers line more h g =
    line_parts (said (take n text)) line (omega (arith, said-shorter (take n text), g.size)) ∙ ap (λ d. line_fault_after d line) (sym g.draft)

pub goes_on : (text : List (List ℕ)) (n : ℕ) (maker after : Draft) (numbers : List ℕ) (line : List ℕ) (more : List (List ℕ)) (says : Bool) → n < 2 ^ 32
    → IsGathered text n maker numbers (line ∷ more) → Adds maker after line says → IsGathered text (n + 1) after (numbers ++ number_more (n + 1) says) more
goes_on text n maker after numbers line more says h g a =
    let grown = taken_more n text line more g.rest in
    let taken : take (n + 1) text ≡ take n text ++ line ∷ [] = ap (λ k. take k text) (add-one n) ∙ grown.0 in
    let saids : said (take (n + 1) text) ≡ said (take n text) ++ option_to_list (said_by line) = ap said taken ∙ said_more (take n text) line in
    record {
      rest = ap (λ k. drop k text) (add-one n) ∙ grown.1;
      size = ap length taken ∙ length_push (take n text) line ∙ ap (λ k. k + 1) g.size;
      draft = a.added ∙ ap (λ d. with_said d (said_by line)) g.draft ∙ sym (drafted_more (said (take n text)) (said_by line)) ∙ sym (ap drafted saids);
      lines =
          ap (λ ns. ns ++ number_more (n + 1) says) g.lines
          ∙ ap (λ b. line_numbers 1 (take n text) ++ number_more (n + 1) b) a.told
          ∙ sym (line_numbers_more 1 (n + 1) (take n text) line (omega (arith, g.size)))
          ∙ sym (ap (line_numbers 1) taken);
      faults =
          g.faults
          ∙ ap (λ o. option_or (option_map (fault (n + 1)) o) (first_line_fault (n + 1 + 1) (said (take n text) ++ option_to_list (said_by line)) more)) (fault_here text n maker numbers line more h g ∙ a.no_fault)
          ∙ ap (λ ss. first_line_fault (n + 1 + 1) ss more) (sym saids);
    }

pub stops : (text : List (List ℕ)) (n : ℕ) (maker : Draft) (numbers : List ℕ) (line : List ℕ) (more : List (List ℕ)) (cause : BenchCause) → n < 2 ^ 32
    → IsGathered text n maker numbers (line ∷ more) → line_fault_after maker line ≡ Some cause → first_line_fault 1 [] text ≡ Some (fault (n + 1) cause)
stops text n maker numbers line more cause h g e =
    g.faults ∙ ap (λ o. option_or (option_map (fault (n + 1)) o) (first_line_fault (n + 1 + 1) (said (take n text) ++ option_to_list (said_by line)) more)) (fault_here text n maker numbers line more h g ∙ e)

pub ends : (text : List (List ℕ)) (n : ℕ) (maker : Draft) (numbers : List ℕ) → IsGathered text n maker numbers [] → IsWhole text maker numbers
ends text n maker numbers g =
    let all : take n text ≡ text = sym (append-nil (take n text)) ∙ ap (λ ys. take n text ++ ys) (sym g.rest) ∙ take-append-drop n text in
    record {
      no_fault = g.faults;
      draft = g.draft ∙ ap (λ ls. drafted (said ls)) all;
      lines = g.lines ∙ ap (line_numbers 1) all;
    }

-- a refused line ends the loop
pub refused : (text : List (List ℕ)) (n : ℕ) (maker : Draft) (numbers : List ℕ) (line : List ℕ) (more : List (List ℕ)) (line_error : LineError) (error : BenchError) → n < 2 ^ 32
    → IsGathered text n maker numbers (line ∷ more) → RefusesLine line_error maker line → IsAtLine (n + 1) line_error error → Gathers (Err error) text
refused text n maker numbers line more (line_errors.Fault cause) error h g e at = subst (λ x. Gathers (Err x) text) (sym at) (stops text n maker numbers line more cause h g e)
refused text n maker numbers line more line_errors.Memory error h g e at = subst (λ x. Gathers (Err x) text) (sym at) tt
