-- The lines that say something, by number: the first that passes a test, by the place of its statement.
use Rattle.std.proofs.Common.{◌≡◌, ℕ, suc, ◌+◌, ◌-◌, Bool, true, false, cond, List, [], ◌∷◌, map, find, position, slice_index, Option, Some, None, option_map, refl, sym, ap, ◌∙◌, arith}
use Rattle.std.specs.List.{cons_option}
use Rattle.bench_reader.specs.declared.fault.BenchCause.{BenchCause}
use Rattle.bench_reader.specs.declared.fault.BenchFault.{BenchFault}
use Rattle.bench_reader.specs.Faults.{fault}
use Rattle.bench_reader.specs.Gathered.{line_numbers}
use Rattle.bench_reader.specs.Later.{said_at, first_where}
use Rattle.bench_reader.specs.Statements.{Statement, said_by, said}
use Rattle.texts.proofs.Places.{position-cons}

-- the line of the statement with this number, from 1 on
abbrev pub line_of : List (List ℕ) → ℕ → ℕ
line_of text at = slice_index (line_numbers 1 text) (at - 1)

pub statements-said_at : (n : ℕ) (text : List (List ℕ)) → map (λ p. p.1) (said_at n text) ≡ said text
statements-said_at n [] = refl
statements-said_at n (line ∷ text) = at (said_by line) (statements-said_at (n + 1) text)
  where
    at : (o : Option Statement) → map (λ p. p.1) (said_at (n + 1) text) ≡ said text
        → map (λ p. p.1) (cons_option (option_map (λ (s : Statement). (n, s)) o) (said_at (n + 1) text)) ≡ cons_option o (said text)
    at None h = h
    at (Some s) h = ap (λ ss. s ∷ ss) h

-- the first that passes, at its number
abbrev pub found : (Statement → Bool) → BenchCause → List (ℕ × Statement) → Option BenchFault
found test cause numbered = option_map (λ p. fault p.0 cause) (find (λ p. test p.1) numbered)

-- the same by its place
abbrev pub placed : (Statement → Bool) → BenchCause → List (ℕ × Statement) → Option BenchFault
placed test cause numbered =
    option_map (λ k. fault (slice_index (map (λ p. p.0) numbered) k) cause) (position test (map (λ p. p.1) numbered))

found-placed : (test : Statement → Bool) (cause : BenchCause) (numbered : List (ℕ × Statement)) → found test cause numbered ≡ placed test cause numbered
found-placed test cause [] = refl
found-placed test cause (p ∷ numbered) =
    at (test p.1) (position test (map (λ p. p.1) numbered)) (found-placed test cause numbered)
    ∙ sym (ap (option_map (λ k. fault (slice_index (p.0 ∷ map (λ p. p.0) numbered) k) cause)) (position-cons test p.1 (map (λ p. p.1) numbered)))
  where
    later : (o : Option ℕ) → option_map (λ k. fault (slice_index (map (λ p. p.0) numbered) k) cause) o
        ≡ option_map (λ k. fault (slice_index (p.0 ∷ map (λ p. p.0) numbered) k) cause) (option_map (λ k. k + 1) o)
    later None = refl
    later (Some k) =
        let next : k + 1 ≡ suc k = omega arith in
        sym (ap (λ n. Some (fault (slice_index (p.0 ∷ map (λ p. p.0) numbered) n) cause)) next)

    at : (b : Bool) (o : Option ℕ) → found test cause numbered ≡ option_map (λ k. fault (slice_index (map (λ p. p.0) numbered) k) cause) o
        → option_map (λ p. fault p.0 cause) (cond b (Some p) (find (λ p. test p.1) numbered))
        ≡ option_map (λ k. fault (slice_index (p.0 ∷ map (λ p. p.0) numbered) k) cause) (cond b (Some 0) (option_map (λ k. k + 1) o))
    at true o h = refl
    at false o h = h ∙ later o

-- by the place of the statement among those that are said
pub first_where-placed : (test : Statement → Bool) (cause : BenchCause) (text : List (List ℕ))
    → option_map (λ k. fault (line_of text (k + 1)) cause) (position test (said text)) ≡ first_where test cause text
first_where-placed test cause text =
    ap (λ ss. option_map (λ k. fault (line_of text (k + 1)) cause) (position test ss)) (sym (statements-said_at 1 text))
    ∙ same (position test (map (λ p. p.1) (said_at 1 text)))
    ∙ sym (found-placed test cause (said_at 1 text))
  where
    same : (o : Option ℕ) → option_map (λ k. fault (line_of text (k + 1)) cause) o ≡ option_map (λ k. fault (slice_index (line_numbers 1 text) k) cause) o
    same None = refl
    same (Some k) =
        let back : k + 1 - 1 ≡ k = omega arith in
        ap (λ n. Some (fault (slice_index (line_numbers 1 text) n) cause)) back
