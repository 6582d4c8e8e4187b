-- The first statement that names an undefined net is the least call of the draft that does.
use Rattle.std.proofs.Common.{◌≡◌, ℕ, ◌+◌, ◌≤◌, min, Bool, true, false, not, ◌&&◌, cond, List, [], ◌∷◌, ◌++◌, map, filter, Option, Some, None, option_map, refl, sym, ap, ◌∙◌, ⊎_elim, arith, position}
use Rattle.std.specs.List.{list_any, list_all}
use Rattle.std.specs.Option.{option_map_or}
use Rattle.std.specs.Str.{bytes_eq}
use Rattle.std.proofs.lemmas.Bool.{and_parts, and_from, or_cases, both_ways, not-true, not-false}
use Rattle.std.proofs.lemmas.List.Folds.{list_all-append}
use Rattle.std.proofs.lemmas.Slice.Eq.{bytes_eq-Decides}
use Rattle.netlist.specs.Draft.{GateLine, OutputLine, gate_line, output_line}
use Rattle.netlist.specs.Finish.{least}
use Rattle.bench_reader.specs.Faults.{is_defined}
use Rattle.bench_reader.specs.Later.{names_undefined}
use Rattle.bench_reader.specs.Statements.{Statement, says_input, says_output, says_gate}
use Rattle.bench_reader.proofs.Drafts.{gate_lines, output_lines}
use Rattle.texts.proofs.Places.{position-cons}

-- ---- the least of some numbers

abbrev pub AllFrom : ℕ → List ℕ → Type 0
AllFrom n [] = Unit {0}
AllFrom n (x ∷ xs) = (n ≤ x) × AllFrom n xs

pub from_lower : (m n : ℕ) (xs : List ℕ) → m ≤ n → AllFrom n xs → AllFrom m xs
from_lower m n [] le h = tt
from_lower m n (x ∷ xs) le h = (omega (arith, le, h.0), from_lower m n xs le h.1)

least-from-at : (n m x : ℕ) (o : Option ℕ) → n ≤ x → ((k : ℕ) → o ≡ Some k → n ≤ k) → Some (option_map_or (min x) o x) ≡ Some m → n ≤ m
least-from-at n m x None le h e = let f : x ≡ m = cc in omega arith
least-from-at n m x (Some k) le h e = let f : min x k ≡ m = cc in omega (arith, h k refl)

least-from : (n m : ℕ) (xs : List ℕ) → AllFrom n xs → least xs ≡ Some m → n ≤ m
least-from n m [] h e = absurd cc
least-from n m (x ∷ xs) h e = least-from-at n m x (least xs) h.0 (λ k f. least-from n k xs h.1 f) e

pub least-cons : (n : ℕ) (xs : List ℕ) → AllFrom n xs → least (n ∷ xs) ≡ Some n
least-cons n xs h = at (least xs) (λ m e. least-from n m xs h e)
  where
    at : (o : Option ℕ) → ((m : ℕ) → o ≡ Some m → n ≤ m) → Some (option_map_or (min n) o n) ≡ Some n
    at None f = refl
    at (Some m) f = ap Some (omega (arith, f m refl))

pub least-middle : (n : ℕ) (xs ys : List ℕ) → AllFrom n xs → AllFrom n ys → least (xs ++ n ∷ ys) ≡ Some n
least-middle n [] ys h k = least-cons n ys k
least-middle n (x ∷ xs) ys h k = ap (λ o. Some (option_map_or (min x) o x)) (least-middle n xs ys h.1 k) ∙ ap Some (omega (arith, h.0))

-- ---- the calls of undefined nets

abbrev pub is_undefined : List Statement → List ℕ → Bool
is_undefined all name = not (is_defined all name)

abbrev pub bad_gates : List Statement → List GateLine → List ℕ
bad_gates all lines = map (λ line. line.call) (filter (λ line. list_any (is_undefined all) line.inputs) lines)

abbrev pub bad_outputs : List Statement → List OutputLine → List ℕ
bad_outputs all lines = map (λ line. line.call) (filter (λ line. is_undefined all line.name) lines)

kept_gate : (all : List Statement) (n : ℕ) (v : Bool) (line : GateLine) (lines : List GateLine) → n ≤ line.call → AllFrom n (bad_gates all lines)
    → AllFrom n (map (λ line. line.call) (cond v (line ∷ filter (λ line. list_any (is_undefined all) line.inputs) lines) (filter (λ line. list_any (is_undefined all) line.inputs) lines)))
kept_gate all n true line lines le h = (le, h)
kept_gate all n false line lines le h = h

pub bad_gates-from : (all : List Statement) (n : ℕ) (rest : List Statement) → AllFrom n (bad_gates all (gate_lines n rest))
bad_gates-from all n [] = tt
bad_gates-from all n (says_input net ∷ rest) = from_lower n (n + 1) _ (omega arith) (bad_gates-from all (n + 1) rest)
bad_gates-from all n (says_output net ∷ rest) = from_lower n (n + 1) _ (omega arith) (bad_gates-from all (n + 1) rest)
bad_gates-from all n (says_gate net word inputs ∷ rest) =
    kept_gate all n (list_any (is_undefined all) inputs) (gate_line n net word inputs) (gate_lines (n + 1) rest) (omega arith)
    (from_lower n (n + 1) _ (omega arith) (bad_gates-from all (n + 1) rest))

kept_output : (all : List Statement) (n : ℕ) (v w : Bool) (line : OutputLine) (old new : List OutputLine) → n ≤ line.call → is_undefined all line.name ≡ v → AllFrom n (bad_outputs all old) → AllFrom n (bad_outputs all new)
    → AllFrom n (bad_outputs all (cond w old (line ∷ new)))
kept_output all n v true line old new le e h k = h
kept_output all n true false line old new le e h k = rw e (le, k)
kept_output all n false false line old new le e h k = rw e k

pub bad_outputs-from : (all : List Statement) (seen : List (List ℕ)) (n : ℕ) (rest : List Statement) → AllFrom n (bad_outputs all (output_lines seen n rest))
bad_outputs-from all seen n [] = tt
bad_outputs-from all seen n (says_input net ∷ rest) = from_lower n (n + 1) _ (omega arith) (bad_outputs-from all seen (n + 1) rest)
bad_outputs-from all seen n (says_gate net word inputs ∷ rest) = from_lower n (n + 1) _ (omega arith) (bad_outputs-from all seen (n + 1) rest)
bad_outputs-from all seen n (says_output net ∷ rest) =
    kept_output all n (is_undefined all net) (list_any (bytes_eq net) seen) (output_line n net) (output_lines seen (n + 1) rest) (output_lines (seen ++ net ∷ []) (n + 1) rest) (omega arith) refl
    (from_lower n (n + 1) _ (omega arith) (bad_outputs-from all seen (n + 1) rest))
    (from_lower n (n + 1) _ (omega arith) (bad_outputs-from all (seen ++ net ∷ []) (n + 1) rest))

-- ---- the first of them

pub shifted : (n : ℕ) (o : Option ℕ) → option_map (λ k. k + n) (option_map (λ k. k + 1) o) ≡ option_map (λ k. k + (n + 1)) o
shifted n None = refl
shifted n (Some k) = ap Some (omega arith)

abbrev pub IsFirst : ℕ → Option ℕ → List ℕ → Type 0
IsFirst n o calls = least calls ≡ option_map (λ k. k + n) o

gate_case : (all : List Statement) (v : Bool) (n : ℕ) (line : GateLine) (lines : List GateLine) (outs : List ℕ) (o : Option ℕ) → line.call ≡ n
    → AllFrom n (bad_gates all lines ++ outs) → IsFirst (n + 1) o (bad_gates all lines ++ outs)
    → IsFirst n (cond v (Some 0) (option_map (λ k. k + 1) o)) (map (λ line. line.call) (cond v (line ∷ filter (λ line. list_any (is_undefined all) line.inputs) lines) (filter (λ line. list_any (is_undefined all) line.inputs) lines)) ++ outs)
gate_case all true n line lines outs o at from first = rw at (least-cons n (bad_gates all lines ++ outs) from ∙ ap Some (omega arith))
gate_case all false n line lines outs o at from first = first ∙ sym (shifted n o)

from-append : (n : ℕ) (xs ys : List ℕ) → AllFrom n xs → AllFrom n ys → AllFrom n (xs ++ ys)
from-append n [] ys h k = k
from-append n (x ∷ xs) ys h k = (h.0, from-append n xs ys h.1 k)

among_defined : (all : List Statement) (seen : List (List ℕ)) (net : List ℕ) → list_all (is_defined all) seen ≡ true → list_any (bytes_eq net) seen ≡ true → is_defined all net ≡ true
among_defined all [] net h e = absurd cc
among_defined all (name ∷ seen) net h e =
    let parts = and_parts (is_defined all name) (list_all (is_defined all) seen) h in
    ⊎_elim
    (λ same. let f : net ≡ name = (bytes_eq-Decides net name).0 same in ap (is_defined all) f ∙ parts.0)
    (λ among. among_defined all seen net parts.1 among)
    (or_cases (bytes_eq net name) (list_any (bytes_eq net) seen) e)

-- w: the output was seen before; v: its name is not defined
output_case : (all : List Statement) (v w : Bool) (n : ℕ) (line : OutputLine) (old new : List OutputLine) (calls : List ℕ) (o : Option ℕ) → line.call ≡ n → is_undefined all line.name ≡ v
    → (w ≡ true → v ≡ true → ⊥) → AllFrom n calls → AllFrom n (bad_outputs all new)
    → (w ≡ true → IsFirst (n + 1) o (calls ++ bad_outputs all old)) → (w ≡ false → v ≡ false → IsFirst (n + 1) o (calls ++ bad_outputs all new))
    → IsFirst n (cond v (Some 0) (option_map (λ k. k + 1) o)) (calls ++ bad_outputs all (cond w old (line ∷ new)))
output_case all true true n line old new calls o at e never from more first later = absurd (never refl refl)
output_case all true false n line old new calls o at e never from more first later = rw (e, at) (least-middle n calls (bad_outputs all new) from more ∙ ap Some (omega arith))
output_case all false true n line old new calls o at e never from more first later = first refl ∙ sym (shifted n o)
output_case all false false n line old new calls o at e never from more first later = rw e (later refl refl ∙ sym (shifted n o))

pub first_undefined : (all rest : List Statement) (seen : List (List ℕ)) (n : ℕ) → list_all (is_defined all) seen ≡ true
    → IsFirst n (position (names_undefined all) rest) (bad_gates all (gate_lines n rest) ++ bad_outputs all (output_lines seen n rest))
first_undefined all [] seen n h = refl
first_undefined all (says_input net ∷ rest) seen n h =
    first_undefined all rest seen (n + 1) h ∙ sym (ap (option_map (λ k. k + n)) (position-cons (names_undefined all) (says_input net) rest) ∙ shifted n (position (names_undefined all) rest))
first_undefined all (says_gate net word inputs ∷ rest) seen n h =
    gate_case all (list_any (is_undefined all) inputs) n (gate_line n net word inputs) (gate_lines (n + 1) rest) (bad_outputs all (output_lines seen (n + 1) rest)) (position (names_undefined all) rest) refl
    (from_lower n (n + 1) _ (omega arith) (from-append (n + 1) _ _ (bad_gates-from all (n + 1) rest) (bad_outputs-from all seen (n + 1) rest)))
    (first_undefined all rest seen (n + 1) h)
    ∙ sym (ap (option_map (λ k. k + n)) (position-cons (names_undefined all) (says_gate net word inputs) rest))
first_undefined all (says_output net ∷ rest) seen n h =
    output_case all (is_undefined all net) (list_any (bytes_eq net) seen) n (output_line n net) (output_lines seen (n + 1) rest) (output_lines (seen ++ net ∷ []) (n + 1) rest) (bad_gates all (gate_lines (n + 1) rest)) (position (names_undefined all) rest) refl refl
    (λ w v. both_ways (is_defined all net) (not-true (is_defined all net) v) (among_defined all seen net h w))
    (from_lower n (n + 1) _ (omega arith) (bad_gates-from all (n + 1) rest))
    (from_lower n (n + 1) _ (omega arith) (bad_outputs-from all (seen ++ net ∷ []) (n + 1) rest))
    (λ w. first_undefined all rest seen (n + 1) h)
    (λ w v. first_undefined all rest (seen ++ net ∷ []) (n + 1) (list_all-append (is_defined all) seen (net ∷ []) ∙ and_from (list_all (is_defined all) seen) (is_defined all net && true) h (and_from (is_defined all net) true (not-false (is_defined all net) v) refl)))
    ∙ sym (ap (option_map (λ k. k + n)) (position-cons (names_undefined all) (says_output net) rest))
