-- The first statement on a cycle is the least call of the draft that is on one.
use Rattle.std.proofs.Common.{◌≡◌, ℕ, ◌+◌, ◌-◌, ◌≤◌, Bool, true, false, cond, List, [], ◌∷◌, ◌++◌, length, map, filter, filter_map, Option, Some, option_map, refl, sym, ap, subst, ◌∙◌, arith, position, slice_get, append_assoc}
use Rattle.std.specs.List.{range_with_len}
use Rattle.std.specs.Option.{option_map_or}
use Rattle.std.proofs.lemmas.List.{length_push}
use Rattle.netlist.specs.Draft.{GateLine}
use Rattle.circuits.specs.Cone.{reaches_itself}
use Rattle.bench_reader.specs.Later.{is_on_cycle}
use Rattle.bench_reader.specs.Statements.{Statement, says_input, says_output, says_gate, gate_name, nets, circuit}
use Rattle.bench_reader.proofs.ApartNames.{AreNumbered}
use Rattle.bench_reader.proofs.Drafts.{gate_lines}
use Rattle.bench_reader.proofs.FirstCalls.{AllFrom, from_lower, least-cons, IsFirst, shifted}
use Rattle.texts.proofs.Places.{position-cons}

-- the call of a net's gate, where the gates begin at the net a
abbrev pub call_in : ℕ → List GateLine → ℕ → ℕ
call_in a lines net = option_map_or (λ line. line.call) (slice_get lines (net - a)) 0

-- the calls of the gates at whose nets the test holds, where the first has the net n
abbrev pub calls_where : (ℕ → Bool) → ℕ → List GateLine → List ℕ
calls_where test n [] = []
calls_where test n (line ∷ lines) = cond (test n) (line.call ∷ calls_where test (n + 1) lines) (calls_where test (n + 1) lines)

slice_get_middle : (front : List GateLine) (line : GateLine) (rest : List GateLine) → slice_get (front ++ line ∷ rest) (length front) ≡ Some line
slice_get_middle [] line rest = refl
slice_get_middle (first ∷ front) line rest = slice_get_middle front line rest

calls_step : (a n : ℕ) (v : Bool) (front rest : List GateLine) (line : GateLine) (ns ks : List ℕ) → call_in a (front ++ line ∷ rest) n ≡ line.call → map (call_in a (front ++ line ∷ rest)) ns ≡ ks
    → map (call_in a (front ++ line ∷ rest)) (cond v (n ∷ ns) ns) ≡ cond v (line.call ∷ ks) ks
calls_step a n true front rest line ns ks here more = λ i. here i ∷ more i
calls_step a n false front rest line ns ks here more = more

pub calls_paired : (test : ℕ → Bool) (a n : ℕ) (front rest : List GateLine) → n ≡ a + length front
    → map (call_in a (front ++ rest)) (filter test (range_with_len n (length rest))) ≡ calls_where test n rest
calls_paired test a n front [] e = refl
calls_paired test a n front (line ∷ rest) e =
    let place : n - a ≡ length front = omega (arith, e) in
    let here : call_in a (front ++ line ∷ rest) n ≡ line.call = ap (λ k. option_map_or (λ line. line.call) (slice_get (front ++ line ∷ rest) k) 0) place ∙ ap (λ o. option_map_or (λ line. line.call) o 0) (slice_get_middle front line rest) in
    let more = calls_paired test a (n + 1) (front ++ line ∷ []) rest (omega (arith, e, length_push front line)) in
    calls_step a n (test n) front rest line (filter test (range_with_len (n + 1) (length rest))) (calls_where test (n + 1) rest) here
    (subst (λ lines. map (call_in a lines) (filter test (range_with_len (n + 1) (length rest))) ≡ calls_where test (n + 1) rest) (append_assoc front (line ∷ []) rest) more)

kept_call : (k : ℕ) (v : Bool) (call : ℕ) (calls : List ℕ) → k ≤ call → AllFrom k calls → AllFrom k (cond v (call ∷ calls) calls)
kept_call k true call calls le h = (le, h)
kept_call k false call calls le h = h

pub calls_where-from : (test : ℕ → Bool) (n k : ℕ) (all : List Statement) → AllFrom k (calls_where test n (gate_lines k all))
calls_where-from test n k [] = tt
calls_where-from test n k (says_input net ∷ all) = from_lower k (k + 1) _ (omega arith) (calls_where-from test n (k + 1) all)
calls_where-from test n k (says_output net ∷ all) = from_lower k (k + 1) _ (omega arith) (calls_where-from test n (k + 1) all)
calls_where-from test n k (says_gate net word inputs ∷ all) = kept_call k (test n) k (calls_where test (n + 1) (gate_lines (k + 1) all)) (omega arith) (from_lower k (k + 1) _ (omega arith) (calls_where-from test (n + 1) (k + 1) all))

cycle_case : (v : Bool) (k : ℕ) (calls : List ℕ) (o : Option ℕ) → AllFrom k calls → IsFirst (k + 1) o calls → IsFirst k (cond v (Some 0) (option_map (λ j. j + 1) o)) (cond v (k ∷ calls) calls)
cycle_case true k calls o from first = least-cons k calls from ∙ ap Some (omega arith)
cycle_case false k calls o from first = first ∙ sym (shifted k o)

pub first_on_cycle : (all rest : List Statement) (n k : ℕ) → AreNumbered (nets all) n (filter_map gate_name rest)
    → IsFirst k (position (is_on_cycle all) rest) (calls_where (reaches_itself (circuit all)) n (gate_lines k rest))
first_on_cycle all [] n k h = refl
first_on_cycle all (says_input net ∷ rest) n k h =
    first_on_cycle all rest n (k + 1) h ∙ sym (ap (option_map (λ j. j + k)) (position-cons (is_on_cycle all) (says_input net) rest) ∙ shifted k (position (is_on_cycle all) rest))
first_on_cycle all (says_output net ∷ rest) n k h =
    first_on_cycle all rest n (k + 1) h ∙ sym (ap (option_map (λ j. j + k)) (position-cons (is_on_cycle all) (says_output net) rest) ∙ shifted k (position (is_on_cycle all) rest))
first_on_cycle all (says_gate net word inputs ∷ rest) n k h =
    let test = reaches_itself (circuit all) in
    let calls = calls_where test (n + 1) (gate_lines (k + 1) rest) in
    let o = position (is_on_cycle all) rest in
    cycle_case (test n) k calls o (from_lower k (k + 1) calls (omega arith) (calls_where-from test (n + 1) (k + 1) rest)) (first_on_cycle all rest (n + 1) (k + 1) h.1)
    ∙ sym (ap (option_map (λ j. j + k)) (position-cons (is_on_cycle all) (says_gate net word inputs) rest ∙ ap (λ m. cond (test m) (Some 0) (option_map (λ j. j + 1) o)) h.0))
