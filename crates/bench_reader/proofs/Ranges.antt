-- A draft's fault speaks of one of its calls.
use Rattle.std.proofs.Common.{◌≡◌, ℕ, ◌+◌, ◌^◌, ◌<◌, ◌≤◌, Bool, List, [], length, Option, Some, None, IfSome, option_map, refl, sym, ap, subst, ◌∙◌, arith, position}
use Rattle.std.proofs.lemmas.List.{length-map}
use Rattle.std.proofs.lemmas.List.Quantifiers.{position-Some}
use Rattle.netlist.specs.Draft.{Draft}
use Rattle.netlist.specs.Fault.{fault}
use Rattle.netlist.specs.Finish.{undefined_fault, cycle_fault, finish_fault}
use Rattle.netlist.specs.declared.fault.NetFault.{NetFault}
use Rattle.netlist.specs.declared.fault.NetCause.{NetCause}
use Rattle.netlist.specs.declared.fault.NetCause.TheVariants.{UndefinedNet, Cycle}
use Rattle.bench_reader.specs.Gathered.{line_numbers}
use Rattle.bench_reader.specs.Later.{said_at, names_undefined, is_on_cycle}
use Rattle.bench_reader.specs.Statements.{Statement, says_input, said, nets}
use Rattle.bench_reader.specs.Steps.{drafted}
use Rattle.bench_reader.proofs.ApartNames.{AreApart}
use Rattle.bench_reader.proofs.NumberedLines.{statements-said_at}
use Rattle.bench_reader.proofs.Finishing.{undefined_is_first, cycle_is_first}

abbrev pub IsWithin : ℕ → Option NetFault → Type 0
IsWithin m o = IfSome o (λ f. (0 < f.at) × (f.at ≤ m))

within_place : (m : ℕ) (cause : NetCause) (o : Option ℕ) → ((k : ℕ) → o ≡ Some k → k < m) → IsWithin m (option_map (λ at. fault at cause) (option_map (λ k. k + 1) o))
within_place m cause None h = tt
within_place m cause (Some k) h = (omega arith, omega (arith, h k refl))

within_first : (test : Statement → Bool) (all : List Statement) (k : ℕ) → position test all ≡ Some k → k < length all
within_first test all k e = (position-Some test all k (says_input []) e).0

undefined_within : (all : List Statement) → length all < 2 ^ 32 → IsWithin (length all) (undefined_fault (drafted all))
undefined_within all h = subst (λ o. IsWithin (length all) (option_map (λ at. fault at UndefinedNet) o)) (sym (undefined_is_first all h)) (within_place (length all) UndefinedNet (position (names_undefined all) all) (within_first (names_undefined all) all))

cycle_within : (all : List Statement) → length all < 2 ^ 32 → AreApart (nets all) → IsWithin (length all) (cycle_fault (drafted all))
cycle_within all h apart = subst (λ o. IsWithin (length all) (option_map (λ at. fault at Cycle) o)) (sym (cycle_is_first all h apart)) (within_place (length all) Cycle (position (is_on_cycle all) all) (within_first (is_on_cycle all) all))

first_within : (m : ℕ) (d : Draft) (o : Option NetFault) → undefined_fault d ≡ o → IsWithin m o → IsWithin m (cycle_fault d) → IsWithin m (finish_fault d)
first_within m d None e h k = rw e k
first_within m d (Some f) e h k = rw e h

pub finish_within : (all : List Statement) → length all < 2 ^ 32 → AreApart (nets all) → IsWithin (length all) (finish_fault (drafted all))
finish_within all h apart = first_within (length all) (drafted all) (undefined_fault (drafted all)) refl (undefined_within all h) (cycle_within all h apart)

pub length-line_numbers : (n : ℕ) (text : List (List ℕ)) → length (line_numbers n text) ≡ length (said text)
length-line_numbers n text = length-map (said_at n text) (λ p. p.0) ∙ sym (length-map (said_at n text) (λ p. p.1)) ∙ ap length (statements-said_at n text)
