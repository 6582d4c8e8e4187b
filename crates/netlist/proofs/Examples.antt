-- A gate that reads itself comes after its other inputs.
use Rattle.std.specs.Prelude.{◌≡◌, ℕ, ◌⊎◌, true, [], ◌∷◌, refl}
use Rattle.std.proofs.Common.{sym, ap, subst, inl, inr, ⊎_elim, arith, eqb-true}
use Rattle.std.proofs.lemmas.Bool.{or_cases, false≢true}
use Rattle.netlist.proofs.Postorders.{last_of}
use Rattle.circuits.proofs.Members.{Contains-cases, Contains-nil}
use Rattle.circuits.specs.Examples.{looped}
use Rattle.circuits.specs.Order.{IsInput, Reaches, step, steps, is_among}
use Rattle.netlist.specs.Inside.Postorder.{ComesAfter, IsPostorder, none, more}

looped-input : (input : ℕ) → IsInput looped 1 input → (input ≡ 1) ⊎ (input ≡ 0)
looped-input input reads = ⊎_elim
    (λ itself. inl (sym itself))
    (λ other. ⊎_elim (λ a. inr (sym a)) (λ never. absurd (Contains-nil input never)) (Contains-cases 0 [] input other))
    (Contains-cases 1 (0 ∷ []) input reads)

-- net 0 is an input, and net 1 reads itself and net 0
looped-postorder : IsPostorder looped (0 ∷ 1 ∷ [])
looped-postorder = more (0 ∷ []) 1 (more [] 0 none first) last
  where
    first : ComesAfter looped [] 0
    first = record { new = refl; inputs = λ reader input found reads. absurd (Contains-nil input (subst (λ net. IsInput looped net input) (only reader found) reads)) }
      where
        only : (reader : ℕ) → is_among (0 ∷ []) reader ≡ true → reader ≡ 0
        only reader found = ⊎_elim (λ same. eqb-true reader 0 same) (λ never. absurd (false≢true never)) (or_cases _ _ found)

    last : ComesAfter looped (0 ∷ []) 1
    last = record { new = refl; inputs = λ reader input found reads. inl (of_reader reader input found reads) }
      where
        of_reader : (reader input : ℕ) → is_among (0 ∷ 1 ∷ []) reader ≡ true → IsInput looped reader input → is_among (0 ∷ 1 ∷ []) input ≡ true
        of_reader reader input found reads = ⊎_elim
            (λ zero. absurd (Contains-nil input (subst (λ net. IsInput looped net input) (eqb-true reader 0 zero) reads)))
            (λ one. ⊎_elim
            (λ same. ⊎_elim
            (λ e. ap (is_among (0 ∷ 1 ∷ [])) e)
            (λ e. ap (is_among (0 ∷ 1 ∷ [])) e)
            (looped-input input (subst (λ net. IsInput looped net input) (eqb-true reader 1 same) reads)))
            (λ never. absurd (false≢true never))
            (or_cases _ _ one))
            (or_cases _ _ found)

reaches_from_none : (to : ℕ) → Reaches looped 0 to → ⊥
reaches_from_none to (step reads) = Contains-nil to reads
reaches_from_none to (steps {input = input} reads way) = Contains-nil input reads

-- net 1 reads net 0, which does not reach it
looped-too_early : IsPostorder looped (1 ∷ []) → ⊥
looped-too_early in_order = ⊎_elim
    (λ found. false≢true found)
    (λ way. reaches_from_none 1 way)
    ((last_of in_order [] 1 refl).1.inputs 1 0 refl (1, omega arith, refl))
