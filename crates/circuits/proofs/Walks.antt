-- A walk through gates that comes to none twice has no more gates than there are.
use Rattle.std.specs.Prelude.{◌≡◌, ℕ, zero, suc, ◌+◌, ◌≤◌, true, List, [], ◌∷◌, ◌++◌, length, nat_eq}
use Rattle.std.specs.List.{IsDistinct}
use Rattle.std.specs.Cmp.{nat_eq_equiv}
use Rattle.std.proofs.Common.{sym, subst, ⊎_elim, arith}
use Rattle.std.proofs.lemmas.Bool.{cases_Bool, false≢true}
use Rattle.std.proofs.lemmas.List.{length_push}
use Rattle.std.proofs.lemmas.Map.Keys.{IsDistinct-push}
use Rattle.circuits.proofs.Members.{among_push, length-gates, none_apart}
use Rattle.circuits.specs.Circuit.{Circuit, IsGate}
use Rattle.circuits.specs.Order.{is_among}

-- At n steps before the end the walk is at a net of which At n holds, and Left n net holds of each gate that it has left.
module _ (c : Circuit) (At : ℕ → ℕ → Type 0) (Left : ℕ → ℕ → ℕ → Type 0)
    (gate : (n net : ℕ) → At n net → IsGate c net) (new : (n net : ℕ) → At n net → Left n net net → ⊥)
    (down : (n net : ℕ) → At (suc n) net → (next : ℕ) × At n next × Left n next net × ((q : ℕ) → Left (suc n) net q → Left n next q)) where
  -- the gates that the walk has left
  record Seen (seen : List ℕ) (n net : ℕ) : Type 0 where
    apart : IsDistinct nat_eq seen
    gates : (q : ℕ) → is_among seen q ≡ true → IsGate c q
    left : (q : ℕ) → is_among seen q ≡ true → Left n net q

  none_seen : (n net : ℕ) → Seen [] n net
  none_seen n net = record { apart = none_apart; gates = λ q found. absurd (false≢true found); left = λ q found. absurd (false≢true found) }

  more_apart : (seen : List ℕ) (n net : ℕ) → Seen seen n net → At n net → IsDistinct nat_eq (seen ++ net ∷ [])
  more_apart seen n net passed here = IsDistinct-push nat_eq_equiv seen net passed.apart
      (⊎_elim (λ found. absurd (new n net here (passed.left net found))) (λ fresh. fresh) (cases_Bool (is_among seen net)))

  more_gates : (seen : List ℕ) (n net : ℕ) → Seen seen n net → At n net → (q : ℕ) → is_among (seen ++ net ∷ []) q ≡ true → IsGate c q
  more_gates seen n net passed here q found = ⊎_elim (λ before. passed.gates q before) (λ same. subst (IsGate c) (sym same) (gate n net here)) (among_push seen net q found)

  walk : (n : ℕ) (seen : List ℕ) (net : ℕ) → Seen seen n net → length seen + n ≡ length c.gates → At n net → ⊥
  walk zero seen net passed long here =
      let short : length (seen ++ net ∷ []) ≤ length c.gates = length-gates c (seen ++ net ∷ []) (more_apart seen zero net passed here) (more_gates seen zero net passed here) in
      omega (arith, length_push seen net)
  walk (suc n) seen net passed long here =
      let next : (next : ℕ) × At n next × Left n next net × ((q : ℕ) → Left (suc n) net q → Left n next q) = down n net here in
      walk n (seen ++ net ∷ []) next.0
      (record {
        apart = more_apart seen (suc n) net passed here;
        gates = more_gates seen (suc n) net passed here;
        left = λ q found. ⊎_elim (λ before. next.3 q (passed.left q before)) (λ same. subst (Left n next.0) (sym same) next.2) (among_push seen net q found);
      })
      (omega (arith, length_push seen net))
      next.1

  pub no_walk : (net : ℕ) → At (length c.gates) net → ⊥
  no_walk net here = walk (length c.gates) [] net (none_seen (length c.gates) net) (omega arith) here
