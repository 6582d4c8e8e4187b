-- A walk along gate inputs marks the cone of some nets.
use Rattle.std.specs.Prelude.{◌≡◌, ℕ, get_or, ◌<◌, Bool, true, false, not, ◌&&◌, ◌||◌, List, [], length, Contains}
use Rattle.std.proofs.Common.{sym, ◌∙◌, subst, inl, inr, ⊎_elim}
use Rattle.std.proofs.lemmas.Bool.{cases_Bool, both_ways, false_from_ne_true}
use Rattle.std.proofs.lemmas.List.Elements.{Contains-get_or}
use Rattle.circuits.proofs.Cones.{is_in_cone-reached}
use Rattle.circuits.proofs.Descent.{reaches_on}
use Rattle.netlist.proofs.Marking.{Walk, walk_begins, marked_along}
use Rattle.circuits.proofs.Members.{among-from_Contains}
use Rattle.circuits.proofs.Topological.{begins_first}
use Rattle.circuits.specs.Circuit.{Circuit, IsGate, net_count, fanin}
use Rattle.circuits.specs.Cone.{IsReachedFrom, is_in_cone}
use Rattle.netlist.specs.Inside.Leads.{Leads, at_once, by_way}
use Rattle.circuits.specs.Order.{IsInput, Reaches, step, steps, is_among, topological}
use Rattle.circuits.specs.Valuation.{bit_of}

inputs_lead : {c : Circuit} {net to : ℕ} → Reaches c net to → Leads (fanin c) net to
inputs_lead (step reads) = at_once reads
inputs_lead (steps reads rest) = by_way reads (inputs_lead rest)

module _ (c : Circuit) (from : List ℕ) where
  abbrev pub ConeWalk : List Bool → List ℕ → Type 0
  ConeWalk marks unvisited = Walk (fanin c) (Contains from) (IsReachedFrom c from) (net_count c) marks unvisited

  pub reached_onwards : (net input : ℕ) → IsReachedFrom c from net → IsInput c net input → IsReachedFrom c from input
  reached_onwards net input reached reads = ⊎_elim
      (λ has. inr (net, has, step reads))
      (λ far. inr (far.0, far.1, reaches_on far.2 reads))
      reached

  module _ (inputs : (net input : ℕ) → IsInput c net input → input < net_count c) (within : (net : ℕ) → Contains from net → net < net_count c) where
    pub cone_begins : (before marks : List Bool) (unvisited : List ℕ) → length marks ≡ net_count c → ((net : ℕ) → bit_of before net ≡ false)
        → ((net : ℕ) → net < net_count c → bit_of marks net ≡ (bit_of before net || is_among from net))
        → ((net : ℕ) → is_among unvisited net ≡ (is_among [] net || (is_among from net && not (bit_of before net))))
        → ConeWalk marks unvisited
    cone_begins before marks unvisited long none marking waiting = walk_begins (fanin c) (Contains from) (IsReachedFrom c from) (net_count c) inputs before marks from unvisited long
        (λ net to low was has. absurd (both_ways (bit_of before net) (none net) was))
        (λ net low was. absurd (both_ways (bit_of before net) (none net) was))
        (λ net has. (within net has, inl has))
        (λ net has. inr has)
        marking
        waiting

    -- with nothing left to visit, the marks are those of the cone
    pub marks-cone : (marks : List Bool) (unvisited : List ℕ) → ConeWalk marks unvisited → unvisited ≡ [] → (net : ℕ) → net < net_count c → bit_of marks net ≡ is_in_cone c from net
    marks-cone marks unvisited walk none net low = ⊎_elim
        (λ is_marked. is_marked ∙ sym ((is_in_cone-reached c from net).1 (walk.reached net low is_marked)))
        (λ no. no ∙ sym (false_from_ne_true (is_in_cone c from net) (λ is. both_ways (bit_of marks net) no (from_reached ((is_in_cone-reached c from net).0 is)))))
        (cases_Bool (bit_of marks net))
      where
        from_reached : IsReachedFrom c from net → bit_of marks net ≡ true
        from_reached reached = ⊎_elim
            (λ has. walk.given net (within net has) has)
            (λ far. marked_along (fanin c) (Contains from) (IsReachedFrom c from) (net_count c) inputs marks unvisited walk none (inputs_lead far.2) (within far.0 far.1) (walk.given far.0 (within far.0 far.1) far.1))
            reached

-- what the order lists is a gate
pub topological-is_gate : (c : Circuit) (order : List ℕ) (k : ℕ) → order ≡ topological c → k < length order → IsGate c (get_or order k 0)
topological-is_gate c order k is low =
    (begins_first c (length c.gates)).gates (get_or order k 0) (among-from_Contains (topological c) (get_or order k 0) (subst (λ xs. Contains xs (get_or order k 0)) is (Contains-get_or order k 0 low)))
