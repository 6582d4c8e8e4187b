-- The nets from which the last net of a postorder is reached, among those that are not settled, are on a cycle with it.
use Rattle.std.specs.Prelude.{◌≡◌, ℕ, ◌<◌, ◌⊎◌, true, false, List, [], ◌∷◌, ◌++◌, length, Contains, refl}
use Rattle.std.specs.declared.alloc.Global.{Global}
use Rattle.std.specs.declared.vec.Vec.{Vec}
use Rattle.std.proofs.Common.{sym, ◌∙◌, ap, subst, inl, inr, ⊎_elim, arith, eqb-true}
use Rattle.std.proofs.lemmas.Bool.{cases_Bool, cases_lt, both_ways, false≢true, false_from_ne_true, or_cases}
use Rattle.std.proofs.lemmas.List.{append_assoc, length_push, same_from_push}
use Rattle.netlist.proofs.Counts.{count-from_among, among-from_count}
use Rattle.circuits.proofs.Descent.{reaches_on}
use Rattle.netlist.proofs.Marking.{leads_on}
use Rattle.circuits.proofs.Members.{Contains-from_among, among-from_Contains, Contains-nil, among-append, among-append_left, among-append_right}
use Rattle.netlist.proofs.Counts.{list_at-past}
use Rattle.circuits.specs.Circuit.{Circuit, net_count, fanin}
use Rattle.netlist.specs.Inside.Leads.{Leads, at_once, by_way}
use Rattle.circuits.specs.Order.{IsInput, Reaches, step, steps, is_among}
use Rattle.netlist.specs.Inside.Postorder.{ComesAfter, IsPostorder, none, more}
use Rattle.netlist.specs.Inside.Waiting.{CountsReaders, list_at}

pub reaches_through : {c : Circuit} {net via to : ℕ} → Reaches c net via → Reaches c via to → Reaches c net to
reaches_through (step first) rest = steps first rest
reaches_through (steps first way) rest = steps first (reaches_through way rest)

-- a postorder by its last net
pub last_of : {c : Circuit} {order : List ℕ} → IsPostorder c order → (before : List ℕ) (net : ℕ) → order ≡ before ++ net ∷ [] → IsPostorder c before × ComesAfter c before net
last_of none before net e = absurd (let long : 0 ≡ length (before ++ net ∷ []) = ap length e in omega (arith, long, length_push before net))
last_of {c} (more before' net' in_order after) before net e =
    let same = same_from_push before' before net' net e in
    (subst (IsPostorder c) same.0 in_order, subst (ComesAfter c before) same.1 (subst (λ xs. ComesAfter c xs net') same.0 after))

module _ (c : Circuit) (rest : List ℕ) (root : ℕ) (Open : ℕ → Type 0) (open_on : (net input : ℕ) → Open net → IsInput c net input → Open input) (listed : (net : ℕ) → Open net → is_among (rest ++ root ∷ []) net ≡ true) where
  abbrev To : ℕ → Type 0
  To net = (net ≡ root) ⊎ Reaches c net root

  abbrev Back : ℕ → Type 0
  Back net = (net ≡ root) ⊎ Reaches c root net

  -- a way from some nets to another comes to a first net that is none of them
  leaves : (nets : List ℕ) {net : ℕ} → Reaches c net root → is_among nets net ≡ true → is_among nets root ≡ false → Open net
      → (reader input : ℕ) × (is_among nets reader ≡ true) × IsInput c reader input × (is_among nets input ≡ false) × Open input × To input
  leaves nets {net} (step reads) here out open_net = (net, root, here, reads, out, open_on net root open_net reads, inl refl)
  leaves nets {net} (steps {input = input} reads rest) here out open_net = ⊎_elim
      (λ stays. leaves nets rest stays out (open_on net input open_net reads))
      (λ goes. (net, input, here, reads, goes, open_on net input open_net reads, inr rest))
      (cases_Bool (is_among nets input))

  -- from each net of the second part of the order there is a way back
  abbrev Returns : List ℕ → Type 0
  Returns nets = (net : ℕ) → is_among nets net ≡ true → Open net → To net → Back net

  one_more : (before later : List ℕ) (net : ℕ) → ComesAfter c before net → (before ++ net ∷ []) ++ later ≡ rest ++ root ∷ [] → is_among (before ++ net ∷ []) root ≡ false → Returns later → Open net → To net → Back net
  one_more before later net after same out known open_net (inl e) = inl e
  one_more before later net after same out known open_net (inr way) =
      let exit = leaves (before ++ net ∷ []) way (among-append_right before (net ∷ []) net (among-from_count (net ∷ []) net (count-from_among (net ∷ []) net (one_of net)))) out open_net in
      let input : ℕ = exit.1 in
      let back : Reaches c input net = ⊎_elim
      (λ inside. absurd (both_ways (is_among (before ++ net ∷ []) input) exit.4 inside))
      (λ reaches. reaches)
      (after.inputs exit.0 input exit.2 exit.3)
      in
      let found : is_among later input ≡ true = ⊎_elim
      (λ inside. absurd (both_ways (is_among (before ++ net ∷ []) input) exit.4 inside))
      (λ past. past)
      (among-append (before ++ net ∷ []) later input (ap (λ xs. is_among xs input) same ∙ listed input exit.5))
      in
      inr (⊎_elim
      (λ e. subst (λ x. Reaches c x net) e back)
      (λ reaches. reaches_through reaches back)
      (known input found exit.5 exit.6))
    where
      one_of : (x : ℕ) → is_among (x ∷ []) x ≡ true
      one_of x = among-from_Contains (x ∷ []) x (0, omega arith, refl)

  all_return : {before : List ℕ} → IsPostorder c before → (later : List ℕ) → before ++ later ≡ rest ++ root ∷ [] → is_among before root ≡ false → Returns later → (net : ℕ) → Open net → To net → Back net
  all_return none later same out known net open_net to = known net (ap (λ xs. is_among xs net) same ∙ listed net open_net) open_net to
  all_return (more before last in_order after) later same out known net open_net way = all_return in_order (last ∷ later) (sym (append_assoc before (last ∷ []) later) ∙ same)
      (false_from_ne_true (is_among before root) (λ found. both_ways (is_among (before ++ last ∷ []) root) out (among-append_left before (last ∷ []) root found)))
      (λ x found open_x to. ⊎_elim
      (λ here. let e : x ≡ last = eqb-true x last here in subst Back (sym e) (one_more before later last after same out known (subst Open e open_x) (subst To e to)))
      (λ past. known x past open_x to)
      (or_cases _ _ found))
      net
      open_net
      way

  pub comes_back : IsPostorder c rest → ComesAfter c rest root → (net : ℕ) → Open net → Reaches c net root → Back net
  comes_back in_order after net open_net way = all_return in_order (root ∷ []) refl after.new
      (λ x found open_x to. ⊎_elim (λ here. inl (eqb-true x root here)) (λ never. absurd (false≢true never)) (or_cases _ _ found))
      net
      open_net
      (inr way)

module _ (c : Circuit) (readers : List (Vec ℕ Global)) (long : length readers ≡ net_count c) (counts : CountsReaders c readers) (inputs : (net input : ℕ) → IsInput c net input → input < net_count c) where
  pub listed-reads : (net reader : ℕ) → Contains (list_at readers net) reader → IsInput c reader net
  listed-reads net reader has = ⊎_elim
      (λ low. Contains-from_among (fanin c reader) net (among-from_count (fanin c reader) net (subst (λ n. 0 < n) (counts net reader low) (count-from_among (list_at readers net) reader (among-from_Contains (list_at readers net) reader has)))))
      (λ past. absurd (Contains-nil reader (subst (λ xs. Contains xs reader) (list_at-past readers net (omega (arith, past, long))) has)))
      (cases_lt net (net_count c))

  pub reads-listed : (net reader : ℕ) → IsInput c reader net → Contains (list_at readers net) reader
  reads-listed net reader reads = Contains-from_among (list_at readers net) reader (among-from_count (list_at readers net) reader (subst (λ n. 0 < n) (sym (counts net reader (inputs reader net reads))) (count-from_among (fanin c reader) net (among-from_Contains (fanin c reader) net reads))))

  pub reaches_from_leads : {net to : ℕ} → Leads (list_at readers) net to → Reaches c to net
  reaches_from_leads {net} {to} (at_once has) = step (listed-reads net to has)
  reaches_from_leads {net} (by_way {via = via} has rest) = reaches_on (reaches_from_leads rest) (listed-reads net via has)

  pub leads_from_reaches : {net to : ℕ} → Reaches c to net → Leads (list_at readers) net to
  leads_from_reaches {net} {to} (step reads) = at_once (reads-listed net to reads)
  leads_from_reaches {net} {to} (steps {input = input} reads rest) = leads_on (leads_from_reaches rest) (reads-listed input to reads)
