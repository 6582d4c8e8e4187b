-- The nets are settled from the last of a postorder to the first.
use Rattle.std.specs.Prelude.{◌≡◌, ℕ, ◌<◌, ◌⊎◌, ◌↔◌, Bool, true, false, not, List, [], ◌∷◌, ◌++◌, length}
use Rattle.std.specs.declared.alloc.Global.{Global}
use Rattle.std.specs.declared.vec.Vec.{Vec}
use Rattle.std.proofs.Common.{sym, ◌∙◌, ap, subst, inl, inr, ⊎_elim, arith}
use Rattle.std.proofs.lemmas.Bool.{cases_Bool, both_ways, false_from_ne_true}
use Rattle.netlist.proofs.Postorders.{last_of, comes_back, listed-reads, reaches_from_leads, leads_from_reaches, reaches_through}
use Rattle.netlist.proofs.CycleCalls.{circle-from, on_cycle-from}
use Rattle.circuits.proofs.Gates.{IsGate-from_input}
use Rattle.circuits.proofs.Members.{among_push, among-append_left}
use Rattle.circuits.specs.Circuit.{Circuit, IsGate, net_count}
use Rattle.circuits.specs.Cone.{reaches_itself}
use Rattle.netlist.specs.Inside.Leads.{Leads, IsClosed}
use Rattle.circuits.specs.Order.{IsInput, Reaches, step, steps, is_among}
use Rattle.netlist.specs.Inside.Postorder.{IsPostorder, ComesAfter}
use Rattle.circuits.specs.Valuation.{bit_of}
use Rattle.netlist.specs.Inside.Waiting.{CountsReaders, list_at}

-- what reads a settled net is settled, the rest is in the order, and of each settled net it is known whether it is on a cycle
pub record Settling (c : Circuit) (order : List ℕ) (settled alone : List Bool) : Type 0 where
  pub long : length settled ≡ net_count c
  pub same : length alone ≡ net_count c
  pub in_order : IsPostorder c order
  pub within : (net : ℕ) → is_among order net ≡ true → net < net_count c
  pub left : (net : ℕ) → net < net_count c → bit_of settled net ≡ false → is_among order net ≡ true
  pub closed : (net input : ℕ) → IsInput c net input → bit_of settled input ≡ true → bit_of settled net ≡ true
  pub right : (net : ℕ) → net < net_count c → bit_of settled net ≡ true → bit_of alone net ≡ not (reaches_itself c net)
  pub fresh : (net : ℕ) → net < net_count c → bit_of settled net ≡ false → bit_of alone net ≡ false

module _ (c : Circuit) where
  pub settling_begins : (order : List ℕ) (settled alone : List Bool) → length settled ≡ net_count c → length alone ≡ net_count c → ((net : ℕ) → bit_of settled net ≡ false) → ((net : ℕ) → bit_of alone net ≡ false)
      → IsPostorder c order → ((net : ℕ) → is_among order net ≡ true → net < net_count c) → ((net : ℕ) → net < net_count c → is_among order net ≡ true) → Settling c order settled alone
  settling_begins order settled alone long same none none_alone in_order within each = record {
    long = long;
    same = same;
    in_order = in_order;
    within = within;
    left = λ net low off. each net low;
    closed = λ net input reads is. absurd (both_ways (bit_of settled input) (none input) is);
    right = λ net low is. absurd (both_ways (bit_of settled net) (none net) is);
    fresh = λ net low off. none_alone net;
  }

  module _ (readers : List (Vec ℕ Global)) (many : length readers ≡ net_count c) (counts : CountsReaders c readers) (inputs : (net input : ℕ) → IsInput c net input → input < net_count c)
      (order : List ℕ) (settled alone : List Bool) (settling : Settling c order settled alone) where
    net_below : (net input : ℕ) → IsInput c net input → net < net_count c
    net_below net input reads = let is : IsGate c net = IsGate-from_input c net input reads in is.1

    pub lists_closed : IsClosed (list_at readers) settled
    lists_closed = record {
      within = λ net reader has. let low : reader < net_count c = net_below reader net (listed-reads c readers many counts inputs net reader has) in omega (arith, low, settling.long);
      closed = λ net reader is has. settling.closed reader net (listed-reads c readers many counts inputs net reader has) is;
    }

    module _ (rest : List ℕ) (root : ℕ) (last : order ≡ rest ++ root ∷ []) (settled' alone' : List Bool) (long' : length settled' ≡ net_count c) (same' : length alone' ≡ net_count c)
        (settles : (net : ℕ) → net < net_count c → (bit_of settled' net ≡ true) ↔ ((bit_of settled net ≡ true) ⊎ ((net ≡ root) ⊎ Leads (list_at readers) root net)))
        (sets_apart : (net : ℕ) → net < net_count c → (bit_of alone' net ≡ true) ↔ ((bit_of alone net ≡ true) ⊎ ((net ≡ root) × (bit_of settled root ≡ false) × ¬ Leads (list_at readers) root root))) where
      leads : {net : ℕ} → Reaches c net root → Leads (list_at readers) root net
      leads way = leads_from_reaches c readers many counts inputs way

      way_of : {net : ℕ} → Leads (list_at readers) root net → Reaches c net root
      way_of found = reaches_from_leads c readers many counts inputs found

      parts : IsPostorder c rest × ComesAfter c rest root
      parts = last_of settling.in_order rest root last

      open_on : (net input : ℕ) → bit_of settled net ≡ false → IsInput c net input → bit_of settled input ≡ false
      open_on net input off reads = false_from_ne_true (bit_of settled input) (λ is. both_ways (bit_of settled net) off (settling.closed net input reads is))

      reaches_settled : {net to : ℕ} → Reaches c net to → bit_of settled to ≡ true → bit_of settled net ≡ true
      reaches_settled {net} {to} (step reads) is = settling.closed net to reads is
      reaches_settled {net} (steps {input = input} reads way) is = settling.closed net input reads (reaches_settled way is)

      -- a net that is settled with the root, and reaches it, reaches itself
      circle : (net : ℕ) → net < net_count c → bit_of settled net ≡ false → Reaches c net root → Reaches c net net
      circle net low off way = ⊎_elim
          (λ e. subst (λ x. Reaches c net x) (sym e) way)
          (λ back. reaches_through way back)
          (comes_back c rest root Open on listed parts.0 parts.1 net (low, off) way)
        where
          Open : ℕ → Type 0
          Open x = (x < net_count c) × (bit_of settled x ≡ false)

          on : (x input : ℕ) → Open x → IsInput c x input → Open input
          on x input is reads = (inputs x input reads, open_on x input is.1 reads)

          listed : (x : ℕ) → Open x → is_among (rest ++ root ∷ []) x ≡ true
          listed x is = sym (ap (λ xs. is_among xs x) last) ∙ settling.left x is.0 is.1

      known : (net : ℕ) → net < net_count c → bit_of settled' net ≡ true → bit_of alone' net ≡ not (reaches_itself c net)
      known net low is = ⊎_elim before_now new (cases_Bool (bit_of settled net))
        where
          off_alone : (bit_of alone net ≡ false) → ((net ≡ root) × (bit_of settled root ≡ false) × ¬ Leads (list_at readers) root root → ⊥) → bit_of alone' net ≡ false
          off_alone off never = false_from_ne_true (bit_of alone' net) (λ on. ⊎_elim (λ old. both_ways (bit_of alone net) off old) never ((sets_apart net low).0 on))

          before_now : bit_of settled net ≡ true → bit_of alone' net ≡ not (reaches_itself c net)
          before_now was = ⊎_elim
              (λ on. (sets_apart net low).1 (inl on) ∙ (sym on ∙ settling.right net low was))
              (λ off. off_alone off (λ both. both_ways (bit_of settled net) (ap (bit_of settled) both.0 ∙ both.1) was) ∙ (sym off ∙ settling.right net low was))
              (cases_Bool (bit_of alone net))

          new : bit_of settled net ≡ false → bit_of alone' net ≡ not (reaches_itself c net)
          new off = ⊎_elim
              (λ was. absurd (both_ways (bit_of settled net) off was))
              (λ now. ⊎_elim at_root (λ found. reached (way_of found)) now)
              ((settles net low).0 is)
            where
              reached : Reaches c net root → bit_of alone' net ≡ not (reaches_itself c net)
              reached way =
                  off_alone (settling.fresh net low off) (λ both. both.2 (leads (subst (λ x. Reaches c x root) both.0 way)))
                  ∙ ap not (sym (on_cycle-from c net (circle net low off way)))

              at_root : net ≡ root → bit_of alone' net ≡ not (reaches_itself c net)
              at_root e = ⊎_elim
                  (λ on. reached (subst (λ x. Reaches c net x) e (circle-from c net on)))
                  (λ none.
                  (sets_apart net low).1 (inr (e, subst (λ x. bit_of settled x ≡ false) e off, λ found. both_ways (reaches_itself c net) none (on_cycle-from c net (subst (λ x. Reaches c x x) (sym e) (way_of found)))))
                  ∙ ap not (sym none))
                  (cases_Bool (reaches_itself c net))

      kept : (net : ℕ) → net < net_count c → bit_of settled net ≡ true → bit_of settled' net ≡ true
      kept net low was = (settles net low).1 (inl was)

      was_off : (net : ℕ) → net < net_count c → bit_of settled' net ≡ false → bit_of settled net ≡ false
      was_off net low off = false_from_ne_true (bit_of settled net) (λ was. both_ways (bit_of settled' net) off (kept net low was))

      pub settling_more : Settling c rest settled' alone'
      settling_more = record {
        long = long';
        same = same';
        in_order = parts.0;
        within = λ net found. settling.within net (ap (λ xs. is_among xs net) last ∙ among-append_left rest (root ∷ []) net found);
        left = λ net low off. ⊎_elim
            (λ found. found)
            (λ e. absurd (both_ways (bit_of settled' net) off ((settles net low).1 (inr (inl e)))))
            (among_push rest root net (sym (ap (λ xs. is_among xs net) last) ∙ settling.left net low (was_off net low off)));
        closed = λ net input reads is.
            let low : net < net_count c = net_below net input reads in
            ⊎_elim
            (λ was. kept net low (settling.closed net input reads was))
            (λ now. (settles net low).1 (inr (inr (leads (⊎_elim (λ e. subst (λ x. Reaches c net x) e (step reads)) (λ found. steps reads (way_of found)) now)))))
            ((settles input (inputs net input reads)).0 is);
        right = known;
        fresh = λ net low off. false_from_ne_true (bit_of alone' net) (λ on. ⊎_elim
            (λ old. both_ways (bit_of alone net) (settling.fresh net low (was_off net low off)) old)
            (λ both. both_ways (bit_of settled' net) off ((settles net low).1 (inr (inl both.0))))
            ((sets_apart net low).0 on));
      }
