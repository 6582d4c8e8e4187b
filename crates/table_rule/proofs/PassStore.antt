-- What a call of `intern` does to a pass as a store.
use Rattle.std.proofs.Common.{◌≡◌, ◌≢◌, ℕ, zero, suc, ◌<◌, ◌≤◌, List, [], ◌∷◌, ◌++◌, length, cond, Some, Ok, Err, true, false, Bool, ◌&&◌, true≢false, is_eq, refl, sym, ap, subst, ◌∙◌, inl, inr, ⊎_elim, arith}
use Rattle.std.proofs.lemmas.Bool.{cases_eq, cases_lt, cond-true, cond-false, false≢true}
use Rattle.std.proofs.lemmas.Bool.Decides.{Decides-ltb}
use Rattle.std.proofs.lemmas.Option.{none-some, same_Some}
use Rattle.std.specs.Cmp.{nat_cmp_total, nat_cmp_is}
use Rattle.std.specs.FinMap.{FinMap, find, from_entries, get, get-from_entries}
use Rattle.std.specs.Ordering.{nat_cmp, eq_by_cmp}
use Rattle.std.specs.Prelude.{IsTrue, nat_lt}
use Rattle.std.specs.declared.cmp.Ordering.TheVariants.{Less, Equal, Greater}
use Rattle.record_store.specs.Interns.{Interns}
use Rattle.record_store.specs.StoreView.{find_in}
use Rattle.table_rule.specs.Counts.{IsIn, times}
use Rattle.table_rule.specs.Laws.{KnowsOnce}
use Rattle.table_rule.specs.PassStore.{pass_store, stamp_of, is_spent, is_empty, has_below}
use Rattle.table_rule.specs.Words.{chunks}
use Rattle.table_rule.specs.declared.layout.Layout.{Layout}
use Rattle.table_rule.specs.declared.view.PassView.{PassView}
use Rattle.table_rule.proofs.Lists.{in_left, in_right, in_append, times_is_in, is_in_times}

find_here : (id other : ℕ) (node : List ℕ) (es : List (ℕ × List ℕ)) → id ≡ other → find nat_cmp id ((other, node) ∷ es) ≡ Some node
find_here id other node es same = cond-true (eq_by_cmp nat_cmp id other) (Some node) (find nat_cmp id es) (ap is_eq (sym (nat_cmp_is id other Equal same)))

find_later : (id other : ℕ) (node : List ℕ) (es : List (ℕ × List ℕ)) → id ≢ other → find nat_cmp id ((other, node) ∷ es) ≡ find nat_cmp id es
find_later id other node es apart =
    ⊎_elim
    (λ (below : id < other). cond-false (eq_by_cmp nat_cmp id other) (Some node) (find nat_cmp id es) (ap is_eq (sym (nat_cmp_is id other Less below))))
    (λ (not_below : other ≤ id).
    let above : other < id = ⊎_elim (λ (same : id ≡ other). absurd (apart same)) (λ (_ : id ≢ other). omega arith) (cases_eq id other) in
    cond-false (eq_by_cmp nat_cmp id other) (Some node) (find nat_cmp id es) (ap is_eq (sym (nat_cmp_is id other Greater above))))
    (cases_lt id other)

found_in : (es : List (ℕ × List ℕ)) (id : ℕ) (node : List ℕ) → find nat_cmp id es ≡ Some node → IsIn es (id, node)
found_in [] id node e = absurd (none-some node e)
found_in (x ∷ es) id node e =
    ⊎_elim
    (λ (same : id ≡ x.0). let body : x.1 ≡ node = same_Some x.1 node (sym (find_here id x.0 x.1 es same) ∙ e) in inl (λ i. (sym same i, body i)))
    (λ (apart : id ≢ x.0). inr (found_in es id node (sym (find_later id x.0 x.1 es apart) ∙ e)))
    (cases_eq id x.0)

in_found : (es : List (ℕ × List ℕ)) (id : ℕ) (node : List ℕ) → ((other : List ℕ) → IsIn es (id, other) → other ≡ node) → IsIn es (id, node) → find nat_cmp id es ≡ Some node
in_found [] id node once there = absurd there
in_found (x ∷ es) id node once there =
    ⊎_elim
    (λ (same : id ≡ x.0).
    find_here id x.0 x.1 es same ∙ ap Some (once x.1 (inl (λ i. (sym same i, x.1)))))
    (λ (apart : id ≢ x.0).
    ⊎_elim
    (λ (here : x ≡ (id, node)). absurd (apart (ap (λ (y : ℕ × List ℕ). y.0) (sym here))))
    (λ (later : IsIn es (id, node)). find_later id x.0 x.1 es apart ∙ in_found es id node (λ other k. once other (inr k)) later)
    there)
    (cases_eq id x.0)

module _ (names : List ℕ) (L : Layout) where
  pub known_in : (v : PassView) (id : ℕ) (node : List ℕ) → find_in (pass_store names L v) id ≡ Some node → IsIn v.known (id, node)
  known_in v id node e = found_in v.known id node (sym (get-from_entries nat_cmp_total v.known id) ∙ e)

  pub in_known : (v : PassView) → KnowsOnce L v → (id : ℕ) (node : List ℕ) → IsIn v.known (id, node) → find_in (pass_store names L v) id ≡ Some node
  in_known v once id node there = get-from_entries nat_cmp_total v.known id ∙ in_found v.known id node (λ other k. once.bodies id other node k there) there

  stamp_same : (v w : PassView) → w.gone ≡ v.gone → w.tokens ≡ v.tokens → w.joined ≡ v.joined → w.forked ≡ v.forked → stamp_of names L w ≡ stamp_of names L v
  stamp_same v w gone tokens joined forked =
      λ i. length names ∷ names ++ L.tokens ∷ length (gone i) ∷ joined i ∷ cond (forked i) 1 0 ∷ tokens i

  -- what is known once after an id was added was known once before
  knew : (v w : PassView) (id : ℕ) (node : List ℕ) → KnowsOnce L w → w.known ≡ v.known ++ (id, node) ∷ [] → KnowsOnce L v
  knew v w id node once known =
      let old : (x : ℕ) (n : List ℕ) → IsIn v.known (x, n) → IsIn w.known (x, n) = λ x n k. subst (λ (es : List (ℕ × List ℕ)). IsIn es (x, n)) (sym known) (in_left v.known ((id, node) ∷ []) (x, n) k) in
      record {
        ids = λ x y n a b. once.ids x y n (old x n a) (old y n b);
        bodies = λ x n m a b. once.bodies x n m (old x n a) (old x m b);
        within = λ x n a. once.within x n (old x n a);
      }

  is_last : (id x : ℕ) (node b : List ℕ) → IsIn {A = ℕ × List ℕ} ((id, node) ∷ []) (x, b) → id ≡ x
  is_last id x node b there = ⊎_elim (λ (here : ◌≡◌ {A = ℕ × List ℕ} (id, node) (x, b)). ap (λ (y : ℕ × List ℕ). y.0) here) (λ (none : ⊥). absurd none) there

  -- the answer was published by another pass, or before
  pub interns_known : (v w : PassView) (id : ℕ) (node : List ℕ) → KnowsOnce L w → w.known ≡ v.known ++ (id, node) ∷ [] → w.made ≡ v.made → stamp_of names L w ≡ stamp_of names L v → Interns (pass_store names L v) (pass_store names L w) node (Ok id)
  interns_known v w id node once known made stamp =
      let new : IsIn w.known (id, node) = subst (λ (es : List (ℕ × List ℕ)). IsIn es (id, node)) (sym known) (in_right v.known ((id, node) ∷ []) (id, node) (inl refl)) in
      let old : (x : ℕ) (n : List ℕ) → IsIn v.known (x, n) → IsIn w.known (x, n) = λ x n k. subst (λ (es : List (ℕ × List ℕ)). IsIn es (x, n)) (sym known) (in_left v.known ((id, node) ∷ []) (x, n) k) in
      let within = once.within id node new in
      record {
        room = refl;
        stamp = stamp;
        stays = λ x n e. in_known w once x n (old x n (known_in v x n e));
        answers = (in_known w once id node new, within.0, within.1);
        known_id = λ x e. ap Ok (once.ids id x node new (old x node (known_in v x node e)));
        at_most = λ x b e. ⊎_elim
            (λ (before : IsIn v.known (x, b)). inl (in_known v (knew v w id node once known) x b before))
            (λ (last : IsIn {A = ℕ × List ℕ} ((id, node) ∷ []) (x, b)). inr (ap Ok (is_last id x node b last)))
            (in_append v.known ((id, node) ∷ []) (x, b) (subst (λ (es : List (ℕ × List ℕ)). IsIn es (x, b)) known (known_in w x b e)));
        made = inl made;
        full = λ never. absurd (false≢true never);
      }

  -- the pass published the answer
  pub interns_made : (v w : PassView) (id : ℕ) (node : List ℕ) → KnowsOnce L w → w.known ≡ v.known ++ (id, node) ∷ [] → w.made ≡ v.made ++ id ∷ [] → stamp_of names L w ≡ stamp_of names L v → ((other : List ℕ) → IsIn v.known (id, other) → ⊥) → Interns (pass_store names L v) (pass_store names L w) node (Ok id)
  interns_made v w id node once known made stamp fresh =
      let new : IsIn w.known (id, node) = subst (λ (es : List (ℕ × List ℕ)). IsIn es (id, node)) (sym known) (in_right v.known ((id, node) ∷ []) (id, node) (inl refl)) in
      let old : (x : ℕ) (n : List ℕ) → IsIn v.known (x, n) → IsIn w.known (x, n) = λ x n k. subst (λ (es : List (ℕ × List ℕ)). IsIn es (x, n)) (sym known) (in_left v.known ((id, node) ∷ []) (x, n) k) in
      let within = once.within id node new in
      record {
        room = refl;
        stamp = stamp;
        stays = λ x n e. in_known w once x n (old x n (known_in v x n e));
        answers = (in_known w once id node new, within.0, within.1);
        known_id = λ x e. ap Ok (once.ids id x node new (old x node (known_in v x node e)));
        at_most = λ x b e. ⊎_elim
            (λ (before : IsIn v.known (x, b)). inl (in_known v (knew v w id node once known) x b before))
            (λ (last : IsIn {A = ℕ × List ℕ} ((id, node) ∷ []) (x, b)). inr (ap Ok (is_last id x node b last)))
            (in_append v.known ((id, node) ∷ []) (x, b) (subst (λ (es : List (ℕ × List ℕ)). IsIn es (x, b)) known (known_in w x b e)));
        made = inr (id, refl, (λ k. fresh k.0 (known_in v id k.0 k.1)), made);
        full = λ never. absurd (false≢true never);
      }

  -- the pass found no room for a body that it does not know
  pub interns_full : (v w : PassView) (node : List ℕ) → w.known ≡ v.known → w.made ≡ v.made → stamp_of names L w ≡ stamp_of names L v → IsTrue (is_spent L w) → ((id : ℕ) → IsIn v.known (id, node) → ⊥) → Interns (pass_store names L v) (pass_store names L w) node (Err (record {}))
  interns_full v w node known made stamp spent new =
      let same : (pass_store names L w).known ≡ (pass_store names L v).known = ap (λ (es : List (ℕ × List ℕ)). from_entries es) known in
      record {
        room = refl;
        stamp = stamp;
        stays = λ x n e. ap (λ (m : FinMap nat_cmp (List ℕ)). get m x) same ∙ e;
        answers = tt;
        known_id = λ x e. absurd (new x (known_in v x node e));
        at_most = λ x b e. inl (ap (λ (m : FinMap nat_cmp (List ℕ)). get m x) (sym same) ∙ e);
        made = inl made;
        full = λ _. (spent, (λ k. new k.0 (known_in v k.0 node k.1)), same, made);
      }

-- which passes are spent
has_each : (xs : List ℕ) (n : ℕ) → ((h : ℕ) → h < n → IsIn xs h) → has_below xs n ≡ true
has_each xs zero all = refl
has_each xs (suc n) all =
    let here : nat_lt 0 (times n xs) ≡ true = (Decides-ltb 0 (times n xs)).1 (times_is_in n xs (all n (omega arith))) in
    rw here (has_each xs n (λ h k. all h (omega arith)))

pub spends : (L : Layout) (v : PassView) → v.held ≡ [] → ((h : ℕ) → h < chunks L → IsIn v.taken h) → is_spent L v ≡ true
spends L v none all = rw none (has_each v.taken (chunks L) all)

both_true : (a b : Bool) → (a && b) ≡ true → (a ≡ true) × (b ≡ true)
both_true true b e = (refl, e)
both_true false b e = absurd (true≢false (sym e))

empty_is : (xs : List ℕ) → is_empty xs ≡ true → xs ≡ []
empty_is [] e = refl
empty_is (x ∷ xs) e = absurd (true≢false (sym e))

below_is : (xs : List ℕ) (n : ℕ) → has_below xs n ≡ true → (h : ℕ) → h < n → IsIn xs h
below_is xs zero e h few = absurd (omega arith)
below_is xs (suc n) e h few =
    let parts = both_true (nat_lt 0 (times n xs)) (has_below xs n) e in
    ⊎_elim
    (λ (last : h ≡ n). subst (IsIn xs) (sym last) (is_in_times n xs ((Decides-ltb 0 (times n xs)).0 parts.0)))
    (λ (before : h ≢ n). below_is xs n parts.1 h (omega arith))
    (cases_eq h n)

pub spent_is : (L : Layout) (v : PassView) → is_spent L v ≡ true → (v.held ≡ []) × ((h : ℕ) → h < chunks L → IsIn v.taken h)
spent_is L v e =
    let parts = both_true (is_empty v.held) (has_below v.taken (chunks L)) e in
    (empty_is v.held parts.0, below_is v.taken (chunks L) parts.1)
