-- The store of a builder after a body was interned: it stays good, and all that was known is known.
use Rattle.std.proofs.Common.{◌≡◌, refl, sym, ◌∙◌, ap, subst, ℕ, ◌<◌, ◌≤◌, Bool, List, [], ◌∷◌, ◌++◌, length, append_assoc, arith, inl, inr, ⊎_elim}
use Rattle.std.specs.Prelude.{Option, Some, None, Result, Ok, ◌⊎◌, IfOk}
use Rattle.std.proofs.lemmas.Option.{same_Some}
use Rattle.std.proofs.lemmas.List.{append-nil}
use Rattle.word_base.specs.declared.kind_name.KindName.{KindName}
use Rattle.record_store.specs.StoreView.{StoreView, find_in}
use Rattle.record_store.specs.Interns.{Interns, MadeBy}
use Rattle.record_store.specs.declared.store.StoreFull.{StoreFull}
use Rattle.tables.specs.Table.{Table}
use Rattle.tables.specs.Tree.{Weights}
use Rattle.kind_laws.specs.Graph.{StandsFor}
use Rattle.kind_laws.proofs.GraphLaws.{StandsFor-extends}
use Rattle.diagram.specs.Inside.{HasMarks}
use Rattle.diagram.specs.View.{View, Keeps, IsGood}

none_if : {X : Type 0} (o : Option X) → ((x : X) → o ≡ Some x → ⊥) → o ≡ None
none_if None h = refl
none_if (Some x) h = absurd (h x refl)

-- an id that is answered is that of the body, and is not 0
record IsAnswered (w : StoreView) (body : List ℕ) (id : ℕ) : Type 0 where
  found : find_in w id ≡ Some body
  above : 0 < id
  within : id ≤ w.room

answered_id : (v w : StoreView) (body : List ℕ) (result : Result ℕ StoreFull) (id : ℕ) → Interns v w body result → result ≡ Ok id → IsAnswered w body id
answered_id v w body result id interns is =
    let at = subst (λ (r : Result ℕ StoreFull). IfOk r (λ i. (find_in w i ≡ Some body) × (0 < i) × (i ≤ w.room))) is interns.answers in
    record { found = at.0; above = at.1; within = at.2 }

pub still_no_zero : (v w : StoreView) (body : List ℕ) (result : Result ℕ StoreFull) → Interns v w body result → find_in v 0 ≡ None → find_in w 0 ≡ None
still_no_zero v w body result interns no_zero =
    none_if (find_in w 0) (λ b known. elim (interns.at_most 0 b known) [
      | inl was ↦ let clash : Some b ≡ None = sym was ∙ no_zero in absurd (cc)
      | inr is ↦ let above = (answered_id v w body result 0 interns is).above in absurd (omega arith)
    ])

-- what a builder keeps
pub interned_keeps : (v : View) (w : StoreView) (body : List ℕ) (result : Result ℕ StoreFull) → Interns v.store w body result → Keeps v (record { store = w; letters = v.letters })
interned_keeps v w body result interns = record {
  letters = refl;
  room = interns.room;
  stamp = interns.stamp;
  known = interns.stays;
  no_zero = still_no_zero v.store w body result interns;
  gained = (gained interns.made).0;
  made = (gained interns.made).1;
}
  where
    gained : MadeBy v.store w result → (ids : List ℕ) × (w.made ≡ v.store.made ++ ids)
    gained (inl same) = ([], same ∙ sym (append-nil v.store.made))
    gained (inr (id, is, fresh, more)) = (id ∷ [], more)

pub keeps_itself : (v : View) → Keeps v v
keeps_itself v = record {
  letters = refl;
  room = refl;
  stamp = refl;
  known = λ id body h. h;
  no_zero = λ h. h;
  gained = [];
  made = sym (append-nil v.store.made);
}

pub keeps_on : (u v w : View) → Keeps u v → Keeps v w → Keeps u w
keeps_on u v w k m = record {
  letters = m.letters ∙ k.letters;
  room = m.room ∙ k.room;
  stamp = m.stamp ∙ k.stamp;
  known = λ id body h. m.known id body (k.known id body h);
  no_zero = λ h. m.no_zero (k.no_zero h);
  gained = k.gained ++ m.gained;
  made = m.made ∙ ap (λ (ids : List ℕ). ids ++ m.gained) k.made ∙ append_assoc u.store.made k.gained m.gained;
}

-- where the answered id stands for a table, the store stays good
pub interned_good : (k : KindName) (v : View) (w : StoreView) (body : List ℕ) (result : Result ℕ StoreFull) → IsGood k v → Interns v.store w body result →
    ((id : ℕ) → result ≡ Ok id → (t : Table) × (root : Weights) × StandsFor k (find_in w) v.letters 0 t root id) → IsGood k (record { store = w; letters = v.letters })
interned_good k v w body result good interns stands = record {
  allowed = good.allowed;
  store = record {
    no_zero = still_no_zero v.store w body result interns good.store.no_zero;
    distinct = λ i j b h g. one_id i j b h g (interns.at_most i b h) (interns.at_most j b g);
    good = λ i b h. some_table i b (interns.at_most i b h);
  };
}
  where
    found : (i : ℕ) → result ≡ Ok i → find_in w i ≡ Some body
    found i is = (answered_id v.store w body result i interns is).found

    old_and_new : (i j : ℕ) (b : List ℕ) → find_in v.store i ≡ Some b → find_in w j ≡ Some b → result ≡ Ok j → i ≡ j
    old_and_new i j b was known is =
        let same : b ≡ body = same_Some _ _ (sym known ∙ found j is) in
        let first : result ≡ Ok i = interns.known_id i (was ∙ ap Some same) in
        cc

    one_id : (i j : ℕ) (b : List ℕ) → find_in w i ≡ Some b → find_in w j ≡ Some b →
        (find_in v.store i ≡ Some b) ⊎ (result ≡ Ok i) → (find_in v.store j ≡ Some b) ⊎ (result ≡ Ok j) → i ≡ j
    one_id i j b h g (inl a) (inl c) = good.store.distinct i j b a c
    one_id i j b h g (inl a) (inr c) = old_and_new i j b a g c
    one_id i j b h g (inr a) (inl c) = sym (old_and_new j i b c h a)
    one_id i j b h g (inr a) (inr c) = cc

    some_table : (i : ℕ) (b : List ℕ) → (find_in v.store i ≡ Some b) ⊎ (result ≡ Ok i) → (t : Table) × (root : Weights) × StandsFor k (find_in w) v.letters 0 t root i
    some_table i b (inl was) =
        let s = good.store.good i b was in
        (s.0, s.1, StandsFor-extends k (find_in v.store) (find_in w) v.letters 0 s.0 s.1 i interns.stays s.2)
    some_table i b (inr is) = stands i is

-- there are marks for all nodes after a body came in
pub interned_marks : (v w : StoreView) (body : List ℕ) (result : Result ℕ StoreFull) (marks : List Bool) → Interns v w body result → HasMarks v marks → HasMarks w marks
interned_marks v w body result marks interns has = record {
  within = λ id b known. ⊎_elim
      (λ before. subst (λ (n : ℕ). id ≤ n) (sym interns.room) (has.within id b before))
      (λ is. (answered_id v w body result id interns is).within)
      (interns.at_most id b known);
  room = subst (λ (n : ℕ). n ≤ length marks) (sym interns.room) has.room;
}
