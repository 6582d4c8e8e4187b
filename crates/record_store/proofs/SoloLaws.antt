-- A `SoloStore` as a store: its ids, and what a call of `intern` does.
use Rattle.std.proofs.Common.{◌≡◌, ℕ, zero, suc, ◌+◌, ◌-◌, ◌<◌, ◌≤◌, List, [], ◌∷◌, ◌++◌, length, get_or, slice_get, Some, None, Ok, Err, false, nat_eq, is_eq, refl, sym, ap, ◌∙◌, inl, inr, ⊎_elim, arith}
use Rattle.std.proofs.lemmas.Bool.{cond-true, cond-false, false≢true, ne_eqb}
use Rattle.std.proofs.lemmas.Bool.Decides.{Decides-eqb}
use Rattle.std.proofs.lemmas.List.{length_push, map-id}
use Rattle.std.proofs.lemmas.List.FromFn.{length-range_with_len, get_or-range_with_len, map-range_with_len_more}
use Rattle.std.proofs.lemmas.Option.{none-some, slice_get_within, slice_get-get_or}
use Rattle.std.specs.Cmp.{nat_cmp_total, nat_cmp_is}
use Rattle.std.specs.FinMap.{find, get-from_entries}
use Rattle.std.specs.List.{AllByRecursion, IsDistinct, enumerate_from, range_with_len}
use Rattle.std.specs.Ordering.{nat_cmp, eq_by_cmp}
use Rattle.std.specs.declared.cmp.Ordering.TheVariants.{Less, Equal, Greater}
use Rattle.record_store.specs.Interns.{Interns}
use Rattle.record_store.specs.Probe.{IsNew}
use Rattle.record_store.specs.Solo.{Solo, solo_view, IsSoloView}
use Rattle.record_store.specs.StoreView.{find_in, HasBody, IsKnown}
use Rattle.record_store.specs.declared.solo.TheConstants.{MAX_CELLS}
use Rattle.record_store.proofs.PushLaws.{slice_get_kept, slice_get_last, slice_get_push}

-- the entry under a number that the entries begin at or before
find_from : (n q : ℕ) (bodies : List (List ℕ)) → find nat_cmp (n + q) (enumerate_from n bodies) ≡ slice_get bodies q
find_from n q [] = refl
find_from n zero (body ∷ bodies) =
    let here : n + 0 ≡ n = omega arith in
    cond-true (eq_by_cmp nat_cmp (n + 0) n) (Some body) (find nat_cmp (n + 0) (enumerate_from (n + 1) bodies)) (ap is_eq (sym (nat_cmp_is (n + 0) n Equal here)))
find_from n (suc q) (body ∷ bodies) =
    let above : n < n + suc q = omega arith in
    let next : n + suc q ≡ (n + 1) + q = omega arith in
    cond-false (eq_by_cmp nat_cmp (n + suc q) n) (Some body) (find nat_cmp (n + suc q) (enumerate_from (n + 1) bodies)) (ap is_eq (sym (nat_cmp_is (n + suc q) n Greater above)))
    ∙ ap (λ id. find nat_cmp id (enumerate_from (n + 1) bodies)) next
    ∙ find_from (n + 1) q bodies

find_before : (n q : ℕ) (bodies : List (List ℕ)) → q < n → find nat_cmp q (enumerate_from n bodies) ≡ None
find_before n q [] below = refl
find_before n q (body ∷ bodies) below =
    cond-false (eq_by_cmp nat_cmp q n) (Some body) (find nat_cmp q (enumerate_from (n + 1) bodies)) (ap is_eq (sym (nat_cmp_is q n Less below)))
    ∙ find_before (n + 1) q bodies (omega arith)

-- the body under an id is that at the place before it
pub at_place : (s : Solo) (k : ℕ) → find_in (solo_view s) (k + 1) ≡ slice_get s.bodies k
at_place s k =
    let entries = enumerate_from 1 s.bodies in
    get-from_entries nat_cmp_total entries (k + 1) ∙ ap (λ id. find nat_cmp id entries) (omega arith) ∙ find_from 1 k s.bodies

none_at_zero : (s : Solo) → find_in (solo_view s) 0 ≡ None
none_at_zero s = get-from_entries nat_cmp_total (enumerate_from 1 s.bodies) 0 ∙ find_before 1 0 s.bodies (omega arith)

pub place_of : (s : Solo) (id : ℕ) (body : List ℕ) → find_in (solo_view s) id ≡ Some body → (k : ℕ) × (id ≡ k + 1) × (slice_get s.bodies k ≡ Some body)
place_of s zero body e = absurd (none-some body (sym (none_at_zero s) ∙ e))
place_of s (suc k) body e =
    let next : k + 1 ≡ suc k = omega arith in
    (k, omega arith, sym (at_place s k) ∙ ap (find_in (solo_view s)) next ∙ e)

pub has_at : (s : Solo) (k : ℕ) (body : List ℕ) → slice_get s.bodies k ≡ Some body → HasBody (solo_view s) body
has_at s k body is = (k + 1, at_place s k ∙ is)

pub has_new : (s : Solo) (body : List ℕ) → IsNew s.bodies body → HasBody (solo_view s) body → ⊥
has_new s body new known = let place = place_of s known.0 body known.1 in new place.0 place.2

-- the three answers of `intern`
pub interns_known : (s : Solo) (body : List ℕ) (id : ℕ) → ((i j : ℕ) (b : List ℕ) → slice_get s.bodies i ≡ Some b → slice_get s.bodies j ≡ Some b → i ≡ j) → length s.bodies ≤ s.cells → 0 < id → slice_get s.bodies (id - 1) ≡ Some body → Interns (solo_view s) (solo_view s) body (Ok id)
interns_known s body id distinct within some is =
    let next : (id - 1) + 1 ≡ id = omega arith in
    let here : id - 1 < length s.bodies = slice_get_within s.bodies (id - 1) body is in
    record {
      room = refl;
      stamp = refl;
      stays = λ other b e. e;
      answers = (sym (ap (find_in (solo_view s)) next) ∙ at_place s (id - 1) ∙ is, some, omega arith);
      known_id = λ other e.
          let place = place_of s other body e in
          ap Ok (sym (place.1 ∙ ap (λ k. k + 1) (distinct place.0 (id - 1) body place.2 is) ∙ next));
      at_most = λ other b e. inl e;
      made = inl refl;
      full = λ never. absurd (false≢true never);
    }

pub interns_full : (s : Solo) (body : List ℕ) → IsNew s.bodies body → length s.bodies ≡ s.cells → Interns (solo_view s) (solo_view s) body (Err (record {}))
interns_full s body new full =
    record {
      room = refl;
      stamp = refl;
      stays = λ other b e. e;
      answers = tt;
      known_id = λ other e. absurd (has_new s body new (other, e));
      at_most = λ other b e. inl e;
      made = inl refl;
      full = λ _. ((Decides-eqb (length s.bodies) s.cells).1 full, has_new s body new, refl, refl);
    }

range_push : (a n : ℕ) → range_with_len a (n + 1) ≡ range_with_len a n ++ (a + n) ∷ []
range_push a n =
    sym (map-id (range_with_len a (n + 1)))
    ∙ map-range_with_len_more (λ id. id) a n (a + n) refl
    ∙ ap (λ ids. ids ++ (a + n) ∷ []) (map-id (range_with_len a n))

pub interns_new : (s : Solo) (body : List ℕ) → IsNew s.bodies body → length s.bodies < s.cells → Interns (solo_view s) (solo_view (record { bodies = s.bodies ++ body ∷ []; cells = s.cells })) body (Ok (length s.bodies + 1))
interns_new s body new within =
    let n : ℕ = length s.bodies in
    let after : Solo = record { bodies = s.bodies ++ body ∷ []; cells = s.cells } in
    record {
      room = refl;
      stamp = refl;
      stays = λ id b e.
          let place = place_of s id b e in
          ap (find_in (solo_view after)) place.1 ∙ at_place after place.0 ∙ slice_get_kept s.bodies body place.0 b place.2;
      answers = (at_place after n ∙ slice_get_last s.bodies body, omega arith, omega arith);
      known_id = λ id e. absurd (has_new s body new (id, e));
      at_most = λ id b e.
          let place = place_of after id b e in
          ⊎_elim
          (λ (old : slice_get s.bodies place.0 ≡ Some b). inl (ap (find_in (solo_view s)) place.1 ∙ at_place s place.0 ∙ old))
          (λ (last : (place.0 ≡ n) × (body ≡ b)). inr (ap Ok (sym (place.1 ∙ ap (λ k. k + 1) last.0))))
          (slice_get_push s.bodies body place.0 b place.2);
      made = inr (
        n + 1,
        refl,
        λ known. let place = place_of s (n + 1) known.0 known.1 in let here : place.0 < n = slice_get_within s.bodies place.0 known.0 place.2 in absurd (omega (arith, place.1)),
        ap (range_with_len 1) (length_push s.bodies body) ∙ range_push 1 n ∙ ap (λ id. range_with_len 1 n ++ id ∷ []) (omega arith),
      );
      full = λ never. absurd (false≢true never);
    }

module _ where
  above_all : (a b n : ℕ) → a < b → AllByRecursion (λ y. nat_eq a y ≡ false) (range_with_len b n)
  above_all a b zero below = tt
  above_all a b (suc n) below = (ne_eqb a b (λ same. absurd (omega arith)), above_all a (b + 1) n (omega arith))

  distinct_range : (a n : ℕ) → IsDistinct nat_eq (range_with_len a n)
  unfolding IsDistinct
  distinct_range a zero = tt
  distinct_range a (suc n) = (above_all a (a + 1) n (omega arith), distinct_range (a + 1) n)

-- what each `SoloStore` is as a store
pub is_solo_view : (s : Solo) → ((i j : ℕ) (b : List ℕ) → slice_get s.bodies i ≡ Some b → slice_get s.bodies j ≡ Some b → i ≡ j) → length s.bodies ≤ s.cells → 0 < s.cells → s.cells ≤ MAX_CELLS → IsSoloView (solo_view s) (length s.bodies)
is_solo_view s distinct within some few =
    let n : ℕ = length s.bodies in
    let in_range : (id : ℕ) → IsKnown (solo_view s) id → (0 < id) × (id ≤ n) = λ id known.
    let place = place_of s id known.0 known.1 in
    let here : place.0 < n = slice_get_within s.bodies place.0 known.0 place.2 in
    (omega (arith, place.1), omega (arith, place.1))
    in
    record {
      made = refl;
      known = λ id. (
        in_range id,
        λ within.
            let next : (id - 1) + 1 ≡ id = omega arith in
            (get_or s.bodies (id - 1) [], sym (ap (find_in (solo_view s)) next) ∙ at_place s (id - 1) ∙ slice_get-get_or s.bodies (id - 1) [] (omega arith)),
      );
      made_all = λ id known.
          let range = in_range id known in
          (id - 1, omega (arith, length-range_with_len 1 n), get_or-range_with_len 1 n (id - 1) id (omega arith) ∙ omega arith);
      made_once = distinct_range 1 n;
      distinct = λ i j body at_i at_j.
          let place_i = place_of s i body at_i in
          let place_j = place_of s j body at_j in
          place_i.1 ∙ ap (λ k. k + 1) (distinct place_i.0 place_j.0 body place_i.2 place_j.2) ∙ sym place_j.1;
      spent = Decides-eqb n s.cells;
      within = within;
      some_room = some;
      room = few;
      stamp = refl;
    }
