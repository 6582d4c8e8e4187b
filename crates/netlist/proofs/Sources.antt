-- Where names are found.
use Rattle.std.specs.Prelude.{◌≡◌, ℕ, suc, ◌+◌, ◌<◌, ◌⊎◌, Bool, true, false, ◌||◌, List, [], ◌∷◌, ◌++◌, length, Option, Some, None, slice_get, is_some, refl}
use Rattle.std.specs.List.{list_any, position_or_len, IsDistinct}
use Rattle.std.specs.Str.{bytes_eq}
use Rattle.std.proofs.Common.{sym, ◌∙◌, ap, get_or, length-append, subst, inl, inr, ⊎_elim, arith}
use Rattle.std.proofs.lemmas.Bool.{cases_Bool, both_ways, cases_lt, cond-true, cond-false, false_from_ne_true, lt-ltb}
use Rattle.std.proofs.lemmas.List.{length_push, get_or_append_left, get_or_push, get_or-append-add}
use Rattle.std.proofs.lemmas.List.Folds.{list_any-append}
use Rattle.std.proofs.lemmas.Map.Keys.{any_passes_from_place}
use Rattle.std.proofs.lemmas.Option.{slice_get_within, slice_get-get_or, get_or_from_slice_get}
use Rattle.std.proofs.lemmas.Slice.Eq.{bytes_eq-Decides}
use Rattle.std.proofs.lemmas.List.Sums.{position_or_len_is}
use Rattle.std.proofs.lemmas.List.Quantifiers.{position-Some}
use Rattle.std.proofs.lemmas.Map.Keys.{apart_from_distinct}
use Rattle.std.specs.Option.{option_map}
use Rattle.circuits.specs.Names.{place_of}
use Rattle.netlist.specs.Inside.Source.{name_at, source_net, FindsNames, FindsOneMore}
use Rattle.netlist.specs.declared.source.Source.{Source}
use Rattle.netlist.specs.declared.source.Source.TheVariants.{Input, Gate}

pub same-from_bytes_eq : (xs ys : List ℕ) → bytes_eq xs ys ≡ true → xs ≡ ys
same-from_bytes_eq xs ys h = (bytes_eq-Decides xs ys).0 h

pub bytes_eq-self : (xs : List ℕ) → bytes_eq xs xs ≡ true
bytes_eq-self xs = (bytes_eq-Decides xs xs).1 refl

pub bytes_eq-flips : (xs ys : List ℕ) → bytes_eq xs ys ≡ bytes_eq ys xs
bytes_eq-flips xs ys = ⊎_elim
    (λ same. let e : xs ≡ ys = same-from_bytes_eq xs ys same in same ∙ sym (subst (λ zs. bytes_eq zs xs ≡ true) e (bytes_eq-self xs)))
    (λ apart. apart ∙ sym (false_from_ne_true (bytes_eq ys xs) (λ same. let e : ys ≡ xs = same-from_bytes_eq ys xs same in both_ways (bytes_eq xs ys) apart (subst (λ zs. bytes_eq zs ys ≡ true) e (bytes_eq-self ys)))))
    (cases_Bool (bytes_eq xs ys))

-- one more at the end of a list
pub slice_get_push : {X : Type 0} (xs : List X) (y : X) → slice_get (xs ++ y ∷ []) (length xs) ≡ Some y
slice_get_push xs y = slice_get-get_or (xs ++ y ∷ []) (length xs) y (omega (arith, length_push xs y)) ∙ ap Some (get_or_push xs y y (length xs) refl)

pub slice_get_left : {X : Type 0} (xs : List X) (y : X) (i : ℕ) (x : X) → slice_get xs i ≡ Some x → slice_get (xs ++ y ∷ []) i ≡ Some x
slice_get_left xs y i x at =
    let within : i < length xs = slice_get_within xs i x at in
    slice_get-get_or (xs ++ y ∷ []) i x (omega (arith, length_push xs y)) ∙ ap Some (get_or_append_left xs (y ∷ []) x i within ∙ get_or_from_slice_get xs i x x at)

pub slice_get_push_cases : {X : Type 0} (xs : List X) (y : X) (i : ℕ) (x : X) → slice_get (xs ++ y ∷ []) i ≡ Some x → (slice_get xs i ≡ Some x) ⊎ ((i ≡ length xs) × (x ≡ y))
slice_get_push_cases xs y i x at =
    let within : i < length (xs ++ y ∷ []) = slice_get_within (xs ++ y ∷ []) i x at in
    ⊎_elim
    (λ low. inl (slice_get-get_or xs i x low ∙ ap Some (sym (get_or_append_left xs (y ∷ []) x i low) ∙ get_or_from_slice_get (xs ++ y ∷ []) i x x at)))
    (λ high.
    let last : i ≡ length xs = omega (arith, length_push xs y) in
    inr (last, sym (get_or_from_slice_get (xs ++ y ∷ []) i x x at) ∙ get_or_push xs y x i (sym last)))
    (cases_lt i (length xs))

-- what is found after one name more
found_other : (before after : List ℕ → Option Source) (name : List ℕ) (source : Source) → FindsOneMore before name source after → (other : List ℕ) → bytes_eq name other ≡ false → after other ≡ before other
found_other before after name source more other new = more other ∙ cond-false (bytes_eq name other) (Some source) (before other) new

found_same : (before after : List ℕ → Option Source) (name : List ℕ) (source : Source) → FindsOneMore before name source after → (other : List ℕ) → bytes_eq name other ≡ true → after other ≡ Some source
found_same before after name source more other same = more other ∙ cond-true (bytes_eq name other) (Some source) (before other) same

-- a name that is found is no new one
apart : (before : List ℕ → Option Source) (name other : List ℕ) (source : Source) → before name ≡ None → before other ≡ Some source → bytes_eq name other ≡ false
apart before name other source none found = ⊎_elim
    (λ same. let e : name ≡ other = same-from_bytes_eq name other same in absurd cc)
    (λ new. new)
    (cases_Bool (bytes_eq name other))

-- one name more, at a source that had none and is given it now, keeps the look-up right
module _ (inputs gates inputs' gates' : List (List ℕ)) (found found' : List ℕ → Option Source) (name : List ℕ) (new : Source)
    (finds : FindsNames inputs gates found) (none : found name ≡ None) (more : FindsOneMore found name new found')
    (given : name_at inputs' gates' new ≡ Some name)
    (keeps : (source : Source) (other : List ℕ) → name_at inputs gates source ≡ Some other → name_at inputs' gates' source ≡ Some other)
    (adds : (source : Source) (other : List ℕ) → name_at inputs' gates' source ≡ Some other → (name_at inputs gates source ≡ Some other) ⊎ ((source ≡ new) × (other ≡ name))) where
  named : (other : List ℕ) (source : Source) → found' other ≡ Some source → name_at inputs' gates' source ≡ Some other
  named other source found_there = ⊎_elim
      (λ same.
      let is : Some new ≡ Some source = sym (found_same found found' name new more other same) ∙ found_there in
      let e : new ≡ source = cc in
      let f : name ≡ other = same-from_bytes_eq name other same in
      subst (λ s. name_at inputs' gates' s ≡ Some other) e (given ∙ ap Some f))
      (λ old. keeps source other ((finds other source).0 (sym (found_other found found' name new more other old) ∙ found_there)))
      (cases_Bool (bytes_eq name other))

  found_there : (other : List ℕ) (source : Source) → name_at inputs' gates' source ≡ Some other → found' other ≡ Some source
  found_there other source at = ⊎_elim
      (λ old.
      let before : found other ≡ Some source = (finds other source).1 old in
      found_other found found' name new more other (apart found name other source none before) ∙ before)
      (λ is. found_same found found' name new more other (subst (λ o. bytes_eq name o ≡ true) (sym is.1) (bytes_eq-self name)) ∙ ap Some (sym is.0))
      (adds source other at)

  finds_more : FindsNames inputs' gates' found'
  finds_more other source = (named other source, found_there other source)

pub FindsNames-input : (inputs gates : List (List ℕ)) (found found' : List ℕ → Option Source) (name : List ℕ) → FindsNames inputs gates found → found name ≡ None → FindsOneMore found name (Input (length inputs)) found' → FindsNames (inputs ++ name ∷ []) gates found'
FindsNames-input inputs gates found found' name finds none more =
    finds_more inputs gates (inputs ++ name ∷ []) gates found found' name (Input (length inputs)) finds none more (slice_get_push inputs name) keeps adds
  where
    keeps : (source : Source) (other : List ℕ) → name_at inputs gates source ≡ Some other → name_at (inputs ++ name ∷ []) gates source ≡ Some other
    keeps (Input i) other at = slice_get_left inputs name i other at
    keeps (Gate i) other at = at

    adds : (source : Source) (other : List ℕ) → name_at (inputs ++ name ∷ []) gates source ≡ Some other → (name_at inputs gates source ≡ Some other) ⊎ ((source ≡ Input (length inputs)) × (other ≡ name))
    adds (Input i) other at = ⊎_elim (λ old. inl old) (λ is. inr (ap Input is.0, is.1)) (slice_get_push_cases inputs name i other at)
    adds (Gate i) other at = inl at

pub FindsNames-gate : (inputs gates : List (List ℕ)) (found found' : List ℕ → Option Source) (name : List ℕ) → FindsNames inputs gates found → found name ≡ None → FindsOneMore found name (Gate (length gates)) found' → FindsNames inputs (gates ++ name ∷ []) found'
FindsNames-gate inputs gates found found' name finds none more =
    finds_more inputs gates inputs (gates ++ name ∷ []) found found' name (Gate (length gates)) finds none more (slice_get_push gates name) keeps adds
  where
    keeps : (source : Source) (other : List ℕ) → name_at inputs gates source ≡ Some other → name_at inputs (gates ++ name ∷ []) source ≡ Some other
    keeps (Input i) other at = at
    keeps (Gate i) other at = slice_get_left gates name i other at

    adds : (source : Source) (other : List ℕ) → name_at inputs (gates ++ name ∷ []) source ≡ Some other → (name_at inputs gates source ≡ Some other) ⊎ ((source ≡ Gate (length gates)) × (other ≡ name))
    adds (Input i) other at = inl at
    adds (Gate i) other at = ⊎_elim (λ old. inl old) (λ is. inr (ap Gate is.0, is.1)) (slice_get_push_cases gates name i other at)

-- a list that has the name passes the test
any-from_place : (names : List (List ℕ)) (i : ℕ) (name : List ℕ) → slice_get names i ≡ Some name → list_any (bytes_eq name) names ≡ true
any-from_place names i name at = any_passes_from_place (bytes_eq name) names i name at (bytes_eq-self name)

place-from_any : (names : List (List ℕ)) (name : List ℕ) → list_any (bytes_eq name) names ≡ true → (i : ℕ) × (slice_get names i ≡ Some name)
place-from_any [] name any = absurd cc
place-from_any (other ∷ names) name any = ⊎_elim
    (λ same. let e : name ≡ other = same-from_bytes_eq name other same in (0, slice_get-get_or (other ∷ names) 0 other (omega arith) ∙ ap Some (sym e)))
    (λ new.
    let there : (i : ℕ) × (slice_get names i ≡ Some name) = place-from_any names name (sym (ap (λ b. b || list_any (bytes_eq name) names) new) ∙ any) in
    (suc there.0, there.1))
    (cases_Bool (bytes_eq name other))

module _ (inputs gates : List (List ℕ)) (found : List ℕ → Option Source) (finds : FindsNames inputs gates found) (name : List ℕ) where
  given_if_found : (source : Source) → name_at inputs gates source ≡ Some name → list_any (bytes_eq name) (inputs ++ gates) ≡ true
  given_if_found (Input i) at = list_any-append (bytes_eq name) inputs gates ∙ ap (λ b. b || list_any (bytes_eq name) gates) (any-from_place inputs i name at)
  given_if_found (Gate i) at = list_any-append (bytes_eq name) inputs gates ∙ (ap (λ b. list_any (bytes_eq name) inputs || b) (any-from_place gates i name at) ∙ or_true (list_any (bytes_eq name) inputs))
    where
      or_true : (b : Bool) → (b || true) ≡ true
      or_true true = refl
      or_true false = refl

  by_cases : (o : Option Source) → found name ≡ o → is_some o ≡ list_any (bytes_eq name) (inputs ++ gates)
  by_cases (Some source) is = sym (given_if_found source ((finds name source).0 is))
  by_cases None is = ⊎_elim (λ any. absurd (never any)) (λ none. sym none) (cases_Bool (list_any (bytes_eq name) (inputs ++ gates)))
    where
      at_source : (source : Source) → name_at inputs gates source ≡ Some name → ⊥
      at_source source at = let e : found name ≡ Some source = (finds name source).1 at in cc

      never : list_any (bytes_eq name) (inputs ++ gates) ≡ true → ⊥
      never any = ⊎_elim
          (λ low. let there = place-from_any inputs name low in at_source (Input there.0) there.1)
          (λ high.
          let low : list_any (bytes_eq name) gates ≡ true = sym (ap (λ b. b || list_any (bytes_eq name) gates) high) ∙ (sym (list_any-append (bytes_eq name) inputs gates) ∙ any) in
          let there = place-from_any gates name low in
          at_source (Gate there.0) there.1)
          (cases_Bool (list_any (bytes_eq name) inputs))

  -- a name is found exactly where it is among the names
  pub is_some-found : is_some (found name) ≡ list_any (bytes_eq name) (inputs ++ gates)
  is_some-found = by_cases (found name) refl

-- the place of a name that stands once
pub place_of-at : (names : List (List ℕ)) (i : ℕ) (name : List ℕ) → IsDistinct bytes_eq names → slice_get names i ≡ Some name → place_of names name ≡ Some i
place_of-at names i name distinct at =
    let within : i < length names = slice_get_within names i name at in
    let here : get_or names i [] ≡ name = get_or_from_slice_get names i name [] at in
    let first : position_or_len (bytes_eq name) names ≡ i = position_or_len_is (bytes_eq name) names i [] (omega arith)
    (λ k low. bytes_eq-flips name (get_or names k []) ∙ subst (λ n. bytes_eq (get_or names k []) n ≡ false) here (apart_from_distinct bytes_eq names k i [] distinct low within))
    (λ low. rw here (bytes_eq-self name))
    in
    rw (first, lt-ltb i (length names) within) refl

pub place_of-none : (names : List (List ℕ)) (name : List ℕ) → list_any (bytes_eq name) names ≡ false → place_of names name ≡ None
place_of-none names name none = by_cases' (place_of names name) refl
  where
    by_cases' : (o : Option ℕ) → place_of names name ≡ o → place_of names name ≡ None
    by_cases' None e = e
    by_cases' (Some i) e =
        let at = position-Some (bytes_eq name) names i [] e in
        absurd (both_ways _ none (any_passes_from_place (bytes_eq name) names i (get_or names i []) (slice_get-get_or names i [] at.0) at.1))

slice_get-left : {X : Type 0} (xs ys : List X) (i : ℕ) (x : X) → slice_get xs i ≡ Some x → slice_get (xs ++ ys) i ≡ Some x
slice_get-left xs ys i x at =
    let within : i < length xs = slice_get_within xs i x at in
    slice_get-get_or (xs ++ ys) i x (omega (arith, within, length-append xs ys)) ∙ ap Some (get_or_append_left xs ys x i within ∙ get_or_from_slice_get xs i x x at)

slice_get-right : {X : Type 0} (xs ys : List X) (i : ℕ) (x : X) → slice_get ys i ≡ Some x → slice_get (xs ++ ys) (length xs + i) ≡ Some x
slice_get-right xs ys i x at =
    let within : i < length ys = slice_get_within ys i x at in
    slice_get-get_or (xs ++ ys) (length xs + i) x (omega (arith, within, length-append xs ys)) ∙ ap Some (get_or-append-add xs ys i x ∙ get_or_from_slice_get ys i x x at)

module _ (inputs gates : List (List ℕ)) (found : List ℕ → Option Source) (finds : FindsNames inputs gates found) (distinct : IsDistinct bytes_eq (inputs ++ gates)) (name : List ℕ) where
  at_source : (source : Source) → name_at inputs gates source ≡ Some name → place_of (inputs ++ gates) name ≡ Some (source_net (length inputs) source)
  at_source (Input i) at = place_of-at (inputs ++ gates) i name distinct (slice_get-left inputs gates i name at)
  at_source (Gate i) at = place_of-at (inputs ++ gates) (length inputs + i) name distinct (slice_get-right inputs gates i name at)

  -- the number of a name is that of its source
  pub place_of-found : (o : Option Source) → found name ≡ o → place_of (inputs ++ gates) name ≡ option_map (source_net (length inputs)) o
  place_of-found (Some source) is = at_source source ((finds name source).0 is)
  place_of-found None is = place_of-none (inputs ++ gates) name (sym (is_some-found inputs gates found finds name) ∙ ap is_some is)

  source-within : (source : Source) → name_at inputs gates source ≡ Some name → source_net (length inputs) source < length inputs + length gates
  source-within (Input i) at = let low : i < length inputs = slice_get_within inputs i name at in omega arith
  source-within (Gate i) at = let low : i < length gates = slice_get_within gates i name at in omega arith

  pub found-within : (source : Source) → found name ≡ Some source → source_net (length inputs) source < length inputs + length gates
  found-within source is = source-within source ((finds name source).0 is)
