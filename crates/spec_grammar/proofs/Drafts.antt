-- What earlier lines say is good, and stays good with one line more.
use Rattle.std.proofs.Common.{◌≡◌, ℕ, suc, ◌+◌, ◌<◌, ◌≤◌, ◌==◌, Bool, true, false, ◌||◌, ◌&&◌, cond, List, [], ◌∷◌, length, map, find, take, drop, All, Option, Some, None, Ok, unwrap_or, is_some, nat_le, nat_lt, refl, sym, ap, subst, ◌∙◌, arith, get_or, min, codes}
use Rattle.std.specs.List.{list_any, range_with_len, position_or_len, before_first, after_first}
use Rattle.std.specs.Option.{option_map_or}
use Rattle.std.specs.Str.{bytes_eq}
use Rattle.std.proofs.lemmas.Bool.{or_parts, leb-false, ltb-false, not-false}
use Rattle.std.proofs.lemmas.List.{length_push, length-map, length-drop, length-take, take-append-drop}
use Rattle.std.proofs.lemmas.List.Elements.{All-nil, All-cons, All-append, All-push}
use Rattle.std.proofs.lemmas.List.Folds.{list_any-append}
use Rattle.std.proofs.lemmas.List.FromFn.{length-range_with_len}
use Rattle.circuits.specs.Circuit.{Circuit, input_count, net_count}
use Rattle.circuits.specs.Limits.{is_long}
use Rattle.spec_grammar.specs.declared.fault.SpecCause.{SpecCause}
use Rattle.spec_grammar.specs.declared.fault.SpecCause.TheVariants.{BadLine, UnknownNet, UnknownWord, DuplicateWord, BadOrder, BadSplit, SplitNotForKind, NumberTooLarge, TooLarge}
use Rattle.spec_grammar.specs.Fields.{fields, keyword, behind_keyword}
use Rattle.spec_grammar.specs.Faults.{Draft, empty_draft, numbers, with_form, has_no_form, is_too_large, has_great_number, is_duplicate, has_unknown_net, has_unknown_word, is_unknown_name, is_bad_order, is_no_order, is_bad_split, is_not_for_kind, first_cause, form_fault, line_fault, has_long_name}
use Rattle.spec_grammar.specs.Forms.{Form, empty_line, order_line, split_line, word_line, check_line, no_form, are_nets, order_form, split_with, split_form, word_form, is_equality, check_of, is_equals_sign, form_behind, form_of}
use Rattle.spec_grammar.specs.Names.{letter, is_word_name}
use Rattle.spec_grammar.specs.Parsing.{parsed}
use Rattle.spec_grammar.specs.Reading.{chosen_order, chosen_letter, specified, at_end, unless, reading_from}
use Rattle.spec_grammar.specs.ReadFor.{IsReadFor, ReadingIsWellFormed}
use Rattle.spec_grammar.specs.Symbols.{Symbol, symbols}
use Rattle.spec_grammar.specs.Trees.{Tree, numeral, named, negated, enclosed, added, subtracted, multiplied, formula, nesting}
use Rattle.spec_grammar.specs.declared.limits.TheConstants.{MOST_NESTING}
use Rattle.spec_grammar.proofs.Good.{size-formula, names-formula, numbers_within, length-numbers}
use Rattle.spec_grammar.specs.GoodDraft.{ListsInputs, IsGoodOrder, IsGood}
use Rattle.spec_grammar.proofs.Orders.{lists_inputs}
use Rattle.spec_grammar.proofs.Sound.{parsed_is_written}
use Rattle.spec_lang.proofs.Orders.{range_is_order}
use Rattle.spec_lang.specs.Named.{namings}
use Rattle.spec_lang.specs.Size.{size, check_size}
use Rattle.spec_lang.specs.Specification.{Word, Check, Specification, named_word}
use Rattle.spec_lang.specs.WellFormed.{IsSizedWord, NamesWords}
use Rattle.spec_lang.specs.declared.limits.TheConstants.{MOST_WORDS, MOST_CHECKS, MOST_NETS_OF_WORD, MOST_SYMBOLS}
use Rattle.texts.specs.Lines.{lines, uncommented}
use Rattle.word_base.specs.Kind.{is_allowed, usual_letter}
use Rattle.word_base.specs.declared.decomp.Decomp.{Decomp}
use Rattle.word_base.specs.declared.kind_name.KindName.{KindName}
use Rattle.word_base.specs.declared.kind_name.KindName.TheVariants.{Evbdd, StarBmd, Hdd, KStarBmd}

-- ---- the form of a line

-- a word has nets, and the sides of a check are parsed
abbrev pub IsFormed : Form → Type 0
IsFormed (word_line text nets) = 0 < length nets
IsFormed (check_line line left right) = (parsed (before_first is_equality line) ≡ Some left) × (parsed (after_first is_equality line) ≡ Some right)
IsFormed _ = Unit {0}

either_formed : (b : Bool) (f g : Form) → IsFormed f → IsFormed g → IsFormed (cond b f g)
either_formed true f g h k = h
either_formed false f g h k = k

order_formed : (nets : List (List ℕ)) → IsFormed (order_form nets)
order_formed [] = tt
order_formed (net ∷ more) = either_formed (are_nets (net ∷ more)) (order_line (net ∷ more)) no_form tt tt

split_with_formed : (o : Option Decomp) (nets : List (List ℕ)) → IsFormed (split_with o nets)
split_with_formed None nets = tt
split_with_formed (Some l) nets = either_formed (are_nets nets) (split_line l nets) no_form tt tt

split_formed : (texts : List (List ℕ)) → IsFormed (split_form texts)
split_formed [] = tt
split_formed (text ∷ []) = tt
split_formed (text ∷ net ∷ more) = split_with_formed (letter text) (net ∷ more)

word_formed : (names nets : List (List ℕ)) → IsFormed (word_form names nets)
word_formed [] nets = tt
word_formed (text ∷ []) [] = tt
word_formed (text ∷ []) (net ∷ more) = either_formed (is_word_name text && are_nets (net ∷ more)) (word_line text (net ∷ more)) no_form (omega arith) tt
word_formed (text ∷ other ∷ names) [] = tt
word_formed (text ∷ other ∷ names) (net ∷ more) = tt

check_formed : (line : List Symbol) (left right : Option Tree) → parsed (before_first is_equality line) ≡ left → parsed (after_first is_equality line) ≡ right → IsFormed (check_of line left right)
check_formed line None None l r = tt
check_formed line None (Some b) l r = tt
check_formed line (Some a) None l r = tt
check_formed line (Some a) (Some b) l r = (l, r)

behind_formed : (word rest : List ℕ) → IsFormed (form_behind word rest)
behind_formed [] rest = tt
behind_formed (b ∷ more) rest =
    either_formed (bytes_eq (b ∷ more) (codes "order")) _ _ (order_formed (fields rest))
    (either_formed (bytes_eq (b ∷ more) (codes "split")) _ _ (split_formed (fields rest))
    (either_formed (bytes_eq (b ∷ more) (codes "word")) _ _ (word_formed (fields (before_first is_equals_sign rest)) (fields (after_first is_equals_sign rest)))
    (either_formed (bytes_eq (b ∷ more) (codes "check")) _ _ (check_formed (symbols rest) _ _ refl refl) tt)))

formed : (line : List ℕ) → IsFormed (form_of line)
formed line = behind_formed (keyword (uncommented line)) (behind_keyword (uncommented line))

-- ---- a line without a fault

pub record IsFaultless (c : Circuit) (k : KindName) (d : Draft) (f : Form) : Type 0 where
  pub size : is_too_large d f ≡ false
  pub nets : has_unknown_net c f ≡ false
  pub words : has_unknown_word d f ≡ false
  pub order : is_bad_order c d f ≡ false
  pub kind : is_not_for_kind k f ≡ false

record AreFalse (size nets words order kind : Bool) : Type 0 where
  first : size ≡ false
  second : nets ≡ false
  third : words ≡ false
  fourth : order ≡ false
  fifth : kind ≡ false

none_holds : (b1 b2 b3 b4 b5 b6 b7 b8 b9 : Bool)
    → first_cause ((b1, BadLine) ∷ (b2, TooLarge) ∷ (b3, NumberTooLarge) ∷ (b4, DuplicateWord) ∷ (b5, UnknownNet) ∷ (b6, UnknownWord) ∷ (b7, BadOrder) ∷ (b8, BadSplit) ∷ (b9, SplitNotForKind) ∷ []) ≡ None
    → AreFalse b2 b5 b6 b7 b9
none_holds true b2 b3 b4 b5 b6 b7 b8 b9 e = absurd (cc)
none_holds false true b3 b4 b5 b6 b7 b8 b9 e = absurd (cc)
none_holds false false true b4 b5 b6 b7 b8 b9 e = absurd (cc)
none_holds false false false true b5 b6 b7 b8 b9 e = absurd (cc)
none_holds false false false false true b6 b7 b8 b9 e = absurd (cc)
none_holds false false false false false true b7 b8 b9 e = absurd (cc)
none_holds false false false false false false true b8 b9 e = absurd (cc)
none_holds false false false false false false false true b9 e = absurd (cc)
none_holds false false false false false false false false true e = absurd (cc)
none_holds false false false false false false false false false e = record { first = refl; second = refl; third = refl; fourth = refl; fifth = refl }

faultless : (c : Circuit) (k : KindName) (d : Draft) (f : Form) → form_fault c k d f ≡ None → IsFaultless c k d f
faultless c k d f e =
    let all = none_holds (has_no_form f) (is_too_large d f) (has_great_number f) (is_duplicate d f) (has_unknown_net c f) (has_unknown_word d f) (is_bad_order c d f) (is_bad_split c d f) (is_not_for_kind k f) e in
    record { size = all.first; nets = all.second; words = all.third; order = all.fourth; kind = all.fifth }

-- ---- a check

none_before : (p : Symbol → Bool) (line : List Symbol) (n : ℕ) → list_any p line ≡ false → list_any p (take n line) ≡ false
none_before p line n e = (or_parts (list_any p (take n line)) (list_any p (drop n line)) (sym (list_any-append p (take n line) (drop n line)) ∙ ap (list_any p) (take-append-drop n line) ∙ e)).0

none_after : (p : Symbol → Bool) (line : List Symbol) (n : ℕ) → list_any p line ≡ false → list_any p (drop n line) ≡ false
none_after p line n e = (or_parts (list_any p (take n line)) (list_any p (drop n line)) (sym (list_any-append p (take n line) (drop n line)) ∙ ap (list_any p) (take-append-drop n line) ∙ e)).1

record IsGoodCheck (words : ℕ) (check : Check) : Type 0 where
  names : NamesWords words check
  few : check_size check ≤ MOST_SYMBOLS

some_size : (words : List Word) (a : Tree) → 0 < size (formula words a)
some_size words (numeral ds) = omega arith
some_size words (named a) = omega arith
some_size words (negated a) = omega arith
some_size words (enclosed a) = some_size words a
some_size words (added a b) = omega arith
some_size words (subtracted a b) = omega arith
some_size words (multiplied a b) = omega arith

check_is_good : (words : List Word) (line : List Symbol) (a b : Tree) → parsed (before_first is_equality line) ≡ Some a → parsed (after_first is_equality line) ≡ Some b → length line ≤ MOST_SYMBOLS → list_any (is_unknown_name words) line ≡ false
    → IsGoodCheck (length words) (record { left = formula words a; right = formula words b })
check_is_good words line a b left right few known =
    let n = position_or_len is_equality line in
    let l = parsed_is_written (before_first is_equality line) a left in
    let r = parsed_is_written (after_first is_equality line) b right in
    let left_size = size-formula words a in
    let right_size = size-formula words b in
    let left_length = ap length l.symbols ∙ length-take n line in
    let right_length = ap length r.symbols ∙ length-drop (n + 1) line in
    let some = some_size words b in
    let at_least : min n (length line) ≤ n = omega arith in
    record {
      names = record {
        left = names-formula words a (ap (list_any (is_unknown_name words)) l.symbols ∙ none_before (is_unknown_name words) line n known);
        right = names-formula words b (ap (list_any (is_unknown_name words)) r.symbols ∙ none_after (is_unknown_name words) line (n + 1) known);
      };
      few = omega arith;
    }

-- ---- what lines say

pub empty_is_good : (c : Circuit) (k : KindName) → IsGood c k empty_draft
empty_is_good c k = record {
  order = tt;
  letters = All-nil (λ (p : ℕ × Decomp). is_allowed k p.1 ≡ true);
  few_words = omega arith;
  each_word = All-nil IsSizedWord;
  nets = All-nil (λ w. All (λ net. net < net_count c) w.nets);
  few_checks = omega arith;
  each_check = All-nil (NamesWords 0);
  few_symbols = All-nil (λ check. check_size check ≤ MOST_SYMBOLS);
}

All-weaker : {X : Type 0} (P Q : X → Type 0) → ((x : X) → P x → Q x) → (xs : List X) → All P xs → All Q xs
All-weaker P Q h xs all = λ i d below. h (get_or xs i d) (all i d below)

All_of-map : {X Y : Type 0} (f : X → Y) (Q : Y → Type 0) → ((x : X) → Q (f x)) → (xs : List X) → All Q (map f xs)
All_of-map f Q h [] = All-nil Q
All_of-map f Q h (x ∷ xs) = All-cons Q (f x) (map f xs) (h x) (All_of-map f Q h xs)

more_words : (n : ℕ) (check : Check) → NamesWords n check → NamesWords (n + 1) check
more_words n check h = record {
  left = All-weaker (λ w. w < n) (λ w. w < n + 1) (λ w below. omega arith) (namings check.left) h.left;
  right = All-weaker (λ w. w < n) (λ w. w < n + 1) (λ w below. omega arith) (namings check.right) h.right;
}

good_with : (c : Circuit) (k : KindName) (d : Draft) (f : Form) → IsGood c k d → IsFormed f → IsFaultless c k d f → IsGood c k (with_form c d f)
good_with c k d empty_line g formed clean = g
good_with c k d no_form g formed clean = g
good_with c k d (order_line nets) g formed clean = record {
  order = lists_inputs (input_count c) (numbers c nets) (or_parts (is_some d.order) (is_no_order (input_count c) (numbers c nets)) clean.order).1;
  letters = g.letters;
  few_words = g.few_words;
  each_word = g.each_word;
  nets = g.nets;
  few_checks = g.few_checks;
  each_check = g.each_check;
  few_symbols = g.few_symbols;
}
good_with c k d (split_line l nets) g formed clean = record {
  order = g.order;
  letters =
      let P : ℕ × Decomp → Type 0 = λ p. is_allowed k p.1 ≡ true in
      All-append P d.letters (map (λ n. (n, l)) (numbers c nets)) g.letters (All_of-map (λ (n : ℕ). (n, l)) P (λ n. not-false (is_allowed k l) clean.kind) (numbers c nets));
  few_words = g.few_words;
  each_word = g.each_word;
  nets = g.nets;
  few_checks = g.few_checks;
  each_check = g.each_check;
  few_symbols = g.few_symbols;
}
good_with c k d (word_line text nets) g formed clean =
    let limits = or_parts (is_long text || list_any is_long nets || nat_lt MOST_NETS_OF_WORD (length nets)) (nat_le MOST_WORDS (length d.words)) clean.size in
    let len = length-numbers c nets clean.nets in
    let few = ltb-false MOST_NETS_OF_WORD (length nets) (or_parts (is_long text || list_any is_long nets) (nat_lt MOST_NETS_OF_WORD (length nets)) limits.0).1 in
    let room = leb-false MOST_WORDS (length d.words) limits.1 in
    let w = named_word text (numbers c nets) in
    let count = length_push d.words w in
    record {
      order = g.order;
      letters = g.letters;
      few_words = omega arith;
      each_word = All-push IsSizedWord d.words w g.each_word (record { some = omega arith; few = omega arith });
      nets = All-push (λ w. All (λ net. net < net_count c) w.nets) d.words w g.nets (numbers_within c nets);
      few_checks = g.few_checks;
      each_check =
          let P : ℕ → Type 0 = λ n. All (NamesWords n) d.checks in
          subst P (sym count) (All-weaker (NamesWords (length d.words)) (NamesWords (length d.words + 1)) (more_words (length d.words)) d.checks g.each_check);
      few_symbols = g.few_symbols;
    }
good_with c k d (check_line line left right) g formed clean =
    let long = list_any has_long_name line in
    let many = nat_lt MOST_SYMBOLS (length line) in
    let full = nat_le MOST_CHECKS (length d.checks) in
    let t1 = or_parts (long || many || full || nat_lt MOST_NESTING (nesting left)) (nat_lt MOST_NESTING (nesting right)) clean.size in
    let t2 = or_parts (long || many || full) (nat_lt MOST_NESTING (nesting left)) t1.0 in
    let t3 = or_parts (long || many) full t2.0 in
    let t4 = or_parts long many t3.0 in
    let few = ltb-false MOST_SYMBOLS (length line) t4.1 in
    let room = leb-false MOST_CHECKS (length d.checks) t3.1 in
    let check : Check = record { left = formula d.words left; right = formula d.words right } in
    let good = check_is_good d.words line left right formed.0 formed.1 few clean.words in
    let count = length_push d.checks check in
    record {
      order = g.order;
      letters = g.letters;
      few_words = g.few_words;
      each_word = g.each_word;
      nets = g.nets;
      few_checks = omega arith;
      each_check = All-push (NamesWords (length d.words)) d.checks check g.each_check good.names;
      few_symbols = All-push (λ check. check_size check ≤ MOST_SYMBOLS) d.checks check g.few_symbols good.few;
    }

pub line_is_good : (c : Circuit) (k : KindName) (d : Draft) (line : List ℕ) → IsGood c k d → line_fault c k d line ≡ None → IsGood c k (with_form c d (form_of line))
line_is_good c k d line g e = good_with c k d (form_of line) g (formed line) (faultless c k d (form_of line) e)

-- ---- a specification

order_is_good : (c : Circuit) (o : Option (List ℕ)) → IsGoodOrder c o → ListsInputs (input_count c) (unwrap_or o (range_with_len 0 (input_count c)))
order_is_good c None g = record { order = range_is_order (input_count c); one_each = length-range_with_len 0 (input_count c) }
order_is_good c (Some ns) g = g

usual-allowed : (k : KindName) → is_allowed k (usual_letter k) ≡ true
usual-allowed Evbdd = refl
usual-allowed StarBmd = refl
usual-allowed Hdd = refl
usual-allowed KStarBmd = refl

found_letter : (k : KindName) (n : ℕ) (letters : List (ℕ × Decomp)) → All (λ p. is_allowed k p.1 ≡ true) letters → is_allowed k (option_map_or (λ p. p.1) (find (λ p. p.0 == n) letters) (usual_letter k)) ≡ true
found_letter k n [] all = usual-allowed k
found_letter k n (p ∷ letters) all = at (p.0 == n) (found_letter k n letters (λ i d below. all (suc i) d (omega arith)))
  where
    at : (b : Bool) → is_allowed k (option_map_or (λ p. p.1) (find (λ p. p.0 == n) letters) (usual_letter k)) ≡ true
        → is_allowed k (option_map_or (λ (p : ℕ × Decomp). p.1) (cond b (Some p) (find (λ p. p.0 == n) letters)) (usual_letter k)) ≡ true
    at true more = all 0 p (omega arith)
    at false more = more

pub specified_is_good : (c : Circuit) (k : KindName) (d : Draft) → IsGood c k d → IsReadFor c k (specified c k d)
specified_is_good c k d g =
    let lists = order_is_good c d.order g.order in
    record {
      well_formed = record {
        order = lists.order;
        one_letter_each = length-map (chosen_order c d) (chosen_letter k d);
        few_words = g.few_words;
        few_checks = g.few_checks;
        each_word = g.each_word;
        each_check = g.each_check;
        few_symbols = g.few_symbols;
      };
      over = record { inputs = lists.one_each; nets = g.nets };
      letters = All_of-map (chosen_letter k d) (λ l. is_allowed k l ≡ true) (λ n. found_letter k n d.letters g.letters) (chosen_order c d);
    }

ended_well : (c : Circuit) (k : KindName) (checks : List Check) (spec s : Specification) → IsReadFor c k spec → at_end checks spec ≡ Ok s → IsReadFor c k s
ended_well c k [] spec s g e = absurd (cc)
ended_well c k (check ∷ more) spec s g e = let same : spec ≡ s = cc in subst (IsReadFor c k) same g

read_well : (c : Circuit) (k : KindName) (n : ℕ) (d : Draft) (text : List (List ℕ)) (s : Specification) → IsGood c k d → reading_from c k n d text ≡ Ok s → IsReadFor c k s
read_well c k n d [] s g e = ended_well c k d.checks (specified c k d) s (specified_is_good c k d g) e
read_well c k n d (line ∷ text) s g e =
    at (line_fault c k d line) refl e (λ none rest. read_well c k (n + 1) (with_form c d (form_of line)) text s (line_is_good c k d line g none) rest)
  where
    at : (o : Option SpecCause) → line_fault c k d line ≡ o → unless o n (reading_from c k (n + 1) (with_form c d (form_of line)) text) ≡ Ok s
        → (line_fault c k d line ≡ None → reading_from c k (n + 1) (with_form c d (form_of line)) text ≡ Ok s → IsReadFor c k s) → IsReadFor c k s
    at (Some cause) is e more = absurd (cc)
    at None is e more = more is e

pub reading_is_well_formed : ReadingIsWellFormed
reading_is_well_formed c k bytes s e = read_well c k 1 empty_draft (lines bytes) s (empty_is_good c k) e
