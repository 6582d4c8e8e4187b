-- From what came of each text to what came of both, and of the words.
use Rattle.std.proofs.Common.{◌≡◌, refl, sym, ◌∙◌, ap, subst, ℕ, List, inl, inr}
use Rattle.std.specs.Prelude.{IsErrAnd, Result, Some, None, Ok, Err}
use Rattle.circuits.specs.Circuit.{Circuit}
use Rattle.spec_lang.specs.Specification.{Specification}
use Rattle.multiplier.specs.Texts.{netlist_text, spec_text}
use Rattle.outside.specs.Count.{raised}
use Rattle.report.specs.declared.refusal.Refusal.{Refusal}
use Rattle.word_base.specs.declared.kind_name.KindName.{KindName}
use Rattle.check_run.specs.declared.asked.Asked as declared
use Rattle.check_run.specs.declared.stop.Stop.{Stop}
use Rattle.check_run.specs.declared.stop.Stop.TheVariants as stop
use Rattle.check_run.specs.Files.{RefusesNetlist, RefusesSpec, SaysNetlist, SaysSpec}
use Rattle.check_run.specs.Loading.{ComesTo, Gives, Loads, LoadsTexts, StopsAtWords, loaded}
use Rattle.check_run.specs.Outside.{Files, ShelfSeen}
use Rattle.check_run.specs.Reading.{IsUnread}
use Rattle.check_run.specs.Sources.{IsInFiles, MayBeThere, PlainSource, Told, asked_more, made, netlist_told, spec_told}
use Rattle.check_run.specs.Words.{PlainAsked, asked_of}
use Rattle.check_run.proofs.FileLaws.{comes_of_text}

-- ---- the netlist
-- the netlist's text, which was asked for once, stops the run
netlist_stopped : (k : KindName) (source : PlainSource) (old new : ShelfSeen) (s : Stop) → (s ≡ stop.ReadFault → IsInFiles source) →
    new.fetches ≡ asked_more source old.fetches →
    ComesTo {X = Circuit} (SaysNetlist (netlist_told old.files source)) (RefusesNetlist (netlist_told old.files source)) old new
    (netlist_told old.files source) (Err s) → LoadsTexts k source old new (Err s)
netlist_stopped k source old new (stop.Refused r) in_files once (refuses, same) = (inl (once, refuses), same)
netlist_stopped k source old new stop.ReadFault in_files once unread = (in_files refl, inl (once, unread))
netlist_stopped k source old new stop.Memory in_files once (there, same) = (inl (once, there), same)

pub netlist_stops : (k : KindName) (source : PlainSource) (old new : ShelfSeen) (s : Stop) (r : Result (Circuit × Specification) Stop) →
    (s ≡ stop.ReadFault → IsInFiles source) → new.fetches ≡ asked_more source old.fetches →
    ComesTo {X = Circuit} (SaysNetlist (netlist_told old.files source)) (RefusesNetlist (netlist_told old.files source)) old new
    (netlist_told old.files source) (Err s) → IsErrAnd r (λ x. x ≡ s) → LoadsTexts k source old new r
netlist_stops k source old new s (Ok both) in_files once stops same = absurd same
netlist_stops k source old new s (Err other) in_files once stops same =
    subst (λ (x : Stop). LoadsTexts k source old new (Err x)) (sym same) (netlist_stopped k source old new s in_files once stops)

-- ---- the specification, after the netlist
-- the first text left the files and the faults, and was asked for once
pub record IsMidway (source : PlainSource) (old mid : ShelfSeen) : Type 0 where
  pub files : mid.files ≡ old.files
  pub fetches : mid.fetches ≡ asked_more source old.fetches
  pub faults : mid.faults ≡ old.faults

unread_since : (old mid new : ShelfSeen) (text : Told) → mid.faults ≡ old.faults → IsUnread mid new text → IsUnread old new text
unread_since old mid new text faults (inl rose) = inl (rose ∙ ap raised faults)
unread_since old mid new text faults (inr (lacks, same)) = inr (lacks, same ∙ faults)

twice : (source : PlainSource) (old mid new : ShelfSeen) → IsMidway source old mid → new.fetches ≡ asked_more source mid.fetches →
    new.fetches ≡ asked_more source (asked_more source old.fetches)
twice source old mid new midway once = once ∙ ap (asked_more source) midway.fetches

spec_stopped : (k : KindName) (source : PlainSource) (old mid new : ShelfSeen) (c : Circuit) (s : Stop) → (s ≡ stop.ReadFault → IsInFiles source) → IsMidway source old mid →
    SaysNetlist (netlist_told old.files source) c → new.fetches ≡ asked_more source mid.fetches →
    ComesTo {X = Specification} (SaysSpec k c (spec_told old.files source)) (RefusesSpec k c (spec_told old.files source)) mid new (spec_told old.files source) (Err s) →
    LoadsTexts k source old new (Err s)
spec_stopped k source old mid new c (stop.Refused r) in_files midway says once (refuses, same) =
    (inr (c, says, twice source old mid new midway once, refuses), same ∙ midway.faults)
spec_stopped k source old mid new c stop.ReadFault in_files midway says once unread =
    (in_files refl, inr (c, says, twice source old mid new midway once, unread_since old mid new (spec_told old.files source) midway.faults unread))
spec_stopped k source old mid new c stop.Memory in_files midway says once (there, same) =
    (inr (c, says, twice source old mid new midway once, there), same ∙ midway.faults)

-- what came of the specification's text, by the files as they were in between
abbrev pub SpecComes : KindName → PlainSource → Files → ShelfSeen → ShelfSeen → Circuit → Result Specification Stop → Type 0
SpecComes k source files mid new c r = ComesTo (SaysSpec k c (spec_told files source)) (RefusesSpec k c (spec_told files source)) mid new (spec_told files source) r

pub spec_stops : (k : KindName) (source : PlainSource) (old mid new : ShelfSeen) (c : Circuit) (s : Stop) (r : Result (Circuit × Specification) Stop) →
    (s ≡ stop.ReadFault → IsInFiles source) → IsMidway source old mid → SaysNetlist (netlist_told old.files source) c →
    new.fetches ≡ asked_more source mid.fetches → SpecComes k source mid.files mid new c (Err s) → IsErrAnd r (λ x. x ≡ s) → LoadsTexts k source old new r
spec_stops k source old mid new c s (Ok both) in_files midway says once stops same = absurd same
spec_stops k source old mid new c s (Err other) in_files midway says once stops same =
    subst (λ (x : Stop). LoadsTexts k source old new (Err x)) (sym same)
    (spec_stopped k source old mid new c s in_files midway says once (subst (λ (f : Files). SpecComes k source f mid new c (Err s)) midway.files stops))

-- both texts are taken
pub both_taken : (k : KindName) (source : PlainSource) (old mid new : ShelfSeen) (c : Circuit) (s : Specification) → IsMidway source old mid →
    SaysNetlist (netlist_told old.files source) c → new.fetches ≡ asked_more source mid.fetches → SpecComes k source mid.files mid new c (Ok s) →
    LoadsTexts k source old new (Ok (c, s))
both_taken k source old mid new c s midway says once comes =
    let taken = subst (λ (f : Files). SpecComes k source f mid new c (Ok s)) midway.files comes in
    (record { netlist = says; spec = taken.0; fetches = twice source old mid new midway once }, taken.1 ∙ midway.faults)

-- ---- texts that are made
is_there : (text : List ℕ) → MayBeThere (Some (Some text))
is_there text lacks = absurd (cc)

-- they are always read
never_unread : {X : Type 0} (Says : X → Type 0) (Refuses : Refusal → Type 0) (s : Stop) → Gives Says Refuses (Err s) → s ≡ stop.ReadFault → ⊥
never_unread Says Refuses s gives is = subst (λ (x : Stop). Gives Says Refuses (Err x)) is gives

pub made_netlist_stops : (k : KindName) (size : ℕ) (text : List ℕ) (shelf : ShelfSeen) (s : Stop) (r : Result (Circuit × Specification) Stop) → text ≡ netlist_text size →
    Gives {X = Circuit} (SaysNetlist (Some (Some text))) (RefusesNetlist (Some (Some text))) (Err s) → IsErrAnd r (λ x. x ≡ s) → LoadsTexts k (made size) shelf shelf r
made_netlist_stops k size text shelf s r is gives same =
    let told : Told = Some (Some (netlist_text size)) in
    let own = subst (λ (t : List ℕ). Gives {X = Circuit} (SaysNetlist (Some (Some t))) (RefusesNetlist (Some (Some t))) (Err s)) is gives in
    netlist_stops k (made size) shelf shelf s r (never_unread {X = Circuit} (SaysNetlist told) (RefusesNetlist told) s own) refl
    (comes_of_text {X = Circuit} (SaysNetlist told) shelf shelf told (RefusesNetlist told) (Err s) (is_there (netlist_text size)) refl own) same

-- a made text stays as it was asked for
made_midway : (size : ℕ) (shelf : ShelfSeen) → IsMidway (made size) shelf shelf
made_midway size shelf = record { files = refl; fetches = refl; faults = refl }

pub made_spec_stops : (k : KindName) (size : ℕ) (netlist text : List ℕ) (shelf : ShelfSeen) (c : Circuit) (s : Stop) (r : Result (Circuit × Specification) Stop) →
    netlist ≡ netlist_text size → SaysNetlist (Some (Some netlist)) c → text ≡ spec_text size →
    Gives {X = Specification} (SaysSpec k c (Some (Some text))) (RefusesSpec k c (Some (Some text))) (Err s) → IsErrAnd r (λ x. x ≡ s) → LoadsTexts k (made size) shelf shelf r
made_spec_stops k size netlist text shelf c s r of_netlist says is gives same =
    let told : Told = Some (Some (spec_text size)) in
    let own = subst (λ (t : List ℕ). Gives {X = Specification} (SaysSpec k c (Some (Some t))) (RefusesSpec k c (Some (Some t))) (Err s)) is gives in
    spec_stops k (made size) shelf shelf shelf c s r (never_unread {X = Specification} (SaysSpec k c told) (RefusesSpec k c told) s own) (made_midway size shelf)
    (subst (λ (t : List ℕ). SaysNetlist (Some (Some t)) c) of_netlist says) refl
    (comes_of_text {X = Specification} (SaysSpec k c told) shelf shelf told (RefusesSpec k c told) (Err s) (is_there (spec_text size)) refl own) same

pub made_taken : (k : KindName) (size : ℕ) (netlist text : List ℕ) (shelf : ShelfSeen) (c : Circuit) (s : Specification) → netlist ≡ netlist_text size →
    SaysNetlist (Some (Some netlist)) c → text ≡ spec_text size → SaysSpec k c (Some (Some text)) s → LoadsTexts k (made size) shelf shelf (Ok (c, s))
made_taken k size netlist text shelf c s of_netlist says is spec =
    both_taken k (made size) shelf shelf shelf c s (made_midway size shelf) (subst (λ (t : List ℕ). SaysNetlist (Some (Some t)) c) of_netlist says) refl
    (subst (λ (t : List ℕ). SaysSpec k c (Some (Some t)) s) is spec, refl)

-- ---- the words, and both texts
-- the words stop the run
words_stopped : (words : List (List ℕ)) (shelf : ShelfSeen) (s : Stop) → StopsAtWords words s → Loads words shelf shelf (Err s)
words_stopped words shelf (stop.Refused r) is = (inl (is, refl), refl)
words_stopped words shelf stop.ReadFault never = absurd never
words_stopped words shelf stop.Memory for_clap = (inl (for_clap, refl), refl)

pub words_stop : (words : List (List ℕ)) (shelf : ShelfSeen) (s : Stop) (r : Result (declared.Asked × Circuit × Specification) Stop) → StopsAtWords words s →
    IsErrAnd r (λ x. x ≡ s) → Loads words shelf shelf (loaded r)
words_stop words shelf s (Ok all) is same = absurd same
words_stop words shelf s (Err other) is same = subst (λ (x : Stop). Loads words shelf shelf (Err x)) (sym same) (words_stopped words shelf s is)

texts_stopped : (words : List (List ℕ)) (a : PlainAsked) (old new : ShelfSeen) (s : Stop) → asked_of words ≡ Ok a → LoadsTexts a.settings.kind a.source old new (Err s) → Loads words old new (Err s)
texts_stopped words a old new (stop.Refused r) asks (refuses, same) = (inr (a, asks, refuses), same)
texts_stopped words a old new stop.ReadFault asks fails = (a, asks, fails)
texts_stopped words a old new stop.Memory asks (wants, same) = (inr (inr (a, asks, wants)), same)

pub texts_stop : (words : List (List ℕ)) (a : PlainAsked) (old new : ShelfSeen) (s : Stop) (r : Result (declared.Asked × Circuit × Specification) Stop) →
    asked_of words ≡ Ok a → LoadsTexts a.settings.kind a.source old new (Err s) → IsErrAnd r (λ x. x ≡ s) → Loads words old new (loaded r)
texts_stop words a old new s (Ok all) asks stops same = absurd same
texts_stop words a old new s (Err other) asks stops same = subst (λ (x : Stop). Loads words old new (Err x)) (sym same) (texts_stopped words a old new s asks stops)
