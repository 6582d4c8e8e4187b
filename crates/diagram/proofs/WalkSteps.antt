-- The steps of a walk over calls that wait in frames.
use Rattle.std.proofs.Common.{◌≡◌, refl, sym, ◌∙◌, ap, subst, ℕ, ◌+◌, ◌-◌, ◌<◌, ◌≤◌, List, [], ◌∷◌, ◌++◌, length, arith}
use Rattle.std.specs.Prelude.{Result, Ok, Err}
use Rattle.std.specs.Result.{IsErrAnd}
use Rattle.std.proofs.Math.ListN.{get_or, take, set}
use Rattle.diagram.specs.Frames.{Chain, Climbs, cost, fuel, Call, Walking, Begins, IsStep, IsUnderWay, steps_left}
use Rattle.diagram.specs.View.{View, Keeps}
use Rattle.diagram.specs.declared.limit.Limit.{Limit}
use Rattle.diagram.specs.declared.step.Step.{Step}
use Rattle.diagram.specs.declared.step.Step.TheVariants.{Below, Answer}
use Rattle.diagram.proofs.ChainLaws.{chain_push, chain_pop, chain_hands_on, longer, no_frames, last_of, written_frames, popped_frames, climbs_push, climbs_pop, cost_some, fewer_pushed, fewer_changed, fewer_popped}
use Rattle.diagram.proofs.StoreLaws.{keeps_on, keeps_itself}

-- what a walk rests on: of a call that waits in a frame for another
pub record Laws {B A O F : Type 0} (walking : Walking B A O F) : Type 0 where
  pub keeps : (outer inner : Call O) (f : F) → walking.WaitsFor outer f inner → Keeps outer.view inner.view
  pub refuses : (outer inner : Call O) (f : F) (x : View) (e : Limit) → walking.WaitsFor outer f inner → Keeps inner.view x →
      walking.IsAnswer inner.view x inner.operands (Err e) → walking.IsAnswer outer.view x outer.operands (Err e)
  pub good : (outer inner : Call O) (f : F) → walking.WaitsFor outer f inner → walking.AreGood inner.view inner.operands
  pub within : (outer inner : Call O) (f : F) → walking.WaitsFor outer f inner → walking.level f < length outer.view.letters
  pub deeper : (outer inner : Call O) (f : F) → walking.WaitsFor outer f inner → walking.level f < walking.top inner.view inner.operands

-- ---- a refusal is handed on by all frames
record Refused {B A O F : Type 0} (walking : Walking B A O F) (x : View) (e : Limit) (call : Call O) : Type 0 where
  keeps : Keeps call.view x
  refused : walking.IsAnswer call.view x call.operands (Err e)

frames_refuse : {B A O F : Type 0} (walking : Walking B A O F) → Laws walking → (x : View) (e : Limit) (first inner : Call O) (fs : List F) →
    Chain walking.WaitsFor first fs inner → Refused walking x e inner → Refused walking x e first
frames_refuse walking laws x e first inner fs chain refused =
    chain_hands_on walking.WaitsFor (Refused walking x e) (λ outer next f waits r.
    record { keeps = keeps_on outer.view next.view x (laws.keeps outer next f waits) r.keeps; refused = laws.refuses outer next f x e waits r.keeps r.refused })
    first inner fs chain refused

-- ---- the beginning
pub way_starts : {B A O F : Type 0} (walking : Walking B A O F) (v : View) (frames : List F) (a : B) → frames ≡ [] → walking.AreGood v (walking.operands a) →
    IsUnderWay walking (record { view = v; operands = walking.operands a }) v frames (Below a)
way_starts {B} {A} {O} {F} walking v frames a none good =
    let first : Call O = record { view = v; operands = walking.operands a } in
    subst (λ (fs : List F). IsUnderWay walking first v fs (Below a)) (sym none)
    (record { inner = first; chain = refl; climbs = tt; keeps = keeps_itself v; at = (refl, good, omega arith) })

-- ---- a part is begun
below_at : {B A O F : Type 0} (walking : Walking B A O F) (first : Call O) (v : View) (frames : List F) (step : Step B A) (a : B) → step ≡ Below a →
    (way : IsUnderWay walking first v frames step) → IsStep walking v frames way.inner (Below a)
below_at walking first v frames step a is way = subst (IsStep walking v frames way.inner) is way.at

-- a call waits in the innermost frame for that on a part
way_below : {B A O F : Type 0} (walking : Walking B A O F) → Laws walking → (first outer : Call O) (v : View) (under new : List F) (f : F) (part : B) → new ≡ under ++ f ∷ [] →
    walking.WaitsFor outer f (record { view = v; operands = walking.operands part }) → Chain walking.WaitsFor first under outer → Climbs walking.level 0 under →
    length under ≤ walking.level f → Keeps first.view v → IsUnderWay walking first v new (Below part)
way_below {B} {A} {O} {F} walking laws first outer v under new f part pushed waits chain climbs high keeps =
    let inner : Call O = record { view = v; operands = walking.operands part } in
    let deeper = laws.deeper outer inner f waits in
    let place : 0 + length under ≤ walking.level f = omega (arith, high) in
    let long : length (under ++ f ∷ []) ≤ walking.top v (walking.operands part) = omega (arith, longer under f, high, deeper) in
    subst (λ (fs : List F). IsUnderWay walking first v fs (Below part)) (sym pushed)
    (record {
      inner = inner;
      chain = chain_push walking.WaitsFor first outer inner under f chain waits;
      climbs = climbs_push walking.level 0 under f climbs place;
      keeps = keeps;
      at = (refl, laws.good outer inner f waits, long);
    })

way_begins_at : {B A O F : Type 0} (walking : Walking B A O F) → Laws walking → (first : Call O) (v : View) (frames new : List F) (step : Step B A) (a : B) (next : Step B A) →
    step ≡ Below a → IsUnderWay walking first v frames step → Begins walking v (walking.operands a) frames new (Ok next) → IsUnderWay walking first v new next
way_begins_at {B} {A} {O} {F} walking laws first v frames new step a (Below part) is way push =
    let at = below_at walking first v frames step a is way in
    let high : length frames ≤ walking.level push.frame = subst (λ (n : ℕ). length frames ≤ n) (sym push.level_is) at.2 in
    way_below walking laws first (record { view = v; operands = walking.operands a }) v frames new push.frame part push.pushed push.waits
    (subst (Chain walking.WaitsFor first frames) at.0 way.chain) way.climbs high way.keeps
way_begins_at {B} {A} {O} {F} walking laws first v frames new step a (Answer e) is way begins =
    let at = below_at walking first v frames step a is way in
    let outer : Call O = record { view = v; operands = walking.operands a } in
    subst (λ (fs : List F). IsUnderWay walking first v fs (Answer e)) (sym begins.0)
    (record {
      inner = outer;
      chain = subst (Chain walking.WaitsFor first frames) at.0 way.chain;
      climbs = way.climbs;
      keeps = way.keeps;
      at = (keeps_itself v, begins.1);
    })

pub way_begins : {B A O F : Type 0} (walking : Walking B A O F) → Laws walking → (first : Call O) (v x : View) (frames new : List F) (step : Step B A) (a : B) (next : Step B A) →
    step ≡ Below a → x ≡ v → IsUnderWay walking first v frames step → Begins walking v (walking.operands a) frames new (Ok next) → IsUnderWay walking first x new next
way_begins walking laws first v x frames new step a next is same way begins =
    subst (λ (y : View). IsUnderWay walking first y new next) (sym same) (way_begins_at walking laws first v frames new step a next is way begins)

pub way_begin_refused : {B A O F : Type 0} (walking : Walking B A O F) → Laws walking → (first : Call O) (v x : View) (frames : List F) (step : Step B A) (a : B) (e : Limit) →
    step ≡ Below a → x ≡ v → IsUnderWay walking first v frames step → walking.IsAnswer v v (walking.operands a) (Err e) → walking.IsAnswer first.view x first.operands (Err e)
way_begin_refused {B} {A} {O} walking laws first v x frames step a e is same way refused =
    let at = below_at walking first v frames step a is way in
    let outer : Call O = record { view = v; operands = walking.operands a } in
    let chain = subst (Chain walking.WaitsFor first frames) at.0 way.chain in
    let whole = frames_refuse walking laws v e first outer frames chain (record { keeps = keeps_itself v; refused = refused }) in
    subst (λ (y : View). walking.IsAnswer first.view y first.operands (Err e)) (sym same) whole.refused

-- how it begins where it is refused
pub begins_refused : {B A O F : Type 0} (walking : Walking B A O F) (v : View) (a : O) (old new : List F) (result : Result (Step B A) Limit) (e : Limit) →
    IsErrAnd result (λ y. y ≡ e) → walking.IsAnswer v v a (Err e) → Begins walking v a old new result
begins_refused walking v a old new (Ok x) e is refused = absurd is
begins_refused walking v a old new (Err f) e is refused = subst (λ (y : Limit). walking.IsAnswer v v a (Err y)) (sym is) refused

-- ---- the innermost frame goes on
pub record IsInnermost {B A O F : Type 0} (walking : Walking B A O F) (first : Call O) (v : View) (frames : List F) (f : F) (e : A) : Type 0 where
  pub rest : List F
  pub frames_are : frames ≡ rest ++ f ∷ []
  pub outer : Call O
  pub inner : Call O
  pub waits : walking.WaitsFor outer f inner
  pub inner_keeps : Keeps inner.view v
  pub is_known : walking.IsAnswer inner.view v inner.operands (Ok (walking.edge e))
  pub chain : Chain walking.WaitsFor first rest outer
  pub climbs : Climbs walking.level 0 rest
  pub high : length rest ≤ walking.level f
  pub keeps : Keeps first.view v

pub way_innermost : {B A O F : Type 0} (walking : Walking B A O F) (first : Call O) (v : View) (frames : List F) (step : Step B A) (e : A) (f : F) (waiting : ℕ) → step ≡ Answer e →
    waiting ≡ length frames → (waiting ≡ 0 → ⊥) → f ≡ get_or frames (waiting - 1) f → IsUnderWay walking first v frames step → IsInnermost walking first v frames f e
way_innermost {B} {A} {O} {F} walking first v frames step e f waiting is count some last way =
    let at = subst (IsStep walking v frames way.inner) is way.at in
    let rest = take (length frames - 1) frames in
    let are = last_of frames f waiting count some last in
    let popped = chain_pop walking.WaitsFor first way.inner rest f (subst (λ (fs : List F). Chain walking.WaitsFor first fs way.inner) are way.chain) in
    let climbs = climbs_pop walking.level 0 rest f (subst (λ (fs : List F). Climbs walking.level 0 fs) are way.climbs) in
    record {
      rest = rest;
      frames_are = are;
      outer = popped.middle;
      inner = way.inner;
      waits = popped.waits;
      inner_keeps = at.0;
      is_known = at.1;
      chain = popped.chain;
      climbs = climbs.0;
      high = omega (arith, climbs.1);
      keeps = way.keeps;
    }

-- the call that was begun first is answered where no frame waits
pub way_ends : {B A O F : Type 0} (walking : Walking B A O F) (first : Call O) (v : View) (frames : List F) (step : Step B A) (e : A) → step ≡ Answer e → length frames ≡ 0 →
    IsUnderWay walking first v frames step → walking.IsAnswer first.view v first.operands (Ok (walking.edge e))
way_ends {B} {A} {O} walking first v frames step e is none way =
    let at = subst (IsStep walking v frames way.inner) is way.at in
    let same = no_frames walking.WaitsFor first way.inner frames none way.chain in
    subst (λ (call : Call O). walking.IsAnswer call.view v call.operands (Ok (walking.edge e))) (sym same) at.1

pub way_goes_below : {B A O F : Type 0} (walking : Walking B A O F) → Laws walking → (first : Call O) (v x : View) (frames new : List F) (e : A) (part : B) (f g : F) (waiting : ℕ) →
    (m : IsInnermost walking first v frames f e) → Keeps v x → waiting ≡ length frames → new ≡ set frames (waiting - 1) g →
    walking.WaitsFor m.outer g (record { view = x; operands = walking.operands part }) → walking.level g ≡ walking.level f → IsUnderWay walking first x new (Below part)
way_goes_below walking laws first v x frames new e part f g waiting m keeps count written waits same =
    let high : length m.rest ≤ walking.level g = subst (λ (n : ℕ). length m.rest ≤ n) (sym same) m.high in
    way_below walking laws first m.outer x m.rest new g part (written_frames frames new m.rest f g waiting m.frames_are count written) waits m.chain m.climbs high
    (keeps_on first.view v x m.keeps keeps)

-- from the outer call on
outer_keeps : {B A O F : Type 0} (walking : Walking B A O F) → Laws walking → (first : Call O) (v x : View) (frames : List F) (f : F) (e : A) →
    (m : IsInnermost walking first v frames f e) → Keeps v x → Keeps m.outer.view x
outer_keeps walking laws first v x frames f e m keeps =
    keeps_on m.outer.view m.inner.view x (laws.keeps m.outer m.inner f m.waits) (keeps_on m.inner.view v x m.inner_keeps keeps)

pub way_answers : {B A O F : Type 0} (walking : Walking B A O F) → Laws walking → (first : Call O) (v x : View) (frames new : List F) (e r : A) (f g : F) (waiting : ℕ) →
    (m : IsInnermost walking first v frames f e) → Keeps v x → waiting ≡ length frames → new ≡ take (waiting - 1) (set frames (waiting - 1) g) →
    walking.IsAnswer m.outer.view x m.outer.operands (Ok (walking.edge r)) → IsUnderWay walking first x new (Answer r)
way_answers {B} {A} {O} {F} walking laws first v x frames new e r f g waiting m keeps count popped answer =
    subst (λ (fs : List F). IsUnderWay walking first x fs (Answer r)) (sym (popped_frames frames new m.rest f g waiting m.frames_are count popped))
    (record {
      inner = m.outer;
      chain = m.chain;
      climbs = m.climbs;
      keeps = keeps_on first.view v x m.keeps keeps;
      at = (outer_keeps walking laws first v x frames f e m keeps, answer);
    })

pub way_refused : {B A O F : Type 0} (walking : Walking B A O F) → Laws walking → (first : Call O) (v x : View) (frames : List F) (e : A) (f : F) (limit : Limit) →
    (m : IsInnermost walking first v frames f e) → Keeps v x → walking.IsAnswer m.outer.view x m.outer.operands (Err limit) →
    walking.IsAnswer first.view x first.operands (Err limit)
way_refused walking laws first v x frames e f limit m keeps refused =
    (frames_refuse walking laws x limit first m.outer m.rest m.chain (record { keeps = outer_keeps walking laws first v x frames f e m keeps; refused = refused })).refused

-- ---- each step leaves fewer
fewer_begins_at : {B A O F : Type 0} (walking : Walking B A O F) → Laws walking → (v : View) (frames new : List F) (a : B) (next : Step B A) →
    Begins walking v (walking.operands a) frames new (Ok next) → steps_left walking v new next < steps_left walking v frames (Below a)
fewer_begins_at {B} {A} {O} {F} walking laws v frames new a (Below part) push =
    let n = length v.letters in
    let outer : Call O = record { view = v; operands = walking.operands a } in
    let inner : Call O = record { view = v; operands = walking.operands part } in
    let top = walking.top v (walking.operands part) in
    let fewer = fewer_pushed walking.level walking.rest frames push.frame n top push.few (laws.within outer inner push.frame push.waits) (laws.deeper outer inner push.frame push.waits) in
    subst (λ (fs : List F). fuel walking.level walking.rest n fs + cost n top < steps_left walking v frames (Below a)) (sym push.pushed)
    (subst (λ (l : ℕ). fuel walking.level walking.rest n (frames ++ push.frame ∷ []) + cost n top < fuel walking.level walking.rest n frames + cost n l) push.level_is fewer)
fewer_begins_at {B} {A} {O} {F} walking laws v frames new a (Answer e) begins =
    let some = cost_some (length v.letters) (walking.top v (walking.operands a)) in
    subst (λ (fs : List F). steps_left walking v fs (Answer e) < steps_left walking v frames (Below a)) (sym begins.0) (omega arith)

pub fewer_begins : {B A O F : Type 0} (walking : Walking B A O F) → Laws walking → (v x : View) (frames new : List F) (step : Step B A) (a : B) (next : Step B A) → step ≡ Below a →
    x ≡ v → Begins walking v (walking.operands a) frames new (Ok next) → steps_left walking x new next < steps_left walking v frames step
fewer_begins {B} {A} walking laws v x frames new step a next is same begins =
    subst (λ (s : Step B A). steps_left walking x new next < steps_left walking v frames s) (sym is)
    (subst (λ (y : View). steps_left walking y new next < steps_left walking v frames (Below a)) (sym same) (fewer_begins_at walking laws v frames new a next begins))

pub fewer_below : {B A O F : Type 0} (walking : Walking B A O F) → Laws walking → (first : Call O) (v x : View) (frames new : List F) (step : Step B A) (e : A) (part : B) (f g : F)
    (waiting : ℕ) → step ≡ Answer e → (m : IsInnermost walking first v frames f e) → Keeps v x → waiting ≡ length frames → new ≡ set frames (waiting - 1) g →
    walking.WaitsFor m.outer g (record { view = x; operands = walking.operands part }) → walking.level g ≡ walking.level f → walking.rest g < walking.rest f →
    steps_left walking x new (Below part) < steps_left walking v frames step
fewer_below {B} {A} {O} {F} walking laws first v x frames new step e part f g waiting is m keeps count written waits same less =
    let n = length v.letters in
    let inner : Call O = record { view = x; operands = walking.operands part } in
    let top = walking.top x (walking.operands part) in
    let deeper : walking.level f < top = subst (λ (l : ℕ). l < top) same (laws.deeper m.outer inner g waits) in
    let fewer = fewer_changed walking.level walking.rest frames new m.rest f g n top m.frames_are (written_frames frames new m.rest f g waiting m.frames_are count written) same
    less deeper in
    let whole : fuel walking.level walking.rest n new + cost n top < fuel walking.level walking.rest n frames + 0 = omega (arith, fewer) in
    let letters : length x.letters ≡ n = ap length keeps.letters in
    subst (λ (s : Step B A). steps_left walking x new (Below part) < steps_left walking v frames s) (sym is)
    (subst (λ (i : ℕ). fuel walking.level walking.rest i new + cost i top < fuel walking.level walking.rest n frames + 0) (sym letters) whole)

pub fewer_answers : {B A O F : Type 0} (walking : Walking B A O F) (first : Call O) (v x : View) (frames new : List F) (step : Step B A) (e r : A) (f g : F) (waiting : ℕ) →
    step ≡ Answer e → (m : IsInnermost walking first v frames f e) → Keeps v x → waiting ≡ length frames → new ≡ take (waiting - 1) (set frames (waiting - 1) g) →
    steps_left walking x new (Answer r) < steps_left walking v frames step
fewer_answers {B} {A} {O} {F} walking first v x frames new step e r f g waiting is m keeps count popped =
    let n = length v.letters in
    let same = popped_frames frames new m.rest f g waiting m.frames_are count popped in
    let are = m.frames_are ∙ ap (λ (fs : List F). fs ++ f ∷ []) (sym same) in
    let whole : fuel walking.level walking.rest n new + 0 < fuel walking.level walking.rest n frames + 0 = omega (arith, fewer_popped walking.level walking.rest frames new f n are) in
    let letters : length x.letters ≡ n = ap length keeps.letters in
    subst (λ (s : Step B A). steps_left walking x new (Answer r) < steps_left walking v frames s) (sym is)
    (subst (λ (i : ℕ). fuel walking.level walking.rest i new + 0 < fuel walking.level walking.rest n frames + 0) (sym letters) whole)
