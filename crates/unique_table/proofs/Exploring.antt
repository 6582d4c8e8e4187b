-- Reading leaves what a pass knows and owns.
use Rattle.std.proofs.Common.{◌≡◌, ℕ, zero, suc, refl, sym, subst, ◌∙◌, inr}
use Rattle.table_rule.specs.PassStore.{HasLooked}
use Rattle.table_rule.specs.Views.{see, read}
use Rattle.table_rule.specs.declared.view.PassView.{PassView}
use Rattle.unique_table.specs.Exploring.{HasExplored, HasOnlyRead}

pub looked_same : (v : PassView) → HasLooked v v
looked_same v = record { known = refl; made = refl; gone = refl; tokens = refl; joined = refl; forked = refl; ended = refl }

pub looked_on : (v w x : PassView) → HasLooked v w → HasLooked w x → HasLooked v x
looked_on v w x a b = record {
  known = b.known ∙ a.known;
  made = b.made ∙ a.made;
  gone = b.gone ∙ a.gone;
  tokens = b.tokens ∙ a.tokens;
  joined = b.joined ∙ a.joined;
  forked = b.forked ∙ a.forked;
  ended = b.ended ∙ a.ended;
}

pub explored_same : (v : PassView) → HasExplored v v
explored_same v = record { looked = looked_same v; seen = λ b id h. h; words = λ id i word h. h }

pub explored_on : (v w x : PassView) → HasExplored v w → HasExplored w x → HasExplored v x
explored_on v w x a b = record {
  looked = looked_on v w x a.looked b.looked;
  seen = λ y id h. b.seen y id (a.seen y id h);
  words = λ id i word h. b.words id i word (a.words id i word h);
}

pub read_same : (v : PassView) → HasOnlyRead v v
read_same v = record { explored = explored_same v; held = refl; draft = refl; taken = refl }

pub read_on : (v w x : PassView) → HasOnlyRead v w → HasOnlyRead w x → HasOnlyRead v x
read_on v w x a b = record {
  explored = explored_on v w x a.explored b.explored;
  held = b.held ∙ a.held;
  draft = b.draft ∙ a.draft;
  taken = b.taken ∙ a.taken;
}

pub read_a_word : (id i word : ℕ) (v : PassView) → HasOnlyRead v (read id i word v)
read_a_word id i word v = record {
  explored = record { looked = record { known = refl; made = refl; gone = refl; tokens = refl; joined = refl; forked = refl; ended = refl }; seen = λ b x h. h; words = λ x j n h. inr h };
  held = refl;
  draft = refl;
  taken = refl;
}

pub saw_a_bucket : (b n : ℕ) (v : PassView) → HasOnlyRead v (see b n v)
saw_a_bucket b zero v = read_same v
saw_a_bucket b (suc n) v = record {
  explored = record { looked = record { known = refl; made = refl; gone = refl; tokens = refl; joined = refl; forked = refl; ended = refl }; seen = λ x id h. inr h; words = λ x j m h. h };
  held = refl;
  draft = refl;
  taken = refl;
}

-- one more read, by an equation
pub read_next : (v w x : PassView) (id i word : ℕ) → HasOnlyRead v w → x ≡ read id i word w → HasOnlyRead v x
read_next v w x id i word h e = subst (HasOnlyRead v) (sym e) (read_on v w (read id i word w) h (read_a_word id i word w))
