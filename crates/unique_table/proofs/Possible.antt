-- Views that some pass has in a table that keeps the rule, and how they are split and joined.
use Rattle.std.proofs.Common.{◌≡◌, ℕ, ◌≤◌, List, [], ◌∷◌, ◌++◌, length, set, slice_get, Some, false, refl, sym, ap, subst, ◌∙◌}
use Rattle.std.specs.Prelude.{replicate, slice_set}
use Rattle.atomic_table.specs.Table.{Splits, Joins, opening}
use Rattle.table_rule.specs.Laws.{blank, IsViewOf}
use Rattle.table_rule.specs.Rule.{Rule}
use Rattle.table_rule.specs.Views.{fresh, first_view, forked_left, forked_right, dealt_left, dealt_right, joined_view, ended_view}
use Rattle.table_rule.specs.Words.{IsLayout, word_count}
use Rattle.table_rule.specs.declared.layout.Layout.{Layout}
use Rattle.table_rule.specs.declared.view.PassView.{PassView}
use Rattle.table_rule.proofs.Joining.{joins}
use Rattle.table_rule.proofs.Lists.{get_left, get_last, get_set_here, get_set_else}
use Rattle.table_rule.proofs.Splitting.{forks, deals}
use Rattle.table_rule.proofs.Steps.{begins}
use Rattle.unique_table.specs.Taking.{IsTable}
use Rattle.unique_table.proofs.Taking.{at_place}

-- a table that was just made
pub opens : (L : Layout) (words : List ℕ) → IsLayout L → words ≡ replicate (word_count L) 0 → IsTable L (opening words [] (first_view L))
opens L words l zeros = (l, subst (λ (ws : List ℕ). Rule L ws (first_view L ∷ [])) (sym zeros) (begins L l))

pub first_possible : (L : Layout) → IsLayout L → IsViewOf L (first_view L)
first_possible L l = record { words = (blank L).words; views = first_view L ∷ []; pass = 0; stands = refl; ruled = begins L l }

module _ (L : Layout) (v left right : PassView) (words : List ℕ) (views : List PassView) (p : ℕ) (at : slice_get views p ≡ Some v) (r : Rule L words (set views p left ++ right ∷ [])) where
  left_possible : IsViewOf L left
  left_possible = record { words = words; views = set views p left ++ right ∷ []; pass = p; stands = get_left (set views p left) (right ∷ []) p left (get_set_here views p v left at); ruled = r }

  right_possible : IsViewOf L right
  right_possible = record { words = words; views = set views p left ++ right ∷ []; pass = length (set views p left); stands = get_last (set views p left) right; ruled = r }

pub dealt_possible : (L : Layout) (v : PassView) → IsViewOf L v → v ≡ fresh v.tokens → 2 ≤ length v.tokens → IsViewOf L (dealt_left v) × IsViewOf L (dealt_right v)
dealt_possible L v h blank two =
    let live : v.ended ≡ false = ap (λ (x : PassView). x.ended) blank in
    let r = deals L h.words h.views h.pass v h.ruled h.stands live blank two in
    (left_possible L v (dealt_left v) (dealt_right v) h.words h.views h.pass h.stands r, right_possible L v (dealt_left v) (dealt_right v) h.words h.views h.pass h.stands r)

pub forked_possible : (L : Layout) (v : PassView) → IsViewOf L v → v.ended ≡ false → IsViewOf L (forked_left v) × IsViewOf L (forked_right v)
forked_possible L v h live =
    let r = forks L h.words h.views h.pass v h.ruled h.stands live in
    (left_possible L v (forked_left v) (forked_right v) h.words h.views h.pass h.stands r, right_possible L v (forked_left v) (forked_right v) h.words h.views h.pass h.stands r)

pub deals_seat : (L : Layout) (id : ℕ) (v : PassView) → v ≡ fresh v.tokens → 2 ≤ length v.tokens → Splits (IsTable L) id v (dealt_left v) (dealt_right v)
deals_seat L id v blank two s h at =
    let live : v.ended ≡ false = ap (λ (x : PassView). x.ended) blank in
    (h.0, deals L s.words s.views id v h.1 (at_place s.views id v at) live blank two)

pub forks_seat : (L : Layout) (id : ℕ) (v : PassView) → v.ended ≡ false → Splits (IsTable L) id v (forked_left v) (forked_right v)
forks_seat L id v live s h at = (h.0, forks L s.words s.views id v h.1 (at_place s.views id v at) live)

pub joins_seats : (L : Layout) (id : ℕ) (v : PassView) (other : ℕ) (u : PassView) → v.ended ≡ false → u.ended ≡ false → Joins (IsTable L) id v other u (joined_view v u) ended_view
joins_seats L id v other u live live_too s h at apart there =
    let both : PassView = joined_view v u in
    let before = at_place (slice_set s.views id both) other u there in
    let there' : slice_get s.views other ≡ Some u = sym (get_set_else s.views id other both apart) ∙ before in
    (h.0, joins L s.words s.views id v h.1 (at_place s.views id v at) live other u apart there' live_too)
