use Rattle.std.proofs.Common.{[], ◌∷◌, inl, inr, sym, subst, arith}
use Rattle.std.proofs.lemmas.Bool.{cases_lt}
use Rattle.whips_lists.specs.Members.{Has}
use Rattle.whips_lists.proofs.Members.{has_left, has_right, has_first, has_same}
use Rattle.whips_slot_index.proofs.index.places_below.Goals as goal

pub loop-place-init : goal.loop-place-init
loop-place-init c = λ i lt. absurd (omega arith)

pub loop-place-preserved : goal.loop-place-preserved
loop-place-preserved c = λ i lt. subst (Has i) (sym c.in_ok-push.ensures.items) (elim (cases_lt i c.loop-place.place) [
  | inl below ↦ has_left i c.loop-place.places.items (c.loop-place.place ∷ []) (c.loop-place.invariant i below)
  | inr from ↦ has_right i c.loop-place.places.items (c.loop-place.place ∷ []) (has_same c.loop-place.place i (c.loop-place.place ∷ []) (omega arith) (has_first c.loop-place.place []))
])
