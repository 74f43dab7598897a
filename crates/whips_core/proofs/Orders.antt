-- Groups of events, built by one turn for each place.
use Rattle.std.proofs.Common.{◌≡◌, ℕ, suc, ◌+◌, List, [], ◌∷◌, ◌++◌, length, map, append_assoc, append-nil, refl, sym, ap, ap₂, ◌∙◌, arith}
use Rattle.std.specs.List.{flat_map}
use Rattle.std.proofs.lemmas.List.{map-append}
use Rattle.std.proofs.lemmas.Grind.{flat_map-append}
use Rattle.whips_lists.specs.Lists.{places_from}
use Rattle.whips_lists.proofs.Places.{places_next}
use Rattle.whips_flow.specs.Facts.{Facts}
use Rattle.whips_flow.specs.Progress.{pipeline_events}
use Rattle.whips_flow.specs.declared.event.Event.TheVariants.{Commit, Answer, Integrate, Manage, Rel, Act, Begin, Change, Publish}
use Rattle.whips_core.specs.Groups.{group_events, events_of, answers_of, group_of, first_groups}
use Rattle.whips_core.specs.declared.order.EventKind.TheVariants as kind
use Rattle.whips_core.specs.declared.order.EventGroup.{EventGroup}

-- the places below one number more
pub places_then : (n : ℕ) → places_from 0 (n + 1) ≡ places_from 0 n ++ n ∷ []
places_then n = let e : n + 1 ≡ suc n = omega arith in ap (places_from 0) e ∙ places_next n

-- one element more
pub mapped_next : {A : Type 0} (g : ℕ → A) (before now new : List A) (n : ℕ) → now ≡ before ++ map g (places_from 0 n) → new ≡ now ++ g n ∷ [] → new ≡ before ++ map g (places_from 0 (n + 1))
mapped_next g before now new n h e =
    e ∙ (ap (λ l. l ++ g n ∷ []) h ∙ (append_assoc before (map g (places_from 0 n)) (g n ∷ [])
    ∙ ap (λ l. before ++ l) (sym (ap (map g) (places_then n) ∙ map-append g (places_from 0 n) (n ∷ [])))))

-- the events of the answers of sources
pub answers_are : (views : ℕ) (ys : List ℕ) → events_of (map (answers_of views) ys) ≡ flat_map (λ y. map (Answer y) (places_from 0 views)) ys
answers_are views [] = refl
answers_are views (y ∷ ys) = ap (λ l. map (Answer y) (places_from 0 views) ++ l) (answers_are views ys)

pub events_join : (gs hs : List EventGroup) → events_of (gs ++ hs) ≡ events_of gs ++ events_of hs
events_join gs hs = flat_map-append group_events gs hs

-- the groups of so many views and sources are the events of a pipeline with as many
abbrev pub all_groups : (views sources : ℕ) → List EventGroup
all_groups views sources = (first_groups views sources ++ map (answers_of views) (places_from 0 sources)) ++ group_of kind.Commit sources ∷ []

pub groups_are : (f : Facts) → events_of (all_groups (length f.slots) (length f.transactions)) ≡ pipeline_events f
groups_are f =
    let views = length f.slots in
    let sources = length f.transactions in
    let answers = map (answers_of views) (places_from 0 sources) in
    let acts = map Act (places_from 0 views) in
    let manages = map Manage (places_from 0 views) in
    let integrates = map Integrate (places_from 0 sources) in
    let commits = map Commit (places_from 0 sources) in
    events_join (first_groups views sources ++ answers) (group_of kind.Commit sources ∷ [])
    ∙ ap₂ (λ a b. a ++ b) (events_join (first_groups views sources) answers) (append-nil commits)
    ∙ ap (λ a. (events_of (first_groups views sources) ++ a) ++ commits) (answers_are views (places_from 0 sources))
    ∙ ap (λ a. (a ++ flat_map (λ y. map (Answer y) (places_from 0 views)) (places_from 0 sources)) ++ commits)
    (ap (λ a. Publish ∷ Change ∷ Begin ∷ (acts ++ Rel ∷ (manages ++ a))) (append-nil integrates)
    ∙ ap (λ a. Publish ∷ Change ∷ Begin ∷ a) (sym (append_assoc acts (Rel ∷ manages) integrates)))
