use Rattle.std.proofs.Common.{◌≡◌, ℕ, ◌+◌, ◌-◌, ◌<◌, List, length, ap, ap₂, ◌∙◌, arith}
use Rattle.std.specs.Prelude.{map, min, nat_lt, filter, slice_get}
use Rattle.std.specs.List.{flat_map}
use Rattle.whips_lists.specs.Lists.{places_from}
use Rattle.whips_flow.specs.Progress.{pipeline_events}
use Rattle.whips_flow.specs.declared.event.Event.{Event}
use Rattle.whips_pick.specs.Picks.{picked}
use Rattle.whips_setup.specs.Setups.{SetupData}
use Rattle.whips_contents.specs.Events.{is_enabled_loaded}
use Rattle.whips_world.specs.Readers.{session_of}
use Rattle.whips_world.specs.Picks.{session_choices}
use Rattle.whips_world.proofs.Picked.{no_choice, choice_first, choice_rest}
use Rattle.whips_world.proofs.picks.pick.Goals as goal

pub returns-then-count-eq0-clause-event : goal.returns-then-count-eq0-clause-event
returns-then-count-eq0-clause-event g c = λ f a b.
    let of : ℕ → List Event = λ v. flat_map (λ s. session_choices (nat_lt c.args.scans 1000) v s (slice_get (map session_of c.args.readers.now) s)) (places_from 0 (length c.args.readers.now)) in
    let first : List Event = filter (is_enabled_loaded c.args.core.now.loaded) (pipeline_events f) in
    let rest : List Event = of (length c.args.core.now.setup.views) in
    let views_are : c.views-views.result ≡ length c.args.core.now.setup.views = c.views-views.ensures ∙ ap (λ (s : SetupData). length s.views) c.setup.ensures in
    let count_is : c.count_choices-count.result ≡ min 65536 (length first + length rest) =
    c.count_choices-count.ensures ∙ ap₂ (λ n v. min 65536 (n + length (of v))) (c.enabled_count-enabled.ensures f a b) views_are in
    no_choice first rest c.args.picker.now c.count_choices-count.result count_is c.if-count-eq0.true

pub returns-then-from-enabled-clause-event : goal.returns-then-from-enabled-clause-event
returns-then-from-enabled-clause-event g c = λ f a b.
    let of : ℕ → List Event = λ v. flat_map (λ s. session_choices (nat_lt c.args.scans 1000) v s (slice_get (map session_of c.args.readers.now) s)) (places_from 0 (length c.args.readers.now)) in
    let first : List Event = filter (is_enabled_loaded c.args.core.now.loaded) (pipeline_events f) in
    let rest : List Event = of (length c.args.core.now.setup.views) in
    let views_are : c.views-views.result ≡ length c.args.core.now.setup.views = c.views-views.ensures ∙ ap (λ (s : SetupData). length s.views) c.setup.ensures in
    let count_is : c.count_choices-count.result ≡ min 65536 (length first + length rest) =
    c.count_choices-count.ensures ∙ ap₂ (λ n v. min 65536 (n + length (of v))) (c.enabled_count-enabled.ensures f a b) views_are in
    let lt : c.pick-place.result < length first = omega (arith, c.if-from-enabled.true, c.from.ensures, c.enabled_count-enabled.ensures f a b) in
    c.enabled_at.ensures f a b ∙ choice_first first rest c.args.picker.now c.pick-place.result (c.pick-place.ensures.answer ∙ ap₂ (λ n s. picked n s) count_is c.pick-place.ensures.state) lt

pub returns-else-from-enabled-clause-event : goal.returns-else-from-enabled-clause-event
returns-else-from-enabled-clause-event g c = λ f a b.
    let of : ℕ → List Event = λ v. flat_map (λ s. session_choices (nat_lt c.args.scans 1000) v s (slice_get (map session_of c.args.readers.now) s)) (places_from 0 (length c.args.readers.now)) in
    let first : List Event = filter (is_enabled_loaded c.args.core.now.loaded) (pipeline_events f) in
    let rest : List Event = of (length c.args.core.now.setup.views) in
    let views_are : c.views-views.result ≡ length c.args.core.now.setup.views = c.views-views.ensures ∙ ap (λ (s : SetupData). length s.views) c.setup.ensures in
    let count_is : c.count_choices-count.result ≡ min 65536 (length first + length rest) =
    c.count_choices-count.ensures ∙ ap₂ (λ n v. min 65536 (n + length (of v))) (c.enabled_count-enabled.ensures f a b) views_are in
    let at : (c.pick-place.result - c.enabled_count-enabled.result) + length first ≡ c.pick-place.result = omega (arith, c.if-from-enabled.false, c.from.ensures, c.enabled_count-enabled.ensures f a b) in
    c.choice_at.ensures ∙ (ap (λ v. slice_get (of v) (c.pick-place.result - c.enabled_count-enabled.result)) views_are
    ∙ choice_rest first rest c.args.picker.now c.pick-place.result (c.pick-place.result - c.enabled_count-enabled.result) (c.pick-place.ensures.answer ∙ ap₂ (λ n s. picked n s) count_is c.pick-place.ensures.state) at)
