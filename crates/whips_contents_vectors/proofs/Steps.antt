-- What can't be done changes nothing.
use Rattle.std.proofs.Common.{◌≡◌, ◌&&◌, Bool, true, false, not, refl, ap, cond, ◌∙◌}
use Rattle.whips_flow.specs.declared.event.Event.{Event}
use Rattle.whips_setup.specs.Setups.{SetupData}
use Rattle.whips_contents.specs.Contents.{LoadedPipeline}
use Rattle.whips_contents.specs.Events.{is_enabled_loaded, is_full_for, next_loaded, step_loaded}

pub not_enabled : (s : SetupData) (l : LoadedPipeline) (e : Event) → is_enabled_loaded l e ≡ false → step_loaded s l e ≡ l
not_enabled s l e h = ap (λ b. cond (b && not (is_full_for s l e)) (next_loaded s l e) l) h

pub full : (s : SetupData) (l : LoadedPipeline) (e : Event) → is_full_for s l e ≡ true → step_loaded s l e ≡ l
full s l e h = ap (λ b. cond (is_enabled_loaded l e && not b) (next_loaded s l e) l) h ∙ none (is_enabled_loaded l e)
  where
    none : (b : Bool) → cond (b && false) (next_loaded s l e) l ≡ l
    none true = refl
    none false = refl
