-- What actions make of rows in the order of their keys.
use Rattle.std.proofs.Common.{◌≡◌, Bool, true, false, cond, not, is_some, List, [], ◌∷◌, ◌++◌, get_or}
use Rattle.std.proofs.lemmas.List.Sums.{fold-append}
use Rattle.std.specs.Prelude.{ℕ}
use Rattle.whips_model.specs.Tuples.{Codes, at_columns, has_key, row_at, put_row, IsKeyed}
use Rattle.whips_model.proofs.Keyed.{keyed_put, keyed_filter}
use Rattle.whips_choices.specs.KeyedViews.{KeyedView}
use Rattle.whips_choices.specs.Edits.{put_missing}
use Rattle.whips_actions.specs.declared.action.Action.{Action}
use Rattle.whips_actions.specs.declared.action.Action.TheVariants.{KeyDelete, Put}
use Rattle.whips_actions.specs.Acts.{acted, applied}

-- the actions of two lists, one list after the other
pub applied_join : (v : KeyedView) (first second : List Action) (rows : List Codes) → applied v (first ++ second) rows ≡ applied v second (applied v first rows)
applied_join v first second rows = fold-append (acted v) rows first second

-- one more action
pub applied_more : (v : KeyedView) (actions : List Action) (a : Action) (rows : List Codes) → applied v (actions ++ a ∷ []) rows ≡ acted v (applied v actions rows) a
applied_more v actions a rows = applied_join v actions (a ∷ []) rows

pub keyed_missing : (cols : List ℕ) (new rows : List Codes) → IsKeyed cols rows → IsKeyed cols (put_missing cols new rows)
keyed_missing cols [] rows h = h
keyed_missing cols (r ∷ new) rows h = keyed_missing cols new _ (go (is_some (row_at cols (at_columns cols r) rows)))
  where
    go : (b : Bool) → IsKeyed cols (cond b rows (put_row cols r rows))
    go true = h
    go false = keyed_put cols r rows h

-- rows stay in the order of their keys
pub keyed_acted : (v : KeyedView) (a : Action) (rows : List Codes) → IsKeyed v.columns rows → IsKeyed v.columns (acted v rows a)
keyed_acted v (KeyDelete i k) rows h = keyed_filter v.columns (λ t. not (has_key (get_or v.places i []) k t)) rows h
keyed_acted v (Put new) rows h = keyed_missing v.columns new.rows rows h

pub keyed_applied : (v : KeyedView) (actions : List Action) (rows : List Codes) → IsKeyed v.columns rows → IsKeyed v.columns (applied v actions rows)
keyed_applied v [] rows h = h
keyed_applied v (a ∷ actions) rows h = keyed_applied v actions _ (keyed_acted v a rows h)
