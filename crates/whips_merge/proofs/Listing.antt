-- The lists that leave a merge with a row set, view by view.
use Rattle.std.proofs.Common.{◌≡◌, ℕ, ◌+◌, ◌<◌, not, List, [], ◌∷◌, ◌++◌, length, filter, take, drop, set, get_or, sym, ap, ap₂, ◌∙◌, append-nil}
use Rattle.std.proofs.lemmas.List.{take_more}
use Rattle.std.proofs.lemmas.List.Edits.{map_over_more}
use Rattle.std.proofs.lemmas.Grind.{flat_map-append}
use Rattle.whips_flow.specs.Painted.{Row}
use Rattle.whips_actions.specs.declared.action.ActionList.{ActionList}
use Rattle.whips_merge.specs.Merging.{covers_any, lists_of, lists_left}
use Rattle.whips_merge.proofs.Painting.{rest_at}

module _ (rows : List Row) (init now : List (List ActionList)) (i : ℕ) (own : List ActionList) (lt : i < length init) (is_now : now ≡ lists_left rows (take i init) ++ drop i init) (is_own : own ≡ get_or now i own) where
  own_is : get_or now i own ≡ get_or init i own
  own_is = rest_at (filter (λ l. not (covers_any rows l))) init now i own lt is_now

  pub taken_next : (taken new : List ActionList) → taken ≡ lists_of rows (take i init) → new ≡ taken ++ filter (covers_any rows) (get_or now i own) → new ≡ lists_of rows (take (i + 1) init)
  taken_next taken new was is =
      is ∙ ap₂ (λ l o. l ++ filter (covers_any rows) o) was own_is
      ∙ ap (λ l. lists_of rows (take i init) ++ l) (sym (append-nil (filter (covers_any rows) (get_or init i own))))
      ∙ sym (flat_map-append (filter (covers_any rows)) (take i init) (get_or init i own ∷ []))
      ∙ ap (lists_of rows) (sym (take_more init i own lt))

  pub left_next : (after : List ActionList) → after ≡ filter (λ l. not (covers_any rows l)) (get_or now i own) → set now i after ≡ lists_left rows (take (i + 1) init) ++ drop (i + 1) init
  left_next after is =
      ap (set now i) (is ∙ ap (filter (λ l. not (covers_any rows l))) (sym is_own))
      ∙ map_over_more (filter (λ l. not (covers_any rows l))) init now i own lt is_now is_own
