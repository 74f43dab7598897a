-- What a manager is after a transaction, field by field.
use Rattle.std.proofs.Common.{◌≡◌, ℕ, List, [], ◌∷◌, ◌++◌, length, map, drop, refl, sym, ap, ap₂, ◌∙◌, append-nil}
use Rattle.std.proofs.lemmas.List.{append_assoc, length-map}
use Rattle.std.proofs.Math.Seq.{drop-append_seam}
use Rattle.whips_model.specs.Tuples.{Codes, Columns}
use Rattle.whips_choices.specs.KeyedViews.{KeyedView}
use Rattle.whips_states.specs.States.{Updates}
use Rattle.whips_states.specs.Net.{given_at, taken}
use Rattle.whips_steps.specs.Steps.{asked_sources}
use Rattle.whips_lists.specs.Lists.{places_from}
use Rattle.whips_actions.specs.declared.action.Action.{Action}
use Rattle.whips_actions.specs.declared.action.Action.TheVariants.{KeyDelete}
use Rattle.whips_managers.specs.Managers.{Query, ManagerState, with_pending, with_deletion, with_deletions, with_query, with_put, put_or_asked, with_given, with_all_given, with_transaction}
use Rattle.whips_managers.specs.Messages.{ask_of}
use Rattle.whips_ask_laws.specs.Begun.{begun_at, begun, put_at, puts_of, with_all_pending, AfterTransaction}

-- ---- deletions

abbrev key_delete : ℕ × Codes → Action
key_delete e = KeyDelete e.0 e.1

deleted_last : (keys : List (ℕ × Codes)) (m : ManagerState) → (with_deletions m keys).last ≡ m.last
deleted_last [] m = refl
deleted_last (e ∷ keys) m = deleted_last keys (with_deletion m e)

deleted_actions : (keys : List (ℕ × Codes)) (m : ManagerState) → (with_deletions m keys).actions ≡ m.actions ++ map key_delete keys
deleted_actions [] m = sym (append-nil m.actions)
deleted_actions (e ∷ keys) m = deleted_actions keys (with_deletion m e) ∙ append_assoc m.actions (key_delete e ∷ []) (map key_delete keys)

none_pending : (queries : List Query) → queries ≡ map (with_all_pending []) queries
none_pending [] = refl
none_pending (q ∷ queries) = ap₂ (λ p l. record q { pending = p } ∷ l) (sym (append-nil q.pending)) (none_pending queries)

more_pending : (e : ℕ × Codes) (keys : List (ℕ × Codes)) (queries : List Query) → map (with_all_pending keys) (map (with_pending e.0 e.1) queries) ≡ map (with_all_pending (e ∷ keys)) queries
more_pending e keys [] = refl
more_pending e keys (q ∷ queries) = ap₂ (λ p l. record q { pending = p } ∷ l) (append_assoc q.pending (e ∷ []) keys) (more_pending e keys queries)

deleted_queries : (keys : List (ℕ × Codes)) (m : ManagerState) → (with_deletions m keys).queries ≡ map (with_all_pending keys) m.queries
deleted_queries [] m = none_pending m.queries
deleted_queries (e ∷ keys) m = deleted_queries keys (with_deletion m e) ∙ more_pending e keys m.queries

-- ---- insertions

module _ (v : KeyedView) (columns : Columns) (number : ℕ) where
  given_last : (part : ℕ) (ts : List Codes) (m : ManagerState) → m.last ≡ number → (with_given v columns m number part ts).last ≡ number
  given_last part [] m e = e
  given_last part (t ∷ ts) m e = elim (asked_sources v part) as (λ l. (put_or_asked l (with_put v columns m number part (t ∷ ts)) (with_query v m number part (t ∷ ts))).last ≡ number) [ [] ↦ refl | x ∷ l ↦ refl ]

  given_actions : (part : ℕ) (ts : List Codes) (m : ManagerState) → (with_given v columns m number part ts).actions ≡ m.actions ++ put_at v columns part (asked_sources v part) ts
  given_actions part [] m = sym (append-nil m.actions)
  given_actions part (t ∷ ts) m = elim (asked_sources v part) as (λ l. (put_or_asked l (with_put v columns m number part (t ∷ ts)) (with_query v m number part (t ∷ ts))).actions ≡ m.actions ++ put_at v columns part l (t ∷ ts)) [
    | [] ↦ refl
    | x ∷ l ↦ sym (append-nil m.actions)
  ]

  given_queries : (part : ℕ) (ts : List Codes) (m : ManagerState) → (with_given v columns m number part ts).queries ≡ m.queries ++ begun_at v number part (asked_sources v part) ts
  given_queries part [] m = sym (append-nil m.queries)
  given_queries part (t ∷ ts) m = elim (asked_sources v part) as (λ l. (put_or_asked l (with_put v columns m number part (t ∷ ts)) (with_query v m number part (t ∷ ts))).queries ≡ m.queries ++ begun_at v number part l (t ∷ ts)) [
    | [] ↦ sym (append-nil m.queries)
    | x ∷ l ↦ refl
  ]

  module _ (t : Updates) where
    all_last : (parts : List ℕ) (m : ManagerState) → m.last ≡ number → (with_all_given v columns m number (given_at v t) parts).last ≡ number
    all_last [] m e = e
    all_last (part ∷ parts) m e = all_last parts (with_given v columns m number part (given_at v t part)) (given_last part (given_at v t part) m e)

    all_actions : (parts : List ℕ) (m : ManagerState) → (with_all_given v columns m number (given_at v t) parts).actions ≡ m.actions ++ puts_of v columns t parts
    all_actions [] m = sym (append-nil m.actions)
    all_actions (part ∷ parts) m =
        all_actions parts (with_given v columns m number part (given_at v t part))
        ∙ ap (λ l. l ++ puts_of v columns t parts) (given_actions part (given_at v t part) m)
        ∙ append_assoc m.actions (put_at v columns part (asked_sources v part) (given_at v t part)) (puts_of v columns t parts)

    all_queries : (parts : List ℕ) (m : ManagerState) → (with_all_given v columns m number (given_at v t) parts).queries ≡ m.queries ++ begun v number t parts
    all_queries [] m = sym (append-nil m.queries)
    all_queries (part ∷ parts) m =
        all_queries parts (with_given v columns m number part (given_at v t part))
        ∙ ap (λ l. l ++ begun v number t parts) (given_queries part (given_at v t part) m)
        ∙ append_assoc m.queries (begun_at v number part (asked_sources v part) (given_at v t part)) (begun v number t parts)

pub after_transaction : AfterTransaction
after_transaction v columns m number t = record {
  last = all_last v columns number t parts start (deleted_last (taken v t) (record m { last = number }));
  actions = all_actions v columns number t parts start ∙ ap (λ l. l ++ puts_of v columns t parts) (deleted_actions (taken v t) (record m { last = number }));
  queries = queries;
  asks = ap (map (ask_of v)) (ap (drop (length m.queries)) queries
      ∙ ap (λ n. drop n (map (with_all_pending (taken v t)) m.queries ++ begun v number t parts)) (sym (length-map m.queries (with_all_pending (taken v t))))
      ∙ drop-append_seam (map (with_all_pending (taken v t)) m.queries) (begun v number t parts));
}
  where
    parts : List ℕ
    parts = places_from 0 (length v.keys)

    start : ManagerState
    start = with_deletions (record m { last = number }) (taken v t)

    queries : (with_transaction v columns m number t).queries ≡ map (with_all_pending (taken v t)) m.queries ++ begun v number t parts
    queries = all_queries v columns number t parts start ∙ ap (λ l. l ++ begun v number t parts) (deleted_queries (taken v t) (record m { last = number }))
