-- What a manager is told, and its number after it.
use Rattle.std.proofs.Common.{◌≡◌, ◌≢◌, ℕ, zero, suc, ◌<◌, Bool, true, false, cond, None, List, [], ◌∷◌, ◌++◌, length, map, refl, sym, ap, ◌∙◌, arith}
use Rattle.std.specs.Prelude.{slice_index}
use Rattle.std.specs.List.{AllByRecursion}
use Rattle.std.proofs.lemmas.List.{length-map}
use Rattle.whips_model.specs.Tuples.{Codes, Columns}
use Rattle.whips_choices.specs.KeyedViews.{KeyedView}
use Rattle.whips_choices.specs.Partials.{Partial, slot, seed}
use Rattle.whips_choices.proofs.Parts.{seed_other}
use Rattle.whips_states.specs.States.{Updates}
use Rattle.whips_view.specs.ViewDefs.{View, keyed}
use Rattle.whips_managers.specs.Managers.{Query, ManagerState, with_step, with_answer, has_next, is_named, with_reply_to, with_reply_behind, with_reply, with_transaction}
use Rattle.whips_view.specs.Widths.{widths_of}
use Rattle.whips_managers.specs.Messages.{HaveWidths}
use Rattle.whips_ask_laws.proofs.After.{after_transaction}
use Rattle.whips_fixtures.specs.Pairs.{pair_columns, ArePairs}
use Rattle.whips_manager_tests.specs.Runs.{IsOfPairs}

-- ---- widths

width_at : (bases : List Columns) → AllByRecursion (λ b. b ≡ pair_columns) bases → (part : ℕ) → part < length bases → slice_index (map (λ (b : Columns). length b.kinds) bases) part ≡ 2
width_at [] h part lt = absurd (omega arith)
width_at (b ∷ bases) h zero lt = ap (λ (z : Columns). length z.kinds) h.0
width_at (b ∷ bases) h (suc part) lt = width_at bases h.1 part (omega arith)

pub have_widths : (view : View) (t : Updates) → IsOfPairs view → ArePairs t → HaveWidths (keyed view) (widths_of view) t
have_widths view [] is h = tt
have_widths view (u ∷ t) is h = (
  λ part lt of. h.0 ∙ sym (width_at view.bases is.pairs part (let same = length-map view.bases (λ (b : Columns). b.key) in omega arith)),
  have_widths view t is h.1,
)

-- ---- what a reply begins with

pub others_free : (n origin : ℕ) (t : Codes) (parts : List ℕ) → AllByRecursion (λ i. i ≢ origin) parts → AllByRecursion (λ i. slot (seed n origin t) i ≡ None) parts
others_free n origin t [] h = tt
others_free n origin t (i ∷ parts) h = (seed_other n origin i t h.0, others_free n origin t parts h.1)

-- ---- the last number

module _ (v : KeyedView) (columns : Columns) (m : ManagerState) where
  pub last_taken : (number : ℕ) (t : Updates) → (with_transaction v columns m number t).last ≡ number
  last_taken number t = (after_transaction v columns m number t).last

  last_replied : (before queries : List Query) (transaction origin : ℕ) (partials : List Partial) → (with_reply_behind v columns m before queries transaction origin partials).last ≡ m.last
  last_replied before [] transaction origin partials = refl
  last_replied before (q ∷ after) transaction origin partials = named (last_replied (before ++ q ∷ []) after transaction origin partials) (is_named transaction origin q)
    where
      next : (b : Bool) → (cond b (with_step m before q partials after) (with_answer v columns m before q partials after)).last ≡ m.last
      next true = refl
      next false = refl

      named : (with_reply_behind v columns m (before ++ q ∷ []) after transaction origin partials).last ≡ m.last → (b : Bool)
          → (cond b (with_reply_to v columns m before q partials after) (with_reply_behind v columns m (before ++ q ∷ []) after transaction origin partials)).last ≡ m.last
      named rest true = next (has_next v q)
      named rest false = rest

  pub last_kept : (transaction origin : ℕ) (partials : List Partial) → (with_reply v columns m transaction origin partials).last ≡ m.last
  last_kept transaction origin partials = last_replied [] m.queries transaction origin partials
