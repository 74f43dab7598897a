-- Queries that can be asked, and the answers to them.
use Rattle.std.proofs.Common.{◌≡◌, ◌≢◌, ◌⊎◌, inl, inr, ℕ, zero, suc, ◌+◌, ◌-◌, ◌<◌, ◌==◌, ◌&&◌, not, false, Option, Some, None, is_some, List, [], ◌∷◌, length, map, get_or, slice_get, replicate, refl, sym, ap, subst, ◌∙◌, arith, eq-eqb, ne_eqb}
use Rattle.std.specs.List.{list_any, AllByRecursion}
use Rattle.std.specs.Option.{option_map}
use Rattle.std.proofs.lemmas.Bool.{cases_eq, and_from}
use Rattle.std.proofs.lemmas.List.{length-replicate}
use Rattle.std.proofs.lemmas.Option.{slice_get-map}
use Rattle.whips_model.specs.Tuples.{Codes, IsKeyed}
use Rattle.whips_lists.proofs.Members.{has_before, has_passed, all_has, all_from_has, any_from_has}
use Rattle.whips_choices.specs.KeyedViews.{KeyedView, part_key}
use Rattle.whips_choices.specs.Partials.{Partial, slot, seed, extended}
use Rattle.whips_choices.proofs.Parts.{seed_width, seed_at, seed_other}
use Rattle.whips_steps.specs.Steps.{asked_sources, step_parts, is_filled}
use Rattle.whips_steps.specs.Answers.{AllDifferInKey, IsWhole, tables_of, has_key_at}
use Rattle.whips_steps.proofs.Fills.{with_all, differ_filter, differ_rows}
use Rattle.whips_steps.proofs.Stepping.{parts_distinct, parts_free, filled_next, filled_first, all_filled}
use Rattle.whips_managers.specs.Managers.{is_named}
use Rattle.whips_steps.specs.Filled.{IsFilledBefore}
use Rattle.whips_ask_laws.specs.Laws.{AskNamesStep, AskIsFree, AnswerFits, LastIsWhole, SeedsAreWhole}
use Rattle.whips_ask_laws.proofs.Extended.{AreFilledAt, fill_parts}

-- ---- an ask

at_place : (xs : List ℕ) (i : ℕ) → i < length xs → slice_get xs i ≡ Some (get_or xs i 0)
at_place [] i lt = absurd (omega arith)
at_place (x ∷ xs) zero lt = refl
at_place (x ∷ xs) (suc i) lt = at_place xs i (omega arith)

pub names_step : AskNamesStep
unfolding step_parts
names_step v widths q c =
    let low = c.low in
    let high = c.high in
    slice_get-map _ (asked_sources v q.origin) (q.step - 1) ∙ ap (option_map _) (at_place (asked_sources v q.origin) (q.step - 1) (omega arith))

pub is_free : AskIsFree
is_free v widths q c = (
  all_from_has (λ part. part < length v.keys) (step_parts v q.origin q.step) (λ part h. (parts_free v q.origin q.step c.low c.high part h).0),
  parts_distinct v q.origin q.step,
  all_from_has (λ (p : Partial). length p ≡ length v.keys) q.partials (λ p h. (all_has (IsFilledBefore v widths q.origin q.step) q.partials c.filled p h).parts),
  all_from_has (λ p. AllByRecursion (λ part. slot p part ≡ None) (step_parts v q.origin q.step)) q.partials (λ p h. all_from_has (λ part. slot p part ≡ None) (step_parts v q.origin q.step) (λ part k.
      let f = parts_free v q.origin q.step c.low c.high part k in
      empty (slot p part) ((all_has (IsFilledBefore v widths q.origin q.step) q.partials c.filled p h).filled part f.0 ∙ f.1))),
)
  where
    empty : (o : Option Codes) → is_some o ≡ false → o ≡ None
    empty None e = refl
    empty (Some t) e = absurd (cc)

-- ---- an answer

pub fits : AnswerFits
fits v widths m db q there c rows = record {
  open_query = any_from_has (λ r. is_named q.transaction q.origin r && (r.step == q.step)) q m.queries there
      (and_from (is_named q.transaction q.origin q) (q.step == q.step) (and_from (q.transaction == q.transaction) (q.origin == q.origin) (eq-eqb q.transaction q.transaction refl) (eq-eqb q.origin q.origin refl)) (eq-eqb q.step q.step refl));
  filled = all_from_has (IsFilledBefore v widths q.origin (q.step + 1)) _ (λ p h. let a = further.each p h in record { parts = a.parts; filled = λ j lt. a.filled j lt ∙ filled_next v q.origin q.step c.low c.high j lt; tuples = a.tuples });
  differ = further.differ;
}
  where
    further : AreFilledAt v.base v.keys widths (with_all (is_filled v q.origin q.step) (step_parts v q.origin q.step)) (extended v.base (tables_of v.base db) (step_parts v q.origin q.step) q.partials)
    further = fill_parts v.base v.keys widths (tables_of v.base db) (is_filled v q.origin q.step) (step_parts v q.origin q.step) q.partials (parts_distinct v q.origin q.step)
        (λ i h. parts_free v q.origin q.step c.low c.high i h) rows.keyed rows.wide
        (record { each = λ p h. let a = all_has (IsFilledBefore v widths q.origin q.step) q.partials c.filled p h in record { parts = a.parts; filled = a.filled; tuples = a.tuples }; differ = c.differ })

-- ---- whole choices

pub last_whole : LastIsWhole
last_whole v widths m transaction origin step partials pending f last = (
  all_from_has (IsWhole (length v.keys)) _ (λ p h.
      let a = all_has (IsFilledBefore v widths origin (step + 1)) partials f.filled p (has_passed (λ p. not (list_any (has_key_at v p) pending)) p partials h).0 in
      record { width = a.parts; filled = λ part lt. a.filled part lt ∙ all_filled v origin (step + 1) (omega arith) part lt }),
  differ_filter v.keys (λ p. not (list_any (has_key_at v p) pending)) partials f.differ,
)

-- ---- seeds

module _ (v : KeyedView) (i : ℕ) (lt : i < length v.keys) where
  pub seeds_differ : (ts : List Codes) → IsKeyed (part_key v i) ts → AllDifferInKey v.keys (map (seed (length v.keys) i) ts)
  seeds_differ ts rising = differ_rows v.keys (replicate (length v.keys) None) i ts (let w : length {A = Option Codes} (replicate (length v.keys) None) ≡ length v.keys = length-replicate (length v.keys) None in omega arith) rising

  pub seed_filled : (t : Codes) (j : ℕ) → is_some (slot (seed (length v.keys) i t) j) ≡ is_filled v i 1 j
  seed_filled t j = go (cases_eq j i)
    where
      go : (j ≡ i) ⊎ (j ≢ i) → is_some (slot (seed (length v.keys) i t) j) ≡ is_filled v i 1 j
      go (inl e) = subst (λ z. is_some (slot (seed (length v.keys) i t) z) ≡ is_filled v i 1 z) (sym e) (ap is_some (seed_at (length v.keys) i t lt) ∙ sym (filled_first v i i ∙ eq-eqb i i refl))
      go (inr ne) = ap is_some (seed_other (length v.keys) i j t ne) ∙ sym (filled_first v i j ∙ ne_eqb j i ne)

  pub seed_tuples : (t u : Codes) (j : ℕ) → slot (seed (length v.keys) i t) j ≡ Some u → (j ≡ i) × (t ≡ u)
  seed_tuples t u j e = go (cases_eq j i)
    where
      go : (j ≡ i) ⊎ (j ≢ i) → (j ≡ i) × (t ≡ u)
      go (inl same) =
          let at = seed_at (length v.keys) i t lt in
          let here : slot (seed (length v.keys) i t) i ≡ Some u = subst (λ z. slot (seed (length v.keys) i t) z ≡ Some u) same e in
          (same, cc (at, here))
      go (inr ne) = let none = seed_other (length v.keys) i j t ne in absurd (cc (none, e))

pub seeds_whole : SeedsAreWhole
seeds_whole v part ts lt none rising = (
  all_from_has (IsWhole (length v.keys)) _ (λ p h.
      let a = has_before (seed (length v.keys) part) p ts h in
      subst (λ z. IsWhole (length v.keys) z) (sym a.2) (record {
        width = seed_width (length v.keys) part a.0;
        filled = λ j below. seed_filled v part lt a.0 j ∙ all_filled v part 1 (let e = ap length none in omega arith) j below;
      })),
  seeds_differ v part lt ts rising,
)
