-- A run of a made script is never full: `never_full`.
--
-- The idea: at each of two cuts a view has at most 64 rows, so both together need at most 128 slots.
use Rattle.std.proofs.Common.{◌≡◌, ℕ, suc, ◌+◌, ◌≤◌, nat_lt, false, List, [], ◌∷◌, length, None, refl, sym, subst, arith}
use Rattle.std.specs.Prelude.{fold}
use Rattle.std.specs.Ordering.{match_ordering}
use Rattle.std.specs.declared.cmp.Ordering.{Ordering}
use Rattle.std.specs.declared.cmp.Ordering.TheVariants.{Less, Equal, Greater}
use Rattle.std.proofs.lemmas.Bool.Decides.{nat_tests}
use Rattle.whips_model.specs.Tuples.{Codes, at_columns, codes_cmp, put_row}
use Rattle.whips_model.specs.Relation.{Table, value_of}
use Rattle.whips_states.specs.States.{state_at}
use Rattle.whips_changes.specs.Changes.{need}
use Rattle.whips_setup.specs.declared.plan.Plan.{Plan}
use Rattle.whips_setup.specs.declared.plan.Plan.TheVariants.{Listed, Picked}
use Rattle.whips_facts.specs.ScriptFacts.{facts_of}
use Rattle.whips_gen.specs.Shop.{lines_parts, big_parts, shop_tables}
use Rattle.whips_gen.specs.Made.{updates_made, work_of, made_script}
use Rattle.whips_gen.specs.Bounds.{MadeRunsAreNeverFull}
use Rattle.whips_gen.proofs.Small.{views_small}
use Rattle.whips_gen.proofs.Stay.{IsShop, shop_stays}
use Rattle.whips_gen.proofs.Roomy.{listed_fits, picked_fits}

-- ---- slots for two values

module _ (cols : List ℕ) where
  put_length : (t : Codes) (rows : List Codes) → length (put_row cols t rows) ≤ suc (length rows)
  put_length t [] = omega arith
  put_length t (u ∷ rows) = go (put_length t rows) (codes_cmp (at_columns cols t) (at_columns cols u))
    where
      go : length (put_row cols t rows) ≤ suc (length rows) → (o : Ordering) → length (match_ordering o (t ∷ u ∷ rows) (t ∷ rows) (u ∷ put_row cols t rows)) ≤ suc (suc (length rows))
      go ih Less = omega arith
      go ih Equal = omega arith
      go ih Greater = omega (arith, ih)

  all_put_length : (rows ts : List Codes) → length (fold (λ rows t. put_row cols t rows) rows ts) ≤ length rows + length ts
  all_put_length rows [] = omega arith
  all_put_length rows (t ∷ ts) = omega (arith, all_put_length (put_row cols t rows) ts, put_length t rows)

  fit_together : (before after : List Codes) → length before ≤ 64 → length after ≤ 64 → nat_lt 128 (need cols (before ∷ after ∷ [])) ≡ false
  fit_together before after b a =
      let first = all_put_length [] after in
      let both = all_put_length (fold (λ rows t. put_row cols t rows) [] after) before in
      let le : need cols (before ∷ after ∷ []) ≤ 128 = omega (arith, first, both, b, a) in
      grind (arith, nat_tests, le)

-- ---- both views at every cut

record AreSmall (db : List Table) : Type 0 where
  lines : length (value_of lines_parts db) ≤ 64
  big : length (value_of big_parts db) ≤ 64

small : (db : List Table) → IsShop db → AreSmall db
small db h =
    let both = views_small h.orders h.items h.orders_keyed h.items_keyed h.low in record {
      lines = subst (λ d. length (value_of lines_parts d) ≤ 64) (sym h.are) both.0;
      big = subst (λ d. length (value_of big_parts d) ≤ 64) (sym h.are) both.1;
    }

no_shortage : (start size : ℕ) (a b : List ℕ) → (facts_of (made_script start size)).shortage (a ∷ b ∷ []) ≡ None
no_shortage start size a b =
    let work = work_of (updates_made size start shop_tables) in
    let before = small (state_at shop_tables work a) (shop_stays start size a) in
    let after = small (state_at shop_tables work b) (shop_stays start size b) in
    rw (fit_together _ _ _ before.lines after.lines, fit_together _ _ _ before.big after.big) refl

pub never_full : MadeRunsAreNeverFull
never_full start size (Listed es) = listed_fits (facts_of (made_script start size)) refl (no_shortage start size) es
never_full start size (Picked from steps) = picked_fits (facts_of (made_script start size)) refl (no_shortage start size) from steps
