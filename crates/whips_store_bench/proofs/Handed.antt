-- Changes that may be handed to a store of one view.
use Rattle.std.proofs.Common.{◌≡◌, List, [], ◌∷◌, length, true, refl, ap, subst, ◌∙◌}
use Rattle.std.specs.Prelude.{nat_le, ◌&&◌}
use Rattle.std.specs.List.{list_all, AllByRecursion}
use Rattle.std.proofs.lemmas.Bool.{and_parts}
use Rattle.whips_model.specs.declared.Kind.{Kind}
use Rattle.whips_model.specs.declared.Kind.TheVariants.{Number, Text}
use Rattle.whips_model.specs.Tuples.{Codes, Columns}
use Rattle.whips_model.specs.Relation.{Table, IsTable}
use Rattle.whips_rel.specs.declared.update.Change.{Change}
use Rattle.whips_rel.specs.declared.update.Change.TheVariants.{Add, Replace, Remove}
use Rattle.whips_changes.specs.Changes.{net_changes}
use Rattle.whips_net.specs.Kept.{Brings}
use Rattle.whips_net.proofs.Kept.{kept}
use Rattle.whips_setup.specs.Limits.{has_numbers_within}
use Rattle.whips_store.specs.Stores.{ViewState, StoreState, view_in}
use Rattle.whips_store.specs.Calls.{AreNet}
use Rattle.whips_store.specs.Sound.{IsSoundView, IsSoundStore}
use Rattle.whips_store_bench.specs.Numbers.{are_within, brings_within}

-- whatever the kinds are
numbers_within : (kinds : List Kind) (t : Codes) → are_within t ≡ true → has_numbers_within kinds t ≡ true
numbers_within [] t e = refl
numbers_within (kind ∷ kinds) [] e = refl
numbers_within (Number ∷ kinds) (code ∷ t) e = let both = and_parts (nat_le code 999999999999) (are_within t) e in ap (λ b. b && has_numbers_within kinds t) both.0 ∙ numbers_within kinds t both.1
numbers_within (Text ∷ kinds) (code ∷ t) e = let both = and_parts (nat_le code 999999999999) (are_within t) e in numbers_within kinds t both.1

one_within : (kinds : List Kind) (change : Change) → brings_within change ≡ true → Brings (λ t. has_numbers_within kinds t ≡ true) change
one_within kinds (Add t) e = numbers_within kinds t e
one_within kinds (Replace t) e = numbers_within kinds t e
one_within kinds (Remove k) e = tt

all_within : (kinds : List Kind) (changes : List Change) → list_all brings_within changes ≡ true → AllByRecursion (Brings (λ t. has_numbers_within kinds t ≡ true)) changes
all_within kinds [] e = tt
all_within kinds (c ∷ changes) e = let both = and_parts (brings_within c) (list_all brings_within changes) e in (one_within kinds c both.0, all_within kinds changes both.1)

-- The net changes from the rows of the one view to these rows: no number of the current rows is above the greatest, and so it is enough that none of a row that comes is.
pub handed : (s : StoreState) (after : Table) (changes : List Change) → IsSoundStore s → IsTable after.columns after.rows → length s.views ≡ 1 → after.columns ≡ (view_in s 0).columns
    → list_all brings_within changes ≡ true → changes ≡ net_changes (view_in s 0).columns.key (view_in s 0).current after.rows → AreNet s.views ((after, changes) ∷ [])
handed s after changes sound table one same within net = go s.views sound.views one same net
  where
    go : (vs : List ViewState) → AllByRecursion (IsSoundView s.versions s.phase) vs → length vs ≡ 1 → after.columns ≡ (view_in (record s { views = vs }) 0).columns
        → changes ≡ net_changes (view_in (record s { views = vs }) 0).columns.key (view_in (record s { views = vs }) 0).current after.rows → AreNet vs ((after, changes) ∷ [])
    go [] h e at is = absurd (cc)
    go (v ∷ []) h e at is =
        let keyed = subst (λ (c : Columns). IsTable c after.rows) at table in
        let brings = subst (λ l. AllByRecursion (Brings (λ t. has_numbers_within v.columns.kinds t ≡ true)) l) is (all_within v.columns.kinds changes within) in
        ((at, record { net = is; numbers = kept (λ t. has_numbers_within v.columns.kinds t ≡ true) v.columns.key v.current after.rows h.0.current.keyed keyed.keyed h.0.numbers brings }), tt)
    go (v ∷ w ∷ vs) h e at is = absurd (cc)
