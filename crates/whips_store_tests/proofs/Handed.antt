-- Changes that may be handed to a store of two views.
use Rattle.std.proofs.Common.{◌≡◌, List, [], ◌∷◌, length, true, refl, ap, ◌∙◌}
use Rattle.std.specs.Prelude.{nat_le, ◌&&◌}
use Rattle.std.specs.List.{list_all, AllByRecursion}
use Rattle.std.proofs.lemmas.Bool.{and_parts}
use Rattle.whips_model.specs.declared.Kind.{Kind}
use Rattle.whips_model.specs.declared.Kind.TheVariants.{Number, Text}
use Rattle.whips_model.specs.Tuples.{Codes}
use Rattle.whips_model.specs.Relation.{Table}
use Rattle.whips_rel.specs.declared.update.Change.{Change}
use Rattle.whips_changes.specs.Changes.{net_changes}
use Rattle.whips_setup.specs.Limits.{has_numbers_within}
use Rattle.whips_store.specs.Stores.{ViewState, StoreState, view_in}
use Rattle.whips_store.specs.Calls.{AreNet, AreNetChanges}
use Rattle.whips_store_tests.specs.Numbers.{are_within}

-- whatever the kinds are
numbers_within : (kinds : List Kind) (t : Codes) → are_within t ≡ true → has_numbers_within kinds t ≡ true
numbers_within [] t e = refl
numbers_within (kind ∷ kinds) [] e = refl
numbers_within (Number ∷ kinds) (code ∷ t) e = let both = and_parts (nat_le code 999999999999) (are_within t) e in ap (λ b. b && has_numbers_within kinds t) both.0 ∙ numbers_within kinds t both.1
numbers_within (Text ∷ kinds) (code ∷ t) e = let both = and_parts (nat_le code 999999999999) (are_within t) e in numbers_within kinds t both.1

pub all_within : (kinds : List Kind) (rows : List Codes) → list_all are_within rows ≡ true → AllByRecursion (λ t. has_numbers_within kinds t ≡ true) rows
all_within kinds [] e = tt
all_within kinds (t ∷ rows) e = let both = and_parts (are_within t) (list_all are_within rows) e in (numbers_within kinds t both.0, all_within kinds rows both.1)

-- the net changes from the view's rows to these rows
pub net_handed : (v : ViewState) (before : Table) (after : List Codes) (changes : List Change) → before ≡ record { columns = v.columns; rows = v.current } → list_all are_within after ≡ true → changes ≡ net_changes before.columns.key before.rows after → AreNetChanges v after changes
net_handed v before after changes same within net = record { net = net ∙ ap (λ (t : Table). net_changes t.columns.key t.rows after) same; numbers = all_within v.columns.kinds after within }

pub handed : (s : StoreState) (first second : Table) (ones others : List Change) → length s.views ≡ 2 → first.columns ≡ (view_in s 0).columns → AreNetChanges (view_in s 0) first.rows ones
    → second.columns ≡ (view_in s 1).columns → AreNetChanges (view_in s 1) second.rows others → AreNet s.views ((first, ones) ∷ (second, others) ∷ [])
handed s first second ones others = go s.views
  where
    go : (vs : List ViewState) → length vs ≡ 2 → first.columns ≡ (view_in (record s { views = vs }) 0).columns → AreNetChanges (view_in (record s { views = vs }) 0) first.rows ones
        → second.columns ≡ (view_in (record s { views = vs }) 1).columns → AreNetChanges (view_in (record s { views = vs }) 1) second.rows others → AreNet vs ((first, ones) ∷ (second, others) ∷ [])
    go [] e h0 n0 h1 n1 = absurd (cc)
    go (v ∷ []) e h0 n0 h1 n1 = absurd (cc)
    go (v ∷ w ∷ []) e h0 n0 h1 n1 = ((h0, n0), ((h1, n1), tt))
    go (v ∷ w ∷ u ∷ vs) e h0 n0 h1 n1 = absurd (cc)
