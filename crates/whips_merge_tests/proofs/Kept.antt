-- The cuts of a merge count as many sources as before, whatever comes: a cut is raised in its places.
use Rattle.std.proofs.Common.{◌≡◌, ℕ, List, [], ◌∷◌, ◌++◌, length, drop, IfSome, refl, ◌∙◌}
use Rattle.std.specs.Prelude.{max, fold}
use Rattle.std.specs.List.{AllByRecursion}
use Rattle.whips_lists.specs.Lists.{front, without_front}
use Rattle.whips_flow.specs.Painted.{Row}
use Rattle.whips_flow.specs.Settling.{settled_merge}
use Rattle.whips_flow.specs.Effects.{with_announced_row, with_waiting_list}
use Rattle.whips_flow.specs.Cuts.{raised_cut, cut_after}
use Rattle.whips_lists.proofs.Lists.{length_changed}
use Rattle.whips_actions.specs.declared.action.ActionList.{ActionList}
use Rattle.whips_merge.specs.declared.lists.Transaction.{Transaction}
use Rattle.whips_merge.specs.Merging.{MergeState, transaction_of, with_transaction, with_list, after_rel, after_act, after_next}
use Rattle.whips_merge_tests.specs.Cuts.{HasCuts}

after_length : (rows : List Row) (cut : List ℕ) → length (cut_after cut rows) ≡ length cut
after_length [] cut = refl
after_length (r ∷ rows) cut = after_length rows (raised_cut cut r) ∙ length_changed (max r.place) r.source cut

all_append : {X : Type 0} (P : X → Type 0) (xs : List X) (x : X) → AllByRecursion P xs → P x → AllByRecursion P (xs ++ x ∷ [])
all_append P [] x h p = (p, tt)
all_append P (y ∷ xs) x h p = (h.0, all_append P xs x h.1 p)

formed : (n : ℕ) (sets : List (List Row)) (s : MergeState) → HasCuts n s → HasCuts n (fold with_transaction s sets)
formed n [] s h = h
formed n (rows ∷ sets) s h = formed n sets (with_transaction s rows) (record {
  cut = after_length rows s.cut ∙ h.cut;
  transactions = all_append (λ (t : Transaction). length t.cut ≡ n) s.transactions (transaction_of rows s.lists s.cut) h.transactions (after_length rows s.cut ∙ h.cut);
})

pub rel_keeps : (n : ℕ) (r : Row) (s : MergeState) → HasCuts n s → HasCuts n (after_rel r s)
rel_keeps n r s h =
    let m = settled_merge (with_announced_row r s.merge) in
    formed n (drop (length s.merge.row_sets) m.row_sets) (record s { merge = m }) (record { cut = h.cut; transactions = h.transactions })

pub act_keeps : (n : ℕ) (l : ActionList) (s : MergeState) → HasCuts n s → HasCuts n (after_act l s)
act_keeps n l s h =
    let m = settled_merge (with_waiting_list l.view l.upto s.merge) in
    formed n (drop (length s.merge.row_sets) m.row_sets) (record (with_list l s) { merge = m }) (record { cut = h.cut; transactions = h.transactions })

all_behind : (P : Transaction → Type 0) (ts : List Transaction) → AllByRecursion P ts → AllByRecursion P (without_front ts)
all_behind P [] h = tt
all_behind P (t ∷ ts) h = h.1

pub next_keeps : (n : ℕ) (s : MergeState) → HasCuts n s → HasCuts n (after_next s)
next_keeps n s h = record { cut = h.cut; transactions = all_behind (λ t. length t.cut ≡ n) s.transactions h.transactions }

pub front_cuts : (n : ℕ) (ts : List Transaction) → AllByRecursion (λ (u : Transaction). length u.cut ≡ n) ts → IfSome (front ts) (λ (t : Transaction). length t.cut ≡ n)
front_cuts n [] h = tt
front_cuts n (t ∷ ts) h = h.0
