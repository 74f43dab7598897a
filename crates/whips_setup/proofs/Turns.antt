-- A turn of the loop over the transactions of a source.
use Rattle.std.proofs.Common.{◌≡◌, ℕ, suc, ◌+◌, ◌<◌, ◌≤◌, ◌&&◌, ◌-◌, nat_le, Bool, true, List, [], ◌∷◌, length, take, drop, get_or, Some, None, refl, sym, ap, ◌∙◌, arith}
use Rattle.std.specs.Option.{option_or}
use Rattle.std.specs.List.{list_all}
use Rattle.std.proofs.lemmas.Bool.{and_parts}
use Rattle.std.proofs.lemmas.Bool.Decides.{nat_tests}
use Rattle.std.proofs.lemmas.List.{at_drop_more, at_drop_all, take_all}
use Rattle.whips_model.specs.Relation.{Table}
use Rattle.whips_states.specs.States.{Updates, applied}
use Rattle.whips_view.specs.ViewDefs.{is_within}
use Rattle.whips_setup.specs.declared.error.BatchErr.{BatchErr}
use Rattle.whips_setup.specs.declared.validity.ItemPlace.{ItemPlace}
use Rattle.whips_setup.specs.Workloads.{has_width, is_update_within, is_transaction_within, transaction_refusal, list_refusal}
use Rattle.whips_setup.proofs.Valid.{have_widths, all_widths_stay}

module _ {X : Type 0} (p : X → Bool) (xs : List X) (i : ℕ) (x : X) (in_range : i < length xs) (is : x ≡ get_or xs i x) where
  all_turn : list_all p (drop i xs) ≡ true → (p x && list_all p (drop (i + 1) xs)) ≡ true
  all_turn e = ap (λ y. p y && list_all p (drop (i + 1) xs)) is ∙ sym (at_drop_more (list_all p) xs i x in_range) ∙ e

  pub all_first : list_all p (drop i xs) ≡ true → p x ≡ true
  all_first e = (and_parts (p x) (list_all p (drop (i + 1) xs)) (all_turn e)).0

  pub all_later : list_all p (drop i xs) ≡ true → list_all p (drop (i + 1) xs) ≡ true
  all_later e = (and_parts (p x) (list_all p (drop (i + 1) xs)) (all_turn e)).1

module _ (homes : List ℕ) (source place : ℕ) (db : List Table) (list : List Updates) (i : ℕ) (t : Updates) (in_range : i < length list) (is : t ≡ get_or list i t) where
  abbrev at : ItemPlace
  at = record { source = source; place = place; item = 1 }

  turn : list_refusal homes source place db (drop i list) ≡ option_or (transaction_refusal homes at db t) (list_refusal homes source (suc place) (applied db t) (drop (i + 1) list))
  turn = at_drop_more (list_refusal homes source place db) list i t in_range ∙ ap (λ u. option_or (transaction_refusal homes at db u) (list_refusal homes source (suc place) (applied db u) (drop (i + 1) list))) (sym is)

  -- the transaction is made
  pub list_more : transaction_refusal homes at db t ≡ None → list_refusal homes source place db (drop i list) ≡ list_refusal homes source (suc place) (applied db t) (drop (i + 1) list)
  list_more e = turn ∙ ap (λ o. option_or o (list_refusal homes source (suc place) (applied db t) (drop (i + 1) list))) e

  -- the transaction is refused
  pub list_refused : (x : BatchErr) → transaction_refusal homes at db t ≡ Some x → list_refusal homes source place db (drop i list) ≡ Some x
  list_refused x e = turn ∙ ap (λ o. option_or o (list_refusal homes source (suc place) (applied db t) (drop (i + 1) list))) e

  pub widths_later : have_widths db (drop i list) ≡ true → have_widths (applied db t) (drop (i + 1) list) ≡ true
  widths_later e = all_widths_stay db t (drop (i + 1) list) ∙ all_later (list_all (has_width db)) list i t in_range is e

-- all transactions are made
pub list_done : (homes : List ℕ) (source place : ℕ) (db : List Table) (list : List Updates) (i : ℕ) → length list ≤ i → list_refusal homes source place db (drop i list) ≡ None
list_done homes source place db list i over = at_drop_all (list_refusal homes source place db) list i over

-- a transaction within its limits is short
pub few_updates : (db : List Table) (t : Updates) → is_transaction_within db t ≡ true → length t ≤ 16
few_updates db t e =
    let counted = and_parts (is_within 1 16 (length t)) (list_all (is_update_within db) t) e in
    let both = and_parts (nat_le 1 (length t)) (nat_le (length t) 16) counted.0 in
    grind (arith, nat_tests)

-- what holds of all holds of all but the first
pub all_rest : {X : Type 0} (p : X → Bool) (xs : List X) → list_all p xs ≡ true → list_all p (take (length xs - 1) (drop 1 xs)) ≡ true
all_rest p [] e = refl
all_rest p (x ∷ xs) e = ap (list_all p) (take_all (suc (length xs) - 1) xs (omega arith)) ∙ (and_parts (p x) (list_all p xs) e).1
