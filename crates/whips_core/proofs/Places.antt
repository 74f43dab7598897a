-- A place of a list is written.
use Rattle.std.proofs.Common.{◌≡◌, ℕ, zero, suc, ◌<◌, ◌≤◌, true, List, [], ◌∷◌, length, set, get_or, Option, Some, None, refl, sym, ap, subst, ◌∙◌, arith, IfSome}
use Rattle.std.specs.Prelude.{slice_get, is_some}
use Rattle.std.specs.Option.{option_and_then}
use Rattle.whips_query.specs.declared.asks.Ask.{Ask}
use Rattle.whips_contents.specs.Contents.{ManagerInput, LoadedSource, LoadedManager}
use Rattle.whips_contents.specs.Events.{oldest_ask_to, source_after_answer, source_after_oldest_ask, manager_after_input}
use Rattle.std.proofs.lemmas.List.{length-map}
use Rattle.whips_flow.specs.State.{NumberedTransaction}
use Rattle.whips_order.specs.Numbering.{counts_of}
use Rattle.whips_flow.specs.State.{count_of_source}
use Rattle.whips_lists.proofs.Places.{length_places}
use Rattle.whips_lists.proofs.Options.{some_same}
use Rattle.whips_lists.specs.Lists.{changed_at, front, without_front, places_from}

module _ {A : Type 0} where
  at_place : (g : A → A) (xs : List A) (i : ℕ) (own new : A) → i < length xs → own ≡ get_or xs i own → new ≡ g own → set xs i new ≡ changed_at i g xs
  at_place g [] i own new lt is e = absurd (omega arith)
  at_place g (x ∷ xs) zero own new lt is e = ap (λ y. y ∷ xs) (e ∙ ap g is)
  at_place g (x ∷ xs) (suc i) own new lt is e = ap (λ l. x ∷ l) (at_place g xs i own new (omega arith) is e)

  or_place : (g : A → A) (xs : List A) (i : ℕ) (d new : A) → i < length xs → new ≡ g (get_or xs i d) → set xs i new ≡ changed_at i g xs
  or_place g [] i d new lt e = absurd (omega arith)
  or_place g (x ∷ xs) zero d new lt e = ap (λ y. y ∷ xs) e
  or_place g (x ∷ xs) (suc i) d new lt e = ap (λ l. x ∷ l) (or_place g xs i d new (omega arith) e)

  behind : (g : A → A) (xs : List A) (i : ℕ) → length xs ≤ i → xs ≡ changed_at i g xs
  behind g [] i h = refl
  behind g (x ∷ xs) zero h = absurd (omega arith)
  behind g (x ∷ xs) (suc i) h = ap (λ l. x ∷ l) (behind g xs i (omega arith))

  found : (xs : List A) (i : ℕ) (own : A) → i < length xs → own ≡ get_or xs i own → slice_get xs i ≡ Some own
  found [] i own lt is = absurd (omega arith)
  found (x ∷ xs) zero own lt is = ap (λ y. Some y) (sym is)
  found (x ∷ xs) (suc i) own lt is = found xs i own (omega arith) is

  missing : (xs : List A) (i : ℕ) → length xs ≤ i → slice_get xs i ≡ None
  missing [] i h = refl
  missing (x ∷ xs) zero h = absurd (omega arith)
  missing (x ∷ xs) (suc i) h = missing xs i (omega arith)

  module _ (n : ℕ) (xs : List A) (i : ℕ) (long : n ≡ length xs) where
    pub written : (g : A → A) (d new : A) → i < n → new ≡ g (get_or xs i d) → set xs i new ≡ changed_at i g xs
    written g d new lt e = or_place g xs i d new (omega (arith, long, lt)) e

    pub past : (g : A → A) → n ≤ i → xs ≡ changed_at i g xs
    past g h = behind g xs i (omega (arith, long, h))

    pub there : (own : A) → i < n → own ≡ get_or xs i own → slice_get xs i ≡ Some own
    there own lt is = found xs i own (omega (arith, long, lt)) is

    pub absent : n ≤ i → slice_get xs i ≡ None
    absent h = missing xs i (omega (arith, long, h))

-- ---- a queue of several

untaken : {A : Type 0} (qs : List (List A)) (x : ℕ) → option_and_then front (slice_get qs x) ≡ None → changed_at x without_front qs ≡ qs
untaken [] x e = refl
untaken ([] ∷ qs) zero e = refl
untaken ((a ∷ q) ∷ qs) zero e = absurd (cc)
untaken (q ∷ qs) (suc x) e = ap (λ l. q ∷ l) (untaken qs x e)

pub no_ask : (x : ℕ) (s : LoadedSource) (asks : List (List Ask)) → oldest_ask_to x s ≡ None → asks ≡ changed_at x without_front s.asks → record s { asks = asks } ≡ source_after_oldest_ask x s
no_ask x s asks e is = ap (λ (l : List (List Ask)). record s { asks = l }) (is ∙ untaken s.asks x e) ∙ sym (ap (λ o. source_after_answer x o s) e)

pub none_not : {A B : Type 0} (o : Option A) → is_some o ≡ true → o ≡ None → B
none_not None e n = absurd (cc)
none_not (Some x) e n = absurd (cc)

-- ---- the counts

pub counts_long : (sources : ℕ) (numbering : List NumberedTransaction) → length (counts_of sources numbering).places ≡ sources
counts_long sources numbering = length-map (places_from 0 sources) (count_of_source numbering) ∙ length_places 0 sources

-- ---- a manager takes its oldest message

own_is : (xs : List LoadedManager) (x : ℕ) (d m : LoadedManager) → slice_get xs x ≡ Some m → get_or xs x d ≡ m
own_is [] x d m e = absurd (cc)
own_is (y ∷ xs) zero d m e = some_same y m e
own_is (y ∷ xs) (suc x) d m e = own_is xs x d m e

module _ (xs : List LoadedManager) (x : ℕ) (d : LoadedManager) (P : ManagerInput → LoadedManager → Type 0) (h : IfSome (front (get_or xs x d).messages) (λ i. P i (get_or xs x d))) (m : LoadedManager) (i : ManagerInput) (at : slice_get xs x ≡ Some m) (first : front m.messages ≡ Some i) where
  pub of_oldest : P i m
  of_oldest = subst (λ o. IfSome o (λ i. P i m)) first (subst (λ (z : LoadedManager). IfSome (front z.messages) (λ i. P i z)) (own_is xs x d m at) h)

pub managed_place : (xs : List LoadedManager) (x : ℕ) (d new : LoadedManager) → x < length xs → IfSome (front (get_or xs x d).messages) (λ i. new ≡ manager_after_input i (get_or xs x d))
    → (m : LoadedManager) (i : ManagerInput) → slice_get xs x ≡ Some m → front m.messages ≡ Some i → set xs x new ≡ changed_at x (manager_after_input i) xs
managed_place xs x d new lt h m i at first =
    written (length xs) xs x refl (manager_after_input i) d new lt (of_oldest xs x d (λ i z. new ≡ manager_after_input i z) h m i at first ∙ ap (manager_after_input i) (sym (own_is xs x d m at)))

pub no_manager : {B : Type 0} (xs : List LoadedManager) (x : ℕ) (m : LoadedManager) → length xs ≤ x → slice_get xs x ≡ Some m → B
no_manager xs x m h e = let n = absent (length xs) xs x refl h in absurd (cc)
