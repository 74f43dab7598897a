-- Counts of one transaction more.
use Rattle.std.proofs.Common.{◌≡◌, Result, Ok, Err, IfOk, OnOk, ◌≢◌, ℕ, zero, suc, ◌+◌, ◌<◌, ◌==◌, Bool, cond, List, [], ◌∷◌, ◌++◌, length, map, filter, set, get_or, slice_get, Some, refl, sym, ap, ap₂, ◌∙◌, arith, add-one, length-append, eq-eqb, ne_eqb}
use Rattle.std.specs.Prelude.{replicate}
use Rattle.std.proofs.lemmas.List.Elements.{filter-append}
use Rattle.whips_lists.specs.Lists.{places_from}
use Rattle.whips_lists.proofs.Places.{places_next, mapped_at}
use Rattle.whips_flow.specs.State.{NumberedTransaction, count_of_source}
use Rattle.whips_states.specs.States.{Updates}
use Rattle.whips_states.specs.Concerns.{concerns}
use Rattle.whips_view.specs.ViewDefs.{View}
use Rattle.whips_order.specs.Numbering.{is_concerned, next_of, counts_of, Counts, concerned_views, forward_of}
use Rattle.whips_order.specs.declared.message.Message.{Message}
use Rattle.whips_order.specs.declared.message.Message.TheVariants.{Update}
use Rattle.whips_order.specs.declared.message.Forward.{Forward}
use Rattle.whips_order.specs.declared.message.Forward.TheVariants.{Numbered}

-- the numbers below n + 1 that pass
pub passing_more : (p : ℕ → Bool) (n : ℕ) → filter p (places_from 0 (n + 1)) ≡ filter p (places_from 0 n) ++ cond (p n) (n ∷ []) []
passing_more p n = ap (λ i. filter p (places_from 0 i)) (add-one n) ∙ ap (filter p) (places_next n) ∙ filter-append p (places_from 0 n) (n ∷ [])

pub no_counts : (n k : ℕ) → replicate n 0 ≡ map (count_of_source []) (places_from k n)
no_counts zero k = refl
no_counts (suc n) k = ap (λ l. 0 ∷ l) (no_counts n (suc k))

pub count_at : (numbering : List NumberedTransaction) (sources y : ℕ) → y < sources → get_or (map (count_of_source numbering) (places_from 0 sources)) y 0 ≡ count_of_source numbering y
count_at numbering sources y lt = let same : 0 + y ≡ y = omega arith in mapped_at (count_of_source numbering) sources 0 y 0 lt ∙ ap (count_of_source numbering) same

pub concerned_more : (t : Updates) (views : List View) (n : ℕ) (view : View) (before after : List ℕ) → slice_get views n ≡ Some view → before ≡ filter (λ x. is_concerned t (slice_get views x)) (places_from 0 n) → after ≡ before ++ cond (concerns view.parts t) (n ∷ []) []
    → after ≡ filter (λ x. is_concerned t (slice_get views x)) (places_from 0 (n + 1))
concerned_more t views n view before after there is more =
    more ∙ ap (λ l. l ++ cond (concerns view.parts t) (n ∷ []) []) is
    ∙ ap (λ b. filter (λ x. is_concerned t (slice_get views x)) (places_from 0 n) ++ cond b (n ∷ []) []) (sym (ap (is_concerned t) there))
    ∙ sym (passing_more (λ x. is_concerned t (slice_get views x)) n)

-- ---- one transaction more

module _ (numbering : List NumberedTransaction) (n : NumberedTransaction) where
  count_more : (y : ℕ) → count_of_source (numbering ++ n ∷ []) y ≡ count_of_source numbering y + length (cond (n.source == y) (n ∷ []) [])
  count_more y = ap length (filter-append (λ m. m.source == y) numbering (n ∷ [])) ∙ length-append (filter (λ m. m.source == y) numbering) (cond (n.source == y) (n ∷ []) [])

  count_same : (y : ℕ) → n.source ≡ y → count_of_source (numbering ++ n ∷ []) y ≡ suc (count_of_source numbering y)
  count_same y e = count_more y ∙ ap (λ b. count_of_source numbering y + length (cond b (n ∷ []) [])) (eq-eqb n.source y e) ∙ add-one (count_of_source numbering y)

  count_other : (y : ℕ) → n.source ≢ y → count_of_source (numbering ++ n ∷ []) y ≡ count_of_source numbering y
  count_other y ne = let none : count_of_source numbering y + 0 ≡ count_of_source numbering y = omega arith in count_more y ∙ ap (λ b. count_of_source numbering y + length (cond b (n ∷ []) [])) (ne_eqb n.source y ne) ∙ none

  later_counts : (m k : ℕ) → n.source < k → map (count_of_source (numbering ++ n ∷ [])) (places_from k m) ≡ map (count_of_source numbering) (places_from k m)
  later_counts zero k lt = refl
  later_counts (suc m) k lt = ap₂ (λ c l. c ∷ l) (count_other k (λ e. absurd (omega (arith, e, lt)))) (later_counts m (suc k) (omega arith))

  all_counts : (m k i : ℕ) → n.source ≡ k + i → map (count_of_source (numbering ++ n ∷ [])) (places_from k m) ≡ set (map (count_of_source numbering) (places_from k m)) i (suc (count_of_source numbering n.source))
  all_counts zero k i e = refl
  all_counts (suc m) k zero e = let same : n.source ≡ k = omega arith in ap₂ (λ c l. c ∷ l) (count_same k same ∙ ap (λ y. suc (count_of_source numbering y)) (sym same)) (later_counts m (suc k) (omega arith))
  all_counts (suc m) k (suc i) e = let other : n.source ≢ k = (λ same. absurd (omega (arith, e, same))) in let at : n.source ≡ suc k + i = omega arith in ap₂ (λ c l. c ∷ l) (count_other k other) (all_counts m (suc k) i at)

-- the counts after the source's next transaction
pub counts_more : (sources : ℕ) (numbering : List NumberedTransaction) (y : ℕ) (old new : Counts) → y < sources → old ≡ counts_of sources numbering → new ≡ record { total = suc old.total; places = set old.places y (suc (get_or old.places y 0)) }
    → new ≡ counts_of sources (numbering ++ next_of numbering y ∷ [])
counts_more sources numbering y old new lt is made =
    let at_place : y ≡ 0 + y = omega arith in
    let total : suc (length numbering) ≡ length (numbering ++ next_of numbering y ∷ []) = sym (length-append numbering (next_of numbering y ∷ []) ∙ add-one (length numbering)) in
    let at : get_or (map (count_of_source numbering) (places_from 0 sources)) y 0 ≡ count_of_source numbering y = count_at numbering sources y lt in
    let places : set (map (count_of_source numbering) (places_from 0 sources)) y (suc (get_or (map (count_of_source numbering) (places_from 0 sources)) y 0)) ≡ map (count_of_source (numbering ++ next_of numbering y ∷ [])) (places_from 0 sources) =
    ap (λ c. set (map (count_of_source numbering) (places_from 0 sources)) y (suc c)) at ∙ sym (all_counts numbering (next_of numbering y) sources 0 y at_place) in
    made ∙ ap (λ (c : Counts). record { total = suc c.total; places = set c.places y (suc (get_or c.places y 0)) }) is ∙ ap₂ (λ t p. record { total = t; places = p }) total places

-- the same, said of what a call gave
pub counted_of : {T E : Type 0} (r : Result T E) (sources : ℕ) (numbering : List NumberedTransaction) (y : ℕ) (old new : Counts) → y < sources → old ≡ counts_of sources numbering
    → OnOk r (new ≡ record { total = suc old.total; places = set old.places y (suc (get_or old.places y 0)) }) → OnOk r (new ≡ counts_of sources (numbering ++ next_of numbering y ∷ []))
counted_of (Ok x) sources numbering y old new lt is made = counts_more sources numbering y old new lt is made
counted_of (Err e) sources numbering y old new lt is made = made

pub forwarded_of : {E : Type 0} (r : Result Forward E) (sources : ℕ) (views : List View) (numbering : List NumberedTransaction) (y : ℕ) (t : Updates) (m : Message) (old : Counts) → y < sources → old ≡ counts_of sources numbering → m ≡ Update t
    → IfOk r (λ f. f ≡ Numbered (suc old.total) (suc (get_or old.places y 0)) t (concerned_views views t)) → IfOk r (λ f. f ≡ forward_of views numbering y m)
forwarded_of (Err e) sources views numbering y t m old lt is same h = h
forwarded_of (Ok f) sources views numbering y t m old lt is same h =
    h ∙ ap (λ (c : Counts). Numbered (suc c.total) (suc (get_or c.places y 0)) t (concerned_views views t)) is
    ∙ ap (λ c. Numbered (suc (length numbering)) (suc c) t (concerned_views views t)) (count_at numbering sources y lt)
    ∙ ap (forward_of views numbering y) (sym same)
