-- The last cut of a run has everything of each view.
use Rattle.std.proofs.Common.{◌≡◌, ℕ, zero, suc, ◌-◌, ◌<◌, ◌≤◌, false, List, [], ◌∷◌, length, drop, Some, None, slice_get, slice_index, refl, sym, ap, subst, ◌∙◌, arith, ⊎_elim}
use Rattle.std.specs.Prelude.{map}
use Rattle.std.specs.Option.{option_and_then, unwrap_or}
use Rattle.std.specs.List.{AllByRecursion}
use Rattle.std.proofs.lemmas.Bool.{cases_lt}
use Rattle.std.proofs.lemmas.List.{length-map}
use Rattle.whips_model.specs.Views.{ViewData}
use Rattle.whips_states.specs.States.{Updates}
use Rattle.whips_states.specs.Concerns.{concerns}
use Rattle.whips_flow.specs.State.{start}
use Rattle.whips_flow.specs.Progress.{after}
use Rattle.whips_cut_laws.proofs.Orderly.{after_kept, start_orderly}
use Rattle.whips_lists.proofs.ByPlace.{get_within}
use Rattle.whips_settled_laws.proofs.Ends.{nothing_left, after_sound, start_sound}
use Rattle.whips_settled_laws.proofs.Complete.{complete}
use Rattle.whips_facts.specs.Scripts.{Script, SlottedView, slotted_views, value_at, view_at, no_view, transaction_at}
use Rattle.whips_facts.specs.ScriptFacts.{facts_of}
use Rattle.whips_facts.specs.Values.{Changes, LastCutHasAll}
use Rattle.whips_facts_laws.proofs.Premises.{asks_there}
use Rattle.whips_value_laws.proofs.Tails.{AreApart, TailsUnconcerned, tails_keep}

all_from_places : {A : Type 0} (P : A → Type 0) (xs : List A) → ((i : ℕ) (x : A) → slice_get xs i ≡ Some x → P x) → AllByRecursion P xs
all_from_places P [] h = tt
all_from_places P (x ∷ xs) h = (h zero x refl, all_from_places P xs (λ i y e. h (suc i) y e))

pub apart_from : (work : List (List Updates)) → ((y z : ℕ) (ts us : List Updates) (r : ℕ) → slice_get work y ≡ Some ts → slice_get work z ≡ Some us → Changes ts r → Changes us r → y ≡ z) → AreApart work
apart_from [] g = tt
apart_from (ts ∷ work) g = (
  all_from_places (λ us. (r : ℕ) → Changes ts r → Changes us r → ⊥) work (λ i us e r a b. let same : zero ≡ suc i = g zero (suc i) ts us r refl e a b in absurd (omega (arith, same))),
  apart_from work (λ y z ts us r a b c d. omega (arith, g (suc y) (suc z) ts us r a b c d)),
)

pub drop_all : (P : Updates → Type 0) (c : ℕ) (ts : List Updates) → ((j : ℕ) (t : Updates) → c ≤ j → slice_get ts j ≡ Some t → P t) → AllByRecursion P (drop c ts)
drop_all P zero ts g = all_from_places P ts (λ j t e. g j t (omega arith) e)
drop_all P (suc c) [] g = tt
drop_all P (suc c) (t ∷ ts) g = drop_all P c ts (λ j u le e. g (suc j) u (omega (arith, le)) e)

tails_from : (view : ViewData) (work : List (List Updates)) (cut : List ℕ) → length cut ≡ length work → ((y : ℕ) (ts : List Updates) (j : ℕ) (t : Updates) → slice_get work y ≡ Some ts → slice_index cut y ≤ j → slice_get ts j ≡ Some t → concerns view t ≡ false) → TailsUnconcerned view work cut
tails_from view [] cut long g = tt
tails_from view (ts ∷ work) [] long g = absurd (omega (arith, long))
tails_from view (ts ∷ work) (c ∷ cut) long g = (drop_all (λ t. concerns view t ≡ false) c ts (λ j t le e. g zero ts j t refl le e), tails_from view work cut (omega (arith, long)) (λ y us j t a le e. g (suc y) us j t a le e))

index_of_lengths : (work : List (List Updates)) (y : ℕ) (ts : List Updates) → slice_get work y ≡ Some ts → slice_index (map (λ us. length us) work) y ≡ length ts
index_of_lengths [] y ts e = absurd (cc)
index_of_lengths (us ∷ work) zero ts e = let same : us ≡ ts = cc in ap length same
index_of_lengths (us ∷ work) (suc y) ts e = index_of_lengths work y ts e

pub transaction_there : (s : Script) (y j : ℕ) (ts : List Updates) (t : Updates) → slice_get s.work y ≡ Some ts → slice_get ts j ≡ Some t → transaction_at s y (suc j) ≡ t
transaction_there s y j ts t a b =
    let one : suc j - 1 ≡ j = omega arith in
    ap (λ o. unwrap_or (option_and_then (λ ts. slice_get ts (suc j - 1)) o) []) a ∙ (ap (λ n. unwrap_or (slice_get ts n) []) one ∙ ap (λ o. unwrap_or o []) b)

pub past_the_end : {A : Type 0} (xs : List A) (i : ℕ) → length xs ≤ i → slice_get xs i ≡ None
past_the_end [] i le = refl
past_the_end (x ∷ xs) zero le = absurd (omega (arith, le))
past_the_end (x ∷ xs) (suc i) le = past_the_end xs i (omega (arith, le))

pub has_all : LastCutHasAll
has_all s valid es x none = ⊎_elim here past (cases_lt x (length (slotted_views s)))
  where
    here : x < length (slotted_views s) → value_at s (view_at s x) (after (facts_of s) (start (facts_of s)) es).writer.cut ≡ value_at s (view_at s x) (map length s.work)
    here lt =
        let f = facts_of s in
        let p = after f (start f) es in
        let h = after_kept f es (start f) (start_orderly f) in
        let settled = nothing_left f es (asks_there s valid.sources) none in
        let sound = after_sound f (asks_there s valid.sources) es (start f) (start_sound f) in
        let long : length p.writer.cut ≡ length s.work = omega (arith, ap length (h.turns.level settled.phase), h.width, sound.accounted.sources_long, length-map s.work (λ ts. length ts)) in
        tails_keep (view_at s x).base s.setup.initial s.work p.writer.cut valid.tables (apart_from s.work valid.apart) valid.valid
        (tails_from (view_at s x).base s.work p.writer.cut long (λ y ts j t a le e.
        subst (λ u. concerns (view_at s x).base u ≡ false) (transaction_there s y j ts t a e)
        (complete f es (asks_there s valid.sources) none y (suc j) x (omega (arith, le)) (omega (arith, index_of_lengths s.work y ts a, get_within j ts t e)) (omega (arith, lt, length-map (slotted_views s) (λ (v : SlottedView). v.slots))))))

    -- no view: a row of no columns, whatever the relations
    past : length (slotted_views s) ≤ x → value_at s (view_at s x) (after (facts_of s) (start (facts_of s)) es).writer.cut ≡ value_at s (view_at s x) (map length s.work)
    past le =
        let gone = ap (λ o. unwrap_or (option_and_then (λ v. Some v.view) o) no_view) (past_the_end (slotted_views s) x le) in
        subst (λ v. value_at s v (after (facts_of s) (start (facts_of s)) es).writer.cut ≡ value_at s v (map length s.work)) (sym gone) refl
