-- Faithful histories go on.
use Rattle.std.proofs.Common.{◌≡◌, ◌⊎◌, inl, inr, ℕ, zero, suc, ◌+◌, ◌-◌, ◌*◌, ◌<◌, ◌≤◌, List, [], ◌∷◌, ◌++◌, length, take, set, refl, sym, ap, subst, ◌∙◌, arith, length-append}
use Rattle.std.specs.List.{filter_map, cons_option, range_with_len}
use Rattle.std.proofs.lemmas.Bool.{cases_lt}
use Rattle.std.proofs.lemmas.List.{take-append-le, take_all}
use Rattle.std.proofs.Math.Seq.{take-append-add}
use Rattle.whips_model.specs.Tuples.{Codes}
use Rattle.whips_board.specs.History.{words_after, IsLawful}
use Rattle.whips_store.specs.Versions.{row_seen, rows_shown_at}
use Rattle.whips_store.specs.Stores.{StoreState, view_in}
use Rattle.whips_faithful_laws.specs.Faithful.{IsLiveVersion, AreRowsOf}
use Rattle.whips_flow.specs.Staleness.{IsStale, last_phase}
use Rattle.whips_slot_words.specs.Words.{Shape, view_shape, phase_of, seen_at, pick, IsLiveAt}
use Rattle.whips_slot_words.specs.Stores.{IsAllowed}
use Rattle.whips_slot_words.proofs.Steps.{phase_to, phase_between}
use Rattle.whips_slot_words.proofs.Stored.{looks}
use Rattle.whips_slot_words.proofs.Kept.{picked, half_stored}
use Rattle.whips_slot_laws.specs.Histories.{rows_picked, HoldsFaithful, EmptyIsFaithful, ChangesGoOn, PhasesGoOn, LiveIsLive}

pub after_more : (words : List ℕ) (history stores : List (ℕ × ℕ)) → words_after words (history ++ stores) ≡ words_after (words_after words history) stores
after_more words [] stores = refl
after_more words (s ∷ history) stores = after_more (set words s.0 s.1) history stores

lawful_more : (allows : List ℕ → ℕ → ℕ → Type 0) (words : List ℕ) (history stores : List (ℕ × ℕ)) → IsLawful allows words history → IsLawful allows (words_after words history) stores → IsLawful allows words (history ++ stores)
lawful_more allows words [] stores a b = b
lawful_more allows words (s ∷ history) stores a b = (a.0, lawful_more allows (set words s.0 s.1) history stores a.1 b)

-- what the words that hold a faithful store show
shown_now : (shape : Shape) (words : List ℕ) (keys : ℕ → List ℕ) (values : ℕ → ℕ → List Codes) (s : StoreState) → HoldsFaithful shape words keys values s → (x v : ℕ) → x < length shape.views → IsLiveAt shape.versions (phase_of words) v → AreRowsOf (keys x) (values x v) (rows_picked shape words x v)
shown_now shape words keys values s h x v lx live =
    let c = h.store.count in
    let p = h.store.phase in
    let n = h.store.versions in
    let l : x < length s.views = omega (arith, lx, c) in
    let low = live.committed in
    let high = live.fresh in
    let is : IsLiveVersion s.versions s.phase v = record { committed = omega (arith, low, p); fresh = λ stale. omega (arith, high, p, ap (λ m. 2 * (m - 1)) n, stale) } in
    subst (λ rows. AreRowsOf (keys x) (values x v) rows) (sym (picked shape words s h.store x v l))
    (subst (λ k. AreRowsOf k (values x v) (rows_shown_at s.versions v (view_in s x).records)) (h.same_keys x l) ((h.faithful x l).shown v is))

same_picked : (shape : Shape) (words others : List ℕ) (x v : ℕ) → ((i : ℕ) → i < (view_shape shape x).slots → seen_at shape words x i v ≡ seen_at shape others x i v) → rows_picked shape words x v ≡ rows_picked shape others x v
same_picked shape words others x v same = each 0 (view_shape shape x).slots (λ i lt. same i (omega (arith, lt)))
  where
    each : (a m : ℕ) → ((i : ℕ) → i < a + m → seen_at shape words x i v ≡ seen_at shape others x i v) → filter_map (λ i. pick shape words x i v) (range_with_len a m) ≡ filter_map (λ i. pick shape others x i v) (range_with_len a m)
    each a zero same = refl
    each a (suc m) same =
        ap (λ s. cons_option (row_seen s) (filter_map (λ i. pick shape words x i v) (range_with_len (a + 1) m))) (same a (omega arith))
        ∙ ap (cons_option (pick shape others x a v)) (each (a + 1) m (λ i lt. same i (omega (arith, lt))))

pub empty : EmptyIsFaithful
empty shape first keys values s some h = record { lawful = tt; shown = shown }
  where
    shown : (k x v : ℕ) → x < length shape.views → IsLiveAt shape.versions (phase_of (words_after first (take k []))) v → AreRowsOf (keys x) (values x v) (rows_picked shape (words_after first (take k [])) x v)
    shown zero x v lx live = shown_now shape first keys values s h x v lx live
    shown (suc k) x v lx live = shown_now shape first keys values s h x v lx live

-- a prefix of a longer history is one of the first part, or goes into the second
prefix_of : (first : List ℕ) (history stores : List (ℕ × ℕ)) (k : ℕ) → (take k (history ++ stores) ≡ take k history) ⊎ ((m : ℕ) × (words_after first (take k (history ++ stores)) ≡ words_after (words_after first history) (take m stores)))
prefix_of first history stores k = elim (cases_lt k (length history)) [
  | inl lt ↦ inl (take-append-le k history stores (omega (arith, lt)))
  | inr ge ↦
      let sum : k ≡ length history + (k - length history) = omega (arith, ge) in
      inr (k - length history, ap (λ n. words_after first (take n (history ++ stores))) sum ∙ ap (words_after first) (take-append-add history stores (k - length history)) ∙ after_more first history (take (k - length history) stores))
]

pub changes : ChangesGoOn
changes shape first keys values history stores s some faithful h lawful level = record {
  lawful = lawful_more (IsAllowed shape) first history stores faithful.lawful lawful;
  shown = λ k x v lx live. elim (prefix_of first history stores k) [
    | inl same ↦ subst (λ l. AreRowsOf (keys x) (values x v) (rows_picked shape (words_after first l) x v)) (sym same) (faithful.shown k x v lx (subst (λ l. IsLiveAt shape.versions (phase_of (words_after first l)) v) same live))
    | inr (m, is) ↦
        let words = words_after first history in
        let up = phase_to shape some words stores m lawful in
        let down : phase_of (words_after words (take m stores)) ≤ phase_of words = elim (cases_lt m (length stores)) [
          | inl lt ↦
              let b = phase_between shape some words stores m (length stores) (omega (arith, lt)) lawful in
              let e = ap (λ l. phase_of (words_after words l)) (take_all (length stores) stores (omega arith)) in
              omega (arith, b, e, level)
          | inr ge ↦ let e = ap (λ l. phase_of (words_after words l)) (take_all m stores ge) in omega (arith, e, level)
        ] in
        let now : phase_of (words_after first (take k (history ++ stores))) ≡ phase_of words = ap phase_of is ∙ (let e : phase_of (words_after words (take m stores)) ≡ phase_of words = omega (arith, up, down) in e) in
        let here : IsLiveAt shape.versions (phase_of words) v = subst (λ p. IsLiveAt shape.versions p v) now live in
        let same : rows_picked shape (words_after words (take m stores)) x v ≡ rows_picked shape words x v = same_picked shape (words_after words (take m stores)) words x v (λ i li.
        half_stored shape words s stores m some h.store lawful level x i v (record { view = lx; slot = li }) here
        ∙ looks shape words s h.store x i v (record { view = lx; slot = li })) in
        subst (λ rows. AreRowsOf (keys x) (values x v) rows) (sym (ap (λ w. rows_picked shape w x v) is ∙ same)) (shown_now shape words keys values s h x v lx here)
  ];
}

pub phases : PhasesGoOn
phases shape first keys values history t some faithful h = record {
  lawful = lawful_more (IsAllowed shape) first history ((0, suc (phase_of (words_after first history))) ∷ []) faithful.lawful (inl (refl, refl), tt);
  shown = λ k x v lx live. elim (cases_lt (length history) k) [
    | inl all ↦
        let whole : take k (history ++ (0, suc (phase_of (words_after first history))) ∷ []) ≡ history ++ (0, suc (phase_of (words_after first history))) ∷ [] = take_all k (history ++ (0, suc (phase_of (words_after first history))) ∷ []) (omega (arith, all, length-append history ((0, suc (phase_of (words_after first history))) ∷ []))) in
        subst (λ l. AreRowsOf (keys x) (values x v) (rows_picked shape (words_after first l) x v)) (sym whole)
        (shown_now shape (words_after first (history ++ (0, suc (phase_of (words_after first history))) ∷ [])) keys values t h x v lx (subst (λ l. IsLiveAt shape.versions (phase_of (words_after first l)) v) whole live))
    | inr part ↦
        let same : take k (history ++ (0, suc (phase_of (words_after first history))) ∷ []) ≡ take k history = take-append-le k history ((0, suc (phase_of (words_after first history))) ∷ []) part in
        subst (λ l. AreRowsOf (keys x) (values x v) (rows_picked shape (words_after first l) x v)) (sym same) (faithful.shown k x v lx (subst (λ l. IsLiveAt shape.versions (phase_of (words_after first l)) v) same live))
  ];
}

pub live_same : LiveIsLive
live_same n phase v = (λ l. record { committed = l.committed; fresh = λ stale. omega (arith, l.fresh, stale) }, λ l. record { committed = l.committed; fresh = within l.fresh })
  where
    within : (IsStale n v phase → ⊥) → phase ≤ last_phase n v
    within fresh = elim (cases_lt (last_phase n v) phase) [
      | inl stale ↦ absurd (fresh stale)
      | inr ge ↦ omega (arith, ge)
    ]
