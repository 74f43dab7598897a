-- What lawful histories from the first words keep, and what the store shows while a change is stored.
use Rattle.std.proofs.Common.{◌≡◌, inl, inr, ℕ, zero, suc, ◌+◌, ◌/◌, ◌<◌, ◌≤◌, length, take, map, refl, sym, ap, subst, ◌∙◌, arith}
use Rattle.std.specs.List.{range_with_len, filter_map, cons_option}
use Rattle.std.proofs.lemmas.Bool.{cases_lt, cases_eq}
use Rattle.std.proofs.Math.Seq.{take-length}
use Rattle.std.proofs.lemmas.List.{take_all}
use Rattle.whips_board.specs.History.{words_after}
use Rattle.whips_vnl.specs.Records.{visible}
use Rattle.whips_store.specs.Versions.{row_seen, rows_shown_at}
use Rattle.whips_store.specs.Stores.{view_in}
use Rattle.whips_slot_words.specs.Words.{view_shape, phase_of, headers, pick, taken, entry_of, IsLiveAt, layout}
use Rattle.whips_slot_words.specs.Stores.{AreHeaders}
use Rattle.whips_slot_words.specs.Slots.{steps_at}
use Rattle.whips_slot_words.specs.Laws.{HistoriesKeepSlots, TargetsAreNotTaken}
use Rattle.whips_slot_words.specs.StoreLaws.{PickedRowsAreShown, HalfStoredIsShown}
use Rattle.whips_slot_words.proofs.Headers.{at, takes_or_none, greatest_taken, greatest_none, entry_is}
use Rattle.whips_slot_words.proofs.Steps.{header_count, headers_after, phase_to, phase_between, stays_seen, own_header, written_not_taken}
use Rattle.whips_slot_words.proofs.First.{layout_headers}
use Rattle.whips_slot_words.proofs.Board.{shows_at}
use Rattle.whips_slot_words.proofs.Stored.{looks}

pub keeps : HistoriesKeepSlots
keeps shape values history some fits lawful x i slot =
    let first = layout shape values in
    let has = layout_headers shape values some fits in
    let are : AreHeaders ((phase_of (words_after first history) + 1) / 2) (headers shape (words_after first history) x i) = headers_after shape some first history has lawful x i slot in
    let n = header_count shape (words_after first history) x i in
    record {
      versions = λ c a e is most lt. let w = are.within e (omega (arith, lt, n)) in omega (arith, w, is, most);
      equal = λ e d le ld other same. elim (cases_eq (at (headers shape (words_after first history) x i) e) 0) [
        | inl blank ↦ blank
        | inr full ↦ absurd (other (are.apart e d (omega (arith, le, n)) (omega (arith, ld, n)) full (λ z. full (same ∙ z)) (omega (arith, same))))
      ];
      picks = λ v k l here there. ap row_seen (stays_seen shape some first history x i v k l has lawful slot here there);
    }

pub picked : PickedRowsAreShown
picked shape words s h x v lx =
    sym (ap (λ n. rows_shown_at n v (view_in s x).records) h.versions
    ∙ ap (rows_shown_at shape.versions v) (h.records x lx)
    ∙ fused 0 (view_shape shape x).slots (λ i lt. ap row_seen (shows_at shape words h.headers x i v (record { view = let c = h.count in omega (arith, lx, c); slot = omega (arith, lt) }))))
  where
    fused : (a m : ℕ) → ((i : ℕ) → i < a + m → row_seen (visible shape.versions v (steps_at shape words x i)) ≡ pick shape words x i v) → rows_shown_at shape.versions v (map (steps_at shape words x) (range_with_len a m)) ≡ filter_map (λ i. pick shape words x i v) (range_with_len a m)
    fused a zero same = refl
    fused a (suc m) same =
        ap (λ o. cons_option o (rows_shown_at shape.versions v (map (steps_at shape words x) (range_with_len (a + 1) m)))) (same a (omega arith))
        ∙ ap (cons_option (pick shape words x a v)) (fused (a + 1) m (λ i lt. same i (omega (arith, lt))))

pub half_stored : HalfStoredIsShown
half_stored shape words s stores k some h lawful same x i v slot live =
    let low = phase_to shape some words stores k lawful in
    let top : phase_of (words_after words (take k stores)) ≤ phase_of words = elim (cases_lt k (length stores)) [
      | inl lt ↦
          let b = phase_between shape some words stores k (length stores) (omega (arith, lt)) lawful in
          let e = ap (λ l. phase_of (words_after words l)) (take-length stores) in
          omega (arith, b, e, same)
      | inr ge ↦
          let e = ap (λ l. phase_of (words_after words l)) (take_all k stores ge) in
          omega (arith, e, same)
    ] in
    let level : phase_of (words_after words (take k stores)) ≡ phase_of words = omega (arith, low, top) in
    let there : IsLiveAt shape.versions (phase_of (words_after words (take k stores))) v = subst (λ p. IsLiveAt shape.versions p v) (sym level) live in
    stays_seen shape some words stores x i v k 0 h.headers lawful slot there live ∙ sym (looks shape words s h x i v slot)

pub not_taken : TargetsAreNotTaken
not_taken shape words some has x i v unset live full = elim (takes_or_none v (headers shape words x i)) [
  | inl (e, t) ↦
      let own = own_header shape some ((phase_of words + 1) / 2) e (headers shape words x i) (has x i unset.within) t.place t.some in
      let place : taken v (headers shape words x i) ≡ e = ap (λ h. entry_of h (headers shape words x i)) (greatest_taken v e (headers shape words x i) t) ∙ entry_is e (headers shape words x i) t.place own in
      λ same. written_not_taken shape some words x i v e has unset live t (sym place ∙ same)
  | inr none ↦ absurd (full (greatest_none v (headers shape words x i) none))
]
