-- The event that a pick chooses from two lists, one behind the other.
use Rattle.std.proofs.Common.{◌≡◌, ℕ, ◌+◌, ◌*◌, ◌/◌, ◌<◌, ◌≤◌, ⊎_elim, List, ◌++◌, length, length-append, None, sym, ap, ◌∙◌, arith}
use Rattle.std.specs.Prelude.{min, slice_get}
use Rattle.std.proofs.Math.Nat.{min-eq_left, min-eq_right, mod-eq_of_lt, mod-lt, div-lt_iff_lt-mul}
use Rattle.std.proofs.lemmas.Bool.{cases_lt}
use Rattle.std.proofs.lemmas.Option.{slice_get_past}
use Rattle.whips_flow.specs.declared.event.Event.{Event}
use Rattle.whips_pick.specs.Picks.{next_state, picked}
use Rattle.whips_runs.specs.Picks.{picked_choice}
use Rattle.whips_world.proofs.Counted.{got_front, got_behind}

-- the high bits of a state are a number of 16 bits
high : (start : ℕ) → next_state start / 65536 < 65536
high start = (div-lt_iff_lt-mul {k = 65536} {x = next_state start} {y = 65536} (omega arith)).1 (mod-lt (start * 1664525 + 1013904223) (omega arith))

-- a pick of more is a pick of 65,536
pub picked_least : (start n : ℕ) → picked (min 65536 n) (next_state start) ≡ picked n (next_state start)
picked_least start n = ⊎_elim
    (λ less. ap (λ k. picked k (next_state start)) (min-eq_right {n = n} {m = 65536} (omega (arith, less))))
    (λ more. ap (λ k. picked k (next_state start)) (min-eq_left {n = 65536} {m = n} more)
    ∙ (mod-eq_of_lt (high start) ∙ sym (mod-eq_of_lt (omega (arith, high start, more)))))
    (cases_lt n 65536)

module _ (first rest : List Event) (start : ℕ) where
  same_count : length (first ++ rest) ≡ length first + length rest
  same_count = length-append first rest

  choice_is : (k : ℕ) → k ≡ picked (min 65536 (length first + length rest)) (next_state start) → picked_choice (next_state start) (first ++ rest) ≡ slice_get (first ++ rest) k
  choice_is k e = ap (slice_get (first ++ rest)) (sym (e ∙ (picked_least start (length first + length rest) ∙ ap (λ n. picked n (next_state start)) (sym same_count))))

  -- none, of none
  pub no_choice : (count : ℕ) → count ≡ min 65536 (length first + length rest) → count ≡ 0 → None ≡ picked_choice (next_state start) (first ++ rest)
  no_choice count e zero_is = sym (slice_get_past (first ++ rest) (picked (length (first ++ rest)) (next_state start)) (omega (arith, same_count, none)))
    where
      none : length first + length rest ≤ 0
      none = ⊎_elim
          (λ less. let m = min-eq_right {n = length first + length rest} {m = 65536} (omega (arith, less)) in omega (arith, e, zero_is, m))
          (λ more. let m = min-eq_left {n = 65536} {m = length first + length rest} more in absurd (omega (arith, e, zero_is, m)))
          (cases_lt (length first + length rest) 65536)

  -- one of the first list
  pub choice_first : (k : ℕ) → k ≡ picked (min 65536 (length first + length rest)) (next_state start) → k < length first → slice_get first k ≡ picked_choice (next_state start) (first ++ rest)
  choice_first k e lt = sym (choice_is k e ∙ got_front first rest k lt)

  -- one of the other
  pub choice_rest : (k n : ℕ) → k ≡ picked (min 65536 (length first + length rest)) (next_state start) → n + length first ≡ k → slice_get rest n ≡ picked_choice (next_state start) (first ++ rest)
  choice_rest k n e at = sym (choice_is k e ∙ got_behind first rest k n at)
