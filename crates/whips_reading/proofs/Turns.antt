-- A loop in which each element of a list in turn makes something of what the ones before it made.
use Rattle.std.proofs.Common.{◌≡◌, ℕ, ◌+◌, ◌<◌, ◌≤◌, List, length, map, drop, get_or, Ok, Err, sym, ap, ◌∙◌}
use Rattle.std.proofs.lemmas.List.{at_drop_more, at_drop_all}
use Rattle.serde_json.specs.Data.{Data}
use Rattle.whips_reading.specs.Places.{Place, Refusal, in_element}
use Rattle.whips_reading.specs.Reading.{Read, ◌>>=◌, in_turn}

module _ {X S : Type 0} (see : X → Data) (step : S → Place → Data → Read S) (place : Place) where
  -- what the elements from number i on make of s
  abbrev pub turn_on : ℕ → S → List X → Read S
  turn_on i s xs = in_turn step place i s (map see xs)

  -- the element at i makes t of s
  pub turn_more : (s t : S) (xs : List X) (i : ℕ) (x : X) → i < length xs → x ≡ get_or xs i x → step s (in_element place i) (see x) ≡ Ok t → turn_on i s (drop i xs) ≡ turn_on (i + 1) t (drop (i + 1) xs)
  turn_more s t xs i x in_range is made =
      at_drop_more (turn_on i s) xs i x in_range
      ∙ ap (λ y. step s (in_element place i) (see y) >>= λ t. turn_on (i + 1) t (drop (i + 1) xs)) (sym is)
      ∙ ap (λ o. o >>= λ t. turn_on (i + 1) t (drop (i + 1) xs)) made

  -- the element at i is refused
  pub turn_refused : (s : S) (xs : List X) (i : ℕ) (x : X) (r : Refusal) → i < length xs → x ≡ get_or xs i x → step s (in_element place i) (see x) ≡ Err r → turn_on i s (drop i xs) ≡ Err r
  turn_refused s xs i x r in_range is refused =
      at_drop_more (turn_on i s) xs i x in_range
      ∙ ap (λ y. step s (in_element place i) (see y) >>= λ t. turn_on (i + 1) t (drop (i + 1) xs)) (sym is)
      ∙ ap (λ o. o >>= λ t. turn_on (i + 1) t (drop (i + 1) xs)) refused

  -- there are no more
  pub turn_all : (s : S) (xs : List X) (i : ℕ) → length xs ≤ i → turn_on i s (drop i xs) ≡ Ok s
  turn_all s xs i over = at_drop_all (turn_on i s) xs i over
