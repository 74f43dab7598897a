-- What a turn may pick of a session: how many events, and which is at a place.
use Rattle.std.proofs.Common.{◌≡◌, ℕ, zero, suc, ◌+◌, ◌-◌, ◌<◌, ◌≤◌, Bool, true, false, List, [], ◌∷◌, ◌++◌, length, length-append, Option, Some, None, cond, refl, sym, ap, ◌∙◌, arith}
use Rattle.std.specs.Prelude.{map, slice_get, is_some}
use Rattle.std.proofs.lemmas.List.{length-map}
use Rattle.whips_lists.specs.Lists.{places_from}
use Rattle.whips_lists.proofs.Places.{length_places}
use Rattle.whips_flow.specs.declared.event.Event.TheVariants.{SessionScan}
use Rattle.whips_runs.specs.Sessions.{Session, not_open, open_at, scanning, is_open, scan_of}
use Rattle.whips_world.specs.Picks.{scans_of, choices_behind, session_choices}
use Rattle.whips_world.proofs.Counted.{got_front, got_behind}

scans_long : (m : Bool) (v s : ℕ) → length (scans_of m v s) ≡ cond m v 0
scans_long false v s = refl
scans_long true v s = length-map (places_from 0 v) (SessionScan s) ∙ length_places 0 v

scan_from : (s k n i : ℕ) → i < n → slice_get (map (SessionScan s) (places_from k n)) i ≡ Some (SessionScan s (k + i))
scan_from s k zero i lt = absurd (omega (arith, lt))
scan_from s k (suc n) zero lt = let e : k ≡ k + 0 = omega arith in ap (λ x. Some (SessionScan s x)) e
scan_from s k (suc n) (suc i) lt = let e : suc k + i ≡ k + suc i = omega arith in scan_from s (suc k) n i (omega (arith, lt)) ∙ ap (λ x. Some (SessionScan s x)) e

scan_at : (m : Bool) (v s i : ℕ) → i < cond m v 0 → slice_get (scans_of m v s) i ≡ Some (SessionScan s i)
scan_at false v s i lt = absurd (omega (arith, lt))
scan_at true v s i lt = let e : 0 + i ≡ i = omega arith in scan_from s 0 v i lt ∙ ap (λ x. Some (SessionScan s x)) e

module _ (m : Bool) (v s : ℕ) where
  -- a session that is open
  is_joined : (o : Option Session) → is_open o ≡ true → session_choices m v s o ≡ scans_of m v s ++ choices_behind (is_some (scan_of o)) s
  is_joined None h = absurd (cc)
  is_joined (Some not_open) h = absurd (cc)
  is_joined (Some (open_at n)) h = refl
  is_joined (Some (scanning scan)) h = refl

  behind_long : (b : Bool) → length (choices_behind b s) ≡ cond b 2 1
  behind_long true = refl
  behind_long false = refl

  pub open_long : (o : Option Session) (n : ℕ) (b : Bool) → is_open o ≡ true → is_some (scan_of o) ≡ b → n ≡ cond m v 0 → n + cond b 2 1 ≡ length (session_choices m v s o)
  open_long o n b h g e = sym (ap length (is_joined o h) ∙ (length-append (scans_of m v s) (choices_behind (is_some (scan_of o)) s)
      ∙ (ap (λ k. k + length (choices_behind (is_some (scan_of o)) s)) (scans_long m v s ∙ sym e) ∙ ap (λ k. n + k) (behind_long (is_some (scan_of o)) ∙ ap (λ b. cond b 2 1) g))))

  pub open_scan : (o : Option Session) (i n : ℕ) → is_open o ≡ true → n ≡ cond m v 0 → i < n → Some (SessionScan s i) ≡ slice_get (session_choices m v s o) i
  open_scan o i n h e lt =
      sym (ap (λ l. slice_get l i) (is_joined o h) ∙ (got_front (scans_of m v s) (choices_behind (is_some (scan_of o)) s) i (omega (arith, lt, e, scans_long m v s)) ∙ scan_at m v s i (omega (arith, lt, e))))

  pub open_behind : (o : Option Session) (i n : ℕ) (b : Bool) → is_open o ≡ true → is_some (scan_of o) ≡ b → n ≡ cond m v 0 → n ≤ i → slice_get (choices_behind b s) (i - n) ≡ slice_get (session_choices m v s o) i
  open_behind o i n b h g e le =
      ap (λ b. slice_get (choices_behind b s) (i - n)) (sym g)
      ∙ sym (ap (λ l. slice_get l i) (is_joined o h) ∙ got_behind (scans_of m v s) (choices_behind (is_some (scan_of o)) s) i (i - n) (omega (arith, le, e, scans_long m v s)))

  -- one event at least, of a session that is there
  some_choice : (o : Session) → 1 ≤ length (session_choices m v s (Some o))
  some_choice not_open = omega arith
  some_choice (open_at n) = omega (arith, length-append (scans_of m v s) (choices_behind false s))
  some_choice (scanning scan) = omega (arith, length-append (scans_of m v s) (choices_behind true s))

pub some_there : (m : Bool) (v s i : ℕ) (os : List Session) → i < length os → 1 ≤ length (session_choices m v s (slice_get os i))
some_there m v s i [] lt = absurd (omega (arith, lt))
some_there m v s zero (o ∷ os) lt = some_choice m v s o
some_there m v s (suc i) (o ∷ os) lt = some_there m v s i os (omega (arith, lt))

-- the scans of a session are at most as many as the views
pub few : (m : Bool) (v n k : ℕ) → n ≡ cond m v 0 → k ≤ 2 → n + k ≤ v + 2
few true v n k e le = omega (arith, e, le)
few false v n k e le = omega (arith, e, le)
