-- How far rows lead, as bounds say it.
--
-- `noting_all`: once the bounds of a row are noted, the bounds draw what they drew before and what the row leads to, and nothing else. `past_undrawn`: where a row's number is past all bounds, none draws it.
--
-- The idea: of two bounds in one view, or in one source, the one that reaches as far as the other draws all that the other draws. So a bound that another one covers isn't needed, and the bounds stay as few as there are views and sources.
--
-- Four lemmas carry it: `covers_draws` (a bound draws what one that it covers draws), and `noted_kept`, `noted_sound` and `noted_full` (what a noted bound keeps, adds and draws).
use Rattle.std.proofs.Common.{◌≡◌, ℕ, ◌+◌, ◌<◌, ◌≤◌, Bool, true, false, ◌&&◌, List, [], ◌∷◌, ◌++◌, length, cond, eqb, ltb, leb, Option, Some, None, refl, sym, ap, subst, ◌∙◌, arith, ◌⊎◌, inl, inr, ⊎_elim}
use Rattle.std.specs.Prelude.{slice_get, not, filter}
use Rattle.std.specs.List.{list_any, list_all}
use Rattle.std.proofs.lemmas.Bool.{eqb-true, eq-eqb, ltb-true, lt-ltb, leb-true, le-leb, lt-leb, le-ltb, or_left, or_right, or_cases, and_from, and_parts, false≢true, cases_eq, cases_Bool}
use Rattle.std.proofs.lemmas.List.Folds.{list_any-append}
use Rattle.std.proofs.lemmas.Option.{slice_get_within}
use Rattle.whips_flow.specs.Painted.{Colour, black, white, red, Row, entry_needs, is_concerned}
use Rattle.whips_closure_laws.specs.Closure.{NeedsAt}
use Rattle.whips_closure_laws.proofs.Grown.{draws_entries}
use Rattle.whips_lists.proofs.InList.{In, any_from, any_to}
use Rattle.whips_paint.specs.declared.bounds.Side.{Side}
use Rattle.whips_paint.specs.declared.bounds.Side.TheVariants.{Needed, Needing}
use Rattle.whips_paint.specs.declared.bounds.Bound.{Bound}
use Rattle.whips_paint.specs.declared.bounds.Bound.TheVariants.{View, Source}
use Rattle.whips_paint.specs.Bounds.{leads, view_draws, source_draws, bound_draws, draws, is_as_far, covers, bound_number, is_past, uncovered, noted, entry_bound, option_bound, row_bound, IsNoted}

some_of : {A : Type 0} (a b : A) → Some a ≡ Some b → a ≡ b
some_of a b h = cc

-- ---- a bound that another one covers

view_up : (o : Option Colour) (side : Side) (k m n : ℕ) → is_as_far side m n ≡ true → view_draws o side k n ≡ true → view_draws o side k m ≡ true
view_up None side k m n far h = absurd (false≢true h)
view_up (Some c) Needed k m n far h = let p = and_parts (is_concerned (Some c)) (leb k n) h in let a : n ≤ m = leb-true n m far in let b : k ≤ n = leb-true k n p.1 in and_from (is_concerned (Some c)) (leb k m) p.0 (le-leb k m (omega arith))
view_up (Some black) Needing k m n far h = absurd (false≢true h)
view_up (Some white) Needing k m n far h = let a : m ≤ n = leb-true m n far in let b : n ≤ k = leb-true n k h in le-leb m k (omega arith)
view_up (Some (red j)) Needing k m n far h = let a : m ≤ n = leb-true m n far in let b : n ≤ j = leb-true n j h in le-leb m j (omega arith)

source_up : (side : Side) (k m n : ℕ) → is_as_far side m n ≡ true → source_draws side k n ≡ true → source_draws side k m ≡ true
source_up Needed k m n far h = let a : n ≤ m = leb-true n m far in let b : k < n = ltb-true k n h in lt-ltb k m (omega arith)
source_up Needing k m n far h = let a : m ≤ n = leb-true m n far in let b : n < k = ltb-true n k h in lt-ltb m k (omega arith)

covers_draws : (side : Side) (b c : Bound) (q : Row) → covers side b c ≡ true → bound_draws side q c ≡ true → bound_draws side q b ≡ true
covers_draws side (View x m) (View y n) q cov h =
    let p = and_parts (eqb x y) (is_as_far side m n) cov in
    view_up (slice_get q.entries x) side q.number m n p.1 (subst (λ z. view_draws (slice_get q.entries z) side q.number n ≡ true) (sym (eqb-true x y p.0)) h)
covers_draws side (View x m) (Source t n) q cov h = absurd (false≢true cov)
covers_draws side (Source s m) (View y n) q cov h = absurd (false≢true cov)
covers_draws side (Source s m) (Source t n) q cov h =
    let p = and_parts (eqb s t) (is_as_far side m n) cov in
    let d = and_parts (eqb t q.source) (source_draws side q.number n) h in
    and_from (eqb s q.source) (source_draws side q.number m) (subst (λ z. eqb z q.source ≡ true) (sym (eqb-true s t p.0)) d.0) (source_up side q.number m n p.1 d.1)

-- ---- rows past all bounds

and_false : (a b : Bool) → b ≡ false → (a && b) ≡ false
and_false true b h = h
and_false false b h = refl

past_one : (b : Bound) (n : ℕ) (q : Row) → bound_number b < n → n ≤ q.number → bound_draws Needed q b ≡ false
past_one (View x m) n q lt le = go (slice_get q.entries x)
  where
    go : (o : Option Colour) → view_draws o Needed q.number m ≡ false
    go None = refl
    go (Some c) = and_false (is_concerned (Some c)) (leb q.number m) (lt-leb q.number m (omega arith))
past_one (Source s m) n q lt le = and_false (eqb s q.source) (ltb q.number m) (le-ltb q.number m (omega arith))

pub past_undrawn : (side : Side) (bounds : List Bound) (n : ℕ) (q : Row) → is_past side bounds n ≡ true → n ≤ q.number → draws side bounds q ≡ false
past_undrawn Needed [] n q h le = refl
past_undrawn Needed (b ∷ bounds) n q h le = let p = and_parts (ltb (bound_number b) n) (list_all (λ b. ltb (bound_number b) n) bounds) h in rw (past_one b n q (ltb-true (bound_number b) n p.0) le) (past_undrawn Needed bounds n q p.1 le)
past_undrawn Needing bounds n q h le = absurd (false≢true h)

-- ---- a bound that is noted

in_kept : (p : Bound → Bool) (bs : List Bound) (x : Bound) → In x bs → p x ≡ true → In x (filter p bs)
in_kept p [] x i h = absurd i
in_kept p (y ∷ ys) x (inl e) h = rw (subst (λ z. p z ≡ true) (sym e) h) (inl e)
in_kept p (y ∷ ys) x (inr i) h = elim (p y) as (λ t. In x (cond t (y ∷ filter p ys) (filter p ys))) [
  | true ↦ inr (in_kept p ys x i h)
  | false ↦ in_kept p ys x i h
]

in_from_kept : (p : Bound → Bool) (bs : List Bound) (x : Bound) → In x (filter p bs) → In x bs
in_from_kept p [] x i = absurd i
in_from_kept p (y ∷ ys) x i = go (p y) i (in_from_kept p ys x)
  where
    go : (t : Bool) → In x (cond t (y ∷ filter p ys) (filter p ys)) → (In x (filter p ys) → In x ys) → In x (y ∷ ys)
    go true (inl e) more = inl e
    go true (inr i) more = inr (more i)
    go false i more = inr (more i)

module _ (side : Side) (b : Bound) (bounds : List Bound) (q : Row) where
  last_drawn : (bs : List Bound) → draws side (bs ++ b ∷ []) q ≡ true → (draws side bs q ≡ true) ⊎ (bound_draws side q b ≡ true)
  last_drawn bs h = ⊎_elim inl (λ e. ⊎_elim inr (λ f. absurd (false≢true f)) (or_cases (bound_draws side q b) false e)) (or_cases (draws side bs q) (list_any (bound_draws side q) (b ∷ [])) (sym (list_any-append (bound_draws side q) bs (b ∷ [])) ∙ h))

  draws_last : (bs : List Bound) → bound_draws side q b ≡ true → draws side (bs ++ b ∷ []) q ≡ true
  draws_last bs h = list_any-append (bound_draws side q) bs (b ∷ []) ∙ or_right (draws side bs q) (list_any (bound_draws side q) (b ∷ [])) (or_left (bound_draws side q b) false h)

  draws_left : (bs : List Bound) → draws side bs q ≡ true → draws side (bs ++ b ∷ []) q ≡ true
  draws_left bs h = list_any-append (bound_draws side q) bs (b ∷ []) ∙ or_left (draws side bs q) (list_any (bound_draws side q) (b ∷ [])) h

  uncovered_sound : draws side (uncovered side b bounds) q ≡ true → draws side bounds q ≡ true
  uncovered_sound h = let m = any_to (bound_draws side q) (uncovered side b bounds) h in any_from (bound_draws side q) bounds m.0 (in_from_kept (λ own. not (covers side b own)) bounds m.0 m.1) m.2

  pub noted_kept : draws side bounds q ≡ true → draws side (noted side b bounds) q ≡ true
  noted_kept h = go (list_any (λ own. covers side own b) bounds)
    where
      still : draws side (uncovered side b bounds ++ b ∷ []) q ≡ true
      still =
          let m = any_to (bound_draws side q) bounds h in
          ⊎_elim
          (λ c. draws_last (uncovered side b bounds) (covers_draws side b m.0 q c m.2))
          (λ c. draws_left (uncovered side b bounds) (any_from (bound_draws side q) (uncovered side b bounds) m.0 (in_kept (λ own. not (covers side b own)) bounds m.0 m.1 (ap not c)) m.2))
          (cases_Bool (covers side b m.0))

      go : (t : Bool) → draws side (cond t bounds (uncovered side b bounds ++ b ∷ [])) q ≡ true
      go true = h
      go false = still

  pub noted_sound : draws side (noted side b bounds) q ≡ true → (draws side bounds q ≡ true) ⊎ (bound_draws side q b ≡ true)
  noted_sound h = go (list_any (λ own. covers side own b) bounds) h
    where
      go : (t : Bool) → draws side (cond t bounds (uncovered side b bounds ++ b ∷ [])) q ≡ true → (draws side bounds q ≡ true) ⊎ (bound_draws side q b ≡ true)
      go true h = inl h
      go false h = ⊎_elim (λ d. inl (uncovered_sound d)) inr (last_drawn (uncovered side b bounds) h)

  pub noted_full : bound_draws side q b ≡ true → draws side (noted side b bounds) q ≡ true
  noted_full h = go (list_any (λ own. covers side own b) bounds) refl
    where
      go : (t : Bool) → list_any (λ own. covers side own b) bounds ≡ t → draws side (cond t bounds (uncovered side b bounds ++ b ∷ [])) q ≡ true
      go true e = let m = any_to (λ own. covers side own b) bounds e in any_from (bound_draws side q) bounds m.0 m.1 (covers_draws side m.0 b q m.2 h)
      go false e = draws_last (uncovered side b bounds) h

-- ---- where a row leads in one view

abbrev pub LeadsAt : Side → Row → Row → ℕ → Type 0
LeadsAt Needed r q x = NeedsAt r q x
LeadsAt Needing r q x = NeedsAt q r x

needed_mine : (n k m : ℕ) (c : Colour) → entry_bound c Needed n ≡ Some m → entry_needs n c k ≡ leb k m
needed_mine n k m black e = absurd (cc)
needed_mine n k m white e = ap (leb k) (some_of n m e)
needed_mine n k m (red j) e = ap (leb k) (some_of j m e)

needing_its : (n m : ℕ) (c : Colour) → entry_bound c Needing n ≡ Some m → (is_concerned (Some c) ≡ true) × (n ≡ m)
needing_its n m black e = absurd (cc)
needing_its n m white e = (refl, some_of n m e)
needing_its n m (red j) e = (refl, some_of n m e)

needed_none : (n k : ℕ) (c : Colour) → entry_bound c Needed n ≡ None → entry_needs n c k ≡ false
needed_none n k black e = refl
needed_none n k white e = absurd (cc)
needed_none n k (red j) e = absurd (cc)

needing_none : (n : ℕ) (c : Colour) → entry_bound c Needing n ≡ None → is_concerned (Some c) ≡ false
needing_none n black e = refl
needing_none n white e = absurd (cc)
needing_none n (red j) e = absurd (cc)

at_drawn : (side : Side) (r q : Row) (x m : ℕ) → row_bound side r x ≡ Some m → LeadsAt side r q x → bound_draws side q (View x m) ≡ true
at_drawn Needed r q x m e h =
    let bound : entry_bound h.mine Needed r.number ≡ Some m = subst (λ o. option_bound o Needed r.number ≡ Some m) h.mine_is e in
    subst (λ o. view_draws o Needed q.number m ≡ true) (sym h.its_is) (and_from (is_concerned (Some h.its)) (leb q.number m) h.concerned (sym (needed_mine r.number q.number m h.mine bound) ∙ h.needed))
at_drawn Needing r q x m e h =
    let bound : entry_bound h.its Needing r.number ≡ Some m = subst (λ o. option_bound o Needing r.number ≡ Some m) h.its_is e in
    subst (λ o. view_draws o Needing q.number m ≡ true) (sym h.mine_is) (subst (λ z. entry_needs q.number h.mine z ≡ true) (needing_its r.number m h.its bound).1 h.needed)

at_none : (side : Side) (r q : Row) (x : ℕ) → row_bound side r x ≡ None → LeadsAt side r q x → ⊥
at_none Needed r q x e h = false≢true (sym (needed_none r.number q.number h.mine (subst (λ o. option_bound o Needed r.number ≡ None) h.mine_is e)) ∙ h.needed)
at_none Needing r q x e h = false≢true (sym (needing_none r.number h.its (subst (λ o. option_bound o Needing r.number ≡ None) h.its_is e)) ∙ h.concerned)

at_led : (side : Side) (r q : Row) (x : ℕ) → LeadsAt side r q x → leads side r q ≡ true
at_led Needed r q x h = (draws_entries r q).1 (inl (x, h))
at_led Needing r q x h = (draws_entries q r).1 (inl (x, h))

drawn_led : (side : Side) (r q : Row) (x m : ℕ) → row_bound side r x ≡ Some m → bound_draws side q (View x m) ≡ true → leads side r q ≡ true
drawn_led side r q x m e h = go (slice_get r.entries x) (slice_get q.entries x) refl refl e h
  where
    go : (o p : Option Colour) → slice_get r.entries x ≡ o → slice_get q.entries x ≡ p → option_bound o side r.number ≡ Some m → view_draws p side q.number m ≡ true → leads side r q ≡ true
    go None p ho hp e h = absurd (cc)
    go (Some c) None ho hp e h = absurd (false≢true h)
    go (Some c) (Some d) ho hp e h = at_led side r q x (mine side e h)
      where
        mine : (side : Side) → entry_bound c side r.number ≡ Some m → view_draws (Some d) side q.number m ≡ true → LeadsAt side r q x
        mine Needed e h = let p = and_parts (is_concerned (Some d)) (leb q.number m) h in record { mine = c; its = d; mine_is = ho; its_is = hp; concerned = p.0; needed = needed_mine r.number q.number m c e ∙ p.1 }
        mine Needing e h = let p = needing_its r.number m c e in record { mine = d; its = c; mine_is = hp; its_is = ho; concerned = p.0; needed = subst (λ z. entry_needs q.number d z ≡ true) (sym p.1) h }

source_led : (side : Side) (r q : Row) → bound_draws side q (Source r.source r.number) ≡ true → leads side r q ≡ true
source_led Needed r q h = let p = and_parts (eqb r.source q.source) (ltb q.number r.number) h in (draws_entries r q).1 (inr (eqb-true r.source q.source p.0, ltb-true q.number r.number p.1))
source_led Needing r q h = let p = and_parts (eqb r.source q.source) (ltb r.number q.number) h in (draws_entries q r).1 (inr (sym (eqb-true r.source q.source p.0), ltb-true r.number q.number p.1))

-- what a row leads to, it leads to by an entry or by its source
led_how : (side : Side) (r q : Row) → leads side r q ≡ true → ((x : ℕ) × (x < length r.entries) × LeadsAt side r q x) ⊎ (bound_draws side q (Source r.source r.number) ≡ true)
led_how Needed r q h = ⊎_elim
    (λ f. inl (f.0, slice_get_within r.entries f.0 f.1.mine f.1.mine_is, f.1))
    (λ f. inr (and_from (eqb r.source q.source) (ltb q.number r.number) (eq-eqb r.source q.source f.0) (lt-ltb q.number r.number f.1)))
    ((draws_entries r q).0 h)
led_how Needing r q h = ⊎_elim
    (λ f. inl (f.0, slice_get_within r.entries f.0 f.1.its f.1.its_is, f.1))
    (λ f. inr (and_from (eqb r.source q.source) (ltb r.number q.number) (eq-eqb r.source q.source (sym f.0)) (lt-ltb r.number q.number f.1)))
    ((draws_entries q r).0 h)

-- ---- all bounds of a row

-- the bounds after the first x entries were looked at
pub record Noting (side : Side) (r : Row) (old now : List Bound) (x : ℕ) : Type 0 where
  pub kept : (q : Row) → draws side old q ≡ true → draws side now q ≡ true
  pub sound : (q : Row) → draws side now q ≡ true → (draws side old q ≡ true) ⊎ (leads side r q ≡ true)
  pub seen : (y : ℕ) (q : Row) → y < x → LeadsAt side r q y → draws side now q ≡ true

module _ (side : Side) (r : Row) (old : List Bound) where
  pub noting_none : Noting side r old old 0
  noting_none = record { kept = λ q h. h; sound = λ q h. inl h; seen = λ y q lt. absurd (omega arith) }

  pub noting_skip : (now : List Bound) (x : ℕ) → Noting side r old now x → row_bound side r x ≡ None → Noting side r old now (x + 1)
  noting_skip now x h e = record {
    kept = h.kept;
    sound = h.sound;
    seen = λ y q lt at. ⊎_elim (λ s. absurd (at_none side r q x e (subst (LeadsAt side r q) s at))) (λ n. h.seen y q (omega arith) at) (cases_eq y x);
  }

  pub noting_more : (now : List Bound) (x m : ℕ) → Noting side r old now x → row_bound side r x ≡ Some m → Noting side r old (noted side (View x m) now) (x + 1)
  noting_more now x m h e = record {
    kept = λ q d. noted_kept side (View x m) now q (h.kept q d);
    sound = λ q d. ⊎_elim (h.sound q) (λ b. inr (drawn_led side r q x m e b)) (noted_sound side (View x m) now q d);
    seen = λ y q lt at. ⊎_elim
        (λ s. noted_full side (View x m) now q (at_drawn side r q x m e (subst (LeadsAt side r q) s at)))
        (λ n. noted_kept side (View x m) now q (h.seen y q (omega arith) at))
        (cases_eq y x);
  }

  pub noting_all : (now : List Bound) (x : ℕ) → Noting side r old now x → length r.entries ≤ x → IsNoted side r old (noted side (Source r.source r.number) now)
  noting_all now x h all = record {
    kept = λ q d. noted_kept side own now q (h.kept q d);
    sound = λ q d. ⊎_elim (h.sound q) (λ b. inr (source_led side r q b)) (noted_sound side own now q d);
    full = λ q l. ⊎_elim
        (λ f. let within : f.0 < length r.entries = f.1 in noted_kept side own now q (h.seen f.0 q (omega arith) f.2))
        (λ b. noted_full side own now q b)
        (led_how side r q l);
  }
    where
      own : Bound
      own = Source r.source r.number
