-- A table with no ready row still has none after a row that waits for a list has come.
use Rattle.std.proofs.Common.{◌≡◌, ℕ, zero, suc, ◌+◌, ◌<◌, ◌≤◌, Bool, true, false, List, [], ◌∷◌, ◌++◌, length, cond, eqb, Option, Some, None, refl, sym, ap, subst, ◌∙◌, arith, ◌⊎◌, inl, inr, ⊎_elim}
use Rattle.std.specs.List.{All, list_any, find}
use Rattle.std.specs.Option.{option_map}
use Rattle.std.proofs.lemmas.Bool.{cases_eq, eq-eqb, or_left}
use Rattle.whips_lists.specs.Lists.{places_from}
use Rattle.whips_flow.specs.Painted.{Row, white, black, is_white, needs, has_number, closure, is_waiting, is_ready}
use Rattle.whips_flow.specs.State.{Merge}
use Rattle.whips_flow.specs.Settling.{painted_merge, rows_after_lists}
use Rattle.whips_closure_laws.specs.Closure.{IsClosed}
use Rattle.whips_closure_laws.proofs.Grown.{closure_least}
use Rattle.whips_lists.proofs.InList.{In, all_in, all_from, any_from}
use Rattle.whips_settled_laws.proofs.Settles.{settled_is}
use Rattle.whips_paint.specs.Table.{ready_numbers, new_entries}
use Rattle.whips_paint.proofs.Entries.{list_any-map}
use Rattle.whips_paint.proofs.Ready.{waiting_in, not_ready_from, waiting_not_ready}
use Rattle.whips_merge.specs.Taking.{rows_after_sets, merge_of}
use Rattle.whips_merge.specs.Merging.{announced_row}
use Rattle.whips_merge.proofs.Forming.{machine_taken}

none_found : (test : Row → Bool) (rows : List Row) → find test rows ≡ None → (x : Row) → In x rows → test x ≡ false
none_found test [] h x i = absurd i
none_found test (r ∷ rows) h x i = go (test r) refl h (none_found test rows) i
  where
    go : (b : Bool) → test r ≡ b → cond b (Some r) (find test rows) ≡ None → (find test rows ≡ None → (x : Row) → In x rows → test x ≡ false) → In x (r ∷ rows) → test x ≡ false
    go true e h more i = absurd (cc)
    go false e h more (inl s) = subst (λ z. test z ≡ false) s e
    go false e h more (inr i) = more h x i

found_none : (test : Row → Bool) (rows : List Row) → ((x : Row) → In x rows → test x ≡ false) → find test rows ≡ None
found_none test [] h = refl
found_none test (r ∷ rows) h = rw (h r (inl refl)) (found_none test rows (λ x i. h x (inr i)))

in_left : (x r : Row) (rows : List Row) → In x rows → In x (rows ++ r ∷ [])
in_left x r [] i = absurd i
in_left x r (q ∷ rows) (inl e) = inl e
in_left x r (q ∷ rows) (inr i) = inr (in_left x r rows i)

in_last : (r : Row) (rows : List Row) → In r (rows ++ r ∷ [])
in_last r [] = inl refl
in_last r (q ∷ rows) = inr (in_last r rows)

in_pushed : (x r : Row) (rows : List Row) → In x (rows ++ r ∷ []) → In x rows ⊎ (r ≡ x)
in_pushed x r [] (inl e) = inr e
in_pushed x r [] (inr i) = absurd i
in_pushed x r (q ∷ rows) (inl e) = inl (inl e)
in_pushed x r (q ∷ rows) (inr i) = ⊎_elim (λ j. inl (inr j)) inr (in_pushed x r rows i)

pub no_numbers : (rows : List Row) → ready_numbers rows ≡ None → find (is_ready rows) rows ≡ None
no_numbers rows h = go (find (is_ready rows) rows) h
  where
    go : (o : Option Row) → option_map (λ r. closure rows r.number) o ≡ None → o ≡ None
    go None e = refl
    go (Some r) e = absurd (cc)

-- a closure only grows where a row comes
closure_grows : (rows : List Row) (r q : Row) → In q rows → (n : ℕ) → has_number (closure rows q.number) n ≡ true → has_number (closure (rows ++ r ∷ []) q.number) n ≡ true
closure_grows rows r q i n h = (closure_least rows q i).least numbers (closure_least all q (in_left q r rows i)).own closed n h
  where
    all : List Row
    all = rows ++ r ∷ []

    numbers : List ℕ
    numbers = closure (rows ++ r ∷ []) q.number

    closed : IsClosed rows (closure (rows ++ r ∷ []) q.number)
    closed = all_from _ rows (λ a ia h. all_from _ rows (λ b ib n. all_in (λ b. needs a b ≡ true → has_number (closure (rows ++ r ∷ []) q.number) b.number ≡ true) (rows ++ r ∷ []) b (all_in _ (rows ++ r ∷ []) a (closure_least (rows ++ r ∷ []) q (in_left q r rows i)).closed (in_left a r rows ia) h) (in_left b r rows ib) n))

pub unready_push : (rows : List Row) (r : Row) → is_waiting r ≡ true → ready_numbers rows ≡ None → ready_numbers (rows ++ r ∷ []) ≡ None
unready_push rows r waits none = ap (option_map (λ q. closure (rows ++ r ∷ []) q.number)) (found_none (is_ready (rows ++ r ∷ [])) (rows ++ r ∷ []) (λ x i. ⊎_elim (old x) (λ e. subst (λ z. is_ready (rows ++ r ∷ []) z ≡ false) e (waiting_not_ready (rows ++ r ∷ []) r (in_last r rows) waits)) (in_pushed x r rows i)))
  where
    old : (x : Row) → In x rows → is_ready (rows ++ r ∷ []) x ≡ false
    old x i =
        let w = waiting_in rows x (none_found (is_ready rows) rows (no_numbers rows none) x i) in
        not_ready_from (rows ++ r ∷ []) x w.0 (in_left w.0 r rows w.1) (closure_grows rows r x i w.0.number w.2) w.3

-- ---- a transaction that is announced waits

in_places : (k n x : ℕ) → k ≤ x → x < k + n → In x (places_from k n)
in_places k zero x low high = absurd (omega arith)
in_places k (suc n) x low high = ⊎_elim (λ e. inl (sym e)) (λ ne. inr (in_places (suc k) n x (omega arith) (omega arith))) (cases_eq x k)

white_there : (views : ℕ) (ks : List ℕ) → 0 < length ks → All (λ x. x < views) ks → list_any is_white (new_entries views ks) ≡ true
white_there views [] some there = absurd (omega arith)
white_there views (k ∷ ks) some there =
    let low : k < views = there 0 0 some in
    list_any-map is_white (λ x. cond (has_number (k ∷ ks) x) white black) (places_from 0 views)
    ∙ any_from (λ x. is_white (cond (has_number (k ∷ ks) x) white black)) (places_from 0 views) k (in_places 0 views k (omega arith) (omega arith))
    (ap (λ b. is_white (cond b white black)) (or_left (eqb k k) (list_any (λ m. eqb m k) ks) (eq-eqb k k refl)))

pub unready_announced : (rows : List Row) (views number source place : ℕ) (ks : List ℕ) → 0 < length ks → All (λ x. x < views) ks → ready_numbers rows ≡ None → ready_numbers (rows ++ announced_row views number source place ks ∷ []) ≡ None
unready_announced rows views number source place ks some there none = unready_push rows (announced_row views number source place ks) (white_there views ks some there) none

-- ---- no row is ready after a merge has settled

pub unready_after : (last : ℕ) (rows0 rows1 rows2 : List Row) (waiting : List (List ℕ)) → rows1 ≡ rows_after_lists last 0 waiting rows0 → rows2 ≡ rows_after_sets (length rows0) rows1 → ready_numbers rows2 ≡ None
unready_after last rows0 rows1 rows2 waiting painted left =
    let m : Merge = merge_of last rows0 waiting [] in
    let is : (painted_merge m).table.rows ≡ rows1 = sym painted in
    let ends = ap (λ (k : Merge). k.table.rows) (machine_taken (length rows0) (painted_merge m)) ∙ ap (rows_after_sets (length rows0)) is ∙ sym left in
    ap (option_map (λ r. closure rows2 r.number)) (subst (λ rows. find (is_ready rows) rows ≡ None) ends (settled_is m).unready)
