-- The merge settles.
--
-- `released_kept`, `acted_kept`: after a row, or a list, has come to the merge and the merge has settled, what is on its way is accounted
-- for (`Accounted`) where it was before. `settled_is`: once it has settled no row is ready, and the first waiting list of each view waits
-- for a row that hasn't come (`Settled`).
--
-- The idea: a list that is due paints each white entry that it covers, so an entry that is still white waits for something else, which is
-- still there. A list that isn't due is above the last row that came. A row set that leaves takes its own row at least, so as many turns as
-- there are rows leave none that is ready.
--
-- Four lemmas carry it: `paint_views_from` (what a white entry says of the lists that were painted), `from_split` (a list is due or stays),
-- `swept_unready` (row sets leave until no row is ready) and `settled_accounted` (the accounts once the merge has settled).
use Rattle.std.proofs.Common.{◌≡◌, ℕ, zero, suc, ◌+◌, ◌<◌, ◌≤◌, Bool, true, false, not, List, [], ◌∷◌, ◌++◌, length, Some, None, cond, eqb, leb, refl, sym, ap, subst, ◌∙◌, arith, ◌⊎◌, inl, inr, ⊎_elim, append_assoc}
use Rattle.std.specs.Prelude.{slice_get, map, fold, find}
use Rattle.std.proofs.lemmas.Bool.{eqb-true, eqb-false, leb-true, leb-false}
use Rattle.std.proofs.lemmas.List.{length-map}
use Rattle.whips_lists.specs.Lists.{changed_at, front, without_front}
use Rattle.whips_flow.specs.Facts.{Facts}
use Rattle.whips_flow.specs.Painted.{Row, Colour, black, white, red, reddened_entry, painted_rows, painted_row, closure, is_ready, has_number}
use Rattle.whips_flow.specs.State.{Pipeline, Manager, Merge, oldest_list}
use Rattle.whips_flow.specs.Effects.{without_list, with_announced_row, with_waiting_list, after_rel, after_act}
use Rattle.whips_flow.specs.Settling.{due_lists, later_lists, rows_after_lists, painted_merge, with_set_taken, with_ready_taken, settled_merge}
use Rattle.whips_closure_laws.proofs.Grown.{closure_least}
use Rattle.whips_lists.proofs.InList.{In}
use Rattle.whips_lists.proofs.ByPlace.{in_append, in_left, in_right, in_filter, in_map, get_changed, get_cases, get_changed_other, get_map, get_mapped, find_in, fewer}
use Rattle.whips_lists.proofs.Options.{some_same, of_some_is}
use Rattle.whips_lists.proofs.Lists.{front_is, length_changed}
use Rattle.whips_settled_laws.proofs.Accounts.{HasFrom, Reason, has_from_left, has_from_last, latest, RisingRows, ManagerFits, Waits, Accounted, Settled}

-- ---- painting

-- where r was painted from, and what its white entries say of the lists that were painted
pub record From (z0 : ℕ) (lists : List (List ℕ)) (rows : List Row) (r : Row) : Type 0 where
  pub old : Row
  pub there : In old rows
  pub same : old.number ≡ r.number
  pub still : (z : ℕ) → slice_get r.entries z ≡ Some white → slice_get old.entries z ≡ Some white
  pub unpainted : (z i : ℕ) (js : List ℕ) → slice_get r.entries z ≡ Some white → z ≡ z0 + i → slice_get lists i ≡ Some js → HasFrom old.number js → ⊥

not_red : (j : ℕ) (c : Colour) → reddened_entry j c ≡ white → ⊥
not_red j black e = cc
not_red j white e = cc
not_red j (red k) e = cc

painted_white : (x j z : ℕ) (r : Row) → slice_get (painted_row x j r).entries z ≡ Some white → (slice_get r.entries z ≡ Some white) × (z ≡ x → r.number ≤ j → ⊥)
painted_white x j z r h = elim (leb r.number j) as (λ b. leb r.number j ≡ b → slice_get (cond b (changed_at x (reddened_entry j) r.entries) r.entries) z ≡ Some white → (slice_get r.entries z ≡ Some white) × (z ≡ x → r.number ≤ j → ⊥)) [
  | true ↦ λ e g. ⊎_elim
      (λ k. absurd (not_red j k.1.0 k.1.2))
      (λ k. (k.1, λ zx le. k.0 zx))
      (get_cases (reddened_entry j) x z r.entries white g)
  | false ↦ λ e g. (g, λ zx le. omega (arith, leb-false r.number j e, le))
] refl h

-- painting the lists of one view
pub record FromOne (x : ℕ) (js : List ℕ) (rows : List Row) (r : Row) : Type 0 where
  pub old : Row
  pub there : In old rows
  pub same : old.number ≡ r.number
  pub still : (z : ℕ) → slice_get r.entries z ≡ Some white → slice_get old.entries z ≡ Some white
  pub unpainted : (z : ℕ) → slice_get r.entries z ≡ Some white → z ≡ x → HasFrom old.number js → ⊥

paint_from : (x : ℕ) (js : List ℕ) (rows : List Row) (r : Row) → In r (fold (painted_rows x) rows js) → FromOne x js rows r
paint_from x [] rows r i = record { old = r; there = i; same = refl; still = λ z w. w; unpainted = λ z w zx h. h }
paint_from x (j ∷ js) rows r i =
    let one = paint_from x js (painted_rows x rows j) r i in
    let q = in_map (painted_row x j) one.old rows one.there in
    let num : q.0.number ≡ one.old.number = ap (λ w. w.number) q.2 in
    let before : (z : ℕ) → slice_get r.entries z ≡ Some white → (slice_get q.0.entries z ≡ Some white) × (z ≡ x → q.0.number ≤ j → ⊥) = λ z w. painted_white x j z q.0 (subst (λ v. slice_get v.entries z ≡ Some white) (sym q.2) (one.still z w)) in
    record {
      old = q.0;
      there = q.1;
      same = num ∙ one.same;
      still = λ z w. (before z w).0;
      unpainted = λ z w zx h. ⊎_elim (λ le. (before z w).1 zx le) (λ more. one.unpainted z w zx (subst (λ n. HasFrom n js) num more)) h;
    }

paint_views_from : (announced x : ℕ) (waiting : List (List ℕ)) (rows : List Row) (r : Row) → In r (rows_after_lists announced x waiting rows) → From x (map (due_lists announced) waiting) rows r
paint_views_from announced x [] rows r i = record { old = r; there = i; same = refl; still = λ z w. w; unpainted = λ z k js w e a h. nothing js a }
  where
    nothing : (js : List ℕ) → None ≡ Some js → ⊥
    nothing js a = cc
paint_views_from announced x (js ∷ waiting) rows r i =
    let more = paint_views_from announced (suc x) waiting (fold (painted_rows x) rows (due_lists announced js)) r i in
    let one = paint_from x (due_lists announced js) rows more.old more.there in
    record {
      old = one.old;
      there = one.there;
      same = one.same ∙ more.same;
      still = λ z w. one.still z (more.still z w);
      unpainted = λ z k ks w e a h. at z k ks w e a more one h;
    }
  where
    at : (z k : ℕ) (ks : List ℕ) → slice_get r.entries z ≡ Some white → z ≡ x + k → slice_get (map (due_lists announced) (js ∷ waiting)) k ≡ Some ks → (more : From (suc x) (map (due_lists announced) waiting) (fold (painted_rows x) rows (due_lists announced js)) r) → (one : FromOne x (due_lists announced js) rows more.old) → HasFrom one.old.number ks → ⊥
    at z zero ks w e a more one h = one.unpainted z (more.still z w) (omega arith) (subst (λ l. HasFrom one.old.number l) (sym (some_same (due_lists announced js) ks a)) h)
    at z (suc k) ks w e a more one h = more.unpainted z k ks w (omega arith) a (subst (λ n. HasFrom n ks) one.same h)

from_split : (n announced : ℕ) (js : List ℕ) → HasFrom n js → HasFrom n (due_lists announced js) ⊎ HasFrom n (later_lists announced js)
from_split n announced [] h = absurd h
from_split n announced (j ∷ js) h = elim (leb j announced) as (λ b. HasFrom n (cond b (j ∷ due_lists announced js) []) ⊎ HasFrom n (cond b (later_lists announced js) (j ∷ js))) [
  | true ↦ ⊎_elim (λ le. inl (inl le)) (λ more. ⊎_elim (λ d. inl (inr d)) (λ u. inr u) (from_split n announced js more)) h
  | false ↦ inr h
]

due_low : (n announced : ℕ) (js : List ℕ) → HasFrom n (due_lists announced js) → n ≤ announced
due_low n announced [] h = absurd h
due_low n announced (j ∷ js) h = elim (leb j announced) as (λ b. leb j announced ≡ b → HasFrom n (cond b (j ∷ due_lists announced js) []) → n ≤ announced) [
  | true ↦ λ e g. ⊎_elim (λ le. omega (arith, le, leb-true j announced e)) (λ more. due_low n announced js more) g
  | false ↦ λ e g. absurd g
] refl h

undue_in : (announced j : ℕ) (js : List ℕ) → In j (later_lists announced js) → In j js
undue_in announced j [] i = absurd i
undue_in announced j (k ∷ js) i = elim (leb k announced) as (λ b. In j (cond b (later_lists announced js) (k ∷ js)) → In j (k ∷ js)) [
  | true ↦ λ h. inr (undue_in announced j js h)
  | false ↦ λ h. h
] i

undue_front : (announced j : ℕ) (js : List ℕ) → front (later_lists announced js) ≡ Some j → announced < j
undue_front announced j [] e = absurd (cc)
undue_front announced j (k ∷ js) e = elim (leb k announced) as (λ b. leb k announced ≡ b → front (cond b (later_lists announced js) (k ∷ js)) ≡ Some j → announced < j) [
  | true ↦ λ b g. undue_front announced j js g
  | false ↦ λ b g. omega (arith, leb-false k announced b, some_same k j g)
] refl e

above_announced : (announced : ℕ) (rows : List Row) (r : Row) → RisingRows announced rows → In r rows → announced < r.number
above_announced announced [] r h i = absurd i
above_announced announced (q ∷ rows) r h (inl e) = omega (arith, h.0, ap (λ z. z.number) e)
above_announced announced (q ∷ rows) r h (inr i) = omega (arith, h.0, above_announced q.number rows r h.1 i)

-- ---- ready sets leave

pub record SweptFrom (m k : Merge) : Type 0 where
  pub waiting_lists : k.waiting_lists ≡ m.waiting_lists
  pub last_announced : k.table.last_announced ≡ m.table.last_announced
  pub rows : (r : Row) → In r k.table.rows → In r m.table.rows

swept_from : (n : ℕ) (m : Merge) → SweptFrom m (with_ready_taken n m)
swept_from zero m = record { waiting_lists = refl; last_announced = refl; rows = λ r i. i }
swept_from (suc n) m = elim (find (is_ready m.table.rows) m.table.rows) as (λ o. SweptFrom m (elim o as (λ _. Merge) [ None ↦ m | Some r ↦ with_ready_taken n (with_set_taken (closure m.table.rows r.number) m) ])) [
  | None ↦ record { waiting_lists = refl; last_announced = refl; rows = λ r i. i }
  | Some r ↦ let s = swept_from n (with_set_taken (closure m.table.rows r.number) m) in record { waiting_lists = s.waiting_lists; last_announced = s.last_announced; rows = λ q i. (in_filter (λ q. not (has_number (closure m.table.rows r.number) q.number)) q m.table.rows (s.rows q i)).0 }
]

find_short : (test : Row → Bool) (rows : List Row) → length rows ≤ 0 → find test rows ≡ None
find_short test [] h = refl
find_short test (r ∷ rows) h = absurd (omega arith)

swept_unready : (n : ℕ) (m : Merge) → length m.table.rows ≤ n → find (is_ready (with_ready_taken n m).table.rows) (with_ready_taken n m).table.rows ≡ None
swept_unready zero m h = find_short (is_ready m.table.rows) m.table.rows h
swept_unready (suc n) m h = elim (find (is_ready m.table.rows) m.table.rows) as (λ o. find (is_ready m.table.rows) m.table.rows ≡ o → let k : Merge = elim o as (λ _. Merge) [ None ↦ m | Some r ↦ with_ready_taken n (with_set_taken (closure m.table.rows r.number) m) ] in find (is_ready k.table.rows) k.table.rows ≡ None) [
  | None ↦ λ e. e
  | Some r ↦ λ e. let i = find_in (is_ready m.table.rows) m.table.rows r e in swept_unready n (with_set_taken (closure m.table.rows r.number) m) (omega (arith, fewer (λ q. has_number (closure m.table.rows r.number) q.number) m.table.rows r i (closure_least m.table.rows r i).own))
] refl

paint_length : (x : ℕ) (js : List ℕ) (rows : List Row) → length (fold (painted_rows x) rows js) ≡ length rows
paint_length x [] rows = refl
paint_length x (j ∷ js) rows = paint_length x js (painted_rows x rows j) ∙ length-map rows (painted_row x j)

paint_views_length : (announced x : ℕ) (waiting : List (List ℕ)) (rows : List Row) → length (rows_after_lists announced x waiting rows) ≡ length rows
paint_views_length announced x [] rows = refl
paint_views_length announced x (js ∷ waiting) rows = paint_views_length announced (suc x) waiting (fold (painted_rows x) rows (due_lists announced js)) ∙ paint_length x (due_lists announced js) rows

-- ---- settling

module _ (f : Facts) (p : Pipeline) (h : Accounted f p) where
  settled_accounted : Accounted f (record p { merge = settled_merge p.merge })
  settled_accounted =
      let s = swept_from (length p.merge.table.rows) (painted_merge p.merge) in
      let low : latest (settled_merge p.merge).table.last_announced p.announcements ≡ latest p.merge.table.last_announced p.announcements = ap (λ t. latest t p.announcements) s.last_announced in
      record {
        sources_long = h.sources_long;
        asks_long = h.asks_long;
        managers_long = h.managers_long;
        waiting_long = ap length s.waiting_lists ∙ (length-map p.merge.waiting_lists (later_lists p.merge.table.last_announced) ∙ h.waiting_long);
        fits = λ x m a. subst (λ t. ManagerFits p.sources t x m) (sym low) (h.fits x m a);
        waiting_low = λ x js j a i. let k = get_map (later_lists p.merge.table.last_announced) x p.merge.waiting_lists js (subst (λ l. slice_get l x ≡ Some js) s.waiting_lists a) in
            omega (arith, low, h.waiting_low x k.0 j k.1 (undue_in p.merge.table.last_announced j k.0 (subst (λ l. In j l) (sym k.2) i)));
        latest_low = omega (arith, low, h.latest_low);
        rising = subst (λ t. RisingRows t p.announcements) (sym s.last_announced) h.rising;
        waits = λ r x i w. ⊎_elim (λ j. in_table r x (s.rows r j) w s.waiting_lists) (λ j. on_the_way r x j w s.waiting_lists) (in_append r (settled_merge p.merge).table.rows p.announcements i);
      }
    where
      kept_reason : (m : Manager) (js : List ℕ) (n : ℕ) → (HasFrom n (due_lists p.merge.table.last_announced js) → ⊥) → Reason m js n → Reason m (later_lists p.merge.table.last_announced js) n
      kept_reason m js n undone (inl u) = inl u
      kept_reason m js n undone (inr (le, inl o)) = inr (le, inl o)
      kept_reason m js n undone (inr (le, inr (inl l))) = inr (le, inr (inl l))
      kept_reason m js n undone (inr (le, inr (inr k))) = inr (le, inr (inr (⊎_elim (λ d. absurd (undone d)) (λ u. u) (from_split n p.merge.table.last_announced js k))))

      there : (n x : ℕ) → Waits p.managers p.merge.waiting_lists x n → ((js : List ℕ) → slice_get p.merge.waiting_lists x ≡ Some js → HasFrom n (due_lists p.merge.table.last_announced js) → ⊥) → (settled_merge p.merge).waiting_lists ≡ map (later_lists p.merge.table.last_announced) p.merge.waiting_lists → Waits p.managers (settled_merge p.merge).waiting_lists x n
      there n x (m, js, a, b, why) undone same = (m, later_lists p.merge.table.last_announced js, a, subst (λ l. slice_get l x ≡ Some (later_lists p.merge.table.last_announced js)) (sym same) (get_mapped (later_lists p.merge.table.last_announced) x p.merge.waiting_lists js b), kept_reason m js n (undone js b) why)

      on_the_way : (r : Row) (x : ℕ) → In r p.announcements → slice_get r.entries x ≡ Some white → (settled_merge p.merge).waiting_lists ≡ map (later_lists p.merge.table.last_announced) p.merge.waiting_lists → Waits p.managers (settled_merge p.merge).waiting_lists x r.number
      on_the_way r x j w same = there r.number x (h.waits r x (in_right r p.merge.table.rows p.announcements j) w) (λ js a d. omega (arith, above_announced p.merge.table.last_announced p.announcements r h.rising j, due_low r.number p.merge.table.last_announced js d)) same

      in_table : (r : Row) (x : ℕ) → In r (rows_after_lists p.merge.table.last_announced 0 p.merge.waiting_lists p.merge.table.rows) → slice_get r.entries x ≡ Some white → (settled_merge p.merge).waiting_lists ≡ map (later_lists p.merge.table.last_announced) p.merge.waiting_lists → Waits p.managers (settled_merge p.merge).waiting_lists x r.number
      in_table r x j w same =
          let o = paint_views_from p.merge.table.last_announced 0 p.merge.waiting_lists p.merge.table.rows r j in
          subst (λ n. Waits p.managers (settled_merge p.merge).waiting_lists x n) o.same (there o.old.number x (h.waits o.old x (in_left o.old p.merge.table.rows p.announcements o.there) (o.still x w)) (λ js a d. o.unpainted x x (due_lists p.merge.table.last_announced js) w (omega arith) (get_mapped (due_lists p.merge.table.last_announced) x p.merge.waiting_lists js a) d) same)

pub settled_is : (m : Merge) → Settled (settled_merge m)
settled_is m =
    let s = swept_from (length m.table.rows) (painted_merge m) in
    record {
      fronts = λ x js j a e. let k = get_map (later_lists m.table.last_announced) x m.waiting_lists js (subst (λ l. slice_get l x ≡ Some js) s.waiting_lists a) in
          omega (arith, s.last_announced, undue_front m.table.last_announced j k.0 (ap front k.2 ∙ e));
      unready = swept_unready (length m.table.rows) (painted_merge m) (omega (arith, paint_views_length m.table.last_announced 0 m.waiting_lists m.table.rows));
    }

-- ---- the merge's events

came_kept : (f : Facts) (p : Pipeline) (r : Row) (rest : List Row) → Accounted f (record p { announcements = r ∷ rest }) → Accounted f (record p { announcements = rest; merge = with_announced_row r p.merge })
came_kept f p r rest h = record {
  sources_long = h.sources_long;
  asks_long = h.asks_long;
  managers_long = h.managers_long;
  waiting_long = h.waiting_long;
  fits = h.fits;
  waiting_low = h.waiting_low;
  latest_low = h.latest_low;
  rising = h.rising.1;
  waits = λ q x i w. h.waits q x (subst (λ l. In q l) (append_assoc p.merge.table.rows (r ∷ []) rest) i) w;
}

pub released_kept : (f : Facts) (p : Pipeline) (r : Row) → front p.announcements ≡ Some r → Accounted f p → Accounted f (after_rel (Some r) p)
released_kept f p r e h = settled_accounted f (record p { announcements = without_front p.announcements; merge = with_announced_row r p.merge }) (came_kept f p r (without_front p.announcements) (subst (λ cs. Accounted f (record p { announcements = cs })) (front_is p.announcements r e) h))

pub acted_kept : (f : Facts) (p : Pipeline) (x j : ℕ) → oldest_list p x ≡ Some j → Accounted f p → Accounted f (after_act x (Some j) p)
acted_kept f p x j e h = settled_accounted f (record p { managers = changed_at x without_list p.managers; merge = with_waiting_list x j p.merge }) (record {
  sources_long = h.sources_long;
  asks_long = h.asks_long;
  managers_long = length_changed without_list x p.managers ∙ h.managers_long;
  waiting_long = length_changed (λ js. js ++ j ∷ []) x p.merge.waiting_lists ∙ h.waiting_long;
  fits = λ z m a. fits z m (get_cases without_list x z p.managers m a);
  waiting_low = λ z js k a i. lows z js k i (get_cases (λ js. js ++ j ∷ []) x z p.merge.waiting_lists js a);
  latest_low = h.latest_low;
  rising = h.rising;
  waits = λ r z i w. wait r.number z (h.waits r z i w);
})
  where
    m0 : (m : Manager) × (slice_get p.managers x ≡ Some m) × (front m.lists ≡ Some j)
    m0 = of_some_is (slice_get p.managers x) (λ m. front m.lists) j e

    shape : m0.0.lists ≡ j ∷ without_front m0.0.lists
    shape = front_is m0.0.lists j m0.2

    old : ManagerFits p.sources (latest p.merge.table.last_announced p.announcements) x m0.0
    old = h.fits x m0.0 m0.1

    fits : (z : ℕ) (m : Manager) → ((z ≡ x) × ((o : Manager) × (slice_get p.managers x ≡ Some o) × (without_list o ≡ m))) ⊎ ((z ≡ x → ⊥) × (slice_get p.managers z ≡ Some m)) → ManagerFits p.sources (latest p.merge.table.last_announced p.announcements) z m
    fits z m (inl (zx, (o, a, q))) =
        let om : o ≡ m0.0 = some_same o m0.0 (sym a ∙ m0.1) in
        subst (λ w. ManagerFits p.sources (latest p.merge.table.last_announced p.announcements) w m) (sym zx) (subst (λ w. ManagerFits p.sources (latest p.merge.table.last_announced p.announcements) x w) (ap without_list (sym om) ∙ q) (record {
          tokens = old.tokens;
          rises = old.rises;
          lists = λ k i. old.lists k (subst (λ l. In k l) (sym shape) (inr i));
        }))
    fits z m (inr (ne, a)) = h.fits z m a

    lows : (z : ℕ) (js : List ℕ) (k : ℕ) → In k js → ((z ≡ x) × ((o : List ℕ) × (slice_get p.merge.waiting_lists x ≡ Some o) × (o ++ j ∷ [] ≡ js))) ⊎ ((z ≡ x → ⊥) × (slice_get p.merge.waiting_lists z ≡ Some js)) → k ≤ latest p.merge.table.last_announced p.announcements
    lows z js k i (inl (zx, (o, a, q))) = ⊎_elim (λ b. h.waiting_low x o k a b) (λ b. ⊎_elim (λ jk. omega (arith, jk, old.lists j (subst (λ l. In j l) (sym shape) (inl refl)))) (λ n. absurd n) b) (in_append k o (j ∷ []) (subst (λ l. In k l) (sym q) i))
    lows z js k i (inr (ne, a)) = h.waiting_low z js k a i

    moved : (js : List ℕ) (n : ℕ) → Reason m0.0 js n → Reason (without_list m0.0) (js ++ j ∷ []) n
    moved js n (inl u) = inl u
    moved js n (inr (le, inl o)) = inr (le, inl o)
    moved js n (inr (le, inr (inl l))) = inr (le, inr (⊎_elim (λ nj. inr (has_from_last n j js nj)) (λ more. inl more) (subst (λ l. HasFrom n l) shape l)))
    moved js n (inr (le, inr (inr k))) = inr (le, inr (inr (has_from_left n js (j ∷ []) k)))

    wait : (n z : ℕ) → Waits p.managers p.merge.waiting_lists z n → Waits (changed_at x without_list p.managers) (changed_at x (λ js. js ++ j ∷ []) p.merge.waiting_lists) z n
    wait n z (m, js, a, b, why) = go (eqb z x) refl
      where
        go : (c : Bool) → eqb z x ≡ c → Waits (changed_at x without_list p.managers) (changed_at x (λ js. js ++ j ∷ []) p.merge.waiting_lists) z n
        go false ne = (m, js, get_changed_other without_list x z p.managers (eqb-false z x ne) ∙ a, get_changed_other (λ js. js ++ j ∷ []) x z p.merge.waiting_lists (eqb-false z x ne) ∙ b, why)
        go true q =
            let zx = eqb-true z x q in
            let mm : m ≡ m0.0 = some_same m m0.0 (sym a ∙ (ap (λ w. slice_get p.managers w) zx ∙ m0.1)) in (
              without_list m0.0,
              js ++ j ∷ [],
              ap (λ w. slice_get (changed_at x without_list p.managers) w) zx ∙ get_changed without_list x p.managers m0.0 m0.1,
              ap (λ w. slice_get (changed_at x (λ js. js ++ j ∷ []) p.merge.waiting_lists) w) zx ∙ get_changed (λ js. js ++ j ∷ []) x p.merge.waiting_lists js (subst (λ w. slice_get p.merge.waiting_lists w ≡ Some js) zx b),
              moved js n (subst (λ w. Reason w js n) mm why),
            )
