-- A manager that takes a message, and the integrator, keep the accounts.
--
-- `manage_kept`, `integrate_kept`: after a manager has taken a message, and after the integrator has taken one of a source, what is on its
-- way is accounted for (`Accounted`) where it was before.
--
-- The idea: a manager that takes a transaction asks the first steps of its queries, or gives its list at once. So an entry that waited for
-- the transaction now waits for a query or for the list. A reply leads its query to the next step, which is asked, or closes it. The
-- integrator gives a transaction a number above all others and sends it to each manager whose view it concerns, and the white entries of
-- its row wait for these. An answer is handed on as a reply.
--
-- Five lemmas carry it: `update_kept` and `reply_kept` (the two messages of a manager), `numbered_kept` (a transaction is numbered),
-- `answered_kept` (an answer is handed on) and `pop_flying` (what is on its way once an answer has left its source).
use Rattle.std.proofs.Common.{◌≡◌, ℕ, zero, suc, ◌+◌, ◌-◌, ◌<◌, Bool, true, false, not, List, [], ◌∷◌, ◌++◌, length, Some, cond, eqb, ltb, refl, sym, ap, subst, ◌∙◌, arith, ◌⊎◌, inl, inr, ⊎_elim, append_assoc, append-nil, length-append}
use Rattle.std.specs.Prelude.{slice_get, slice_index, filter, fold}
use Rattle.std.specs.List.{AllByRecursion, list_any}
use Rattle.std.proofs.lemmas.Bool.{and_from, eq-eqb, eqb-true, eqb-false, ltb-true, false≢true, not-true}
use Rattle.whips_lists.specs.Lists.{changed_at, map_with_place, front, without_front, places_from}
use Rattle.whips_flow.specs.Facts.{Facts, view_places}
use Rattle.whips_flow.specs.Painted.{Row, white}
use Rattle.whips_flow.specs.State.{Pipeline, Source, Manager, QueryStep, NumberedTransaction, SourceMessage, sent_transaction, sent_answer, ManagerMessage, update, reply, oldest_message, oldest_manager_message, with_source, with_manager}
use Rattle.whips_flow.specs.Effects.{without_message, without_manager_message, with_manager_message, entry_of, row_of, notified_manager, after_numbering, after_integrate, is_same_query, next_step, advanced_step, with_step_asked, first_steps, with_transaction, with_next_step, without_query, after_message, with_list_if_answered}
use Rattle.whips_lists.proofs.InList.{In, any_from}
use Rattle.whips_settled_laws.specs.Settled.{AsksSourcesOfRun}
use Rattle.whips_lists.proofs.ByPlace.{in_append, in_left, in_right, in_filter, in_map, in_changed, in_changed_from, get_there, get_within, get_changed, get_cases, get_changed_other, changed_twice, get_map_at, get_mapped_at, get_map}
use Rattle.whips_lists.proofs.Options.{some_same, of_some_is}
use Rattle.whips_lists.proofs.Lists.{front_is, length_changed, length_map_at}
use Rattle.whips_settled_laws.proofs.Accounts.{Holds, Flying, HasUpdate, Reason, Rises, rises_up, rises_update, rises_reply, has_update_left, has_update_last, latest, latest_push, RisingRows, ManagerFits, Waits, WhiteWaits, Accounted, source_kept, asked_one, asks_are, flying_ask, flying_asks, Shape, shape_ask, shape_asks, flying_new, flying_news, manager_kept, give_reason, give_fits, old_reason}

-- ---- manage

shape_of : (f : Facts) (p : Pipeline) → Accounted f p → Shape f p.sources
shape_of f p h = record { long = h.sources_long; asks = h.asks_long }

index_all : (n : ℕ) (ys : List ℕ) (i : ℕ) → AllByRecursion (λ y. y < n) ys → i < length ys → slice_index ys i < n
index_all n [] i h lt = absurd (omega arith)
index_all n (y ∷ ys) zero h lt = h.0
index_all n (y ∷ ys) (suc i) h lt = index_all n ys i h.1 (omega arith)

module _ (f : Facts) (p : Pipeline) (x : ℕ) (m : Manager) (here : slice_get p.managers x ≡ Some m) (h : Accounted f p) (there : AsksSourcesOfRun f) where
  thrice : (g : Manager → Manager) (ms : List Manager) → changed_at x with_list_if_answered (changed_at x g (changed_at x without_manager_message ms)) ≡ changed_at x (λ m. with_list_if_answered (g (without_manager_message m))) ms
  thrice g ms = ap (changed_at x with_list_if_answered) (changed_twice g without_manager_message x ms) ∙ changed_twice with_list_if_answered (λ m. g (without_manager_message m)) x ms

  x_there : x < length f.slots
  x_there = omega (arith, get_within x p.managers m here, h.managers_long)

  first_there : (n : NumberedTransaction) (u : QueryStep) → In u (first_steps f x n) → slice_index (f.asked_sources x u.origin) (u.step - 1) < length f.transactions
  first_there n u i =
      let o = in_map (λ o. record { number = n.number; origin = o; step = 1 }) u (filter (λ o. ltb 0 (length (f.asked_sources x o))) (f.origins n.source n.place x)) i in
      let k = in_filter (λ o. ltb 0 (length (f.asked_sources x o))) o.0 (f.origins n.source n.place x) o.1 in
      subst (λ v. slice_index (f.asked_sources x v.origin) (v.step - 1) < length f.transactions) o.2 (index_all (length f.transactions) (f.asked_sources x o.0) 0 (there x o.0) (ltb-true 0 (length (f.asked_sources x o.0)) k.1))

  update_kept : (n : NumberedTransaction) → front m.messages ≡ Some (update n) → Accounted f (with_manager x with_list_if_answered (after_message f x (Some (update n)) (with_manager x without_manager_message p)))
  update_kept n e =
      let ts = first_steps f x n in
      let ss = fold (asked_one f x) p.sources ts in
      let shape = front_is m.messages (update n) e in
      let old = h.fits x m here in
      let up = subst (λ ns. Rises m.last_number ns (latest p.merge.table.last_announced p.announcements)) shape old.rises in
      let g : Manager → Manager = λ m. with_list_if_answered (with_transaction f x n (without_manager_message m)) in
      let is : with_manager x with_list_if_answered (after_message f x (Some (update n)) (with_manager x without_manager_message p)) ≡ record p { sources = ss; managers = changed_at x g p.managers }
      = ap (with_manager x with_list_if_answered) (asks_are f x ts (with_manager x (with_transaction f x n) (with_manager x without_manager_message p))) ∙ ap (λ ms. record p { sources = ss; managers = ms }) (thrice (with_transaction f x n) p.managers) in
      subst (Accounted f) (sym is) (manager_kept f p x g m here ss (shape_asks f x ts p.sources (shape_of f p h)) (λ z t fl. flying_asks f z x t ts p.sources fl)
      (give_fits ss (latest p.merge.table.last_announced p.announcements) x (with_transaction f x n (without_manager_message m)) (record {
        tokens = λ t i. ⊎_elim
            (λ j. ⊎_elim (λ fl. inl (flying_asks f x x t ts p.sources fl)) (λ r. ⊎_elim (λ q. other n t q) (λ k. inr k) (moved t shape r)) (old.tokens t j))
            (λ j. inl (flying_news f x ts p.sources (shape_of f p h) x_there (first_there n) t j))
            (in_append t m.open_steps ts i);
        rises = up.1;
        lists = old.lists;
      }))
      (λ js k why. give_reason (with_transaction f x n (without_manager_message m)) js k (⊎_elim
      (λ u. ⊎_elim (λ q. inr (omega (arith, q))) (λ v. inl v) (has_moved k shape u))
      (λ le. inr (omega (arith, le, up.0)))
      (old_reason m js k why)))
      h)
    where
      other : {A : Type 0} (n : NumberedTransaction) (t : QueryStep) → update n ≡ reply t → A
      other n t q = absurd (cc)

      moved : (t : QueryStep) → m.messages ≡ update n ∷ without_front m.messages → In (reply t) m.messages → (update n ≡ reply t) ⊎ In (reply t) (without_front m.messages)
      moved t shape r = subst (λ ns. In (reply t) ns) shape r

      has_moved : (k : ℕ) → m.messages ≡ update n ∷ without_front m.messages → HasUpdate k m.messages → (n.number ≡ k) ⊎ HasUpdate k (without_front m.messages)
      has_moved k shape u = subst (HasUpdate k) shape u

  -- what is left of the messages after a reply
  reply_moved : (t u : QueryStep) → m.messages ≡ reply t ∷ without_front m.messages → In (reply u) m.messages → (reply t ≡ reply u) ⊎ In (reply u) (without_front m.messages)
  reply_moved t u shape r = subst (λ ns. In (reply u) ns) shape r

  same_reply : (t u : QueryStep) → reply t ≡ reply u → is_same_query t u ≡ true
  same_reply t u e =
      let tu : t ≡ u = cc in
      and_from (eqb t.number u.number) (eqb t.origin u.origin) (eq-eqb t.number u.number (ap (λ z. z.number) tu)) (eq-eqb t.origin u.origin (ap (λ z. z.origin) tu))

  -- an open step of another query
  other_token : (t v : QueryStep) (ss : List Source) → m.messages ≡ reply t ∷ without_front m.messages → ((z : ℕ) (u : QueryStep) → Flying z u p.sources → Flying z u ss) → is_same_query t v ≡ false → In v m.open_steps → Flying x v ss ⊎ In (reply v) (without_front m.messages)
  other_token t v ss shape flies ne i = ⊎_elim
      (λ fl. inl (flies x v fl))
      (λ r. ⊎_elim (λ e. absurd (false≢true (sym ne ∙ same_reply t v e))) (λ k. inr k) (reply_moved t v shape r))
      ((h.fits x m here).tokens v i)

  reply_kept : (t : QueryStep) → front m.messages ≡ Some (reply t) → Accounted f (with_manager x with_list_if_answered (after_message f x (Some (reply t)) (with_manager x without_manager_message p)))
  reply_kept t e =
      let shape = front_is m.messages (reply t) e in
      let old = h.fits x m here in
      let up : Rises m.last_number (without_front m.messages) (latest p.merge.table.last_announced p.announcements) = subst (λ ns. Rises m.last_number ns (latest p.merge.table.last_announced p.announcements)) shape old.rises in
      elim (ltb t.step (length (f.asked_sources x t.origin))) as (λ b. ltb t.step (length (f.asked_sources x t.origin)) ≡ b → Accounted f (with_manager x with_list_if_answered (cond b (with_step_asked f x (with_manager x (with_next_step t) (with_manager x without_manager_message p)) (next_step t)) (with_manager x (without_query t) (with_manager x without_manager_message p))))) [
        | true ↦ λ lt.
            let ss = asked_one f x p.sources (next_step t) in
            let g : Manager → Manager = λ m. with_list_if_answered (with_next_step t (without_manager_message m)) in
            let back : suc t.step - 1 ≡ t.step = omega arith in
            let in_range : slice_index (f.asked_sources x t.origin) (suc t.step - 1) < length f.transactions = subst (λ i. slice_index (f.asked_sources x t.origin) i < length f.transactions) (sym back) (index_all (length f.transactions) (f.asked_sources x t.origin) t.step (there x t.origin) (ltb-true t.step (length (f.asked_sources x t.origin)) lt)) in
            subst (λ ms. Accounted f (record p { sources = ss; managers = ms })) (sym (thrice (with_next_step t) p.managers)) (manager_kept f p x g m here ss (shape_ask f x (next_step t) p.sources (shape_of f p h)) (λ z u fl. flying_ask f z x u (next_step t) p.sources fl)
            (give_fits ss (latest p.merge.table.last_announced p.announcements) x (with_next_step t (without_manager_message m)) (record {
              tokens = λ u i. let v = in_map (advanced_step t) u m.open_steps i in
                  stepped_token t ss v.0 u shape (λ z w fl. flying_ask f z x w (next_step t) p.sources fl) (flying_new f x (next_step t) p.sources (shape_of f p h) x_there in_range) v.1 v.2;
              rises = up;
              lists = old.lists;
            }))
            (λ js k why. give_reason (with_next_step t (without_manager_message m)) js k (⊎_elim (λ u. inl (subst (HasUpdate k) shape u)) (λ le. inr le) (old_reason m js k why)))
            h)
        | false ↦ λ ge.
            let g : Manager → Manager = λ m. with_list_if_answered (without_query t (without_manager_message m)) in
            subst (λ ms. Accounted f (record p { managers = ms })) (sym (thrice (without_query t) p.managers)) (manager_kept f p x g m here p.sources (shape_of f p h) (λ z u fl. fl)
            (give_fits p.sources (latest p.merge.table.last_announced p.announcements) x (without_query t (without_manager_message m)) (record {
              tokens = λ u i. let v = in_filter (λ u. not (is_same_query t u)) u m.open_steps i in other_token t u p.sources shape (λ z w fl. fl) (not-true (is_same_query t u) v.1) v.0;
              rises = up;
              lists = old.lists;
            }))
            (λ js k why. give_reason (without_query t (without_manager_message m)) js k (⊎_elim (λ u. inl (subst (HasUpdate k) shape u)) (λ le. inr le) (old_reason m js k why)))
            h)
      ] refl
    where
      stepped_token : (t : QueryStep) (ss : List Source) (v u : QueryStep) → m.messages ≡ reply t ∷ without_front m.messages → ((z : ℕ) (w : QueryStep) → Flying z w p.sources → Flying z w ss) → Flying x (next_step t) ss → In v m.open_steps → advanced_step t v ≡ u → Flying x u ss ⊎ In (reply u) (without_front m.messages)
      stepped_token t ss v u shape flies new i e = elim (is_same_query t v) as (λ b. is_same_query t v ≡ b → cond b (next_step t) v ≡ u → Flying x u ss ⊎ In (reply u) (without_front m.messages)) [
        | true ↦ λ s q. inl (subst (λ w. Flying x w ss) q new)
        | false ↦ λ s q. subst (λ w. Flying x w ss ⊎ In (reply w) (without_front m.messages)) q (other_token t v ss shape flies s i)
      ] refl e

pub manage_kept : (f : Facts) (p : Pipeline) (x : ℕ) (n : ManagerMessage) → AsksSourcesOfRun f → oldest_manager_message p x ≡ Some n → Accounted f p → Accounted f (with_manager x with_list_if_answered (after_message f x (Some n) (with_manager x without_manager_message p)))
manage_kept f p x (update n) there e h = let m = of_some_is (slice_get p.managers x) (λ m. front m.messages) (update n) e in update_kept f p x m.0 m.1 h there n m.2
manage_kept f p x (reply t) there e h = let m = of_some_is (slice_get p.managers x) (λ m. front m.messages) (reply t) e in reply_kept f p x m.0 m.1 h there t m.2

-- ---- integrate

rising_push : (announced : ℕ) (rows : List Row) (r : Row) → RisingRows announced rows → latest announced rows < r.number → RisingRows announced (rows ++ r ∷ [])
rising_push announced [] r h lt = (lt, tt)
rising_push announced (q ∷ rows) r h lt = (h.0, rising_push q.number rows r h.1 lt)

places_at : (k n i j : ℕ) → slice_get (places_from k n) i ≡ Some j → (j ≡ k + i) × (i < n)
places_at k zero i j h = absurd (cc)
places_at k (suc n) zero j h = let e : k ≡ j = some_same k j h in (omega (arith, e), omega arith)
places_at k (suc n) (suc i) j h = let r = places_at (suc k) n i j h in (omega (arith, r.0), omega (arith, r.1))

pub in_places : (k n i : ℕ) → i < n → In (k + i) (places_from k n)
in_places k zero i lt = absurd (omega arith)
in_places k (suc n) zero lt = let e : k ≡ k + 0 = omega arith in inl e
in_places k (suc n) (suc i) lt = let e : suc k + i ≡ k + suc i = omega arith in inr (subst (λ z. In z (places_from (suc k) n)) e (in_places (suc k) n i (omega arith)))

colour_white : (b : Bool) → entry_of b ≡ white → b ≡ true
colour_white true h = refl
colour_white false h = absurd (cc)

noted_reason : (f : Facts) (n : NumberedTransaction) (x : ℕ) (m : Manager) (js : List ℕ) (k : ℕ) → Reason m js k → Reason (notified_manager f n x m) js k
noted_reason f n x m js k why = elim (f.concerns n.source n.place x) as (λ b. Reason (cond b (with_manager_message (update n) m) m) js k) [
  | true ↦ ⊎_elim (λ u. inl (has_update_left k m.messages (update n ∷ []) u)) (λ r. inr r) why
  | false ↦ why
]

module _ (f : Facts) (p : Pipeline) (n : NumberedTransaction) (e : n.number ≡ suc (length p.numbering)) (h : Accounted f p) where
  noted_wait : (rows : List Row) → WhiteWaits p.managers p.merge.waiting_lists rows → WhiteWaits (map_with_place (notified_manager f n) 0 p.managers) p.merge.waiting_lists rows
  noted_wait rows w r x i c = let old = w r x i c in
      (notified_manager f n x old.0, old.1, get_mapped_at (notified_manager f n) 0 x x p.managers old.0 (omega arith) old.2, old.3, noted_reason f n x old.0 old.1 r.number old.4)

  numbered_kept : Accounted f (after_numbering f n p)
  numbered_kept = elim (list_any (λ x. f.concerns n.source n.place x) (view_places f)) as (λ b. list_any (λ x. f.concerns n.source n.place x) (view_places f) ≡ b → Accounted f (record p { numbering = p.numbering ++ n ∷ []; managers = map_with_place (notified_manager f n) 0 p.managers; announcements = p.announcements ++ cond b (row_of f n ∷ []) [] })) [
    | true ↦ λ any. let l = latest_push p.merge.table.last_announced p.announcements (row_of f n) in record {
      sources_long = h.sources_long;
      asks_long = h.asks_long;
      managers_long = length_map_at (notified_manager f n) 0 p.managers ∙ h.managers_long;
      waiting_long = h.waiting_long;
      fits = λ x k a. let m = get_map_at (notified_manager f n) 0 x x p.managers k (omega arith) a in
          subst (λ w. ManagerFits p.sources w x k) (sym l) (subst (λ w. ManagerFits p.sources n.number x w) m.2 (noted_fits x m.0 (h.fits x m.0 m.1)));
      waiting_low = λ x js j a i. omega (arith, h.waiting_low x js j a i, h.latest_low, l, e);
      latest_low = omega (arith, l, e, length-append p.numbering (n ∷ []));
      rising = rising_push p.merge.table.last_announced p.announcements (row_of f n) h.rising (omega (arith, h.latest_low, e));
      waits = λ r x i c. ⊎_elim
          (λ j. noted_wait (p.merge.table.rows ++ p.announcements) h.waits r x j c)
          (λ j. ⊎_elim (λ q. new_wait r x q c) (λ z. absurd z) j)
          (in_append r (p.merge.table.rows ++ p.announcements) (row_of f n ∷ []) (subst (λ w. In r w) (sym (append_assoc p.merge.table.rows p.announcements (row_of f n ∷ []))) i));
    }
    | false ↦ λ any. subst (λ w. Accounted f (record p { numbering = p.numbering ++ n ∷ []; managers = map_with_place (notified_manager f n) 0 p.managers; announcements = w })) (sym (append-nil p.announcements)) (record {
      sources_long = h.sources_long;
      asks_long = h.asks_long;
      managers_long = length_map_at (notified_manager f n) 0 p.managers ∙ h.managers_long;
      waiting_long = h.waiting_long;
      fits = λ x k a. let m = get_map_at (notified_manager f n) 0 x x p.managers k (omega arith) a in
          subst (λ w. ManagerFits p.sources (latest p.merge.table.last_announced p.announcements) x w) (sym (not_noted any x m.0 (omega (arith, get_within x p.managers m.0 m.1, h.managers_long))) ∙ m.2) (h.fits x m.0 m.1);
      waiting_low = h.waiting_low;
      latest_low = omega (arith, h.latest_low, length-append p.numbering (n ∷ []));
      rising = h.rising;
      waits = noted_wait (p.merge.table.rows ++ p.announcements) h.waits;
    })
  ] refl
    where
      noted_fits : (x : ℕ) (m : Manager) → ManagerFits p.sources (latest p.merge.table.last_announced p.announcements) x m → ManagerFits p.sources n.number x (notified_manager f n x m)
      noted_fits x m k = elim (f.concerns n.source n.place x) as (λ b. ManagerFits p.sources n.number x (cond b (with_manager_message (update n) m) m)) [
        | true ↦ record {
          tokens = λ t i. ⊎_elim (λ fl. inl fl) (λ r. inr (in_left (reply t) m.messages (update n ∷ []) r)) (k.tokens t i);
          rises = rises_update m.last_number m.messages (latest p.merge.table.last_announced p.announcements) n (omega (arith, h.latest_low, e)) k.rises;
          lists = λ j i. omega (arith, k.lists j i, h.latest_low, e);
        }
        | false ↦ record {
          tokens = k.tokens;
          rises = rises_up m.last_number m.messages (latest p.merge.table.last_announced p.announcements) n.number (omega (arith, h.latest_low, e)) k.rises;
          lists = λ j i. omega (arith, k.lists j i, h.latest_low, e);
        }
      ]

      new_wait : (r : Row) (x : ℕ) → row_of f n ≡ r → slice_get r.entries x ≡ Some white → Waits (map_with_place (notified_manager f n) 0 p.managers) p.merge.waiting_lists x r.number
      new_wait r x q c =
          let c' : slice_get (row_of f n).entries x ≡ Some white = subst (λ w. slice_get w.entries x ≡ Some white) (sym q) c in
          let v = get_map (λ x. entry_of (f.concerns n.source n.place x)) x (places_from 0 (length f.slots)) white c' in
          let at = places_at 0 (length f.slots) x v.0 v.1 in
          let vx : v.0 ≡ x = omega (arith, at.0) in
          let t : f.concerns n.source n.place x ≡ true = subst (λ w. f.concerns n.source n.place w ≡ true) vx (colour_white (f.concerns n.source n.place v.0) v.2) in
          let m = get_there x p.managers (omega (arith, at.1, h.managers_long)) in
          let js = get_there x p.merge.waiting_lists (omega (arith, at.1, h.waiting_long)) in
          let why : Reason (notified_manager f n x m.0) js.0 n.number = rw t (inl (has_update_last n m.0.messages)) in
          (notified_manager f n x m.0, js.0, get_mapped_at (notified_manager f n) 0 x x p.managers m.0 (omega arith) m.1, js.1, subst (λ w. Reason (notified_manager f n x m.0) js.0 w.number) q why)

      not_noted : list_any (λ x. f.concerns n.source n.place x) (view_places f) ≡ false → (x : ℕ) (m : Manager) → x < length f.slots → notified_manager f n x m ≡ m
      not_noted any x m lt = elim (f.concerns n.source n.place x) as (λ b. f.concerns n.source n.place x ≡ b → cond b (with_manager_message (update n) m) m ≡ m) [
        | true ↦ λ t. absurd (false≢true (sym any ∙ any_from (λ x. f.concerns n.source n.place x) (view_places f) x (let z : 0 + x ≡ x = omega arith in subst (λ w. In w (places_from 0 (length f.slots))) z (in_places 0 (length f.slots) x lt)) t))
        | false ↦ λ t. refl
      ] refl

module _ (f : Facts) (p : Pipeline) (y : ℕ) (s0 : Source) (at : slice_get p.sources y ≡ Some s0) (h : Accounted f p) where
  pop_sent : (k : ℕ) → front s0.messages ≡ Some (sent_transaction k) → Accounted f (with_source y without_message p)
  pop_sent k e = source_kept f p y without_message (λ s. refl) (λ x t s a hold. ⊎_elim (λ q. inl q) (λ i. inr (keep x t s a i)) hold) h
    where
      keep : (x : ℕ) (t : QueryStep) (s : Source) → slice_get p.sources y ≡ Some s → In (sent_answer x t) s.messages → In (sent_answer x t) (without_front s.messages)
      keep x t s a i =
          let ss : s ≡ s0 = some_same s s0 (sym a ∙ at) in
          let shape = front_is s.messages (sent_transaction k) (ap (λ z. front z.messages) ss ∙ e) in
          split (subst (λ w. In (sent_answer x t) w) shape i)
        where
          split : (sent_transaction k ≡ sent_answer x t) ⊎ In (sent_answer x t) (without_front s.messages) → In (sent_answer x t) (without_front s.messages)
          split (inl q) = absurd (cc)
          split (inr i) = i

  pop_flying : (x : ℕ) (t : QueryStep) → front s0.messages ≡ Some (sent_answer x t) → (z : ℕ) (u : QueryStep) → Flying z u p.sources → Flying z u (changed_at y without_message p.sources) ⊎ ((z ≡ x) × (u ≡ t))
  pop_flying x t e z u (s, i, hold) = go (in_changed without_message y p.sources s i) hold
    where
      go : In s (changed_at y without_message p.sources) ⊎ ((slice_get p.sources y ≡ Some s) × In (without_message s) (changed_at y without_message p.sources)) → Holds z u s → Flying z u (changed_at y without_message p.sources) ⊎ ((z ≡ x) × (u ≡ t))
      go (inl j) hold = inl (s, j, hold)
      go (inr j) (inl q) = inl (without_message s, j.1, inl q)
      go (inr j) (inr i) =
          let ss : s ≡ s0 = some_same s s0 (sym j.0 ∙ at) in
          let shape = front_is s.messages (sent_answer x t) (ap (λ z. front z.messages) ss ∙ e) in
          split (subst (λ w. In (sent_answer z u) w) shape i)
        where
          split : (sent_answer x t ≡ sent_answer z u) ⊎ In (sent_answer z u) (without_front s.messages) → Flying z u (changed_at y without_message p.sources) ⊎ ((z ≡ x) × (u ≡ t))
          split (inl q) = let zx : z ≡ x = cc in let ut : u ≡ t = cc in inr (zx, ut)
          split (inr k) = inl (without_message s, j.1, inr k)

  answered_kept : (x : ℕ) (t : QueryStep) → front s0.messages ≡ Some (sent_answer x t) → Accounted f (with_manager x (with_manager_message (reply t)) (with_source y without_message p))
  answered_kept x t e = record {
    sources_long = length_changed without_message y p.sources ∙ h.sources_long;
    asks_long = λ s i. ⊎_elim (λ j. h.asks_long s j) (λ j. ap (λ z. length z.asks) (sym j.2) ∙ h.asks_long j.0 j.1) (in_changed_from without_message y p.sources s i);
    managers_long = length_changed (with_manager_message (reply t)) x p.managers ∙ h.managers_long;
    waiting_long = h.waiting_long;
    fits = λ z k a. fits z k (get_cases (with_manager_message (reply t)) x z p.managers k a);
    waiting_low = h.waiting_low;
    latest_low = h.latest_low;
    rising = h.rising;
    waits = λ r z i c. wait r.number z (h.waits r z i c);
  }
    where
      ss : List Source
      ss = changed_at y without_message p.sources

      fits : (z : ℕ) (k : Manager) → ((z ≡ x) × ((m : Manager) × (slice_get p.managers x ≡ Some m) × (with_manager_message (reply t) m ≡ k))) ⊎ ((z ≡ x → ⊥) × (slice_get p.managers z ≡ Some k)) → ManagerFits ss (latest p.merge.table.last_announced p.announcements) z k
      fits z k (inl (zx, (m, a, q))) = let old = h.fits x m a in subst (λ w. ManagerFits ss (latest p.merge.table.last_announced p.announcements) w k) (sym zx) (subst (λ w. ManagerFits ss (latest p.merge.table.last_announced p.announcements) x w) q (record {
        tokens = λ u i. ⊎_elim
            (λ fl. ⊎_elim (λ g. inl g) (λ g. inr (in_right (reply u) m.messages (reply t ∷ []) (inl (ap (λ w. reply w) (sym g.1))))) (pop_flying x t e x u fl))
            (λ r. inr (in_left (reply u) m.messages (reply t ∷ []) r))
            (old.tokens u i);
        rises = rises_reply m.last_number m.messages (latest p.merge.table.last_announced p.announcements) t old.rises;
        lists = old.lists;
      }))
      fits z k (inr (ne, a)) = let old = h.fits z k a in record {
        tokens = λ u i. ⊎_elim (λ fl. ⊎_elim (λ g. inl g) (λ g. absurd (ne g.0)) (pop_flying x t e z u fl)) (λ r. inr r) (old.tokens u i);
        rises = old.rises;
        lists = old.lists;
      }

      wait : (n z : ℕ) → Waits p.managers p.merge.waiting_lists z n → Waits (changed_at x (with_manager_message (reply t)) p.managers) p.merge.waiting_lists z n
      wait n z (m, js, a, b, why) = go (eqb z x) refl
        where
          go : (c : Bool) → eqb z x ≡ c → Waits (changed_at x (with_manager_message (reply t)) p.managers) p.merge.waiting_lists z n
          go false ne = (m, js, get_changed_other (with_manager_message (reply t)) x z p.managers (eqb-false z x ne) ∙ a, b, why)
          go true q = let zx = eqb-true z x q in
              (with_manager_message (reply t) m, js, ap (λ w. slice_get (changed_at x (with_manager_message (reply t)) p.managers) w) zx ∙ get_changed (with_manager_message (reply t)) x p.managers m (subst (λ w. slice_get p.managers w ≡ Some m) zx a), b, ⊎_elim (λ u. inl (has_update_left n m.messages (reply t ∷ []) u)) (λ r. inr r) why)

pub integrate_kept : (f : Facts) (p : Pipeline) (y : ℕ) (m : SourceMessage) → oldest_message p y ≡ Some m → Accounted f p → Accounted f (after_integrate f y (Some m) (with_source y without_message p))
integrate_kept f p y (sent_transaction k) e h =
    let s = of_some_is (slice_get p.sources y) (λ s. front s.messages) (sent_transaction k) e in
    numbered_kept f (with_source y without_message p) (record { number = suc (length p.numbering); source = y; place = k }) refl (pop_sent f p y s.0 s.1 h k s.2)
integrate_kept f p y (sent_answer x t) e h =
    let s = of_some_is (slice_get p.sources y) (λ s. front s.messages) (sent_answer x t) e in
    answered_kept f p y s.0 s.1 h x t s.2
