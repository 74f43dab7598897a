-- What each event of the pipeline does to the lists of the views.
--
-- `update_lines`, `reply_lines`, `answered_lines`, `numbered_lines`, `came_lines`, `acted_lines`: after each event the lists of each view are still in their line: those in the merge, those on their way, and the one that its open queries will give, with rising numbers.
--
-- The idea: a list has the number of the last transaction that it takes in. A manager gives its next list only after that, and a transaction is numbered above all others, so numbers can't fall.
--
-- Two lemmas carry it: `changed_coming` (a manager changes, and with it only what comes from it) and `line_bound` (no list is above the numbering).
use Rattle.std.proofs.Common.{◌≡◌, ℕ, zero, suc, ◌<◌, ◌≤◌, true, false, cond, List, [], ◌∷◌, ◌++◌, length, Option, Some, None, ◌+◌, refl, sym, ap, ap₂, subst, ◌∙◌, arith, ◌⊎◌, inl, inr, ⊎_elim, append_assoc}
use Rattle.std.specs.Prelude.{slice_get}
use Rattle.std.proofs.lemmas.Bool.{cases_lt}
use Rattle.whips_lists.proofs.InList.{In, any_from}
use Rattle.whips_lists.specs.Lists.{changed_at, map_with_place, front, without_front}
use Rattle.whips_lists.proofs.Options.{some_same}
use Rattle.whips_lists.proofs.Lists.{front_is, length_changed}
use Rattle.whips_lists.proofs.ByPlace.{in_append, in_left, in_right, in_get, get_mapped, get_in, get_within, get_cases, get_changed, get_changed_other}
use Rattle.whips_flow.specs.Facts.{Facts, view_places}
use Rattle.whips_flow.specs.Painted.{Row, white, red}
use Rattle.whips_flow.specs.State.{NumberedTransaction, QueryStep, ManagerMessage, update, reply, Manager, Merge, Pipeline}
use Rattle.whips_flow.specs.Effects.{row_of, entry_of, announcement_of, notified_manager, with_manager_message, without_manager_message, with_transaction, with_list_unless, with_list_if_answered, without_list, with_announced_row, with_waiting_list}
use Rattle.whips_cut_laws.proofs.Lined.{joined}
use Rattle.whips_settled_laws.proofs.Accounts.{IsOpen}
use Rattle.whips_actions.specs.declared.action.ActionList.{ActionList}
use Rattle.whips_facts.specs.Values.{last_list}
use Rattle.whips_version_laws.proofs.Counts.{AreNumbered}
use Rattle.whips_version_laws.proofs.Covered.{last_there}
use Rattle.whips_version_laws.proofs.Painting.{transaction_of}
use Rattle.whips_version_laws.proofs.Parted.{Parted, get_places}
use Rattle.whips_line_laws.proofs.Lines.{uptos, Rising, uptos_append, HasEntry, Line}
use Rattle.whips_line_laws.proofs.Taken.{of_uptos}
use Rattle.whips_line_laws.proofs.Sweeps.{Lines}

-- ---- the numbers of the lists that come from a manager

abbrev pub updates_of : List ManagerMessage → List ℕ
updates_of [] = []
updates_of (update n ∷ ns) = n.number ∷ updates_of ns
updates_of (reply t ∷ ns) = updates_of ns

abbrev pub open_part : List QueryStep → ℕ → List ℕ
open_part [] n = []
open_part (t ∷ ts) n = n ∷ []

abbrev pub coming : Manager → List ℕ
coming m = m.lists ++ (open_part m.open_steps m.last_number ++ updates_of m.messages)

abbrev pub coming_of : Option Manager → List ℕ
coming_of None = []
coming_of (Some m) = coming m

abbrev pub coming_in : List Manager → ℕ → List ℕ
coming_in managers x = coming_of (slice_get managers x)

abbrev pub Lined : List (List Row) → Pipeline → List (List ActionList) → Type 0
Lined sets p lists = Lines sets p.merge p.announcements lists (coming_in p.managers)

pub changed_coming : (P : List ℕ → Type 0) (g : Manager → Manager) (x z : ℕ) (managers : List Manager) → ((m : Manager) → slice_get managers x ≡ Some m → P (coming m) → P (coming (g m))) → P (coming_in managers z) → P (coming_in (changed_at x g managers) z)
changed_coming P g x z [] keeps h = h
changed_coming P g zero zero (m ∷ managers) keeps h = keeps m refl h
changed_coming P g zero (suc z) (m ∷ managers) keeps h = h
changed_coming P g (suc x) zero (m ∷ managers) keeps h = h
changed_coming P g (suc x) (suc z) (m ∷ managers) keeps h = changed_coming P g x z managers keeps h

placed_coming : (P Q : List ℕ → Type 0) (g : ℕ → Manager → Manager) (k z : ℕ) (managers : List Manager) → ((m : Manager) → P (coming m) → Q (coming (g (k + z) m))) → (P [] → Q []) → P (coming_in managers z) → Q (coming_in (map_with_place g k managers) z)
placed_coming P Q g k z [] keeps none h = none h
placed_coming P Q g k zero (m ∷ managers) keeps none h = let e : k + 0 ≡ k = omega arith in subst (λ i. Q (coming (g i m))) e (keeps m h)
placed_coming P Q g k (suc z) (m ∷ managers) keeps none h = placed_coming P Q g (suc k) z managers (λ m p. let e : k + suc z ≡ suc k + z = omega arith in subst (λ i. Q (coming (g i m))) e (keeps m p)) none h

updates_push : (ns : List ManagerMessage) (n : NumberedTransaction) → updates_of (ns ++ update n ∷ []) ≡ updates_of ns ++ n.number ∷ []
updates_push [] n = refl
updates_push (update k ∷ ns) n = ap (λ z. k.number ∷ z) (updates_push ns n)
updates_push (reply t ∷ ns) n = updates_push ns n

updates_reply : (ns : List ManagerMessage) (t : QueryStep) → updates_of (ns ++ reply t ∷ []) ≡ updates_of ns
updates_reply [] t = refl
updates_reply (update k ∷ ns) t = ap (λ z. k.number ∷ z) (updates_reply ns t)
updates_reply (reply u ∷ ns) t = updates_reply ns t

-- a manager that gives its list where nothing is open
given : (m : Manager) → coming (with_list_if_answered m) ≡ m.lists ++ (m.last_number ∷ updates_of m.messages)
given m = go m.open_steps refl
  where
    go : (ts : List QueryStep) → m.open_steps ≡ ts → coming (with_list_unless ts m) ≡ m.lists ++ (m.last_number ∷ updates_of m.messages)
    go [] e = ap (λ ts. (m.lists ++ m.last_number ∷ []) ++ (open_part ts m.last_number ++ updates_of m.messages)) e ∙ append_assoc m.lists (m.last_number ∷ []) (updates_of m.messages)
    go (t ∷ ts) e = ap (λ ts. m.lists ++ (open_part ts m.last_number ++ updates_of m.messages)) e

open_is : (ts : List QueryStep) (n : ℕ) → IsOpen ts → open_part ts n ≡ n ∷ []
open_is [] n h = absurd h
open_is (t ∷ ts) n h = refl

-- ---- a line whose numbers change

module _ (n : ℕ) where
  in_wider : (k : ℕ) (xs ys : List ℕ) → In k (xs ++ ys) → In k (xs ++ n ∷ ys)
  in_wider k xs ys i = ⊎_elim (λ j. in_left k xs (n ∷ ys) j) (λ j. in_right k xs (n ∷ ys) (inr j)) (in_append k xs ys i)

  rising_fewer : (xs ys : List ℕ) → Rising (xs ++ n ∷ ys) → Rising (xs ++ ys)
  rising_fewer [] ys h = h.1
  rising_fewer (x ∷ xs) ys h = (λ k i. h.0 k (in_wider k xs ys i), rising_fewer xs ys h.1)

  rising_push : (xs : List ℕ) → Rising xs → ((k : ℕ) → In k xs → k < n) → Rising (xs ++ n ∷ [])
  rising_push [] h low = (λ k i. absurd i, tt)
  rising_push (x ∷ xs) h low = (
    λ k i. ⊎_elim (λ j. h.0 k j) (λ j. ⊎_elim (λ e. subst (λ z. x < z) e (low x (inl refl))) (λ z. absurd z) j) (in_append k xs (n ∷ []) i),
    rising_push xs h.1 (λ k i. low k (inr i)),
  )

module _ (x base : ℕ) (rows more : List Row) (ls : List ActionList) (js : List ℕ) where
  line_fewer : (cs : List ℕ) (n : ℕ) (ds : List ℕ) → Line x base rows more ls js (cs ++ n ∷ ds) → Line x base rows more ls js (cs ++ ds)
  line_fewer cs n ds h = record {
    painted = h.painted;
    waiting = h.waiting;
    split = h.split;
    numbers = h.numbers;
    own = h.own;
    low = λ k i. h.low k (wide (uptos ls) k i);
    rising = subst Rising (append_assoc (uptos ls) cs ds) (rising_fewer n (uptos ls ++ cs) ds (subst Rising (sym (append_assoc (uptos ls) cs (n ∷ ds))) h.rising));
    reds = h.reds;
    whites = λ k i. h.whites k (wide js k i);
    back = h.back;
  }
    where
      wide : (us : List ℕ) (k : ℕ) → In k (us ++ (cs ++ ds)) → In k (us ++ (cs ++ n ∷ ds))
      wide us k i = ⊎_elim (λ j. in_left k us (cs ++ n ∷ ds) j) (λ j. in_right k us (cs ++ n ∷ ds) (in_wider n k cs ds j)) (in_append k us (cs ++ ds) i)

  behind : (new : List Row) (k : ℕ) → HasEntry x k white (rows ++ more) → HasEntry x k white (rows ++ (more ++ new))
  behind new k q = (q.0, subst (λ z. In q.0 z) (append_assoc rows more new) (in_left q.0 (rows ++ more) new q.1), q.2, q.3)

  line_wider : (cs : List ℕ) (new : List Row) → Line x base rows more ls js cs → Line x base rows (more ++ new) ls js cs
  line_wider cs new h = record { painted = h.painted; waiting = h.waiting; split = h.split; numbers = h.numbers; own = h.own; low = h.low; rising = h.rising; reds = h.reds; whites = λ k i. behind new k (h.whites k i); back = h.back }

  line_more : (cs : List ℕ) (n : ℕ) (new : List Row) → HasEntry x n white new → base < n → ((k : ℕ) → In k (uptos ls ++ cs) → k < n) → Line x base rows more ls js cs → Line x base rows (more ++ new) ls js (cs ++ n ∷ [])
  line_more cs n new q lt high h = record {
    painted = h.painted;
    waiting = h.waiting;
    split = h.split;
    numbers = h.numbers;
    own = h.own;
    low = λ k i. ⊎_elim (λ j. h.low k j) (λ j. ⊎_elim (λ e. subst (λ z. base < z) e lt) (λ z. absurd z) j) (in_append k (uptos ls ++ cs) (n ∷ []) (subst (λ z. In k z) (sym (append_assoc (uptos ls) cs (n ∷ []))) i));
    rising = subst Rising (append_assoc (uptos ls) cs (n ∷ [])) (rising_push n (uptos ls ++ cs) h.rising high);
    reds = h.reds;
    whites = λ k i. ⊎_elim
        (λ j. behind new k (h.whites k j))
        (λ j. ⊎_elim (λ e. subst (λ z. HasEntry x z white (rows ++ (more ++ new))) e (q.0, in_right q.0 rows (more ++ new) (in_right q.0 more new q.1), q.2, q.3)) (λ z. absurd z) j)
        (in_append k (js ++ cs) (n ∷ []) (subst (λ z. In k z) (sym (append_assoc js cs (n ∷ []))) i));
    back = h.back;
  }

  line_acted : (a : ActionList) (cs : List ℕ) → a.view ≡ x → Line x base rows more ls js (a.upto ∷ cs) → Line x base rows more (ls ++ a ∷ []) (js ++ a.upto ∷ []) cs
  line_acted a cs v h = record {
    painted = h.painted;
    waiting = h.waiting ++ a ∷ [];
    split = ap (λ z. z ++ a ∷ []) h.split ∙ append_assoc h.painted h.waiting (a ∷ []);
    numbers = uptos_append h.waiting (a ∷ []) ∙ ap (λ z. z ++ a.upto ∷ []) h.numbers;
    own = λ l i. ⊎_elim (λ j. h.own l j) (λ j. ⊎_elim (λ e. ap (λ (z : ActionList). z.view) (sym e) ∙ v) (λ z. absurd z) j) (in_append l ls (a ∷ []) i);
    low = λ k i. h.low k (subst (λ z. In k z) same i);
    rising = subst Rising (sym same) h.rising;
    reds = h.reds;
    whites = λ k i. h.whites k (subst (λ z. In k z) (append_assoc js (a.upto ∷ []) cs) i);
    back = h.back;
  }
    where
      same : uptos (ls ++ a ∷ []) ++ cs ≡ uptos ls ++ (a.upto ∷ cs)
      same = ap (λ z. z ++ cs) (uptos_append ls (a ∷ [])) ∙ append_assoc (uptos ls) (a.upto ∷ []) cs

line_came : (x base : ℕ) (rows rest : List Row) (ls : List ActionList) (js cs : List ℕ) (r : Row) → ((j : ℕ) → slice_get r.entries x ≡ Some (red j) → ⊥) → Line x base rows (r ∷ rest) ls js cs → Line x base (rows ++ r ∷ []) rest ls js cs
line_came x base rows rest ls js cs r off h = record {
  painted = h.painted;
  waiting = h.waiting;
  split = h.split;
  numbers = h.numbers;
  own = h.own;
  low = h.low;
  rising = h.rising;
  reds = λ l i. let q = h.reds l i in (q.0, in_left q.0 rows (r ∷ []) q.1, q.2, q.3);
  whites = λ k i. let q = h.whites k i in (q.0, subst (λ z. In q.0 z) (sym (append_assoc rows (r ∷ []) rest)) q.1, q.2, q.3);
  back = λ q j i e. ⊎_elim (λ k. h.back q j k e) (λ k. ⊎_elim (λ w. absurd (off j (ap (λ (z : Row). slice_get z.entries x) w ∙ e))) (λ z. absurd z) k) (in_append q rows (r ∷ []) i);
}

-- ---- all lines

recome : (sets : List (List Row)) (m : Merge) (more : List Row) (lists : List (List ActionList)) (cs ds : ℕ → List ℕ) → ((x : ℕ) (ls : List ActionList) (js : List ℕ) → Line x (last_list x sets) m.table.rows more ls js (cs x) → Line x (last_list x sets) m.table.rows more ls js (ds x)) → Lines sets m more lists cs → Lines sets m more lists ds
recome sets m more lists cs ds g h = record { long = h.long; at = λ x ls js a b. g x ls js (h.at x ls js a b) }

module _ (f : Facts) (p : Pipeline) (sets : List (List Row)) (lists : List (List ActionList)) (h : Lined sets p lists) where
  -- ---- manage

  managed_lines : (x : ℕ) (g : Manager → Manager) → ((z : ℕ) (ls : List ActionList) (js : List ℕ) (m : Manager) → slice_get p.managers x ≡ Some m → Line z (last_list z sets) p.merge.table.rows p.announcements ls js (coming m) → Line z (last_list z sets) p.merge.table.rows p.announcements ls js (coming (g m))) → Lines sets p.merge p.announcements lists (coming_in (changed_at x g p.managers))
  managed_lines x g keeps = recome sets p.merge p.announcements lists (coming_in p.managers) (coming_in (changed_at x g p.managers)) (λ z ls js line. changed_coming (Line z (last_list z sets) p.merge.table.rows p.announcements ls js) g x z p.managers (λ m a. keeps z ls js m a) line) h

  pub update_lines : (x : ℕ) (n : NumberedTransaction) (m : Manager) → slice_get p.managers x ≡ Some m → front m.messages ≡ Some (update n) → Lines sets p.merge p.announcements lists (coming_in (changed_at x (λ m. with_list_if_answered (with_transaction f x n (without_manager_message m))) p.managers))
  update_lines x n m at first = managed_lines x (λ m. with_list_if_answered (with_transaction f x n (without_manager_message m))) (λ z ls js w a line.
      let same : w ≡ m = some_same w m (sym a ∙ at) in
      let shape : w.messages ≡ update n ∷ without_front w.messages = front_is w.messages (update n) (ap (λ (v : Manager). front v.messages) same ∙ first) in
      subst (λ c. Line z (last_list z sets) p.merge.table.rows p.announcements ls js c) (sym (given (with_transaction f x n (without_manager_message w))))
      (taken z ls js w.open_steps w (subst (λ ns. Line z (last_list z sets) p.merge.table.rows p.announcements ls js (w.lists ++ (open_part w.open_steps w.last_number ++ updates_of ns))) shape line)))
    where
      taken : (z : ℕ) (ls : List ActionList) (js : List ℕ) (ts : List QueryStep) (w : Manager) → Line z (last_list z sets) p.merge.table.rows p.announcements ls js (w.lists ++ (open_part ts w.last_number ++ (n.number ∷ updates_of (without_front w.messages)))) → Line z (last_list z sets) p.merge.table.rows p.announcements ls js (w.lists ++ (n.number ∷ updates_of (without_front w.messages)))
      taken z ls js [] w line = line
      taken z ls js (t ∷ ts) w line = line_fewer z (last_list z sets) p.merge.table.rows p.announcements ls js w.lists w.last_number (n.number ∷ updates_of (without_front w.messages)) line

  -- a reply is taken by a manager with an open query; its open steps become others
  pub reply_lines : (x : ℕ) (t : QueryStep) (m : Manager) (g : Manager → Manager) → slice_get p.managers x ≡ Some m → front m.messages ≡ Some (reply t) → IsOpen m.open_steps → ((m : Manager) → ((g m).lists ≡ m.lists) × ((g m).last_number ≡ m.last_number) × ((g m).messages ≡ m.messages))
      → Lines sets p.merge p.announcements lists (coming_in (changed_at x (λ m. with_list_if_answered (g (without_manager_message m))) p.managers))
  reply_lines x t m g at first opened same_parts = managed_lines x (λ m. with_list_if_answered (g (without_manager_message m))) (λ z ls js w a line.
      let same : w ≡ m = some_same w m (sym a ∙ at) in
      let shape : w.messages ≡ reply t ∷ without_front w.messages = front_is w.messages (reply t) (ap (λ (v : Manager). front v.messages) same ∙ first) in
      let parts = same_parts (without_manager_message w) in
      subst (λ c. Line z (last_list z sets) p.merge.table.rows p.announcements ls js c)
      (ap₂ (λ o u. w.lists ++ (o ++ u)) (open_is w.open_steps w.last_number (subst (λ (v : Manager). IsOpen v.open_steps) (sym same) opened)) (ap updates_of shape)
      ∙ sym (given (g (without_manager_message w)) ∙ (ap (λ l. l ++ ((g (without_manager_message w)).last_number ∷ updates_of (g (without_manager_message w)).messages)) parts.0 ∙ ap₂ (λ n u. w.lists ++ (n ∷ updates_of u)) parts.1 parts.2)))
      line)

  -- ---- integrate

  pub answered_lines : (x : ℕ) (t : QueryStep) → Lines sets p.merge p.announcements lists (coming_in (changed_at x (with_manager_message (reply t)) p.managers))
  answered_lines x t = managed_lines x (with_manager_message (reply t)) (λ z ls js w a line. subst (λ u. Line z (last_list z sets) p.merge.table.rows p.announcements ls js (w.lists ++ (open_part w.open_steps w.last_number ++ u))) (sym (updates_reply w.messages t)) line)

  module _ (numbered : AreNumbered p.numbering) (parted : Parted f p.numbering p.announcements p.merge.table sets) (announced_low : p.merge.table.last_announced ≤ length p.numbering) where
    row_low : (r : Row) → In r (joined sets ++ (p.merge.table.rows ++ p.announcements)) → r.number ≤ length p.numbering
    row_low r i =
        let at = in_get p.numbering (transaction_of r) (parted.are_of r i).listed in
        omega (arith, (numbered at.0 (transaction_of r) at.2).0, at.1)

    pub base_low : (x : ℕ) → last_list x sets ≤ length p.numbering
    base_low x = ⊎_elim
        (λ lt. let r = last_there x sets lt in omega (arith, ((parted.are_of r.0 (in_left r.0 (joined sets) (p.merge.table.rows ++ p.announcements) r.1)).reds x (last_list x sets) r.2).1, announced_low))
        (λ ge. omega (arith, ge))
        (cases_lt 0 (last_list x sets))

    pub line_bound : (x base : ℕ) (ls : List ActionList) (js cs : List ℕ) → Line x base p.merge.table.rows p.announcements ls js cs → (k : ℕ) → In k (uptos ls ++ cs) → k ≤ length p.numbering
    line_bound x base ls js cs line k i = ⊎_elim
        (λ j. ⊎_elim
        (λ w. let l = of_uptos k line.painted w in let q = line.reds l.0 l.1 in omega (arith, row_low q.0 (in_right q.0 (joined sets) (p.merge.table.rows ++ p.announcements) (in_left q.0 p.merge.table.rows p.announcements q.1)), q.2, l.2))
        (λ w. white_low k (in_left k js cs (subst (λ z. In k z) line.numbers w)))
        (in_append k (uptos line.painted) (uptos line.waiting) (subst (λ z. In k z) (ap uptos line.split ∙ uptos_append line.painted line.waiting) j)))
        (λ j. white_low k (in_right k js cs j))
        (in_append k (uptos ls) cs i)
      where
        white_low : (k : ℕ) → In k (js ++ cs) → k ≤ length p.numbering
        white_low k i = let q = line.whites k i in omega (arith, row_low q.0 (in_right q.0 (joined sets) (p.merge.table.rows ++ p.announcements) q.1), q.2)

    pub numbered_lines : (n : NumberedTransaction) → n.number ≡ suc (length p.numbering) → length lists ≡ length f.slots → Lines sets p.merge (p.announcements ++ announcement_of f n) lists (coming_in (map_with_place (notified_manager f n) 0 p.managers))
    numbered_lines n e long = record {
      long = h.long;
      at = λ x ls js a b. placed_coming
          (λ cs. Line x (last_list x sets) p.merge.table.rows p.announcements ls js cs)
          (λ cs. Line x (last_list x sets) p.merge.table.rows (p.announcements ++ announcement_of f n) ls js cs)
          (notified_manager f n) 0 x p.managers
          (λ m line. let z : 0 + x ≡ x = omega arith in subst (λ w. Line x (last_list x sets) p.merge.table.rows (p.announcements ++ announcement_of f n) ls js (coming (notified_manager f n w m))) (sym z) (notified x ls js m (omega (arith, get_within x lists ls a, long)) line))
          (λ line. line_wider x (last_list x sets) p.merge.table.rows p.announcements ls js [] (announcement_of f n) line)
          (h.at x ls js a b);
    }
      where
        notified : (x : ℕ) (ls : List ActionList) (js : List ℕ) (m : Manager) → x < length f.slots → Line x (last_list x sets) p.merge.table.rows p.announcements ls js (coming m) → Line x (last_list x sets) p.merge.table.rows (p.announcements ++ announcement_of f n) ls js (coming (notified_manager f n x m))
        notified x ls js m lt line = elim (f.concerns n.source n.place x) as (λ b. f.concerns n.source n.place x ≡ b → Line x (last_list x sets) p.merge.table.rows (p.announcements ++ announcement_of f n) ls js (coming (cond b (with_manager_message (update n) m) m))) [
          | true ↦ λ c.
              let z : 0 + x ≡ x = omega arith in
              let place = get_places 0 (length f.slots) x lt ∙ ap (λ w. Some w) z in
              let any = any_from (λ x. f.concerns n.source n.place x) (view_places f) x (get_in x (view_places f) x place) c in
              let entry : slice_get (row_of f n).entries x ≡ Some white = get_mapped (λ x. entry_of (f.concerns n.source n.place x)) x (view_places f) x place ∙ ap (λ b. Some (entry_of b)) c in
              let shape : coming m ++ n.number ∷ [] ≡ coming (with_manager_message (update n) m) =
              append_assoc m.lists (open_part m.open_steps m.last_number ++ updates_of m.messages) (n.number ∷ [])
              ∙ ap (λ z. m.lists ++ z) (append_assoc (open_part m.open_steps m.last_number) (updates_of m.messages) (n.number ∷ []) ∙ ap (λ z. open_part m.open_steps m.last_number ++ z) (sym (updates_push m.messages n))) in
              subst (λ cs. Line x (last_list x sets) p.merge.table.rows (p.announcements ++ announcement_of f n) ls js cs) shape
              (subst (λ b. Line x (last_list x sets) p.merge.table.rows (p.announcements ++ cond b (row_of f n ∷ []) []) ls js (coming m ++ n.number ∷ [])) (sym any)
              (line_more x (last_list x sets) p.merge.table.rows p.announcements ls js (coming m) n.number (row_of f n ∷ []) (row_of f n, inl refl, refl, entry)
              (omega (arith, base_low x, e))
              (λ k i. omega (arith, line_bound x (last_list x sets) ls js (coming m) line k i, e)) line))
          | false ↦ λ c. line_wider x (last_list x sets) p.merge.table.rows p.announcements ls js (coming m) (announcement_of f n) line
        ] refl

  -- ---- rel, act: before the merge settles

  pub came_lines : (r : Row) (rest : List Row) → p.announcements ≡ r ∷ rest → ((x j : ℕ) → slice_get r.entries x ≡ Some (red j) → ⊥) → Lines sets (with_announced_row r p.merge) rest lists (coming_in p.managers)
  came_lines r rest e off = record {
    long = h.long;
    at = λ x ls js a b. line_came x (last_list x sets) p.merge.table.rows rest ls js (coming_in p.managers x) r (off x) (subst (λ z. Line x (last_list x sets) p.merge.table.rows z ls js (coming_in p.managers x)) e (h.at x ls js a b));
  }

  pub acted_lines : (x : ℕ) (a : ActionList) (m : Manager) → a.view ≡ x → slice_get p.managers x ≡ Some m → front m.lists ≡ Some a.upto → Lines sets (with_waiting_list x a.upto p.merge) p.announcements (changed_at x (λ ls. ls ++ a ∷ []) lists) (coming_in (changed_at x without_list p.managers))
  acted_lines x a m v at first = record {
    long = length_changed (λ ls. ls ++ a ∷ []) x lists ∙ (h.long ∙ sym (length_changed (λ js. js ++ a.upto ∷ []) x p.merge.waiting_lists));
    at = λ z ls js b c. go z ls js (get_cases (λ ls. ls ++ a ∷ []) x z lists ls b) (get_cases (λ js. js ++ a.upto ∷ []) x z p.merge.waiting_lists js c);
  }
    where
      coming_here : slice_get (changed_at x without_list p.managers) x ≡ Some (without_list m)
      coming_here = get_changed without_list x p.managers m at

      shape : m.lists ≡ a.upto ∷ without_front m.lists
      shape = front_is m.lists a.upto first

      go : (z : ℕ) (ls : List ActionList) (js : List ℕ)
          → ((z ≡ x) × ((o : List ActionList) × (slice_get lists x ≡ Some o) × (o ++ a ∷ [] ≡ ls))) ⊎ ((z ≡ x → ⊥) × (slice_get lists z ≡ Some ls))
          → ((z ≡ x) × ((o : List ℕ) × (slice_get p.merge.waiting_lists x ≡ Some o) × (o ++ a.upto ∷ [] ≡ js))) ⊎ ((z ≡ x → ⊥) × (slice_get p.merge.waiting_lists z ≡ Some js))
          → Line z (last_list z sets) p.merge.table.rows p.announcements ls js (coming_in (changed_at x without_list p.managers) z)
      go z ls js (inl (zx, (o, b, c))) (inl (zy, (q, d, w))) =
          subst (λ k. Line k (last_list k sets) p.merge.table.rows p.announcements ls js (coming_in (changed_at x without_list p.managers) k)) (sym zx)
          (subst (λ k. Line x (last_list x sets) p.merge.table.rows p.announcements ls js (coming_of k)) (sym coming_here)
          (subst (λ k. Line x (last_list x sets) p.merge.table.rows p.announcements k js (coming (without_list m))) c
          (subst (λ k. Line x (last_list x sets) p.merge.table.rows p.announcements (o ++ a ∷ []) k (coming (without_list m))) w
          (line_acted x (last_list x sets) p.merge.table.rows p.announcements o q a (coming (without_list m)) v
          (subst (λ k. Line x (last_list x sets) p.merge.table.rows p.announcements o q (k ++ (open_part m.open_steps m.last_number ++ updates_of m.messages))) shape
          (subst (λ k. Line x (last_list x sets) p.merge.table.rows p.announcements o q (coming_of k)) at (h.at x o q b d)))))))
      go z ls js (inl (zx, o)) (inr (ne, q)) = absurd (ne zx)
      go z ls js (inr (ne, o)) (inl (zx, q)) = absurd (ne zx)
      go z ls js (inr (ne, o)) (inr (ne2, q)) = subst (λ k. Line z (last_list z sets) p.merge.table.rows p.announcements ls js (coming_of k)) (sym (get_changed_other without_list x z p.managers ne)) (h.at z ls js o q)
