-- What is on its way is accounted for, at every moment.
--
-- `Accounted` is the record of it: each open step of a manager is on its way as an ask, an answer or a reply; each white entry of a row
-- waits for something that is still to come (`Waits`); and the transactions in a queue and the rows that come rise in number, with no list
-- above the last of these rows. `source_kept`, `manager_kept`: a change of one source, or of one manager, that keeps what is on its way
-- keeps it. `commit_kept`, `answer_kept`: so these two events keep it.
--
-- The idea: a white entry waits for a transaction that its manager has still to take, for an open query of that manager, or for a list on
-- its way to the merge or in it (`Reason`). Where one of these goes while the entry is white, another takes its place. A step goes from the
-- asks of its source to its answers and then to the manager's replies, and is in one of these until the manager takes the reply.
--
-- Five lemmas carry it: `flying_changed` (a source changes and keeps a step), `flying_asks` and `flying_news` (asks that are sent), and
-- `give_reason` and `give_fits` (a manager gives its list where no query is open).
use Rattle.std.proofs.Common.{◌≡◌, ℕ, suc, ◌-◌, ◌<◌, ◌≤◌, Bool, true, false, List, [], ◌∷◌, ◌++◌, length, Some, None, eqb, refl, sym, ap, subst, ◌∙◌, arith, ◌⊎◌, inl, inr, ⊎_elim}
use Rattle.std.specs.Prelude.{slice_get, slice_index, fold, find}
use Rattle.std.proofs.lemmas.Bool.{eqb-true, eqb-false}
use Rattle.whips_lists.specs.Lists.{changed_at, front, without_front}
use Rattle.whips_flow.specs.Facts.{Facts}
use Rattle.whips_flow.specs.Painted.{Row, white, is_ready}
use Rattle.whips_flow.specs.State.{Pipeline, Source, Manager, Merge, QueryStep, NumberedTransaction, SourceMessage, sent_transaction, sent_answer, ManagerMessage, update, reply, with_source}
use Rattle.whips_flow.specs.Effects.{with_ask, after_commit, after_answer, with_step_asked, with_list_unless, with_list_if_answered}
use Rattle.whips_lists.proofs.InList.{In}
use Rattle.whips_lists.proofs.ByPlace.{in_append, in_left, in_right, in_changed, in_changed_from, get_in, get_there, get_changed, get_cases, get_changed_other}
use Rattle.whips_lists.proofs.Options.{some_same}
use Rattle.whips_lists.proofs.Lists.{front_is, length_changed}

-- ---- the open steps

-- a source has the step: as an ask, or as an answer on its way
abbrev pub Holds : ℕ → QueryStep → Source → Type 0
Holds x t s = ((q : List QueryStep) × (slice_get s.asks x ≡ Some q) × In t q) ⊎ In (sent_answer x t) s.messages

abbrev pub Flying : ℕ → QueryStep → List Source → Type 0
Flying x t sources = (s : Source) × In s sources × Holds x t s

pub flying_changed : (x : ℕ) (t : QueryStep) (g : Source → Source) (y : ℕ) (sources : List Source) → ((s : Source) → slice_get sources y ≡ Some s → Holds x t s → Holds x t (g s)) → Flying x t sources → Flying x t (changed_at y g sources)
flying_changed x t g y sources keeps (s, i, h) = go (in_changed g y sources s i)
  where
    go : In s (changed_at y g sources) ⊎ ((slice_get sources y ≡ Some s) × In (g s) (changed_at y g sources)) → Flying x t (changed_at y g sources)
    go (inl j) = (s, j, h)
    go (inr j) = (g s, j.1, keeps s j.0 h)

-- a source changes its asks of view z alone, by a change that keeps t
pub holds_asks : (x z : ℕ) (t : QueryStep) (g : List QueryStep → List QueryStep) (s : Source) → ((q : List QueryStep) → slice_get s.asks z ≡ Some q → x ≡ z → In t q → In t (g q)) → (q : List QueryStep) → slice_get s.asks x ≡ Some q → In t q → (r : List QueryStep) × (slice_get (changed_at z g s.asks) x ≡ Some r) × In t r
holds_asks x z t g s keeps q e i = go (eqb x z) refl
  where
    go : (b : Bool) → eqb x z ≡ b → (r : List QueryStep) × (slice_get (changed_at z g s.asks) x ≡ Some r) × In t r
    go true h = let xz = eqb-true x z h in (g q, subst (λ w. slice_get (changed_at z g s.asks) w ≡ Some (g q)) (sym xz) (get_changed g z s.asks q (subst (λ w. slice_get s.asks w ≡ Some q) xz e)), keeps q (subst (λ w. slice_get s.asks w ≡ Some q) xz e) xz i)
    go false h = (q, get_changed_other g z x s.asks (eqb-false x z h) ∙ e, i)

-- ---- the lists that a white entry waits for

abbrev pub HasUpdate : ℕ → List ManagerMessage → Type 0
HasUpdate n [] = ⊥
HasUpdate n (update k ∷ ns) = (k.number ≡ n) ⊎ HasUpdate n ns
HasUpdate n (reply t ∷ ns) = HasUpdate n ns

abbrev pub HasFrom : ℕ → List ℕ → Type 0
HasFrom n [] = ⊥
HasFrom n (j ∷ js) = (n ≤ j) ⊎ HasFrom n js

abbrev pub IsOpen : List QueryStep → Type 0
IsOpen [] = ⊥
IsOpen (t ∷ ts) = Unit {0}

-- the manager has still to take the transaction, or a list with it is still to come or to be painted
abbrev pub Reason : Manager → List ℕ → ℕ → Type 0
Reason m js n = HasUpdate n m.messages ⊎ ((n ≤ m.last_number) × (IsOpen m.open_steps ⊎ HasFrom n m.lists ⊎ HasFrom n js))

-- the transactions among the messages come in order, above low and up to top
abbrev pub Rises : ℕ → List ManagerMessage → ℕ → Type 0
Rises low [] top = low ≤ top
Rises low (update n ∷ ns) top = (low < n.number) × Rises n.number ns top
Rises low (reply t ∷ ns) top = Rises low ns top

pub rises_le : (low : ℕ) (ns : List ManagerMessage) (top : ℕ) → Rises low ns top → low ≤ top
rises_le low [] top h = h
rises_le low (update n ∷ ns) top h = omega (arith, h.0, rises_le n.number ns top h.1)
rises_le low (reply t ∷ ns) top h = rises_le low ns top h

pub rises_up : (low : ℕ) (ns : List ManagerMessage) (top higher : ℕ) → top ≤ higher → Rises low ns top → Rises low ns higher
rises_up low [] top higher le h = omega arith
rises_up low (update n ∷ ns) top higher le h = (h.0, rises_up n.number ns top higher le h.1)
rises_up low (reply t ∷ ns) top higher le h = rises_up low ns top higher le h

pub rises_update : (low : ℕ) (ns : List ManagerMessage) (top : ℕ) (n : NumberedTransaction) → top < n.number → Rises low ns top → Rises low (ns ++ update n ∷ []) n.number
rises_update low [] top n lt h = (omega arith, omega arith)
rises_update low (update k ∷ ns) top n lt h = (h.0, rises_update k.number ns top n lt h.1)
rises_update low (reply t ∷ ns) top n lt h = rises_update low ns top n lt h

pub rises_reply : (low : ℕ) (ns : List ManagerMessage) (top : ℕ) (t : QueryStep) → Rises low ns top → Rises low (ns ++ reply t ∷ []) top
rises_reply low [] top t h = h
rises_reply low (update k ∷ ns) top t h = (h.0, rises_reply k.number ns top t h.1)
rises_reply low (reply u ∷ ns) top t h = rises_reply low ns top t h

pub has_update_left : (n : ℕ) (ns more : List ManagerMessage) → HasUpdate n ns → HasUpdate n (ns ++ more)
has_update_left n [] more h = absurd h
has_update_left n (update k ∷ ns) more (inl e) = inl e
has_update_left n (update k ∷ ns) more (inr h) = inr (has_update_left n ns more h)
has_update_left n (reply t ∷ ns) more h = has_update_left n ns more h

pub has_update_last : (n : NumberedTransaction) (ns : List ManagerMessage) → HasUpdate n.number (ns ++ update n ∷ [])
has_update_last n [] = inl refl
has_update_last n (update k ∷ ns) = inr (has_update_last n ns)
has_update_last n (reply t ∷ ns) = has_update_last n ns

pub has_from_left : (n : ℕ) (js more : List ℕ) → HasFrom n js → HasFrom n (js ++ more)
has_from_left n [] more h = absurd h
has_from_left n (j ∷ js) more (inl e) = inl e
has_from_left n (j ∷ js) more (inr h) = inr (has_from_left n js more h)

pub has_from_last : (n j : ℕ) (js : List ℕ) → n ≤ j → HasFrom n (js ++ j ∷ [])
has_from_last n j [] le = inl le
has_from_last n j (k ∷ js) le = inr (has_from_last n j js le)

-- the last number that came to the merge, or that is on its way there
abbrev pub latest : ℕ → List Row → ℕ
latest announced [] = announced
latest announced (r ∷ rows) = latest r.number rows

pub latest_push : (announced : ℕ) (rows : List Row) (r : Row) → latest announced (rows ++ r ∷ []) ≡ r.number
latest_push announced [] r = refl
latest_push announced (q ∷ rows) r = latest_push q.number rows r

-- the rows that come are numbered in their order, above the last that came
abbrev pub RisingRows : ℕ → List Row → Type 0
RisingRows announced [] = Unit {0}
RisingRows announced (r ∷ rows) = (announced < r.number) × RisingRows r.number rows

-- ---- all of it

pub record ManagerFits (sources : List Source) (top x : ℕ) (m : Manager) : Type 0 where
  pub tokens : (t : QueryStep) → In t m.open_steps → Flying x t sources ⊎ In (reply t) m.messages
  pub rises : Rises m.last_number m.messages top
  pub lists : (j : ℕ) → In j m.lists → j ≤ top

abbrev pub Waits : List Manager → List (List ℕ) → ℕ → ℕ → Type 0
Waits managers waiting x n = (m : Manager) × (js : List ℕ) × (slice_get managers x ≡ Some m) × (slice_get waiting x ≡ Some js) × Reason m js n

abbrev pub WhiteWaits : List Manager → List (List ℕ) → List Row → Type 0
WhiteWaits managers waiting rows = (r : Row) (x : ℕ) → In r rows → slice_get r.entries x ≡ Some white → Waits managers waiting x r.number

pub record Accounted (f : Facts) (p : Pipeline) : Type 0 where
  pub sources_long : length p.sources ≡ length f.transactions
  pub asks_long : (s : Source) → In s p.sources → length s.asks ≡ length f.slots
  pub managers_long : length p.managers ≡ length f.slots
  pub waiting_long : length p.merge.waiting_lists ≡ length f.slots
  pub fits : (x : ℕ) (m : Manager) → slice_get p.managers x ≡ Some m → ManagerFits p.sources (latest p.merge.table.last_announced p.announcements) x m
  pub waiting_low : (x : ℕ) (js : List ℕ) (j : ℕ) → slice_get p.merge.waiting_lists x ≡ Some js → In j js → j ≤ latest p.merge.table.last_announced p.announcements
  pub latest_low : latest p.merge.table.last_announced p.announcements ≤ length p.numbering
  pub rising : RisingRows p.merge.table.last_announced p.announcements
  pub waits : WhiteWaits p.managers p.merge.waiting_lists (p.merge.table.rows ++ p.announcements)

-- the merge has settled: the first waiting list of each view waits for a row that hasn't come, and no row is ready
pub record Settled (m : Merge) : Type 0 where
  pub fronts : (x : ℕ) (js : List ℕ) (j : ℕ) → slice_get m.waiting_lists x ≡ Some js → front js ≡ Some j → m.table.last_announced < j
  pub unready : find (is_ready m.table.rows) m.table.rows ≡ None

-- ---- changes of a source

module _ (f : Facts) (p : Pipeline) (y : ℕ) (g : Source → Source) where
  pub source_kept : ((s : Source) → length (g s).asks ≡ length s.asks) → ((x : ℕ) (t : QueryStep) (s : Source) → slice_get p.sources y ≡ Some s → Holds x t s → Holds x t (g s)) → Accounted f p → Accounted f (with_source y g p)
  source_kept long keeps h = record {
    sources_long = length_changed g y p.sources ∙ h.sources_long;
    asks_long = λ s i. ⊎_elim (λ j. h.asks_long s j) (λ j. ap (λ z. length z.asks) (sym j.2) ∙ (long j.0 ∙ h.asks_long j.0 j.1)) (in_changed_from g y p.sources s i);
    managers_long = h.managers_long;
    waiting_long = h.waiting_long;
    fits = λ x m e. let k = h.fits x m e in record {
      tokens = λ t i. ⊎_elim (λ fl. inl (flying_changed x t g y p.sources (keeps x t) fl)) (λ r. inr r) (k.tokens t i);
      rises = k.rises;
      lists = k.lists;
    };
    waiting_low = h.waiting_low;
    latest_low = h.latest_low;
    rising = h.rising;
    waits = h.waits;
  }

holds_up : (x : ℕ) (t : QueryStep) (s : Source) (more : List SourceMessage) (done : ℕ) → Holds x t s → Holds x t (record s { commit_count = done; messages = s.messages ++ more })
holds_up x t s more done (inl a) = inl a
holds_up x t s more done (inr i) = inr (in_left (sent_answer x t) s.messages more i)

pub commit_kept : (f : Facts) (p : Pipeline) (y : ℕ) → Accounted f p → Accounted f (with_source y after_commit p)
commit_kept f p y h = source_kept f p y after_commit (λ s. refl) (λ x t s e k. holds_up x t s (sent_transaction (suc s.commit_count) ∷ []) (suc s.commit_count) k) h

pub answer_kept : (f : Facts) (p : Pipeline) (y x : ℕ) (s0 : Source) (q0 : List QueryStep) (u : QueryStep) → slice_get p.sources y ≡ Some s0 → slice_get s0.asks x ≡ Some q0 → front q0 ≡ Some u → Accounted f p → Accounted f (with_source y (after_answer x (Some u)) p)
answer_kept f p y x s0 q0 u hs hq hu h = source_kept f p y (after_answer x (Some u)) (λ s. length_changed without_front x s.asks) keeps h
  where
    keeps : (z : ℕ) (t : QueryStep) (s : Source) → slice_get p.sources y ≡ Some s → Holds z t s → Holds z t (after_answer x (Some u) s)
    keeps z t s e (inr i) = inr (in_left (sent_answer z t) s.messages (sent_answer x u ∷ []) i)
    keeps z t s e (inl (q, a, i)) = go (eqb z x) refl
      where
        go : (b : Bool) → eqb z x ≡ b → Holds z t (after_answer x (Some u) s)
        go false ne = inl (q, get_changed_other without_front x z s.asks (eqb-false z x ne) ∙ a, i)
        go true same =
            let zx = eqb-true z x same in
            let ss : s ≡ s0 = some_same s s0 (sym e ∙ hs) in
            let a' : slice_get s.asks x ≡ Some q = subst (λ w. slice_get s.asks w ≡ Some q) zx a in
            let qq : q ≡ q0 = some_same q q0 (sym a' ∙ (ap (λ w. slice_get w.asks x) ss ∙ hq)) in
            let shape : q ≡ u ∷ without_front q = front_is q u (ap front qq ∙ hu) in
            split (subst (λ w. In t w) shape i) (subst (λ w. slice_get (changed_at x without_front s.asks) w ≡ Some (without_front q)) (sym zx) (get_changed without_front x s.asks q a')) zx
          where
            split : In t (u ∷ without_front q) → slice_get (changed_at x without_front s.asks) z ≡ Some (without_front q) → z ≡ x → Holds z t (after_answer x (Some u) s)
            split (inl ut) c zx = inr (in_right (sent_answer z t) s.messages (sent_answer x u ∷ []) (inl (ap (λ w. sent_answer w u) (sym zx) ∙ ap (λ w. sent_answer z w) ut)))
            split (inr j) c zx = inl (without_front q, c, j)

-- ---- the asks of new steps

-- the asks put their steps among those of the sources
abbrev pub asked_one : Facts → ℕ → List Source → QueryStep → List Source
asked_one f x ss t = changed_at (slice_index (f.asked_sources x t.origin) (t.step - 1)) (with_ask x t) ss

pub asks_are : (f : Facts) (x : ℕ) (ts : List QueryStep) (p : Pipeline) → fold (with_step_asked f x) p ts ≡ record p { sources = fold (asked_one f x) p.sources ts }
asks_are f x [] p = refl
asks_are f x (t ∷ ts) p = asks_are f x ts (with_step_asked f x p t)

holds_ask : (z x : ℕ) (t u : QueryStep) (s : Source) → Holds z t s → Holds z t (with_ask x u s)
holds_ask z x t u s (inr i) = inr i
holds_ask z x t u s (inl (q, a, i)) = inl (holds_asks z x t (λ q. q ++ u ∷ []) s (λ q e zx i. in_left t q (u ∷ []) i) q a i)

pub flying_ask : (f : Facts) (z x : ℕ) (t u : QueryStep) (ss : List Source) → Flying z t ss → Flying z t (asked_one f x ss u)
flying_ask f z x t u ss h = flying_changed z t (with_ask x u) (slice_index (f.asked_sources x u.origin) (u.step - 1)) ss (λ s e k. holds_ask z x t u s k) h

pub flying_asks : (f : Facts) (z x : ℕ) (t : QueryStep) (us : List QueryStep) (ss : List Source) → Flying z t ss → Flying z t (fold (asked_one f x) ss us)
flying_asks f z x t [] ss h = h
flying_asks f z x t (u ∷ us) ss h = flying_asks f z x t us (asked_one f x ss u) (flying_ask f z x t u ss h)

-- sources of this shape
pub record Shape (f : Facts) (ss : List Source) : Type 0 where
  pub long : length ss ≡ length f.transactions
  pub asks : (s : Source) → In s ss → length s.asks ≡ length f.slots

pub shape_ask : (f : Facts) (x : ℕ) (u : QueryStep) (ss : List Source) → Shape f ss → Shape f (asked_one f x ss u)
shape_ask f x u ss h = let y = slice_index (f.asked_sources x u.origin) (u.step - 1) in record {
  long = length_changed (with_ask x u) y ss ∙ h.long;
  asks = λ s i. ⊎_elim (λ j. h.asks s j) (λ j. ap (λ z. length z.asks) (sym j.2) ∙ (length_changed (λ q. q ++ u ∷ []) x j.0.asks ∙ h.asks j.0 j.1)) (in_changed_from (with_ask x u) y ss s i);
}

pub shape_asks : (f : Facts) (x : ℕ) (us : List QueryStep) (ss : List Source) → Shape f ss → Shape f (fold (asked_one f x) ss us)
shape_asks f x [] ss h = h
shape_asks f x (u ∷ us) ss h = shape_asks f x us (asked_one f x ss u) (shape_ask f x u ss h)

-- the step of an ask is there, where its source and its view are
pub flying_new : (f : Facts) (x : ℕ) (u : QueryStep) (ss : List Source) → Shape f ss → x < length f.slots → slice_index (f.asked_sources x u.origin) (u.step - 1) < length f.transactions → Flying x u (asked_one f x ss u)
flying_new f x u ss h lt there =
    let y = slice_index (f.asked_sources x u.origin) (u.step - 1) in
    let s = get_there y ss (omega (arith, there, h.long)) in
    let q = get_there x s.0.asks (omega (arith, lt, h.asks s.0 (get_in y ss s.0 s.1))) in (
      with_ask x u s.0,
      get_in y (asked_one f x ss u) (with_ask x u s.0) (get_changed (with_ask x u) y ss s.0 s.1),
      inl (q.0 ++ u ∷ [], get_changed (λ q. q ++ u ∷ []) x s.0.asks q.0 q.1, in_right u q.0 (u ∷ []) (inl refl)),
    )

pub flying_news : (f : Facts) (x : ℕ) (us : List QueryStep) (ss : List Source) → Shape f ss → x < length f.slots → ((u : QueryStep) → In u us → slice_index (f.asked_sources x u.origin) (u.step - 1) < length f.transactions) → (t : QueryStep) → In t us → Flying x t (fold (asked_one f x) ss us)
flying_news f x [] ss h lt there t i = absurd i
flying_news f x (u ∷ us) ss h lt there t (inl e) = flying_asks f x x t us (asked_one f x ss u) (subst (λ w. Flying x w (asked_one f x ss u)) e (flying_new f x u ss h lt (there u (inl refl))))
flying_news f x (u ∷ us) ss h lt there t (inr i) = flying_news f x us (asked_one f x ss u) (shape_ask f x u ss h) lt (λ v j. there v (inr j)) t i

-- ---- managers

-- one manager changes, and the sources with it
module _ (f : Facts) (p : Pipeline) (x : ℕ) (g : Manager → Manager) (m : Manager) (here : slice_get p.managers x ≡ Some m) (ss : List Source) where
  pub manager_kept : Shape f ss → ((z : ℕ) (t : QueryStep) → Flying z t p.sources → Flying z t ss) → ManagerFits ss (latest p.merge.table.last_announced p.announcements) x (g m) → ((js : List ℕ) (n : ℕ) → Reason m js n → Reason (g m) js n) → Accounted f p → Accounted f (record p { sources = ss; managers = changed_at x g p.managers })
  manager_kept shape flies fit reasons h = record {
    sources_long = shape.long;
    asks_long = shape.asks;
    managers_long = length_changed g x p.managers ∙ h.managers_long;
    waiting_long = h.waiting_long;
    fits = fits;
    waiting_low = h.waiting_low;
    latest_low = h.latest_low;
    rising = h.rising;
    waits = λ r z i w. wait r.number z (h.waits r z i w);
  }
    where
      wait : (n z : ℕ) → Waits p.managers p.merge.waiting_lists z n → Waits (changed_at x g p.managers) p.merge.waiting_lists z n
      wait n z (k, js, a, b, why) = go (eqb z x) refl
        where
          go : (b : Bool) → eqb z x ≡ b → Waits (changed_at x g p.managers) p.merge.waiting_lists z n
          go false ne = (k, js, get_changed_other g x z p.managers (eqb-false z x ne) ∙ a, b, why)
          go true e =
              let zx = eqb-true z x e in
              let km : k ≡ m = some_same k m (sym a ∙ (ap (λ w. slice_get p.managers w) zx ∙ here)) in
              (g m, js, ap (λ w. slice_get (changed_at x g p.managers) w) zx ∙ get_changed g x p.managers m here, b, reasons js n (subst (λ w. Reason w js n) km why))

      fits : (z : ℕ) (k : Manager) → slice_get (changed_at x g p.managers) z ≡ Some k → ManagerFits ss (latest p.merge.table.last_announced p.announcements) z k
      fits z k e = go (get_cases g x z p.managers k e)
        where
          go : ((z ≡ x) × ((o : Manager) × (slice_get p.managers x ≡ Some o) × (g o ≡ k))) ⊎ ((z ≡ x → ⊥) × (slice_get p.managers z ≡ Some k)) → ManagerFits ss (latest p.merge.table.last_announced p.announcements) z k
          go (inl (zx, (o, a, c))) =
              let mo : g m ≡ k = ap g (some_same m o (sym here ∙ a)) ∙ c in
              subst (λ w. ManagerFits ss (latest p.merge.table.last_announced p.announcements) w k) (sym zx) (subst (λ w. ManagerFits ss (latest p.merge.table.last_announced p.announcements) x w) mo fit)
          go (inr (ne, a)) = let old = h.fits z k a in record {
            tokens = λ t i. ⊎_elim (λ fl. inl (flies z t fl)) (λ r. inr r) (old.tokens t i);
            rises = old.rises;
            lists = old.lists;
          }

-- a manager that gives its list where nothing is open
pub give_reason : (m : Manager) (js : List ℕ) (n : ℕ) → HasUpdate n m.messages ⊎ (n ≤ m.last_number) → Reason (with_list_if_answered m) js n
give_reason m js n why = go m.open_steps refl why
  where
    go : (ts : List QueryStep) → m.open_steps ≡ ts → HasUpdate n m.messages ⊎ (n ≤ m.last_number) → Reason (with_list_unless ts m) js n
    go [] e (inl u) = inl u
    go [] e (inr le) = inr (le, inr (inl (has_from_last n m.last_number m.lists le)))
    go (t ∷ ts) e (inl u) = inl u
    go (t ∷ ts) e (inr le) = inr (le, inl (subst IsOpen (sym e) tt))

pub give_fits : (sources : List Source) (top x : ℕ) (m : Manager) → ManagerFits sources top x m → ManagerFits sources top x (with_list_if_answered m)
give_fits sources top x m h = go m.open_steps
  where
    go : (ts : List QueryStep) → ManagerFits sources top x (with_list_unless ts m)
    go [] = record { tokens = h.tokens; rises = h.rises; lists = λ j i. ⊎_elim (λ k. h.lists j k) (λ k. ⊎_elim (λ e. omega (arith, e, rises_le m.last_number m.messages top h.rises)) (λ z. absurd z) k) (in_append j m.lists (m.last_number ∷ []) i) }
    go (t ∷ ts) = h

pub old_reason : (m : Manager) (js : List ℕ) (n : ℕ) → Reason m js n → HasUpdate n m.messages ⊎ (n ≤ m.last_number)
old_reason m js n (inl u) = inl u
old_reason m js n (inr le) = inr le.0
