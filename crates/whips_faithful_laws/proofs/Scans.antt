-- What a session reads in a scan, while the store goes on (`sessions`).
--
-- Each call leads to a later moment, at which live versions show the same (`begin_later`, `change_later`, `publish_later`). So what visits
-- see at one version is what the last store shows in all its slots (`visits_see`), and rows that were put behind one another in the order
-- of slots are those in the order of keys (`behinds_are_puts`).
use Rattle.std.proofs.Common.{◌≡◌, ℕ, zero, suc, ◌+◌, ◌*◌, ◌/◌, ◌<◌, ◌≤◌, List, [], ◌∷◌, ◌++◌, length, map, get_or, drop, refl, sym, ap, subst, ◌∙◌, arith, append_assoc, append-nil}
use Rattle.std.specs.Prelude.{fold}
use Rattle.std.specs.List.{AllByRecursion}
use Rattle.std.proofs.Math.Seq.{drop-cons}
use Rattle.std.proofs.lemmas.List.{drop_all, map-append, length-map}
use Rattle.std.proofs.lemmas.List.Sums.{sum_by-cons}
use Rattle.std.proofs.lemmas.Simd.{map-map}
use Rattle.std.proofs.lemmas.Grind.{fold-append}
use Rattle.whips_lists.specs.Lists.{places_from}
use Rattle.whips_model.specs.Tuples.{Codes, Columns}
use Rattle.whips_row_buf.specs.Buffers.{Buffer, put_behind}
use Rattle.whips_vnl.specs.Records.{Seen, visible}
use Rattle.whips_vnl.specs.declared.record.Vstep.{Vstep}
use Rattle.whips_store.specs.Versions.{rows_shown_at}
use Rattle.whips_store.specs.Stores.{ViewState, StoreState, ChangeLists, view_in, seen_in, with_seen}
use Rattle.whips_store.specs.Calls.{begun, changed_once, published}
use Rattle.whips_store.specs.Sound.{IsSoundStore}
use Rattle.whips_store_laws.proofs.Places.{at}
use Rattle.whips_store_laws.proofs.Changed.{map_same}
use Rattle.whips_store_laws.proofs.Whole.{begin_reads, change_reads, publish_reads}
use Rattle.whips_faithful_laws.specs.Faithful.{IsLiveVersion, AreRowsOf, IsFaithful}
use Rattle.whips_faithful_laws.specs.Scans.{IsLater, MomentsFollow, Visit, slots_visited, seen_from, seen_in_visits, with_all_seen, IsEarlierVisit, VisitsSeeOneStore, AreInTurn, store_at_last, SessionsReadValues, VisitsGoOn}
use Rattle.whips_faithful_laws.proofs.Puts.{none_yet, behinds_are_puts}
use Rattle.whips_faithful_laws.proofs.Shapes.{begun_length, begun_alike, changed_length, changed_alike, published_alike}
use Rattle.whips_faithful_laws.proofs.Shown.{all_read}

-- ---- later moments

pub later_itself : (s : StoreState) → IsLater s s
later_itself s = record { versions = refl; phase = omega arith; views = refl; slots = λ x. refl; columns = λ x. refl; same = λ x i v le live. refl }

pub later_again : (a b c : StoreState) → IsLater a b → IsLater b c → IsLater a c
later_again a b c h g = record {
  versions = g.versions ∙ h.versions;
  phase = omega (arith, h.phase, g.phase);
  views = g.views ∙ h.views;
  slots = λ x. g.slots x ∙ h.slots x;
  columns = λ x. g.columns x ∙ h.columns x;
  same = λ x i v le live. g.same x i v (omega (arith, h.phase)) live ∙ h.same x i v le (λ stale. live (omega (arith, g.phase, g.versions)));
}

pub follow : MomentsFollow
follow = (later_itself, later_again)

pub begin_later : (s : StoreState) (cs : ChangeLists) → IsLater s (begun cs s)
begin_later s cs = record {
  versions = refl;
  phase = omega arith;
  views = begun_length s.views cs;
  slots = λ x. (begun_alike s.views cs x).0;
  columns = λ x. (begun_alike s.views cs x).1;
  same = λ x i v le live. begin_reads s cs x i v;
}

pub change_later : (s : StoreState) → IsSoundStore s → IsLater s (changed_once s)
change_later s h = record {
  versions = refl;
  phase = omega arith;
  views = changed_length s.versions (s.phase / 2) s.views;
  slots = λ x. (changed_alike s.versions (s.phase / 2) s.views x).0;
  columns = λ x. (changed_alike s.versions (s.phase / 2) s.views x).1;
  same = λ x i v le live. change_reads s h x i v le live;
}

pub publish_later : (s : StoreState) → IsLater s (published s)
publish_later s = record {
  versions = refl;
  phase = omega arith;
  views = length-map s.views (λ (v : ViewState). record v { current = v.next });
  slots = λ x. (published_alike s.views x).0;
  columns = λ x. (published_alike s.views x).1;
  same = λ x i v le live. publish_reads s x i v;
}

-- ---- visits

places_joined : (m a k : ℕ) → places_from a m ++ places_from (a + m) k ≡ places_from a (m + k)
places_joined zero a k = let here : a + 0 ≡ a = omega arith in let all : k ≡ 0 + k = omega arith in ap (λ b. places_from b k) here ∙ ap (places_from a) all
places_joined (suc m) a k =
    let here : a + suc m ≡ suc a + m = omega arith in
    let all : suc (m + k) ≡ suc m + k = omega arith in
    ap (λ b. a ∷ (places_from (suc a) m ++ places_from b k)) here ∙ ap (λ l. a ∷ l) (places_joined m (suc a) k) ∙ ap (places_from a) all

-- what stands at the last places of a list
pub at_places : {A : Type 0} (xs : List A) (d : A) (m a : ℕ) → a + m ≡ length xs → map (λ v. get_or xs v d) (places_from a m) ≡ drop a xs
at_places xs d zero a e = sym (drop_all a xs (omega (arith, e)))
at_places xs d (suc m) a e = ap (λ l. get_or xs a d ∷ l) (at_places xs d m (suc a) (omega (arith, e))) ∙ sym (drop-cons xs a d (omega (arith, e)))

pub visits_see : VisitsSeeOneStore
visits_see last x v i [] live earlier = refl
visits_see last x v i (visit ∷ visits) live earlier =
    ap (λ l. l ++ seen_in_visits x v (i + visit.slots) visits) (map_same (λ j. seen_in visit.store x j v) (λ j. seen_in last x j v) (places_from i visit.slots) (λ j k. sym (earlier.0.before.same x j v earlier.0.committed live)))
    ∙ ap (λ l. seen_from last x v i visit.slots ++ l) (visits_see last x v (i + visit.slots) visits live earlier.1)
    ∙ sym (map-append (λ j. seen_in last x j v) (places_from i visit.slots) (places_from (i + visit.slots) (slots_visited visits)))
    ∙ ap (λ l. map (λ j. seen_in last x j v) l) (places_joined visit.slots i (slots_visited visits))
    ∙ ap (λ m. seen_from last x v i m) (sym (sum_by-cons (λ (w : Visit). w.slots) visit visits))

all_slots : (n v : ℕ) (records : List (List Vstep)) → map (λ j. visible n v (at records j)) (places_from 0 (length records)) ≡ map (λ steps. visible n v steps) records
all_slots n v records =
    sym (map-map (λ steps. visible n v steps) (λ j. at records j) (places_from 0 (length records)))
    ∙ ap (λ l. map (λ steps. visible n v steps) l) (at_places records [] (length records) 0 (omega arith))

-- the rows at a live version, put as a reader sees them
scanned : (values : ℕ → ℕ → List Codes) (last : StoreState) (x v : ℕ) (visits : List Visit) (b : Buffer) → IsFaithful values last → x < length last.views → IsLiveVersion last.versions last.phase v
    → AllByRecursion (IsEarlierVisit v last) visits → slots_visited visits ≡ length (view_in last x).records → b.columns.key ≡ (view_in last x).columns.key → b.rows ≡ []
    → with_all_seen (seen_in_visits x v 0 visits) b ≡ record b { rows = values x v }
scanned values last x v visits b f lt live earlier all key empty =
    ap (λ seen. with_all_seen seen b) (visits_see last x v 0 visits live.fresh earlier ∙ ap (λ m. seen_from last x v 0 m) all ∙ all_slots last.versions v (view_in last x).records)
    ∙ all_read last.versions v (view_in last x).records b
    ∙ ap (λ rows. record b { rows = rows })
    (ap (λ columns. fold (λ rows t. put_behind columns t rows) b.rows (rows_shown_at last.versions v (view_in last x).records)) key
    ∙ ap (λ rows. fold (λ rows t. put_behind (view_in last x).columns.key t rows) rows (rows_shown_at last.versions v (view_in last x).records)) empty
    ∙ behinds_are_puts (view_in last x).columns.key (rows_shown_at last.versions v (view_in last x).records) [] shown.own (none_yet (view_in last x).columns.key (rows_shown_at last.versions v (view_in last x).records))
    ∙ shown.ordered)
  where
    shown : AreRowsOf (view_in last x).columns.key (values x v) (rows_shown_at last.versions v (view_in last x).records)
    shown = (f x lt).shown v live

-- ---- a session

last_later : (s : StoreState) (visits : List Visit) → AreInTurn s visits → IsLater s (store_at_last s visits)
last_later s [] h = later_itself s
last_later s (visit ∷ visits) h = later_again s visit.store (store_at_last visit.store visits) h.0 (last_later visit.store visits h.1)

all_earlier : (v : ℕ) (s : StoreState) (visits : List Visit) → 2 * v ≤ s.phase → AreInTurn s visits → AllByRecursion (IsEarlierVisit v (store_at_last s visits)) visits
all_earlier v s [] le h = tt
all_earlier v s (visit ∷ visits) le h =
    let there : 2 * v ≤ visit.store.phase = omega (arith, le, h.0.phase) in
    (record { before = last_later visit.store visits h.1; committed = there }, all_earlier v visit.store visits there h.1)

pub sessions : SessionsReadValues
sessions values opened x v visits b le turns f fresh lt all key empty =
    let later = last_later opened visits turns in
    scanned values (store_at_last opened visits) x v visits b f (subst (λ m. x < m) (sym later.views) lt)
    (record { committed = omega (arith, le, later.phase); fresh = fresh })
    (all_earlier v opened visits le turns) (all ∙ sym (later.slots x)) (key ∙ sym (ap (λ (c : Columns). c.key) (later.columns x))) empty

-- ---- one more visit

still_in_turn : (s : StoreState) (visits : List Visit) (visit : Visit) → AreInTurn s visits → IsLater (store_at_last s visits) visit.store → AreInTurn s (visits ++ visit ∷ []) × (store_at_last s (visits ++ visit ∷ []) ≡ visit.store)
still_in_turn s [] visit h l = ((l, tt), refl)
still_in_turn s (w ∷ visits) visit h l = let more = still_in_turn w.store visits visit h.1 l in ((h.0, more.0), more.1)

more_slots : (visits : List Visit) (visit : Visit) → slots_visited (visits ++ visit ∷ []) ≡ slots_visited visits + visit.slots
more_slots [] visit = let one = sum_by-cons (λ (w : Visit). w.slots) visit [] in omega (arith, one)
more_slots (w ∷ visits) visit =
    let a = sum_by-cons (λ (w : Visit). w.slots) w (visits ++ visit ∷ []) in
    let b = sum_by-cons (λ (w : Visit). w.slots) w visits in
    omega (arith, a, b, more_slots visits visit)

seen_more : (x v i : ℕ) (visits : List Visit) (visit : Visit) → seen_in_visits x v i (visits ++ visit ∷ []) ≡ seen_in_visits x v i visits ++ seen_from visit.store x v (i + slots_visited visits) visit.slots
seen_more x v i [] visit = append-nil (seen_from visit.store x v i visit.slots) ∙ ap (λ j. seen_from visit.store x v j visit.slots) (let here : i ≡ i + 0 = omega arith in here)
seen_more x v i (w ∷ visits) visit =
    ap (λ l. seen_from w.store x v i w.slots ++ l) (seen_more x v (i + w.slots) visits visit)
    ∙ sym (append_assoc (seen_from w.store x v i w.slots) (seen_in_visits x v (i + w.slots) visits) (seen_from visit.store x v (i + w.slots + slots_visited visits) visit.slots))
    ∙ ap (λ j. (seen_from w.store x v i w.slots ++ seen_in_visits x v (i + w.slots) visits) ++ seen_from visit.store x v j visit.slots)
    (let all = sum_by-cons (λ (w : Visit). w.slots) w visits in let there : i + w.slots + slots_visited visits ≡ i + slots_visited (w ∷ visits) = omega (arith, all) in there)

pub go_on : VisitsGoOn
go_on opened x v visits visit b turns later =
    let more = still_in_turn opened visits visit turns later in (
      more.0,
      more.1,
      more_slots visits visit,
      ap (λ seen. with_all_seen seen b) (seen_more x v 0 visits visit ∙ ap (λ j. seen_in_visits x v 0 visits ++ seen_from visit.store x v j visit.slots) (let here : 0 + slots_visited visits ≡ slots_visited visits = omega arith in here))
          ∙ fold-append (λ (b : Buffer) (s : Seen). with_seen s b) b (seen_in_visits x v 0 visits) (seen_from visit.store x v (slots_visited visits) visit.slots),
    )
