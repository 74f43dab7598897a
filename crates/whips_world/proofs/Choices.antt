-- What a turn of a picker may pick: the enabled events of the pipeline, and then those of each session by what it is.
--
-- `choices_are`: so are the choices of a run.
use Rattle.std.proofs.Common.{◌≡◌, ℕ, zero, suc, ◌+◌, ◌≤◌, Bool, true, false, ◌&&◌, not, leb, ltb, List, [], ◌∷◌, ◌++◌, length, Option, Some, None, cond, refl, sym, ap, ap₂, ◌∙◌, arith, ◌<◌, ◌⊎◌, inl, inr}
use Rattle.std.specs.Prelude.{map, filter, slice_get, is_some, nat_le}
use Rattle.std.specs.List.{flat_map, AllByRecursion}
use Rattle.std.proofs.lemmas.List.Elements.{filter-append}
use Rattle.std.proofs.lemmas.Bool.{lt-ltb, le-ltb}
use Rattle.std.proofs.lemmas.Bool.Decides.{leb_tells}
use Rattle.whips_lists.specs.Lists.{places_from}
use Rattle.whips_lists.proofs.Alls.{all_append}
use Rattle.whips_flow.specs.Facts.{Facts, view_places, source_places}
use Rattle.whips_flow.specs.Events.{is_pipeline_event}
use Rattle.whips_flow.specs.Progress.{is_enabled, pipeline_events}
use Rattle.whips_flow.specs.declared.event.Event.{Event}
use Rattle.whips_flow.specs.declared.event.Event.TheVariants.{Commit, Answer, Integrate, Manage, Rel, Act, Begin, Change, Publish, SessionOpen, SessionScan, SessionFetch, SessionClose}
use Rattle.whips_runs.specs.Sessions.{Session, not_open, open_at, scanning, is_not_open, is_open, scan_of}
use Rattle.whips_runs.specs.World.{World, is_allowed}
use Rattle.whips_runs.specs.Picks.{session_events, is_scan, choices}
use Rattle.whips_world.specs.Picks.{scans_of, session_choices}

-- ---- lists

module _ {A : Type 0} where
  pub filter_same : (p q : A → Bool) (xs : List A) → AllByRecursion (λ x. p x ≡ q x) xs → filter p xs ≡ filter q xs
  filter_same p q [] h = refl
  filter_same p q (x ∷ xs) h = ap₂ (λ (b : Bool) (l : List A). cond b (x ∷ l) l) h.0 (filter_same p q xs h.1)

  pub filter_all : (p : A → Bool) (xs : List A) → AllByRecursion (λ x. p x ≡ true) xs → filter p xs ≡ xs
  filter_all p [] h = refl
  filter_all p (x ∷ xs) h = ap₂ (λ (b : Bool) (l : List A). cond b (x ∷ l) l) h.0 (filter_all p xs h.1)

  pub filter_none : (p : A → Bool) (xs : List A) → AllByRecursion (λ x. p x ≡ false) xs → filter p xs ≡ []
  filter_none p [] h = refl
  filter_none p (x ∷ xs) h = ap₂ (λ (b : Bool) (l : List A). cond b (x ∷ l) l) h.0 (filter_none p xs h.1)

  pub all_mapped : {B : Type 0} (P : A → Type 0) (g : B → A) (xs : List B) → ((x : B) → P (g x)) → AllByRecursion P (map g xs)
  all_mapped P g [] h = tt
  all_mapped P g (x ∷ xs) h = (h x, all_mapped P g xs h)

  pub all_joined : {B : Type 0} (P : A → Type 0) (g : B → List A) (xs : List B) → ((x : B) → AllByRecursion P (g x)) → AllByRecursion P (flat_map g xs)
  all_joined P g [] h = tt
  all_joined P g (x ∷ xs) h = all_append P (g x) (flat_map g xs) (h x) (all_joined P g xs h)

  pub filter_joined : {B : Type 0} (p : A → Bool) (g h : B → List A) (xs : List B) → ((x : B) → filter p (g x) ≡ h x) → filter p (flat_map g xs) ≡ flat_map h xs
  filter_joined p g h [] same = refl
  filter_joined p g h (x ∷ xs) same = filter-append p (g x) (flat_map g xs) ∙ ap₂ (λ a b. a ++ b) (same x) (filter_joined p g h xs same)

-- ---- the events of the pipeline

module _ (P : Event → Type 0) (h : (e : Event) → is_pipeline_event e ≡ true → P e) (f : Facts) where
  -- a fact of each event of the pipeline
  pub all_piped : AllByRecursion P (pipeline_events f)
  all_piped =
      let views = view_places f in
      let sources = source_places f in
      let acts = all_mapped P Act views (λ x. h (Act x) refl) in
      let manages = all_mapped P Manage views (λ x. h (Manage x) refl) in
      let integrates = all_mapped P Integrate sources (λ y. h (Integrate y) refl) in
      let answers = all_joined P (λ y. map (Answer y) views) sources (λ y. all_mapped P (Answer y) views (λ x. h (Answer y x) refl)) in
      let commits = all_mapped P Commit sources (λ y. h (Commit y) refl) in
      let first = Publish ∷ Change ∷ Begin ∷ map Act views in
      let second = Rel ∷ map Manage views in
      let third = map Integrate sources in
      let fourth = flat_map (λ y. map (Answer y) views) sources in
      all_append P (((first ++ second) ++ third) ++ fourth) (map Commit sources)
      (all_append P ((first ++ second) ++ third) fourth
      (all_append P (first ++ second) third (all_append P first second (h Publish refl, (h Change refl, (h Begin refl, acts))) (h Rel refl, manages)) integrates) answers) commits

module _ (f : Facts) (w : World) where
  -- whether a turn may pick the event
  abbrev may : Event → Bool
  may e = is_allowed f w e && not (is_scan e && nat_le 1000 w.scan_count)

  with_true : (b : Bool) → (b && true) ≡ b
  with_true true = refl
  with_true false = refl

  piped_may : (e : Event) → is_pipeline_event e ≡ true → may e ≡ is_enabled f w.pipeline e
  piped_may (Commit y) h = with_true (is_enabled f w.pipeline (Commit y))
  piped_may (Answer y x) h = with_true (is_enabled f w.pipeline (Answer y x))
  piped_may (Integrate y) h = with_true (is_enabled f w.pipeline (Integrate y))
  piped_may (Manage x) h = with_true (is_enabled f w.pipeline (Manage x))
  piped_may Rel h = with_true (is_enabled f w.pipeline Rel)
  piped_may (Act x) h = with_true (is_enabled f w.pipeline (Act x))
  piped_may Begin h = with_true (is_enabled f w.pipeline Begin)
  piped_may Change h = with_true (is_enabled f w.pipeline Change)
  piped_may Publish h = with_true (is_enabled f w.pipeline Publish)
  piped_may (SessionOpen s) h = absurd (cc)
  piped_may (SessionScan s x) h = absurd (cc)
  piped_may (SessionFetch s n) h = absurd (cc)
  piped_may (SessionClose s) h = absurd (cc)

  -- ---- the events of a session

  not_le : (n : ℕ) → not (leb 1000 n) ≡ ltb n 1000
  not_le n = by (leb_tells 1000 n)
    where
      by : ((leb 1000 n ≡ true) × (1000 ≤ n)) ⊎ ((leb 1000 n ≡ false) × (n < 1000)) → not (leb 1000 n) ≡ ltb n 1000
      by (inl h) = ap not h.0 ∙ sym (le-ltb n 1000 h.1)
      by (inr h) = ap not h.0 ∙ sym (lt-ltb n 1000 h.1)

  placed : (P : Event → Type 0) (g : ℕ → Event) (k n : ℕ) → ((x : ℕ) → x < k + n → P (g x)) → AllByRecursion P (map g (places_from k n))
  placed P g k zero h = tt
  placed P g k (suc n) h = (h k (omega arith), placed P g (suc k) n (λ x lt. h x (omega (arith, lt))))

  scan_may : (s x : ℕ) → x < length f.slots → may (SessionScan s x) ≡ (is_open (slice_get w.sessions s) && ltb w.scan_count 1000)
  scan_may s x lt = ap₂ (λ a b. (is_open (slice_get w.sessions s) && a) && b) (lt-ltb x (length f.slots) lt) (not_le w.scan_count) ∙ ap (λ a. a && ltb w.scan_count 1000) (with_true (is_open (slice_get w.sessions s)))

  scans_are : (s : ℕ) (b : Bool) → (is_open (slice_get w.sessions s) && ltb w.scan_count 1000) ≡ b → filter may (map (SessionScan s) (view_places f)) ≡ scans_of b (length f.slots) s
  scans_are s true e = filter_all may (map (SessionScan s) (view_places f)) (placed (λ e. may e ≡ true) (SessionScan s) 0 (length f.slots) (λ x lt. scan_may s x (omega (arith, lt)) ∙ e))
  scans_are s false e = filter_none may (map (SessionScan s) (view_places f)) (placed (λ e. may e ≡ false) (SessionScan s) 0 (length f.slots) (λ x lt. scan_may s x (omega (arith, lt)) ∙ e))

  -- the events of a session by what it is
  abbrev with_parts : ℕ → Bool → Bool → Bool → List Event
  with_parts s closed fetches is_there =
      cond closed (SessionOpen s ∷ (scans_of (is_there && ltb w.scan_count 1000) (length f.slots) s ++ cond fetches (SessionFetch s 64 ∷ cond is_there (SessionClose s ∷ []) []) (cond is_there (SessionClose s ∷ []) [])))
      (scans_of (is_there && ltb w.scan_count 1000) (length f.slots) s ++ cond fetches (SessionFetch s 64 ∷ cond is_there (SessionClose s ∷ []) []) (cond is_there (SessionClose s ∷ []) []))

  parts_are : (s : ℕ) (o : Option Session) → with_parts s (is_not_open o) (is_some (scan_of o)) (is_open o) ≡ session_choices (ltb w.scan_count 1000) (length f.slots) s o
  parts_are s None = refl
  parts_are s (Some not_open) = refl
  parts_are s (Some (open_at v)) = refl
  parts_are s (Some (scanning scan)) = refl

  split_is : (s : ℕ) → filter may (session_events f s)
      ≡ with_parts s (is_not_open (slice_get w.sessions s)) (is_some (scan_of (slice_get w.sessions s))) (is_open (slice_get w.sessions s))
  split_is s =
      let o = slice_get w.sessions s in
      let behind = SessionFetch s 64 ∷ SessionClose s ∷ [] in
      let scans = map (SessionScan s) (view_places f) in
      let opens : may (SessionOpen s) ≡ is_not_open o = with_true (is_not_open o) in
      let fetches : may (SessionFetch s 64) ≡ is_some (scan_of o) = with_true (is_some (scan_of o) && true) ∙ with_true (is_some (scan_of o)) in
      let closes : may (SessionClose s) ≡ is_open o = with_true (is_open o) in
      let rest : filter may (scans ++ behind) ≡ scans_of (is_open o && ltb w.scan_count 1000) (length f.slots) s ++ cond (is_some (scan_of o)) (SessionFetch s 64 ∷ cond (is_open o) (SessionClose s ∷ []) []) (cond (is_open o) (SessionClose s ∷ []) []) =
      filter-append may scans behind ∙ ap₂ (λ a b. a ++ b) (scans_are s (is_open o && ltb w.scan_count 1000) refl)
      (ap₂ (λ a b. cond a (SessionFetch s 64 ∷ cond b (SessionClose s ∷ []) []) (cond b (SessionClose s ∷ []) [])) fetches closes) in
      ap₂ (λ (a : Bool) (l : List Event). cond a (SessionOpen s ∷ l) l) opens rest

  -- ---- all of them

  pub choices_are : choices f w ≡ filter (is_enabled f w.pipeline) (pipeline_events f) ++ flat_map (λ s. session_choices (ltb w.scan_count 1000) (length f.slots) s (slice_get w.sessions s)) (places_from 0 f.sessions)
  choices_are =
      filter-append may (pipeline_events f) (flat_map (session_events f) (places_from 0 f.sessions))
      ∙ ap₂ (λ a b. a ++ b) (filter_same may (is_enabled f w.pipeline) (pipeline_events f) (all_piped (λ e. may e ≡ is_enabled f w.pipeline e) piped_may f))
      (filter_joined may (session_events f) (λ s. session_choices (ltb w.scan_count 1000) (length f.slots) s (slice_get w.sessions s)) (places_from 0 f.sessions)
      (λ s. split_is s ∙ parts_are s (slice_get w.sessions s)))
