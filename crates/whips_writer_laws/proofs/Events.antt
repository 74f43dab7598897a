-- The events of a run and the calls of a store.
use Rattle.std.proofs.Common.{◌≡◌, ◌⊎◌, inl, inr, ℕ, ◌%◌, true, false, not, cond, eqb, ltb, List, [], ◌∷◌, ◌++◌, length, Option, Some, None, is_some, refl, sym, ap, subst, ◌∙◌}
use Rattle.std.specs.Prelude.{fold}
use Rattle.std.specs.Option.{option_map, option_and_then}
use Rattle.std.proofs.lemmas.Bool.{and_parts, eqb-true, ltb-true}
use Rattle.whips_flow.specs.Facts.{Facts, Shortage}
use Rattle.whips_flow.specs.Painted.{Row}
use Rattle.whips_flow.specs.State.{Pipeline, QueryStep, SourceMessage, sent_transaction, sent_answer, ManagerMessage, update, reply, with_source, with_manager, oldest_message, oldest_manager_message, oldest_list, oldest_row_set}
use Rattle.whips_flow.specs.Effects.{cuts_in_use, begin_shortage, after_begin, after_change, after_publish, after_integrate, with_step_asked, after_message, after_rel, after_act, next_step, with_next_step, without_query, with_transaction, first_steps, without_message, without_manager_message}
use Rattle.whips_flow.specs.Progress.{is_enabled, next, shortage_at, is_done, step}
use Rattle.whips_flow.specs.declared.event.Event.{Event}
use Rattle.whips_flow.specs.declared.event.Event.TheVariants.{Commit, Answer, Integrate, Manage, Rel, Act, Begin, Change, Publish, SessionOpen, SessionScan, SessionFetch, SessionClose}
use Rattle.whips_facts.specs.Scripts.{Script}
use Rattle.whips_facts.specs.ScriptFacts.{facts_of}
use Rattle.whips_store.specs.Stores.{StoreState}
use Rattle.whips_writer_laws.specs.Needs.{full_of}
use Rattle.whips_faithful_laws.specs.Scans.{IsLater}
use Rattle.whips_writer_laws.specs.Writers.{GoesWith, IsMove, EventsGoWith, last_store, RunsGoWith}
use Rattle.whips_faithful_laws.proofs.Scans.{later_itself, later_again, begin_later, change_later, publish_later}
use Rattle.whips_writer_laws.proofs.Writers.{begin_goes, change_goes, publish_goes}
use Rattle.whips_lists.specs.Lists.{front}

-- ---- the writer stays

integrate_stays : (f : Facts) (y : ℕ) (m : Option SourceMessage) (p : Pipeline) → (after_integrate f y m p).writer ≡ p.writer
integrate_stays f y None p = refl
integrate_stays f y (Some (sent_transaction k)) p = refl
integrate_stays f y (Some (sent_answer x t)) p = refl

asks_stay : (f : Facts) (x : ℕ) (ts : List QueryStep) (p : Pipeline) → (fold (with_step_asked f x) p ts).writer ≡ p.writer
asks_stay f x [] p = refl
asks_stay f x (t ∷ ts) p = asks_stay f x ts (with_step_asked f x p t)

message_stays : (f : Facts) (x : ℕ) (m : Option ManagerMessage) (p : Pipeline) → (after_message f x m p).writer ≡ p.writer
message_stays f x None p = refl
message_stays f x (Some (update n)) p = asks_stay f x (first_steps f x n) (with_manager x (with_transaction f x n) p)
message_stays f x (Some (reply t)) p = elim (ltb t.step (length (f.asked_sources x t.origin))) as (λ b. (cond b (with_step_asked f x (with_manager x (with_next_step t) p) (next_step t)) (with_manager x (without_query t) p)).writer ≡ p.writer) [ true ↦ refl | false ↦ refl ]

rel_stays : (r : Option Row) (p : Pipeline) → (after_rel r p).writer ≡ p.writer
rel_stays None p = refl
rel_stays (Some r) p = refl

act_stays : (x : ℕ) (j : Option ℕ) (p : Pipeline) → (after_act x j p).writer ≡ p.writer
act_stays x None p = refl
act_stays x (Some j) p = refl

-- ---- an event

none_from : (o : Option Shortage) → not (is_some o) ≡ true → o ≡ None
none_from None e = refl
none_from (Some s) e = absurd (cc)

module _ (script : Script) (p : Pipeline) (s t : StoreState) (h : GoesWith script p.writer s) where
  unmoved : (q : Pipeline) → q.writer ≡ p.writer → t ≡ s → GoesWith script q.writer t × IsLater s t
  unmoved q same is = (subst (λ w. GoesWith script w t) (sym same) (subst (GoesWith script p.writer) (sym is) h), subst (IsLater s) (sym is) (later_itself s))

  begins : is_enabled (facts_of script) p Begin ≡ true → begin_shortage (facts_of script) p ≡ None → IsMove script p Begin s t → GoesWith script (next (facts_of script) p Begin).writer t × IsLater s t
  begins enabled enough m =
      let even = eqb-true (p.writer.phase % 2) 0 (and_parts (is_some (oldest_row_set p)) (eqb (p.writer.phase % 2) 0) enabled).1 in
      let both = begin_goes script p.writer m.0 s m.1 h even m.3 in
      let room : (facts_of script).shortage (cuts_in_use (facts_of script) p.writer ++ m.0 ∷ []) ≡ None =
      sym (ap (λ o. option_and_then (λ cut. (facts_of script).shortage (cuts_in_use (facts_of script) p.writer ++ cut ∷ [])) o) m.2) ∙ enough in (
        subst (λ o. GoesWith script (after_begin (facts_of script) o p).writer t) (sym m.2) (subst (GoesWith script (after_begin (facts_of script) (Some m.0) p).writer) (sym m.4) (both.1 (both.0 ∙ ap (option_map full_of) room))),
        subst (IsLater s) (sym m.4) (begin_later s m.1),
      )

  moved : (e : Event) → is_enabled (facts_of script) p e ≡ true → shortage_at (facts_of script) p e ≡ None → IsMove script p e s t → GoesWith script (next (facts_of script) p e).writer t × IsLater s t
  moved (Commit y) enabled enough m = unmoved (next (facts_of script) p (Commit y)) refl m
  moved (Answer y x) enabled enough m = unmoved (next (facts_of script) p (Answer y x)) refl m
  moved (Integrate y) enabled enough m = unmoved (next (facts_of script) p (Integrate y)) (integrate_stays (facts_of script) y (oldest_message p y) (with_source y without_message p)) m
  moved (Manage x) enabled enough m = unmoved (next (facts_of script) p (Manage x)) (message_stays (facts_of script) x (oldest_manager_message p x) (with_manager x without_manager_message p)) m
  moved Rel enabled enough m = unmoved (next (facts_of script) p Rel) (rel_stays (front p.announcements) p) m
  moved (Act x) enabled enough m = unmoved (next (facts_of script) p (Act x)) (act_stays x (oldest_list p x) p) m
  moved Begin enabled enough m = begins enabled enough m
  moved Change enabled enough m = (
    subst (GoesWith script (after_change p.writer)) (sym m) (change_goes script p.writer s h (ltb-true 0 p.writer.changes_left enabled)),
    subst (IsLater s) (sym m) (change_later s h.sound),
  )
  moved Publish enabled enough m =
      let both = and_parts (eqb (p.writer.phase % 2) 1) (eqb p.writer.changes_left 0) enabled in (
        subst (GoesWith script (after_publish p.writer)) (sym m) (publish_goes script p.writer s h (eqb-true (p.writer.phase % 2) 1 both.0) (eqb-true p.writer.changes_left 0 both.1)),
        subst (IsLater s) (sym m) (publish_later s),
      )
  moved (SessionOpen i) enabled enough m = unmoved p refl m
  moved (SessionScan i x) enabled enough m = unmoved p refl m
  moved (SessionFetch i k) enabled enough m = unmoved p refl m
  moved (SessionClose i) enabled enough m = unmoved p refl m

pub events : EventsGoWith
events script p e s t h done m =
    let both = and_parts (is_enabled (facts_of script) p e) (not (is_some (shortage_at (facts_of script) p e))) done in
    subst (λ b. GoesWith script (cond b (next (facts_of script) p e) p).writer t × IsLater s t) (sym done) (moved script p s t h e both.0 (none_from (shortage_at (facts_of script) p e) both.1) m)

-- ---- a run

pub runs : RunsGoWith
runs script p [] s [] h moves = (h, later_itself s)
runs script p [] s (t ∷ ts) h moves = absurd moves
runs script p (e ∷ es) s [] h moves = absurd moves
runs script p (e ∷ es) s (t ∷ ts) h moves =
    let one = first_event moves.0 in
    let more = runs script (step (facts_of script) p e) es t ts one.0 moves.1 in
    (more.0, later_again s t (last_store t ts) one.1 more.1)
  where
    first_event : ((is_done (facts_of script) p e ≡ true) × IsMove script p e s t) ⊎ ((is_done (facts_of script) p e ≡ false) × (t ≡ s)) → GoesWith script (step (facts_of script) p e).writer t × IsLater s t
    first_event (inl m) = events script p e s t h m.0 m.1
    first_event (inr m) = subst (λ b. GoesWith script (cond b (next (facts_of script) p e) p).writer t × IsLater s t) (sym m.0) (subst (GoesWith script p.writer) (sym m.1) h, subst (IsLater s) (sym m.1) (later_itself s))
