-- Sessions and schedules that were read, or left out, are read again as they are written.
use Rattle.std.proofs.Common.{◌≡◌, ℕ, List, [], ◌∷◌, ◌++◌, map, Option, Some, None, Ok, refl, sym, ap, subst, ◌∙◌}
use Rattle.std.specs.Prelude.{⊤}
use Rattle.serde_json.specs.Data.{Data, string}
use Rattle.serde_json.specs.Find.{get}
use Rattle.whips_flow.specs.declared.event.Event.{Event}
use Rattle.whips_setup.specs.declared.plan.Plan.{Plan}
use Rattle.whips_setup.specs.declared.plan.Plan.TheVariants.{Listed, Picked}
use Rattle.whips_facts.specs.Scripts.{Labels}
use Rattle.whips_reading.specs.declared.place.Code.TheVariants.{Limit, BadEvent}
use Rattle.whips_reading.specs.declared.place.Member.TheVariants as member
use Rattle.whips_reading.specs.Json.{Text}
use Rattle.whips_reading.specs.Places.{Place, member_name, in_member}
use Rattle.whips_reading.specs.Reading.{Read, ◌>>=◌, there, within, read_or, elements, in_turn, number_within}
use Rattle.whips_reading.specs.Names.{text_in}
use Rattle.whips_plan_reading.specs.Events.{event_in}
use Rattle.whips_plan_reading.specs.Sessions.{sessions_in, sessions_of}
use Rattle.whips_plan_reading.specs.Schedules.{event_added, have_few_scans, events_in, listed_in, picked_in, is_listed, is_picked, schedule_in, schedule_of}
use Rattle.whips_plan_reading.specs.Plans.{PlanForm, plan_in}
use Rattle.whips_script_laws.specs.Printed.{names_in}
use Rattle.whips_script_laws.proofs.Parts.{bound, tested, there_is, member_read}
use Rattle.whips_script_laws.proofs.Printed.{printed}
use Rattle.whips_script_writing.specs.Objects.{list_data, text_list}
use Rattle.whips_script_writing.specs.Scripts.{event_data, schedule_data}
use Rattle.whips_canonical_laws.proofs.Lists.{choose, same_value, text_written, list_made, all_plain}
use Rattle.whips_canonical_laws.proofs.Views.{sessions_written}
use Rattle.whips_canonical_laws.proofs.WholeViews.{list_again}
use Rattle.whips_canonical_laws.proofs.Schedules.{picked_read}

module _ (l : Labels) (place : Place) where
  one_event : (s t : List Event) (p : Place) (d : Data) → ⊤ → event_added (names_in l) s p d ≡ Ok t → (e : Event) × (t ≡ s ++ e ∷ []) × (event_data l e ≡ d)
  one_event s t p d h f =
      let b = bound (text_in p d) _ t f in
      let e = bound (there (event_in (names_in l) b.0) BadEvent p) _ t b.2 in
      let same : s ++ e.0 ∷ [] ≡ t = same_value _ _ e.2 in
      let is = printed l b.0 e.0 (there_is (event_in (names_in l) b.0) BadEvent p e.0 e.1) in
      (e.0, sym same, ap string (sym is) ∙ text_written p d b.0 b.1)

  events_written : (p : Place) (d : Data) (events : List Event) → events_in (names_in l) p d ≡ Ok events → list_data (map (event_data l) events) ≡ d
  events_written p d events f =
      let ds = bound (elements 0 65536 p d) _ events f in
      let es = bound (in_turn (event_added (names_in l)) p 0 [] ds.0) _ events ds.2 in
      let few = tested (have_few_scans es.0) Limit p _ events es.2 in
      let same : es.0 ≡ events = same_value _ _ few.1 in
      let made : (elements 0 65536 p d >>= in_turn (event_added (names_in l)) p 0 []) ≡ Ok es.0 = ap (λ o. o >>= in_turn (event_added (names_in l)) p 0 []) ds.1 ∙ es.1 in
      ap (λ xs. list_data (map (event_data l) xs)) (sym same) ∙ list_made (event_added (names_in l)) (event_data l) (λ _. ⊤) one_event 0 65536 p d es.0 (λ ds f. all_plain ds) made

  abbrev IsReadAgain : Plan → Type 0
  IsReadAgain plan = schedule_in (names_in l) place (schedule_data l plan) ≡ Ok plan

  listed_again : (d : Data) (plan : Plan) → listed_in (names_in l) place d ≡ Ok plan → IsReadAgain plan
  listed_again d plan f =
      let es = bound (within member.Events (events_in (names_in l)) place d) _ plan f in
      let e = member_read member.Events (events_in (names_in l)) place d es.0 es.1 in
      let same : Listed es.0 ≡ plan = same_value _ _ es.2 in
      let again : events_in (names_in l) (in_member place member.Events) (list_data (map (event_data l) es.0)) ≡ Ok es.0 = ap (events_in (names_in l) (in_member place member.Events)) (events_written (in_member place member.Events) e.0 es.0 e.1) ∙ e.1 in
      subst IsReadAgain same (ap (λ (o : Read (List Event)). o >>= λ events. Ok (Listed events)) again)

  other : (start steps : ℕ) (events : List Event) → (let r : Read Plan = Ok (Picked start steps) in r) ≡ Ok (Listed events) → ⊥
  other start steps events e = cc

  picked_again : (d : Data) (plan : Plan) → picked_in place d ≡ Ok plan → IsReadAgain plan
  picked_again d (Listed events) f =
      let a = bound (within member.Start (number_within 0 4294967295) place d) _ (Listed events) f in
      let b = bound (within member.Steps (number_within 0 65536) place d) _ (Listed events) a.2 in
      absurd (other a.0 b.0 events b.2)
  picked_again d (Picked start steps) f = picked_read place d start steps f

  schedule_again : (d : Data) (plan : Plan) → schedule_in (names_in l) place d ≡ Ok plan → IsReadAgain plan
  schedule_again d plan f =
      choose (is_listed d) (listed_in (names_in l) place d) _ (Ok plan) (λ h. h) f
      (λ k g. listed_again d plan g)
      (λ g. choose (is_picked d) (picked_in place d) _ (Ok plan) (λ h. h) g
      (λ k h. picked_again d plan h)
      (λ h. absurd (cc)))

  schedule_or_none : (o : Option Data) (plan : Plan) → read_or (Listed []) (schedule_in (names_in l) place) o ≡ Ok plan → IsReadAgain plan
  schedule_or_none None plan f = let same : Listed [] ≡ plan = same_value _ _ f in subst IsReadAgain same refl
  schedule_or_none (Some d) plan f = schedule_again d plan f

sessions_again : (place : Place) (o : Option Data) (names : List Text) → read_or [] (sessions_in place) o ≡ Ok names → sessions_in place (text_list names) ≡ Ok names
sessions_again place o names e = list_again (sessions_in place) string names o refl (λ d f g. sessions_written place d names g) e

-- a document with these sessions and this schedule written in it
module _ (l : Labels) (place : Place) (d e : Data) (form : PlanForm) (sessions_are : l.sessions ≡ form.sessions) (there_sessions : get (member_name member.Sessions) e ≡ Some (text_list form.sessions)) (there_schedule : get (member_name member.Schedule) e ≡ Some (schedule_data l form.plan)) where
  pub plan_again : plan_in l.sources l.views place d ≡ Ok form → plan_in l.sources l.views place e ≡ Ok form
  plan_again f =
      let s = bound (sessions_of place d) _ form f in
      let p = bound (schedule_of _ place d) _ form s.2 in
      let same : (let x : PlanForm = record { sessions = s.0; plan = p.0 } in x) ≡ form = same_value _ _ p.2 in
      let is_sessions : s.0 ≡ form.sessions = ap (λ (x : PlanForm). x.sessions) same in
      let is_plan : p.0 ≡ form.plan = ap (λ (x : PlanForm). x.plan) same in
      let names = is_sessions ∙ sym sessions_are in
      let read : sessions_of place e ≡ Ok form.sessions = ap (λ o. read_or [] (sessions_in (in_member place member.Sessions)) o) there_sessions ∙ sessions_again (in_member place member.Sessions) (get (member_name member.Sessions) d) form.sessions (s.1 ∙ ap Ok is_sessions) in
      let was : schedule_of (names_in l) place d ≡ Ok form.plan = ap (λ xs. schedule_of (names_in (record l { sessions = xs })) place d) (sym names) ∙ p.1 ∙ ap Ok is_plan in
      let again : schedule_of (names_in l) place e ≡ Ok form.plan = ap (λ o. read_or (Listed []) (schedule_in (names_in l) (in_member place member.Schedule)) o) there_schedule ∙ schedule_or_none l (in_member place member.Schedule) (get (member_name member.Schedule) d) form.plan was in
      ap (λ r. r >>= λ xs. schedule_of (names_in (record l { sessions = xs })) place e >>= λ plan. Ok (let x : PlanForm = record { sessions = xs; plan = plan } in x)) read
      ∙ ap (λ xs. schedule_of (names_in (record l { sessions = xs })) place e >>= λ plan. Ok (let x : PlanForm = record { sessions = form.sessions; plan = plan } in x)) (sym sessions_are)
      ∙ ap (λ r. r >>= λ plan. Ok (let x : PlanForm = record { sessions = form.sessions; plan = plan } in x)) again
