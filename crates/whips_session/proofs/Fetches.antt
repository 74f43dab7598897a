-- What a fetch answers, and where its scan goes on.
use Rattle.std.proofs.Common.{◌≡◌, ℕ, Bool, true, false, Option, Some, None, refl, sym, ap, ◌∙◌}
use Rattle.std.specs.Prelude.{IsSome, unwrap_or, nat_lt, if◌then◌else◌}
use Rattle.whips_flow.specs.Staleness.{is_stale}
use Rattle.whips_runs.specs.Sessions.{slots_of, visited_scan, session_after_visit, scan_of}
use Rattle.whips_runs.specs.Records.{more, read, expired, fetch_record}
use Rattle.whips_session.specs.declared.session.Fetched.TheVariants.{More, Done, Expired}
use Rattle.whips_session.specs.Sessions.{scan_from, scan_in, session_with}
use Rattle.whips_runs.specs.World.{phase_of, with_record, with_session, after_fetch}
use Rattle.whips_session.specs.Laws.{record_of, FetchesAreReported, FetchesAreEvents}

pub reported : FetchesAreReported
reported f phase session scan = by (is_stale f.versions scan.version phase) (nat_lt scan.slot (slots_of f scan))
  where
    by : (old left : Bool) → record_of phase session scan (if old then Expired scan.version phase else if left then More else Done)
        ≡ (if old then expired session scan.view scan.version phase else if left then more session scan.view scan.version phase scan.slot else read session scan.view scan.version phase)
    by true left = refl
    by false true = refl
    by false false = refl

pub events : FetchesAreEvents
events f w session n s t fetched there is h =
    ap (λ o. after_fetch f session n (scan_of o) w) there ∙ by s.scan is
    ∙ ap (λ r. with_record r (with_session session (session_after_visit f (phase_of w) (visited_scan f n (scan_in s))) w)) (sym (reported f (phase_of w) session (visited_scan f n (scan_in s))) ∙ ap (record_of (phase_of w) session (visited_scan f n (scan_in s))) (sym h.answer))
    ∙ ap (λ u. with_record (record_of (phase_of w) session (visited_scan f n (scan_in s)) fetched) (with_session session u w)) (sym h.state)
  where
    by : (o : Option (ℕ × ℕ)) → IsSome {T = ℕ × ℕ} o → after_fetch f session n (scan_of (Some (session_with s.version o))) w
        ≡ with_record (fetch_record f (phase_of w) session (visited_scan f n (scan_from s.version (unwrap_or o (0, 0))))) (with_session session (session_after_visit f (phase_of w) (visited_scan f n (scan_from s.version (unwrap_or o (0, 0))))) w)
    by None h = let no : ⊥ = cc in absurd no
    by (Some place) h = refl
