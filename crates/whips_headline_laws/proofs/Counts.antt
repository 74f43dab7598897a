-- What every pipeline that events reach has: no source commits more than it has, each cut has a count for each source, and half the phase counts the versions.
use Rattle.std.proofs.Common.{◌≡◌, ℕ, zero, suc, ◌-◌, ◌/◌, ◌%◌, ◌≤◌, true, false, not, List, [], ◌∷◌, ◌++◌, length, eqb, ltb, Option, Some, None, cond, refl, sym, ap, subst, ◌∙◌, arith}
use Rattle.std.specs.Prelude.{fold, is_some, slice_get, slice_index, replicate}
use Rattle.std.specs.List.{AllByRecursion}
use Rattle.std.specs.Option.{option_and_then}
use Rattle.std.proofs.lemmas.Bool.{and_parts, eqb-true, ltb-true}
use Rattle.std.proofs.lemmas.List.{length_push, length-replicate}
use Rattle.whips_lists.specs.Lists.{front}
use Rattle.whips_flow.specs.Facts.{Facts}
use Rattle.whips_flow.specs.Painted.{Row}
use Rattle.whips_flow.specs.Cuts.{cut_after}
use Rattle.whips_flow.specs.State.{QueryStep, SourceMessage, sent_transaction, sent_answer, ManagerMessage, update, reply, Source, Writer, Pipeline, start, new_source, version_cuts, oldest_message, oldest_ask, oldest_manager_message, oldest_list, with_source, with_manager}
use Rattle.whips_flow.specs.Effects.{after_commit, after_answer, after_integrate, without_message, without_manager_message, with_ask, with_step_asked, with_transaction, with_next_step, next_step, without_query, first_steps, after_message, after_rel, after_act, next_cut, after_begin, after_publish}
use Rattle.whips_flow.specs.Progress.{has_uncommitted, is_enabled, next, shortage_at, is_done, step, after}
use Rattle.whips_flow.specs.declared.event.Event.{Event}
use Rattle.whips_flow.specs.declared.event.Event.TheVariants.{Commit, Answer, Integrate, Manage, Rel, Act, Begin, Change, Publish, SessionOpen, SessionScan, SessionFetch, SessionClose}
use Rattle.whips_cut_laws.specs.Cuts.{commit_count_of, committed_at}
use Rattle.whips_cut_laws.proofs.Places.{EachAt, each_changed, each_kept, each_at, cut_after_length}

abbrev pub CommitsWithin : Facts → ℕ → Source → Type 0
CommitsWithin f y s = s.commit_count ≤ slice_index f.transactions y

-- the cuts of a writer have n counts each, and half its phase counts its versions
pub record Written (n : ℕ) (w : Writer) : Type 0 where
  pub versions : w.phase / 2 ≡ length w.earlier_cuts
  pub target : length w.target_cut ≡ n
  pub current : length w.cut ≡ n
  pub earlier : AllByRecursion (λ cut. length cut ≡ n) w.earlier_cuts

pub record Counted (f : Facts) (p : Pipeline) : Type 0 where
  pub sources : EachAt (CommitsWithin f) 0 p.sources
  pub writer : Written (length f.transactions) p.writer

-- ---- events that leave the writer

source_counted : (f : Facts) (p : Pipeline) (y : ℕ) (g : Source → Source) → ((s : Source) → (g s).commit_count ≡ s.commit_count) → Counted f p → Counted f (with_source y g p)
source_counted f p y g same h = record { sources = each_kept (CommitsWithin f) g y p.sources (λ j s u. omega (arith, u, same s)) 0 h.sources; writer = h.writer }

answer_counted : (f : Facts) (p : Pipeline) (y x : ℕ) (o : Option QueryStep) → Counted f p → Counted f (with_source y (after_answer x o) p)
answer_counted f p y x None h = source_counted f p y (after_answer x None) (λ s. refl) h
answer_counted f p y x (Some t) h = source_counted f p y (after_answer x (Some t)) (λ s. refl) h

committed_counted : (f : Facts) (p : Pipeline) (y : ℕ) → has_uncommitted (slice_get p.sources y) (slice_index f.transactions y) ≡ true → Counted f p → Counted f (with_source y after_commit p)
committed_counted f p y en h = record {
  sources = each_changed (CommitsWithin f) (CommitsWithin f) after_commit 0 y y p.sources (omega arith) (λ m s ne u. u) (λ s at u. omega (arith, ltb-true s.commit_count (slice_index f.transactions y) (subst (λ o. has_uncommitted o (slice_index f.transactions y) ≡ true) at en))) h.sources;
  writer = h.writer;
}

integrated_counted : (f : Facts) (p : Pipeline) (y : ℕ) (o : Option SourceMessage) → Counted f p → Counted f (after_integrate f y o p)
integrated_counted f p y None h = h
integrated_counted f p y (Some (sent_transaction k)) h = record { sources = h.sources; writer = h.writer }
integrated_counted f p y (Some (sent_answer x t)) h = record { sources = h.sources; writer = h.writer }

asks_counted : (f : Facts) (x : ℕ) (ts : List QueryStep) (p : Pipeline) → Counted f p → Counted f (fold (with_step_asked f x) p ts)
asks_counted f x [] p h = h
asks_counted f x (t ∷ ts) p h = asks_counted f x ts (with_step_asked f x p t) (source_counted f p (slice_index (f.asked_sources x t.origin) (t.step - 1)) (with_ask x t) (λ s. refl) h)

managed_counted : (f : Facts) (x : ℕ) (o : Option ManagerMessage) (p : Pipeline) → Counted f p → Counted f (after_message f x o p)
managed_counted f x None p h = h
managed_counted f x (Some (update n)) p h = asks_counted f x (first_steps f x n) (with_manager x (with_transaction f x n) p) (record { sources = h.sources; writer = h.writer })
managed_counted f x (Some (reply t)) p h = elim (ltb t.step (length (f.asked_sources x t.origin))) as (λ b. Counted f (cond b (with_step_asked f x (with_manager x (with_next_step t) p) (next_step t)) (with_manager x (without_query t) p))) [
  | true ↦ asks_counted f x (next_step t ∷ []) (with_manager x (with_next_step t) p) (record { sources = h.sources; writer = h.writer })
  | false ↦ record { sources = h.sources; writer = h.writer }
]

rel_counted : (f : Facts) (p : Pipeline) (o : Option Row) → Counted f p → Counted f (after_rel o p)
rel_counted f p None h = h
rel_counted f p (Some r) h = record { sources = h.sources; writer = h.writer }

act_counted : (f : Facts) (p : Pipeline) (x : ℕ) (o : Option ℕ) → Counted f p → Counted f (after_act x o p)
act_counted f p x None h = h
act_counted f p x (Some j) h = record { sources = h.sources; writer = h.writer }

-- ---- the writer

pub half_same : (n : ℕ) → n % 2 ≡ 0 → suc n / 2 ≡ n / 2
half_same n e = omega (arith, e)

pub half_more : (n : ℕ) → n % 2 ≡ 1 → suc n / 2 ≡ suc (n / 2)
half_more n e = omega (arith, e)

-- the cut that a begin leads to is one that rows raise
begin_counted : (f : Facts) (p : Pipeline) (o : Option (List Row)) → front p.merge.row_sets ≡ o → p.writer.phase % 2 ≡ 0 → Counted f p → Counted f (after_begin f (next_cut p) p)
begin_counted f p None e even h = subst (λ o. Counted f (after_begin f (option_and_then (λ set. Some (cut_after p.writer.cut set)) o) p)) (sym e) h
begin_counted f p (Some set) e even h = subst (λ o. Counted f (after_begin f (option_and_then (λ set. Some (cut_after p.writer.cut set)) o) p)) (sym e) (record {
  sources = h.sources;
  writer = record { versions = half_same p.writer.phase even ∙ h.writer.versions; target = cut_after_length p.writer.cut set ∙ h.writer.current; current = h.writer.current; earlier = h.writer.earlier };
})

all_push : {A : Type 0} (P : A → Type 0) (xs : List A) (x : A) → AllByRecursion P xs → P x → AllByRecursion P (xs ++ x ∷ [])
all_push P [] x h u = (u, tt)
all_push P (y ∷ xs) x h u = (h.0, all_push P xs x h.1 u)

publish_counted : (f : Facts) (p : Pipeline) → p.writer.phase % 2 ≡ 1 → Counted f p → Counted f (record p { writer = after_publish p.writer })
publish_counted f p odd h = record {
  sources = h.sources;
  writer = record {
    versions = omega (arith, half_more p.writer.phase odd, h.writer.versions, length_push p.writer.earlier_cuts p.writer.cut);
    target = h.writer.target;
    current = h.writer.target;
    earlier = all_push (λ cut. length cut ≡ length f.transactions) p.writer.earlier_cuts p.writer.cut h.writer.earlier h.writer.current;
  };
}

pub begin_even : (f : Facts) (p : Pipeline) → is_enabled f p Begin ≡ true → p.writer.phase % 2 ≡ 0
begin_even f p en = eqb-true (p.writer.phase % 2) 0 (and_parts (is_some (front p.merge.row_sets)) (eqb (p.writer.phase % 2) 0) en).1

pub publish_odd : (f : Facts) (p : Pipeline) → is_enabled f p Publish ≡ true → p.writer.phase % 2 ≡ 1
publish_odd f p en = eqb-true (p.writer.phase % 2) 1 (and_parts (eqb (p.writer.phase % 2) 1) (eqb p.writer.changes_left 0) en).0

-- ---- every event

pub next_counted : (f : Facts) (p : Pipeline) (e : Event) → is_enabled f p e ≡ true → Counted f p → Counted f (next f p e)
next_counted f p (Commit y) en h = committed_counted f p y en h
next_counted f p (Answer y x) en h = answer_counted f p y x (oldest_ask p y x) h
next_counted f p (Integrate y) en h = integrated_counted f (with_source y without_message p) y (oldest_message p y) (source_counted f p y without_message (λ s. refl) h)
next_counted f p (Manage x) en h =
    let m = managed_counted f x (oldest_manager_message p x) (with_manager x without_manager_message p) (record { sources = h.sources; writer = h.writer }) in
    record { sources = m.sources; writer = m.writer }
next_counted f p Rel en h = rel_counted f p (front p.announcements) h
next_counted f p (Act x) en h = act_counted f p x (oldest_list p x) h
next_counted f p Begin en h = begin_counted f p (front p.merge.row_sets) refl (begin_even f p en) h
next_counted f p Change en h = record { sources = h.sources; writer = record { versions = h.writer.versions; target = h.writer.target; current = h.writer.current; earlier = h.writer.earlier } }
next_counted f p Publish en h = publish_counted f p (publish_odd f p en) h
next_counted f p (SessionOpen s) en h = h
next_counted f p (SessionScan s x) en h = h
next_counted f p (SessionFetch s n) en h = h
next_counted f p (SessionClose s) en h = h

step_counted : (f : Facts) (p : Pipeline) (e : Event) → Counted f p → Counted f (step f p e)
step_counted f p e h = elim (is_done f p e) as (λ b. is_done f p e ≡ b → Counted f (cond b (next f p e) p)) [
  | true ↦ λ d. next_counted f p e (and_parts (is_enabled f p e) (not (is_some (shortage_at f p e))) d).0 h
  | false ↦ λ d. h
] refl

pub after_counted : (f : Facts) (es : List Event) (p : Pipeline) → Counted f p → Counted f (after f p es)
after_counted f [] p h = h
after_counted f (e ∷ es) p h = after_counted f es (step f p e) (step_counted f p e h)

new_counted : (f : Facts) (n k : ℕ) → EachAt (CommitsWithin f) k (replicate n (new_source f))
new_counted f zero k = tt
new_counted f (suc n) k = (omega arith, new_counted f n (suc k))

pub start_counted : (f : Facts) → Counted f (start f)
start_counted f =
    let long = length-replicate {A = ℕ} (length f.transactions) 0 in
    record { sources = new_counted f (length f.transactions) 0; writer = record { versions = refl; target = long; current = long; earlier = tt } }

-- ---- what is read off it

-- an event that isn't a publish leaves the versions' cuts
managed_writer : (f : Facts) (x : ℕ) (ts : List QueryStep) (p : Pipeline) → (fold (with_step_asked f x) p ts).writer ≡ p.writer
managed_writer f x [] p = refl
managed_writer f x (t ∷ ts) p = managed_writer f x ts (with_step_asked f x p t)

pub message_writer : (f : Facts) (x : ℕ) (o : Option ManagerMessage) (p : Pipeline) → (after_message f x o p).writer ≡ p.writer
message_writer f x None p = refl
message_writer f x (Some (update n)) p = managed_writer f x (first_steps f x n) (with_manager x (with_transaction f x n) p)
message_writer f x (Some (reply t)) p = elim (ltb t.step (length (f.asked_sources x t.origin))) as (λ b. (cond b (with_step_asked f x (with_manager x (with_next_step t) p) (next_step t)) (with_manager x (without_query t) p)).writer ≡ p.writer) [ true ↦ refl | false ↦ refl ]

pub integrated_writer : (f : Facts) (y : ℕ) (o : Option SourceMessage) (p : Pipeline) → (after_integrate f y o p).writer ≡ p.writer
integrated_writer f y None p = refl
integrated_writer f y (Some (sent_transaction k)) p = refl
integrated_writer f y (Some (sent_answer x t)) p = refl

pub rel_writer : (o : Option Row) (p : Pipeline) → (after_rel o p).writer ≡ p.writer
rel_writer None p = refl
rel_writer (Some r) p = refl

pub act_writer : (x : ℕ) (o : Option ℕ) (p : Pipeline) → (after_act x o p).writer ≡ p.writer
act_writer x None p = refl
act_writer x (Some j) p = refl

begin_versions : (f : Facts) (o : Option (List ℕ)) (p : Pipeline) → version_cuts (after_begin f o p) ≡ version_cuts p
begin_versions f None p = refl
begin_versions f (Some cut) p = refl

abbrev cuts_of : Writer → List (List ℕ)
cuts_of w = w.earlier_cuts ++ w.cut ∷ []

pub same_versions : (f : Facts) (p : Pipeline) (e : Event) → (e ≡ Publish → ⊥) → version_cuts (next f p e) ≡ version_cuts p
same_versions f p (Commit y) ne = refl
same_versions f p (Answer y x) ne = refl
same_versions f p (Integrate y) ne = ap cuts_of (integrated_writer f y (oldest_message p y) (with_source y without_message p))
same_versions f p (Manage x) ne = ap cuts_of (message_writer f x (oldest_manager_message p x) (with_manager x without_manager_message p))
same_versions f p Rel ne = ap cuts_of (rel_writer (front p.announcements) p)
same_versions f p (Act x) ne = ap cuts_of (act_writer x (oldest_list p x) p)
same_versions f p Begin ne = begin_versions f (next_cut p) p
same_versions f p Change ne = refl
same_versions f p Publish ne = absurd (ne refl)
same_versions f p (SessionOpen s) ne = refl
same_versions f p (SessionScan s x) ne = refl
same_versions f p (SessionFetch s n) ne = refl
same_versions f p (SessionClose s) ne = refl

pub all_long : (f : Facts) (p : Pipeline) → Counted f p → AllByRecursion (λ cut. length cut ≡ length f.transactions) (version_cuts p)
all_long f p h = all_push (λ cut. length cut ≡ length f.transactions) p.writer.earlier_cuts p.writer.cut h.writer.earlier h.writer.current

pub committed_within : (f : Facts) (p : Pipeline) → Counted f p → (y : ℕ) → committed_at p y ≤ slice_index f.transactions y
committed_within f p h y = go (slice_get p.sources y) refl
  where
    go : (o : Option Source) → slice_get p.sources y ≡ o → commit_count_of o ≤ slice_index f.transactions y
    go None e = omega arith
    go (Some s) e = each_at (CommitsWithin f) 0 y y p.sources s (omega arith) e h.sources
