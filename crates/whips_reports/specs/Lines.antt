-- The bytes of a report.
use Rattle.std.specs.Prelude.{ℕ, List, [], ◌∷◌, ◌++◌, length, map, codes, decimal, slice_get, slice_index_or, Option, Some, None}
use Rattle.std.specs.List.{flat_map}
use Rattle.serde_json.specs.Data.{Data, number, unsigned, string, array}
use Rattle.serde_json.specs.View.{items_of}
use Rattle.serde_json.specs.Written.{compact_text}
use Rattle.whips_model.specs.declared.Kind.{Kind}
use Rattle.whips_model.specs.declared.Kind.TheVariants.{Number, Text}
use Rattle.whips_model.specs.Tuples.{Codes}
use Rattle.whips_flow.specs.declared.event.Event.{Event}
use Rattle.whips_flow.specs.declared.event.Event.TheVariants.{Commit, Answer, Integrate, Manage, Rel, Act, Begin, Change, Publish, SessionOpen, SessionScan, SessionFetch, SessionClose}
use Rattle.whips_runs.specs.Records.{RunRecord, version, skip, opened, more, read, expired, full, final, final_rows}
use Rattle.whips_view.specs.ViewDefs.{View, kind_of}
use Rattle.whips_facts.specs.Scripts.{Script, Bytes, Labels}
use Rattle.whips_setup.specs.declared.plan.Plan.{Plan}
use Rattle.whips_reports.specs.Reported.{Reported, reported, run_of}

abbrev pub name_at : List Bytes → ℕ → Bytes
name_at names i = slice_index_or names i []

-- ---- words

-- words divided by one blank
abbrev pub words : List Bytes → Bytes
words [] = []
words (w ∷ []) = w
words (w ∷ v ∷ ws) = w ++ 32 ∷ words (v ∷ ws)

-- each name with its count
abbrev pub counts_words : List Bytes → List ℕ → List Bytes
counts_words [] counts = []
counts_words (n ∷ names) [] = []
counts_words (n ∷ names) (c ∷ counts) = (n ++ 61 ∷ decimal c) ∷ counts_words names counts

-- ---- events

abbrev pub event_words : Labels → Event → List Bytes
event_words l (Commit y) = codes "commit" ∷ name_at l.sources y ∷ []
event_words l (Answer y x) = codes "answer" ∷ name_at l.sources y ∷ name_at l.views x ∷ []
event_words l (Integrate y) = codes "integrate" ∷ name_at l.sources y ∷ []
event_words l (Manage x) = codes "manage" ∷ name_at l.views x ∷ []
event_words l Rel = codes "rel" ∷ []
event_words l (Act x) = codes "act" ∷ name_at l.views x ∷ []
event_words l Begin = codes "begin" ∷ []
event_words l Change = codes "change" ∷ []
event_words l Publish = codes "publish" ∷ []
event_words l (SessionOpen s) = codes "open" ∷ name_at l.sessions s ∷ []
event_words l (SessionScan s x) = codes "scan" ∷ name_at l.sessions s ∷ name_at l.views x ∷ []
event_words l (SessionFetch s n) = codes "fetch" ∷ name_at l.sessions s ∷ decimal n ∷ []
event_words l (SessionClose s) = codes "close" ∷ name_at l.sessions s ∷ []

-- ---- rows

-- the kinds of a view's columns
abbrev pub out_kinds : Option View → List (Option Kind)
out_kinds None = []
out_kinds (Some view) = map (kind_of view.bases) view.parts.out

-- a number is its own code, and a text is the one with this code
abbrev pub value_data : Labels → ℕ → Option Kind → Data
value_data l code None = number (unsigned code)
value_data l code (Some Number) = number (unsigned code)
value_data l code (Some Text) = string (name_at l.texts code)

abbrev pub row_data : Labels → List (Option Kind) → Codes → List Data
row_data l [] row = []
row_data l (k ∷ kinds) [] = []
row_data l (k ∷ kinds) (c ∷ row) = value_data l c k ∷ row_data l kinds row

-- the word row and the compact JSON list of these values
abbrev pub row_text : List Data → Bytes
row_text values = codes "row " ++ compact_text (array (items_of values))

abbrev pub row_line : Labels → List (Option Kind) → Codes → Bytes
row_line l kinds row = row_text (row_data l kinds row)

abbrev pub row_lines : Script → Labels → ℕ → List Codes → List Bytes
row_lines s l x rows = map (row_line l (out_kinds (slice_get s.setup.views x))) rows

-- ---- records

-- the words of a session's fetch, from its name to the phase
abbrev pub fetch_words : Labels → (session view version phase : ℕ) → List Bytes
fetch_words l s x v phase = name_at l.sessions s ∷ name_at l.views x ∷ codes "version" ∷ decimal v ∷ codes "phase" ∷ decimal phase ∷ []

-- the words of a record's first line; own
abbrev pub record_words : Labels → ℕ → RunRecord → List Bytes
record_words l rows (version n cut counts) = (codes "version" ∷ decimal n ∷ codes "cut" ∷ counts_words l.sources cut) ++ codes "rows" ∷ counts_words l.views counts
record_words l rows (skip k e) = codes "skip" ∷ decimal k ∷ event_words l e
record_words l rows (opened s v phase) = codes "open" ∷ name_at l.sessions s ∷ codes "version" ∷ decimal v ∷ codes "phase" ∷ decimal phase ∷ []
record_words l rows (more s x v phase slots) = (codes "more" ∷ fetch_words l s x v phase) ++ codes "slots" ∷ decimal slots ∷ []
record_words l rows (read s x v phase) = (codes "read" ∷ fetch_words l s x v phase) ++ codes "rows" ∷ decimal rows ∷ []
record_words l rows (expired s x v phase) = codes "expired" ∷ fetch_words l s x v phase
record_words l rows (full shortage) = codes "full" ∷ name_at l.views shortage.view ∷ codes "need" ∷ decimal shortage.need ∷ codes "slots" ∷ decimal shortage.slots ∷ []
record_words l rows (final counts) = codes "final" ∷ counts_words l.sources counts
record_words l rows (final_rows x) = codes "view" ∷ name_at l.views x ∷ codes "rows" ∷ decimal rows ∷ []

-- the lines of the rows that a record reports
abbrev pub rows_lines : Script → Labels → RunRecord → List Codes → List Bytes
rows_lines s l (read session x v phase) rows = row_lines s l x rows
rows_lines s l (final_rows x) rows = row_lines s l x rows
rows_lines s l _ rows = []

abbrev pub record_lines : Script → Labels → Reported → List Bytes
record_lines s l r = words (record_words l (length r.rows) r.entry) ∷ rows_lines s l r.entry r.rows

-- each line is ended by a line feed
abbrev pub text_of : List Bytes → Bytes
text_of lines = flat_map (λ line. line ++ 10 ∷ []) lines

-- the report of a script's run by a schedule; own
abbrev pub report : Script → Labels → Plan → Bytes
report s l plan = text_of (flat_map (record_lines s l) (reported s (run_of s plan)))
