-- The text of rows and of a record. A row's values grow by pairs of a code and a kind (data_more, data_all), and what is written of them by a comma and a value (value_more), to the whole line (row_whole); rows grow by one (row_more) or by a chunk (chunk_more). The kinds that a view's rows are shown with are those of its schema (lines_same). So a record's text is its first line and the text of its rows (record_parts).
use Rattle.std.proofs.Common.{◌≡◌, ℕ, ◌+◌, ◌<◌, Bool, true, false, codes, List, [], ◌∷◌, ◌++◌, length, take, map, get_or, min, refl, ap, sym, ◌∙◌, append_assoc, append-nil, Option, Some, None}
use Rattle.std.proofs.lemmas.Grind.{flat_map-append}
use Rattle.std.proofs.lemmas.List.{map-append, take_more}
use Rattle.std.specs.List.{zip, slice_get}
use Rattle.std.specs.Option.{unwrap_or}
use Rattle.serde_json.specs.Data.{Data}
use Rattle.serde_json.specs.View.{items_of}
use Rattle.serde_json.specs.Written.{comma_if, compact_text, items_text}
use Rattle.whips_lists.proofs.Lists.{take_next}
use Rattle.whips_model.specs.declared.Kind.{Kind}
use Rattle.whips_model.specs.declared.Kind.TheVariants.{Number}
use Rattle.whips_model.specs.declared.ColRef.{ColRef}
use Rattle.whips_model.specs.Tuples.{Codes, Columns}
use Rattle.whips_rel.specs.Chunks.{joined}
use Rattle.whips_runs.specs.Records.{RunRecord, version, skip, opened, more, read, expired, full, final, final_rows}
use Rattle.whips_view.specs.ViewDefs.{View, kind_of}
use Rattle.whips_setup.specs.Setups.{SetupData}
use Rattle.whips_facts.specs.Scripts.{Script, Bytes, Labels}
use Rattle.whips_reports.specs.Reported.{Reported}
use Rattle.whips_reports.specs.Lines.{out_kinds, value_data, row_data, row_text, row_line, rows_lines, record_lines, text_of}
use Rattle.whips_report.specs.Texts.{first_line, row_kinds, rows_text, rows_text_of, reported_rows_text}
use Rattle.whips_report.proofs.Pairs.{pairs_more, pairs_all}

-- ---- the values of a row

abbrev known : List Kind → List (Option Kind)
known kinds = map (λ k. Some k) kinds

abbrev pair_data : Labels → ℕ × Kind → Data
pair_data l p = value_data l p.0 (Some p.1)

data_are_pairs : (l : Labels) (kinds : List Kind) (row : Codes) → row_data l (known kinds) row ≡ map (pair_data l) (zip row kinds)
data_are_pairs l [] [] = refl
data_are_pairs l [] (c ∷ row) = refl
data_are_pairs l (k ∷ kinds) [] = refl
data_are_pairs l (k ∷ kinds) (c ∷ row) = ap (λ ds. value_data l c (Some k) ∷ ds) (data_are_pairs l kinds row)

-- one value more
pub data_more : (l : Labels) (kinds : List Kind) (row : Codes) (i n : ℕ) (code : ℕ) (kind : Kind) (before after : List Data) → n ≡ i + 1 → (i < length row) × (i < length kinds) × ((d : ℕ) → code ≡ get_or row i d) × ((e : Kind) → kind ≡ get_or kinds i e)
    → before ≡ row_data l (map (λ k. Some k) (take i kinds)) (take i row) → after ≡ before ++ value_data l code (Some kind) ∷ [] → after ≡ row_data l (map (λ k. Some k) (take n kinds)) (take n row)
data_more l kinds row i n code kind before after next turn so_far step =
    let pairs : zip (take n row) (take n kinds) ≡ zip (take i row) (take i kinds) ++ (code, kind) ∷ [] = rw (turn.2 code, turn.3 kind) (pairs_more row kinds i n code kind next turn.0 turn.1) in
    rw (step, so_far, data_are_pairs l (take n kinds) (take n row), data_are_pairs l (take i kinds) (take i row), pairs) (sym (map-append (pair_data l) _ _))

pub data_all : (l : Labels) (kinds : List Kind) (row : Codes) (n : ℕ) → n ≡ min (length row) (length kinds) → row_data l (map (λ k. Some k) (take n kinds)) (take n row) ≡ row_data l (map (λ k. Some k) kinds) row
data_all l kinds row n end = rw (data_are_pairs l (take n kinds) (take n row), pairs_all row kinds n end) (sym (data_are_pairs l kinds row))

-- ---- the line of a row

-- whether values stand before
abbrev pub some_before : List Data → Bool
some_before [] = false
some_before (d ∷ ds) = true

-- values with commas between, behind others where some stand before
abbrev pub listed : Bool → List Data → Bytes
listed later [] = []
listed later (d ∷ ds) = comma_if later ++ (compact_text d ++ listed true ds)

some_more : (ds : List Data) (d : Data) → some_before (ds ++ d ∷ []) ≡ true
some_more [] d = refl
some_more (e ∷ ds) d = refl

listed_behind : (ds : List Data) (d : Data) → listed true (ds ++ d ∷ []) ≡ listed true ds ++ (comma_if true ++ compact_text d)
listed_behind [] d = ap (λ t. comma_if true ++ t) (append-nil (compact_text d))
listed_behind (e ∷ ds) d = ap (λ t. comma_if true ++ (compact_text e ++ t)) (listed_behind ds d) ∙ ap (λ t. comma_if true ++ t) (sym (append_assoc (compact_text e) (listed true ds) (comma_if true ++ compact_text d)))

listed_more : (ds : List Data) (d : Data) → listed false (ds ++ d ∷ []) ≡ listed false ds ++ (comma_if (some_before ds) ++ compact_text d)
listed_more [] d = append-nil (compact_text d)
listed_more (e ∷ ds) d = ap (λ t. compact_text e ++ t) (listed_behind ds d) ∙ sym (append_assoc (compact_text e) (listed true ds) (comma_if true ++ compact_text d))

-- one value more, behind a text
pub value_more : (ds all : List Data) (d : Data) (later : Bool) (start before comma after : Bytes) → ds ++ d ∷ [] ≡ all → later ≡ some_before ds
    → before ≡ start ++ listed false ds → comma ≡ before ++ comma_if later → after ≡ comma ++ compact_text d → (true ≡ some_before all) × (after ≡ start ++ listed false all)
value_more ds all d later start before comma after is some so_far at step = (
  sym (some_more ds d) ∙ ap some_before is,
  rw (step, at, so_far, some, ← is, listed_more ds d) (append_assoc (start ++ listed false ds) (comma_if (some_before ds)) (compact_text d) ∙ append_assoc start (listed false ds) (comma_if (some_before ds) ++ compact_text d)),
)

-- a list in JSON is its values with commas between, and its closing bracket
items_listed : (later : Bool) (ds : List Data) → items_text later (items_of ds) ≡ listed later ds ++ 93 ∷ []
items_listed later [] = refl
items_listed later (d ∷ ds) = ap (λ t. comma_if later ++ (compact_text d ++ t)) (items_listed true ds) ∙ simp append_assoc

-- all of a row's line, behind a text
pub row_whole : (l : Labels) (kinds : List Kind) (row : Codes) (ds : List Data) (old start before after : Bytes) → ds ≡ row_data l (map (λ k. Some k) kinds) row
    → start ≡ old ++ codes "row [" → before ≡ start ++ listed false ds → after ≡ before ++ codes "]\n" → after ≡ old ++ rows_text l kinds (row ∷ [])
row_whole l kinds row ds old start before after is at so_far step = rw (step, so_far, at, ← is, items_listed false ds) (simp append_assoc)

-- ---- the text of rows

pub rows_join : (l : Labels) (kinds : List Kind) (rows rest : List Codes) → rows_text l kinds (rows ++ rest) ≡ rows_text l kinds rows ++ rows_text l kinds rest
rows_join l kinds rows rest = ap text_of (map-append (row_line l (known kinds)) rows rest) ∙ flat_map-append (λ line. line ++ 10 ∷ []) _ _

joined_join : (cs ds : List (List Codes)) → joined (cs ++ ds) ≡ joined cs ++ joined ds
joined_join [] ds = refl
joined_join (c ∷ cs) ds = ap (λ rows. c ++ rows) (joined_join cs ds) ∙ sym (append_assoc c (joined cs) (joined ds))

-- what stands behind rows, behind a text
rows_behind : (l : Labels) (kinds : List Kind) (rows rest : List Codes) (start before after : Bytes) → before ≡ start ++ rows_text l kinds rows → after ≡ before ++ rows_text l kinds rest → after ≡ start ++ rows_text l kinds (rows ++ rest)
rows_behind l kinds rows rest start before after so_far step = rw (step, so_far, rows_join l kinds rows rest) (append_assoc start (rows_text l kinds rows) (rows_text l kinds rest))

-- one row more
pub row_more : (l : Labels) (kinds : List Kind) (rows : List Codes) (i : ℕ) (row : Codes) (start before after : Bytes) → slice_get rows i ≡ Some row → before ≡ start ++ rows_text l kinds (take i rows) → after ≡ before ++ rows_text l kinds (row ∷ []) → after ≡ start ++ rows_text l kinds (take (i + 1) rows)
row_more l kinds rows i row start before after at so_far step = rw (take_next rows i row at) (rows_behind l kinds (take i rows) (row ∷ []) start before after so_far step)

-- one chunk more
pub chunk_more : (l : Labels) (kinds : List Kind) (chunks : List (List Codes)) (i : ℕ) (chunk : List Codes) (start before after : Bytes) → i < length chunks → chunk ≡ get_or chunks i chunk → before ≡ start ++ rows_text l kinds (joined (take i chunks)) → after ≡ before ++ rows_text l kinds chunk → after ≡ start ++ rows_text l kinds (joined (take (i + 1) chunks))
chunk_more l kinds chunks i chunk start before after within at so_far step =
    rw (take_more chunks i chunk within, ← at, joined_join (take i chunks) (chunk ∷ []), append-nil chunk) (rows_behind l kinds (joined (take i chunks)) chunk start before after so_far step)

-- ---- the kinds of a view's columns

-- a column that isn't there is shown as a number
value_same : (l : Labels) (code : ℕ) (k : Option Kind) → value_data l code k ≡ value_data l code (Some (unwrap_or k Number))
value_same l code None = refl
value_same l code (Some k) = refl

data_same : (l : Labels) (bases : List Columns) (out : List ColRef) (row : Codes) → row_data l (map (kind_of bases) out) row ≡ row_data l (known (map (λ at. unwrap_or (kind_of bases at) Number) out)) row
data_same l bases [] row = refl
data_same l bases (at ∷ out) [] = refl
data_same l bases (at ∷ out) (c ∷ row) = rw (value_same l c (kind_of bases at), data_same l bases out row) refl

line_same : (l : Labels) (view : Option View) (row : Codes) → row_line l (out_kinds view) row ≡ row_line l (known (row_kinds view)) row
line_same l None row = refl
line_same l (Some view) row = ap row_text (data_same l view.bases view.parts.out row)

lines_same : (l : Labels) (view : Option View) (rows : List Codes) → text_of (map (row_line l (out_kinds view)) rows) ≡ rows_text l (row_kinds view) rows
lines_same l view [] = refl
lines_same l view (row ∷ rows) =
    ap (λ t. (t ++ 10 ∷ []) ++ text_of (map (row_line l (out_kinds view)) rows)) (line_same l view row)
    ∙ ap (λ t. (row_line l (known (row_kinds view)) row ++ 10 ∷ []) ++ t) (lines_same l view rows)

-- ---- the text of a record

rows_same : (s : Script) (l : Labels) (entry : RunRecord) (rows : List Codes) → text_of (rows_lines s l entry rows) ≡ rows_text_of l s.setup entry rows
rows_same s l (version number cut counts) rows = refl
rows_same s l (skip at event) rows = refl
rows_same s l (opened session v phase) rows = refl
rows_same s l (more session x v phase slots) rows = refl
rows_same s l (read session x v phase) rows = lines_same l (slice_get s.setup.views x) rows
rows_same s l (expired session x v phase) rows = refl
rows_same s l (full shortage) rows = refl
rows_same s l (final counts) rows = refl
rows_same s l (final_rows x) rows = lines_same l (slice_get s.setup.views x) rows

-- the text of a record is its first line and the lines of its rows
pub record_parts : (l : Labels) (d : SetupData) (r : Reported) (start : Bytes) (s : Script) → s.setup ≡ d → start ++ text_of (record_lines s l r) ≡ ((start ++ first_line l r) ++ 10 ∷ []) ++ reported_rows_text l d r
record_parts l d r start s is =
    let first = first_line l r in
    let rows : text_of (rows_lines s l r.entry r.rows) ≡ reported_rows_text l d r = rows_same s l r.entry r.rows ∙ ap (λ e. rows_text_of l e r.entry r.rows) is in
    ap (λ t. start ++ ((first ++ 10 ∷ []) ++ t)) rows ∙ (sym (append_assoc start (first ++ 10 ∷ []) (reported_rows_text l d r)) ∙ ap (λ t. t ++ reported_rows_text l d r) (sym (append_assoc start first (10 ∷ []))))
