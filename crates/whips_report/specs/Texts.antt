-- Parts of a record's lines.
use Rattle.std.specs.Prelude.{ℕ, List, [], ◌∷◌, length, map, slice_get, Option, Some, None}
use Rattle.std.specs.List.{flat_map}
use Rattle.whips_model.specs.declared.Kind.{Kind}
use Rattle.whips_model.specs.Tuples.{Codes}
use Rattle.whips_runs.specs.Records.{RunRecord, read, final_rows}
use Rattle.whips_setup.specs.Setups.{SetupData}
use Rattle.whips_view.specs.ViewDefs.{View, row_columns}
use Rattle.whips_facts.specs.Scripts.{Bytes, Labels}
use Rattle.whips_reports.specs.Reported.{Reported}
use Rattle.whips_reports.specs.Lines.{words, record_words, row_line, text_of}

-- each word behind a blank
abbrev pub spaced : List Bytes → Bytes
spaced ws = flat_map (λ w. 32 ∷ w) ws

-- a record's first line
abbrev pub first_line : Labels → Reported → Bytes
first_line l r = words (record_words l (length r.rows) r.entry)

-- the kinds of the columns of a view's rows
abbrev pub row_kinds : Option View → List Kind
row_kinds None = []
row_kinds (Some view) = (row_columns view).kinds

-- the lines of rows with columns of these kinds
abbrev pub rows_text : Labels → List Kind → List Codes → Bytes
rows_text l kinds rows = text_of (map (row_line l (map (λ k. Some k) kinds)) rows)

-- the lines of the rows that a record of this setup reports
abbrev pub view_rows_text : Labels → SetupData → ℕ → List Codes → Bytes
view_rows_text l setup x rows = rows_text l (row_kinds (slice_get setup.views x)) rows

abbrev pub rows_text_of : Labels → SetupData → RunRecord → List Codes → Bytes
rows_text_of l setup (read s x v phase) rows = view_rows_text l setup x rows
rows_text_of l setup (final_rows x) rows = view_rows_text l setup x rows
rows_text_of l setup _ rows = []

abbrev pub reported_rows_text : Labels → SetupData → Reported → Bytes
reported_rows_text l setup r = rows_text_of l setup r.entry r.rows
