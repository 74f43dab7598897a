-- A store of versioned rows as data.
use Rattle.std.specs.Prelude.{ℕ, List, [], length, slice_index_or, Option}
use Rattle.std.specs.List.{sum_by}
use Rattle.whips_model.specs.Tuples.{Codes, Columns}
use Rattle.whips_model.specs.Relation.{Table}
use Rattle.whips_rel.specs.declared.update.Change.{Change}
use Rattle.whips_vnl.specs.Records.{Seen, seen_row, seen_nothing, seen_past, visible}
use Rattle.whips_vnl.specs.declared.record.Vstep.{Vstep}
use Rattle.whips_row_buf.specs.Buffers.{Buffer, put_behind}

-- A view in a store: its columns, the steps of each slot's record with none in a blank slot, its rows at the committed version, its rows at the version that is written, and the changes that are still to be made.
pub record ViewState : Type 0 where
  pub columns : Columns
  pub records : List (List Vstep)
  pub current : List Codes
  pub next : List Codes
  pub left : List Change

-- A store: how many versions stay readable, the phase, the views, and where it is known the rows of each view at each version when it was committed. The phase is twice the committed version, and 1 more while maintenance is active; 2VNL 1997.
pub record StoreState : Type 0 where
  pub versions : ℕ
  pub phase : ℕ
  pub views : List ViewState
  pub past : Option (List (List (List Codes)))

-- for each view the rows afterwards and the changes
abbrev pub ChangeLists : Type 0
ChangeLists = List (Table × List Change)

abbrev pub no_view : ViewState
no_view = record { columns = record { kinds = []; key = [] }; records = []; current = []; next = []; left = [] }

abbrev pub view_in : StoreState → ℕ → ViewState
view_in s x = slice_index_or s.views x no_view

-- how many changes are still to be made
abbrev pub changes_left : StoreState → ℕ
changes_left s = sum_by (λ v. length v.left) s.views

-- what slot i of view x shows at version v
abbrev pub seen_in : StoreState → ℕ → ℕ → ℕ → Seen
seen_in s x i v = visible s.versions v (slice_index_or (view_in s x).records i [])

-- a buffer once it has what was seen: a row is put, and nothing else changes it
abbrev pub with_seen : Seen → Buffer → Buffer
with_seen (seen_row t) b = record b { rows = put_behind b.columns.key t b.rows }
with_seen seen_nothing b = b
with_seen seen_past b = b
