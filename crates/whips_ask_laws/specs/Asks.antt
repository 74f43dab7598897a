-- Tables whose rows have their relations' widths.
use Rattle.std.specs.Prelude.{◌≡◌, ℕ, List, length, slice_index}
use Rattle.whips_model.specs.Tuples.{Codes, IsKeyed}
use Rattle.whips_model.specs.Relation.{Table}
use Rattle.whips_lists.specs.Members.{Has}
use Rattle.whips_choices.specs.KeyedViews.{KeyedView, part_key, rows_of_part}
use Rattle.whips_steps.specs.Answers.{tables_of}

-- At these parts of the view the relations have rows of their widths, in the order of their keys.
pub record AreSoundParts (v : KeyedView) (widths : List ℕ) (db : List Table) (parts : List ℕ) : Type 0 where
  pub keyed : (part : ℕ) → Has part parts → IsKeyed (part_key v part) (rows_of_part (tables_of v.base db) part)
  pub wide : (part : ℕ) (t : Codes) → Has part parts → Has t (rows_of_part (tables_of v.base db) part) → length t ≡ slice_index widths part
