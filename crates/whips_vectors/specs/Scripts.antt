-- Pieces of the worked scripts. Each relation has its first column as its key.
use Rattle.std.specs.Prelude.{ℕ, List, [], ◌∷◌, length, map}
use Rattle.whips_model.specs.declared.ColRef.{ColRef}
use Rattle.whips_model.specs.declared.Kind.TheVariants.{Number}
use Rattle.whips_model.specs.Tuples.{Codes}
use Rattle.whips_model.specs.Relation.{Table}
use Rattle.whips_model.specs.Views.{ViewData}
use Rattle.whips_rel.specs.declared.update.Update.{Update}
use Rattle.whips_states.specs.States.{Updates}
use Rattle.whips_view.specs.ViewDefs.{view_of}
use Rattle.whips_facts.specs.Scripts.{Script, slotted_views, value_at}
use Rattle.whips_flow.specs.declared.event.Event.{Event}
use Rattle.whips_flow.specs.declared.event.Event.TheVariants.{Commit, Answer, Integrate, Manage, Rel, Act}

abbrev pub row2 : ℕ → ℕ → Codes
row2 a b = a ∷ b ∷ []

abbrev pub row3 : ℕ → ℕ → ℕ → Codes
row3 a b c = a ∷ b ∷ c ∷ []

abbrev pub row4 : ℕ → ℕ → ℕ → ℕ → Codes
row4 a b c d = a ∷ b ∷ c ∷ d ∷ []

-- two number columns
abbrev pub table2 : List Codes → Table
table2 rows = record { columns = record { kinds = Number ∷ Number ∷ []; key = 0 ∷ [] }; rows = rows }

-- column c of the view's part p
abbrev pub at : ℕ → ℕ → ColRef
at p c = record { part = p; col = c }

abbrev pub with_slots : ℕ → ViewData → ℕ × ViewData
with_slots n view = (n, view)

-- what a worked script is made of: the source of each relation, the relations with their initial rows, the transactions of each source, the views with their slots, and how many versions and sessions there are
pub record Pieces : Type 0 where
  pub homes : List ℕ
  pub initial : List Table
  pub work : List (List Updates)
  pub views : List (ℕ × ViewData)
  pub versions : ℕ
  pub sessions : ℕ

abbrev pub script_of : Pieces → Script
script_of p = record {
  setup = record {
    sources = length p.work;
    homes = p.homes;
    initial = p.initial;
    views = map (λ (v : ℕ × ViewData). view_of (map (λ (t : Table). t.columns) p.initial) v.1) p.views;
    slots = map (λ (v : ℕ × ViewData). v.0) p.views;
    versions = p.versions;
  };
  work = p.work;
  sessions = p.sessions;
}

abbrev pub single : Update → Updates
single u = u ∷ []

-- R(a, b) of source 0 joined with S(c, b) of source 1: a, c and b
abbrev pub join_of_two : ViewData
join_of_two = record { relations = 0 ∷ 1 ∷ []; homes = 0 ∷ 1 ∷ []; equal = (at 0 1, at 1 1) ∷ []; conds = []; out = at 0 0 ∷ at 1 0 ∷ at 0 1 ∷ [] }

-- source 0 with R and these transactions, source 1 with S and these, the join with its slots, one session
abbrev pub two_pieces : (slots : ℕ) (r s : List Codes) (first second : List Updates) → Pieces
two_pieces slots r s first second = record {
  homes = 0 ∷ 1 ∷ [];
  initial = table2 r ∷ table2 s ∷ [];
  work = first ∷ second ∷ [];
  views = with_slots slots join_of_two ∷ [];
  versions = 2;
  sessions = 1;
}

abbrev pub two_sources : (slots : ℕ) (r s : List Codes) (first second : List Updates) → Script
two_sources slots r s first second = script_of (two_pieces slots r s first second)

-- the rows of each view at a cut
abbrev pub rows_at : Script → List ℕ → List (List Codes)
rows_at s cut = map (λ v. value_at s v.view cut) (slotted_views s)

-- a transaction of source 1 goes all the way to the table, with a query to source 0
abbrev pub whole_way : List Event
whole_way = Commit 1 ∷ Integrate 1 ∷ Rel ∷ Manage 0 ∷ Answer 0 0 ∷ Integrate 0 ∷ Manage 0 ∷ Act 0 ∷ []
