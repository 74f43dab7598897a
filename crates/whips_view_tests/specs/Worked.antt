-- A worked setup, of which the tests speak.
use Rattle.std.specs.Prelude.{List, [], ◌∷◌}
use Rattle.whips_choices.specs.Partials.{seed}
use Rattle.whips_rel.specs.declared.update.Update.TheVariants.{Insert}
use Rattle.whips_states.specs.States.{Updates}
use Rattle.whips_view.specs.ViewDefs.{View}
use Rattle.whips_query.specs.declared.asks.Ask.{Ask}
use Rattle.whips_setup.specs.Setups.{SetupData, setup_of}
use Rattle.whips_fixtures.specs.Pairs.{pair_columns, no_pairs}

-- The keys of two relations of pairs with one code in their second columns; relation 0 is at source 0, and relation 1 at source 1.
abbrev pub pair_view : View
pair_view = record {
  parts = record { relations = 0 ∷ 1 ∷ []; homes = 0 ∷ 1 ∷ []; equal = (record { part = 0; col = 1 }, record { part = 1; col = 1 }) ∷ []; conds = []; out = record { part = 0; col = 0 } ∷ record { part = 1; col = 0 } ∷ [] };
  bases = pair_columns ∷ pair_columns ∷ [];
}

-- This view over the two relations, which have no row.
abbrev pub pair_setup : SetupData
pair_setup = setup_of 2 (0 ∷ 1 ∷ []) (no_pairs ∷ no_pairs ∷ []) (pair_view ∷ []) (4 ∷ [])

-- One transaction of source 1, which puts the pair (7, 5) in.
abbrev pub one_insert : List Updates
one_insert = (Insert 1 (7 ∷ 5 ∷ []) ∷ []) ∷ []

-- The ask of the first step of the query that the tuple (1, 5) of relation 0 begins.
abbrev pub pair_ask : Ask
pair_ask = record { view = 0; update = 3; origin = 0; step = 1; partials = seed 2 0 (1 ∷ 5 ∷ []) ∷ [] }
