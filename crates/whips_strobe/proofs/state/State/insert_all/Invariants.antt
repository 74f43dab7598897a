use Rattle.std.proofs.Common.{◌≡◌}
use Rattle.std.specs.List.{AllByRecursion}
use Rattle.whips_states.specs.Net.{given_at}
use Rattle.whips_lists.specs.Lists.{places_from}
use Rattle.whips_view.specs.ViewDefs.{keyed, row_columns}
use Rattle.whips_managers.specs.Managers.{with_all_given}
use Rattle.whips_strobe.proofs.Insertions.{IsOfEarlier}
use Rattle.whips_strobe.proofs.state.State.insert_all.Given as goal

abbrev pub invariant-loop-part : goal.invariant-loop-part
invariant-loop-part l = record {
  so_far : l.self ≡ with_all_given (keyed l.view) (row_columns l.view) l.initial.self l.number (given_at (keyed l.view) l.t) (places_from 0 l.part);
  earlier : AllByRecursion (IsOfEarlier l.number l.part) l.self.queries;
}
