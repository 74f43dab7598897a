use Rattle.std.proofs.Common.{◌≡◌, ◌++◌, take, drop}
use Rattle.whips_merge.specs.Merging.{lists_of, lists_left}
use Rattle.whips_merge.proofs.form.take_all_lists.Given as goal

abbrev pub invariant-loop-own : goal.invariant-loop-own
invariant-loop-own l = record {
  taken : l.taken ≡ lists_of l.rows (take l.own-index l.initial.own-items);
  left : l.own-items ≡ lists_left l.rows (take l.own-index l.initial.own-items) ++ drop l.own-index l.initial.own-items;
}
