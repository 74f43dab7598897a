use Rattle.std.proofs.Common.{◌≡◌, ◌++◌, not, filter}
use Rattle.whips_merge.specs.Merging.{covers_any}
use Rattle.whips_merge.proofs.form.take_lists.Given as goal

abbrev pub invariant-loop-list : goal.invariant-loop-list
invariant-loop-list l = record {
  taken : l.taken ≡ l.initial.taken ++ filter (covers_any l.rows) l.yielded;
  left : l.lists ≡ filter (λ a. not (covers_any l.rows a)) l.yielded;
}
