use Rattle.std.proofs.Common.{◌-◌, [], ◌∷◌}
use Rattle.whips_gen.specs.Shop.{shop_tables}
use Rattle.whips_gen.specs.Making.{HasColumns}
use Rattle.whips_gen.specs.Made.{updates_made}
use Rattle.whips_gen.proofs.Makings.{GoesOn}
use Rattle.whips_gen.proofs.made.make_work.Given as goal

abbrev pub invariant-loop : goal.invariant-loop
invariant-loop l = record {
  columns : HasColumns l.making.orders l.making.items;
  sales : GoesOn 0 (updates_made l.size l.start shop_tables) l.making.sales.items (l.size - l.counter) l.making.picker (l.making.orders ∷ l.making.items ∷ []);
  stock : GoesOn 1 (updates_made l.size l.start shop_tables) l.making.stock.items (l.size - l.counter) l.making.picker (l.making.orders ∷ l.making.items ∷ []);
}
