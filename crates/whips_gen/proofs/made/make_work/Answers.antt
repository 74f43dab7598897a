use Rattle.std.proofs.Common.{◌≡◌, suc, ◌+◌, ◌-◌, List, [], ◌∷◌, ◌++◌, map, Vec, ap, ap₂, ◌∙◌, arith}
use Rattle.std.specs.declared.alloc.Global.{Global}
use Rattle.whips_states.specs.States.{Updates}
use Rattle.whips_gen.specs.Shop.{shop_tables}
use Rattle.whips_gen.specs.Made.{updates_made}
use Rattle.whips_gen.proofs.Makings.{goes_on, goes_over}
use Rattle.whips_gen.proofs.made.make_work.Goals as goal

pub loop-preserved : goal.loop-preserved
loop-preserved c =
    let all = updates_made c.args.size c.args.start shop_tables in
    let less : c.args.size - c.loop.counter ≡ suc (c.args.size - (c.loop.counter + 1)) = omega (arith, c.loop-test.true) in
    let old = c.loop.making in
    let new = c.make_update.new.making in
    let did = c.in_ok-make_update.ensures in
    record {
      columns = did.columns;
      sales = goes_on 0 all old.sales.items new.sales.items (c.args.size - c.loop.counter) (c.args.size - (c.loop.counter + 1)) old.picker new.picker (old.orders ∷ old.items ∷ []) (new.orders ∷ new.items ∷ []) less did.state did.relations did.sales c.loop.invariant.sales;
      stock = goes_on 1 all old.stock.items new.stock.items (c.args.size - c.loop.counter) (c.args.size - (c.loop.counter + 1)) old.picker new.picker (old.orders ∷ old.items ∷ []) (new.orders ∷ new.items ∷ []) less did.state did.relations did.stock c.loop.invariant.stock;
    }

pub returns : goal.returns
returns c =
    let all = updates_made c.args.size c.args.start shop_tables in
    let none : c.args.size - c.loop.counter ≡ 0 = omega (arith, c.loop-test.false) in
    let m = c.loop.making in
    let db = m.orders ∷ m.items ∷ [] in
    ap (map (λ (ts : Vec Updates Global). ts.items)) (c.in_ok-push-2.ensures.items ∙ ap (λ l. l ++ m.stock ∷ []) (c.in_ok-push.ensures.items ∙ ap (λ l. l ++ m.sales ∷ []) c.in_ok-work.ensures.items))
    ∙ ap₂ (λ (a b : List Updates). a ∷ b ∷ [])
    (goes_over 0 all m.sales.items (c.args.size - c.loop.counter) m.picker db none c.loop.invariant.sales)
    (goes_over 1 all m.stock.items (c.args.size - c.loop.counter) m.picker db none c.loop.invariant.stock)
