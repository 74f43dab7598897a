use Rattle.std.proofs.Common.{◌≡◌, ◌%◌, true, Some, sym, ap, subst, ◌∙◌}
use Rattle.std.specs.Option.{option_copied}
use Rattle.std.specs.List.{AllByRecursion}
use Rattle.whips_lists.specs.Lists.{front}
use Rattle.whips_flow.specs.declared.event.Event.TheVariants.{Begin}
use Rattle.whips_merge.specs.declared.lists.Transaction.{Transaction}
use Rattle.whips_contents.specs.Contents.{LoadedPipeline}
use Rattle.whips_contents.specs.Events.{is_enabled_loaded}
use Rattle.whips_core_laws.specs.Calls.{IsListOf, FitsBegin}
use Rattle.whips_core.proofs.Changed.{begin_fits}
use Rattle.whips_core.proofs.pipeline.Pipeline.begin.Goals as goal

pub changes_by-requires-clause-views : goal.changes_by-requires-clause-views
changes_by-requires-clause-views g c =
    (begin_fits c.args.setup.now _ (subst (λ (l : LoadedPipeline). is_enabled_loaded l Begin ≡ true) (sym c.self.view_is) c.requires.enabled)
    (subst (λ (l : LoadedPipeline). (t : Transaction) → front l.merge.transactions ≡ Some t → l.store.phase % 2 ≡ 0 → FitsBegin c.args.setup.now l t) (sym c.self.view_is) c.requires.fits)
    c.in-Some.transaction.now (sym c.first.ensures ∙ ap option_copied c.in-Some.is)).views

pub changes_by-requires-clause-columns : goal.changes_by-requires-clause-columns
changes_by-requires-clause-columns g c =
    (begin_fits c.args.setup.now _ (subst (λ (l : LoadedPipeline). is_enabled_loaded l Begin ≡ true) (sym c.self.view_is) c.requires.enabled)
    (subst (λ (l : LoadedPipeline). (t : Transaction) → front l.merge.transactions ≡ Some t → l.store.phase % 2 ≡ 0 → FitsBegin c.args.setup.now l t) (sym c.self.view_is) c.requires.fits)
    c.in-Some.transaction.now (sym c.first.ensures ∙ ap option_copied c.in-Some.is)).columns

pub changes_by-requires-clause-lists : goal.changes_by-requires-clause-lists
changes_by-requires-clause-lists g c =
    subst (AllByRecursion (IsListOf c.args.setup.now.views)) (sym c.as_slice-lists.ensures)
    (begin_fits c.args.setup.now _ (subst (λ (l : LoadedPipeline). is_enabled_loaded l Begin ≡ true) (sym c.self.view_is) c.requires.enabled)
    (subst (λ (l : LoadedPipeline). (t : Transaction) → front l.merge.transactions ≡ Some t → l.store.phase % 2 ≡ 0 → FitsBegin c.args.setup.now l t) (sym c.self.view_is) c.requires.fits)
    c.in-Some.transaction.now (sym c.first.ensures ∙ ap option_copied c.in-Some.is)).lists
