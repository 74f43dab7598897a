use Rattle.std.proofs.Common.{None, ap, ◌∙◌}
use Rattle.std.specs.Prelude.{slice_set}
use Rattle.whips_world.specs.Readers.{ReaderData}
use Rattle.whips_world.proofs.Reading.{set_at}
use Rattle.whips_world.proofs.readers.close.Goals as goal

pub returns : goal.returns
returns c =
    ap (λ (r : ReaderData). slice_set c.args.readers.now c.args.s (record r { session = None })) c.reader.view_is
    ∙ set_at (λ (r : ReaderData). record r { session = None }) c.args.s c.args.readers.now c.index-readers-s.result c.requires.there
