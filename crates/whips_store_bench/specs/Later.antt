-- Drafts of the same rows.
use Rattle.std.specs.Prelude.{◌≡◌}
use Rattle.whips_net.specs.Drafts.{DraftData}

-- The draft is one of the same rows before.
pub record IsLater (old new : DraftData) : Type 0 where
  pub columns : new.columns ≡ old.columns
  pub before : new.before ≡ old.before
