-- How long the cuts of a merge are.
use Rattle.std.specs.Prelude.{◌≡◌, ℕ, length}
use Rattle.std.specs.List.{AllByRecursion}
use Rattle.whips_merge.specs.Merging.{MergeState}

-- Its cut and those of the transactions that wait count this many sources.
pub record HasCuts (n : ℕ) (m : MergeState) : Type 0 where
  pub cut : length m.cut ≡ n
  pub transactions : AllByRecursion (λ t. length t.cut ≡ n) m.transactions
