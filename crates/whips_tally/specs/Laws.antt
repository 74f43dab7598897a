-- Records that are counted in parts.
use Rattle.std.proofs.Common.{◌≡◌, List, [], ◌∷◌, ◌++◌, refl, sym, ap, ◌∙◌}
use Rattle.whips_reports.specs.Reported.{Reported}
use Rattle.whips_tally.specs.Tallies.{Tally, counted_one, tally_after}

pub nothing_counted : (k : Tally) → k ≡ tally_after k []
nothing_counted k = refl

counted_join : (k : Tally) (rs ss : List Reported) → tally_after k (rs ++ ss) ≡ tally_after (tally_after k rs) ss
counted_join k [] ss = refl
counted_join k (r ∷ rs) ss = counted_join (counted_one k r) rs ss

pub counted_more : (k l m : Tally) (rs ss : List Reported) → l ≡ tally_after k rs → m ≡ tally_after l ss → m ≡ tally_after k (rs ++ ss)
counted_more k l m rs ss p q = q ∙ (ap (λ t. tally_after t ss) p ∙ sym (counted_join k rs ss))
