use Rattle.whips_plain_store.proofs.need.+put_versions.Given as goal

abbrev pub decreases-put_versions : goal.decreases-put_versions
decreases-put_versions l = l.count
