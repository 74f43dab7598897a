-- What the last cut doesn't count concerns no view.
use Rattle.std.proofs.Common.{◌≡◌, ℕ, zero, suc, ◌+◌, ◌<◌, ◌≤◌, Bool, true, false, List, length, refl, ap, arith, inl, inr, ⊎_elim}
use Rattle.std.specs.Prelude.{slice_index}
use Rattle.std.specs.List.{list_any}
use Rattle.std.proofs.lemmas.Bool.{cases_lt}
use Rattle.std.proofs.lemmas.List.{get_or_past}
use Rattle.whips_lists.specs.Lists.{places_from}
use Rattle.whips_flow.specs.Facts.{view_places}
use Rattle.whips_flow.specs.State.{start}
use Rattle.whips_flow.specs.Progress.{after}
use Rattle.whips_lists.proofs.InList.{In, any_from, all_in}
use Rattle.whips_cut_laws.proofs.Orderly.{IsUnconcerned, after_kept, start_orderly, above_top, top_is_cut}
use Rattle.whips_settled_laws.specs.Settled.{IsQuietSource}
use Rattle.whips_lists.proofs.ByPlace.{get_in, get_there}
use Rattle.whips_settled_laws.proofs.Ends.{nothing_left, after_sound, start_sound}
use Rattle.whips_settled_laws.specs.LastCut.{LastCutIsComplete}

in_places : (k n x : ℕ) → k ≤ x → x < k + n → In x (places_from k n)
in_places k zero x a b = absurd (omega arith)
in_places k (suc n) x a b = ⊎_elim (λ lt. inr (in_places (suc k) n x (omega (arith, lt)) (omega (arith, b)))) (λ le. inl (omega (arith, le, a))) (cases_lt k x)

none_of : (test : ℕ → Bool) (xs : List ℕ) (x : ℕ) → In x xs → list_any test xs ≡ false → test x ≡ false
none_of test xs x i h = go (test x) refl
  where
    go : (b : Bool) → test x ≡ b → test x ≡ false
    go true e = let t = any_from test xs x i e in absurd (cc)
    go false e = e

pub complete : LastCutIsComplete
complete f es there none y k x above below within = ⊎_elim here past (cases_lt y (length f.transactions))
  where
    here : y < length f.transactions → f.concerns y k x ≡ false
    here lt =
        let h = after_kept f es (start f) (start_orderly f) in
        let settled = nothing_left f es there none in
        let sound = after_sound f there es (start f) (start_sound f) in
        let s = get_there y (after f (start f) es).sources (omega (arith, lt, sound.accounted.sources_long)) in
        let quiet = all_in IsQuietSource (after f (start f) es).sources s.0 settled.sources (get_in y (after f (start f) es).sources s.0 s.1) in
        let top = top_is_cut f (after f (start f) es) h settled.row_sets settled.rows settled.announcements settled.phase in
        let u : IsUnconcerned f y k = above_top f (after f (start f) es) h y k s.0 s.1 quiet.messages (omega (arith, above, ap (λ z. slice_index z y) top)) (omega (arith, below, settled.committed y s.0 s.1)) in
        none_of (λ x. f.concerns y k x) (view_places f) x (in_places 0 (length f.slots) x (omega arith) (omega (arith, within))) u

    past : length f.transactions ≤ y → f.concerns y k x ≡ false
    past le = absurd (omega (arith, above, below, get_or_past f.transactions y 0 le))
