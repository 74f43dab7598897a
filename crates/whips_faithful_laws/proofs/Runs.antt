-- Calls of a store, one after another, keep all.
use Rattle.std.proofs.Common.{◌≡◌, inl, inr, ℕ, suc, ◌+◌, ◌/◌, ◌<◌, ◌≤◌, List, [], ◌∷◌, ◌++◌, length, map, get_or, Option, Some, None, refl, sym, ap, subst, ◌∙◌, arith}
use Rattle.std.specs.Option.{option_map}
use Rattle.std.specs.List.{AllByRecursion}
use Rattle.std.proofs.Math.ListN.{get_or-map}
use Rattle.std.proofs.lemmas.Bool.{cases_lt}
use Rattle.std.proofs.lemmas.List.{length-map, length_push, get_or_append_left, get_or_push}
use Rattle.whips_model.specs.Tuples.{Codes}
use Rattle.whips_store.specs.Stores.{ViewState, StoreState, no_view}
use Rattle.whips_store.specs.Calls.{begun, published}
use Rattle.whips_store.specs.Sound.{IsSoundStore}
use Rattle.whips_store_laws.proofs.Whole as sound
use Rattle.whips_faithful_laws.specs.Faithful.{IsFaithful}
use Rattle.whips_faithful_laws.specs.Scans.{IsLater}
use Rattle.whips_faithful_laws.specs.Runs.{IsCall, AreCalls, CallsKeepFaithful, TellsValues, CallsKeepTelling}
use Rattle.whips_faithful_laws.proofs.Calls as faithful
use Rattle.whips_faithful_laws.proofs.Scans.{later_itself, later_again, begin_later, change_later, publish_later}
use Rattle.whips_faithful_laws.proofs.Shapes.{begun_length, changed_length}

one_call : (values : ℕ → ℕ → List Codes) (s t : StoreState) → IsSoundStore s → IsFaithful values s → IsCall values s t → IsSoundStore t × IsFaithful values t × IsLater s t
one_call values s t h f (inl b) = subst (λ t. IsSoundStore t × IsFaithful values t × IsLater s t) (sym b.store)
    (sound.begin_keeps s b.changes h b.quiet b.net b.tables b.room, faithful.begin_keeps values s b.changes h b.quiet b.net b.next f, begin_later s b.changes)
one_call values s t h f (inr (inl e)) = subst (λ t. IsSoundStore t × IsFaithful values t × IsLater s t) (sym e)
    (sound.change_keeps s h, faithful.change_keeps values s h f, change_later s h)
one_call values s t h f (inr (inr p)) = subst (λ t. IsSoundStore t × IsFaithful values t × IsLater s t) (sym p.store)
    (sound.publish_keeps s h p.active p.made, faithful.publish_keeps_faithful values s h p.active p.made f, publish_later s)

calls_from : (values : ℕ → ℕ → List Codes) (r s : StoreState) (ts : List StoreState) → IsLater r s → IsSoundStore s → IsFaithful values s → AreCalls values s ts → AllByRecursion (λ t. IsSoundStore t × IsFaithful values t × IsLater r t) ts
calls_from values r s [] l h f calls = tt
calls_from values r s (t ∷ ts) l h f calls =
    let one = one_call values s t h f calls.0 in
    let later = later_again r s t l one.2 in
    ((one.0, one.1, later), calls_from values r t ts later one.0 one.1 calls.1)

pub calls_keep : CallsKeepFaithful
calls_keep values s ts h f calls = calls_from values s s ts (later_itself s) h f calls

-- ---- what a store tells

pub keeps_telling : CallsKeepTelling
keeps_telling values s t f tells (inl b) = subst (TellsValues values) (sym b.store) (begun_tells)
  where
    begun_tells : TellsValues values (begun b.changes s)
    begun_tells past e =
        let h = tells past e in
        let even = b.quiet in
        (h.0 ∙ (let same : suc (s.phase / 2) ≡ suc (suc s.phase / 2) = omega arith in same), λ x v lt le. h.1 x v (subst (λ m. x < m) (begun_length s.views b.changes) lt) (omega arith))
keeps_telling values s t f tells (inr (inl e)) = subst (TellsValues values) (sym e)
    (λ past is. let h = tells past is in (h.0, λ x v lt le. h.1 x v (subst (λ m. x < m) (changed_length s.versions (s.phase / 2) s.views) lt) le))
keeps_telling values s t f tells (inr (inr p)) = subst (TellsValues values) (sym p.store) (told s.past refl)
  where
    told : (o : Option (List (List (List Codes)))) → s.past ≡ o → TellsValues values (record (published s) { past = option_map (λ rows. rows ++ map (λ (v : ViewState). v.next) s.views ∷ []) o })
    told None e past is = absurd (cc)
    told (Some old) e past is =
        let h = tells old e in
        let odd = p.active in
        let same : old ++ map (λ (v : ViewState). v.next) s.views ∷ [] ≡ past = cc in
        subst (λ past. (length past ≡ suc (suc s.phase / 2)) × ((x v : ℕ) → x < length (map (λ (v : ViewState). record v { current = v.next }) s.views) → v ≤ suc s.phase / 2 → get_or (get_or past v []) x [] ≡ values x v)) same (
          (let many = length_push old (map (λ (v : ViewState). v.next) s.views) in omega (arith, many, h.0)),
          λ x v lt le.
              let inside : x < length s.views = subst (λ m. x < m) (length-map s.views (λ (v : ViewState). record v { current = v.next })) lt in
              elim (cases_lt v (suc s.phase / 2)) [
                | inl below ↦ ap (λ rows. get_or rows x []) (get_or_append_left old (map (λ (v : ViewState). v.next) s.views ∷ []) [] v (omega (arith, h.0))) ∙ h.1 x v inside (omega arith)
                | inr last ↦
                    let top : (s.phase + 1) / 2 ≡ v = omega arith in
                    ap (λ rows. get_or rows x []) (get_or_push old (map (λ (v : ViewState). v.next) s.views) [] v (omega (arith, h.0, top)))
                    ∙ get_or-map (λ (v : ViewState). v.next) s.views x no_view ∙ (f x inside).new ∙ ap (values x) top
              ],
        )
