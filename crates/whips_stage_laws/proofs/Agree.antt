-- Relations that agree on those of one source.
use Rattle.std.proofs.Common.{◌≡◌, ◌≢◌, ℕ, zero, suc, ◌<◌, ◌==◌, not, List, [], ◌∷◌, ◌++◌, length, Some, None, slice_get, refl, sym, ap, ◌∙◌, eqb-true}
use Rattle.whips_lists.proofs.Places.{below_is}
use Rattle.whips_lists.specs.Lists.{places_from, changed_at}
use Rattle.whips_lists.proofs.Members.{has_passed}
use Rattle.whips_lists.specs.Members.{Has}
use Rattle.whips_model.specs.Relation.{Table, rows_in}
use Rattle.whips_choices.specs.KeyedViews.{KeyedView}
use Rattle.whips_choices.specs.Partials.{Partial}
use Rattle.whips_rel.specs.Updates.{relation_of}
use Rattle.whips_rel.specs.declared.update.Update.{Update}
use Rattle.whips_rel.specs.declared.update.Update.TheVariants.{Insert, Delete}
use Rattle.whips_states.specs.States.{Updates, with_row, without_row, updated, applied, all_applied, AreValid, AreAllValid, AreSoundTables}
use Rattle.whips_states.specs.Net.{relation_at}
use Rattle.whips_states.proofs.Changed.{changed_other, tables_stay}
use Rattle.whips_setup.specs.Setups.{SetupData}
use Rattle.whips_steps.specs.Steps.{home, other_parts, source_of_step, step_parts}
use Rattle.whips_steps.specs.Answers.{step_answer}
use Rattle.whips_steps.proofs.Unconcerned.{answer_is}
use Rattle.whips_manager_trans_laws.specs.Laws.{AreRelationsOf}
use Rattle.whips_manager_trans_laws.proofs.Relations.{relations_stay}
use Rattle.whips_stage_laws.specs.Fits.{AgreeAt, IsOwn, FitsSetup}

-- ---- one update

changed_alike : (f : Table → Table) (q r : ℕ) (db others : List Table) → slice_get db r ≡ slice_get others r → slice_get (changed_at q f db) r ≡ slice_get (changed_at q f others) r
changed_alike f q r [] [] e = refl
changed_alike f q zero [] (o ∷ others) e = absurd (cc)
changed_alike f zero (suc r) [] (o ∷ others) e = e
changed_alike f (suc q) (suc r) [] (o ∷ others) e = e ∙ none f q r others (sym e)
  where
    none : (f : Table → Table) (q r : ℕ) (xs : List Table) → slice_get xs r ≡ None → slice_get xs r ≡ slice_get (changed_at q f xs) r
    none f q r [] e = refl
    none f zero zero (x ∷ xs) e = absurd (cc)
    none f zero (suc r) (x ∷ xs) e = refl
    none f (suc q) zero (x ∷ xs) e = refl
    none f (suc q) (suc r) (x ∷ xs) e = none f q r xs e
changed_alike f q zero (d ∷ db) [] e = absurd (cc)
changed_alike f zero (suc r) (d ∷ db) [] e = e
changed_alike f (suc q) (suc r) (d ∷ db) [] e = changed_alike f q r db [] e
changed_alike f zero zero (d ∷ db) (o ∷ others) e = let same : d ≡ o = cc in ap (λ z. Some (f z)) same
changed_alike f zero (suc r) (d ∷ db) (o ∷ others) e = e
changed_alike f (suc q) zero (d ∷ db) (o ∷ others) e = e
changed_alike f (suc q) (suc r) (d ∷ db) (o ∷ others) e = changed_alike f q r db others e

update_alike : (db others : List Table) (u : Update) (r : ℕ) → slice_get db r ≡ slice_get others r → slice_get (updated db u) r ≡ slice_get (updated others u) r
update_alike db others (Insert q t) r e = changed_alike (with_row t) q r db others e
update_alike db others (Delete q t) r e = changed_alike (without_row t) q r db others e

update_other : (db : List Table) (u : Update) (r : ℕ) → r ≢ relation_of u → slice_get (updated db u) r ≡ slice_get db r
update_other db (Insert q s) r ne = changed_other (with_row s) db q r ne
update_other db (Delete q s) r ne = changed_other (without_row s) db q r ne

module _ (homes : List ℕ) where
  pub agree_sym : (y : ℕ) (db others : List Table) → AgreeAt homes y db others → AgreeAt homes y others db
  agree_sym y db others a r h = sym (a r h)

  pub agree_trans : (y : ℕ) (db others more : List Table) → AgreeAt homes y db others → AgreeAt homes y others more → AgreeAt homes y db more
  agree_trans y db others more a b r h = a r h ∙ b r h

  pub agree_applied : (y : ℕ) (t : Updates) (db others : List Table) → AgreeAt homes y db others → AgreeAt homes y (applied db t) (applied others t)
  agree_applied y [] db others a = a
  agree_applied y (u ∷ t) db others a = agree_applied y t (updated db u) (updated others u) (λ r h. update_alike db others u r (a r h))

  -- a transaction of another source
  pub agree_foreign : (y z : ℕ) (t : Updates) (db : List Table) → z ≢ y → IsOwn homes z t → AgreeAt homes y (applied db t) db
  agree_foreign y z [] db ne own r h = refl
  agree_foreign y z (u ∷ t) db ne own r h = agree_foreign y z t (updated db u) ne own.1 r h ∙ update_other db u r other
    where
      other : r ≡ relation_of u → ⊥
      other e = let a : Some z ≡ Some y = sym own.0 ∙ (ap (slice_get homes) (sym e) ∙ h) in ne (cc)

  pub valid_alike : (y : ℕ) (t : Updates) (db others : List Table) → AgreeAt homes y db others → IsOwn homes y t → AreValid db t → AreValid others t
  valid_alike y [] db others a own v = tt
  valid_alike y (u ∷ t) db others a own v = (
    record { table = v.0.table; there = sym (a (relation_of u) own.0) ∙ v.0.there; valid = v.0.valid },
    valid_alike y t (updated db u) (updated others u) (λ r h. update_alike db others u r (a r h)) own.1 v.1,
  )

-- ---- answers

part_of_step : (v : KeyedView) (origin step part : ℕ) → Has part (step_parts v origin step) → (part < length v.keys) × (home v part ≡ source_of_step v origin step)
unfolding step_parts
part_of_step v origin step part h =
    let a = has_passed (λ part. home v part == source_of_step v origin step) part (other_parts (length v.keys) origin) h in
    let b = has_passed (λ part. not (part == origin)) part (places_from 0 (length v.keys)) a.0 in
    (below_is (length v.keys) part b.0, eqb-true (home v part) (source_of_step v origin step) a.1)

-- an answer of source y is the same on relations that agree on those of y
pub answer_alike : (s : SetupData) (v : KeyedView) → FitsSetup s v → (y origin step : ℕ) (db others : List Table) (ps : List Partial) → source_of_step v origin step ≡ y → AgreeAt s.homes y db others
    → step_answer v.base db (step_parts v origin step) ps ≡ step_answer v.base others (step_parts v origin step) ps
answer_alike s v fits y origin step db others ps asked a =
    answer_is v.base db others (step_parts v origin step) ps (λ part h.
    let p = part_of_step v origin step part h in
    ap rows_in (a (relation_at v part) (fits.homes part p.0 ∙ ap (λ n. Some n) (p.1 ∙ asked))))

-- ---- transactions one after another

pub applied_push : (db : List Table) (ts : List Updates) (t : Updates) → all_applied db (ts ++ t ∷ []) ≡ applied (all_applied db ts) t
applied_push db [] t = refl
applied_push db (u ∷ ts) t = applied_push (applied db u) ts t

pub applied_append : (db : List Table) (ts us : List Updates) → all_applied db (ts ++ us) ≡ all_applied (all_applied db ts) us
applied_append db [] us = refl
applied_append db (t ∷ ts) us = applied_append (applied db t) ts us

pub valid_push : (db : List Table) (ts : List Updates) (t : Updates) → AreAllValid db ts → AreValid (all_applied db ts) t → AreAllValid db (ts ++ t ∷ [])
valid_push db [] t v w = (w, tt)
valid_push db (u ∷ ts) t v w = (v.0, valid_push (applied db u) ts t v.1 w)

pub valid_parts : (db : List Table) (ts us : List Updates) → AreAllValid db (ts ++ us) → AreAllValid db ts × AreAllValid (all_applied db ts) us
valid_parts db [] us v = (tt, v)
valid_parts db (t ∷ ts) us v = let more = valid_parts (applied db t) ts us v.1 in ((v.0, more.0), more.1)

pub all_sound : (db : List Table) (ts : List Updates) → AreSoundTables db → AreAllValid db ts → AreSoundTables (all_applied db ts)
all_sound db [] h v = h
all_sound db (t ∷ ts) h v = all_sound (applied db t) ts (tables_stay db t h v.0) v.1

pub all_relations : (v : KeyedView) (db : List Table) (ts : List Updates) → AreRelationsOf v db → AreAllValid db ts → AreRelationsOf v (all_applied db ts)
all_relations v db [] h w = h
all_relations v db (t ∷ ts) h w = all_relations v (applied db t) ts (relations_stay v db t h w.0) w.1
