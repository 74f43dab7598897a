-- Transactions of two sources, which change different relations, may change places.
use Rattle.std.proofs.Common.{◌≡◌, ◌≢◌, ℕ, zero, suc, List, [], ◌∷◌, take, slice_get, refl, ap, subst, ◌∙◌}
use Rattle.std.specs.List.{AllByRecursion}
use Rattle.whips_model.specs.Relation.{Table}
use Rattle.whips_rel.specs.Updates.{relation_of}
use Rattle.whips_rel.specs.declared.update.Update.{Update}
use Rattle.whips_rel.specs.declared.update.Update.TheVariants.{Insert, Delete}
use Rattle.whips_states.specs.States.{Updates, with_row, without_row, updated, applied, all_applied, state_at, IsValid, AreValid, AreAllValid}
use Rattle.whips_lists.specs.Lists.{changed_at}
use Rattle.whips_states.proofs.Changed.{changed_other}

changed_swap : (f g : Table → Table) (r q : ℕ) (db : List Table) → r ≢ q → changed_at q g (changed_at r f db) ≡ changed_at r f (changed_at q g db)
changed_swap f g r q [] ne = refl
changed_swap f g zero zero (t ∷ db) ne = absurd (ne refl)
changed_swap f g zero (suc q) (t ∷ db) ne = refl
changed_swap f g (suc r) zero (t ∷ db) ne = refl
changed_swap f g (suc r) (suc q) (t ∷ db) ne = ap (λ z. t ∷ z) (changed_swap f g r q db (λ e. ne (ap suc e)))

update_swap : (db : List Table) (u w : Update) → relation_of u ≢ relation_of w → updated (updated db u) w ≡ updated (updated db w) u
update_swap db (Insert r t) (Insert q s) ne = changed_swap (with_row t) (with_row s) r q db ne
update_swap db (Insert r t) (Delete q s) ne = changed_swap (with_row t) (without_row s) r q db ne
update_swap db (Delete r t) (Insert q s) ne = changed_swap (without_row t) (with_row s) r q db ne
update_swap db (Delete r t) (Delete q s) ne = changed_swap (without_row t) (without_row s) r q db ne

update_other : (db : List Table) (w : Update) (r : ℕ) → r ≢ relation_of w → slice_get (updated db w) r ≡ slice_get db r
update_other db (Insert q s) r ne = changed_other (with_row s) db q r ne
update_other db (Delete q s) r ne = changed_other (without_row s) db q r ne

-- updates of relations in R, and updates of none of them
module _ (R : ℕ → Type 0) where
  abbrev pub In : Updates → Type 0
  In t = AllByRecursion (λ u. R (relation_of u)) t

  abbrev pub Out : Updates → Type 0
  Out t = AllByRecursion (λ u. R (relation_of u) → ⊥) t

  pub differ : (u w : Update) → R (relation_of u) → (R (relation_of w) → ⊥) → relation_of u ≢ relation_of w
  differ u w a b e = b (subst R e a)

  -- an update in R goes past a transaction without R
  update_past : (db : List Table) (u : Update) (t : Updates) → R (relation_of u) → Out t → applied (updated db u) t ≡ updated (applied db t) u
  update_past db u [] a b = refl
  update_past db u (w ∷ t) a b = ap (λ z. applied z t) (update_swap db u w (differ u w a b.0)) ∙ update_past (updated db w) u t a b.1

  trans_past : (db : List Table) (t s : Updates) → In t → Out s → applied (applied db t) s ≡ applied (applied db s) t
  trans_past db [] s a b = refl
  trans_past db (u ∷ t) s a b = trans_past (updated db u) t s a.1 b ∙ ap (λ z. applied z t) (update_past db u s a.0 b)

  list_past : (db : List Table) (t : Updates) (ss : List Updates) → In t → AllByRecursion Out ss → all_applied (applied db t) ss ≡ applied (all_applied db ss) t
  list_past db t [] a b = refl
  list_past db t (s ∷ ss) a b = ap (λ z. all_applied z ss) (trans_past db t s a b.0) ∙ list_past (applied db s) t ss a b.1

  pub out_take : (n : ℕ) (ss : List Updates) → AllByRecursion Out ss → AllByRecursion Out (take n ss)
  out_take zero ss h = tt
  out_take (suc n) [] h = tt
  out_take (suc n) (s ∷ ss) h = (h.0, out_take n ss h.1)

  state_past : (db : List Table) (t : Updates) (work : List (List Updates)) (cut : List ℕ) → In t → AllByRecursion (AllByRecursion Out) work → state_at (applied db t) work cut ≡ applied (state_at db work cut) t
  state_past db t [] cut a b = refl
  state_past db t (ss ∷ work) [] a b = refl
  state_past db t (ss ∷ work) (c ∷ cut) a b = ap (λ z. state_at z work cut) (list_past db t (take c ss) a (out_take c ss b.0)) ∙ state_past (all_applied db (take c ss)) t work cut a b.1

  pub states_past : (db : List Table) (ts : List Updates) (work : List (List Updates)) (cut : List ℕ) → AllByRecursion In ts → AllByRecursion (AllByRecursion Out) work → state_at (all_applied db ts) work cut ≡ all_applied (state_at db work cut) ts
  states_past db [] work cut a b = refl
  states_past db (t ∷ ts) work cut a b = states_past (applied db t) ts work cut a.1 b ∙ ap (λ z. all_applied z ts) (state_past db t work cut a.0 b)

  -- ---- validity

  valid_past_update : (db : List Table) (u w : Update) → R (relation_of u) → (R (relation_of w) → ⊥) → IsValid db u → IsValid (updated db w) u
  valid_past_update db u w a b v = record { table = v.table; there = update_other db w (relation_of u) (differ u w a b) ∙ v.there; valid = v.valid }

  valid_past : (db : List Table) (u : Update) (s : Updates) → R (relation_of u) → Out s → IsValid db u → IsValid (applied db s) u
  valid_past db u [] a b v = v
  valid_past db u (w ∷ s) a b v = valid_past (updated db w) u s a b.1 (valid_past_update db u w a b.0 v)

  trans_valid_past : (db : List Table) (t s : Updates) → In t → Out s → AreValid db t → AreValid (applied db s) t
  trans_valid_past db [] s a b v = tt
  trans_valid_past db (u ∷ t) s a b v = (valid_past db u s a.0 b v.0, subst (λ z. AreValid z t) (update_past db u s a.0 b) (trans_valid_past (updated db u) t s a.1 b v.1))

  pub list_valid_past : (db : List Table) (ts : List Updates) (s : Updates) → AllByRecursion In ts → Out s → AreAllValid db ts → AreAllValid (applied db s) ts
  list_valid_past db [] s a b v = tt
  list_valid_past db (t ∷ ts) s a b v = (trans_valid_past db t s a.0 b v.0, subst (λ z. AreAllValid z ts) (trans_past db t s a.0 b) (list_valid_past (applied db t) ts s a.1 b v.1))

  pub lists_valid_past : (db : List Table) (ts ss : List Updates) → AllByRecursion In ts → AllByRecursion Out ss → AreAllValid db ts → AreAllValid (all_applied db ss) ts
  lists_valid_past db ts [] a b v = v
  lists_valid_past db ts (s ∷ ss) a b v = lists_valid_past (applied db s) ts ss a b.1 (list_valid_past db ts s a b.0 v)

  pub state_valid_past : (db : List Table) (ts : List Updates) (work : List (List Updates)) (cut : List ℕ) → AllByRecursion In ts → AllByRecursion (AllByRecursion Out) work → AreAllValid db ts → AreAllValid (state_at db work cut) ts
  state_valid_past db ts [] cut a b v = v
  state_valid_past db ts (ss ∷ work) [] a b v = v
  state_valid_past db ts (ss ∷ work) (c ∷ cut) a b v = state_valid_past (all_applied db (take c ss)) ts work cut a b.1 (lists_valid_past db ts (take c ss) a (out_take c ss b.0) v)
