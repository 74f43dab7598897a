-- A manager that takes no note of a transaction that doesn't concern its view.
use Rattle.std.proofs.Common.{◌≡◌, inl, inr, ℕ, zero, suc, ◌+◌, ◌<◌, ◌==◌, ◌&&◌, Bool, true, false, cond, Some, List, [], ◌∷◌, length, get_or, refl, sym, subst, arith, eq-eqb}
use Rattle.std.proofs.lemmas.Bool.{and_from, or_left, or_right}
use Rattle.whips_lists.specs.Members.{Has}
use Rattle.whips_model.specs.Tuples.{Codes, at_columns}
use Rattle.whips_model.specs.Relation.{Table}
use Rattle.whips_model.specs.Views.{ViewData}
use Rattle.whips_lists.proofs.Members.{has_first, has_later, any_from_has}
use Rattle.whips_choices.specs.KeyedViews.{KeyedView, part_key}
use Rattle.whips_rel.specs.declared.update.Update.{Update}
use Rattle.whips_rel.specs.declared.update.Update.TheVariants.{Insert, Delete}
use Rattle.whips_rel.specs.Updates.{relation_of, tuple_of}
use Rattle.whips_states.specs.States.{Updates, applied, AreValid}
use Rattle.whips_states.specs.Concerns.{meets_part, meets_from, concerns_update, concerns}
use Rattle.whips_states.specs.Net.{inserted, deleted, relation_at, names, first_of_key}
use Rattle.whips_trans_laws.proofs.Nets.{inserted_last, deleted_first}
use Rattle.whips_steps.specs.Answers.{tables_of}
use Rattle.whips_manager_laws.specs.Laws.{Meets}
use Rattle.whips_manager_laws.proofs.Lawful.{change_unseen}
use Rattle.whips_manager_trans_laws.specs.Laws.{AreRelationsOf, UnconcernedTransaction}
use Rattle.whips_manager_trans_laws.proofs.Keys.{IsNet, last_there}
use Rattle.whips_manager_trans_laws.proofs.Relations.{tables_good, relations_after, net_at}

first_there : (r : ℕ) (cols : List ℕ) (k : Codes) (t : Updates) (x : Update) → first_of_key r cols k t ≡ Some x → Has x t
first_there r cols k [] x e = absurd (cc)
first_there r cols k (u ∷ t) x e = go (λ g. first_there r cols k t x g) (names r cols k u) e
  where
    go : (first_of_key r cols k t ≡ Some x → Has x t) → (b : Bool) → cond b (Some u) (first_of_key r cols k t) ≡ Some x → Has x (u ∷ t)
    go ih true g = let same : u ≡ x = cc in subst (λ z. Has z (u ∷ t)) same (has_first u t)
    go ih false g = has_later x u t (ih g)

-- a tuple that meets a part of the view concerns it
meets_some : (view : ViewData) (part : ℕ) (relations : List ℕ) (u : Codes) (i : ℕ) → i < length relations → meets_part view (part + i) u ≡ true → meets_from view part relations (get_or relations i 0) u ≡ true
meets_some view part [] u i lt e = absurd (omega arith)
meets_some view part (s ∷ relations) u zero lt e =
    let same : part + 0 ≡ part = omega arith in
    or_left ((s == s) && meets_part view part u) (meets_from view (suc part) relations s u) (and_from (s == s) (meets_part view part u) (eq-eqb s s refl) (subst (λ z. meets_part view z u ≡ true) same e))
meets_some view part (s ∷ relations) u (suc i) lt e =
    let same : part + suc i ≡ suc part + i = omega arith in
    or_right ((s == get_or relations i 0) && meets_part view part u) (meets_from view (suc part) relations (get_or relations i 0) u) (meets_some view (suc part) relations u i (omega arith) (subst (λ z. meets_part view z u ≡ true) same e))

module _ (v : KeyedView) (db : List Table) (rel : AreRelationsOf v db) (t : Updates) (valid : AreValid db t) (off : concerns v.base t ≡ false) where
  -- no update of the transaction is of a tuple that meets its part
  unmet : (i : ℕ) (u : Codes) (x : Update) → i < length v.keys → Has x t → relation_of x ≡ relation_at v i → tuple_of x ≡ u → Meets v i u → ⊥
  unmet i u x lt h r e meets =
      let same : i ≡ 0 + i = omega arith in
      let own : meets_from v.base 0 v.base.relations (relation_at v i) u ≡ true = meets_some v.base 0 v.base.relations u i (omega (arith, rel.parts)) (subst (λ z. meets_part v.base z u ≡ true) same meets) in
      let here : concerns_update v.base x ≡ true = subst (λ z. meets_from v.base 0 v.base.relations z (tuple_of x) ≡ true) (sym r) (subst (λ z. meets_from v.base 0 v.base.relations (relation_at v i) z ≡ true) (sym e) own) in
      let some : concerns v.base t ≡ true = any_from_has (concerns_update v.base) x t h here in
      absurd (cc (some, off))

  net : (i : ℕ) → i < length v.keys → IsNet (part_key v i) (get_or (tables_of v.base db) i []) (get_or (tables_of v.base (applied db t)) i []) (inserted (relation_at v i) (part_key v i) t) (deleted (relation_at v i) (part_key v i) t)
  net = net_at v db t rel valid

  pub to_after : (i : ℕ) (u : Codes) → i < length v.keys → Meets v i u → Has u (get_or (tables_of v.base db) i []) → Has u (get_or (tables_of v.base (applied db t)) i [])
  to_after i u lt meets h = (net i lt).stays u h (λ k.
      let first = ((deleted_first (relation_at v i) (part_key v i) t).1 u).0 ((net i lt).deleted_is u h k) in
      unmet i u (Delete (relation_at v i) u) lt (first_there (relation_at v i) (part_key v i) (at_columns (part_key v i) u) t _ first) refl refl meets)

  pub from_after : (i : ℕ) (u : Codes) → i < length v.keys → Meets v i u → Has u (get_or (tables_of v.base (applied db t)) i []) → Has u (get_or (tables_of v.base db) i [])
  from_after i u lt meets h = elim ((net i lt).from u h) [
    | inl g ↦
        let last = ((inserted_last (relation_at v i) (part_key v i) t).1 u).0 g in
        absurd (unmet i u (Insert (relation_at v i) u) lt (last_there (relation_at v i) (part_key v i) (at_columns (part_key v i) u) t _ last) refl refl meets)
    | inr g ↦ g.0
  ]

pub unconcerned : UnconcernedTransaction
unconcerned v db rows m t rel valid off s =
    change_unseen v (tables_of v.base db) (tables_of v.base (applied db t)) rows m s (tables_good v (applied db t) (relations_after v db t rel valid)) (to_after v db rel t valid off) (from_after v db rel t valid off)
