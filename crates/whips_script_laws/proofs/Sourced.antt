-- What the sources of a script keep when they are read.
--
-- `sources_read`: there are 1 to 8 sources, each with 1 to 4 relations, which are relations (`IsRelation`), and the transactions of each are
-- valid in turn on the initial relations, within their limits, and of its own relations (`AreRead`). What is said of transactions is said of
-- all lists of relations that begin with those so far, so it stays when the relations of later sources are put behind them.
use Rattle.std.proofs.Common.{◌≡◌, ◌⊎◌, inl, inr, ℕ, zero, suc, ◌+◌, ◌-◌, ◌*◌, ◌<◌, ◌≤◌, ◌&&◌, ◌==◌, nat_le, nat_lt, Bool, true, false, cond, List, [], ◌∷◌, ◌++◌, length, map, drop, replicate, slice_get, Option, Some, None, Ok, refl, sym, ap, ap₂, subst, ◌∙◌, arith, append_assoc, length-append, eq-eqb, eqb-true, lt-ltb, ltb-true}
use Rattle.std.specs.List.{list_all, AllByRecursion}
use Rattle.std.proofs.lemmas.Bool.{and_parts}
use Rattle.std.proofs.lemmas.Bool.Decides.{nat_tests}
use Rattle.std.proofs.lemmas.List.{length-map, length-replicate}
use Rattle.std.proofs.lemmas.List.Folds.{list_all-append}
use Rattle.std.proofs.Math.Seq.{drop-append_seam}
use Rattle.serde_json.specs.Data.{Data}
use Rattle.whips_model.specs.Relation.{Table}
use Rattle.whips_rel.specs.declared.update.Update.{Update}
use Rattle.whips_rel.specs.Updates.{relation_of}
use Rattle.whips_states.specs.States.{Updates, AreAllValid}
use Rattle.whips_view.specs.ViewDefs.{is_within, columns_in}
use Rattle.whips_setup.specs.Limits.{relations_at, have_relations}
use Rattle.whips_setup.specs.Workloads.{is_transaction_within, is_list_within, AreOwn}
use Rattle.whips_reading.specs.declared.place.Member.TheVariants as member
use Rattle.whips_reading.specs.Json.{Text}
use Rattle.whips_reading.specs.Places.{Place, in_member}
use Rattle.whips_reading.specs.Reading.{within}
use Rattle.whips_relation_reading.specs.Relations.{RelationForm, relations_added}
use Rattle.whips_update_reading.specs.Updates.{Scope, Work}
use Rattle.whips_update_reading.specs.Sources.{Sources, no_sources, new_source_name, scope_of, begun, source_work, with_source, source_added, sources_in}
use Rattle.whips_script_laws.proofs.Parts.{bound, list_read, member_read}
use Rattle.whips_script_laws.proofs.Appended.{one_longer, all_more, each_append}
use Rattle.whips_script_laws.proofs.Related.{IsGood, IsRelation, AreMore, relations_read}
use Rattle.whips_script_laws.proofs.Updated.{IsOwn, IsWork, AreFew, work_read}

-- the relations with their initial rows
abbrev pub tables_of : List RelationForm → List Table
tables_of relations = map (λ r. r.table) relations

tables_append : (a b : List RelationForm) → tables_of (a ++ b) ≡ tables_of a ++ tables_of b
tables_append [] b = refl
tables_append (r ∷ a) b = ap (λ l. r.table ∷ l) (tables_append a b)

-- ---- lists that agree at their ends

module _ {X : Type 0} where
  get_front : (c e : List X) (i : ℕ) → i < length c → slice_get (c ++ e) i ≡ slice_get c i
  get_front [] e i h = absurd (omega arith)
  get_front (x ∷ c) e zero h = refl
  get_front (x ∷ c) e (suc i) h = get_front c e i (omega arith)

  get_tail : (a b c e : List X) (i : ℕ) → length a ≡ length b → length a ≤ i → i < length (b ++ c) → slice_get (a ++ (c ++ e)) i ≡ slice_get (b ++ c) i
  get_tail [] [] c e i same low high = get_front c e i high
  get_tail [] (y ∷ b) c e i same low high = absurd (omega arith)
  get_tail (x ∷ a) [] c e i same low high = absurd (omega arith)
  get_tail (x ∷ a) (y ∷ b) c e zero same low high = absurd (omega arith)
  get_tail (x ∷ a) (y ∷ b) c e (suc i) same low high = get_tail a b c e i (omega arith) (omega arith) (omega arith)

  get_copy : (a e : List X) (m i : ℕ) (x : X) → length a ≤ i → i < length a + m → slice_get (a ++ (replicate m x ++ e)) i ≡ Some x
  get_copy [] e zero i x low high = absurd (omega arith)
  get_copy [] e (suc m) zero x low high = refl
  get_copy [] e (suc m) (suc i) x low high = get_copy [] e m i x (omega arith) (omega arith)
  get_copy (y ∷ a) e m zero x low high = absurd (omega arith)
  get_copy (y ∷ a) e m (suc i) x low high = get_copy a e m i x (omega arith) (omega arith)

-- ---- the relations of each source

differs : (a b : ℕ) → b < a → (a == b) ≡ false
differs a b lt = go (a == b) refl
  where
    go : (c : Bool) → (a == b) ≡ c → (a == b) ≡ false
    go true e = let same : a ≡ b = eqb-true a b e in absurd (omega arith)
    go false e = e

at_append : (source : ℕ) (a b : List ℕ) → relations_at source (a ++ b) ≡ relations_at source a + relations_at source b
at_append source [] b = omega arith
at_append source (h ∷ a) b = let rest = at_append source a b in omega (arith, rest)

at_none : (n : ℕ) (homes : List ℕ) → list_all (λ home. nat_lt home n) homes ≡ true → relations_at n homes ≡ 0
at_none n [] e = refl
at_none n (h ∷ homes) e =
    let b = and_parts (nat_lt h n) (list_all (λ home. nat_lt home n) homes) e in
    let none : cond {A = ℕ} (h == n) 1 0 ≡ 0 = miss (h == n) refl (ltb-true h n b.0) in
    let rest = at_none n homes b.1 in
    omega (arith, none, rest)
  where
    miss : (c : Bool) → (h == n) ≡ c → h < n → cond {A = ℕ} c 1 0 ≡ 0
    miss true f lt = let same : h ≡ n = eqb-true h n f in absurd (omega arith)
    miss false f lt = refl

at_copies : (n m : ℕ) → relations_at n (replicate m n) ≡ m
at_copies n zero = refl
at_copies n (suc m) =
    let one : cond {A = ℕ} (n == n) 1 0 ≡ 1 = ap (λ (c : Bool). cond {A = ℕ} c 1 0) (eq-eqb n n refl) in
    let rest = at_copies n m in
    omega (arith, one, rest)

at_others : (k n m : ℕ) → k < n → relations_at k (replicate m n) ≡ 0
at_others k n zero lt = refl
at_others k n (suc m) lt =
    let none : cond {A = ℕ} (n == k) 1 0 ≡ 0 = ap (λ (c : Bool). cond {A = ℕ} c 1 0) (differs n k lt) in
    let rest = at_others k n m lt in
    omega (arith, none, rest)

have_still : (j n m : ℕ) (homes : List ℕ) → j ≤ n → have_relations j homes ≡ true → have_relations j (homes ++ replicate m n) ≡ true
have_still zero n m homes le e = refl
have_still (suc j) n m homes le e =
    let b = and_parts (is_within 1 4 (relations_at j homes)) (have_relations j homes) e in
    let others = at_others j n m (omega arith) in
    let sums = at_append j homes (replicate m n) in
    let same : relations_at j (homes ++ replicate m n) ≡ relations_at j homes = omega (arith, others, sums) in
    ap₂ (λ x y. x && y) (ap (is_within 1 4) same ∙ b.0) (have_still j n m homes (omega arith) b.1)

below_wider : (n : ℕ) (homes : List ℕ) → list_all (λ home. nat_lt home n) homes ≡ true → list_all (λ home. nat_lt home (suc n)) homes ≡ true
below_wider n [] e = refl
below_wider n (h ∷ homes) e =
    let b = and_parts (nat_lt h n) (list_all (λ home. nat_lt home n) homes) e in
    let lt = ltb-true h n b.0 in
    ap₂ (λ x y. x && y) (lt-ltb h (suc n) (omega arith)) (below_wider n homes b.1)

below_copies : (n m : ℕ) → list_all (λ home. nat_lt home (suc n)) (replicate m n) ≡ true
below_copies n zero = refl
below_copies n (suc m) = ap₂ (λ x y. x && y) (lt-ltb n (suc n) (omega arith)) (below_copies n m)

-- ---- transactions

module _ (homes : List ℕ) where
  own_more : (j : ℕ) (work : List (List Updates)) (list : List Updates) → AreOwn homes j work → AllByRecursion (AllByRecursion (λ u. slice_get homes (relation_of u) ≡ Some (j + length work))) list → AreOwn homes j (work ++ list ∷ [])
  own_more j [] list h k = let same : j + length {A = List Updates} [] ≡ j = omega arith in (subst (λ n. AllByRecursion (AllByRecursion (λ u. slice_get homes (relation_of u) ≡ Some n)) list) same k, tt)
  own_more j (l ∷ work) list h k =
      let same : j + length (l ∷ work) ≡ suc j + length work = omega arith in
      (h.0, own_more (suc j) work list h.1 (subst (λ n. AllByRecursion (AllByRecursion (λ u. slice_get homes (relation_of u) ≡ Some n)) list) same k))

module _ {X : Type 0} (P Q : X → Type 0) (f : (x : X) → P x → Q x) where
  pub each_so : (xs : List X) → AllByRecursion P xs → AllByRecursion Q xs
  each_so [] h = tt
  each_so (x ∷ xs) h = (f x h.0, each_so xs h.1)

-- ---- all sources

-- what n sources that were read keep
pub record AreRead (n : ℕ) (s : Sources) : Type 0 where
  pub names : length s.names ≡ n
  pub homes : length s.homes ≡ length s.relations
  pub tables : length s.tables ≡ length s.relations
  pub few : length s.relations ≤ 4 * n
  pub below : list_all (λ home. nat_lt home n) s.homes ≡ true
  pub each : have_relations n s.homes ≡ true
  pub relations : AllByRecursion IsRelation s.relations
  pub good : AllByRecursion IsGood s.tables
  pub lists : length s.transactions ≡ n
  pub own : (hs : List ℕ) → AreOwn (s.homes ++ hs) 0 s.transactions
  pub valid : (more : List Table) → AllByRecursion (AreAllValid (tables_of s.relations ++ more)) s.transactions
  pub within : (more : List Table) → list_all (is_list_within (tables_of s.relations ++ more)) s.transactions ≡ true

good_tables : (relations : List RelationForm) → AllByRecursion IsRelation relations → AllByRecursion IsGood (tables_of relations)
good_tables [] h = tt
good_tables (r ∷ relations) h = (h.0.good, good_tables relations h.1)

module _ (texts : List Text) (n : ℕ) (s : Sources) (h : AreRead n s) (all new : List RelationForm) (are : all ≡ s.relations ++ new) (some : nat_le 1 (length new) ≡ true) (few : nat_le (length new) 4 ≡ true) (each : AllByRecursion IsRelation new) where
  abbrev scope : Scope
  scope = scope_of texts s all

  ends : scope.relations ≡ new
  ends = ap (drop (length s.relations)) are ∙ drop-append_seam s.relations new

  lengths : length all ≡ length s.relations + length new
  lengths = ap length are ∙ length-append s.relations new

  whole : scope.first + length scope.relations ≡ length all
  whole = let tail = ap length ends in let sum = lengths in omega (arith, tail, sum)

  -- the relations, and more behind them
  tables_are : (more : List Table) → tables_of all ++ more ≡ tables_of s.relations ++ (tables_of new ++ more)
  tables_are more = ap (λ l. tables_of l ++ more) are ∙ ap (λ l. l ++ more) (tables_append s.relations new) ∙ append_assoc (tables_of s.relations) (tables_of new) more

  first_work : (more : List Table) → IsWork scope (tables_of all ++ more) (length all) whole 0 0 (begun scope s.tables)
  first_work more =
      let tail = ap length ends in
      let mapped = length-map new (λ (r : RelationForm). r.table) in
      let before = length-map s.relations (λ (r : RelationForm). r.table) in
      let tables = h.tables in
      let sum = lengths in
      let behind : s.tables ++ map (λ r. r.table) scope.relations ≡ s.tables ++ tables_of new = ap (λ l. s.tables ++ tables_of l) ends in
      let size = length-append s.tables (tables_of new) in
      let first_same = before ∙ sym h.tables in
      let same : (i : ℕ) → scope.first ≤ i → i < length all → slice_get (tables_of all ++ more) i ≡ slice_get (s.tables ++ map (λ r. r.table) scope.relations) i =
      λ i low high. ap (λ l. slice_get l i) (tables_are more) ∙ get_tail (tables_of s.relations) s.tables (tables_of new) more i first_same (omega (arith, before, low)) (omega (arith, size, mapped, tables, sum, high)) ∙ ap (λ l. slice_get l i) (sym behind) in
      record {
        size = ap length behind ∙ (let z : length (s.tables ++ tables_of new) ≡ length all = omega (arith, size, mapped, tables, sum) in z);
        count = refl;
        made = refl;
        good = subst (AllByRecursion IsGood) (sym behind) (each_append IsGood s.tables (tables_of new) h.good (good_tables new each));
        same = same;
        columns = λ i low high. ap columns_in (same i low high);
        own = tt;
        own_made = tt;
        valid = tt;
        valid_made = tt;
        within = refl;
        within_made = refl;
      }

  module _ (name : Text) (work : Work) (worked : (more : List Table) → AreFew scope (tables_of all ++ more) (length all) whole work) where
    abbrev after : Sources
    after = with_source (record s { relations = all }) name work

    copies : after.homes ≡ s.homes ++ replicate (length new) n
    copies =
        let sum = lengths in
        let before = h.homes in
        let count : length all - length s.homes ≡ length new = omega (arith, sum, before) in
        ap₂ (λ k m. s.homes ++ replicate k m) count h.names

    home_of : (hs : List ℕ) (u : Update) → IsOwn scope (tables_of all ++ []) (length all) whole u → slice_get ((s.homes ++ replicate (length new) n) ++ hs) (relation_of u) ≡ Some n
    home_of hs u own =
        let sum = lengths in
        let before = h.homes in
        let low = own.0 in
        let high = own.1 in
        ap (λ l. slice_get l (relation_of u)) (append_assoc s.homes (replicate (length new) n) hs) ∙ get_copy s.homes hs (length new) (relation_of u) n (omega (arith, before, low)) (omega (arith, before, sum, high))

    own_after : (hs : List ℕ) → AreOwn ((s.homes ++ replicate (length new) n) ++ hs) 0 (s.transactions ++ work.transactions ∷ [])
    own_after hs =
        let homes = (s.homes ++ replicate (length new) n) ++ hs in
        let number : n ≡ 0 + length s.transactions = (let lists = h.lists in omega (arith, lists)) in
        let made = (worked []).2 in
        let at_n = each_so (AllByRecursion (IsOwn scope (tables_of all ++ []) (length all) whole)) (AllByRecursion (λ u. slice_get homes (relation_of u) ≡ Some n)) (λ t k. each_so (IsOwn scope (tables_of all ++ []) (length all) whole) (λ u. slice_get homes (relation_of u) ≡ Some n) (home_of hs) t k) work.transactions made.own in
        own_more homes 0 s.transactions work.transactions
        (subst (λ l. AreOwn l 0 s.transactions) (sym (append_assoc s.homes (replicate (length new) n) hs)) (h.own (replicate (length new) n ++ hs)))
        (subst (λ k. AllByRecursion (AllByRecursion (λ u. slice_get homes (relation_of u) ≡ Some k)) work.transactions) number at_n)

    valid_after : (more : List Table) → AllByRecursion (AreAllValid (tables_of all ++ more)) (s.transactions ++ work.transactions ∷ [])
    valid_after more =
        each_append (AreAllValid (tables_of all ++ more)) s.transactions (work.transactions ∷ [])
        (subst (λ db. AllByRecursion (AreAllValid db) s.transactions) (sym (tables_are more)) (h.valid (tables_of new ++ more)))
        ((worked more).2.valid, tt)

    within_after : (more : List Table) → list_all (is_list_within (tables_of all ++ more)) (s.transactions ++ work.transactions ∷ []) ≡ true
    within_after more =
        let w = worked more in
        all_more (is_list_within (tables_of all ++ more)) s.transactions work.transactions
        (ap (λ db. list_all (is_list_within db) s.transactions) (tables_are more) ∙ h.within (tables_of new ++ more))
        (ap₂ (λ a b. a && b) (ap (λ k. nat_le k 4096) w.2.count ∙ w.1) w.2.within)

    source_kept : AreRead (suc n) after
    source_kept =
        let count = length-replicate (length new) n in
        let sum = lengths in
        let homes = h.homes in
        let size = length-append s.homes (replicate (length new) n) in
        let own_count : relations_at n (s.homes ++ replicate (length new) n) ≡ length new = (let a = at_append n s.homes (replicate (length new) n) in let b = at_none n s.homes h.below in let c = at_copies n (length new) in omega (arith, a, b, c)) in
        record {
          names = one_longer s.names name n h.names;
          homes = ap length copies ∙ (let z : length (s.homes ++ replicate (length new) n) ≡ length all = omega (arith, size, count, homes, sum) in z);
          tables = (worked []).2.size;
          few = (let before = h.few in at_most (length s.relations) (length new) before few sum);
          below = ap (list_all (λ home. nat_lt home (suc n))) copies ∙ list_all-append (λ home. nat_lt home (suc n)) s.homes (replicate (length new) n) ∙ ap₂ (λ a b. a && b) (below_wider n s.homes h.below) (below_copies n (length new));
          each = ap (have_relations (suc n)) copies ∙ ap₂ (λ a b. a && b) (ap (is_within 1 4) own_count ∙ ap₂ (λ a b. a && b) some few) (have_still n n (length new) s.homes (omega arith) h.each);
          relations = subst (AllByRecursion IsRelation) (sym are) (each_append IsRelation s.relations new h.relations each);
          good = (worked []).2.good;
          lists = one_longer s.transactions work.transactions n h.lists;
          own = λ hs. subst (λ l. AreOwn (l ++ hs) 0 (s.transactions ++ work.transactions ∷ [])) (sym copies) (own_after hs);
          valid = valid_after;
          within = within_after;
        }
      where
        at_most : (a b : ℕ) → a ≤ 4 * n → nat_le b 4 ≡ true → length all ≡ a + b → length all ≤ 4 * suc n
        at_most a b low high e = grind (arith, nat_tests)

module _ (texts : List Text) where
  source_step : (n : ℕ) (s t : Sources) (place : Place) (d : Data) → AreRead n s → source_added texts s place d ≡ Ok t → AreRead (suc n) t
  source_step n s t place d h e =
      let name = bound (new_source_name s.names place d) _ t e in
      let all = bound (within member.Relations (relations_added texts s.relations) place d) _ t name.2 in
      let work = bound (source_work (scope_of texts s all.0) s.tables place d) _ t all.2 in
      let rs = member_read member.Relations (relations_added texts s.relations) place d all.0 all.1 in
      let r = relations_read texts s.relations (in_member place member.Relations) rs.0 all.0 rs.1 in
      let new = r.3.new in
      let some : nat_le 1 (length new) ≡ true = ap (λ k. nat_le 1 k) r.3.count ∙ r.1 in
      let few : nat_le (length new) 4 ≡ true = ap (λ k. nat_le k 4) r.3.count ∙ r.2 in
      let worked = λ (more : List Table). work_read (scope_of texts s all.0) (tables_of all.0 ++ more) (length all.0) (whole texts n s h all.0 new r.3.are some few r.3.each) s.tables place d work.0 (first_work texts n s h all.0 new r.3.are some few r.3.each more) work.1 in
      let same : with_source (record s { relations = all.0 }) name.0 work.0 ≡ t = cc in
      subst (AreRead (suc n)) same (source_kept texts n s h all.0 new r.3.are some few r.3.each name.0 work.0 worked)

  none_read : AreRead 0 no_sources
  none_read = record {
    names = refl;
    homes = refl;
    tables = refl;
    few = omega arith;
    below = refl;
    each = refl;
    relations = tt;
    good = tt;
    lists = refl;
    own = λ hs. tt;
    valid = λ more. tt;
    within = λ more. refl;
  }

  pub sources_read : (place : Place) (d : Data) (s : Sources) → sources_in texts place d ≡ Ok s → (n : ℕ) × (nat_le 1 n ≡ true) × (nat_le n 8 ≡ true) × AreRead n s
  sources_read place d s e = list_read (source_added texts) AreRead source_step 1 8 place no_sources s d none_read e
