-- One source of a script that was read, written canonically, is read again as the same, and has the same texts.
--
-- `source_again` is the theorem. Its name, its relations and its transactions are read again one after another (`members_again`): the relations
-- by `relations_again`, and the transactions by `transactions_written`, since the source's own relations stand last among those so far, and so
-- at the same numbers among all relations (`stands_so`), with the columns that they have when its updates begin (`begins_so`).
use Rattle.std.proofs.Common.{◌≡◌, ℕ, zero, suc, ◌+◌, ◌-◌, ◌<◌, List, [], ◌∷◌, ◌++◌, length, map, drop, replicate, slice_get, Option, Some, None, Ok, refl, sym, ap, ap₂, subst, ◌∙◌, arith, append-nil, length-append}
use Rattle.std.specs.List.{AllByRecursion}
use Rattle.std.proofs.Math.Seq.{drop-append_seam}
use Rattle.std.proofs.lemmas.List.{length-replicate, map-append}
use Rattle.serde_json.specs.Data.{Data, string}
use Rattle.serde_json.specs.Find.{get}
use Rattle.whips_lists.proofs.ByPlace.{get_mapped}
use Rattle.whips_model.specs.Relation.{Table}
use Rattle.whips_states.specs.States.{Updates}
use Rattle.whips_facts.specs.Scripts.{Labels}
use Rattle.whips_reading.specs.declared.json.ObjectForm.TheVariants.{Source}
use Rattle.whips_reading.specs.declared.place.Code.TheVariants.{Shape}
use Rattle.whips_reading.specs.declared.place.Member.{Member}
use Rattle.whips_reading.specs.declared.place.Member.TheVariants as member
use Rattle.whips_reading.specs.Json.{Text, is_object_of}
use Rattle.whips_reading.specs.Members.{is_member_of}
use Rattle.whips_reading.specs.Names.{fresh_name}
use Rattle.whips_reading.specs.Places.{Place, member_name, in_member}
use Rattle.whips_reading.specs.Reading.{Read, ◌>>=◌, required, within, read_or}
use Rattle.whips_texts.specs.Dictionary.{with_found, with_relations, with_transactions, with_source_relations, with_source as source_texts}
use Rattle.whips_relation_reading.specs.Relations.{RelationForm, relations_added}
use Rattle.whips_update_reading.specs.Updates.{Scope, Work, transactions_added}
use Rattle.whips_update_reading.specs.Sources.{Sources, no_sources, new_source_name, scope_of, begun, source_work, with_source, source_added}
use Rattle.whips_script_reading.specs.Views.{schemas_of}
use Rattle.whips_script_laws.proofs.Parts.{bound, tested, there_is, member_read}
use Rattle.whips_script_laws.proofs.Appended.{one_longer, each_append}
use Rattle.whips_script_laws.proofs.Sourced.{each_so}
use Rattle.whips_script_writing.specs.Objects.{list_data, object_data}
use Rattle.whips_script_writing.specs.Relations.{relation_data, transaction_data, source_data}
use Rattle.whips_canonical_laws.specs.Known.{OfEach, KnowsTransaction, KnowsSource}
use Rattle.whips_canonical_laws.proofs.Lists.{same_value}
use Rattle.whips_canonical_laws.proofs.Values.{fresh_written}
use Rattle.whips_text_laws.specs.Laws.{RelationTextsStay}
use Rattle.whips_source_laws.proofs.Updates.{columns_of, Stands}
use Rattle.whips_source_laws.proofs.Transactions.{transactions_written}
use Rattle.whips_source_laws.proofs.Relations.{relations_again}
use Rattle.whips_source_laws.proofs.Owned.{get_dropped}

member_found : {A : Type 0} (m : Member) (reading : Place → Data → Read A) (place : Place) (d : Data) (a : A) → within m reading place d ≡ Ok a → (e : Data) × (get (member_name m) d ≡ Some e) × (reading (in_member place m) e ≡ Ok a)
member_found m reading place d a e = let b = bound (required m place d) (reading (in_member place m)) a e in (b.0, there_is (get (member_name m) d) Shape (in_member place m) b.0 b.1, b.2)

columns_of_forms : (relations : List RelationForm) → columns_of (map (λ r. r.table) relations) ≡ schemas_of relations
columns_of_forms [] = refl
columns_of_forms (r ∷ relations) = ap (λ cs. r.table.columns ∷ cs) (columns_of_forms relations)

copies_below : (m n : ℕ) → AllByRecursion (λ home. home < suc n) (replicate m n)
copies_below zero n = tt
copies_below (suc m) n = (omega arith, copies_below m n)

-- what n sources that were read keep
pub record AreSound (n : ℕ) (s : Sources) : Type 0 where
  pub names : length s.names ≡ n
  pub homes : length s.homes ≡ length s.relations
  pub lists : length s.transactions ≡ n
  pub below : AllByRecursion (λ home. home < n) s.homes
  pub columns : columns_of s.tables ≡ schemas_of s.relations

pub none_sound : AreSound 0 no_sources
none_sound = record { names = refl; homes = refl; lists = refl; below = tt; columns = refl }

-- ---- one source

module _ (l : Labels) (n : ℕ) (s : Sources) (sound : AreSound n s) (place : Place) where
  abbrev finished : Text → List RelationForm → Work → Sources
  finished name all work = with_source (record s { relations = all }) name work

  abbrev scope : List RelationForm → Scope
  scope all = scope_of l.texts s all

  abbrev first_work : List RelationForm → Work
  first_work all = begun (scope all) s.tables

  abbrev with_updates : Text → Data → List RelationForm → Read Sources
  with_updates name du all = transactions_added (scope all) (first_work all) (in_member place member.Updates) du >>= λ w. Ok (finished name all w)

  -- the members of the source that is written are read one after another
  members_again : (name : Text) (all : List RelationForm) (work : Work) (dr du : Data)
      → fresh_name s.names (in_member place member.Name) (string name) ≡ Ok name
      → relations_added l.texts s.relations (in_member place member.Relations) dr ≡ Ok all
      → transactions_added (scope all) (first_work all) (in_member place member.Updates) du ≡ Ok work
      → source_added l.texts s place (object_data ((member.Name, string name) ∷ (member.Relations, dr) ∷ (member.Updates, du) ∷ [])) ≡ Ok (finished name all work)
  members_again name all work dr du is_name are_relations are_updates =
      ap (λ (x : Read Text). x >>= λ y. relations_added l.texts s.relations (in_member place member.Relations) dr >>= with_updates y du) is_name
      ∙ ap (λ (x : Read (List RelationForm)). x >>= with_updates name du) are_relations
      ∙ ap (λ (x : Read Work). x >>= λ w. Ok (finished name all w)) are_updates

  -- the transactions that were read of what there is, or none
  record IsWorked (all relations : List RelationForm) (o : Option Data) (work : Work) : Type 0 where
    list : List Updates
    transactions : work.transactions ≡ list
    columns : columns_of work.tables ≡ schemas_of all
    again : transactions_added (scope all) (first_work all) (in_member place member.Updates) (list_data (map (transaction_data l relations) list)) ≡ Ok work
    texts_stay : (texts : List Text) → with_transactions texts (list_data (map (transaction_data l relations) list)) ≡ with_found with_transactions texts o

  module _ (all relations : List RelationForm) (stands : Stands (length s.relations) (drop (length s.relations) all) relations (schemas_of all)) (begins : columns_of (first_work all).tables ≡ schemas_of all) (work : Work) where
    worked : (o : Option Data) → ((e : Data) → o ≡ Some e → OfEach (KnowsTransaction l.texts) e) → read_or (first_work all) (transactions_added (scope all) (first_work all) (in_member place member.Updates)) o ≡ Ok work → IsWorked all relations o work
    worked None known e =
        let same : first_work all ≡ work = same_value _ _ e in
        record { list = []; transactions = ap (λ (w : Work). w.transactions) (sym same); columns = ap (λ (w : Work). columns_of w.tables) (sym same) ∙ begins; again = ap Ok same; texts_stay = λ texts. refl }
    worked (Some du) known e =
        let x = transactions_written l (length s.relations) (drop (length s.relations) all) relations (schemas_of all) stands (first_work all) work (in_member place member.Updates) du (known du refl) refl begins e in
        record { list = x.list; transactions = x.transactions; columns = x.columns_are; again = x.again (in_member place member.Updates); texts_stay = x.texts_stay }

  module _ (all new : List RelationForm) (are : all ≡ s.relations ++ new) where
    begins_so : columns_of (first_work all).tables ≡ schemas_of all
    begins_so =
        ap (λ rs. columns_of (s.tables ++ map (λ (r : RelationForm). r.table) rs)) (ap (drop (length s.relations)) are ∙ drop-append_seam s.relations new)
        ∙ map-append (λ (t : Table). t.columns) s.tables (map (λ (r : RelationForm). r.table) new)
        ∙ ap₂ (λ a b. a ++ b) sound.columns (columns_of_forms new)
        ∙ sym (map-append (λ (r : RelationForm). r.table.columns) s.relations new)
        ∙ ap schemas_of (sym are)

    stands_so : (relations more : List RelationForm) → relations ≡ all ++ more → Stands (length s.relations) (drop (length s.relations) all) relations (schemas_of all)
    stands_so relations more whole = record {
      relation = λ r f e. ap (λ rs. slice_get rs (length s.relations + r)) whole ∙ get_dropped (length s.relations) all more r f e;
      column = λ r f e. get_mapped (λ (x : RelationForm). x.table.columns) (length s.relations + r) all f (ap (λ rs. slice_get rs (length s.relations + r)) (sym (append-nil all)) ∙ get_dropped (length s.relations) all [] r f e);
    }

    lengths : length all ≡ length s.relations + length new
    lengths = ap length are ∙ length-append s.relations new

    module _ (name : Text) (work : Work) (columns : columns_of work.tables ≡ schemas_of all) where
      copies : (finished name all work).homes ≡ s.homes ++ replicate (length new) n
      copies =
          let sum = lengths in
          let before = sound.homes in
          let count : length all - length s.homes ≡ length new = omega (arith, sum, before) in
          ap₂ (λ k m. s.homes ++ replicate k m) count sound.names

      finished_sound : AreSound (suc n) (finished name all work)
      finished_sound =
          let sum = lengths in
          let before = sound.homes in
          let size = length-append s.homes (replicate (length new) n) in
          let count = length-replicate (length new) n in
          record {
            names = one_longer s.names name n sound.names;
            homes = ap length copies ∙ (let z : length (s.homes ++ replicate (length new) n) ≡ length all = omega (arith, size, count, before, sum) in z);
            lists = one_longer s.transactions work.transactions n sound.lists;
            below = subst (AllByRecursion (λ home. home < suc n)) (sym copies) (each_append (λ home. home < suc n) s.homes (replicate (length new) n) (each_so (λ home. home < n) (λ home. home < suc n) (λ home lt. omega (arith, lt)) s.homes sound.below) (copies_below (length new) n));
            columns = columns;
          }

  -- one more source that was read, and is read again of what it is written as
  pub record IsSource (relations : List RelationForm) (t : Sources) (d : Data) : Type 0 where
    pub name : Text
    pub new : List RelationForm
    pub list : List Updates
    pub names : t.names ≡ s.names ++ name ∷ []
    pub relations_are : t.relations ≡ s.relations ++ new
    pub homes : t.homes ≡ s.homes ++ replicate (length new) n
    pub lists : t.transactions ≡ s.transactions ++ list ∷ []
    pub is_sound : AreSound (suc n) t
    pub again : source_added l.texts s place (source_data l relations new name list) ≡ Ok t
    pub texts_stay : RelationTextsStay → (texts : List Text) → source_texts texts (source_data l relations new name list) ≡ source_texts texts d

  pub source_again : (relations more : List RelationForm) (t : Sources) (d : Data) → KnowsSource l.texts d → relations ≡ t.relations ++ more → source_added l.texts s place d ≡ Ok t → IsSource relations t d
  source_again relations more t d known whole e =
      let name = bound (new_source_name s.names place d) _ t e in
      let o = tested (is_object_of (is_member_of Source) d) Shape place (within member.Name (fresh_name s.names) place d) name.0 name.1 in
      let dn = member_read member.Name (fresh_name s.names) place d name.0 o.1 in
      let all = bound (within member.Relations (relations_added l.texts s.relations) place d) _ t name.2 in
      let dr = member_found member.Relations (relations_added l.texts s.relations) place d all.0 all.1 in
      let work = bound (source_work (scope all.0) s.tables place d) _ t all.2 in
      let is : finished name.0 all.0 work.0 ≡ t = same_value _ _ work.2 in
      let r = relations_again l (in_member place member.Relations) s.relations all.0 dr.0 (known.0 dr.0 dr.1) dr.2 in
      let all_are : relations ≡ all.0 ++ more = whole ∙ ap (λ (x : Sources). x.relations ++ more) (sym is) in
      let u = worked all.0 relations (stands_so all.0 r.new r.are relations more all_are) (begins_so all.0 r.new r.are) work.0 (get (member_name member.Updates) d) known.1 work.1 in
      let du = list_data (map (transaction_data l relations) u.list) in
      let is_name : fresh_name s.names (in_member place member.Name) (string name.0) ≡ Ok name.0 = ap (fresh_name s.names (in_member place member.Name)) (fresh_written s.names (in_member place member.Name) dn.0 name.0 dn.1) ∙ dn.1 in
      record {
        name = name.0;
        new = r.new;
        list = u.list;
        names = ap (λ (x : Sources). x.names) (sym is);
        relations_are = ap (λ (x : Sources). x.relations) (sym is) ∙ r.are;
        homes = ap (λ (x : Sources). x.homes) (sym is) ∙ copies all.0 r.new r.are name.0 work.0 u.columns;
        lists = ap (λ (x : Sources). x.transactions) (sym is) ∙ ap (λ ts. s.transactions ++ ts ∷ []) u.transactions;
        is_sound = subst (AreSound (suc n)) is (finished_sound all.0 r.new r.are name.0 work.0 u.columns);
        again = members_again name.0 all.0 work.0 (list_data (map (relation_data l) r.new)) du is_name r.again u.again ∙ ap Ok is;
        texts_stay = λ stays texts. ap (λ ts. with_transactions ts du) (r.texts_stay stays texts ∙ sym (ap (with_found with_relations texts) dr.1)) ∙ u.texts_stay (with_source_relations texts d);
      }
