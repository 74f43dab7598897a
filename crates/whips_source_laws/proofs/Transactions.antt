-- Transactions that were read, written canonically, are read again as the same, and have the same texts.
--
-- `transactions_written` is the theorem, `transaction_written` that of one of them. An update is written as the very data that it was read from
-- (`update_written`), and so is a list of `all` and other than one update; a list of one is written as that update, which is read elsewhere
-- as the same (`entry_of_update`).
use Rattle.std.proofs.Common.{◌≡◌, ℕ, suc, ◌+◌, true, codes, List, [], ◌∷◌, ◌++◌, length, map, Option, Some, None, Ok, refl, sym, ap, ap₂, subst, ◌∙◌, append_assoc, append-nil}
use Rattle.std.specs.Prelude.{fold}
use Rattle.std.specs.List.{AllByRecursion}
use Rattle.std.proofs.lemmas.List.{length-map}
use Rattle.std.proofs.lemmas.Slice.Eq.{bytes_eq-Decides}
use Rattle.serde_json.specs.Data.{Data, string}
use Rattle.serde_json.specs.Find.{as_str}
use Rattle.whips_model.specs.Tuples.{Columns}
use Rattle.whips_states.specs.States.{Updates}
use Rattle.whips_facts.specs.Scripts.{Labels}
use Rattle.whips_reading.specs.declared.place.Code.TheVariants.{Shape}
use Rattle.whips_reading.specs.Json.{Text, is_same_text, is_text}
use Rattle.whips_reading.specs.Places.{Place, in_element}
use Rattle.whips_reading.specs.Reading.{◌>>=◌, elements_of, listed, elements, triple, in_turn}
use Rattle.whips_texts.specs.Dictionary.{with_update_of, with_update as update_texts, with_transaction_of, with_transaction as transaction_texts, with_transactions as transactions_texts}
use Rattle.whips_relation_reading.specs.Relations.{RelationForm}
use Rattle.whips_update_reading.specs.Updates.{Scope, Work, update_from, update_added, all_added, entry_from, entry_added, with_transaction, transaction_added, transactions_added}
use Rattle.whips_script_laws.proofs.Parts.{bound, tested}
use Rattle.whips_script_writing.specs.Objects.{list_data}
use Rattle.whips_script_writing.specs.Relations.{update_data, all_data, transaction_data}
use Rattle.whips_canonical_laws.specs.Known.{OfEach, KnowsValues, KnowsUpdate, KnowsUpdates, KnowsTransaction}
use Rattle.whips_canonical_laws.proofs.Lists.{same_value, text_is, listed_is, listed_written, elements_listed, triple_listed}
use Rattle.whips_source_laws.proofs.Elsewhere.{listed_elsewhere, update_elsewhere, entry_elsewhere}
use Rattle.whips_source_laws.proofs.Updates.{columns_of, columns_kept, Stands, scope_at, update_written}
use Rattle.whips_source_laws.proofs.Lists.{elements_are, elements_again, each_texts}

same_text : (t : Text) (d : Data) → is_text t d ≡ true → string t ≡ d
same_text t d e = go (as_str d) refl e
  where
    go : (o : Option Text) → as_str d ≡ o → is_same_text t o ≡ true → string t ≡ d
    go None f g = absurd (cc)
    go (Some s) f g = ap string (sym ((bytes_eq-Decides s t).0 g)) ∙ text_is d s f

-- ---- an update as a transaction

module _ (scope : Scope) (s w : Work) (p : Place) (d : Data) (e : update_added scope s p d ≡ Ok w) where
  entry_of_update : (q : Place) → entry_added scope s q d ≡ Ok w
  entry_of_update q =
      let x = bound (triple p d) (update_from scope s p) w e in
      let three = triple_listed p d x.0.0 x.0.1 x.0.2 x.1 in
      ap (λ r. r >>= entry_from scope s q d) (listed_elsewhere p q d (x.0.0 ∷ x.0.1 ∷ x.0.2 ∷ []) three) ∙ update_elsewhere scope s w p q d e

  texts_of_update : (texts : List Text) → transaction_texts texts d ≡ update_texts texts d
  texts_of_update texts =
      let x = bound (triple p d) (update_from scope s p) w e in
      let is = listed_is p d (x.0.0 ∷ x.0.1 ∷ x.0.2 ∷ []) (triple_listed p d x.0.0 x.0.1 x.0.2 x.1) in
      ap (with_transaction_of texts) is ∙ sym (ap (with_update_of texts) is)

module _ (l : Labels) (first : ℕ) (own relations : List RelationForm) (columns : List Columns) (stands : Stands first own relations columns) where
  abbrev scope : Scope
  scope = scope_at l first own

  abbrev HasColumns : Work → Type 0
  HasColumns work = columns_of work.tables ≡ columns

  -- ---- updates one after another

  updates_written : (place : Place) (i : ℕ) (s t : Work) (ds : List Data) → AllByRecursion (KnowsUpdate l.texts) ds → HasColumns s → in_turn (update_added scope) place i s ds ≡ Ok t
      → (us : Updates) × (t.made ≡ s.made ++ us) × (t.transactions ≡ s.transactions) × HasColumns t × (map (update_data l relations) us ≡ ds)
  updates_written place i s t [] known are e =
      let same : s ≡ t = same_value s t e in
      ([], ap (λ (w : Work). w.made) (sym same) ∙ sym (append-nil s.made), ap (λ (w : Work). w.transactions) (sym same), subst HasColumns same are, refl)
  updates_written place i s t (d ∷ ds) known are e =
      let b = bound (update_added scope s (in_element place i) d) (λ w. in_turn (update_added scope) place (i + 1) w ds) t e in
      let u = update_written l first own relations columns stands s b.0 (in_element place i) d known.0 are b.1 in
      let kept : HasColumns b.0 = ap (λ (w : Work). columns_of w.tables) u.1 ∙ columns_kept s.tables u.0 ∙ are in
      let rest = updates_written place (i + 1) b.0 t ds known.1 kept b.2 in (
        u.0 ∷ rest.0,
        rest.1 ∙ ap (λ (w : Work). w.made ++ rest.0) u.1 ∙ append_assoc s.made (u.0 ∷ []) rest.0,
        rest.2 ∙ ap (λ (w : Work). w.transactions) u.1,
        rest.3,
        ap₂ (λ x xs. x ∷ xs) u.2 rest.4,
      )

  -- ---- the updates of a transaction

  -- what was read of the data is read again of what it is written as, which has the same texts
  abbrev IsAgain : (s w : Work) → Data → Updates → Type 0
  IsAgain s w d us = ((q : Place) → entry_added scope s q (transaction_data l relations us) ≡ Ok w) × ((texts : List Text) → transaction_texts texts (transaction_data l relations us) ≡ transaction_texts texts d)

  record IsEntry (s w : Work) (d : Data) : Type 0 where
    updates : Updates
    made : w.made ≡ s.made ++ updates
    transactions : w.transactions ≡ s.transactions
    columns_are : HasColumns w
    is_again : IsAgain s w d updates

  one_written : (s w : Work) (p : Place) (d : Data) → KnowsUpdate l.texts d → HasColumns s → update_added scope s p d ≡ Ok w → IsEntry s w d
  one_written s w p d known are e =
      let u = update_written l first own relations columns stands s w p d known are e in
      record {
        updates = u.0 ∷ [];
        made = ap (λ (x : Work). x.made) u.1;
        transactions = ap (λ (x : Work). x.transactions) u.1;
        columns_are = ap (λ (x : Work). columns_of x.tables) u.1 ∙ columns_kept s.tables u.0 ∙ are;
        is_again = (λ q. ap (entry_added scope s q) u.2 ∙ entry_of_update scope s w p d e q, λ texts. ap (transaction_texts texts) u.2);
      }

  -- a list of `all` and a list of these updates
  module _ (s w : Work) (p : Place) (d word list : Data) (two : listed p d ≡ Ok (word ∷ list ∷ [])) (entry : entry_added scope s p d ≡ Ok w) where
    updates_again : (es : List Data) (us : Updates) → elements_of list ≡ Some es → in_turn (update_added scope) (in_element p 1) 0 s es ≡ Ok w → map (update_data l relations) us ≡ es → all_data l relations us ≡ d → IsAgain s w d us
    updates_again es [] is e same all = (λ q. ap (entry_added scope s q) all ∙ entry_elsewhere scope s w p q d entry, λ texts. ap (transaction_texts texts) all)
    updates_again es (u ∷ []) is e same all =
        let q1 = in_element (in_element p 1) 0 in
        let du = update_data l relations u in
        let b = bound (update_added scope s q1 du) (λ x. Ok x) w (ap (in_turn (update_added scope) (in_element p 1) 0 s) same ∙ e) in
        let one : update_added scope s q1 du ≡ Ok w = b.1 ∙ b.2 in (
          entry_of_update scope s w q1 du one,
          λ texts. texts_of_update scope s w q1 du one texts ∙ sym (ap (with_transaction_of texts) (listed_is p d (word ∷ list ∷ []) two) ∙ each_texts update_texts texts list es is ∙ ap (fold update_texts texts) (sym same)),
        )
    updates_again es (u ∷ v ∷ us) is e same all = (λ q. ap (entry_added scope s q) all ∙ entry_elsewhere scope s w p q d entry, λ texts. ap (transaction_texts texts) all)

    all_written : OfEach (KnowsUpdate l.texts) list → HasColumns s → all_added scope s p word list ≡ Ok w → IsEntry s w d
    all_written known are e =
        let c = tested (is_text (codes "all") word) Shape p _ w e in
        let b = bound (elements 1 16 (in_element p 1) list) (in_turn (update_added scope) (in_element p 1) 0 s) w c.1 in
        let es = elements_listed 1 16 (in_element p 1) list b.0 b.1 in
        let is = listed_is (in_element p 1) list b.0 es in
        let m = updates_written (in_element p 1) 0 s w b.0 (known b.0 is) are b.2 in
        let list_is : list_data (map (update_data l relations) m.0) ≡ list = ap list_data m.4 ∙ listed_written (in_element p 1) list b.0 es in
        let all : all_data l relations m.0 ≡ d = ap₂ (λ x y. list_data (x ∷ y ∷ [])) (same_text (codes "all") word c.0) list_is ∙ listed_written p d (word ∷ list ∷ []) two in
        record { updates = m.0; made = m.1; transactions = m.2; columns_are = m.3; is_again = updates_again b.0 m.0 is b.2 m.4 all }

  entry_written : (s w : Work) (p : Place) (d : Data) → KnowsTransaction l.texts d → HasColumns s → entry_added scope s p d ≡ Ok w → IsEntry s w d
  entry_written s w p d known are e =
      let b = bound (listed p d) (entry_from scope s p d) w e in
      go b.0 b.1 (subst (KnowsUpdates l.texts) (listed_is p d b.0 b.1) known) b.2
    where
      one : (ds : List Data) → listed p d ≡ Ok ds → KnowsValues l.texts (Some ds) → update_added scope s p d ≡ Ok w → IsEntry s w d
      one ds is knows f = one_written s w p d (subst (KnowsValues l.texts) (sym (listed_is p d ds is)) knows) are f

      go : (ds : List Data) → listed p d ≡ Ok ds → KnowsUpdates l.texts (Some ds) → entry_from scope s p d ds ≡ Ok w → IsEntry s w d
      go [] is knows f = one [] is knows f
      go (x ∷ []) is knows f = one (x ∷ []) is knows f
      go (x ∷ y ∷ []) is knows f = all_written s w p d x y is e knows are f
      go (x ∷ y ∷ z ∷ ds) is knows f = one (x ∷ y ∷ z ∷ ds) is knows f

  -- ---- one transaction

  -- one more transaction that was read, and is read again of what it is written as
  pub record IsTransaction (s t : Work) (d : Data) : Type 0 where
    pub updates : Updates
    pub transactions : t.transactions ≡ s.transactions ++ updates ∷ []
    pub made : t.made ≡ []
    pub columns_are : HasColumns t
    pub again : (q : Place) → transaction_added scope s q (transaction_data l relations updates) ≡ Ok t
    pub texts_stay : (texts : List Text) → transaction_texts texts (transaction_data l relations updates) ≡ transaction_texts texts d

  pub transaction_written : (s t : Work) (p : Place) (d : Data) → KnowsTransaction l.texts d → s.made ≡ [] → HasColumns s → transaction_added scope s p d ≡ Ok t → IsTransaction s t d
  transaction_written s t p d known none are e =
      let b = bound (entry_added scope s p d) (λ w. Ok (with_transaction w)) t e in
      let x = entry_written s b.0 p d known are b.1 in
      let same : with_transaction b.0 ≡ t = same_value _ _ b.2 in
      record {
        updates = x.updates;
        transactions = ap (λ (w : Work). w.transactions) (sym same) ∙ ap₂ (λ ts us. ts ++ us ∷ []) x.transactions (x.made ∙ ap (λ us. us ++ x.updates) none);
        made = ap (λ (w : Work). w.made) (sym same);
        columns_are = ap (λ (w : Work). columns_of w.tables) (sym same) ∙ x.columns_are;
        again = λ q. ap (λ r. r >>= λ w. Ok (with_transaction w)) (x.is_again.0 q) ∙ b.2;
        texts_stay = x.is_again.1;
      }

  -- ---- all transactions of a source

  record InTurn (s t : Work) (ds : List Data) : Type 0 where
    list : List Updates
    transactions : t.transactions ≡ s.transactions ++ list
    columns_are : HasColumns t
    count : length list ≡ length ds
    again : (q : Place) (i : ℕ) → in_turn (transaction_added scope) q i s (map (transaction_data l relations) list) ≡ Ok t
    texts_stay : (texts : List Text) → fold transaction_texts texts (map (transaction_data l relations) list) ≡ fold transaction_texts texts ds

  all_in_turn : (p : Place) (i : ℕ) (s t : Work) (ds : List Data) → AllByRecursion (KnowsTransaction l.texts) ds → s.made ≡ [] → HasColumns s → in_turn (transaction_added scope) p i s ds ≡ Ok t → InTurn s t ds
  all_in_turn p i s t [] known none are e =
      let same : s ≡ t = same_value s t e in
      record { list = []; transactions = ap (λ (w : Work). w.transactions) (sym same) ∙ sym (append-nil s.transactions); columns_are = subst HasColumns same are; count = refl; again = λ q j. e; texts_stay = λ texts. refl }
  all_in_turn p i s t (d ∷ ds) known none are e =
      let b = bound (transaction_added scope s (in_element p i) d) (λ w. in_turn (transaction_added scope) p (i + 1) w ds) t e in
      let one = transaction_written s b.0 (in_element p i) d known.0 none are b.1 in
      let rest = all_in_turn p (i + 1) b.0 t ds known.1 one.made one.columns_are b.2 in
      let later = map (transaction_data l relations) rest.list in
      record {
        list = one.updates ∷ rest.list;
        transactions = rest.transactions ∙ ap (λ ts. ts ++ rest.list) one.transactions ∙ append_assoc s.transactions (one.updates ∷ []) rest.list;
        columns_are = rest.columns_are;
        count = ap suc rest.count;
        again = λ q j. ap (λ r. r >>= λ w. in_turn (transaction_added scope) q (j + 1) w later) (one.again (in_element q j)) ∙ rest.again q (j + 1);
        texts_stay = λ texts. ap (λ ts. fold transaction_texts ts later) (one.texts_stay texts) ∙ rest.texts_stay (transaction_texts texts d);
      }

  -- the transactions that were read are read again of what they are written as
  pub record AreTransactions (s t : Work) (d : Data) : Type 0 where
    pub list : List Updates
    pub transactions : t.transactions ≡ s.transactions ++ list
    pub columns_are : HasColumns t
    pub again : (q : Place) → transactions_added scope s q (list_data (map (transaction_data l relations) list)) ≡ Ok t
    pub texts_stay : (texts : List Text) → transactions_texts texts (list_data (map (transaction_data l relations) list)) ≡ transactions_texts texts d

  pub transactions_written : (s t : Work) (p : Place) (d : Data) → OfEach (KnowsTransaction l.texts) d → s.made ≡ [] → HasColumns s → transactions_added scope s p d ≡ Ok t → AreTransactions s t d
  transactions_written s t p d known none are e =
      let b = bound (elements 0 4096 p d) (in_turn (transaction_added scope) p 0 s) t e in
      let is = listed_is p d b.0 (elements_listed 0 4096 p d b.0 b.1) in
      let x = all_in_turn p 0 s t b.0 (known b.0 is) none are b.2 in
      let es = map (transaction_data l relations) x.list in
      record {
        list = x.list;
        transactions = x.transactions;
        columns_are = x.columns_are;
        again = λ q. ap (λ r. r >>= in_turn (transaction_added scope) q 0 s) (elements_again 0 4096 p q d b.0 es b.1 (length-map x.list (transaction_data l relations) ∙ x.count)) ∙ x.again q 0;
        texts_stay = λ texts. each_texts transaction_texts texts (list_data es) es (elements_are es) ∙ x.texts_stay texts ∙ sym (each_texts transaction_texts texts d b.0 is);
      }
