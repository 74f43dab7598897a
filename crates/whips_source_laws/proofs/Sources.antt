-- The sources of a script that were read, written canonically, are read again as the same, and have the same texts.
--
-- `sources_again` and `sources_texts_stay` are the laws. One source is written with the relations and the transactions that were read of it
-- (`source_again`); among those of all sources they are found by its number (`relations_between`, `index_last`), since those of the sources
-- before it stand before them, and those of the sources behind it behind them (`all_in_turn`).
use Rattle.std.proofs.Common.{◌≡◌, ℕ, zero, suc, ◌+◌, ◌<◌, ◌≤◌, ◌==◌, false, List, [], ◌∷◌, ◌++◌, length, replicate, slice_index_or, Ok, refl, sym, ap, ap₂, ◌∙◌, arith, append_assoc, append-nil}
use Rattle.std.specs.Prelude.{fold}
use Rattle.std.specs.List.{AllByRecursion}
use Rattle.serde_json.specs.Data.{Data}
use Rattle.whips_lists.specs.Lists.{map_with_place}
use Rattle.whips_lists.proofs.Lists.{length_map_at}
use Rattle.whips_states.specs.States.{Updates}
use Rattle.whips_facts.specs.Scripts.{Labels}
use Rattle.whips_reading.specs.Json.{Text}
use Rattle.whips_reading.specs.Places.{Place, in_element}
use Rattle.whips_reading.specs.Reading.{◌>>=◌, elements, in_turn}
use Rattle.whips_texts.specs.Dictionary.{with_source as source_texts, with_sources}
use Rattle.whips_relation_reading.specs.Relations.{RelationForm}
use Rattle.whips_update_reading.specs.Sources.{Sources, no_sources, source_added, sources_in}
use Rattle.whips_script_laws.proofs.Parts.{bound}
use Rattle.whips_script_laws.proofs.Appended.{each_append}
use Rattle.whips_script_laws.proofs.Sourced.{each_so}
use Rattle.whips_script_writing.specs.Objects.{list_data}
use Rattle.whips_script_writing.specs.Relations.{relations_of, source_data}
use Rattle.whips_canonical_laws.specs.Known.{OfEach, KnowsSource}
use Rattle.whips_canonical_laws.proofs.Lists.{same_value, listed_is, elements_listed}
use Rattle.whips_text_laws.specs.Laws.{RelationTextsStay}
use Rattle.whips_source_laws.specs.Laws.{source_at, sources_data, TextsOfSourcesStay}
use Rattle.whips_source_laws.proofs.Lists.{elements_are, elements_again, each_texts}
use Rattle.whips_source_laws.proofs.Owned.{index_last, differs, relations_between}
use Rattle.whips_source_laws.proofs.Source.{AreSound, none_sound, source_again}

-- ---- one source after another

copies_from : (m n : ℕ) → AllByRecursion (λ home. n ≤ home) (replicate m n)
copies_from zero n = tt
copies_from (suc m) n = (omega arith, copies_from m n)

module _ (l : Labels) (place : Place) where
  -- the sources that were read behind s are read again of what they are written as
  record InTurn (i n : ℕ) (s t : Sources) (ds : List Data) : Type 0 where
    names : List Text
    relations : List RelationForm
    homes : List ℕ
    lists : List (List Updates)
    names_are : t.names ≡ s.names ++ names
    relations_are : t.relations ≡ s.relations ++ relations
    homes_are : t.homes ≡ s.homes ++ homes
    lists_are : t.transactions ≡ s.transactions ++ lists
    later : AllByRecursion (λ home. n ≤ home) homes
    count : length names ≡ length ds
    again : in_turn (source_added l.texts) place i s (map_with_place (source_at l t) n names) ≡ Ok t
    texts_stay : RelationTextsStay → (texts : List Text) → fold source_texts texts (map_with_place (source_at l t) n names) ≡ fold source_texts texts ds

  all_in_turn : (i n : ℕ) (s t : Sources) (ds : List Data) → AreSound n s → AllByRecursion (KnowsSource l.texts) ds → in_turn (source_added l.texts) place i s ds ≡ Ok t → InTurn i n s t ds
  all_in_turn i n s t [] sound known e =
      let same : t ≡ s = sym (same_value s t e) in
      record {
        names = [];
        relations = [];
        homes = [];
        lists = [];
        names_are = ap (λ (x : Sources). x.names) same ∙ sym (append-nil s.names);
        relations_are = ap (λ (x : Sources). x.relations) same ∙ sym (append-nil s.relations);
        homes_are = ap (λ (x : Sources). x.homes) same ∙ sym (append-nil s.homes);
        lists_are = ap (λ (x : Sources). x.transactions) same ∙ sym (append-nil s.transactions);
        later = tt;
        count = refl;
        again = e;
        texts_stay = λ stays texts. refl;
      }
  all_in_turn i n s t (d ∷ ds) sound known e =
      let q = in_element place i in
      let b = bound (source_added l.texts s q d) (λ x. in_turn (source_added l.texts) place (i + 1) x ds) t e in
      let next = (source_again l n s sound q b.0.relations [] b.0 d known.0 (sym (append-nil b.0.relations)) b.1).is_sound in
      let rest = all_in_turn (i + 1) (suc n) b.0 t ds next known.1 b.2 in
      let one = source_again l n s sound q t.relations rest.relations b.0 d known.0 rest.relations_are b.1 in
      let before = each_so (λ home. home < n) (λ home. (home == n) ≡ false) (λ home lt. (differs home n lt).0) s.homes sound.below in
      let behind = each_so (λ home. suc n ≤ home) (λ home. (home == n) ≡ false) (λ home lt. (differs n home lt).1) rest.homes rest.later in
      let own : relations_of n t.homes t.relations ≡ one.new =
      ap₂ (relations_of n) (rest.homes_are ∙ ap (λ hs. hs ++ rest.homes) one.homes) (rest.relations_are ∙ ap (λ rs. rs ++ rest.relations) one.relations_are)
      ∙ relations_between n s.homes rest.homes s.relations one.new rest.relations before behind sound.homes
      in
      let list : slice_index_or t.transactions n [] ≡ one.list =
      ap₂ (λ ts k. slice_index_or ts k []) (rest.lists_are ∙ ap (λ ts. ts ++ rest.lists) one.lists) (sym sound.lists) ∙ index_last s.transactions rest.lists one.list []
      in
      let is : source_at l t n one.name ≡ source_data l t.relations one.new one.name one.list = ap₂ (λ rs ts. source_data l t.relations rs one.name ts) own list in
      let behind_data = map_with_place (source_at l t) (suc n) rest.names in
      record {
        names = one.name ∷ rest.names;
        relations = one.new ++ rest.relations;
        homes = replicate (length one.new) n ++ rest.homes;
        lists = one.list ∷ rest.lists;
        names_are = rest.names_are ∙ ap (λ xs. xs ++ rest.names) one.names ∙ append_assoc s.names (one.name ∷ []) rest.names;
        relations_are = rest.relations_are ∙ ap (λ xs. xs ++ rest.relations) one.relations_are ∙ append_assoc s.relations one.new rest.relations;
        homes_are = rest.homes_are ∙ ap (λ xs. xs ++ rest.homes) one.homes ∙ append_assoc s.homes (replicate (length one.new) n) rest.homes;
        lists_are = rest.lists_are ∙ ap (λ xs. xs ++ rest.lists) one.lists ∙ append_assoc s.transactions (one.list ∷ []) rest.lists;
        later = each_append (λ home. n ≤ home) (replicate (length one.new) n) rest.homes (copies_from (length one.new) n) (each_so (λ home. suc n ≤ home) (λ home. n ≤ home) (λ home le. omega (arith, le)) rest.homes rest.later);
        count = ap suc rest.count;
        again = ap (λ r. r >>= λ x. in_turn (source_added l.texts) place (i + 1) x behind_data) (ap (source_added l.texts s q) is ∙ one.again) ∙ rest.again;
        texts_stay = λ stays texts. ap (λ ts. fold source_texts ts behind_data) (ap (source_texts texts) is ∙ one.texts_stay stays texts) ∙ rest.texts_stay stays (source_texts texts d);
      }

-- ---- all sources

-- the data of sources with these names
abbrev written : Labels → Sources → List Text → List Data
written l sources names = map_with_place (source_at l sources) 0 names

module _ (l : Labels) (place : Place) (d : Data) (sources : Sources) (known : OfEach (KnowsSource l.texts) d) (e : sources_in l.texts place d ≡ Ok sources) where
  record AreWritten : Type 0 where
    read : List Data
    were_read : elements 1 8 place d ≡ Ok read
    in_order : InTurn l place 0 0 no_sources sources read

  all_written : AreWritten
  all_written =
      let b = bound (elements 1 8 place d) (in_turn (source_added l.texts) place 0 no_sources) sources e in
      record { read = b.0; were_read = b.1; in_order = all_in_turn l place 0 0 no_sources sources b.0 none_sound (known b.0 (listed_is place d b.0 (elements_listed 1 8 place d b.0 b.1))) b.2 }

  pub sources_again : sources_in l.texts place (sources_data l sources) ≡ Ok sources
  sources_again =
      let w = all_written in
      let x = w.in_order in
      let es = written l sources x.names in
      ap (λ names. sources_in l.texts place (list_data (written l sources names))) x.names_are
      ∙ ap (λ r. r >>= in_turn (source_added l.texts) place 0 no_sources) (elements_again 1 8 place place d w.read es w.were_read (length_map_at (source_at l sources) 0 x.names ∙ x.count))
      ∙ x.again

module _ (relation_stays : RelationTextsStay) where
  pub sources_texts_stay : TextsOfSourcesStay
  sources_texts_stay l place d sources known e texts =
      let w = all_written l place d sources known e in
      let x = w.in_order in
      let es = written l sources x.names in
      ap (λ names. with_sources texts (list_data (written l sources names))) x.names_are
      ∙ each_texts source_texts texts (list_data es) es (elements_are es)
      ∙ x.texts_stay relation_stays texts
      ∙ sym (each_texts source_texts texts d w.read (listed_is place d w.read (elements_listed 1 8 place d w.read w.were_read)))
