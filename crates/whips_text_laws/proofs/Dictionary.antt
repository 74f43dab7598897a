-- What each way to add the texts of a part keeps, and that what it adds is known.
--
-- `keeps_…`: where putting one text in keeps a fact of texts, so does each of these ways. `adds_…`: where what a way leaves is all among texts in order,
-- the part is known to these.
use Rattle.std.proofs.Common.{List, [], ◌∷◌, Option, Some, None, subst}
use Rattle.std.specs.Prelude.{fold}
use Rattle.std.specs.List.{AllByRecursion}
use Rattle.serde_json.specs.Data.{Data}
use Rattle.serde_json.specs.Find.{get, as_str}
use Rattle.whips_lists.specs.Members.{Has}
use Rattle.whips_reading.specs.declared.place.Member.{Member}
use Rattle.whips_reading.specs.declared.place.Member.TheVariants as member
use Rattle.whips_reading.specs.Json.{Text}
use Rattle.whips_reading.specs.Places.{member_name}
use Rattle.whips_reading.specs.Reading.{elements_of}
use Rattle.whips_texts.specs.Texts.{IsInOrder, with_text}
use Rattle.whips_texts.specs.Dictionary.{with_each_of, with_each, with_found, with_member, with_text_of, with_value, with_values, with_rows, with_relation, with_relations, with_update_of, with_update, with_updates, with_transaction_of, with_transaction, with_transactions, with_source_relations, with_source_updates, with_source, with_sources, with_condition_of, with_condition, with_conditions, with_view, with_views, with_document_sources, with_document_views}
use Rattle.whips_canonical_laws.specs.Known.{OfEach, OfMember, Knows, KnowsEach, KnowsRows, KnowsRelation, KnowsValues, KnowsUpdate, KnowsUpdates, KnowsTransaction, KnowsSource, KnowsThird, KnowsConditions, KnowsView}
use Rattle.whips_text_laws.proofs.Commuting.{Adding}
use Rattle.whips_text_laws.proofs.Ranked.{text_put, text_kept, text_ranked}

-- ---- what is kept

abbrev pub Keeps : (List Text → Type 0) → Adding → Type 0
Keeps I f = (s : List Text) (d : Data) → I s → I (f s d)

module _ (I : List Text → Type 0) where
  module _ (f : Adding) (keeps : Keeps I f) where
    pub keeps_folded : (ds : List Data) (s : List Text) → I s → I (fold f s ds)
    keeps_folded [] s h = h
    keeps_folded (d ∷ ds) s h = keeps_folded ds (f s d) (keeps s d h)

    pub keeps_each : Keeps I (with_each f)
    keeps_each s d h = go (elements_of d)
      where
        go : (o : Option (List Data)) → I (with_each_of f s o)
        go None = h
        go (Some ds) = keeps_folded ds s h

    pub keeps_member : (m : Member) → Keeps I (with_member m f)
    keeps_member m s d h = go (get (member_name m) d)
      where
        go : (o : Option Data) → I (with_found f s o)
        go None = h
        go (Some e) = keeps s e h

  module _ (put : (t : Text) (s : List Text) → I s → I (with_text s t)) where
    pub keeps_value : Keeps I with_value
    keeps_value s d h = go (as_str d)
      where
        go : (o : Option Text) → I (with_text_of s o)
        go None = h
        go (Some t) = put t s h

    pub keeps_values : Keeps I with_values
    keeps_values = keeps_each with_value keeps_value

    pub keeps_rows : Keeps I with_rows
    keeps_rows = keeps_each with_values keeps_values

    pub keeps_relation : Keeps I with_relation
    keeps_relation = keeps_member with_rows keeps_rows member.Rows

    pub keeps_relations : Keeps I with_relations
    keeps_relations = keeps_each with_relation keeps_relation

    pub keeps_update : Keeps I with_update
    keeps_update s d h = go (elements_of d)
      where
        go : (o : Option (List Data)) → I (with_update_of s o)
        go None = h
        go (Some []) = h
        go (Some (a ∷ [])) = h
        go (Some (a ∷ b ∷ [])) = h
        go (Some (a ∷ b ∷ c ∷ [])) = keeps_values s c h
        go (Some (a ∷ b ∷ c ∷ e ∷ ds)) = h

    pub keeps_updates : Keeps I with_updates
    keeps_updates = keeps_each with_update keeps_update

    pub keeps_transaction : Keeps I with_transaction
    keeps_transaction s d h = go (elements_of d)
      where
        go : (o : Option (List Data)) → I (with_transaction_of s o)
        go None = h
        go (Some []) = h
        go (Some (a ∷ [])) = h
        go (Some (a ∷ b ∷ [])) = keeps_updates s b h
        go (Some (a ∷ b ∷ c ∷ [])) = keeps_values s c h
        go (Some (a ∷ b ∷ c ∷ e ∷ ds)) = h

    pub keeps_source_updates : Keeps I with_source_updates
    keeps_source_updates = keeps_member with_transactions (keeps_each with_transaction keeps_transaction) member.Updates

    pub keeps_source : Keeps I with_source
    keeps_source s d h = keeps_source_updates (with_source_relations s d) d (keeps_member with_relations keeps_relations member.Relations s d h)

    pub keeps_sources : Keeps I with_sources
    keeps_sources = keeps_each with_source keeps_source

    pub keeps_condition : Keeps I with_condition
    keeps_condition s d h = go (elements_of d)
      where
        go : (o : Option (List Data)) → I (with_condition_of s o)
        go None = h
        go (Some []) = h
        go (Some (a ∷ [])) = h
        go (Some (a ∷ b ∷ [])) = h
        go (Some (a ∷ b ∷ c ∷ [])) = keeps_value s c h
        go (Some (a ∷ b ∷ c ∷ e ∷ ds)) = h

    pub keeps_view : Keeps I with_view
    keeps_view = keeps_member with_conditions (keeps_each with_condition keeps_condition) member.Where

    pub keeps_document_sources : Keeps I with_document_sources
    keeps_document_sources = keeps_member with_sources keeps_sources member.Sources

    pub keeps_document_views : Keeps I with_document_views
    keeps_document_views = keeps_member with_views (keeps_each with_view keeps_view) member.Views

-- ---- what is added

module _ (texts : List Text) (in_order : IsInOrder texts) where
  -- all of these are among the texts
  abbrev pub Within : List Text → Type 0
  Within s = (t : Text) → Has t s → Has t texts

  -- of data whose texts are all among the texts, this holds
  abbrev pub Adds : Adding → (Data → Type 0) → Type 0
  Adds f P = (s : List Text) (d : Data) → Within (f s d) → P d

  module _ (f : Adding) (P : Data → Type 0) (adds : Adds f P) where
    adds_folded : ((t : Text) → Keeps (Has t) f) → (ds : List Data) (s : List Text) → Within (fold f s ds) → AllByRecursion P ds
    adds_folded stay [] s w = tt
    adds_folded stay (d ∷ ds) s w = (adds s d (λ t h. w t (keeps_folded (Has t) f (stay t) ds (f s d) h)), adds_folded stay ds (f s d) w)

    pub adds_each : ((t : Text) → Keeps (Has t) f) → Adds (with_each f) (OfEach P)
    adds_each stay s d w = λ ds e. adds_folded stay ds s (subst (λ o. Within (with_each_of f s o)) e w)

    pub adds_member : (m : Member) → Adds (with_member m f) (OfMember m P)
    adds_member m s d w = λ e is. adds s e (subst (λ o. Within (with_found f s o)) is w)

  adds_value : Adds with_value (Knows texts)
  adds_value s d w = λ t e. text_ranked texts t in_order (subst (λ o. Within (with_text_of s o)) e w t (text_put t s))

  adds_values : Adds with_values (KnowsEach texts)
  adds_values = adds_each with_value (Knows texts) adds_value (λ t. keeps_value (Has t) (text_kept t))

  adds_rows : Adds with_rows (KnowsRows texts)
  adds_rows = adds_each with_values (KnowsEach texts) adds_values (λ t. keeps_values (Has t) (text_kept t))

  adds_relation : Adds with_relation (KnowsRelation texts)
  adds_relation = adds_member with_rows (KnowsRows texts) adds_rows member.Rows

  adds_relations : Adds with_relations (OfEach (KnowsRelation texts))
  adds_relations = adds_each with_relation (KnowsRelation texts) adds_relation (λ t. keeps_relation (Has t) (text_kept t))

  adds_update : Adds with_update (KnowsUpdate texts)
  adds_update s d w = go (elements_of d) w
    where
      go : (o : Option (List Data)) → Within (with_update_of s o) → KnowsValues texts o
      go None g = tt
      go (Some []) g = tt
      go (Some (a ∷ [])) g = tt
      go (Some (a ∷ b ∷ [])) g = tt
      go (Some (a ∷ b ∷ c ∷ [])) g = adds_values s c g
      go (Some (a ∷ b ∷ c ∷ e ∷ ds)) g = tt

  adds_updates : Adds with_updates (OfEach (KnowsUpdate texts))
  adds_updates = adds_each with_update (KnowsUpdate texts) adds_update (λ t. keeps_update (Has t) (text_kept t))

  adds_transaction : Adds with_transaction (KnowsTransaction texts)
  adds_transaction s d w = go (elements_of d) w
    where
      go : (o : Option (List Data)) → Within (with_transaction_of s o) → KnowsUpdates texts o
      go None g = tt
      go (Some []) g = tt
      go (Some (a ∷ [])) g = tt
      go (Some (a ∷ b ∷ [])) g = adds_updates s b g
      go (Some (a ∷ b ∷ c ∷ [])) g = adds_values s c g
      go (Some (a ∷ b ∷ c ∷ e ∷ ds)) g = tt

  adds_transactions : Adds with_transactions (OfEach (KnowsTransaction texts))
  adds_transactions = adds_each with_transaction (KnowsTransaction texts) adds_transaction (λ t. keeps_transaction (Has t) (text_kept t))

  adds_source : Adds with_source (KnowsSource texts)
  adds_source s d w = (
    adds_member with_relations (OfEach (KnowsRelation texts)) adds_relations member.Relations s d (λ t h. w t (keeps_source_updates (Has t) (text_kept t) (with_source_relations s d) d h)),
    adds_member with_transactions (OfEach (KnowsTransaction texts)) adds_transactions member.Updates (with_source_relations s d) d w,
  )

  pub adds_document_sources : Adds with_document_sources (OfMember member.Sources (OfEach (KnowsSource texts)))
  adds_document_sources = adds_member with_sources (OfEach (KnowsSource texts)) (adds_each with_source (KnowsSource texts) adds_source (λ t. keeps_source (Has t) (text_kept t))) member.Sources

  adds_condition : Adds with_condition (λ c. KnowsThird texts (elements_of c))
  adds_condition s d w = go (elements_of d) w
    where
      go : (o : Option (List Data)) → Within (with_condition_of s o) → KnowsThird texts o
      go None g = tt
      go (Some []) g = tt
      go (Some (a ∷ [])) g = tt
      go (Some (a ∷ b ∷ [])) g = tt
      go (Some (a ∷ b ∷ c ∷ [])) g = adds_value s c g
      go (Some (a ∷ b ∷ c ∷ e ∷ ds)) g = tt

  adds_conditions : Adds with_conditions (KnowsConditions texts)
  adds_conditions = adds_each with_condition (λ c. KnowsThird texts (elements_of c)) adds_condition (λ t. keeps_condition (Has t) (text_kept t))

  adds_view : Adds with_view (KnowsView texts)
  adds_view = adds_member with_conditions (KnowsConditions texts) adds_conditions member.Where

  pub adds_document_views : Adds with_document_views (OfMember member.Views (OfEach (KnowsView texts)))
  adds_document_views = adds_member with_views (OfEach (KnowsView texts)) (adds_each with_view (KnowsView texts) adds_view (λ t. keeps_view (Has t) (text_kept t))) member.Views
