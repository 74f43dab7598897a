-- Texts that are added in either order are the same texts.
--
-- `texts_commute`: so it is of two texts, for all lists of texts. `Commute` says it of two ways to add the texts of data; `each_commutes` leads from
-- a way to that of a list, and `rows_commute` is so for rows.
use Rattle.std.proofs.Common.{◌≡◌, List, [], ◌∷◌, Option, Some, None, refl, sym, ap, ap₂, ◌∙◌}
use Rattle.std.specs.Prelude.{fold}
use Rattle.std.specs.Ordering.{match_ordering}
use Rattle.std.specs.declared.cmp.Ordering.{Ordering}
use Rattle.std.specs.declared.cmp.Ordering.TheVariants.{Less, Equal, Greater}
use Rattle.std.proofs.lemmas.Cmp.{nat_list_cmp_total, alike_right}
use Rattle.serde_json.specs.Data.{Data}
use Rattle.serde_json.specs.Find.{as_str}
use Rattle.whips_model.proofs.Keyed.{codes_trans, greater_from_less, less_from_greater}
use Rattle.whips_choices.proofs.Rows.{codes_equal}
use Rattle.whips_reading.specs.Json.{Text}
use Rattle.whips_reading.specs.Reading.{elements_of}
use Rattle.whips_texts.specs.Texts.{text_cmp, with_text}
use Rattle.whips_texts.specs.Dictionary.{with_each_of, with_each, with_text_of, with_value, with_values}

-- ---- two texts

-- what a text is put as before or behind the first, as they compare
pub put_is : (k x : Text) (xs : List Text) (o : Ordering) → text_cmp k x ≡ o → with_text (x ∷ xs) k ≡ match_ordering o (k ∷ x ∷ xs) (x ∷ xs) (x ∷ with_text xs k)
put_is k x xs o e = ap (λ p. match_ordering p (k ∷ x ∷ xs) (x ∷ xs) (x ∷ with_text xs k)) e

both_first : (a b : Text) (rest : List Text) → with_text rest a ≡ a ∷ rest → with_text rest b ≡ b ∷ rest → with_text (b ∷ rest) a ≡ with_text (a ∷ rest) b
both_first a b rest f g = go (text_cmp a b) refl
  where
    go : (o : Ordering) → text_cmp a b ≡ o → with_text (b ∷ rest) a ≡ with_text (a ∷ rest) b
    go Less e = put_is a b rest Less e ∙ ap (λ l. a ∷ l) (sym g) ∙ sym (put_is b a rest Greater (greater_from_less a b e))
    go Equal e = let same = codes_equal a b e in ap₂ (λ y z. with_text (y ∷ rest) z) (sym same) same
    go Greater e = put_is a b rest Greater e ∙ ap (λ l. b ∷ l) f ∙ sym (put_is b a rest Less (less_from_greater a b e))

module _ (x : Text) (xs : List Text) (a b : Text) where
  abbrev Same : Type 0
  Same = with_text (with_text (x ∷ xs) b) a ≡ with_text (with_text (x ∷ xs) a) b

  -- a is before all others
  lowest : text_cmp a x ≡ Less → text_cmp a b ≡ Less → (ys : List Text) → with_text (x ∷ xs) b ≡ x ∷ ys → Same
  lowest p q ys e =
      ap (λ l. with_text l a) e ∙ put_is a x ys Less p ∙ ap (λ l. a ∷ l) (sym e)
      ∙ sym (put_is b a (x ∷ xs) Greater (greater_from_less a b q)) ∙ ap (λ l. with_text l b) (sym (put_is a x xs Less p))

  -- a is there
  there_already : text_cmp a x ≡ Equal → (ys : List Text) → with_text (x ∷ xs) b ≡ x ∷ ys → Same
  there_already p ys e = ap (λ l. with_text l a) e ∙ put_is a x ys Equal p ∙ sym e ∙ ap (λ l. with_text l b) (sym (put_is a x xs Equal p))

pub texts_commute : (a b : Text) (xs : List Text) → with_text (with_text xs b) a ≡ with_text (with_text xs a) b
texts_commute a b [] = both_first a b [] refl refl
texts_commute a b (x ∷ xs) = go (texts_commute a b xs) (text_cmp a x) (text_cmp b x) refl refl
  where
    go : with_text (with_text xs b) a ≡ with_text (with_text xs a) b → (o p : Ordering) → text_cmp a x ≡ o → text_cmp b x ≡ p → with_text (with_text (x ∷ xs) b) a ≡ with_text (with_text (x ∷ xs) a) b
    go ih Less Less p q = ap (λ l. with_text l a) (put_is b x xs Less q) ∙ both_first a b (x ∷ xs) (put_is a x xs Less p) (put_is b x xs Less q) ∙ ap (λ l. with_text l b) (sym (put_is a x xs Less p))
    go ih Less Equal p q = lowest x xs a b p (alike_right nat_list_cmp_total b x a q ∙ p) xs (put_is b x xs Equal q)
    go ih Less Greater p q = lowest x xs a b p (codes_trans a x b p (less_from_greater b x q)) (with_text xs b) (put_is b x xs Greater q)
    go ih Equal Less p q = sym (lowest x xs b a q (alike_right nat_list_cmp_total a x b p ∙ q) xs (put_is a x xs Equal p))
    go ih Equal Equal p q = there_already x xs a b p xs (put_is b x xs Equal q)
    go ih Equal Greater p q = there_already x xs a b p (with_text xs b) (put_is b x xs Greater q)
    go ih Greater Less p q = sym (lowest x xs b a q (codes_trans b x a q (less_from_greater a x p)) (with_text xs a) (put_is a x xs Greater p))
    go ih Greater Equal p q = sym (there_already x xs b a q (with_text xs a) (put_is a x xs Greater p))
    go ih Greater Greater p q =
        ap (λ l. with_text l a) (put_is b x xs Greater q) ∙ put_is a x (with_text xs b) Greater p ∙ ap (λ l. x ∷ l) ih
        ∙ sym (put_is b x (with_text xs a) Greater q) ∙ ap (λ l. with_text l b) (sym (put_is a x xs Greater p))

-- ---- the texts of data

-- a way to add the texts of data
abbrev pub Adding : Type 0
Adding = List Text → Data → List Text

-- what both add can be added in either order
abbrev pub Commute : Adding → Adding → Type 0
Commute f g = (s : List Text) (d e : Data) → f (g s e) d ≡ g (f s d) e

turned : (f g : Adding) → Commute f g → Commute g f
turned f g h s d e = sym (h s e d)

module _ (f g : Adding) (h : Commute f g) where
  pub folded : (ds : List Data) (s : List Text) (e : Data) → fold f (g s e) ds ≡ g (fold f s ds) e
  folded [] s e = refl
  folded (d ∷ ds) s e = ap (λ t. fold f t ds) (h s d e) ∙ folded ds (f s d) e

  each_commutes : Commute (with_each f) g
  each_commutes s d e = go (elements_of d)
    where
      go : (o : Option (List Data)) → with_each_of f (g s e) o ≡ g (with_each_of f s o) e
      go None = refl
      go (Some ds) = folded ds s e

value_commutes : Commute with_value with_value
value_commutes s d e = go (as_str d) (as_str e)
  where
    go : (o p : Option Text) → with_text_of (with_text_of s p) o ≡ with_text_of (with_text_of s o) p
    go None p = refl
    go (Some a) None = refl
    go (Some a) (Some b) = texts_commute a b s

pub rows_commute : Commute with_values with_values
rows_commute = each_commutes with_value with_values (turned with_values with_value (each_commutes with_value with_value value_commutes))
