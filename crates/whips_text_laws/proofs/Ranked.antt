-- Where texts are in order, the text with the code of one of them is that text.
use Rattle.std.proofs.Common.{◌≡◌, inl, inr, suc, cond, List, [], ◌∷◌, length, refl, sym, ap, ◌∙◌}
use Rattle.std.specs.List.{filter, AllByRecursion}
use Rattle.std.specs.List.Sorted.{IsStrictlySortedBy}
use Rattle.std.specs.Ordering.{match_ordering, is_lt}
use Rattle.std.specs.declared.cmp.Ordering.TheVariants.{Less, Equal, Greater}
use Rattle.whips_lists.specs.Members.{Has}
use Rattle.whips_lists.proofs.Members.{all_has}
use Rattle.whips_model.proofs.Keyed.{codes_trans, greater_from_less, less_from_greater}
use Rattle.whips_choices.proofs.Rows.{codes_equal, codes_tied}
use Rattle.whips_reports.specs.Lines.{name_at}
use Rattle.whips_reading.specs.Json.{Text}
use Rattle.whips_texts.specs.Texts.{text_cmp, is_before, IsInOrder, rank, with_text}

-- ---- a text that is put in

pub text_put : (t : Text) (texts : List Text) → Has t (with_text texts t)
unfolding Has
text_put t [] = inl refl
text_put t (x ∷ xs) = elim (text_cmp t x) as (λ o. text_cmp t x ≡ o → Has t (match_ordering o (t ∷ x ∷ xs) (x ∷ xs) (x ∷ with_text xs t))) [
  | Less ↦ λ e. inl refl
  | Equal ↦ λ e. inl (codes_equal t x e)
  | Greater ↦ λ e. inr (text_put t xs)
] refl

pub text_kept : (u t : Text) (texts : List Text) → Has u texts → Has u (with_text texts t)
unfolding Has
text_kept u t [] h = absurd h
text_kept u t (x ∷ xs) h = elim (text_cmp t x) as (λ o. Has u (match_ordering o (t ∷ x ∷ xs) (x ∷ xs) (x ∷ with_text xs t))) [
  | Less ↦ inr h
  | Equal ↦ h
  | Greater ↦ elim h as (λ _. Has u (x ∷ with_text xs t)) [ inl e ↦ inl e | inr g ↦ inr (text_kept u t xs g) ]
]

all_with : (P : Text → Type 0) (t : Text) (texts : List Text) → P t → AllByRecursion P texts → AllByRecursion P (with_text texts t)
all_with P t [] p h = (p, tt)
all_with P t (x ∷ xs) p h = elim (text_cmp t x) as (λ o. AllByRecursion P (match_ordering o (t ∷ x ∷ xs) (x ∷ xs) (x ∷ with_text xs t))) [
  | Less ↦ (p, h)
  | Equal ↦ h
  | Greater ↦ (h.0, all_with P t xs p h.1)
]

before_all : (t x : Text) (xs : List Text) → text_cmp t x ≡ Less → AllByRecursion (λ y. text_cmp x y ≡ Less) xs → AllByRecursion (λ y. text_cmp t y ≡ Less) xs
before_all t x [] e h = tt
before_all t x (y ∷ xs) e h = (codes_trans t x y e h.0, before_all t x xs e h.1)

pub order_kept : (t : Text) (texts : List Text) → IsInOrder texts → IsInOrder (with_text texts t)
unfolding IsStrictlySortedBy
order_kept t [] h = (tt, tt)
order_kept t (x ∷ xs) h = elim (text_cmp t x) as (λ o. text_cmp t x ≡ o → IsInOrder (match_ordering o (t ∷ x ∷ xs) (x ∷ xs) (x ∷ with_text xs t))) [
  | Less ↦ λ e. ((e, before_all t x xs e h.0), h)
  | Equal ↦ λ e. h
  | Greater ↦ λ e. (all_with (λ y. text_cmp x y ≡ Less) t xs (less_from_greater t x e) h.0, order_kept t xs h.1)
] refl

-- ---- codes

none_before : (t : Text) (texts : List Text) → AllByRecursion (λ y. text_cmp t y ≡ Less) texts → filter (λ u. is_before u t) texts ≡ []
none_before t [] h = refl
none_before t (x ∷ xs) h = ap (λ o. cond (is_lt o) (x ∷ filter (λ u. is_before u t) xs) (filter (λ u. is_before u t) xs)) (greater_from_less t x h.0) ∙ none_before t xs h.1

pub text_ranked : (texts : List Text) (t : Text) → IsInOrder texts → Has t texts → t ≡ name_at texts (rank texts t)
unfolding Has IsStrictlySortedBy
text_ranked [] t h has = absurd has
text_ranked (x ∷ xs) t h (inl e) =
    let first : rank (x ∷ xs) x ≡ 0 = ap (λ o. length (cond (is_lt o) (x ∷ filter (λ u. is_before u x) xs) (filter (λ u. is_before u x) xs))) (codes_tied x x refl) ∙ ap length (none_before x xs h.0) in
    e ∙ ap (name_at (x ∷ xs)) (sym first) ∙ ap (λ u. name_at (x ∷ xs) (rank (x ∷ xs) u)) (sym e)
text_ranked (x ∷ xs) t h (inr has) =
    let before = all_has (λ y. text_cmp x y ≡ Less) xs h.0 t has in
    let later : rank (x ∷ xs) t ≡ suc (rank xs t) = ap (λ o. length (cond (is_lt o) (x ∷ filter (λ u. is_before u t) xs) (filter (λ u. is_before u t) xs))) before in
    text_ranked xs t h.1 has ∙ ap (name_at (x ∷ xs)) (sym later)
