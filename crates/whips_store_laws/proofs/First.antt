-- A view at version 0 is sound.
use Rattle.std.proofs.Common.{◌≡◌, ◌⊎◌, inl, inr, ℕ, zero, suc, ◌+◌, ◌-◌, ◌/◌, ◌<◌, ◌≤◌, Bool, true, false, List, [], ◌∷◌, ◌++◌, length, map, get_or, Option, Some, None, is_some, not, refl, sym, ap, subst, ◌∙◌, arith}
use Rattle.std.specs.Prelude.{reverse, replicate}
use Rattle.std.specs.List.{All, AllByRecursion, cons_option, filter_map}
use Rattle.std.proofs.lemmas.Bool.{le-leb, lt-ltb}
use Rattle.std.proofs.lemmas.Cmp.{nat_list_cmp_total, tied_itself}
use Rattle.whips_lists.specs.Members.{Has}
use Rattle.whips_model.specs.Tuples.{Codes, Columns, at_columns, row_at, IsKeyed}
use Rattle.whips_model.specs.Relation.{IsTable}
use Rattle.whips_lists.proofs.Members.{has_either, has_cases, has_none, has_before}
use Rattle.whips_trans_laws.proofs.ByKey.{row_of_key}
use Rattle.whips_changes.specs.Changes.{union_rows, net_changes}
use Rattle.whips_net.proofs.Merge.{puts, puts_all, net_of, net_is, both_first, tied_self}
use Rattle.whips_vnl.specs.Records.{seen_row, seen_nothing, visible, is_removed}
use Rattle.whips_vnl.specs.declared.record.Op.TheVariants.{Added}
use Rattle.whips_vnl.specs.declared.record.Vstep.{Vstep}
use Rattle.whips_store.specs.Versions.{versions_in_use, row_seen, is_older, rows_shown_at}
use Rattle.whips_store.specs.First.{first_steps, first_records, first_view}
use Rattle.whips_store.specs.Sound.{IsSlot, HasSlotForKey, IsWritten, IsSoundView, StepsHaveWidth}
use Rattle.whips_store_laws.specs.Laws.{FirstIsSound}
use Rattle.whips_store_laws.proofs.Lists.{has_unreversed}
use Rattle.whips_store_laws.proofs.Unions.{keyed_all, from_union}
use Rattle.whips_store_laws.proofs.Places.{at, used}
use Rattle.whips_store_laws.proofs.Views.{none_written, one_place, not_more}

blank_at : (spare i : ℕ) → let none : List Vstep = [] in get_or (replicate spare none) i none ≡ none
blank_at zero i = refl
blank_at (suc spare) zero = refl
blank_at (suc spare) (suc i) = blank_at spare i

first_at : (rows : List Codes) (spare i : ℕ) → ((i < length rows) × (at (first_records rows spare) i ≡ first_steps (get_or rows i []))) ⊎ (at (first_records rows spare) i ≡ [])
first_at [] spare i = inr (blank_at spare i)
first_at (t ∷ rows) spare zero = inl (omega arith, refl)
first_at (t ∷ rows) spare (suc i) = elim (first_at rows spare i) [
  | inl h ↦ inl (omega (arith, h.0), h.1)
  | inr e ↦ inr e
]

shown_first : (n v : ℕ) (t : Codes) → visible n v (first_steps t) ≡ seen_row t
shown_first n v t = rw (le-leb 0 v (omega arith)) refl

shown_blank : (n v : ℕ) → 2 ≤ n → visible n v [] ≡ seen_nothing
shown_blank n v two = rw (lt-ltb 0 n (omega arith)) refl

module _ (n : ℕ) (two : 2 ≤ n) where
  first_shown : (rows : List Codes) (spare i v : ℕ) (t : Codes) → visible n v (at (first_records rows spare) i) ≡ seen_row t → (i < length rows) × (get_or rows i [] ≡ t)
  first_shown rows spare i v t e = elim (first_at rows spare i) [
    | inl h ↦ (h.0, let same : seen_row (get_or rows i []) ≡ seen_row t = sym (shown_first n v (get_or rows i [])) ∙ sym (ap (visible n v) h.1) ∙ e in cc)
    | inr blank ↦ absurd (let bad : seen_nothing ≡ seen_row t = sym (shown_blank n v two) ∙ sym (ap (visible n v) blank) ∙ e in cc)
  ]

  blank_rows : (v spare : ℕ) → rows_shown_at n v (replicate spare []) ≡ []
  blank_rows v zero = refl
  blank_rows v (suc spare) = ap (λ s. cons_option (row_seen s) (rows_shown_at n v (replicate spare []))) (shown_blank n v two) ∙ blank_rows v spare

  first_rows : (v : ℕ) (rows : List Codes) (spare : ℕ) → rows_shown_at n v (first_records rows spare) ≡ rows
  first_rows v [] spare = blank_rows v spare
  first_rows v (t ∷ rows) spare = ap (λ s. cons_option (row_seen s) (rows_shown_at n v (first_records rows spare))) (shown_first n v t) ∙ ap (λ l. t ∷ l) (first_rows v rows spare)

  all_firsts : (P : List Vstep → Type 0) (Q : Codes → Type 0) (rows : List Codes) (spare : ℕ) → ((t : Codes) → Q t → P (first_steps t)) → P [] → AllByRecursion Q rows → AllByRecursion P (first_records rows spare)
  all_firsts P Q [] spare f p h = all_blank spare
    where
      all_blank : (spare : ℕ) → AllByRecursion P (replicate spare [])
      all_blank zero = tt
      all_blank (suc spare) = (p, all_blank spare)
  all_firsts P Q (t ∷ rows) spare f p h = (f t h.0, all_firsts P Q rows spare f p h.1)

  all_one : (P : Vstep → Type 0) (s : Vstep) → P s → All P (s ∷ [])
  all_one P s p zero d lt = p
  all_one P s p (suc k) d lt = absurd (omega arith)

  slot_first : (t : Codes) → IsSlot n 0 (first_steps t)
  slot_first t = record {
    falling = λ i j d lt le. absurd (omega arith);
    rows = λ k d lt. all_one (λ s. is_some s.row ≡ not (is_removed s.op)) (record { vn = 0; op = Added; row = Some t }) refl k d lt;
    kept = omega arith;
    within = λ k d lt. all_one (λ s. s.vn ≤ (0 + 1) / 2) (record { vn = 0; op = Added; row = Some t }) (omega arith) k d lt;
  }

  slot_blank : IsSlot n 0 []
  slot_blank = record {
    falling = λ i j d lt le. absurd (omega arith);
    rows = λ k d lt. absurd (omega arith);
    kept = omega arith;
    within = λ k d lt. absurd (omega arith);
  }

  enough : (rows : List Codes) (spare : ℕ) → length rows ≤ length (first_records rows spare)
  enough [] spare = omega arith
  enough (t ∷ rows) spare = omega (arith, enough rows spare)

  any_row : (rows : List Codes) → AllByRecursion (λ t. Unit {0}) rows
  any_row [] = tt
  any_row (t ∷ rows) = (tt, any_row rows)

  no_change : (cols : List ℕ) (rows : List Codes) → IsKeyed cols rows → net_of cols rows rows ≡ []
  no_change cols [] h = refl
  no_change cols (t ∷ rows) h = both_first cols t t rows rows (tied_self cols t) h.0 h.0 ∙ rw (tied_itself nat_list_cmp_total t) (no_change cols rows h.1)

  first_slots : (columns : Columns) (rows : List Codes) (spare : ℕ) → AllByRecursion (IsSlot n 0) (first_records rows spare)
  first_slots columns rows spare = all_firsts (IsSlot n 0) (λ t. Unit {0}) rows spare (λ t u. slot_first t) slot_blank (any_row rows)

  among : (cols : List ℕ) (rows : List Codes) (spare : ℕ) → IsKeyed cols rows → (t : Codes) → Has t (union_rows cols (reverse (map (λ w. rows_shown_at n w (first_records rows spare)) (versions_in_use n 0) ++ rows ∷ []))) → is_some (row_at cols (at_columns cols t) rows) ≡ true
  among cols rows spare h t k =
      let values = reverse (map (λ w. rows_shown_at n w (first_records rows spare)) (versions_in_use n 0) ++ rows ∷ []) in
      let found = row_of_key cols t (union_rows cols values) (keyed_all cols values [] tt) k in
      elim (from_union cols (at_columns cols t) t values [] found) [
        | inl g ↦ ap is_some (row_of_key cols t rows h (elim (has_either g.0 (map (λ w. rows_shown_at n w (first_records rows spare)) (versions_in_use n 0)) (rows ∷ []) (has_unreversed g.0 (map (λ w. rows_shown_at n w (first_records rows spare)) (versions_in_use n 0) ++ rows ∷ []) g.1)) [
          | inl m ↦ let b = has_before (λ w. rows_shown_at n w (first_records rows spare)) g.0 (versions_in_use n 0) m in subst (Has t) (b.2 ∙ first_rows b.0 rows spare) g.2
          | inr m ↦ elim (has_cases g.0 rows [] m) [
            | inl same ↦ subst (Has t) same g.2
            | inr none ↦ absurd (has_none g.0 none)
          ]
        ]))
        | inr none ↦ absurd (cc)
      ]

pub first_is_sound : FirstIsSound
first_is_sound n columns rows spare two table within = record {
  current = table;
  new = table;
  records = first_slots n two columns rows spare;
  widths = all_firsts n two (StepsHaveWidth (length columns.kinds)) (λ t. length t ≡ length columns.kinds) rows spare (λ t w. (λ u e. let same : t ≡ u = cc in ap length (sym same) ∙ w, tt)) tt table.widths;
  keys = λ i j v w t u li lj rv rw e f.
      let a = first_shown n two rows spare i v t e in
      let b = first_shown n two rows spare j w u f in
      (λ same. one_place columns.key rows i j (at_columns columns.key u) table.keyed a.0 b.0 (ap (at_columns columns.key) a.1 ∙ same) (ap (at_columns columns.key) b.1), λ same. ap (at_columns columns.key) (sym a.1 ∙ ap (λ k. get_or rows k []) same ∙ b.1));
  written = none_written columns.key n 0 0 rows (first_records rows spare) (omega arith) (first_slots n two columns rows spare);
  committed = ap (λ l. puts columns.key [] l) (first_rows n two 0 rows spare) ∙ puts_all columns.key rows table.keyed;
  left = ap (λ l. net_changes columns.key l rows) (ap (λ l. puts columns.key [] l) (first_rows n two 1 rows spare) ∙ puts_all columns.key rows table.keyed) ∙ net_is columns.key rows rows table.keyed ∙ no_change n two columns.key rows table.keyed;
  room =
      let values = reverse (map (λ w. rows_shown_at n w (first_records rows spare)) (versions_in_use n 0) ++ rows ∷ []) in
      let fewer = not_more columns.key (union_rows columns.key values) rows (keyed_all columns.key values [] tt) (among n two columns.key rows spare table.keyed) in
      omega (arith, fewer, enough n two rows spare);
  numbers = within;
  new_numbers = within;
  quiet = λ e. refl;
}
