-- Keys go from the parts of a view, and then tuples come, part by part.
use Rattle.std.proofs.Common.{◌≡◌, ◌≢◌, ◌⊎◌, inl, inr, ℕ, ◌<◌, ◌≤◌, List, [], ◌∷◌, length, map, get_or, refl, sym, ap, subst, ◌∙◌, arith}
use Rattle.std.proofs.lemmas.Bool.{cases_eq}
use Rattle.std.proofs.lemmas.List.{map-append, set-get_or}
use Rattle.whips_model.specs.Tuples.{Codes, Columns, at_columns, IsKeyed}
use Rattle.whips_lists.specs.Members.{Has, AreDistinct}
use Rattle.whips_lists.proofs.Members.{has_first, has_later, has_none, has_cases, has_either}
use Rattle.whips_choices.specs.KeyedViews.{KeyedView, IsKeyedView, AreTables}
use Rattle.whips_choices.proofs.Rows.{without_only, puts_only, puts_keep, puts_have}
use Rattle.whips_trans_laws.proofs.ByKey.{puts_keyed}
use Rattle.whips_steps.specs.Steps.{asked_sources}
use Rattle.whips_managers.specs.Managers.{Query, ManagerState, name_of, with_pending, with_deletion, with_deletions, with_query, with_put, new_query, put_or_asked, with_given, with_all_given}
use Rattle.whips_managers.specs.Invariants.{Keeps}
use Rattle.whips_manager_laws.specs.Laws.{IsNewAt, Meets, with_tuples, without_tuple, AreInsertions}
use Rattle.whips_manager_laws.proofs.Invariant.{changed_here, changed_off, changed_tables, narrower, stays, less_good}
use Rattle.whips_manager_laws.proofs.Lawful.{deletion, insertions, put_insertions}

module _ (v : KeyedView) where
  abbrev key : ℕ → Codes → Codes
  key i t = at_columns (get_or v.keys i []) t

  -- ---- keys go

  abbrev pub without_all : List (List Codes) → List (ℕ × Codes) → List (List Codes)
  without_all T [] = T
  without_all T (e ∷ keys) = without_all (without_tuple v T e.0 e.1) keys

  module _ (is : IsKeyedView v) where
    abbrev pub AreIn : List (ℕ × Codes) → Type 0
    AreIn keys = (e : ℕ × Codes) → Has e keys → e.0 < length v.keys

    pub without_good : (keys : List (ℕ × Codes)) (T : List (List Codes)) → AreTables v T → AreIn keys → AreTables v (without_all T keys)
    without_good [] T good h = good
    without_good (e ∷ keys) T good h = without_good keys _ (less_good v is T good e.0 (h e (has_first e keys)) e.1) (λ d k. h d (has_later d e keys k))

    pub all_only : (keys : List (ℕ × Codes)) (T : List (List Codes)) (i : ℕ) (u : Codes) → AreTables v T → AreIn keys → Has u (get_or (without_all T keys) i []) → Has u (get_or T i [])
    all_only [] T i u good h g = g
    all_only (e ∷ keys) T i u good h g = narrower v is T good e.0 (h e (has_first e keys)) e.1 i u (all_only keys _ i u (less_good v is T good e.0 (h e (has_first e keys)) e.1) (λ d k. h d (has_later d e keys k)) g)

    pub all_gone : (keys : List (ℕ × Codes)) (T : List (List Codes)) (i : ℕ) (u : Codes) → AreTables v T → AreIn keys → Has u (get_or (without_all T keys) i []) → Has (i, key i u) keys → ⊥
    all_gone [] T i u good h g k = has_none _ k
    all_gone (e ∷ keys) T i u good h g k =
        let rest = less_good v is T good e.0 (h e (has_first e keys)) e.1 in
        let later : AreIn keys = λ d m. h d (has_later d e keys m) in
        elim (has_cases (i, key i u) e keys k) [
          | inl same ↦
              let first : i ≡ e.0 = ap (λ z. z.0) same in
              let second : key i u ≡ e.1 = ap (λ z. z.1) same in
              (without_only (get_or v.keys e.0 []) e.1 u (get_or T e.0 []) (subst (λ z. Has u z) (changed_here v T good e.0 (h e (has_first e keys)) _) (subst (λ z. Has u (get_or (without_tuple v T e.0 e.1) z [])) first (all_only keys _ i u rest later g)))).1 (subst (λ z. key z u ≡ e.1) first second)
          | inr m ↦ all_gone keys _ i u rest later g m
        ]

    pub all_stay : (keys : List (ℕ × Codes)) (T : List (List Codes)) (i : ℕ) (u : Codes) → AreTables v T → AreIn keys → Has u (get_or T i []) → (Has (i, key i u) keys → ⊥) → Has u (get_or (without_all T keys) i [])
    all_stay [] T i u good h g other = g
    all_stay (e ∷ keys) T i u good h g other = all_stay keys _ i u (less_good v is T good e.0 (h e (has_first e keys)) e.1) (λ d k. h d (has_later d e keys k))
        (stays v is T good e.0 (h e (has_first e keys)) e.1 i u (λ same at. other (subst (λ z. Has z (e ∷ keys)) (pair same at) (has_first e keys))) g) (λ k. other (has_later _ e keys k))
      where
        pair : i ≡ e.0 → key e.0 u ≡ e.1 → e ≡ (i, key i u)
        pair same at = λ j. (sym same j, (sym at ∙ ap (λ z. key z u) (sym same)) j)

  pub deletions_keep : (keys : List (ℕ × Codes)) (T : List (List Codes)) (rows : List Codes) (m : ManagerState) → ((e : ℕ × Codes) → Has e keys → e.0 < length v.keys) → Keeps v T rows m → Keeps v (without_all T keys) rows (with_deletions m keys)
  deletions_keep [] T rows m h s = s
  deletions_keep (e ∷ keys) T rows m h s = deletions_keep keys _ rows _ (λ d k. h d (has_later d e keys k)) (deletion v T rows m e.0 e.1 s (h e (has_first e keys)))

  -- the last number and the names stay
  pub deletions_last : (keys : List (ℕ × Codes)) (m : ManagerState) → (with_deletions m keys).last ≡ m.last
  deletions_last [] m = refl
  deletions_last (e ∷ keys) m = deletions_last keys (with_deletion m e)

  -- ---- tuples come, part by part

  abbrev pub with_parts : List (List Codes) → (ℕ → List Codes) → List ℕ → List (List Codes)
  with_parts T given [] = T
  with_parts T given (i ∷ parts) = with_parts (with_tuples v T i (given i)) given parts

  -- what the tuples of these parts must meet
  abbrev pub Fit : List (List Codes) → (ℕ → List Codes) → List ℕ → Type 0
  Fit T given parts = (i : ℕ) → Has i parts → (i < length v.keys) × IsKeyed (get_or v.keys i []) (given i) × ((t : Codes) → Has t (given i) → IsNewAt v T i t) × ((t : Codes) → Has t (given i) → Meets v i t)

  more_tables : (T : List (List Codes)) (i : ℕ) (ts : List Codes) → AreTables v T → i < length v.keys → AreTables v (with_tuples v T i ts)
  more_tables T i ts good lt = changed_tables v T good i lt _ (puts_keyed (get_or v.keys i []) ts (get_or T i []) (good.keyed i lt))

  fit_rest : (T : List (List Codes)) (given : ℕ → List Codes) (i : ℕ) (parts : List ℕ) → AreTables v T → AreDistinct (i ∷ parts) → Fit T given (i ∷ parts) → Fit (with_tuples v T i (given i)) given parts
  fit_rest T given i parts good d fit j k =
      let f = fit j (has_later j i parts k) in
      let ne : j ≢ i = λ e. d.0 (subst (λ z. Has z parts) e k) in
      (f.0, f.1, λ t h u g. f.2 t h u (subst (λ z. Has u z) (changed_off v T good i (fit i (has_first i parts)).0 _ j ne) g), f.3)

  module _ (columns : Columns) (given : ℕ → List Codes) where
    pub parts_stay : (parts : List ℕ) (T : List (List Codes)) (j : ℕ) (u : Codes) → AreTables v T → AreDistinct parts → Fit T given parts → Has u (get_or T j []) → Has u (get_or (with_parts T given parts) j [])
    parts_stay [] T j u good d fit h = h
    parts_stay (i ∷ parts) T j u good d fit h =
        let f = fit i (has_first i parts) in
        parts_stay parts _ j u (more_tables T i (given i) good f.0) d.1 (fit_rest T given i parts good d fit) (elim (cases_eq j i) [
          | inl e ↦ subst (λ z. Has u (get_or (with_tuples v T i (given i)) z [])) (sym e) (subst (λ z. Has u z) (sym (changed_here v T good i f.0 _))
              (puts_keep (get_or v.keys i []) u (given i) (get_or T i []) (λ t k. f.2 t k u (subst (λ z. Has u (get_or T z [])) e h)) (subst (λ z. Has u (get_or T z [])) e h)))
          | inr ne ↦ subst (λ z. Has u z) (sym (changed_off v T good i f.0 _ j ne)) h
        ])

    pub parts_have : (parts : List ℕ) (T : List (List Codes)) (j : ℕ) (u : Codes) → AreTables v T → AreDistinct parts → Fit T given parts → Has j parts → Has u (given j) → Has u (get_or (with_parts T given parts) j [])
    parts_have [] T j u good d fit k h = absurd (has_none j k)
    parts_have (i ∷ parts) T j u good d fit k h =
        let f = fit i (has_first i parts) in
        let next = fit_rest T given i parts good d fit in
        elim (has_cases j i parts k) [
          | inl e ↦ parts_stay parts _ j u (more_tables T i (given i) good f.0) d.1 next (subst (λ z. Has u (get_or (with_tuples v T i (given i)) z [])) (sym e) (subst (λ z. Has u z) (sym (changed_here v T good i f.0 _))
              (puts_have (get_or v.keys i []) u (given i) (get_or T i []) f.1 (subst (λ z. Has u (given z)) e h))))
          | inr m ↦ parts_have parts _ j u (more_tables T i (given i) good f.0) d.1 next m h
        ]

    pub parts_only : (parts : List ℕ) (T : List (List Codes)) (j : ℕ) (u : Codes) → AreTables v T → AreDistinct parts → Fit T given parts → Has u (get_or (with_parts T given parts) j []) → Has u (given j) ⊎ Has u (get_or T j [])
    parts_only [] T j u good d fit h = inr h
    parts_only (i ∷ parts) T j u good d fit h =
        let f = fit i (has_first i parts) in
        elim (parts_only parts _ j u (more_tables T i (given i) good f.0) d.1 (fit_rest T given i parts good d fit) h) [
          | inl k ↦ inl k
          | inr k ↦ elim (cases_eq j i) [
            | inl e ↦ elim (puts_only (get_or v.keys i []) u (given i) (get_or T i []) (subst (λ z. Has u z) (changed_here v T good i f.0 _) (subst (λ z. Has u (get_or (with_tuples v T i (given i)) z [])) e k))) [
              | inl m ↦ inl (subst (λ z. Has u (given z)) (sym e) m)
              | inr m ↦ inr (subst (λ z. Has u (get_or T z [])) (sym e) m)
            ]
            | inr ne ↦ inr (subst (λ z. Has u z) (changed_off v T good i f.0 _ j ne) k)
          ]
        ]

    abbrev pub AreUnnamed : ManagerState → ℕ → List ℕ → Type 0
    AreUnnamed m number parts = (i : ℕ) → Has i parts → Has (number, i) (map name_of m.queries) → ⊥

    -- the manager takes the tuples of one part
    record Taken (T : List (List Codes)) (rows : List Codes) (number i : ℕ) (parts : List ℕ) (m : ManagerState) : Type 0 where
      keeps : Keeps v (with_tuples v T i (given i)) rows m
      last : m.last ≤ number
      free : AreUnnamed m number parts

    one_given : (T : List (List Codes)) (rows : List Codes) (m : ManagerState) (number i : ℕ) (parts : List ℕ) → Keeps v T rows m → AreDistinct (i ∷ parts) → Fit T given (i ∷ parts) → m.last ≤ number → AreUnnamed m number (i ∷ parts)
        → (ts : List Codes) → given i ≡ ts → Taken T rows number i parts (with_given v columns m number i ts)
    one_given T rows m number i parts s d fit last free [] e = record {
      keeps = subst (λ l. Keeps v (with_tuples v T i l) rows m) (sym e) (subst (λ z. Keeps v z rows m) (sym (set-get_or T i [])) s);
      last = last;
      free = λ j k. free j (has_later j i parts k);
    }
    one_given T rows m number i parts s d fit last free (t ∷ ts) e = go (asked_sources v i) refl
      where
        are : AreInsertions v T m number i (t ∷ ts)
        are = let f = fit i (has_first i parts) in record {
          below = f.0;
          rising = subst (λ l. IsKeyed (get_or v.keys i []) l) e f.1;
          new = λ u h. f.2 u (subst (λ l. Has u l) (sym e) h);
          meets = λ u h. f.3 u (subst (λ l. Has u l) (sym e) h);
          later = last;
          unnamed = free i (has_first i parts);
        }

        go : (l : List ℕ) → asked_sources v i ≡ l → Taken T rows number i parts (put_or_asked l (with_put v columns m number i (t ∷ ts)) (with_query v m number i (t ∷ ts)))
        go [] none = record {
          keeps = subst (λ l. Keeps v (with_tuples v T i l) rows (with_put v columns m number i (t ∷ ts))) (sym e) (put_insertions v columns T rows m number i (t ∷ ts) s are none);
          last = omega arith;
          free = λ j k. free j (has_later j i parts k);
        }
        go (x ∷ l) some = record {
          keeps = subst (λ l. Keeps v (with_tuples v T i l) rows (with_query v m number i (t ∷ ts))) (sym e) (insertions v T rows m number i (t ∷ ts) s are (let w = ap length some in omega arith));
          last = omega arith;
          free = λ j k h. elim (has_either (number, j) (map name_of m.queries) ((number, i) ∷ []) (subst (λ l. Has (number, j) l) (map-append name_of m.queries (new_query v number i (t ∷ ts) ∷ [])) h)) [
            | inl g ↦ free j (has_later j i parts k) g
            | inr g ↦ elim (has_cases (number, j) (number, i) [] g) [ inl same ↦ d.0 (subst (λ z. Has z parts) (ap (λ z. z.1) same) k) | inr o ↦ has_none _ o ]
          ];
        }

    pub givens_keep : (parts : List ℕ) (T : List (List Codes)) (rows : List Codes) (m : ManagerState) (number : ℕ) → Keeps v T rows m → AreDistinct parts → Fit T given parts → m.last ≤ number → AreUnnamed m number parts
        → Keeps v (with_parts T given parts) rows (with_all_given v columns m number given parts)
    givens_keep [] T rows m number s d fit last free = s
    givens_keep (i ∷ parts) T rows m number s d fit last free =
        let g = one_given T rows m number i parts s d fit last free (given i) refl in
        givens_keep parts _ rows _ number g.keeps d.1 (fit_rest T given i parts s.good d fit) g.last g.free

  -- ---- the names stay

  pub names_stay : (keys : List (ℕ × Codes)) (m : ManagerState) → map name_of (with_deletions m keys).queries ≡ map name_of m.queries
  names_stay [] m = refl
  names_stay (e ∷ keys) m = names_stay keys (with_deletion m e) ∙ pending m.queries
    where
      pending : (qs : List Query) → map name_of (map (with_pending e.0 e.1) qs) ≡ map name_of qs
      pending [] = refl
      pending (q ∷ qs) = ap (λ l. name_of q ∷ l) (pending qs)
