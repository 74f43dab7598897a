-- Painting a table, and what it hands out.
use Rattle.std.proofs.Common.{◌≡◌, ℕ, zero, suc, ◌+◌, ◌≤◌, ◌<◌, Bool, true, false, ◌||◌, cond, nat_le, List, [], ◌∷◌, ◌++◌, length, map, filter, take, drop, set, get_or, Option, Some, None, refl, sym, ap, ap₂, ◌∙◌, arith, add-one}
use Rattle.std.proofs.lemmas.Bool.{false≢true}
use Rattle.std.proofs.lemmas.List.Elements.{filter-append}
use Rattle.std.specs.Prelude.{fold}
use Rattle.std.specs.Option.{option_map}
use Rattle.std.proofs.Math.Seq.{drop-cons}
use Rattle.whips_lists.specs.Lists.{changed_at}
use Rattle.whips_flow.specs.Painted.{Row, painted_rows, rows_with, rows_without}
use Rattle.whips_flow.specs.Settling.{due_lists, later_lists, rows_after_lists}
use Rattle.whips_paint.specs.Table.{ViewTable, with_rows, ready_numbers, ready_rows, rows_left}

-- ---- lists whose rows have come

module _ (last j : ℕ) (js : List ℕ) (due : nat_le j last ≡ true) where
  pub due_first : due_lists last (j ∷ js) ≡ j ∷ due_lists last js
  due_first = ap (λ b. cond b (j ∷ due_lists last js) []) due

  pub later_first : later_lists last (j ∷ js) ≡ later_lists last js
  later_first = ap (λ b. cond b (later_lists last js) (j ∷ js)) due

-- ---- a count that is raised

pub changed_set : (f : ℕ → ℕ) (xs : List ℕ) (i : ℕ) → i < length xs → set xs i (f (get_or xs i 0)) ≡ changed_at i f xs
changed_set f [] i lt = refl
changed_set f (x ∷ xs) zero lt = refl
changed_set f (x ∷ xs) (suc i) lt = ap (λ l. x ∷ l) (changed_set f xs i (omega arith))

pub changed_past : (f : ℕ → ℕ) (xs : List ℕ) (i : ℕ) → length xs ≤ i → xs ≡ changed_at i f xs
changed_past f [] i h = refl
changed_past f (x ∷ xs) zero h = absurd (omega arith)
changed_past f (x ∷ xs) (suc i) h = ap (λ l. x ∷ l) (changed_past f xs i (omega arith))

-- ---- lists that are parted

pub with_more : {X : Type 0} (p : X → Bool) (xs : List X) (x : X) (b : Bool) (old new : List X) → b ≡ p x → old ≡ filter p xs → new ≡ old ++ cond b (x ∷ []) [] → new ≡ filter p (xs ++ x ∷ [])
with_more p xs x b old new is was more = more ∙ ap₂ (λ l c. l ++ cond c (x ∷ []) []) was is ∙ sym (filter-append p xs (x ∷ []))

-- where the first i elements were changed, the others are as they were
pub rest_at : {X : Type 0} (f : X → X) (xs ys : List X) (i : ℕ) (d : X) → i < length xs → ys ≡ map f (take i xs) ++ drop i xs → get_or ys i d ≡ get_or xs i d
rest_at f [] ys i d lt e = absurd (omega arith)
rest_at f (x ∷ xs) ys zero d lt e = ap (λ l. get_or l 0 d) e
rest_at f (x ∷ xs) [] (suc i) d lt e = absurd (cc)
rest_at f (x ∷ xs) (y ∷ ys) (suc i) d lt e = rest_at f xs ys i d (omega arith) (ap (λ l. drop 1 l) e)

pub dropped_next : {X : Type 0} (xs : List X) (i : ℕ) (d : X) → i < length xs → drop i xs ≡ get_or xs i d ∷ drop (i + 1) xs
dropped_next xs i d lt = drop-cons xs i d lt ∙ ap (λ n. get_or xs i d ∷ drop n xs) (sym (add-one i))

-- the lists of one view more are painted
pub lists_next : (last i : ℕ) (waiting : List (List ℕ)) (q : List ℕ) (rows after : List Row) → i < length waiting → q ≡ get_or waiting i q → after ≡ fold (painted_rows i) rows (due_lists last q)
    → rows_after_lists last (i + 1) (drop (i + 1) waiting) after ≡ rows_after_lists last i (drop i waiting) rows
lists_next last i waiting q rows after lt is painted =
    ap (λ n. rows_after_lists last n (drop (i + 1) waiting) after) (add-one i) ∙ ap (rows_after_lists last (suc i) (drop (i + 1) waiting)) painted
    ∙ ap (λ z. rows_after_lists last i (z ∷ drop (i + 1) waiting) rows) is ∙ ap (λ l. rows_after_lists last i l rows) (sym (dropped_next waiting i q lt))

-- the rows that a table handed out
taken_some : (set : List Row) (o : Option (List ℕ)) (rows : List Row) → Some set ≡ option_map (λ ns. rows_with ns rows) o → (ns : List ℕ) × (o ≡ Some ns) × (set ≡ rows_with ns rows)
taken_some set None rows h = absurd (cc)
taken_some set (Some ns) rows h = (ns, refl, some set (rows_with ns rows) h)
  where
    some : (a b : List Row) → Some a ≡ Some b → a ≡ b
    some a b h = cc

taken_none : (o : Option (List ℕ)) (rows : List Row) → None ≡ option_map (λ ns. rows_with ns rows) o → o ≡ None
taken_none None rows h = refl
taken_none (Some ns) rows h = absurd (cc)

module _ {V : Type 0} (items : V → List Row) (o : Option V) (rows : List Row) (taken : option_map items o ≡ ready_rows rows) where
  pub none_ready : o ≡ None → ready_numbers rows ≡ None
  none_ready is = taken_none (ready_numbers rows) rows (sym (ap (option_map items) is) ∙ taken)

  pub some_ready : (v : V) → o ≡ Some v → (ns : List ℕ) × (ready_numbers rows ≡ Some ns) × (items v ≡ rows_with ns rows)
  some_ready v is = taken_some (items v) (ready_numbers rows) rows (sym (ap (option_map items) is) ∙ taken)

pub left_with : (t new : ViewTable) (numbers : List ℕ) → new ≡ with_rows t (rows_left (ready_numbers t.table.rows) t.table.rows) → ready_numbers t.table.rows ≡ Some numbers → new.table.rows ≡ rows_without numbers t.table.rows
left_with t new numbers is ready = ap (λ (z : ViewTable). z.table.rows) is ∙ ap (λ o. rows_left o t.table.rows) ready

-- a table that differs from the first one by its rows alone
pub still_rows : (init t new : ViewTable) (rows : List Row) → t ≡ with_rows init t.table.rows → new ≡ with_rows t rows → new ≡ with_rows init new.table.rows
still_rows init t new rows was is = is ∙ ap (λ z. with_rows z rows) was ∙ ap (with_rows init) (sym (ap (λ (z : ViewTable). z.table.rows) is))

-- a table from which nothing was taken
pub stopped_table : (init t new : ViewTable) (out : List Row) → new ≡ with_rows t (rows_left (ready_numbers t.table.rows) t.table.rows) → ready_numbers t.table.rows ≡ None → t ≡ with_rows init t.table.rows → t.table.rows ≡ out → new ≡ with_rows init out
stopped_table init t new out is none was left = is ∙ ap (λ o. with_rows t (rows_left o t.table.rows)) none ∙ ap (λ z. with_rows z t.table.rows) was ∙ ap (with_rows init) left

pub neither : (a b : Bool) → (a || b) ≡ false → (a ≡ false) × (b ≡ false)
neither false false h = (refl, refl)
neither false true h = absurd (false≢true (sym h))
neither true b h = absurd (false≢true (sym h))
