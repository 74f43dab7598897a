-- Rows that are put, one after another.
use Rattle.std.proofs.Common.{◌≡◌, ◌≢◌, ℕ, zero, suc, ◌+◌, ◌-◌, ◌<◌, ◌≤◌, Bool, true, false, cond, List, [], ◌∷◌, ◌++◌, length, map, get_or, take, Option, Some, None, refl, sym, ap, subst, ◌∙◌, arith}
use Rattle.std.specs.Prelude.{reverse, not}
use Rattle.std.specs.List.{AllByRecursion, filter_map}
use Rattle.std.proofs.lemmas.List.{reverse-append, take_more, take_all, length-map}
use Rattle.std.proofs.lemmas.List.Elements.{filter_map-append}
use Rattle.whips_lists.specs.Lists.{places_from}
use Rattle.whips_model.specs.Tuples.{Codes, Columns, at_columns, has_key, row_at, put_row, without_key, IsKeyed}
use Rattle.whips_model.specs.Relation.{Table}
use Rattle.whips_model.proofs.Keyed.{keyed_put, keyed_filter, all_at}
use Rattle.whips_choices.proofs.Rows.{key_is}
use Rattle.whips_trans_laws.proofs.ByKey.{at_put, same_by_key}
use Rattle.whips_changes.specs.Changes.{need}
use Rattle.whips_vnl.specs.Records.{visible, steps_or_none}
use Rattle.whips_vnl.specs.declared.record.Vstep.{Vstep}
use Rattle.whips_store.specs.Versions.{row_seen, rows_shown_at}
use Rattle.whips_store.specs.Sound.{StepsHaveWidth}
use Rattle.whips_store_laws.proofs.Unions.{other_same, has_own_key}
use Rattle.whips_store_laws.proofs.Slots.{row_of_seen}
use Rattle.whips_store_laws.proofs.Views.{wide_seen}
use Rattle.whips_slot_index.specs.Slots.{all_steps}
use Rattle.whips_plain_store.specs.Plain.{put_all, put_values}
use Rattle.whips_slot_index.proofs.Found.{steps_at}

put_again : (cols : List ℕ) (t : Codes) (rows : List Codes) → IsKeyed cols rows → put_row cols t (without_key cols (at_columns cols t) rows) ≡ put_row cols t rows
put_again cols t rows h = same_by_key cols (put_row cols t (without_key cols (at_columns cols t) rows)) (put_row cols t rows)
    (keyed_put cols t (without_key cols (at_columns cols t) rows) (keyed_filter cols (λ u. not (has_key cols (at_columns cols t) u)) rows h)) (keyed_put cols t rows h)
    (λ k. at_put cols k t (without_key cols (at_columns cols t) rows) ∙ go k (has_key cols k t) refl ∙ sym (at_put cols k t rows))
  where
    go : (k : Codes) (b : Bool) → has_key cols k t ≡ b → cond (has_key cols k t) (Some t) (row_at cols k (without_key cols (at_columns cols t) rows)) ≡ cond (has_key cols k t) (Some t) (row_at cols k rows)
    go k true e = rw e refl
    go k false e = ap (λ o. cond (has_key cols k t) (Some t) o) (other_same cols k (at_columns cols t) rows (λ same. absurd (let own : true ≡ false = sym (has_own_key cols t) ∙ subst (λ q. has_key cols q t ≡ false) same e in cc)))

pub replaced : (old gone new : Table) (row copy key : Codes) → IsKeyed old.columns.key old.rows → copy ≡ row → key ≡ at_columns old.columns.key row → gone ≡ record old { rows = without_key old.columns.key key old.rows }
    → new ≡ record gone { rows = put_row gone.columns.key copy gone.rows } → new ≡ record old { rows = put_row old.columns.key row old.rows }
replaced old gone new row copy key h same is a b =
    b ∙ ap (λ (t : Table). record t { rows = put_row t.columns.key copy t.rows }) a
    ∙ ap (λ (c : Codes). record old { rows = put_row old.columns.key c (without_key old.columns.key key old.rows) }) same
    ∙ ap (λ (k : Codes). record old { rows = put_row old.columns.key row (without_key old.columns.key k old.rows) }) is
    ∙ ap (λ (l : List Codes). record old { rows = l }) (put_again old.columns.key row old.rows h)

all_then : (cols : List ℕ) (rows ts us : List Codes) → put_all cols rows (ts ++ us) ≡ put_all cols (put_all cols rows ts) us
all_then cols rows [] us = refl
all_then cols rows (t ∷ ts) us = all_then cols (put_row cols t rows) ts us

values_then : (cols : List ℕ) (rows : List Codes) (values : List (List Codes)) (ts : List Codes) → put_values cols rows (values ++ ts ∷ []) ≡ put_all cols (put_values cols rows values) ts
values_then cols rows [] ts = refl
values_then cols rows (us ∷ values) ts = values_then cols (put_all cols rows us) values ts

-- one slot more
pub slot_put : (start before after : Table) (records : List (Option (List Vstep))) (i n v : ℕ) (r : Option (List Vstep)) → i < length records → r ≡ get_or records i r
    → before ≡ record start { rows = put_all start.columns.key start.rows (rows_shown_at n v (take i (all_steps records))) }
    → after ≡ record before { rows = put_all before.columns.key before.rows (rows_shown_at n v (steps_or_none r ∷ [])) }
    → after ≡ record start { rows = put_all start.columns.key start.rows (rows_shown_at n v (take (i + 1) (all_steps records))) }
slot_put start before after records i n v r lt is a b =
    let count = length-map records steps_or_none in
    let more : take (i + 1) (all_steps records) ≡ take i (all_steps records) ++ steps_or_none r ∷ [] = take_more (all_steps records) i [] (omega arith) ∙ ap (λ s. take i (all_steps records) ++ s ∷ []) (steps_at records i r lt ∙ ap steps_or_none (sym is)) in
    let rows : rows_shown_at n v (take (i + 1) (all_steps records)) ≡ rows_shown_at n v (take i (all_steps records)) ++ rows_shown_at n v (steps_or_none r ∷ []) =
    ap (rows_shown_at n v) more ∙ filter_map-append (λ steps. row_seen (visible n v steps)) (take i (all_steps records)) (steps_or_none r ∷ []) in
    b ∙ ap (λ (t : Table). record t { rows = put_all t.columns.key t.rows (rows_shown_at n v (steps_or_none r ∷ [])) }) a
    ∙ ap (λ (l : List Codes). record start { rows = l }) (sym (ap (put_all start.columns.key start.rows) rows ∙ all_then start.columns.key start.rows (rows_shown_at n v (take i (all_steps records))) (rows_shown_at n v (steps_or_none r ∷ []))))

pub all_slots : (start after : Table) (records : List (Option (List Vstep))) (i n v : ℕ) → length records ≤ i → after ≡ record start { rows = put_all start.columns.key start.rows (rows_shown_at n v (take i (all_steps records))) }
    → after ≡ record start { rows = put_all start.columns.key start.rows (rows_shown_at n v (all_steps records)) }
all_slots start after records i n v le a = let count = length-map records steps_or_none in a ∙ ap (λ l. record start { rows = put_all start.columns.key start.rows (rows_shown_at n v l) }) (take_all i (all_steps records) (omega arith))

pub slot_wide : (start before : Table) (records : List (Option (List Vstep))) (rows : List Codes) (i : ℕ) (r : Option (List Vstep)) → before ≡ record start { rows = rows } → AllByRecursion (StepsHaveWidth (length start.columns.kinds)) (all_steps records) → i < length records → r ≡ get_or records i r
    → StepsHaveWidth (length before.columns.kinds) (steps_or_none r)
slot_wide start before records rows i r a h lt is =
    let count = length-map records steps_or_none in
    subst (λ (columns : Columns). StepsHaveWidth (length columns.kinds) (steps_or_none r)) (sym (ap (λ (t : Table). t.columns) a))
    (subst (StepsHaveWidth (length start.columns.kinds)) (steps_at records i r lt ∙ ap steps_or_none (sym is)) (all_at (StepsHaveWidth (length start.columns.kinds)) (all_steps records) i [] h (omega arith)))

pub row_wide : (width n v : ℕ) (steps : List Vstep) (t : Codes) → StepsHaveWidth width steps → Some t ≡ row_seen (visible n v steps) → length t ≡ width
row_wide width n v steps t h e = wide_seen width n v steps t h (row_of_seen (visible n v steps) t (sym e))

-- a version more, older than those before
pub version_put : (f : ℕ → List Codes) (start before after : Table) (first count : ℕ) → (count ≡ 0 → ⊥) → before ≡ record start { rows = put_values start.columns.key start.rows (reverse (map f (places_from (first + 1) (count - 1)))) }
    → after ≡ record before { rows = put_all before.columns.key before.rows (f first) } → after ≡ record start { rows = put_values start.columns.key start.rows (reverse (map f (places_from first count))) }
version_put f start before after first zero some a b = absurd (some refl)
version_put f start before after first (suc m) some a b =
    let next : first + 1 ≡ suc first = omega arith in
    let left : suc m - 1 ≡ m = omega arith in
    let was : before ≡ record start { rows = put_values start.columns.key start.rows (reverse (map f (places_from (suc first) m))) } = a ∙ ap (λ k. record start { rows = put_values start.columns.key start.rows (reverse (map f (places_from k (suc m - 1)))) }) next ∙ ap (λ k. record start { rows = put_values start.columns.key start.rows (reverse (map f (places_from (suc first) k))) }) left in
    b ∙ ap (λ (t : Table). record t { rows = put_all t.columns.key t.rows (f first) }) was
    ∙ ap (λ (l : List Codes). record start { rows = l }) (sym (ap (put_values start.columns.key start.rows) (reverse-append (f first ∷ []) (map f (places_from (suc first) m))) ∙ values_then start.columns.key start.rows (reverse (map f (places_from (suc first) m))) (f first)))

pub keys_counted : (cols : List ℕ) (f : ℕ → List Codes) (versions : List ℕ) (after : List Codes) → length (put_values cols (put_all cols [] after) (reverse (map f versions))) ≡ need cols (map f versions ++ after ∷ [])
keys_counted cols f versions after = ap (λ values. length (put_values cols [] values)) (sym (reverse-append (map f versions) (after ∷ [])))

pub keys_found : (schema copied : Columns) (start mid last : Table) (after lent : List Codes) (records known : List (Option (List Vstep))) (n first count : ℕ) (versions : List ℕ) (m : ℕ) → start ≡ record { columns = copied; rows = [] } → copied ≡ schema
    → mid ≡ record start { rows = put_all start.columns.key start.rows lent } → lent ≡ after → known ≡ records
    → last ≡ record mid { rows = put_values mid.columns.key mid.rows (reverse (map (λ v. rows_shown_at n v (all_steps known)) (places_from first count))) } → places_from first count ≡ versions → m ≡ length last.rows
    → m ≡ need schema.key (map (λ v. rows_shown_at n v (all_steps records)) versions ++ after ∷ [])
keys_found schema copied start mid last after lent records known n first count versions m a b d e g h i j =
    let empty : Table = record { columns = schema; rows = [] } in
    let begins : start ≡ empty = a ∙ ap (λ (c : Columns). record empty { columns = c }) b in
    let middle : mid ≡ record empty { rows = put_all schema.key [] after } =
    d ∙ ap (λ (t : Table). record t { rows = put_all t.columns.key t.rows lent }) begins ∙ ap (λ (l : List Codes). record empty { rows = put_all schema.key [] l }) e in
    let whole : last.rows ≡ put_values schema.key (put_all schema.key [] after) (reverse (map (λ v. rows_shown_at n v (all_steps records)) versions)) =
    ap (λ (t : Table). t.rows) h ∙ ap (λ (t : Table). put_values t.columns.key t.rows (reverse (map (λ v. rows_shown_at n v (all_steps known)) (places_from first count)))) middle
    ∙ ap (λ k. put_values schema.key (put_all schema.key [] after) (reverse (map (λ v. rows_shown_at n v (all_steps k)) (places_from first count)))) g
    ∙ ap (λ l. put_values schema.key (put_all schema.key [] after) (reverse (map (λ v. rows_shown_at n v (all_steps records)) l))) i in
    j ∙ ap length whole ∙ keys_counted schema.key (λ v. rows_shown_at n v (all_steps records)) versions after
