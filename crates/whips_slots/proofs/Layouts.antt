-- The first words of a board, view by view.
use Rattle.std.proofs.Common.{◌≡◌, ℕ, zero, suc, ◌+◌, ◌-◌, ◌*◌, ◌<◌, ◌≤◌, List, [], ◌∷◌, ◌++◌, length, map, take, get_or, Some, None, refl, sym, ap, ap₂, subst, ◌∙◌, arith, append_assoc, append-nil}
use Rattle.std.specs.Prelude.{replicate, slice_get}
use Rattle.std.specs.List.{flat_map}
use Rattle.std.proofs.Math.Nat.{suc-mul}
use Rattle.std.proofs.lemmas.List.{replicate-append-replicate, take_all, take_more, flat_map_more}
use Rattle.std.proofs.lemmas.List.Concat.{flat_map-append}
use Rattle.std.proofs.lemmas.List.Folds.{flat_map-map}
use Rattle.whips_model.specs.Tuples.{Codes}
use Rattle.whips_model.specs.Relation.{Table, value_of}
use Rattle.whips_rel.specs.Chunks.{joined}
use Rattle.whips_view.specs.ViewDefs.{View}
use Rattle.whips_setup.specs.Setups.{SetupData, view_value}
use Rattle.whips_setup.specs.Refusals.{IsSetup}
use Rattle.whips_slot_words.specs.Words.{ViewShape, slot_words, view_words, views_words}
use Rattle.whips_slot_words.specs.Laws.{AreFirstRows}
use Rattle.whips_slot_words.specs.Slots.{board_size}
use Rattle.whips_slot_words.specs.StoreLaws.{shapes_of, shape_of, first_values}
use Rattle.whips_slot_words.proofs.FirstStore.{layout_first}
use Rattle.whips_slot_laws.proofs.Calls.{rows_fit}
use Rattle.whips_slots.specs.Boards.{first_words, row_slot}
use Rattle.whips_slots.proofs.Small.{setup_versions, shape_there, shape_count}

-- ---- the slots of one view

row_slots : (n width : ℕ) (rows : List Codes) → flat_map (slot_words n width) (map Some rows) ≡ flat_map (row_slot ((n - 1) * suc width)) rows
row_slots n width rows = flat_map-map (slot_words n width) Some rows

blank_slots : (n width m : ℕ) → flat_map (slot_words n width) (replicate m None) ≡ replicate (m * (n * suc width)) 0
blank_slots n width zero = let e : zero * (n * suc width) ≡ 0 = omega arith in rw e refl
blank_slots n width (suc m) =
    let e : suc m * (n * suc width) ≡ n * suc width + m * (n * suc width) = omega (arith, suc-mul m (n * suc width)) in
    rw e (ap (λ l. replicate (n * suc width) 0 ++ l) (blank_slots n width m) ∙ replicate-append-replicate (n * suc width) (m * (n * suc width)) 0)

pub view_put : (n width slots entry count : ℕ) (rows : List Codes) (old mid new : List ℕ) → entry ≡ suc width → count ≡ length rows
    → mid ≡ old ++ flat_map (row_slot ((n - 1) * entry)) rows → new ≡ mid ++ replicate ((slots - count) * (n * entry)) 0 → new ≡ old ++ view_words n (record { width = width; slots = slots }) rows
view_put n width slots entry count rows old mid new e c a b =
    b ∙ ap (λ m. m ++ replicate ((slots - count) * (n * entry)) 0) a
    ∙ ap₂ (λ k j. old ++ flat_map (row_slot ((n - 1) * k)) rows ++ replicate ((slots - j) * (n * k)) 0) e c
    ∙ append_assoc old (flat_map (row_slot ((n - 1) * suc width)) rows) (replicate ((slots - length rows) * (n * suc width)) 0)
    ∙ ap (λ l. old ++ l) (ap₂ (λ l m. l ++ m) (sym (row_slots n width rows)) (sym (blank_slots n width (slots - length rows)))
    ∙ sym (flat_map-append (slot_words n width) (map Some rows) (replicate (slots - length rows) None)))

-- ---- rows in chunks

joined_join : (cs ds : List (List Codes)) → joined (cs ++ ds) ≡ joined cs ++ joined ds
joined_join [] ds = refl
joined_join (c ∷ cs) ds = ap (λ rows. c ++ rows) (joined_join cs ds) ∙ sym (append_assoc c (joined cs) (joined ds))

pub chunk_more : (zeros i : ℕ) (chunks : List (List Codes)) (chunk : List Codes) (start before after : List ℕ) → i < length chunks → chunk ≡ get_or chunks i chunk
    → before ≡ start ++ flat_map (row_slot zeros) (joined (take i chunks)) → after ≡ before ++ flat_map (row_slot zeros) chunk → after ≡ start ++ flat_map (row_slot zeros) (joined (take (i + 1) chunks))
chunk_more zeros i chunks chunk start before after lt at so_far step =
    rw (take_more chunks i chunk lt, ← at, joined_join (take i chunks) (chunk ∷ []), append-nil chunk, flat_map-append (row_slot zeros) (joined (take i chunks)) chunk)
    (step ∙ ap (λ l. l ++ flat_map (row_slot zeros) chunk) so_far ∙ append_assoc start (flat_map (row_slot zeros) (joined (take i chunks))) (flat_map (row_slot zeros) chunk))

pub row_more : (zeros i : ℕ) (rows : List Codes) (row : Codes) (start before one two after : List ℕ) → i < length rows → row ≡ get_or rows i row
    → before ≡ start ++ flat_map (row_slot zeros) (take i rows) → one ≡ before ++ replicate zeros 0 → two ≡ one ++ 1 ∷ [] → after ≡ two ++ row → after ≡ start ++ flat_map (row_slot zeros) (take (i + 1) rows)
row_more zeros i rows row start before one two after lt at so_far a b c =
    rw (take_more rows i row lt, ← at)
    (c ∙ ap (λ l. l ++ row) (b ∙ ap (λ l. l ++ 1 ∷ []) a)
    ∙ ap (λ l. l ++ row) (append_assoc before (replicate zeros 0) (1 ∷ []))
    ∙ append_assoc before (replicate zeros 0 ++ 1 ∷ []) row
    ∙ ap₂ (λ l m. l ++ m) so_far (append_assoc (replicate zeros 0) (1 ∷ []) row)
    ∙ flat_map_more (row_slot zeros) start (take i rows) row)

-- ---- all views

next_views : (n x : ℕ) (vs : List ViewShape) (values : List (List Codes)) (v : ViewShape) (rows : List Codes) → slice_get vs x ≡ Some v → slice_get values x ≡ Some rows
    → views_words n (take (suc x) vs) (take (suc x) values) ≡ views_words n (take x vs) (take x values) ++ view_words n v rows
next_views n x [] values v rows e f = absurd (cc)
next_views n x (w ∷ vs) [] v rows e f = absurd (cc)
next_views n zero (w ∷ vs) (r ∷ values) v rows e f =
    let same : w ≡ v = cc in
    let also : r ≡ rows = cc in
    append-nil (view_words n w r) ∙ ap₂ (view_words n) same also
next_views n (suc x) (w ∷ vs) (r ∷ values) v rows e f =
    ap (λ l. view_words n w r ++ l) (next_views n x vs values v rows e f)
    ∙ sym (append_assoc (view_words n w r) (views_words n (take x vs) (take x values)) (view_words n v rows))

value_there : (db : List Table) (views : List View) (slots : List ℕ) (x n : ℕ) (view : View) → slice_get views x ≡ Some view → slice_get slots x ≡ Some n
    → slice_get (first_values db views slots) x ≡ Some (value_of view.parts db)
value_there db [] slots x n view e f = absurd (cc)
value_there db (v ∷ views) [] x n view e f = absurd (cc)
value_there db (v ∷ views) (m ∷ slots) zero n view e f = let same : v ≡ view = cc in ap (λ (w : View). Some (value_of w.parts db)) same
value_there db (v ∷ views) (m ∷ slots) (suc x) n view e f = value_there db views slots x n view e f

value_count : (db : List Table) (views : List View) (slots : List ℕ) → length slots ≡ length views → length (first_values db views slots) ≡ length views
value_count db [] slots e = refl
value_count db (v ∷ views) [] e = absurd (omega (arith, e))
value_count db (v ∷ views) (n ∷ slots) e = ap suc (value_count db views slots (omega (arith, e)))

-- the first words as far as the views before view x
abbrev pub laid : SetupData → ℕ → List ℕ
laid s x = 0 ∷ views_words s.versions (take x (shapes_of s.views s.slots)) (take x (first_values s.initial s.views s.slots))

pub laid_more : (s : SetupData) (x n versions : ℕ) (view : View) (rows : Table) (words new : List ℕ) → slice_get s.views x ≡ Some view → slice_get s.slots x ≡ Some n → versions ≡ s.versions → rows ≡ view_value s.initial view
    → words ≡ laid s x → new ≡ words ++ view_words versions (record { width = length rows.columns.kinds; slots = n }) rows.rows → new ≡ laid s (x + 1)
laid_more s x n versions view rows words new e f many is so_far step =
    let next : x + 1 ≡ suc x = omega arith in
    step ∙ ap (λ k. words ++ view_words k (record { width = length rows.columns.kinds; slots = n }) rows.rows) many
    ∙ ap₂ (λ l (t : Table). l ++ view_words s.versions (record { width = length t.columns.kinds; slots = n }) t.rows) so_far is
    ∙ ap (λ l. 0 ∷ l) (sym (next_views s.versions x (shapes_of s.views s.slots) (first_values s.initial s.views s.slots) (record { width = length (view_value s.initial view).columns.kinds; slots = n }) (value_of view.parts s.initial)
    (shape_there s.views s.slots x n view e f) (value_there s.initial s.views s.slots x n view e f)))
    ∙ ap (laid s) (sym next)

pub laid_all : (s : SetupData) (x : ℕ) → length s.slots ≡ length s.views → length s.views ≤ x → laid s x ≡ first_words s
laid_all s x each past =
    let vs = shape_count s.views s.slots each in
    let rows = value_count s.initial s.views s.slots each in
    ap₂ (λ a b. 0 ∷ views_words s.versions a b) (take_all x (shapes_of s.views s.slots) (omega (arith, vs, past))) (take_all x (first_values s.initial s.views s.slots) (omega (arith, rows, past)))

pub first_count : (s : SetupData) → IsSetup s → length (first_words s) ≡ board_size (shape_of s)
first_count s h =
    let two = (setup_versions s h).0 in
    (layout_first (shape_of s) (first_values s.initial s.views s.slots) (omega (arith, two)) (rows_fit s h)).0

room_at : (db : List Table) (views : List View) (slots : List ℕ) (x n : ℕ) (view : View) → AreFirstRows (shapes_of views slots) (first_values db views slots) → slice_get views x ≡ Some view → slice_get slots x ≡ Some n → length (value_of view.parts db) ≤ n
room_at db [] slots x n view fits e f = absurd (cc)
room_at db (v ∷ views) [] x n view fits e f = absurd (cc)
room_at db (v ∷ views) (m ∷ slots) zero n view fits e f =
    let same : v ≡ view = cc in
    let also : m ≡ n = cc in
    subst (λ k. length (value_of view.parts db) ≤ k) also (subst (λ (w : View). length (value_of w.parts db) ≤ m) same fits.0.1)
room_at db (v ∷ views) (m ∷ slots) (suc x) n view fits e f = room_at db views slots x n view fits.1 e f

pub setup_room : (s : SetupData) → IsSetup s → (x n : ℕ) (view : View) → slice_get s.views x ≡ Some view → slice_get s.slots x ≡ Some n → length (value_of view.parts s.initial) ≤ n
setup_room s h x n view e f = room_at s.initial s.views s.slots x n view (rows_fit s h) e f
