-- What the loads of a slot say.
use Rattle.std.proofs.Common.{◌≡◌, ◌≢◌, inl, inr, eqb, not, ℕ, zero, suc, ◌+◌, ◌<◌, Bool, true, false, cond, List, [], ◌∷◌, ◌++◌, length, drop, refl, sym, ap, ap₂, ◌∙◌, arith, append_assoc, append-nil, length-append}
use Rattle.std.specs.Prelude.{◌==◌, ◌%◌, slice_index}
use Rattle.std.specs.List.{list_any}
use Rattle.std.proofs.lemmas.Bool.{eqb-false}
use Rattle.std.proofs.lemmas.List.{drop-append-le, drop_all}
use Rattle.whips_model.specs.Tuples.{Codes}
use Rattle.whips_row_buf.specs.Buffers.{Buffer, put_behind}
use Rattle.whips_vnl.specs.Records.{Seen, seen_row, seen_nothing, seen_past, shown_of}
use Rattle.whips_vnl.specs.declared.record.Shown.{Shown}
use Rattle.whips_vnl.specs.declared.record.Shown.TheVariants.{Row}
use Rattle.whips_store.specs.Stores.{with_seen}
use Rattle.whips_store.specs.Reads.{Log, PhaseSaid, RowSaid}
use Rattle.whips_slot_words.specs.Words.{view_shape, header_place, column_place, greatest, taken, entry_of, seen_of}
use Rattle.whips_slot_words.specs.Loads.{words_at, width_loaded, ReadsSlot}
use Rattle.whips_slot_words.specs.StoreLaws.{shape_of}
use Rattle.whips_slot_words.proofs.Headers.{takes_or_none, greatest_taken, greatest_none}
use Rattle.whips_board_look.specs.Looks.{BoardBase, look_phase_says, look_row_says}
use Rattle.whips_board_look.specs.Laws.{words_seen}

-- ---- the cases: no entry, some blank entry, a removal

seen_by : Bool → Bool → Bool → Codes → Seen
seen_by none blank removed t = cond none (cond blank seen_nothing seen_past) (cond removed seen_nothing (seen_row t))

loaded_by : Bool → Bool → ℕ → ℕ
loaded_by none removed width = cond none 0 (cond removed 0 width)

row_by : (none blank removed : Bool) (t : Codes) (width : ℕ) → Row ≡ shown_of (seen_by none blank removed t) → (seen_by none blank removed t ≡ seen_row t) × (loaded_by none removed width ≡ width) × (none ≡ false)
unfolding seen_by loaded_by
row_by true true removed t width e = absurd (cc)
row_by true false removed t width e = absurd (cc)
row_by false blank true t width e = absurd (cc)
row_by false blank false t width e = (refl, refl, refl)

none_by : (none blank removed : Bool) (t : Codes) (width : ℕ) (shown : Shown) → (shown ≡ Row → ⊥) → shown ≡ shown_of (seen_by none blank removed t)
    → (loaded_by none removed width ≡ 0) × ((b : Buffer) → b ≡ with_seen (seen_by none blank removed t) b)
unfolding seen_by loaded_by
none_by true true removed t width shown other e = (refl, λ b. refl)
none_by true false removed t width shown other e = (refl, λ b. refl)
none_by false blank true t width shown other e = (refl, λ b. refl)
none_by false blank false t width shown other e = absurd (other e)

seen_words : (none blank removed : Bool) (t : Codes) (width : ℕ) → words_seen width (seen_by none blank removed t) ≡ loaded_by none removed width
unfolding seen_by loaded_by
seen_words true true removed t width = refl
seen_words true false removed t width = refl
seen_words false blank true t width = refl
seen_words false blank false t width = refl

pub row_shown : (v : ℕ) (hs : List ℕ) (row : ℕ → Codes) (width : ℕ) → Row ≡ shown_of (seen_of v hs row) → (seen_of v hs row ≡ seen_row (row (taken v hs))) × (width_loaded width v hs ≡ width) × ((greatest v hs == 0) ≡ false)
unfolding seen_by loaded_by
row_shown v hs row width e = row_by (greatest v hs == 0) (list_any (λ h. h == 0) hs) (greatest v hs % 4 == 3) (row (taken v hs)) width e

pub none_shown : (v : ℕ) (hs : List ℕ) (row : ℕ → Codes) (width : ℕ) (shown : Shown) → (shown ≡ Row → ⊥) → shown ≡ shown_of (seen_of v hs row) → (width_loaded width v hs ≡ 0) × ((b : Buffer) → b ≡ with_seen (seen_of v hs row) b)
unfolding seen_by loaded_by
none_shown v hs row width shown other e = none_by (greatest v hs == 0) (list_any (λ h. h == 0) hs) (greatest v hs % 4 == 3) (row (taken v hs)) width shown other e

pub words_shown : (v : ℕ) (hs : List ℕ) (row : ℕ → Codes) (width : ℕ) → words_seen width (seen_of v hs row) ≡ width_loaded width v hs
unfolding seen_by loaded_by
words_shown v hs row width = seen_words (greatest v hs == 0) (list_any (λ h. h == 0) hs) (greatest v hs % 4 == 3) (row (taken v hs)) width

-- ---- the log goes on

behind : (old rest new : Log) → new ≡ old ++ rest → drop (length old) new ≡ rest
behind old rest new is =
    ap (drop (length old)) is ∙ drop-append-le (length old) old rest (omega arith) ∙ ap (λ l. l ++ rest) (drop_all (length old) old (omega arith))

pub phase_said : (base : BoardBase) (old new : Log) (phase : ℕ) → new ≡ old ++ (0, phase) ∷ [] → PhaseSaid {B = BoardBase} look_phase_says base old new phase
phase_said base old new phase is =
    let count = ap length is in
    let more = length-append old ((0, phase) ∷ []) in
    record { rest = (0, phase) ∷ []; goes_on = is; said = ([], behind old ((0, phase) ∷ []) new is, omega (arith, count, more), omega (arith, count, more)) }

row_said : (base : BoardBase) (x i v : ℕ) (seen : Seen) (old new rest : Log) → new ≡ old ++ rest → ReadsSlot (shape_of base.0) x i v rest seen → RowSaid {B = BoardBase} look_row_says base old new x i v seen
row_said base x i v seen old new rest is reads =
    let count = ap length is in
    let more = length-append old rest in
    record { rest = rest; goes_on = is; said = (rest, [], behind old rest new is ∙ sym (append-nil rest), omega (arith, count, more), omega (arith, count, more), reads) }

-- what a reader is answered about a slot
abbrev pub RowAnswer : BoardBase → (old new : Log) → (x i v : ℕ) → Shown → (before after : Buffer) → Type 0
RowAnswer base old new x i v shown before after =
    (seen : Seen) × (shown ≡ shown_of seen) × (after ≡ with_seen seen before) × RowSaid {B = BoardBase} look_row_says base old new x i v seen

-- a row was loaded
pub row_answer : (base : BoardBase) (x i v e : ℕ) (hs row : List ℕ) (old mid new : Log) (before after : Buffer) → length hs ≡ base.0.versions → length row ≡ (view_shape (shape_of base.0) x).width → e ≡ taken v hs
    → ((r : ℕ → Codes) → Row ≡ shown_of (seen_of v hs r)) → mid ≡ old ++ words_at (header_place (shape_of base.0) x i) 0 hs → new ≡ mid ++ words_at (column_place (shape_of base.0) x i e) 0 row
    → after ≡ record before { rows = put_behind before.columns.key row before.rows } → RowAnswer base old new x i v Row before after
row_answer base x i v e hs row old mid new before after count wide entry shown first second put =
    let is = row_shown v hs (λ e. row) (view_shape (shape_of base.0) x).width (shown (λ e. row)) in
    let loads = words_at (header_place (shape_of base.0) x i) 0 hs ++ words_at (column_place (shape_of base.0) x i (taken v hs)) 0 row in
    let whole : new ≡ old ++ loads =
    second ∙ ap₂ (λ l k. l ++ words_at (column_place (shape_of base.0) x i k) 0 row) first entry ∙ append_assoc old (words_at (header_place (shape_of base.0) x i) 0 hs) (words_at (column_place (shape_of base.0) x i (taken v hs)) 0 row) in (
      seen_of v hs (λ e. row),
      shown (λ e. row),
      put ∙ sym (ap (λ s. with_seen s before) is.0),
      row_said base x i v (seen_of v hs (λ e. row)) old new loads whole (record { hs = hs; row = row; count = count; width = wide ∙ sym is.1; loaded = refl; answer = refl }),
    )

-- no row is shown
pub none_answer : (base : BoardBase) (x i v : ℕ) (hs : List ℕ) (old new : Log) (shown : Shown) (before after : Buffer) → length hs ≡ base.0.versions → (shown ≡ Row → ⊥)
    → ((r : ℕ → Codes) → shown ≡ shown_of (seen_of v hs r)) → new ≡ old ++ words_at (header_place (shape_of base.0) x i) 0 hs → after ≡ before → RowAnswer base old new x i v shown before after
none_answer base x i v hs old new shown before after count other says first put =
    let is = none_shown v hs (λ e. []) (view_shape (shape_of base.0) x).width shown other (says (λ e. [])) in (
      seen_of v hs (λ e. []),
      says (λ e. []),
      put ∙ is.1 before,
      row_said base x i v (seen_of v hs (λ e. [])) old new (words_at (header_place (shape_of base.0) x i) 0 hs) first
          (record { hs = hs; row = []; count = count; width = sym is.0; loaded = sym (append-nil (words_at (header_place (shape_of base.0) x i) 0 hs)); answer = refl }),
    )

-- ---- the entry that is taken is there

entry_there : (g e : ℕ) (hs : List ℕ) → e < length hs → slice_index hs e ≡ g → entry_of g hs < length hs
entry_there g e [] lt is = absurd (omega arith)
entry_there g e (h ∷ hs) lt is = go (eqb h g) refl (more e lt is (λ d less same. entry_there g d hs less same))
  where
    more : (e : ℕ) → e < suc (length hs) → slice_index (h ∷ hs) e ≡ g → ((d : ℕ) → d < length hs → slice_index hs d ≡ g → entry_of g hs < length hs) → h ≢ g → entry_of g hs < length hs
    more zero lt is later other = absurd (other is)
    more (suc d) lt is later other = later d (omega arith) is

    go : (b : Bool) → eqb h g ≡ b → (h ≢ g → entry_of g hs < length hs) → cond (not b) (1 + entry_of g hs) 0 < suc (length hs)
    go true f rest = omega arith
    go false f rest = let m = rest (eqb-false h g f) in omega (arith, m)

pub taken_there : (v : ℕ) (hs : List ℕ) → ((r : ℕ → Codes) → Row ≡ shown_of (seen_of v hs r)) → taken v hs < length hs
taken_there v hs shown =
    let some = (row_shown v hs (λ e. []) 0 (shown (λ e. []))).2 in
    elim (takes_or_none v hs) [
      | inl t ↦ entry_there (greatest v hs) t.0 hs t.1.place (sym (greatest_taken v t.0 hs t.1))
      | inr none ↦ absurd (eqb-false (greatest v hs) 0 some (greatest_none v hs none))
    ]
