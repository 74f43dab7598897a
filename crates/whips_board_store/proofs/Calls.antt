-- The calls of a store on a board, by what its pen stores.
use Rattle.std.proofs.Common.{◌≡◌, inl, ℕ, suc, ◌/◌, ◌%◌, ◌<◌, ◌≤◌, List, [], ◌∷◌, ◌++◌, length, Some, None, refl, sym, ap, subst, ◌∙◌, arith}
use Rattle.std.specs.Prelude.{◌^◌}
use Rattle.whips_rel.specs.declared.update.Change.{Change}
use Rattle.whips_board.specs.Seats.{BoardId, PenState}
use Rattle.whips_board.specs.History.{words_after, IsLawful}
use Rattle.whips_board.proofs.Histories.{length-words_after}
use Rattle.whips_setup.specs.Setups.{SetupData}
use Rattle.whips_setup.specs.Refusals.{IsSetup}
use Rattle.whips_store.specs.Stores.{StoreState, ChangeLists, view_in, changes_left}
use Rattle.whips_store.specs.Calls.{AreNet, shortage, begun, changed_once, published}
use Rattle.whips_store.specs.First.{store_at_first}
use Rattle.whips_store.specs.Sound.{IsSoundStore}
use Rattle.whips_slot_words.specs.Words.{Shape, IsSlotOf, phase_of}
use Rattle.whips_slot_words.specs.Stores.{IsAllowed}
use Rattle.whips_slot_words.specs.Slots.{change_stores, board_size}
use Rattle.whips_slot_words.specs.StoreLaws.{HoldsStore, IsNextChange, shape_of}
use Rattle.whips_slot_words.proofs.Board.{records_count}
use Rattle.whips_slot_words.proofs.Stored.{change_next}
use Rattle.whips_slots.specs.Boards.{first_words}
use Rattle.whips_plain.specs.Plain.{IsFirstLeft}
use Rattle.whips_board_store.specs.Words.{words_now}
use Rattle.whips_board_store.specs.Past.{keys_of, past_on_board, values_told}
use Rattle.whips_board_store.specs.Stores.{BoardState, told, CarriesTold, IsKept, StoresNext}
use Rattle.whips_board_store.proofs.Kept.{carries_past, first_kept, begun_past, begun_kept, changed_past, changed_kept, published_past, published_kept}

module _ (setup : SetupData) (pen : PenState Shape) (s : StoreState) (h : IsKept setup pen.board pen.history s) where
  -- the words on the board hold the store
  pub held_now : HoldsStore (shape_of setup) (words_now pen) s
  held_now = subst (λ f. HoldsStore (shape_of setup) (words_after f pen.history) s) (sym h.first) h.carried.held.store

  pub board_length : length pen.board.first ≡ board_size (shape_of setup)
  board_length = sym (length-words_after pen.board.first pen.history) ∙ held_now.size

  pub phase_place : 0 < length pen.board.first
  phase_place = omega (arith, board_length)

  pub phase_allowed : (p : ℕ) → p ≡ suc s.phase → IsAllowed pen.board.law (words_now pen) 0 p
  phase_allowed p is = inl (refl, is ∙ ap suc held_now.phase)

  -- ---- the next change

  module _ (x i : ℕ) (change : Change) (f : IsFirstLeft s.versions (s.phase / 2) s.views x i change) where
    pub next_is : IsNextChange s x i change f.first.others
    next_is = record { view = f.view; earlier = f.earlier; left = f.first.left; slot = f.first.slot }

    pub next_slot : IsSlotOf (shape_of setup) x i
    next_slot =
        let hn = held_now in
        let view = f.view in
        let there = f.first.there in
        let count = hn.count in
        let many = ap length (hn.records x f.view) ∙ records_count (shape_of setup) (words_now pen) x in
        record { view = omega (arith, view, count); slot = omega (arith, there, many) }

    pub next_lawful : IsLawful (IsAllowed (shape_of setup)) (words_now pen) (change_stores (shape_of setup) (words_now pen) x i change)
    next_lawful = (change_next (shape_of setup) (words_now pen) s x i change f.first.others held_now h.carried.sound next_is).0

-- ---- calls

-- what a call does: what is kept is kept of the store t, and what contracts see of the store is this
abbrev pub Goes : SetupData → PenState Shape → PenState Shape → StoreState → StoreState → Type 0
Goes setup old new t seen = IsKept setup new.board new.history t × (told setup new.history t ≡ seen) × (new.board ≡ old.board)

begin_goes : (setup : SetupData) (old new : PenState Shape) (s t : StoreState) (cs : ChangeLists) (p : ℕ) → IsKept setup old.board old.history s → s.phase % 2 ≡ 0 → s.phase < 2 ^ 62 → AreNet s.views cs → shortage s cs ≡ None
    → t ≡ begun cs s → IsSoundStore t → p ≡ t.phase → new ≡ record old { history = old.history ++ (0, p) ∷ [] } → Goes setup old new t (begun cs (told setup old.history s))
begin_goes setup old new s t cs p h even low net room is sound phase stored =
    let next : p ≡ suc s.phase = phase ∙ ap (λ (u : StoreState). u.phase) is in
    subst (λ (q : PenState Shape). Goes setup old q t (begun cs (told setup old.history s))) (sym stored)
    (subst (λ u. Goes setup old (record old { history = old.history ++ (0, p) ∷ [] }) u (begun cs (told setup old.history s))) (sym is) (
      begun_kept setup old.board old.history s cs p h even low net room (subst IsSoundStore is sound) next,
      ap (λ past. record (begun cs s) { past = Some past }) (begun_past setup old.history s p even next),
      refl,
    ))

change_goes : (setup : SetupData) (old new : PenState Shape) (s t : StoreState) → IsKept setup old.board old.history s → StoresNext (shape_of setup) s old new → t ≡ changed_once s → Goes setup old new t (changed_once (told setup old.history s))
change_goes setup old new s t h n is =
    let first = h.first in
    let stored : new ≡ record old { history = old.history ++ change_stores (shape_of setup) (words_after (first_words setup) old.history) n.view n.slot n.change }
    = n.stored ∙ ap (λ f. record old { history = old.history ++ change_stores (shape_of setup) (words_after f old.history) n.view n.slot n.change }) first in
    subst (λ (q : PenState Shape). Goes setup old q t (changed_once (told setup old.history s))) (sym stored)
    (subst (λ u. Goes setup old (record old { history = old.history ++ change_stores (shape_of setup) (words_after (first_words setup) old.history) n.view n.slot n.change }) u (changed_once (told setup old.history s))) (sym is) (
      changed_kept setup old.board old.history s n.view n.slot n.change n.others h n.next,
      ap (λ past. record (changed_once s) { past = Some past }) (changed_past setup old.history n.view n.slot n.change),
      refl,
    ))

publish_goes : (setup : SetupData) (old new : PenState Shape) (s t : StoreState) (p : ℕ) → IsKept setup old.board old.history s → s.phase % 2 ≡ 1 → changes_left s ≡ 0
    → t ≡ published s → p ≡ t.phase → new ≡ record old { history = old.history ++ (0, p) ∷ [] } → Goes setup old new t (published (told setup old.history s))
publish_goes setup old new s t p h odd none is phase stored =
    let next : p ≡ suc s.phase = phase ∙ ap (λ (u : StoreState). u.phase) is in
    subst (λ (q : PenState Shape). Goes setup old q t (published (told setup old.history s))) (sym stored)
    (subst (λ u. Goes setup old (record old { history = old.history ++ (0, p) ∷ [] }) u (published (told setup old.history s))) (sym is) (
      published_kept setup old.board old.history s p h odd none next,
      ap (λ past. record (published s) { past = Some past }) (published_past setup old.history s p h.carried odd none next),
      refl,
    ))

-- ---- calls, by what contracts see of the store before

-- contracts see this of the store
abbrev pub Shows : SetupData → PenState Shape → StoreState → BoardState → Type 0
Shows setup pen s seen = record { setup = setup; board = pen.board; history = pen.history; state = told setup pen.history s } ≡ seen

module _ (setup : SetupData) (old new : PenState Shape) (s t : StoreState) (seen : BoardState) (is : Shows setup old s seen) (h : IsKept setup old.board old.history s) where
  module _ (cs : ChangeLists) (p : ℕ) (room : shortage s cs ≡ None) where
    pub begin_room : shortage seen.state cs ≡ None
    begin_room = subst (λ (b : BoardState). shortage b.state cs ≡ None) is room

    pub begin_seen : seen.state.phase % 2 ≡ 0 → seen.state.phase < 2 ^ 62 → AreNet seen.state.views cs → t ≡ begun cs s → IsSoundStore t → p ≡ t.phase → new ≡ record old { history = old.history ++ (0, p) ∷ [] }
        → Goes setup old new t (begun cs seen.state)
    begin_seen even low net made sound phase stored =
        subst (λ (b : BoardState). Goes setup old new t (begun cs b.state)) is (begin_goes setup old new s t cs p h
        (subst (λ (b : BoardState). b.state.phase % 2 ≡ 0) (sym is) even) (subst (λ (b : BoardState). b.state.phase < 2 ^ 62) (sym is) low) (subst (λ (b : BoardState). AreNet b.state.views cs) (sym is) net)
        room made sound phase stored)

  pub change_seen : StoresNext (shape_of setup) s old new → t ≡ changed_once s → Goes setup old new t (changed_once seen.state)
  change_seen stored made = subst (λ (b : BoardState). Goes setup old new t (changed_once b.state)) is (change_goes setup old new s t h stored made)

  pub publish_seen : (p : ℕ) → seen.state.phase % 2 ≡ 1 → changes_left seen.state ≡ 0 → t ≡ published s → p ≡ t.phase → new ≡ record old { history = old.history ++ (0, p) ∷ [] } → Goes setup old new t (published seen.state)
  publish_seen p odd none made phase stored =
      subst (λ (b : BoardState). Goes setup old new t (published b.state)) is (publish_goes setup old new s t p h
      (subst (λ (b : BoardState). b.state.phase % 2 ≡ 1) (sym is) odd) (subst (λ (b : BoardState). changes_left b.state ≡ 0) (sym is) none) made phase stored)

-- ---- the first call and the last

pub over_kept : (setup : SetupData) (pen result : PenState Shape) (board : BoardId Shape) (s : StoreState) → IsSetup setup → board.law ≡ shape_of setup → board.first ≡ first_words setup → board_size (shape_of setup) < 2 ^ 32 → s ≡ store_at_first setup
    → pen ≡ record { board = board; history = [] } → result ≡ pen → IsKept setup result.board result.history s
over_kept setup pen result board s h law first size made is same =
    subst (λ (p : PenState Shape). IsKept setup p.board p.history s) (sym (same ∙ is)) (first_kept setup board s h law first size made)

pub close_carried : (setup : SetupData) (pen result : PenState Shape) (s : StoreState) (seen : BoardState) → IsKept setup pen.board pen.history s → result ≡ pen
    → Shows setup pen s seen → CarriesTold seen.setup result.history seen.state
close_carried setup pen result s seen h same is =
    let carried : CarriesTold setup pen.history (told setup pen.history s) =
    carries_past (shape_of setup) (first_words setup) (keys_of setup) (values_told (past_on_board setup pen.history) s) pen.history s (Some (past_on_board setup pen.history)) h.carried in
    subst (λ (b : BoardState). CarriesTold b.setup result.history b.state) is (subst (λ (p : PenState Shape). CarriesTold setup p.history (told setup pen.history s)) (sym same) carried)
