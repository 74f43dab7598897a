-- Each kind of step keeps the rule of a board.
use Rattle.std.proofs.Common.{◌≡◌, ◌≢◌, ℕ, zero, suc, List, [], ◌∷◌, ◌++◌, set, refl, sym, ap, ◌∙◌, subst, ⊎_elim, arith}
use Rattle.std.specs.Prelude.{All, slice_index}
use mathlib.Core.Option.{some, none, some-injective, some-ne-none}
use lib.ListN.{get_elem?}
use Rattle.std.proofs.lemmas.List.{set-get_or, append-nil}
use Rattle.std.proofs.lemmas.List.Elements.{All-append, All-cons, All-nil}
use Rattle.atomic_table.proofs.Lists.{at_set, at_snoc, set_again, set_else}
use Rattle.atomic_table.specs.Table.{Allows, Joins, Me, Splits, keeps, step}
use Rattle.whips_board.specs.declared.view.Origin.{Origin}
use Rattle.whips_board.specs.declared.view.Entry.{Entry}
use Rattle.whips_board.specs.declared.view.Entry.TheVariants.{Loaded, Learnt}
use Rattle.whips_board.specs.declared.view.View.{View}
use Rattle.whips_board.specs.declared.view.View.TheVariants.{Pen, Eye, Note, Spent}
use Rattle.whips_board.specs.History.{words_after, Explains}
use Rattle.whips_board.specs.Rule.{Allowed, Fits, Holds, holds, Stores, Loads, ReadsLast, IsLastWord, after_store, first_view, note_of, new_eye, after_learn, after_close}
use Rattle.whips_board.proofs.Histories.{words_after-push, IsLawful-push, IsPrefix-push, ExplainsFrom-push, ExplainsFrom-load, ExplainsFrom-learn, All-Explains-push}

module _ {L : Type 0} (allows : Allowed L) (key : Origin L) where
  -- what another seat knows stays so when the pen stores
  Fits-push : (history : List (ℕ × ℕ)) (x : ℕ × ℕ) (pen by : ℕ) (view : View L) → by ≢ pen → Fits key history pen by view → Fits key (history ++ x ∷ []) pen by view
  Fits-push history x pen by (Pen made stores logs) other f = absurd (other f.1)
  Fits-push history x pen by (Eye made log) other f = (f.0, ExplainsFrom-push key.first history x 0 log f.1)
  Fits-push history x pen by (Note made stores) other f = (f.0, IsPrefix-push stores history x f.1)
  Fits-push history x pen by Spent other f = tt

  -- all views fit after one of them is replaced
  Fits-set : (history : List (ℕ × ℕ)) (pen by : ℕ) (views : List (View L)) (view : View L) → ((j : ℕ) (u : View L) → j ≢ by → get_elem? views j ≡ some u → Fits key history pen j u) → Fits key history pen by view → (j : ℕ) (u : View L) → get_elem? (set views by view) j ≡ some u → Fits key history pen j u
  Fits-set history pen by views view others mine j u e =
      ⊎_elim
      (λ (x : (j ≡ by) × (view ≡ u)). subst (λ (y : ℕ × View L). Fits key history pen y.0 y.1) (λ i. (sym x.0 i, x.1 i)) mine)
      (λ (x : (j ≢ by) × (get_elem? views j ≡ some u)). others j u x.0 x.1)
      (at_set views by j view u e)

  -- all views fit after one more is there
  Fits-snoc : (history : List (ℕ × ℕ)) (pen by : ℕ) (views : List (View L)) (old new : View L) → get_elem? views by ≡ some old → ((j : ℕ) (u : View L) → get_elem? views j ≡ some u → Fits key history pen j u) → ((j : ℕ) → Fits key history pen j new) → (j : ℕ) (u : View L) → get_elem? (set views by old ++ new ∷ []) j ≡ some u → Fits key history pen j u
  Fits-snoc history pen by views old new at others mine j u e =
      ⊎_elim
      (λ (x : get_elem? (set views by old) j ≡ some u). others j u (rw (set_again views by old at) at x))
      (λ (x : new ≡ u). subst (λ v. Fits key history pen j v) x (mine j))
      (at_snoc (set views by old) new u j e)

  -- the pen's store
  stored : (slots id : ℕ) (origin : Origin L) (stores : List (ℕ × ℕ)) (logs : List (List Entry)) (i n : ℕ) → allows origin.law (words_after origin.first stores) i n
      → let me : Me ℕ (View L) = (Pen origin stores logs, []) in
      Allows (holds ℕ allows key) slots id me i (λ _. n) (λ _. Stores (step slots i n 0 none) me n)
  stored slots id origin stores logs i n allowed s h len at small =
      let fit : Fits key h.history h.pen id (Pen origin stores logs) = h.fits id (Pen origin stores logs) at in
      let now : List (ℕ × ℕ) = h.history ++ (i, n) ∷ [] in
      let view : View L = Pen origin (stores ++ (i, n) ∷ []) logs in (
        view,
        keeps,
        tt,
        record {
          pen = h.pen;
          history = now;
          words_are = ap (λ ws. set ws i n) h.words_are ∙ sym (words_after-push key.first h.history (i, n));
          lawful = IsLawful-push (allows key.law) key.first h.history (i, n) h.lawful (rw (fit.0, fit.2) at allowed);
          fits = Fits-set now h.pen id s.views view
              (λ j u other there. Fits-push h.history (i, n) h.pen j u (λ at_pen. other (at_pen ∙ sym fit.1)) (h.fits j u there))
              (fit.0, fit.1, ap (λ l. l ++ (i, n) ∷ []) fit.2, All-Explains-push key.first h.history (i, n) logs fit.3);
        },
        refl,
      )

  pub stores_keep : (slots id : ℕ) (me : Me ℕ (View L)) (origin : Origin L) (stores : List (ℕ × ℕ)) (logs : List (List Entry)) (i n : ℕ) → me ≡ (Pen origin stores logs, []) → allows origin.law (words_after origin.first stores) i n
      → Allows (holds ℕ allows key) slots id me i (λ _. n) (λ _. Stores (step slots i n 0 none) me n)
  stores_keep slots id me origin stores logs i n is allowed =
      subst (λ (m : Me ℕ (View L)). Allows (holds ℕ allows key) slots id m i (λ _. n) (λ _. Stores (step slots i n 0 none) m n)) (sym is) (stored slots id origin stores logs i n allowed)

  -- an eye's load
  loaded : (slots id : ℕ) (origin : Origin L) (log : List Entry) (i : ℕ)
      → let me : Me ℕ (View L) = (Eye origin log, []) in
      Allows (holds ℕ allows key) slots id me i (λ n. n) (Loads allows (step slots i 0 0 none) me)
  loaded slots id origin log i s h len at small =
      let fit : Fits key h.history h.pen id (Eye origin log) = h.fits id (Eye origin log) at in
      let n : ℕ = slice_index s.words i in
      let view : View L = Eye origin (log ++ Loaded i n ∷ []) in
      let explained : Explains key.first h.history (log ++ Loaded i n ∷ []) = ExplainsFrom-load key.first h.history i n 0 log (ap (λ ws. slice_index ws i) (sym h.words_are)) fit.1 in (
        view,
        keeps,
        tt,
        record {
          pen = h.pen;
          history = h.history;
          words_are = set-get_or s.words i 0 ∙ h.words_are;
          lawful = h.lawful;
          fits = Fits-set h.history h.pen id s.views view (λ j u other there. h.fits j u there) (fit.0, explained);
        },
        (refl, (h.history, rw fit.0 h.lawful, rw fit.0 explained)),
      )

  pub loads_keep : (slots id : ℕ) (me : Me ℕ (View L)) (origin : Origin L) (log : List Entry) (i : ℕ) → me ≡ (Eye origin log, [])
      → Allows (holds ℕ allows key) slots id me i (λ n. n) (Loads allows (step slots i 0 0 none) me)
  loads_keep slots id me origin log i is =
      subst (λ (m : Me ℕ (View L)). Allows (holds ℕ allows key) slots id m i (λ n. n) (Loads allows (step slots i 0 0 none) m)) (sym is) (loaded slots id origin log i)

  -- the pen's load when the board is closed
  read_last : (slots id : ℕ) (origin : Origin L) (stores : List (ℕ × ℕ)) (logs : List (List Entry)) (i : ℕ)
      → let me : Me ℕ (View L) = (Pen origin stores logs, []) in
      Allows (holds ℕ allows key) slots id me i (λ n. n) (ReadsLast (step slots i 0 0 none) me)
  read_last slots id origin stores logs i s h len at small =
      let fit : Fits key h.history h.pen id (Pen origin stores logs) = h.fits id (Pen origin stores logs) at in (
        Pen origin stores logs,
        keeps,
        tt,
        record {
          pen = h.pen;
          history = h.history;
          words_are = set-get_or s.words i 0 ∙ h.words_are;
          lawful = h.lawful;
          fits = Fits-set h.history h.pen id s.views (Pen origin stores logs) (λ j u other there. h.fits j u there) fit;
        },
        (refl, (rw (fit.0, fit.2) (ap (λ ws. slice_index ws i) h.words_are), rw (fit.0, fit.2) fit.3)),
      )

  pub last_reads_keep : (slots id : ℕ) (me : Me ℕ (View L)) (origin : Origin L) (stores : List (ℕ × ℕ)) (logs : List (List Entry)) (i : ℕ) → me ≡ (Pen origin stores logs, [])
      → Allows (holds ℕ allows key) slots id me i (λ n. n) (ReadsLast (step slots i 0 0 none) me)
  last_reads_keep slots id me origin stores logs i is =
      subst (λ (m : Me ℕ (View L)). Allows (holds ℕ allows key) slots id m i (λ n. n) (ReadsLast (step slots i 0 0 none) m)) (sym is) (read_last slots id origin stores logs i)

  -- what the pen's load tells
  pub last_word : (view : View L) (origin : Origin L) (stores : List (ℕ × ℕ)) (logs : List (List Entry)) (i n : ℕ) → view ≡ Pen origin stores logs → IsLastWord view i n
      → (n ≡ slice_index (words_after origin.first stores) i) × All (Explains origin.first stores) logs
  last_word view origin stores logs i n is last = subst (λ (v : View L). IsLastWord v i n) is last

  -- the pen after a store
  pub pen_after_store : (before after : Me ℕ (View L)) (origin : Origin L) (stores : List (ℕ × ℕ)) (i n : ℕ) → before ≡ (Pen origin stores [], []) → after ≡ (after_store before.0 i n, before.1) → after ≡ (Pen origin (stores ++ (i, n) ∷ []) [], [])
  pen_after_store before after origin stores i n is stored = stored ∙ ap (λ (m : Me ℕ (View L)). (after_store m.0 i n, m.1)) is

  -- a split leaves the seat's view, and the new view fits wherever the old one does
  split : (id : ℕ) (old new : View L) → ((history : List (ℕ × ℕ)) (pen by : ℕ) → Fits key history pen id old → Fits key history pen by new) → Splits (holds ℕ allows key) id old old new
  split id old new both s h at = record {
    pen = h.pen;
    history = h.history;
    words_are = h.words_are;
    lawful = h.lawful;
    fits = Fits-snoc h.history h.pen id s.views old new at h.fits (λ j. both h.history h.pen j (h.fits id old at));
  }

  pub note_splits : (id : ℕ) (view : View L) (origin : Origin L) (stores : List (ℕ × ℕ)) (logs : List (List Entry)) → view ≡ Pen origin stores logs → Splits (holds ℕ allows key) id view view (note_of view)
  note_splits id view origin stores logs is =
      subst (λ (v : View L). Splits (holds ℕ allows key) id v v (note_of v)) (sym is)
      (split id (Pen origin stores logs) (Note origin stores) (λ history pen by fit. (fit.0, ([], append-nil stores ∙ fit.2))))

  pub first_eye_splits : (id : ℕ) (view : View L) (origin : Origin L) (stores : List (ℕ × ℕ)) (logs : List (List Entry)) → view ≡ Pen origin stores logs → Splits (holds ℕ allows key) id view view (new_eye view)
  first_eye_splits id view origin stores logs is =
      subst (λ (v : View L). Splits (holds ℕ allows key) id v v (new_eye v)) (sym is)
      (split id (Pen origin stores logs) (Eye origin []) (λ history pen by fit. (fit.0, omega arith)))

  pub eye_splits : (id : ℕ) (view : View L) (origin : Origin L) (log : List Entry) → view ≡ Eye origin log → Splits (holds ℕ allows key) id view view view
  eye_splits id view origin log is =
      subst (λ (v : View L). Splits (holds ℕ allows key) id v v v) (sym is) (split id (Eye origin log) (Eye origin log) (λ history pen by fit. fit))

  -- a join: what both know fits where each of the two does
  join : (id : ℕ) (old : View L) (other : ℕ) (taken both : View L) → ((history : List (ℕ × ℕ)) (pen : ℕ) → Fits key history pen id old → Fits key history pen other taken → Fits key history pen id both) → Joins (holds ℕ allows key) id old other taken both Spent
  join id old other taken both fit s h at apart there = record {
    pen = h.pen;
    history = h.history;
    words_are = h.words_are;
    lawful = h.lawful;
    fits = Fits-set h.history h.pen other (set s.views id both) Spent
        (λ j u _ e. Fits-set h.history h.pen id s.views both (λ i v _ at_i. h.fits i v at_i)
        (fit h.history h.pen (h.fits id old at) (h.fits other taken (rw (set_else s.views id other both apart) at there))) j u e)
        tt;
  }

  pub note_joins : (id : ℕ) (view : View L) (origin : Origin L) (log : List Entry) (other : ℕ) (note : View L) (made : Origin L) (stores : List (ℕ × ℕ)) → view ≡ Eye origin log → note ≡ Note made stores
      → Joins (holds ℕ allows key) id view other note (after_learn view note) Spent
  note_joins id view origin log other note made stores is_eye is_note =
      subst (λ (p : View L × View L). Joins (holds ℕ allows key) id p.0 other p.1 (after_learn p.0 p.1) Spent) (λ i. (sym is_eye i, sym is_note i))
      (join id (Eye origin log) other (Note made stores) (Eye origin (log ++ Learnt stores ∷ []))
      (λ history pen eye note. (eye.0, ExplainsFrom-learn key.first history stores 0 log note.1 eye.1)))

  pub eye_joins : (id : ℕ) (view : View L) (origin : Origin L) (stores : List (ℕ × ℕ)) (logs : List (List Entry)) (other : ℕ) (eye : View L) (made : Origin L) (log : List Entry) → view ≡ Pen origin stores logs → eye ≡ Eye made log
      → Joins (holds ℕ allows key) id view other eye (after_close view eye) Spent
  eye_joins id view origin stores logs other eye made log is_pen is_eye =
      subst (λ (p : View L × View L). Joins (holds ℕ allows key) id p.0 other p.1 (after_close p.0 p.1) Spent) (λ i. (sym is_pen i, sym is_eye i))
      (join id (Pen origin stores logs) other (Eye made log) (Pen origin stores (logs ++ log ∷ []))
      (λ history pen fit eye. (fit.0, fit.1, fit.2, All-append (Explains key.first history) logs (log ∷ []) fit.3 (All-cons (Explains key.first history) log [] eye.1 (All-nil (Explains key.first history))))))

  only : (j : ℕ) (u : View L) → get_elem? (first_view key ∷ []) j ≡ some u → Fits key [] 0 j u
  only zero u there = subst (λ (v : View L). Fits key [] 0 0 v) (some-injective (first_view key) u there) (refl, refl, refl, All-nil (Explains key.first []))
  only (suc j) u there = absurd (some-ne-none u (sym there))

  -- a new board: its pen has stored nothing
  pub opens : (words : List ℕ) → words ≡ key.first → Holds allows key words (first_view key ∷ [])
  opens words is = record {
    pen = 0;
    history = [];
    words_are = is;
    lawful = tt;
    fits = only;
  }
