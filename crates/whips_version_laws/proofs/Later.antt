-- Row sets in a line with the rows behind them: no row needs one of a later set.
use Rattle.std.proofs.Common.{◌≡◌, ℕ, zero, suc, ◌≤◌, true, List, [], ◌∷◌, ◌++◌, take, drop, Option, Some, None, refl, sym, ap, subst, ◌∙◌, arith, ◌⊎◌, inl, inr, ⊎_elim, append_assoc, append-nil}
use Rattle.std.specs.Prelude.{slice_get}
use Rattle.std.proofs.lemmas.Bool.{leb-true, false≢true}
use Rattle.whips_flow.specs.Painted.{Row, Colour, black, white, red, is_concerned, entry_needs, needs}
use Rattle.whips_closure_laws.proofs.Grown.{draws_entries}
use Rattle.whips_lists.proofs.InList.{In}
use Rattle.whips_cut_laws.proofs.Lined.{joined}
use Rattle.whips_lists.proofs.ByPlace.{in_append, in_left, in_right}

-- ---- rows of row sets

pub joined_push : (sets : List (List Row)) (set : List Row) → joined (sets ++ set ∷ []) ≡ joined sets ++ set
joined_push [] set = append-nil set
joined_push (s ∷ sets) set = ap (λ z. s ++ z) (joined_push sets set) ∙ sym (append_assoc s (joined sets) set)

pub in_pushed : (sets : List (List Row)) (set : List Row) (q : Row) → In q (joined (sets ++ set ∷ [])) → In q (joined sets) ⊎ In q set
in_pushed sets set q i = in_append q (joined sets) set (subst (λ l. In q l) (joined_push sets set) i)

pub pushed_old : (sets : List (List Row)) (set : List Row) (q : Row) → In q (joined sets) → In q (joined (sets ++ set ∷ []))
pushed_old sets set q i = subst (λ l. In q l) (sym (joined_push sets set)) (in_left q (joined sets) set i)

pub pushed_new : (sets : List (List Row)) (set : List Row) (q : Row) → In q set → In q (joined (sets ++ set ∷ []))
pushed_new sets set q i = subst (λ l. In q l) (sym (joined_push sets set)) (in_right q (joined sets) set i)

in_dropped : (v : ℕ) (sets : List (List Row)) (q : Row) → In q (joined (drop v sets)) → In q (joined sets)
in_dropped zero sets q i = i
in_dropped (suc v) [] q i = i
in_dropped (suc v) (set ∷ sets) q i = in_right q set (joined sets) (in_dropped v sets q i)

pub in_taken : (v : ℕ) (sets : List (List Row)) (q : Row) → In q (joined (take v sets)) → In q (joined sets)
in_taken zero sets q i = absurd i
in_taken (suc v) [] q i = i
in_taken (suc v) (set ∷ sets) q i = ⊎_elim (λ j. in_left q set (joined sets) j) (λ j. in_right q set (joined sets) (in_taken v sets q j)) (in_append q set (joined (take v sets)) i)

pub in_parts : (v : ℕ) (sets : List (List Row)) (q : Row) → In q (joined sets) → In q (joined (take v sets)) ⊎ In q (joined (drop v sets))
in_parts zero sets q i = inr i
in_parts (suc v) [] q i = inl i
in_parts (suc v) (set ∷ sets) q i = ⊎_elim
    (λ j. inl (in_left q set (joined (take v sets)) j))
    (λ j. ⊎_elim (λ k. inl (in_right q set (joined (take v sets)) k)) (λ k. inr k) (in_parts v sets q j))
    (in_append q set (joined sets) i)

-- ---- what a row needs

pub concerned_entry : (o : Option Colour) → is_concerned o ≡ true → (c : Colour) × (o ≡ Some c) × (is_concerned (Some c) ≡ true)
concerned_entry None h = absurd (false≢true h)
concerned_entry (Some c) h = (c, refl, h)

entry_low : (n q high : ℕ) (c : Colour) → n ≤ high → ((m : ℕ) → c ≡ red m → m ≤ high) → entry_needs n c q ≡ true → q ≤ high
entry_low n q high black le reds h = absurd (false≢true h)
entry_low n q high white le reds h = omega (arith, leb-true q n h)
entry_low n q high (red m) le reds h = omega (arith, leb-true q m h, reds m refl)

-- a row needs none above itself and all its lists
pub needs_low : (high : ℕ) (r q : Row) → r.number ≤ high → ((x m : ℕ) → slice_get r.entries x ≡ Some (red m) → m ≤ high) → needs r q ≡ true → q.number ≤ high
needs_low high r q le reds h = ⊎_elim
    (λ e. entry_low r.number q.number high e.1.mine le (λ m c. reds e.0 m (e.1.mine_is ∙ ap (λ z. Some z) c)) e.1.needed)
    (λ e. omega (arith, e.1, le))
    ((draws_entries r q).0 h)

-- ---- no row of a set needs one of a later set or one behind the sets

abbrev pub NeedNoLater : List (List Row) → List Row → Type 0
NeedNoLater [] rest = Unit {0}
NeedNoLater (set ∷ sets) rest = ((r q : Row) → In r set → In q (joined sets ++ rest) → needs r q ≡ true → ⊥) × NeedNoLater sets rest

-- the rows behind the sets change
pub need_changed : (sets : List (List Row)) (rest more : List Row) → ((q : Row) → In q more → (o : Row) × In o rest × ((r : Row) → needs r q ≡ true → needs r o ≡ true)) → NeedNoLater sets rest → NeedNoLater sets more
need_changed [] rest more g h = tt
need_changed (set ∷ sets) rest more g h = (
  λ r q ir iq e. ⊎_elim
      (λ j. h.0 r q ir (in_left q (joined sets) rest j) e)
      (λ j. let o = g q j in h.0 r o.0 ir (in_right o.0 (joined sets) rest o.1) (o.2 r e))
      (in_append q (joined sets) more iq),
  need_changed sets rest more g h.1,
)

-- some of the rows behind the sets become one more set
pub need_pushed : (sets : List (List Row)) (set before rest : List Row) → ((q : Row) → In q set → In q before) → ((q : Row) → In q rest → In q before) → ((r q : Row) → In r set → In q rest → needs r q ≡ true → ⊥) → NeedNoLater sets before → NeedNoLater (sets ++ set ∷ []) rest
need_pushed [] set before rest a b new h = (new, tt)
need_pushed (s ∷ sets) set before rest a b new h = (λ r q ir iq e. h.0 r q ir (moved q iq) e, need_pushed sets set before rest a b new h.1)
  where
    moved : (q : Row) → In q (joined (sets ++ set ∷ []) ++ rest) → In q (joined sets ++ before)
    moved q i = ⊎_elim
        (λ j. ⊎_elim (λ k. in_left q (joined sets) before k) (λ k. in_right q (joined sets) before (a q k)) (in_pushed sets set q j))
        (λ j. in_right q (joined sets) before (b q j))
        (in_append q (joined (sets ++ set ∷ [])) rest i)

-- more rows come behind the sets, which no row of them needs
pub need_more : (sets : List (List Row)) (rest more : List Row) → ((r q : Row) → In r (joined sets) → In q more → needs r q ≡ true → ⊥) → NeedNoLater sets rest → NeedNoLater sets (rest ++ more)
need_more [] rest more g h = tt
need_more (set ∷ sets) rest more g h = (
  λ r q ir iq e. ⊎_elim
      (λ j. h.0 r q ir (in_left q (joined sets) rest j) e)
      (λ j. ⊎_elim
      (λ k. h.0 r q ir (in_right q (joined sets) rest k) e)
      (λ k. g r q (in_left r set (joined sets) ir) k e)
      (in_append q rest more j))
      (in_append q (joined sets) (rest ++ more) iq),
  need_more sets rest more (λ r q ir. g r q (in_right r set (joined sets) ir)) h.1,
)

-- no row of the first v sets needs one that comes later
pub need_at : (v : ℕ) (sets : List (List Row)) (rest : List Row) → NeedNoLater sets rest → (r q : Row) → In r (joined (take v sets)) → In q (joined (drop v sets) ++ rest) → needs r q ≡ true → ⊥
need_at zero sets rest h r q ir iq e = ir
need_at (suc v) [] rest h r q ir iq e = ir
need_at (suc v) (set ∷ sets) rest h r q ir iq e = ⊎_elim
    (λ j. h.0 r q j (⊎_elim (λ k. in_left q (joined sets) rest (in_dropped v sets q k)) (λ k. in_right q (joined sets) rest k) (in_append q (joined (drop v sets)) rest iq)) e)
    (λ j. need_at v sets rest h.1 r q j iq e)
    (in_append r set (joined (take v sets)) ir)
