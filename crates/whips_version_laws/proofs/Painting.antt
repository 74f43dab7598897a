-- What painting leaves of the rows of the table.
use Rattle.std.proofs.Common.{◌≡◌, ℕ, zero, suc, ◌≤◌, true, false, List, [], ◌∷◌, Some, cond, leb, refl, sym, ap, subst, ◌∙◌, arith, ◌⊎◌, inl, inr, ⊎_elim}
use Rattle.std.specs.Prelude.{slice_get, map, fold}
use Rattle.std.proofs.lemmas.Bool.{leb-true}
use Rattle.whips_lists.specs.Lists.{changed_at}
use Rattle.whips_flow.specs.Painted.{Row, Colour, black, white, red, is_concerned, reddened_entry, painted_row, painted_rows, entry_needs, needs}
use Rattle.whips_flow.specs.State.{NumberedTransaction}
use Rattle.whips_flow.specs.Settling.{due_lists, rows_after_lists}
use Rattle.whips_closure_laws.specs.Closure.{NeedsAt}
use Rattle.whips_closure_laws.proofs.Grown.{draws_entries}
use Rattle.whips_lists.proofs.InList.{In}
use Rattle.whips_lists.proofs.ByPlace.{in_map, get_cases}
use Rattle.whips_version_laws.proofs.Later.{concerned_entry}

-- the transaction that the row is of
abbrev pub transaction_of : Row → NumberedTransaction
transaction_of r = record { number = r.number; source = r.source; place = r.place }

-- r is row q after lists up to this number
pub record IsPainted (high : ℕ) (q r : Row) : Type 0 where
  pub same : transaction_of q ≡ transaction_of r
  pub concerned : (x : ℕ) → is_concerned (slice_get r.entries x) ≡ is_concerned (slice_get q.entries x)
  pub reds : (x m : ℕ) → slice_get r.entries x ≡ Some (red m) → (slice_get q.entries x ≡ Some (red m)) ⊎ ((r.number ≤ m) × (m ≤ high))

pub record ArePainted (high : ℕ) (before after : List Row) : Type 0 where
  pub from : (r : Row) → In r after → (q : Row) × In q before × IsPainted high q r
  pub to : (q : Row) → In q before → (r : Row) × In r after × IsPainted high q r

reddened_concerned : (x z j : ℕ) (cs : List Colour) → is_concerned (slice_get (changed_at x (reddened_entry j) cs) z) ≡ is_concerned (slice_get cs z)
reddened_concerned x z j [] = refl
reddened_concerned zero zero j (black ∷ cs) = refl
reddened_concerned zero zero j (white ∷ cs) = refl
reddened_concerned zero zero j (red k ∷ cs) = refl
reddened_concerned zero (suc z) j (c ∷ cs) = refl
reddened_concerned (suc x) zero j (c ∷ cs) = refl
reddened_concerned (suc x) (suc z) j (c ∷ cs) = reddened_concerned x z j cs

red_cases : (j m : ℕ) (c : Colour) → reddened_entry j c ≡ red m → (c ≡ red m) ⊎ (j ≡ m)
red_cases j m black e = absurd (cc)
red_cases j m white e = inr (cc)
red_cases j m (red k) e = inl e

in_mapped : (g : Row → Row) (q : Row) (rows : List Row) → In q rows → In (g q) (map g rows)
in_mapped g q [] i = absurd i
in_mapped g q (r ∷ rows) (inl e) = inl (ap g e)
in_mapped g q (r ∷ rows) (inr i) = inr (in_mapped g q rows i)

due_within : (n j : ℕ) (js : List ℕ) → In j (due_lists n js) → j ≤ n
due_within n j [] i = absurd i
due_within n j (k ∷ js) i = elim (leb k n) as (λ b. leb k n ≡ b → In j (cond b (k ∷ due_lists n js) []) → j ≤ n) [
  | true ↦ λ e h. ⊎_elim (λ kj. omega (arith, kj, leb-true k n e)) (λ more. due_within n j js more) h
  | false ↦ λ e h. absurd h
] refl i

module _ (high : ℕ) where
  painted_none : (q : Row) → IsPainted high q q
  painted_none q = record { same = refl; concerned = λ x. refl; reds = λ x m e. inl e }

  painted_then : (q r s : Row) → IsPainted high q r → IsPainted high r s → IsPainted high q s
  painted_then q r s a b = record {
    same = a.same ∙ b.same;
    concerned = λ x. b.concerned x ∙ a.concerned x;
    reds = λ x m e. ⊎_elim (λ k. ⊎_elim (λ l. inl l) (λ l. inr (omega (arith, l.0, ap (λ z. z.number) b.same), l.1)) (a.reds x m k)) (λ k. inr k) (b.reds x m e);
  }

  painted_one : (x j : ℕ) (q : Row) → j ≤ high → IsPainted high q (painted_row x j q)
  painted_one x j q le = record {
    same = refl;
    concerned = λ z. elim (leb q.number j) as (λ b. is_concerned (slice_get (cond b (changed_at x (reddened_entry j) q.entries) q.entries) z) ≡ is_concerned (slice_get q.entries z)) [
      | true ↦ reddened_concerned x z j q.entries
      | false ↦ refl
    ];
    reds = λ z m e. reds z m e;
  }
    where
      reds : (z m : ℕ) → slice_get (painted_row x j q).entries z ≡ Some (red m) → (slice_get q.entries z ≡ Some (red m)) ⊎ ((q.number ≤ m) × (m ≤ high))
      reds z m e = elim (leb q.number j) as (λ b. leb q.number j ≡ b → slice_get (cond b (changed_at x (reddened_entry j) q.entries) q.entries) z ≡ Some (red m) → (slice_get q.entries z ≡ Some (red m)) ⊎ ((q.number ≤ m) × (m ≤ high))) [
        | true ↦ λ h g. ⊎_elim
            (λ k. ⊎_elim
            (λ c. inl (subst (λ w. slice_get q.entries w ≡ Some (red m)) (sym k.0) (k.1.1 ∙ ap (λ w. Some w) c)))
            (λ c. inr (omega (arith, c, leb-true q.number j h), omega (arith, c, le)))
            (red_cases j m k.1.0 k.1.2))
            (λ k. inl k.1)
            (get_cases (reddened_entry j) x z q.entries (red m) g)
        | false ↦ λ h g. inl g
      ] refl e

  rows_none : (rows : List Row) → ArePainted high rows rows
  rows_none rows = record { from = λ r i. (r, i, painted_none r); to = λ r i. (r, i, painted_none r) }

  rows_then : (xs ys zs : List Row) → ArePainted high xs ys → ArePainted high ys zs → ArePainted high xs zs
  rows_then xs ys zs a b = record {
    from = λ s i. let r = b.from s i in let q = a.from r.0 r.1 in (q.0, q.1, painted_then q.0 r.0 s q.2 r.2);
    to = λ q i. let r = a.to q i in let s = b.to r.0 r.1 in (s.0, s.1, painted_then q r.0 s.0 r.2 s.2);
  }

  rows_one : (x j : ℕ) (rows : List Row) → j ≤ high → ArePainted high rows (painted_rows x rows j)
  rows_one x j rows le = record {
    from = λ r i. let q = in_map (painted_row x j) r rows i in (q.0, q.1, subst (IsPainted high q.0) q.2 (painted_one x j q.0 le));
    to = λ q i. (painted_row x j q, in_mapped (painted_row x j) q rows i, painted_one x j q le);
  }

  rows_lists : (x : ℕ) (js : List ℕ) (rows : List Row) → ((j : ℕ) → In j js → j ≤ high) → ArePainted high rows (fold (painted_rows x) rows js)
  rows_lists x [] rows le = rows_none rows
  rows_lists x (j ∷ js) rows le = rows_then rows (painted_rows x rows j) (fold (painted_rows x) (painted_rows x rows j) js) (rows_one x j rows (le j (inl refl))) (rows_lists x js (painted_rows x rows j) (λ k i. le k (inr i)))

  pub rows_painted : (x : ℕ) (waiting : List (List ℕ)) (rows : List Row) → ArePainted high rows (rows_after_lists high x waiting rows)
  rows_painted x [] rows = rows_none rows
  rows_painted x (js ∷ waiting) rows =
      let ys = fold (painted_rows x) rows (due_lists high js) in
      rows_then rows ys (rows_after_lists high (suc x) waiting ys) (rows_lists x (due_lists high js) rows (λ j i. due_within high j js i)) (rows_painted (suc x) waiting ys)

-- a painted row is needed as before
pub painted_needed : (high : ℕ) (q r : Row) → IsPainted high q r → (o : Row) → needs o r ≡ true → needs o q ≡ true
painted_needed high q r h o e =
    let number : r.number ≡ q.number = ap (λ z. z.number) (sym h.same) in
    (draws_entries o q).1 (⊎_elim
    (λ a. inl (a.0, at a.0 number a.1 (concerned_entry (slice_get q.entries a.0) (sym (h.concerned a.0) ∙ (ap is_concerned a.1.its_is ∙ a.1.concerned)))))
    (λ a. inr (a.0 ∙ ap (λ z. z.source) (sym h.same), omega (arith, a.1, number)))
    ((draws_entries o r).0 e))
  where
    at : (x : ℕ) → r.number ≡ q.number → (a : NeedsAt o r x) → (c : Colour) × (slice_get q.entries x ≡ Some c) × (is_concerned (Some c) ≡ true) → NeedsAt o q x
    at x number a (c, e, k) = record {
      mine = a.mine;
      its = c;
      mine_is = a.mine_is;
      its_is = e;
      concerned = k;
      needed = subst (λ n. entry_needs o.number a.mine n ≡ true) number a.needed;
    }
