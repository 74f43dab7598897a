-- How many transactions of a source a numbering has, and which they are.
use Rattle.std.proofs.Common.{◌≡◌, ℕ, zero, suc, ◌+◌, ◌<◌, ◌≤◌, Bool, true, false, List, [], ◌∷◌, ◌++◌, length, take, Some, cond, eqb, refl, sym, ap, subst, ◌∙◌, arith, ◌⊎◌, inl, inr, ⊎_elim}
use Rattle.std.specs.Prelude.{slice_get, filter}
use Rattle.std.proofs.lemmas.Bool.{eq-eqb, ne_eqb, eqb-true}
use Rattle.std.proofs.lemmas.List.{take-append-le, take_at}
use Rattle.whips_lists.specs.Lists.{changed_at, front, without_front}
use Rattle.whips_flow.specs.State.{NumberedTransaction, QueryStep, SourceMessage, sent_transaction, sent_answer, Source}
use Rattle.whips_flow.specs.Effects.{without_message}
use Rattle.whips_lists.proofs.InList.{In}
use Rattle.whips_lists.proofs.ByPlace.{in_append, get_in, in_get, get_within, get_cases}
use Rattle.whips_lists.proofs.Options.{some_same}
use Rattle.whips_lists.proofs.Lists.{length_changed}

-- how many of the transactions are of source y
abbrev pub of_source : ℕ → List NumberedTransaction → ℕ
of_source y ns = length (filter (λ n. eqb n.source y) ns)

pub get_push : {A : Type 0} (xs : List A) (x : A) (i : ℕ) (z : A) → slice_get (xs ++ x ∷ []) i ≡ Some z → ((slice_get xs i ≡ Some z) × (i < length xs)) ⊎ ((i ≡ length xs) × (x ≡ z))
get_push [] x zero z e = inr (refl, some_same x z e)
get_push [] x (suc i) z e = absurd (cc)
get_push (y ∷ xs) x zero z e = inl (e, omega arith)
get_push (y ∷ xs) x (suc i) z e = ⊎_elim (λ h. inl (h.0, omega (arith, h.1))) (λ h. inr (ap suc h.0, h.1)) (get_push xs x i z e)

module _ (y : ℕ) where
  one_more : (n : NumberedTransaction) (ns : List NumberedTransaction) → n.source ≡ y → of_source y (n ∷ ns) ≡ suc (of_source y ns)
  one_more n ns e = rw (eq-eqb n.source y e) refl

  append_counts : (ms ns : List NumberedTransaction) → of_source y (ms ++ ns) ≡ of_source y ms + of_source y ns
  append_counts [] ns = omega arith
  append_counts (m ∷ ms) ns = elim (eqb m.source y) as (λ b. length (cond b (m ∷ filter (λ n. eqb n.source y) (ms ++ ns)) (filter (λ n. eqb n.source y) (ms ++ ns))) ≡ length (cond b (m ∷ filter (λ n. eqb n.source y) ms) (filter (λ n. eqb n.source y) ms)) + of_source y ns) [
    | true ↦ omega (arith, append_counts ms ns)
    | false ↦ append_counts ms ns
  ]

  push_same : (ns : List NumberedTransaction) (n : NumberedTransaction) → n.source ≡ y → of_source y (ns ++ n ∷ []) ≡ suc (of_source y ns)
  push_same ns n e = omega (arith, append_counts ns (n ∷ []), one_more n [] e)

  push_other : (ns : List NumberedTransaction) (n : NumberedTransaction) → (n.source ≡ y → ⊥) → of_source y (ns ++ n ∷ []) ≡ of_source y ns
  push_other ns n ne =
      let none : of_source y (n ∷ []) ≡ 0 = rw (ne_eqb n.source y ne) refl in
      omega (arith, append_counts ns (n ∷ []), none)

  -- a transaction of the source is counted where it stands before place i
  pub counted : (place i : ℕ) (ns : List NumberedTransaction) (it : NumberedTransaction) → slice_get ns place ≡ Some it → it.source ≡ y → place < i → of_source y (take place ns) < of_source y (take i ns)
  counted place zero ns it h s lt = absurd (omega arith)
  counted place (suc i) [] it h s lt = absurd (cc)
  counted zero (suc i) (n ∷ ns) it h s lt = omega (arith, one_more n (take i ns) (ap (λ z. z.source) (some_same n it h) ∙ s))
  counted (suc place) (suc i) (n ∷ ns) it h s lt = elim (eqb n.source y) as (λ b. length (cond b (n ∷ filter (λ n. eqb n.source y) (take place ns)) (filter (λ n. eqb n.source y) (take place ns))) < length (cond b (n ∷ filter (λ n. eqb n.source y) (take i ns)) (filter (λ n. eqb n.source y) (take i ns)))) [
    | true ↦ omega (arith, counted place i ns it h s (omega arith))
    | false ↦ counted place i ns it h s (omega arith)
  ]

  -- the one of the first i transactions that has k of its source before it
  pub record Found (k i : ℕ) (ns : List NumberedTransaction) : Type 0 where
    pub place : ℕ
    pub before : place < i
    pub it : NumberedTransaction
    pub there : slice_get ns place ≡ Some it
    pub mine : it.source ≡ y
    pub count : of_source y (take place ns) ≡ k

  pub found : (k i : ℕ) (ns : List NumberedTransaction) → k < of_source y (take i ns) → Found k i ns
  found k zero ns lt = absurd (omega arith)
  found k (suc i) [] lt = absurd (omega arith)
  found k (suc i) (n ∷ ns) lt = go (eqb n.source y) refl k lt (λ j h. found j i ns h)
    where
      go : (b : Bool) → eqb n.source y ≡ b → (k : ℕ) → k < length (cond b (n ∷ filter (λ n. eqb n.source y) (take i ns)) (filter (λ n. eqb n.source y) (take i ns))) → ((j : ℕ) → j < of_source y (take i ns) → Found j i ns) → Found k (suc i) (n ∷ ns)
      go true e zero lt more = record { place = 0; before = omega arith; it = n; there = refl; mine = eqb-true n.source y e; count = refl }
      go true e (suc k) lt more = let m = more k (omega arith) in record { place = suc m.place; before = omega (arith, m.before); it = m.it; there = m.there; mine = m.mine; count = one_more n (take m.place ns) (eqb-true n.source y e) ∙ ap suc m.count }
      go false e k lt more = let m = more k lt in record { place = suc m.place; before = omega (arith, m.before); it = m.it; there = m.there; mine = m.mine; count = skipped m.place ∙ m.count }
        where
          skipped : (j : ℕ) → of_source y (n ∷ take j ns) ≡ of_source y (take j ns)
          skipped j = rw e refl

-- each transaction has its own number, and its place is the count of its source up to it
abbrev pub AreNumbered : List NumberedTransaction → Type 0
AreNumbered ns = (i : ℕ) (n : NumberedTransaction) → slice_get ns i ≡ Some n → (n.number ≡ suc i) × (n.place ≡ suc (of_source n.source (take i ns)))

numbered_push : (ns : List NumberedTransaction) (n : NumberedTransaction) → AreNumbered ns → n.number ≡ suc (length ns) → n.place ≡ suc (of_source n.source ns) → AreNumbered (ns ++ n ∷ [])
numbered_push ns n h a b i m e = ⊎_elim
    (λ o. let k = h i m o.0 in (k.0, k.1 ∙ ap (λ l. suc (of_source m.source l)) (sym (take-append-le i ns (n ∷ []) (omega (arith, o.1))))))
    (λ o. subst (λ z. (z.number ≡ suc i) × (z.place ≡ suc (of_source z.source (take i (ns ++ n ∷ []))))) o.1 (a ∙ ap suc (sym o.0), b ∙ ap (λ l. suc (of_source n.source l)) (sym (take_at ns (n ∷ []) i (sym o.0)))))
    (get_push ns n i m e)

-- the transactions among the messages go on from count to done, one by one
abbrev pub Follows : ℕ → List SourceMessage → ℕ → Type 0
Follows count [] done = count ≡ done
Follows count (sent_transaction k ∷ ms) done = (k ≡ suc count) × Follows (suc count) ms done
Follows count (sent_answer x t ∷ ms) done = Follows count ms done

pub follows_sent : (count : ℕ) (ms : List SourceMessage) (done : ℕ) → Follows count ms done → Follows count (ms ++ sent_transaction (suc done) ∷ []) (suc done)
follows_sent count [] done h = (ap suc (sym h), ap suc h)
follows_sent count (sent_transaction k ∷ ms) done h = (h.0, follows_sent (suc count) ms done h.1)
follows_sent count (sent_answer x t ∷ ms) done h = follows_sent count ms done h

pub follows_answered : (count x : ℕ) (t : QueryStep) (ms : List SourceMessage) (done : ℕ) → Follows count ms done → Follows count (ms ++ sent_answer x t ∷ []) done
follows_answered count x t [] done h = h
follows_answered count x t (sent_transaction k ∷ ms) done h = (h.0, follows_answered (suc count) x t ms done h.1)
follows_answered count x t (sent_answer z u ∷ ms) done h = follows_answered count x t ms done h

pub follows_behind_answer : (count x : ℕ) (t : QueryStep) (ms : List SourceMessage) (done : ℕ) → front ms ≡ Some (sent_answer x t) → Follows count ms done → Follows count (without_front ms) done
follows_behind_answer count x t [] done e h = absurd (cc)
follows_behind_answer count x t (sent_transaction k ∷ ms) done e h = absurd (cc)
follows_behind_answer count x t (sent_answer z u ∷ ms) done e h = h

follows_behind_sent : (count k : ℕ) (ms : List SourceMessage) (done : ℕ) → front ms ≡ Some (sent_transaction k) → Follows count ms done → (k ≡ suc count) × Follows (suc count) (without_front ms) done
follows_behind_sent count k [] done e h = absurd (cc)
follows_behind_sent count k (sent_transaction j ∷ ms) done e h = let jk : j ≡ k = cc in (sym jk ∙ h.0, h.1)
follows_behind_sent count k (sent_answer x t ∷ ms) done e h = absurd (cc)

-- ---- the sources and the numbering

pub record Counted (sources : List Source) (numbering : List NumberedTransaction) : Type 0 where
  pub numbered : AreNumbered numbering
  pub within : (n : NumberedTransaction) → In n numbering → n.source < length sources
  pub sends : (y : ℕ) (s : Source) → slice_get sources y ≡ Some s → Follows (of_source y numbering) s.messages s.commit_count

module _ (sources : List Source) (numbering : List NumberedTransaction) (h : Counted sources numbering) (y : ℕ) where
  -- source y changes, and its messages still follow
  pub source_counted : (g : Source → Source) → ((count : ℕ) (s : Source) → slice_get sources y ≡ Some s → Follows count s.messages s.commit_count → Follows count (g s).messages (g s).commit_count) → Counted (changed_at y g sources) numbering
  source_counted g keeps = record {
    numbered = h.numbered;
    within = λ n i. omega (arith, h.within n i, length_changed g y sources);
    sends = λ z s e. ⊎_elim (λ c. changed z s c) (λ c. h.sends z s c.1) (get_cases g y z sources s e);
  }
    where
      changed : (z : ℕ) (s : Source) → (z ≡ y) × ((o : Source) × (slice_get sources y ≡ Some o) × (g o ≡ s)) → Follows (of_source z numbering) s.messages s.commit_count
      changed z s (zy, (o, a, q)) = subst (λ w. Follows (of_source z numbering) w.messages w.commit_count) q (keeps (of_source z numbering) o a (subst (λ w. Follows (of_source w numbering) o.messages o.commit_count) (sym zy) (h.sends y o a)))

  -- the oldest message of source y is a transaction, which is numbered
  pub taken_counted : (k : ℕ) (s0 : Source) → slice_get sources y ≡ Some s0 → front s0.messages ≡ Some (sent_transaction k) → Counted (changed_at y without_message sources) (numbering ++ record { number = suc (length numbering); source = y; place = k } ∷ [])
  taken_counted k s0 at e = record {
    numbered = numbered_push numbering n h.numbered refl first.0;
    within = λ m i. omega (arith, length_changed without_message y sources, ⊎_elim (λ j. h.within m j) (λ j. ⊎_elim (λ q. source_there m q) (λ z. absurd z) j) (in_append m numbering (n ∷ []) i));
    sends = λ z s a. ⊎_elim (λ c. changed z s c) (λ c. subst (λ w. Follows w s.messages s.commit_count) (sym (push_other z numbering n (λ q. c.0 (sym q)))) (h.sends z s c.1)) (get_cases without_message y z sources s a);
  }
    where
      n : NumberedTransaction
      n = record { number = suc (length numbering); source = y; place = k }

      first : (k ≡ suc (of_source y numbering)) × Follows (suc (of_source y numbering)) (without_front s0.messages) s0.commit_count
      first = follows_behind_sent (of_source y numbering) k s0.messages s0.commit_count e (h.sends y s0 at)

      source_there : (m : NumberedTransaction) → n ≡ m → m.source < length sources
      source_there m q = subst (λ w. w.source < length sources) q (get_within y sources s0 at)

      changed : (z : ℕ) (s : Source) → (z ≡ y) × ((o : Source) × (slice_get sources y ≡ Some o) × (without_message o ≡ s)) → Follows (of_source z (numbering ++ n ∷ [])) s.messages s.commit_count
      changed z s (zy, (o, a, q)) =
          let os : o ≡ s0 = some_same o s0 (sym a ∙ at) in
          subst (λ w. Follows (of_source w (numbering ++ n ∷ [])) s.messages s.commit_count) (sym zy)
          (subst (λ w. Follows w s.messages s.commit_count) (sym (push_same y numbering n refl))
          (subst (λ w. Follows (suc (of_source y numbering)) w.messages w.commit_count) (ap without_message (sym os) ∙ q) first.1))

-- ---- counts up to a number

module _ (ns : List NumberedTransaction) (h : AreNumbered ns) where
  -- a transaction up to number j is counted
  pub counted_up_to : (n : NumberedTransaction) (j : ℕ) → In n ns → n.number ≤ j → n.place ≤ of_source n.source (take j ns)
  counted_up_to n j i le =
      let at = in_get ns n i in
      let own = h at.0 n at.2 in
      omega (arith, own.1, counted n.source at.0 j ns n at.2 refl (omega (arith, own.0)))

  -- two transactions with one number are the same
  pub same_number : (n m : NumberedTransaction) → In n ns → In m ns → n.number ≡ m.number → n ≡ m
  same_number n m i j e =
      let at = in_get ns n i in
      let to = in_get ns m j in
      let same : at.0 ≡ to.0 = omega (arith, (h at.0 n at.2).0, (h to.0 m to.2).0) in
      some_same n m (sym at.2 ∙ (ap (slice_get ns) same ∙ to.2))

  pub record Placed (y k j : ℕ) : Type 0 where
    pub it : NumberedTransaction
    pub there : In it ns
    pub source : it.source ≡ y
    pub place : it.place ≡ k
    pub low : it.number ≤ j
    pub positive : 0 < it.number

  -- what is counted up to number j is there
  pub placed : (y k j : ℕ) → 0 < k → k ≤ of_source y (take j ns) → Placed y k j
  placed y zero j lt le = absurd (omega arith)
  placed y (suc k) j lt le =
      let m = found y k j ns (omega arith) in
      let own = h m.place m.it m.there in
      record {
        it = m.it;
        there = get_in m.place ns m.it m.there;
        source = m.mine;
        place = own.1 ∙ ap suc (ap (λ z. of_source z (take m.place ns)) m.mine ∙ m.count);
        low = omega (arith, own.0, m.before);
        positive = omega (arith, own.0);
      }
