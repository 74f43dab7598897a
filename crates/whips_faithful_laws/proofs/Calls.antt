-- Each call of a store keeps it faithful (`begin_keeps`, `change_keeps`, `publish_keeps_faithful`).
--
-- A transaction that begins changes no record. A change leaves what live versions show, and at the version that is written it adds the
-- change to those that are made (`view_changed`). Once none is left that version shows the new rows, since the store stays sound.
use Rattle.std.proofs.Common.{◌≡◌, ◌⊎◌, inl, inr, ℕ, zero, suc, ◌+◌, ◌/◌, ◌%◌, ◌<◌, ◌≤◌, List, [], ◌∷◌, ◌++◌, length, map, get_or, refl, sym, ap, subst, ◌∙◌, arith, append_assoc}
use Rattle.std.specs.Prelude.{set}
use Rattle.std.proofs.Math.ListN.{get_or-map}
use Rattle.std.proofs.lemmas.Bool.{cases_lt}
use Rattle.std.proofs.lemmas.Grind.{fold-append}
use Rattle.std.proofs.lemmas.List.{length-map}
use Rattle.whips_model.specs.Tuples.{Codes}
use Rattle.whips_model.proofs.Keyed.{all_at}
use Rattle.whips_rel.specs.declared.update.Change.{Change}
use Rattle.whips_net.specs.Made.{changed_rows}
use Rattle.whips_net.proofs.Merge.{puts}
use Rattle.whips_vnl.specs.Records.{steps_after}
use Rattle.whips_store.specs.Versions.{rows_shown_at}
use Rattle.whips_store.specs.Stores.{ViewState, StoreState, ChangeLists, no_view, view_in}
use Rattle.whips_store.specs.Calls.{AreNet, AreNetChanges, views_with, records_with, changed_view, views_changed}
use Rattle.whips_store.specs.Sound.{IsSoundView}
use Rattle.whips_store_laws.proofs.Places.{at, Slots, IsChosen, net_change}
use Rattle.whips_store_laws.proofs.Changed.{rows_stay, next_after}
use Rattle.whips_store_laws.proofs.Views.{view_slots, view_chosen, next_version, next_same}
use Rattle.whips_store_laws.proofs.Whole.{publish_keeps, live_in_use}
use Rattle.whips_faithful_laws.specs.Faithful.{AreRowsOf, IsFaithfulView, IsFaithful, new_rows}
use Rattle.whips_faithful_laws.specs.Laws.{ValuesAreDetermined, BeginKeepsFaithful, ChangeKeepsFaithful, PublishKeepsFaithful}
use Rattle.whips_faithful_laws.proofs.Shapes.{by_left, begun_length, changed_length}
use Rattle.whips_faithful_laws.proofs.Shown.{shows_current}

-- ---- other values

pub determined : ValuesAreDetermined
determined values others s x v f g lt live = sym ((f x lt).shown v live).ordered ∙ ((g x lt).shown v live).ordered

-- a store is faithful to other values that are the same up to the version that is written
pub same_values : (values others : ℕ → ℕ → List Codes) (s : StoreState) → IsFaithful values s → ((x v : ℕ) → x < length s.views → v ≤ (s.phase + 1) / 2 → values x v ≡ others x v) → IsFaithful others s
same_values values others s h e x lt =
    let f = h x lt in
    record {
      shown = λ w l. subst (λ rows. AreRowsOf (view_in s x).columns.key rows (rows_shown_at s.versions w (view_in s x).records)) (let committed = l.committed in e x w lt (omega arith)) (f.shown w l);
      current = f.current ∙ e x (s.phase / 2) lt (omega arith);
      new = f.new ∙ e x ((s.phase + 1) / 2) lt (omega arith);
      active = f.active;
    }

-- ---- a transaction begins

view_begun : (n phase : ℕ) (values : ℕ → List Codes) (v : ViewState) (after : List Codes) (changes : List Change) → phase % 2 ≡ 0 → IsSoundView n phase v → AreNetChanges v after changes → IsFaithfulView n phase values v
    → after ≡ values (suc (phase / 2)) → IsFaithfulView n (suc phase) values (record v { next = after; left = changes })
view_begun n phase values v after changes even h net f new =
    let half : phase / 2 ≡ suc phase / 2 = omega arith in
    record {
      shown = λ w l.
          let committed = l.committed in
          let fresh = l.fresh in
          f.shown w (record { committed = omega arith; fresh = λ stale. fresh (omega arith) });
      current = f.current ∙ ap values half;
      new = new ∙ ap values (let next : suc (phase / 2) ≡ (suc phase + 1) / 2 = omega arith in next);
      active = λ odd. record {
        made = [];
        net = net.net;
        slots = subst (λ c. puts v.columns.key [] (rows_shown_at n (suc c) v.records) ≡ v.current) half (ap (λ rows. puts v.columns.key [] rows) (next_same n phase (phase / 2) v.records (omega arith) h.records) ∙ h.committed);
      };
    }

begun_at : (vs : List ViewState) (cs : ChangeLists) (x : ℕ) → AreNet vs cs → x < length vs
    → (changes : List Change) × AreNetChanges (get_or vs x no_view) (new_rows cs x) changes × (get_or (views_with vs cs) x no_view ≡ record (get_or vs x no_view) { next = new_rows cs x; left = changes })
begun_at [] cs x net lt = absurd (omega arith)
begun_at (v ∷ vs) [] x net lt = absurd net
begun_at (v ∷ vs) (c ∷ cs) zero net lt = (c.1, net.0.1, refl)
begun_at (v ∷ vs) (c ∷ cs) (suc x) net lt = begun_at vs cs x net.1 (omega arith)

pub begin_keeps : BeginKeepsFaithful
begin_keeps values s cs h even net next f x lt =
    let inside : x < length s.views = subst (λ m. x < m) (begun_length s.views cs) lt in
    let b = begun_at s.views cs x net inside in
    let sound : IsSoundView s.versions s.phase (view_in s x) = all_at (IsSoundView s.versions s.phase) s.views x no_view h.views inside in
    subst (IsFaithfulView s.versions (suc s.phase) (values x)) (sym b.2)
    (view_begun s.versions s.phase (values x) (view_in s x) (new_rows cs x) b.0 even sound b.1 (f x inside) (next x inside))

-- ---- a change is made

view_changed : (n phase : ℕ) (values : ℕ → List Codes) (v : ViewState) (change : Change) (others : List Change) → 2 ≤ n → IsSoundView n phase v → v.left ≡ change ∷ others → IsFaithfulView n phase values v
    → IsFaithfulView n phase values (changed_view n (phase / 2) change others v)
view_changed n phase values v change others two h e f =
    let g = view_chosen n phase v change others two h e in
    subst (λ o. IsFaithfulView n phase values (record v { records = records_with n (phase / 2) change o v.records; left = others })) (sym g.1) (made g.0 g.2)
  where
    slots : Slots v.columns.key n (phase / 2) phase v.records v.next
    slots = view_slots n phase v two h

    not_even : phase % 2 ≡ 0 → ⊥
    not_even even = let bad : [] ≡ change ∷ others = sym (h.quiet even) ∙ e in cc

    odd : phase % 2 ≡ 1
    odd = elim (cases_lt (phase % 2) 1) [ inl even ↦ absurd (not_even (omega arith)) | inr more ↦ omega arith ]

    made : (i : ℕ) → IsChosen v.columns.key n (phase / 2) phase v.records v.next slots change i → IsFaithfulView n phase values (record v { records = set v.records i (steps_after n (suc (phase / 2)) change (at v.records i)); left = others })
    made i s =
        let net = net_change v.columns.key (puts v.columns.key [] (rows_shown_at n (suc (phase / 2)) v.records)) v.next change others (h.left ∙ e) in
        let next = next_version phase not_even in
        let before = f.active odd in
        record {
          shown = λ w l.
              let u = live_in_use n w phase two odd l.committed l.fresh in
              subst (AreRowsOf v.columns.key (values w)) (sym (rows_stay v.columns.key n (phase / 2) phase v.records v.next slots change i s net.later next w u.0 u.1)) (f.shown w l);
          current = f.current;
          new = f.new;
          active = λ o. record {
            made = before.made ++ change ∷ [];
            net = append_assoc before.made (change ∷ []) others ∙ ap (λ l. before.made ++ l) (sym e) ∙ before.net;
            slots = next_after v.columns.key n (phase / 2) phase v.records v.next slots change i s net.later next
                ∙ ap (λ rows. changed_rows v.columns.key rows change) before.slots
                ∙ sym (fold-append (changed_rows v.columns.key) v.current before.made (change ∷ []));
          };
        }

-- a view as it was, or once its first change is made
abbrev IsChangedFrom : ℕ → ℕ → ViewState → ViewState → Type 0
IsChangedFrom n c v w = (w ≡ v) ⊎ ((change : Change) × (others : List Change) × (v.left ≡ change ∷ others) × (w ≡ changed_view n c change others v))

changed_from : (n c : ℕ) (vs : List ViewState) (x : ℕ) → IsChangedFrom n c (get_or vs x no_view) (get_or (views_changed n c vs) x no_view)
changed_from n c [] x = inl refl
changed_from n c (v ∷ vs) x = go v.left refl x (λ y. changed_from n c vs y)
  where
    go : (left : List Change) → v.left ≡ left → (x : ℕ) → ((y : ℕ) → IsChangedFrom n c (get_or vs y no_view) (get_or (views_changed n c vs) y no_view)) → IsChangedFrom n c (get_or (v ∷ vs) x no_view) (get_or (by_left n c v vs left) x no_view)
    go [] e zero more = inl refl
    go [] e (suc x) more = more x
    go (change ∷ others) e zero more = inr (change, others, e, refl)
    go (change ∷ others) e (suc x) more = inl refl

pub change_keeps : ChangeKeepsFaithful
change_keeps values s h f x lt = by_case (changed_from s.versions (s.phase / 2) s.views x)
  where
    inside : x < length s.views
    inside = subst (λ m. x < m) (changed_length s.versions (s.phase / 2) s.views) lt

    by_case : IsChangedFrom s.versions (s.phase / 2) (view_in s x) (get_or (views_changed s.versions (s.phase / 2) s.views) x no_view) → IsFaithfulView s.versions s.phase (values x) (get_or (views_changed s.versions (s.phase / 2) s.views) x no_view)
    by_case (inl same) = subst (IsFaithfulView s.versions s.phase (values x)) (sym same) (f x inside)
    by_case (inr made) = subst (IsFaithfulView s.versions s.phase (values x)) (sym made.3)
        (view_changed s.versions s.phase (values x) (view_in s x) made.0 made.1 h.least (all_at (IsSoundView s.versions s.phase) s.views x no_view h.views inside) made.2 (f x inside))

-- ---- a version is committed

view_published : (n phase : ℕ) (values : ℕ → List Codes) (v : ViewState) → phase % 2 ≡ 1 → IsSoundView n (suc phase) (record v { current = v.next }) → IsFaithfulView n phase values v → IsFaithfulView n (suc phase) values (record v { current = v.next })
view_published n phase values v odd sound f =
    let half : (phase + 1) / 2 ≡ suc phase / 2 = omega arith in
    record {
      shown = λ w l.
          let committed = l.committed in
          let fresh = l.fresh in
          elim (cases_lt w (suc phase / 2)) [
            | inl below ↦ f.shown w (record { committed = omega arith; fresh = λ stale. fresh (omega arith) })
            | inr last ↦
                let top : suc phase / 2 ≡ w = omega arith in
                subst (λ u. AreRowsOf v.columns.key (values u) (rows_shown_at n u v.records)) top
                (subst (λ rows. AreRowsOf v.columns.key rows (rows_shown_at n (suc phase / 2) v.records)) (f.new ∙ ap values half) (shows_current n (suc phase) (record v { current = v.next }) sound))
          ];
      current = f.new ∙ ap values half;
      new = f.new ∙ ap values (let next : (phase + 1) / 2 ≡ (suc phase + 1) / 2 = omega arith in next);
      active = λ o. absurd (omega arith);
    }

pub publish_keeps_faithful : PublishKeepsFaithful
publish_keeps_faithful values s h odd none f x lt =
    let inside : x < length s.views = subst (λ m. x < m) (length-map s.views (λ (v : ViewState). record v { current = v.next })) lt in
    let after = publish_keeps s h odd none in
    let there = get_or-map (λ (v : ViewState). record v { current = v.next }) s.views x no_view in
    let sound : IsSoundView s.versions (suc s.phase) (get_or (map (λ (v : ViewState). record v { current = v.next }) s.views) x no_view) = all_at (IsSoundView s.versions (suc s.phase)) (map (λ (v : ViewState). record v { current = v.next }) s.views) x no_view after.views lt in
    subst (IsFaithfulView s.versions (suc s.phase) (values x)) (sym there)
    (view_published s.versions s.phase (values x) (view_in s x) odd (subst (IsSoundView s.versions (suc s.phase)) there sound) (f x inside))
