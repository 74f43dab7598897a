-- What is a source's among the relations and the transactions of all sources.
use Rattle.std.proofs.Common.{◌≡◌, ℕ, zero, suc, ◌+◌, ◌<◌, ◌==◌, Bool, true, false, List, [], ◌∷◌, ◌++◌, length, drop, replicate, slice_get, slice_index_or, Some, refl, ap, subst, ◌∙◌, arith, append_assoc, append-nil, eq-eqb, eqb-true}
use Rattle.std.specs.Prelude.{if◌then◌else◌}
use Rattle.std.specs.List.{AllByRecursion}
use Rattle.whips_relation_reading.specs.Relations.{RelationForm}
use Rattle.whips_script_writing.specs.Relations.{relations_of}

-- ---- lists with more behind them

module _ {X : Type 0} where
  get_more : (xs more : List X) (i : ℕ) (x : X) → slice_get xs i ≡ Some x → slice_get (xs ++ more) i ≡ Some x
  get_more [] more i x e = absurd (cc)
  get_more (y ∷ xs) more zero x e = e
  get_more (y ∷ xs) more (suc i) x e = get_more xs more i x e

  -- what is in the list behind its first k elements is in the list, and in one with more behind it
  pub get_dropped : (k : ℕ) (xs more : List X) (i : ℕ) (x : X) → slice_get (drop k xs) i ≡ Some x → slice_get (xs ++ more) (k + i) ≡ Some x
  get_dropped zero xs more i x e = let same : i ≡ zero + i = omega arith in subst (λ j. slice_get (xs ++ more) j ≡ Some x) same (get_more xs more i x e)
  get_dropped (suc k) [] more i x e = absurd (cc)
  get_dropped (suc k) (y ∷ xs) more i x e = let same : suc (k + i) ≡ suc k + i = omega arith in subst (λ j. slice_get (y ∷ xs ++ more) j ≡ Some x) same (get_dropped k xs more i x e)

  pub index_last : (xs more : List X) (x default : X) → slice_index_or ((xs ++ x ∷ []) ++ more) (length xs) default ≡ x
  index_last [] more x default = refl
  index_last (y ∷ xs) more x default = index_last xs more x default

-- ---- the relations of a source

pub differs : (a b : ℕ) → a < b → ((a == b) ≡ false) × ((b == a) ≡ false)
differs a b lt = (go a b (λ (same : a ≡ b). absurd (omega arith)), go b a (λ (same : b ≡ a). absurd (omega arith)))
  where
    go : (x y : ℕ) → (x ≡ y → (x == y) ≡ false) → (x == y) ≡ false
    go x y apart = pick (x == y) refl
      where
        pick : (c : Bool) → (x == y) ≡ c → (x == y) ≡ false
        pick true e = apart (eqb-true x y e)
        pick false e = e

-- all homes are other sources than y
abbrev pub AreOthers : ℕ → List ℕ → Type 0
AreOthers y homes = AllByRecursion (λ home. (home == y) ≡ false) homes

module _ (y : ℕ) where
  none_of_others : (homes : List ℕ) (relations : List RelationForm) → AreOthers y homes → relations_of y homes relations ≡ []
  none_of_others [] relations h = refl
  none_of_others (home ∷ homes) [] h = refl
  none_of_others (home ∷ homes) (r ∷ relations) h = ap (λ b. if b then r ∷ relations_of y homes relations else relations_of y homes relations) h.0 ∙ none_of_others homes relations h.1

  behind_others : (homes more : List ℕ) (relations behind : List RelationForm) → AreOthers y homes → length homes ≡ length relations → relations_of y (homes ++ more) (relations ++ behind) ≡ relations_of y more behind
  behind_others [] more [] behind h n = refl
  behind_others [] more (r ∷ relations) behind h n = absurd (cc)
  behind_others (home ∷ homes) more [] behind h n = absurd (cc)
  behind_others (home ∷ homes) more (r ∷ relations) behind h n =
      ap (λ b. if b then r ∷ relations_of y (homes ++ more) (relations ++ behind) else relations_of y (homes ++ more) (relations ++ behind)) h.0 ∙ behind_others homes more relations behind h.1 (omega (arith, n))

  of_copies : (own behind : List RelationForm) (more : List ℕ) → relations_of y (replicate (length own) y ++ more) (own ++ behind) ≡ own ++ relations_of y more behind
  of_copies [] behind more = refl
  of_copies (r ∷ own) behind more =
      ap (λ b. if b then r ∷ relations_of y (replicate (length own) y ++ more) (own ++ behind) else relations_of y (replicate (length own) y ++ more) (own ++ behind)) (eq-eqb y y refl) ∙ ap (λ rs. r ∷ rs) (of_copies own behind more)

  -- the relations of source y, between those of others
  pub relations_between : (homes more : List ℕ) (relations own behind : List RelationForm) → AreOthers y homes → AreOthers y more → length homes ≡ length relations
      → relations_of y ((homes ++ replicate (length own) y) ++ more) ((relations ++ own) ++ behind) ≡ own
  relations_between homes more relations own behind before after count =
      ap (λ hs. relations_of y hs ((relations ++ own) ++ behind)) (append_assoc homes (replicate (length own) y) more)
      ∙ ap (relations_of y (homes ++ (replicate (length own) y ++ more))) (append_assoc relations own behind)
      ∙ behind_others homes (replicate (length own) y ++ more) relations (own ++ behind) before count
      ∙ of_copies own behind more
      ∙ ap (λ rs. own ++ rs) (none_of_others more behind after)
      ∙ append-nil own
