-- An event's text.
-- Theorem: the text that an event is read from is the one that is printed for it.
-- Idea: the words of a text, joined by blanks, are the text (std). Where words are an event they are the very words that are printed, by cases of the first: the place that a name was read as
-- has this name, and a count's decimal text is the word that it was read from. Carried by `named`, `counted` and `of_words`.
use Rattle.std.proofs.Common.{◌≡◌, ℕ, zero, suc, Bool, true, false, List, [], ◌∷◌, ◌++◌, Option, Some, None, refl, sym, ap, ap₂, ◌∙◌, subst}
use Rattle.std.specs.Prelude.{nat_le, decimal, codes, ◌&&◌, if◌then◌else◌}
use Rattle.std.specs.List.{join_with_byte}
use Rattle.std.specs.Option.{option_map}
use Rattle.std.specs.Str.{bytes_eq}
use Rattle.std.specs.Str.Parse.{digits_value}
use Rattle.std.proofs.lemmas.List.Splits.{join_with_byte-slice_split}
use Rattle.std.proofs.lemmas.Slice.Eq.{bytes_eq-Decides}
use Rattle.whips_flow.specs.declared.event.Event.{Event}
use Rattle.whips_flow.specs.declared.event.Event.TheVariants.{Commit, Answer, Integrate, Manage, Rel, Act, Begin, Change, Publish, SessionOpen, SessionScan, SessionFetch, SessionClose}
use Rattle.whips_facts.specs.Scripts.{Labels}
use Rattle.whips_reports.specs.Lines.{name_at, words, event_words}
use Rattle.whips_reading.specs.Json.{Text}
use Rattle.whips_reading.specs.Names.{place_of}
use Rattle.whips_plan_reading.specs.Events.{words_of, count_of, bare_event, named_event, of_both, paired_event, event_of, event_in}
use Rattle.whips_script_laws.specs.Printed.{names_in}

-- ---- what an option is made of

map_some : {A B : Type 0} (f : A → B) (o : Option A) (b : B) → option_map f o ≡ Some b → (a : A) × (o ≡ Some a) × (f a ≡ b)
map_some f None b h = cc
map_some f (Some a) b h = (a, refl, cc)

both_some : {A B C : Type 0} (f : A → B → C) (o : Option A) (p : Option B) (c : C) → of_both f o p ≡ Some c → (a : A) × (b : B) × (o ≡ Some a) × (p ≡ Some b) × (f a b ≡ c)
both_some f None p c h = cc
both_some f (Some a) p c h = let m = map_some (f a) p c h in (a, m.0, refl, m.1, m.2)

-- the choice that was made
choose : {K P A : Type 0} (b : Bool) (x y : Option A) (a : A) → (b ≡ true → K) → (if b then x else y) ≡ Some a → (K → x ≡ Some a → P) → (y ≡ Some a → P) → P
choose true x y a k h f g = f (k refl) h
choose false x y a k h f g = g h

by_word : {P A : Type 0} (w v : Text) (x y : Option A) (a : A) → (if bytes_eq w v then x else y) ≡ Some a → (w ≡ v → x ≡ Some a → P) → (y ≡ Some a → P) → P
by_word w v x y a = choose (bytes_eq w v) x y a ((bytes_eq-Decides w v).0)

-- ---- a name, and a count

pub named : (names : List Text) (t : Text) (i : ℕ) → place_of names t ≡ Some i → t ≡ name_at names i
named [] t i h = cc
named (n ∷ names) t i h = by_word n t (Some 0) (option_map suc (place_of names t)) i h
    (λ is e. let first : zero ≡ i = cc in subst (λ k. t ≡ name_at (n ∷ names) k) first (sym is))
    (λ e. let m = map_some suc (place_of names t) i e in subst (λ k. t ≡ name_at (n ∷ names) k) m.2 (named names t m.0 m.1))

and_last : (a b : Bool) → (a && b) ≡ true → b ≡ true
and_last true b h = h
and_last false b h = cc

pub counted : (t : Text) (n : ℕ) → count_of t ≡ Some n → t ≡ decimal n
counted t n h =
    let v = digits_value 10 t in
    choose (nat_le 1 v && nat_le v 65536 && bytes_eq (decimal v) t) (Some v) None n (and_last (nat_le 1 v && nat_le v 65536) (bytes_eq (decimal v) t)) h
    (λ last e. let same : v ≡ n = cc in sym (subst (λ k. decimal k ≡ t) same ((bytes_eq-Decides (decimal v) t).0 last)))
    (λ e. cc)

-- ---- the words of an event

module _ (l : Labels) where
  bare : (w : Text) (e : Event) → bare_event w ≡ Some e → w ∷ [] ≡ event_words l e
  bare w e h =
      let done = λ (v : Text) (z : Event) (is : w ≡ v) (made : z ≡ e) (printed : v ∷ [] ≡ event_words l z). subst (λ (y : Event). w ∷ [] ≡ event_words l y) made (ap (λ u. u ∷ []) is ∙ printed) in
      by_word w (codes "rel") _ _ e h (λ is x. done (codes "rel") Rel is (cc) refl)
      (λ h. by_word w (codes "begin") _ _ e h (λ is x. done (codes "begin") Begin is (cc) refl)
      (λ h. by_word w (codes "change") _ _ e h (λ is x. done (codes "change") Change is (cc) refl)
      (λ h. by_word w (codes "publish") _ _ e h (λ is x. done (codes "publish") Publish is (cc) refl) (λ h. cc))))

  -- a word and a name
  pair : (w v n : Text) (names : List Text) (make : ℕ → Event) (e : Event) → w ≡ v → option_map make (place_of names n) ≡ Some e → ((i : ℕ) → v ∷ name_at names i ∷ [] ≡ event_words l (make i)) → w ∷ n ∷ [] ≡ event_words l e
  pair w v n names make e is h printed =
      let m = map_some make (place_of names n) e h in
      subst (λ (y : Event). w ∷ n ∷ [] ≡ event_words l y) m.2 (ap₂ (λ a b. a ∷ b ∷ []) is (named names n m.0 m.1) ∙ printed m.0)

  one_name : (w n : Text) (e : Event) → named_event (names_in l) w n ≡ Some e → w ∷ n ∷ [] ≡ event_words l e
  one_name w n e h =
      by_word w (codes "commit") _ _ e h (λ is x. pair w (codes "commit") n l.sources Commit e is x (λ i. refl))
      (λ h. by_word w (codes "integrate") _ _ e h (λ is x. pair w (codes "integrate") n l.sources Integrate e is x (λ i. refl))
      (λ h. by_word w (codes "manage") _ _ e h (λ is x. pair w (codes "manage") n l.views Manage e is x (λ i. refl))
      (λ h. by_word w (codes "act") _ _ e h (λ is x. pair w (codes "act") n l.views Act e is x (λ i. refl))
      (λ h. by_word w (codes "open") _ _ e h (λ is x. pair w (codes "open") n l.sessions SessionOpen e is x (λ i. refl))
      (λ h. by_word w (codes "close") _ _ e h (λ is x. pair w (codes "close") n l.sessions SessionClose e is x (λ i. refl)) (λ h. cc))))))

  -- a word, a name and one word more, of which `told` says how it is printed
  triple : (w v n m : Text) (names : List Text) (o : Option ℕ) (told : ℕ → Text) (make : ℕ → ℕ → Event) (e : Event) → w ≡ v → of_both make (place_of names n) o ≡ Some e → ((k : ℕ) → o ≡ Some k → m ≡ told k)
      → ((i k : ℕ) → v ∷ name_at names i ∷ told k ∷ [] ≡ event_words l (make i k)) → w ∷ n ∷ m ∷ [] ≡ event_words l e
  triple w v n m names o told make e is h last printed =
      let b = both_some make (place_of names n) o e h in
      subst (λ (y : Event). w ∷ n ∷ m ∷ [] ≡ event_words l y) b.4
      (ap₂ (λ a c. a ∷ c ∷ m ∷ []) is (named names n b.0 b.2) ∙ ap (λ c. v ∷ name_at names b.0 ∷ c ∷ []) (last b.1 b.3) ∙ printed b.0 b.1)

  two_names : (w n m : Text) (e : Event) → paired_event (names_in l) w n m ≡ Some e → w ∷ n ∷ m ∷ [] ≡ event_words l e
  two_names w n m e h =
      by_word w (codes "answer") _ _ e h (λ is x. triple w (codes "answer") n m l.sources (place_of l.views m) (name_at l.views) Answer e is x (named l.views m) (λ i k. refl))
      (λ h. by_word w (codes "scan") _ _ e h (λ is x. triple w (codes "scan") n m l.sessions (place_of l.views m) (name_at l.views) SessionScan e is x (named l.views m) (λ i k. refl))
      (λ h. by_word w (codes "fetch") _ _ e h (λ is x. triple w (codes "fetch") n m l.sessions (count_of m) decimal SessionFetch e is x (counted m) (λ i k. refl)) (λ h. cc)))

  of_words : (ws : List Text) (e : Event) → event_of (names_in l) ws ≡ Some e → ws ≡ event_words l e
  of_words [] e h = cc
  of_words (w ∷ []) e h = bare w e h
  of_words (w ∷ n ∷ []) e h = one_name w n e h
  of_words (w ∷ n ∷ m ∷ []) e h = two_names w n m e h
  of_words (w ∷ n ∷ m ∷ v ∷ ws) e h = cc

-- ---- the text

joined : (ws : List Text) → words ws ≡ join_with_byte 32 ws
joined [] = refl
joined (w ∷ []) = refl
joined (w ∷ v ∷ ws) = ap (λ t. w ++ 32 ∷ t) (joined (v ∷ ws))

pub printed : (l : Labels) (t : Text) (e : Event) → event_in (names_in l) t ≡ Some e → t ≡ words (event_words l e)
printed l t e h = sym (join_with_byte-slice_split 32 t) ∙ sym (joined (words_of t)) ∙ ap words (of_words l (words_of t) e h)
