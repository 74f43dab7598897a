-- What commits, answers and the integrator do to the messages of the sources.
use Rattle.std.proofs.Common.{◌≡◌, ◌≢◌, ℕ, zero, suc, ◌+◌, ◌-◌, ◌==◌, Bool, true, false, cond, List, [], ◌∷◌, ◌++◌, length, map, take, drop, Option, Some, None, slice_get, refl, sym, ap, ap₂, subst, ◌∙◌, arith, eq-eqb, eqb-true}
use Rattle.std.specs.Prelude.{filter}
use Rattle.std.specs.Option.{option_and_then, option_map, unwrap_or}
use Rattle.whips_lists.proofs.Members.{has_first, has_later}
use Rattle.whips_lists.specs.Members.{Has}
use Rattle.whips_flow.specs.State.{NumberedTransaction, count_of_source}
use Rattle.whips_model.specs.Relation.{Table}
use Rattle.whips_states.specs.States.{Updates, applied, all_applied, AreValid, AreAllValid}
use Rattle.whips_view.specs.ViewDefs.{View, keyed}
use Rattle.whips_steps.specs.Steps.{source_of_step, step_parts}
use Rattle.whips_steps.specs.Answers.{step_answer}
use Rattle.whips_facts.specs.Scripts.{Script}
use Rattle.whips_query.specs.declared.asks.Ask.{Ask}
use Rattle.whips_query.specs.declared.asks.Reply.{Reply}
use Rattle.whips_order.specs.Numbering.{next_of}
use Rattle.whips_order.specs.declared.message.Message.{Message}
use Rattle.whips_order.specs.declared.message.Message.TheVariants.{Update, Reply as SentReply}
use Rattle.whips_source.specs.Sites.{SiteState, with_first_made, after_answer, reply_on, reply_of, AreOf}
use Rattle.whips_contents.specs.Contents.{LoadedSource, LoadedManager}
use Rattle.whips_contents.specs.Events.{source_after_commit, source_after_answer, sent_reply}
use Rattle.whips_contents.proofs.Changes.{map_push}
use Rattle.whips_stage_laws.specs.Fits.{content, relations_after, IsOwn, FitsSetup, IsAnswerOf, IsAskFor, IsSiteAt, MessagesFit, SourceFits}
use Rattle.whips_stage_laws.proofs.Agree.{agree_sym, agree_trans, agree_applied, agree_foreign, valid_alike, answer_alike, applied_push}

pub count_push : (numbering : List NumberedTransaction) (k : NumberedTransaction) (z : ℕ) → count_of_source (numbering ++ k ∷ []) z ≡ count_of_source numbering z + cond (k.source == z) 1 0
count_push [] k z = elim (k.source == z) as (λ b. length (cond b (k ∷ []) []) ≡ 0 + cond b 1 0) [ true ↦ omega arith | false ↦ omega arith ]
count_push (j ∷ numbering) k z = let ih = count_push numbering k z in elim (j.source == z) as (λ b. length (cond b (j ∷ filter (λ n. n.source == z) (numbering ++ k ∷ [])) (filter (λ n. n.source == z) (numbering ++ k ∷ []))) ≡ length (cond b (j ∷ filter (λ n. n.source == z) numbering) (filter (λ n. n.source == z) numbering)) + cond (k.source == z) 1 0) [
  | true ↦ omega (arith, ih)
  | false ↦ ih
]

module _ (s : Script) (y : ℕ) where
  -- ---- the messages

  module _ (A : List Table → Reply → Type 0) where
    -- what comes behind the messages
    pub fit_append : (k : ℕ) (db : List Table) (ms more : List Message) (site after : SiteState) → MessagesFit s A y k db ms site
        → ((j : ℕ) (others : List Table) → IsSiteAt s y j others site → MessagesFit s A y j others more after) → MessagesFit s A y k db (ms ++ more) after
    fit_append k db [] more site after h g = g k db h
    fit_append k db (Update t ∷ ms) more site after h g = (h.0, h.1, h.2, fit_append (suc k) (applied db t) ms more site after h.3 g)
    fit_append k db (SentReply r ∷ ms) more site after h g = (h.0, fit_append k db ms more site after h.1 g)

  -- where each reply on its way stays right
  pub fit_map : (A B : List Table → Reply → Type 0) (k : ℕ) (db : List Table) (ms : List Message) (site : SiteState) → ((others : List Table) (r : Reply) → Has (SentReply r) ms → A others r → B others r)
      → MessagesFit s A y k db ms site → MessagesFit s B y k db ms site
  fit_map A B k db [] site g h = h
  fit_map A B k db (Update t ∷ ms) site g h = (h.0, h.1, h.2, fit_map A B (suc k) (applied db t) ms site (λ o r i. g o r (has_later (SentReply r) (Update t) ms i)) h.3)
  fit_map A B k db (SentReply r ∷ ms) site g h = (g db r (has_first (SentReply r) ms) h.0, fit_map A B k db ms site (λ o q i. g o q (has_later (SentReply q) (SentReply r) ms i)) h.1)

  -- ---- commit

  dropped : (o : Option (List Updates)) (k : ℕ) (t : Updates) (rest : List Updates) → drop k (unwrap_or o []) ≡ t ∷ rest → (unwrap_or (option_and_then (λ ts. slice_get ts k) o) [] ≡ t) × (drop (suc k) (unwrap_or o []) ≡ rest)
  dropped None zero t rest e = absurd (cc)
  dropped None (suc k) t rest e = absurd (cc)
  dropped (Some ts) k t rest e = go ts k e
    where
      go : (ts : List Updates) (k : ℕ) → drop k ts ≡ t ∷ rest → (unwrap_or (slice_get ts k) [] ≡ t) × (drop (suc k) ts ≡ rest)
      go [] zero e = absurd (cc)
      go [] (suc k) e = absurd (cc)
      go (u ∷ ts) zero e = let a : u ≡ t = cc in let b : ts ≡ rest = cc in (a, b)
      go (u ∷ ts) (suc k) e = go ts k e

  module _ (A : List Table → Reply → Type 0) (numbering : List NumberedTransaction) (z : LoadedSource) (h : SourceFits s A numbering y z) where
    pub commit_fits : (t : Updates) (rest : List Updates) → z.site.left ≡ t ∷ rest → SourceFits s A numbering y (source_after_commit z)
    commit_fits t rest e = record {
      relations = h.relations;
      agree = h.agree;
      messages = subst (λ l. MessagesFit s A y (count_of_source numbering y) h.relations (z.messages ++ map (λ t. Update t) (take 1 l)) (with_first_made l z.site)) (sym e)
          (fit_append A (count_of_source numbering y) h.relations z.messages (Update t ∷ []) z.site (with_first_made (t ∷ rest) z.site) h.messages sends);
    }
      where
        sends : (k : ℕ) (db : List Table) → IsSiteAt s y k db z.site → MessagesFit s A y k db (Update t ∷ []) (with_first_made (t ∷ rest) z.site)
        sends k db i =
            let d = dropped (slice_get s.work y) k t rest (sym i.left ∙ e) in
            let one : suc k - 1 ≡ k = omega arith in
            let valid : AreAllValid z.site.relations (t ∷ rest) = subst (AreAllValid z.site.relations) e i.valid in
            let own : AreOf s.setup.homes y (t ∷ rest) = subst (AreOf s.setup.homes y) e i.own in (
              sym (ap (λ n. unwrap_or (option_and_then (λ ts. slice_get ts n) (slice_get s.work y)) []) one ∙ d.0),
              valid_alike s.setup.homes y t z.site.relations db (agree_sym s.setup.homes y db z.site.relations i.relations) own.0 valid.0,
              own.0,
              record { views = i.views; commits = ap suc i.commits; left = sym d.1; relations = agree_applied s.setup.homes y t db z.site.relations i.relations; valid = valid.1; own = own.1 },
            )

  -- ---- answer

  -- the reply to what an open query asks fits
  pub answer_fits : (managers : List LoadedManager) (numbering : List NumberedTransaction) (z : LoadedSource) (x : ℕ) (a : Ask) (h : SourceFits s (IsAnswerOf managers y) numbering y z)
      → (ask : IsAskFor managers y x a) → slice_get s.setup.views x ≡ Some ask.manager.manager.view → FitsSetup s.setup (keyed ask.manager.manager.view) → SourceFits s (IsAnswerOf managers y) numbering y (source_after_answer x (Some a) z)
  answer_fits managers numbering z x a h ask there fits = record {
    relations = h.relations;
    agree = h.agree;
    messages = fit_append (IsAnswerOf managers y) (count_of_source numbering y) h.relations z.messages (sent_reply (reply_of z.site a)) z.site (after_answer a z.site) h.messages replies;
  }
    where
      view : View
      view = ask.manager.manager.view

      source_is : source_of_step (keyed ask.manager.manager.view) ask.query.origin ask.query.step ≡ y
      source_is = ap (λ p. p.0) ask.sent

      own : x ≡ a.view
      own = ap (λ p. p.1.view) ask.sent

      origin_is : ask.query.origin ≡ a.origin
      origin_is = ap (λ p. p.1.origin) ask.sent

      step_is : ask.query.step ≡ a.step
      step_is = ap (λ p. p.1.step) ask.sent

      partials_are : ask.query.partials ≡ a.partials
      partials_are = ap (λ p. p.1.partials) ask.sent

      is_reply : (k : ℕ) (db : List Table) → IsSiteAt s y k db z.site → reply_of z.site a ≡ Some (reply_on z.site.relations a ask.manager.manager.view)
      is_reply k db i = ap (option_map (reply_on z.site.relations a)) (ap₂ (λ vs n. slice_get vs n) i.views (sym own) ∙ there)

      replies : (k : ℕ) (db : List Table) → IsSiteAt s y k db z.site → MessagesFit s (IsAnswerOf managers y) y k db (sent_reply (reply_of z.site a)) (after_answer a z.site)
      replies k db i =
          subst (λ o. MessagesFit s (IsAnswerOf managers y) y k db (sent_reply o) (after_answer a z.site)) (sym (is_reply k db i)) (
            record {
              manager = ask.manager;
              there = ap (slice_get managers) (sym own) ∙ ask.there;
              answers = record {
                query = ask.query;
                open_query = ask.open_query;
                transaction_is = ap (λ p. p.1.update) ask.sent;
                origin_is = origin_is;
                step_is = step_is;
                answer =
                    ap₂ (λ o n. step_answer ask.manager.manager.view.parts z.site.relations (step_parts (keyed ask.manager.manager.view) o n) a.partials) (sym origin_is) (sym step_is)
                    ∙ (ap (step_answer ask.manager.manager.view.parts z.site.relations (step_parts (keyed ask.manager.manager.view) ask.query.origin ask.query.step)) (sym partials_are)
                    ∙ answer_alike s.setup (keyed ask.manager.manager.view) fits y ask.query.origin ask.query.step z.site.relations db ask.query.partials source_is (agree_sym s.setup.homes y db z.site.relations i.relations));
              };
              asked = ap₂ (λ o n. source_of_step (keyed ask.manager.manager.view) o n) (sym origin_is) (sym step_is) ∙ source_is;
            },
            record { views = i.views; commits = i.commits; left = i.left; relations = i.relations; valid = i.valid; own = i.own },
          )

  -- ---- integrate

  relations_push : (numbering : List NumberedTransaction) (k : NumberedTransaction) → relations_after s (numbering ++ k ∷ []) ≡ applied (relations_after s numbering) (content s k)
  relations_push numbering k = ap (all_applied s.setup.initial) (map_push (content s) numbering (k ∷ [])) ∙ applied_push s.setup.initial (map (content s) numbering) (content s k)

  -- the source's own transaction is numbered
  pub numbered_fits : (A : List Table → Reply → Type 0) (numbering : List NumberedTransaction) (z : LoadedSource) (t : Updates) (ms : List Message) → z.messages ≡ Update t ∷ ms → SourceFits s A numbering y z
      → SourceFits s A (numbering ++ next_of numbering y ∷ []) y (record z { messages = ms }) × (t ≡ content s (next_of numbering y)) × AreValid (relations_after s numbering) t × IsOwn s.setup.homes y t
  numbered_fits A numbering z t ms e h =
      let f : MessagesFit s A y (count_of_source numbering y) h.relations (Update t ∷ ms) z.site = subst (λ l. MessagesFit s A y (count_of_source numbering y) h.relations l z.site) e h.messages in
      let one : suc (count_of_source numbering y) ≡ count_of_source (numbering ++ next_of numbering y ∷ []) y = let c = count_push numbering (next_of numbering y) y in let d = ap {B = ℕ} (λ b. cond b 1 0) (eq-eqb y y refl) in omega (arith, c, d) in (
        record {
          relations = applied h.relations t;
          agree = agree_trans s.setup.homes y (applied h.relations t) (applied (relations_after s numbering) t) (relations_after s (numbering ++ next_of numbering y ∷ [])) (agree_applied s.setup.homes y t h.relations (relations_after s numbering) h.agree)
              (λ r k. ap (λ db. slice_get db r) (ap (applied (relations_after s numbering)) f.0 ∙ sym (relations_push numbering (next_of numbering y))));
          messages = subst (λ n. MessagesFit s A y n (applied h.relations t) ms z.site) one f.3;
        },
        f.0,
        valid_alike s.setup.homes y t h.relations (relations_after s numbering) h.agree f.2 f.1,
        f.2,
      )

  -- another source's transaction is numbered
  pub others_fit : (A : List Table → Reply → Type 0) (numbering : List NumberedTransaction) (z : LoadedSource) (k : NumberedTransaction) → k.source ≢ y → IsOwn s.setup.homes k.source (content s k) → SourceFits s A numbering y z → SourceFits s A (numbering ++ k ∷ []) y z
  others_fit A numbering z k ne own h =
      let same : count_of_source numbering y ≡ count_of_source (numbering ++ k ∷ []) y = let c = count_push numbering k y in let d = ap {B = ℕ} (λ b. cond b 1 0) (eqb-no k.source y ne) in omega (arith, c, d) in
      record {
        relations = h.relations;
        agree = agree_trans s.setup.homes y h.relations (relations_after s numbering) (relations_after s (numbering ++ k ∷ [])) h.agree
            (λ r g. sym (ap (λ db. slice_get db r) (relations_push numbering k) ∙ agree_foreign s.setup.homes y k.source (content s k) (relations_after s numbering) ne own r g));
        messages = subst (λ n. MessagesFit s A y n h.relations z.messages z.site) same h.messages;
      }
    where
      eqb-no : (a b : ℕ) → a ≢ b → (a == b) ≡ false
      eqb-no a b ne = go (a == b) refl
        where
          go : (c : Bool) → (a == b) ≡ c → (a == b) ≡ false
          go true e = absurd (ne (eqb-true a b e))
          go false e = e

  -- a reply is handed on
  pub handed_on_fits : (A : List Table → Reply → Type 0) (numbering : List NumberedTransaction) (z : LoadedSource) (r : Reply) (ms : List Message) → z.messages ≡ SentReply r ∷ ms → (h : SourceFits s A numbering y z)
      → SourceFits s A numbering y (record z { messages = ms }) × A h.relations r
  handed_on_fits A numbering z r ms e h =
      let f : MessagesFit s A y (count_of_source numbering y) h.relations (SentReply r ∷ ms) z.site = subst (λ l. MessagesFit s A y (count_of_source numbering y) h.relations l z.site) e h.messages in
      (record { relations = h.relations; agree = h.agree; messages = f.1 }, f.0)
