-- The phase of the store is small: it counts versions, and each version counts a transaction more than the one before.
use Rattle.std.proofs.Common.{◌≡◌, ℕ, zero, suc, ◌+◌, ◌*◌, ◌<◌, ◌≤◌, ◌^◌, ◌/◌, nat_le, true, List, [], ◌∷◌, ◌++◌, length, subst, arith, ⊎_elim, length-append}
use Rattle.std.specs.Prelude.{map, slice_index}
use Rattle.std.specs.List.{AllByRecursion, list_all}
use Rattle.std.proofs.lemmas.Bool.{and_parts, cases_lt}
use Rattle.std.proofs.lemmas.Bool.Decides.{nat_tests}
use Rattle.std.proofs.lemmas.List.{get_or_past, length-map}
use Rattle.whips_flow.specs.Facts.{Facts}
use Rattle.whips_flow.specs.State.{start}
use Rattle.whips_flow.specs.Progress.{after}
use Rattle.whips_flow.specs.declared.event.Event.{Event}
use Rattle.whips_cut_laws.specs.Cuts.{AdvanceFrom, AllAdvance, committed_at}
use Rattle.whips_cut_laws.proofs.Orderly.{advance}
use Rattle.whips_states.specs.States.{Updates}
use Rattle.whips_setup.specs.Setups.{SetupData}
use Rattle.whips_setup.specs.Refusals.{IsSetup}
use Rattle.whips_setup.specs.Workloads.{IsWorkload, is_transaction_within, is_list_within}
use Rattle.whips_facts.specs.Scripts.{Script}
use Rattle.whips_facts.specs.ScriptFacts.{facts_of}
use Rattle.whips_headline_laws.proofs.Counts.{after_counted, start_counted, committed_within}
use Rattle.whips_stage_laws.proofs.Setups.{lists_within, sources_few, sources_are}

-- the sum of the first n counts
sum_to : ℕ → List ℕ → ℕ
sum_to zero cut = 0
sum_to (suc n) cut = slice_index cut n + sum_to n cut

sum_le : (n : ℕ) (a b : List ℕ) → ((y : ℕ) → slice_index a y ≤ slice_index b y) → sum_to n a ≤ sum_to n b
unfolding sum_to
sum_le zero a b h = omega arith
sum_le (suc n) a b h = omega (arith, h n, sum_le n a b h)

sum_lt : (n : ℕ) (a b : List ℕ) (y : ℕ) → ((y : ℕ) → slice_index a y ≤ slice_index b y) → y < n → slice_index a y < slice_index b y → sum_to n a < sum_to n b
unfolding sum_to
sum_lt zero a b y h low lt = absurd (omega arith)
sum_lt (suc n) a b y h low lt = ⊎_elim
    (λ less. omega (arith, h n, sum_lt n a b y h less lt))
    (λ last. let same : y ≡ n = omega arith in omega (arith, subst (λ z. slice_index a z < slice_index b z) same lt, sum_le n a b h))
    (cases_lt y n)

sum_most : (n : ℕ) (xs : List ℕ) → ((y : ℕ) → slice_index xs y ≤ 4096) → sum_to n xs ≤ 4096 * n
unfolding sum_to
sum_most zero xs h = omega arith
sum_most (suc n) xs h = omega (arith, h n, sum_most n xs h)

-- cuts that advance are at most as many as all counts together
module _ (most : List ℕ) where
  abbrev Within : List ℕ → Type 0
  Within cut = (y : ℕ) → slice_index cut y ≤ slice_index most y

  chain_length : (cut : List ℕ) (cuts : List (List ℕ)) → Within cut → AllByRecursion Within cuts → AdvanceFrom cut cuts → length cuts + sum_to (length most) cut ≤ sum_to (length most) most
  chain_length cut [] w ws h = omega (arith, sum_le (length most) cut most w)
  chain_length cut (c ∷ cuts) w ws h =
      let source = h.0.source in
      let there : source < length most = ⊎_elim (λ lt. lt) (λ past. absurd (omega (arith, get_or_past most source 0 past, ws.0 source, h.0.above))) (cases_lt source (length most)) in
      omega (arith, chain_length c cuts ws.0 ws.1 h.1, sum_lt (length most) cut c source h.0.nowhere_below there h.0.above)

  all_length : (past : List (List ℕ)) (last : List ℕ) → AllByRecursion Within (past ++ last ∷ []) → AllAdvance (past ++ last ∷ []) → length past ≤ sum_to (length most) most
  all_length [] last ws h = omega arith
  all_length (c ∷ past) last ws h = omega (arith, chain_length c (past ++ last ∷ []) ws.0 ws.1 h, length-append past (last ∷ []))

each_below : (xs : List ℕ) → AllByRecursion (λ n. n ≤ 4096) xs → (y : ℕ) → slice_index xs y ≤ 4096
each_below [] h y = omega arith
each_below (x ∷ xs) h zero = h.0
each_below (x ∷ xs) h (suc y) = each_below xs h.1 y

all_map : {X : Type 0} (P Q : X → Type 0) (xs : List X) → ((x : X) → P x → Q x) → AllByRecursion P xs → AllByRecursion Q xs
all_map P Q [] h a = tt
all_map P Q (x ∷ xs) h a = (h x a.0, all_map P Q xs h a.1)

-- the phase is at most twice the number of all transactions, and one more
versions_few : (f : Facts) (es : List Event) → AllByRecursion (λ n. n ≤ 4096) f.transactions → (after f (start f) es).writer.phase / 2 ≤ 4096 * length f.transactions
versions_few f es few =
    let p = after f (start f) es in
    let h = after_counted f es (start f) (start_counted f) in
    let cuts = advance f es in
    let versions = all_length f.transactions p.writer.earlier_cuts p.writer.cut (all_map (λ cut. (y : ℕ) → slice_index cut y ≤ committed_at p y) (λ cut. (y : ℕ) → slice_index cut y ≤ slice_index f.transactions y) (p.writer.earlier_cuts ++ p.writer.cut ∷ []) (λ cut w y. omega (arith, w y, committed_within f p h y)) cuts.within_commits) cuts.advance in
    omega (arith, h.writer.versions, versions, sum_most (length f.transactions) f.transactions (each_below f.transactions few))

each_short : (s : SetupData) (work : List (List Updates)) → list_all (is_list_within s.initial) work ≡ true → AllByRecursion (λ n. n ≤ 4096) (map (λ (ts : List Updates). length ts) work)
each_short s [] e = tt
each_short s (ts ∷ work) e =
    let both = and_parts (is_list_within s.initial ts) (list_all (is_list_within s.initial) work) e in
    let short = (and_parts (nat_le (length ts) 4096) (list_all (is_transaction_within s.initial) ts) both.0).0 in
    (grind (arith, nat_tests), each_short s work both.1)

pub phase_small : (s : Script) → IsSetup s.setup → IsWorkload s.setup s.work → (es : List Event) → (after (facts_of s) (start (facts_of s)) es).writer.phase < 2 ^ 62
phase_small s is works es =
    let few = versions_few (facts_of s) es (each_short s.setup s.work (lists_within s works)) in
    omega (arith, few, sources_few s is, sources_are s works, length-map s.work (λ (ts : List Updates). length ts))
