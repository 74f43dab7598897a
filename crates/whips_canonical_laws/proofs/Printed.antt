-- The compact text of plain data is read as that data: its tokens are those of its outline, and the outline is the data again.
use Rattle.std.proofs.Common.{◌≡◌, suc, ◌≤◌, max, List, [], ◌++◌, Option, Some, option_map, option_and_then, refl, sym, ap, ap₂, subst, ◌∙◌, append-nil}
use Rattle.json.specs.Token.{Token}
use Rattle.json.specs.Lex.{tokens}
use Rattle.json.specs.Json as json
use Rattle.json.specs.Tree as tree
use Rattle.json.proofs.Printed.Decimals.{IsNumber-decimal}
use Rattle.json.proofs.Printed.Tokens.{tokens-print}
use Rattle.json.proofs.Printed.Trees.{value-json_tokens, ArePrintable-json_tokens}
use Rattle.serde_json.specs.Data.{unsigned, negative, float, Data, null, boolean, number, string, array, object, Items, no_items, item, Members, no_members, member, put, depth, items_depth, members_depth}
use Rattle.serde_json.specs.Read.{of_json, of_items, of_members, read, max_depth}
use Rattle.serde_json.specs.Written.{outline, items_outline, members_outline, compact_text}
use Rattle.serde_json.proofs.Numbers.{number_of-decimal}
use Rattle.serde_json.proofs.Texts.{print-outline}
use Rattle.whips_canonical_laws.specs.Plain.{joined, InOrder, IsPlain, ArePlain, ArePlainMembers}

joined_twice : (a b c : Members) → joined (joined a b) c ≡ joined a (joined b c)
joined_twice no_members b c = refl
joined_twice (member k d a) b c = ap (member k d) (joined_twice a b c)

mutual
  same_data : (d : Data) → IsPlain d → of_json (outline d) ≡ Some d
  same_data null h = refl
  same_data (boolean b) h = refl
  same_data (number (unsigned n)) h = ap (option_map number) (number_of-decimal n h)
  same_data (number (negative z)) h = absurd h
  same_data (number (float x)) h = absurd h
  same_data (string s) h = refl
  same_data (array ds) h = ap (option_map array) (same_items ds h)
  same_data (object ms) h = ap (option_map object) (same_members ms no_members h.0 h.1)

  same_items : (ds : Items) → ArePlain ds → of_items (items_outline ds) ≡ Some ds
  same_items no_items h = refl
  same_items (item d ds) h =
      ap (option_and_then (λ e. option_map (item e) (of_items (items_outline ds)))) (same_data d h.0)
      ∙ ap (option_map (item d)) (same_items ds h.1)

  same_members : (ms before : Members) → ArePlainMembers ms → InOrder before ms → of_members (members_outline ms) before ≡ Some (joined before ms)
  same_members no_members before h k = ap Some (none before)
    where
      none : (before : Members) → before ≡ joined before no_members
      none no_members = refl
      none (member k d ms) = ap (member k d) (none ms)
  same_members (member k d ms) before h o =
      ap (option_and_then (λ e. of_members (members_outline ms) (put k e before))) (same_data d h.0)
      ∙ ap (of_members (members_outline ms)) o.0
      ∙ same_members ms (joined before (member k d no_members)) h.1 o.1
      ∙ ap Some (joined_twice before (member k d no_members) ms)

mutual
  same_depth : (d : Data) → tree.depth (outline d) ≡ depth d
  same_depth null = refl
  same_depth (boolean b) = refl
  same_depth (number n) = refl
  same_depth (string s) = refl
  same_depth (array ds) = ap suc (same_items_depth ds)
  same_depth (object ms) = ap suc (same_members_depth ms)

  same_items_depth : (ds : Items) → tree.items_depth (items_outline ds) ≡ items_depth ds
  same_items_depth no_items = refl
  same_items_depth (item d ds) = ap₂ max (same_depth d) (same_items_depth ds)

  same_members_depth : (ms : Members) → tree.members_depth (members_outline ms) ≡ members_depth ms
  same_members_depth no_members = refl
  same_members_depth (member k d ms) = ap₂ max (same_depth d) (same_members_depth ms)

mutual
  has_numbers : (d : Data) → IsPlain d → tree.HasNumbers (outline d)
  has_numbers null h = tt
  has_numbers (boolean b) h = tt
  has_numbers (number (unsigned n)) h = IsNumber-decimal n h
  has_numbers (number (negative z)) h = absurd h
  has_numbers (number (float x)) h = absurd h
  has_numbers (string s) h = tt
  has_numbers (array ds) h = items_have_numbers ds h
  has_numbers (object ms) h = members_have_numbers ms h.0

  items_have_numbers : (ds : Items) → ArePlain ds → tree.ItemsHaveNumbers (items_outline ds)
  items_have_numbers no_items h = tt
  items_have_numbers (item d ds) h = (has_numbers d h.0, items_have_numbers ds h.1)

  members_have_numbers : (ms : Members) → ArePlainMembers ms → tree.MembersHaveNumbers (members_outline ms)
  members_have_numbers no_members h = tt
  members_have_numbers (member k d ms) h = (has_numbers d h.0, members_have_numbers ms h.1)

abbrev whole : Option (json.Json × List Token) → Option Data
whole o = option_and_then of_json (option_and_then (λ p. json.if_last p.0 p.1) o)

pub text_read : (d : Data) → IsPlain d → depth d ≤ max_depth → read (compact_text d) ≡ Some d
text_read d h shallow =
    let j = outline d in
    let few : tree.depth j ≤ max_depth = subst (λ n. n ≤ max_depth) (sym (same_depth d)) shallow in
    let same : tokens (compact_text d) ≡ tree.json_tokens j ++ [] = ap tokens (sym (print-outline d)) ∙ tokens-print (tree.json_tokens j) (ArePrintable-json_tokens j (has_numbers d h)) ∙ sym (append-nil (tree.json_tokens j)) in
    ap (λ ts. whole (json.value max_depth ts)) same ∙ ap whole (value-json_tokens j max_depth [] few) ∙ same_data d h
