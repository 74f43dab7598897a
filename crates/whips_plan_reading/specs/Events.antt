-- The event that a text is.
use Rattle.std.specs.Prelude.{ℕ, ◌&&◌, ◌==◌, List, [], ◌∷◌, nat_le, decimal, codes, Option, Some, None, option_and_then, if◌then◌else◌}
use Rattle.std.specs.Option.{option_map}
use Rattle.std.specs.List.{slice_split}
use Rattle.std.specs.Str.{bytes_eq}
use Rattle.std.specs.Str.Parse.{digits_value}
use Rattle.whips_flow.specs.declared.event.Event.{Event}
use Rattle.whips_flow.specs.declared.event.Event.TheVariants.{Commit, Answer, Integrate, Manage, Rel, Act, Begin, Change, Publish, SessionOpen, SessionScan, SessionFetch, SessionClose}
use Rattle.whips_reading.specs.Json.{Text, only}
use Rattle.whips_reading.specs.Names.{place_of}

-- The names that events speak of.
pub record Names : Type 0 where
  pub sources : List Text
  pub views : List Text
  pub sessions : List Text

abbrev pub names_with : (sources views sessions : List Text) → Names
names_with sources views sessions = record { sources = sources; views = views; sessions = sessions }

-- The words of a text, divided by one blank each.
abbrev pub words_of : Text → List Text
words_of text = slice_split (λ b. b == 32) text

-- The number from `least` to `most` whose decimal text this is.
abbrev pub decimal_within : (least most : ℕ) → Text → Option ℕ
decimal_within least most text = only (λ n. nat_le least n && nat_le n most && bytes_eq (decimal n) text) (Some (digits_value 10 text))

-- The number of slots of a fetch whose decimal text this is.
abbrev pub count_of : Text → Option ℕ
count_of text = decimal_within 1 65536 text

-- The event that is one word.
abbrev pub bare_event : Text → Option Event
bare_event word =
    if bytes_eq word (codes "rel") then Some Rel
    else (if bytes_eq word (codes "begin") then Some Begin
    else (if bytes_eq word (codes "change") then Some Change
    else (if bytes_eq word (codes "publish") then Some Publish else None)))

-- The event that is a word and the name of a source, a view or a session.
abbrev pub named_event : Names → (word name : Text) → Option Event
named_event names word name =
    if bytes_eq word (codes "commit") then option_map Commit (place_of names.sources name)
    else (if bytes_eq word (codes "integrate") then option_map Integrate (place_of names.sources name)
    else (if bytes_eq word (codes "manage") then option_map Manage (place_of names.views name)
    else (if bytes_eq word (codes "act") then option_map Act (place_of names.views name)
    else (if bytes_eq word (codes "open") then option_map SessionOpen (place_of names.sessions name)
    else (if bytes_eq word (codes "close") then option_map SessionClose (place_of names.sessions name) else None)))))

-- What is made of both, where both are there.
abbrev pub of_both : {A B C : Type 0} → (A → B → C) → Option A → Option B → Option C
of_both f a b = option_and_then (λ x. option_map (f x) b) a

-- The event that is a word, the name of a source or a session, and the name of a view or a number.
abbrev pub paired_event : Names → (word name last : Text) → Option Event
paired_event names word name last =
    if bytes_eq word (codes "answer") then of_both Answer (place_of names.sources name) (place_of names.views last)
    else (if bytes_eq word (codes "scan") then of_both SessionScan (place_of names.sessions name) (place_of names.views last)
    else (if bytes_eq word (codes "fetch") then of_both SessionFetch (place_of names.sessions name) (count_of last) else None))

-- The event of these words.
abbrev pub event_of : Names → List Text → Option Event
event_of names (word ∷ []) = bare_event word
event_of names (word ∷ name ∷ []) = named_event names word name
event_of names (word ∷ name ∷ last ∷ []) = paired_event names word name last
event_of names _ = None

-- The event that a text is: its first word says which, and the others are names, of which the first of a list counts, or a number.
abbrev pub event_in : Names → Text → Option Event
event_in names text = event_of names (words_of text)
