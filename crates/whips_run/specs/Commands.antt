-- The commands that words are.
use Rattle.std.specs.Prelude.{ℕ, List, [], ◌∷◌, codes, Option, Some, None, if◌then◌else◌}
use Rattle.std.specs.Str.{bytes_eq}
use Rattle.whips_plan_reading.specs.Events.{decimal_within, of_both}
use Rattle.whips_run.specs.declared.commands.Command.{Command}
use Rattle.whips_run.specs.declared.commands.Command.TheVariants.{Run, Check, Make}

-- The start number that a word is: 0, or any that 32 bits hold, in decimal and with no zero in front.
abbrev pub start_of : List ℕ → Option ℕ
start_of word = if bytes_eq word (codes "0") then Some 0 else decimal_within 1 4294967295 word

-- The command of one word, and that of a word and two numbers.
abbrev pub command_of : List (List ℕ) → Option Command
command_of (word ∷ []) = if bytes_eq word (codes "run") then Some Run else (if bytes_eq word (codes "check") then Some Check else None)
command_of (word ∷ start ∷ size ∷ []) = if bytes_eq word (codes "make") then of_both Make (start_of start) (decimal_within 1 4096 size) else None
command_of _ = None
