-- The command line of the program that judges streams.
use Rattle.std.specs.Prelude.{ℕ, List, [], ◌∷◌, Option, Some, None, Result, Ok, Err, codes, nat_le, if◌then◌else◌}
use Rattle.std.specs.Prelude.{Bool, true, false, not, option_map, option_and_then}
use Rattle.std.specs.Option.{option_map_or}
use Rattle.std.specs.Str.{bytes_eq}
use Rattle.std.specs.Str.Parse.{starts_with_minus}
use Rattle.stamp_cli.specs.Order.{number_in}
use Rattle.stamp_cli.specs.Options.{Table, Item, given_in, has, word_of, file_of}
use Rattle.stamp_cli.specs.declared.orders.CommandFault.{CommandFault}
use Rattle.stamp_cli.specs.declared.orders.CommandFault.TheVariants.{Bad}
use Rattle.stamped_watch.specs.declared.orders.Watching.{Watching}
use Rattle.stamped_watch.specs.declared.orders.WatchOrder.{WatchOrder}
use Rattle.stamped_watch.specs.declared.orders.WatchOrder.TheVariants.{Help, Watch}

-- at most 2^32 events
abbrev pub no_more : ℕ → Option ℕ
no_more ahead = if nat_le ahead 4294967296 then Some ahead else None

abbrev pub ahead_in : List ℕ → Option ℕ
ahead_in text = option_and_then no_more (number_in text)

-- a word that doesn't begin with `-` may name a file
abbrev pub is_file : List ℕ → Bool
is_file word = not (starts_with_minus word)

-- --progress, --most N, --ahead N and --witness FILE
abbrev pub options : Table
options = record {
  flags = codes "--progress" ∷ [];
  worded = codes "--most" ∷ codes "--ahead" ∷ codes "--witness" ∷ [];
}

-- the number behind --most, or the plain one
abbrev pub most_in : List Item → Option ℕ
most_in given = option_map_or number_in (word_of (codes "--most") given) (Some 1000000)

abbrev pub ahead_of : List Item → Option ℕ
ahead_of given = option_map_or ahead_in (word_of (codes "--ahead") given) (Some 4194304)

-- whether --witness is there, with a word that may name a file
abbrev pub witness_of : List Item → Option Bool
witness_of given = option_map_or (λ (word : List ℕ). if is_file word then Some true else None)
    (word_of (codes "--witness") given) (Some false)

-- how a stream is judged by what the arguments give
abbrev pub watching_of : List Item → Option Watching
watching_of given =
    option_and_then (λ (most : ℕ).
    option_and_then (λ (ahead : ℕ).
    option_map (λ (witness : Bool).
    record { most = most; ahead = ahead; progress = has (codes "--progress") given; witness = witness })
    (witness_of given)) (ahead_of given)) (most_in given)

-- this, and all that they give
abbrev pub judged_in : List (List ℕ) → Option (Watching × List Item)
judged_in args = option_and_then (λ (given : List Item).
    option_map (λ (watching : Watching). (watching, given)) (watching_of given)) (given_in options args)

abbrev pub asks_for_help : List (List ℕ) → Bool
asks_for_help (arg ∷ []) = bytes_eq arg (codes "--help")
asks_for_help _ = false

-- --help; or some of the options and a file or none, in any order
abbrev pub form_of : List (List ℕ) → Option WatchOrder
form_of args =
    if asks_for_help args then Some Help
    else option_map (λ (judged : Watching × List Item). Watch judged.0) (judged_in args)

-- what arguments ask for
abbrev pub order_in : List (List ℕ) → Result WatchOrder CommandFault
order_in args = option_map_or Ok (form_of args) (Err Bad)

-- the file that is judged, and that for a witness
abbrev pub file_in : List (List ℕ) → Option (List ℕ)
file_in args = option_and_then (λ (judged : Watching × List Item). file_of judged.1) (judged_in args)

abbrev pub witness_in : List (List ℕ) → Option (List ℕ)
witness_in args =
    option_and_then (λ (judged : Watching × List Item). word_of (codes "--witness") judged.1) (judged_in args)
