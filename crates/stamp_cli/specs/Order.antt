-- The command line.
use Rattle.std.specs.Prelude.{ℕ, ◌^◌, ◌&&◌, List, [], ◌∷◌, length, Option, Some, None, Result, Ok}
use Rattle.std.specs.Prelude.{Err, option_map, option_and_then, nat_lt, codes, if◌then◌else◌}
use Rattle.std.specs.Option.{option_map_or}
use Rattle.std.specs.Str.{bytes_eq}
use Rattle.std.specs.Char.{is_ascii_digit}
use Rattle.std.specs.List.{list_all}
use Rattle.std.specs.Str.Parse.{digits_value}
use Rattle.stamp_core.specs.declared.layout.Layout.{Layout}
use Rattle.stamp_core.specs.declared.layout.Layout.TheVariants.{One, Two}
use Rattle.stamp_cli.specs.declared.orders.Order.{Order}
use Rattle.stamp_cli.specs.declared.orders.Order.TheVariants.{Replay, Run, RunReported, Check, Migrate, Stamp, StampIn}
use Rattle.stamp_cli.specs.declared.orders.CommandFault.{CommandFault}
use Rattle.stamp_cli.specs.declared.orders.CommandFault.TheVariants.{Bad}

-- decimal digits alone, at least one, of a value below 2^64
abbrev pub number_in : List ℕ → Option ℕ
number_in text = if list_all is_ascii_digit text && nat_lt 0 (length text) &&
    nat_lt (digits_value 10 text) (2 ^ 64) then Some (digits_value 10 text) else None

abbrev pub layout_in : List ℕ → Option Layout
layout_in text = if bytes_eq text (codes "1") then Some One else if bytes_eq text (codes "2") then Some Two else None

abbrev pub one_arg : List ℕ → Option Order
one_arg arg =
    if bytes_eq arg (codes "replay") then Some Replay
    else if bytes_eq arg (codes "run") then Some Run
    else if bytes_eq arg (codes "check") then Some Check
    else if bytes_eq arg (codes "migrate") then Some Migrate
    else None

abbrev pub two_args : List ℕ → List ℕ → Option Order
two_args command second =
    if bytes_eq command (codes "stamp") then option_map Stamp (number_in second)
    else if bytes_eq command (codes "run") && bytes_eq second (codes "--report") then Some RunReported
    else None

abbrev pub four_args : List ℕ → List ℕ → List ℕ → List ℕ → Option Order
four_args command option layout number =
    if bytes_eq command (codes "stamp") && bytes_eq option (codes "--layout")
    then option_and_then (λ found. option_map (StampIn found) (number_in number)) (layout_in layout)
    else None

-- the forms of the command line: replay, run, run --report, check, migrate, stamp N, stamp --layout L N
abbrev pub form_of : List (List ℕ) → Option Order
form_of (arg ∷ []) = one_arg arg
form_of (command ∷ second ∷ []) = two_args command second
form_of (command ∷ option ∷ layout ∷ number ∷ []) = four_args command option layout number
form_of _ = None

-- the command that arguments give
abbrev pub order_in : List (List ℕ) → Result Order CommandFault
order_in args = option_map_or Ok (form_of args) (Err Bad)
