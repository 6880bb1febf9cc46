-- The command line.
use Rattle.std.specs.Prelude.{ℕ, ◌==◌, nat_le, List, [], ◌∷◌, Option, Some, None, Result, Ok, Err, codes}
use Rattle.std.specs.Prelude.{Bool, false, if◌then◌else◌}
use Rattle.std.specs.Prelude.{option_map, option_and_then}
use Rattle.std.specs.Option.{is_some, option_map_or}
use Rattle.std.specs.Str.{bytes_eq}
use Rattle.stamp_cli.specs.Order.{number_in}
use Rattle.stamp_cli.specs.Options.{Table, Item, given_in, has, word_of, file_of}
use Rattle.stamp_cli.specs.declared.orders.CommandFault.{CommandFault}
use Rattle.stamp_cli.specs.declared.orders.CommandFault.TheVariants.{Bad}
use Rattle.stamp_picture.specs.declared.window.Window.{Window}
use Rattle.stamped_picture.specs.declared.orders.PictureFormat.{PictureFormat}
use Rattle.stamped_picture.specs.declared.orders.PictureFormat.TheVariants.{Svg, Text}
use Rattle.stamped_picture.specs.declared.orders.PictureOrder.{PictureOrder}
use Rattle.stamped_picture.specs.declared.orders.PictureCommand.{PictureCommand}
use Rattle.stamped_picture.specs.declared.orders.PictureCommand.TheVariants.{Help, Draw, Page}

-- --text, --width N, --from A and --to B
abbrev pub options : Table
options = record {
  flags = codes "--text" ∷ [];
  worded = codes "--width" ∷ codes "--from" ∷ codes "--to" ∷ [];
}

-- a number that is not 0
abbrev pub width_in : List ℕ → Option ℕ
width_in text = option_and_then (λ (n : ℕ). if n == 0 then None else Some n) (number_in text)

-- lines of so many characters, or of 80
abbrev pub text_of : List Item → Option PictureFormat
text_of given = option_map_or (λ (width : List ℕ). option_map Text (width_in width))
    (word_of (codes "--width") given) (Some (Text 80))

-- text, if it is asked for; --width stands only beside it
abbrev pub format_of : List Item → Option PictureFormat
format_of given =
    if has (codes "--text") given then text_of given
    else if has (codes "--width") given then None
    else Some Svg

abbrev pub window : ℕ → ℕ → Window
window from to = record { from = from; to = to }

-- the positions from one to another that is not before it
unfoldable pub window_between : ℕ → ℕ → Option Window
window_between from to = if nat_le from to then Some (window from to) else None

-- --from A --to B, which stand only together; without them it is all
abbrev pub window_by : Option (List ℕ) → Option (List ℕ) → Option Window
window_by (Some from) (Some to) =
    option_and_then (λ (a : ℕ). option_and_then (λ (b : ℕ). window_between a b) (number_in to)) (number_in from)
window_by None None = Some (window 0 18446744073709551615)
window_by _ _ = None

abbrev pub window_of : List Item → Option Window
window_of given = window_by (word_of (codes "--from") given) (word_of (codes "--to") given)

abbrev pub order : PictureFormat → Window → PictureOrder
order format w = record { format = format; window = w }

-- what is drawn by what the arguments give: no file is read
abbrev pub drawn_by : List Item → Option PictureOrder
drawn_by given =
    if is_some (file_of given) then None
    else option_and_then (λ (format : PictureFormat). option_map (λ (w : Window). order format w) (window_of given))
    (format_of given)

-- --help alone
abbrev pub asks_for_help : List (List ℕ) → Bool
asks_for_help (arg ∷ []) = bytes_eq arg (codes "--help")
asks_for_help _ = false

-- --html alone
abbrev pub asks_for_page : List (List ℕ) → Bool
asks_for_page (arg ∷ []) = bytes_eq arg (codes "--html")
asks_for_page _ = false

-- --help, or --html; or some of the options in any order
abbrev pub command_of : List (List ℕ) → Option PictureCommand
command_of args =
    if asks_for_help args then Some Help
    else if asks_for_page args then Some Page
    else option_map Draw (option_and_then drawn_by (given_in options args))

-- what arguments ask for
abbrev pub order_in : List (List ℕ) → Result PictureCommand CommandFault
order_in args = option_map_or Ok (command_of args) (Err Bad)
