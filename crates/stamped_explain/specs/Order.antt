-- The command line of the program that explains.
use Rattle.std.specs.Prelude.{ℕ, List, [], ◌∷◌, Option, Some, None, Result, Ok, Err, codes, if◌then◌else◌}
use Rattle.std.specs.Prelude.{option_map, option_and_then, Bool, false}
use Rattle.std.specs.Option.{is_some, option_map_or}
use Rattle.std.specs.Str.{bytes_eq}
use Rattle.stamp_cli.specs.Order.{number_in}
use Rattle.stamp_cli.specs.Options.{Table, Item, given_in, has, word_of, file_of}
use Rattle.stamp_cli.specs.declared.orders.CommandFault.{CommandFault}
use Rattle.stamp_cli.specs.declared.orders.CommandFault.TheVariants.{Bad}
use Rattle.stamped_explain.specs.declared.orders.Form.{Form}
use Rattle.stamped_explain.specs.declared.orders.Form.TheVariants.{History, Judgement}
use Rattle.stamped_explain.specs.declared.orders.Told.{Told}
use Rattle.stamped_explain.specs.declared.orders.Told.TheVariants.{Nothing, Trials}
use Rattle.stamped_explain.specs.declared.orders.Shown.{Shown}
use Rattle.stamped_explain.specs.declared.orders.Shown.TheVariants.{Entry, Small}
use Rattle.stamped_explain.specs.declared.orders.ExplainOrder.{ExplainOrder}
use Rattle.stamped_explain.specs.declared.orders.ExplainOrder.TheVariants.{Help, Explain}
use Rattle.stamped_explain.specs.declared.orders.Explaining.{Explaining}

-- --judge, --told, --small and --most N
abbrev pub options : Table
options = record {
  flags = codes "--judge" ∷ codes "--told" ∷ codes "--small" ∷ [];
  worded = codes "--most" ∷ [];
}

-- the number behind --most, or the plain one
abbrev pub most_in : List Item → Option ℕ
most_in given = option_map_or number_in (word_of (codes "--most") given) (Some 4000000)

abbrev pub form_in : List Item → Form
form_in given = if has (codes "--judge") given then Judgement else History

abbrev pub told_in : List Item → Told
told_in given = if has (codes "--told") given then Trials else Nothing

abbrev pub shown_in : List Item → Shown
shown_in given = if has (codes "--small") given then Small else Entry

-- how a history is explained by what the arguments give: no file is read
abbrev pub explaining_of : List Item → Option Explaining
explaining_of given =
    if is_some (file_of given) then None
    else option_map (λ (most : ℕ). record {
      form = form_in given;
      told = told_in given;
      shown = shown_in given;
      most = most;
    }) (most_in given)

abbrev pub asks_for_help : List (List ℕ) → Bool
asks_for_help (arg ∷ []) = bytes_eq arg (codes "--help")
asks_for_help _ = false

-- --help; or some of the options in any order
abbrev pub form_of : List (List ℕ) → Option ExplainOrder
form_of args = if asks_for_help args then Some Help
    else option_map Explain (option_and_then explaining_of (given_in options args))

-- what arguments ask for
abbrev pub order_in : List (List ℕ) → Result ExplainOrder CommandFault
order_in args = option_map_or Ok (form_of args) (Err Bad)
