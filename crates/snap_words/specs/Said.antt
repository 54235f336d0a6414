-- What the code's values stand for.
use Rattle.std.specs.Prelude.{ℕ, ◌==◌, ◌&&◌, Bool, true, List, map, Option, Some, None, option_map}
use Rattle.std.specs.List.{ends_with, list_all, list_any}
use Rattle.std.specs.Borrow.{Bor}
use Rattle.std.specs.declared.vec.Vec.{Vec}
use Rattle.std.specs.Global.{Global}
use Rattle.snap_words.specs.Commands.{Command, Order, plain, schedule, changes, in_order, rounds, check, compile, demo, deps, equal, obs, routes, place, trace}
use Rattle.snap_words.specs.Words.{Flag, Text, ArgumentsView, Valued, hops_flag, on_demand_flag, ordered_flag, schedule_option, changes_option, workers_option}
use Rattle.snap_words.specs.declared.command.Command.{Command as Given}
use Rattle.snap_words.specs.declared.command.Command.TheVariants as given
use Rattle.snap_words.specs.declared.command.Order.{Order as GivenOrder}
use Rattle.snap_words.specs.declared.command.Order.TheVariants as given_order
use Rattle.snap_words.specs.declared.told.Arguments.{Arguments as Taken}

-- the texts that references lend
abbrev pub lent : List (Bor Text) → List Text
lent texts = map (λ t. t.now) texts

-- the bytes of words
abbrev pub bytes_of : List (Vec ℕ Global) → List Text
bytes_of words = map (λ w. w.items) words

-- a word that ends with a name's bytes is there
abbrev pub is_among : List Text → Text → Bool
is_among words name = list_any (λ w. ends_with ◌==◌ w name) words

abbrev pub are_among : List Text → List Text → Bool
are_among words names = list_all (is_among words) names

abbrev pub is_among_or_none : List Text → Option Text → Bool
is_among_or_none words None = true
is_among_or_none words (Some name) = is_among words name

abbrev pub has_values_among : List Text → ArgumentsView → Bool
has_values_among words t = is_among_or_none words (t.values schedule_option)
    && is_among_or_none words (t.values changes_option) && is_among_or_none words (t.values workers_option)

-- all names and values that were told end some word
abbrev pub said_among : List Text → ArgumentsView → Bool
said_among words t = are_among words t.names && has_values_among words t

-- what the code was told
abbrev pub flags_of : Taken → Flag → Bool
flags_of t hops_flag = t.hops
flags_of t ordered_flag = t.ordered
flags_of t on_demand_flag = t.on_demand

abbrev pub values_of : Taken → Valued → Option Text
values_of t schedule_option = option_map (λ s. s.now) t.schedule
values_of t changes_option = option_map (λ s. s.now) t.changes
values_of t workers_option = option_map (λ s. s.now) t.workers

abbrev pub said : Taken → ArgumentsView
said t = record { flags = flags_of t; values = values_of t; names = lent t.names.items }

-- the order that an answer gives
abbrev pub shown_order : GivenOrder → Order
shown_order given_order.Plain = plain
shown_order (given_order.Schedule file) = schedule file.now
shown_order (given_order.Changes file) = changes file.now
shown_order (given_order.InOrder lines) = in_order (option_map (λ s. s.now) lines)
shown_order (given_order.Rounds workers) = rounds workers.value

-- the command that an answer gives
abbrev pub shown : Given → Command
shown (given.Obs program packets) = obs program.now packets.now
shown (given.Deps program) = deps program.now
shown (given.Check program) = check program.now
shown (given.Equal left right) = equal left.now right.now
shown (given.Routes topology) = routes topology.now
shown (given.Place program topology demand) = place program.now topology.now demand.now
shown (given.Compile program topology placement on_demand) = compile program.now topology.now placement.now on_demand
shown (given.Trace tables packets hops order) = trace tables.now packets.now hops (shown_order order)
shown (given.Demo switches) = demo switches.value
