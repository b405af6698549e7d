-- Which lines need a world: those of actors, of puts in flight and of faults.
use Rattle.std.specs.Prelude.{ℕ, ◌||◌, Bool, List, codes, nat_eq}
use Rattle.std.specs.List.{list_any, starts_with}
use Rattle.delta_actions.specs.Commit.{lines_of}

-- a line begins with the word of an actor's line, of a put in flight or of a fault
abbrev pub is_of_actors : List ℕ → Bool
is_of_actors line =
    starts_with nat_eq line (codes "fault ")
    || (starts_with nat_eq line (codes "start ")
    || (starts_with nat_eq line (codes "until ")
    || (starts_with nat_eq line (codes "step ")
    || (starts_with nat_eq line (codes "finish ")
    || (starts_with nat_eq line (codes "die ")
    || starts_with nat_eq line (codes "land "))))))

-- a text has such a line
abbrev pub needs_world : List ℕ → Bool
needs_world text = list_any is_of_actors (lines_of text)
