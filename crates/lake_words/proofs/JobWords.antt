-- What `clap` finds in the words of a job: the job's name, and what the words behind it are read as.
use Rattle.std.proofs.Common.{◌≡◌, ◌&&◌, Bool, true, false, not, List, [], ◌∷◌, ◌++◌, map, Option, Some, None, refl, ap, ◌∙◌, sym, subst, codes, append-nil, append_assoc}
use Rattle.std.proofs.lemmas.Bool.{and_from, not-true, not-false}
use Rattle.std.specs.Prelude.{is_some, option_map}
use Rattle.std.specs.List.{list_all, fold, find}
use Rattle.std.specs.Option.{option_map_or}
use Rattle.clap.specs.Values.{bool_text}
use Rattle.clap.specs.Walk.{Names, Row, Rule, Text, Walk, answers_to, finished, nothing_held, one_of, walk, walk_from, walked}
use Rattle.clap.specs.Simple.{App, Shape, built, built_leaf, entered, inherited, label_of, names_of, rows_at, subcommand_of}
use Rattle.clap.specs.Takes.{default_passes, entered_passes, is_valid, level_passes, settle_passes, takes, turn_passes, walk_passes}
use Rattle.clap.proofs.OnLiterals.{clap_on_literals}
use Rattle.lake_words.specs.Asked.{AsksFor, IsFlag, ProgramCommand, asked_by, command_view}
use Rattle.lake_words.specs.Words.{commands, top}
use Rattle.lake_words.specs.declared.command.Command.{Command}
use Rattle.lake_words.proofs.WordItems.{ArePlain, Item, item_rows, items_are_taken, items_taken, rows_of_items, word_of}
use Rattle.lake_words.proofs.WordLemmas.{commands_simple}

-- ---- the words behind a subcommand

-- the walk keeps them for the subcommand
rest_kept : (c : List Rule) (names : Names) (v : Walk) (job : Text) (rest before : List Text)
    → fold (walked c names) (record v { stopped = Some (job, before) }) rest ≡ record v { stopped = Some (job, before ++ rest) }
unfolding walked
rest_kept c names v job [] before = ap (λ words. record v { stopped = Some (job, words) }) (sym (append-nil before))
rest_kept c names v job (word ∷ rest) before =
    rest_kept c names v job rest (before ++ word ∷ []) ∙ ap (λ words. record v { stopped = Some (job, words) }) (append_assoc before (word ∷ []) rest)

-- and lets them pass
rest_passes : (s : Shape) (names : Names) (v : Walk) (job : Text) (rest before : List Text)
    → walk_passes s names (record v { stopped = Some (job, before) }) rest ≡ true
unfolding walk_passes walked
rest_passes s names v job [] before = refl
rest_passes s names v job (word ∷ rest) before = rest_passes s names v job rest (before ++ word ∷ [])

-- the walk over the words behind the program's name
abbrev top_walk : List Text → Walk
top_walk words = walk (built commands).top.rules (names_of (built commands)) nothing_held words

abbrev stopped_at : Text → List Text → Walk
stopped_at job rest = record (walk_from nothing_held) { stopped = Some (job, rest) }

-- the word is the name of the job that has these rules
pub record IsJob (job : Text) (leaf : Shape) : Type 0 where
  pub walked : walked (built commands).top.rules (names_of (built commands)) (walk_from nothing_held) job ≡ stopped_at job []
  pub passes : turn_passes (built commands).top (names_of (built commands)) (walk_from nothing_held) job ≡ true
  pub found : find (λ s. answers_to job (label_of s)) (built commands).subs ≡ Some leaf

-- the rules of a job's words
abbrev pub leaf : App → Shape
leaf job = built_leaf (inherited top.top job.top)

top_walked : (job : Text) (rest : List Text) (s : Shape) → IsJob job s → top_walk (job ∷ rest) ≡ stopped_at job rest
top_walked job rest s is =
    ap (λ v. fold (walked (built commands).top.rules (names_of (built commands))) v rest) is.walked
    ∙ rest_kept (built commands).top.rules (names_of (built commands)) (walk_from nothing_held) job rest []

-- what clap finds is the job with what it reads behind it
job_found : (program job : Text) (rest : List Text) (s : Shape) → IsJob job s → subcommand_of commands (program ∷ job ∷ rest) ≡ Some (rows_at s rest)
job_found program job rest s is =
    ap (λ (w : Walk). entered (built commands) w.stopped) (top_walked job rest s is) ∙ ap (option_map (λ (found : Shape). rows_at found rest)) is.found

-- the program's own rules ask for nothing but a job
abbrev top_ends : Bool
top_ends = settle_passes (built commands).top.rules (built commands).top.args_override_self nothing_held
    && (list_all default_passes (built commands).top.rules && is_valid (built commands).top (finished (built commands).top.rules nothing_held) true)

top_ends_well : top_ends ≡ true
unfolding clap_on_literals
top_ends_well = refl

-- words are taken where the job takes the words behind it
job_taken : (program job : Text) (rest : List Text) (s : Shape) → IsJob job s → level_passes s [] nothing_held rest false ≡ true
    → takes commands (program ∷ job ∷ rest) ≡ true
unfolding walk_passes
job_taken program job rest s is passes =
    let at_end = sym (top_walked job rest s is) in
    let inside : entered_passes (built commands) (Some (job, rest)) ≡ true =
    ap (λ found. option_map_or (λ (s : Shape). level_passes s [] nothing_held rest false) found true) is.found ∙ passes in
    let behind = ap (λ w. walk_passes (built commands).top (names_of (built commands)) w rest) is.walked
    ∙ rest_passes (built commands).top (names_of (built commands)) (walk_from nothing_held) job rest [] in
    let has_job : is_some (entered (built commands) (Some (job, rest))) ≡ true =
    ap (λ found. is_some (option_map (λ (s : Shape). rows_at s rest) found)) is.found in
    and_from _ _ commands_simple
    (and_from _ _ (subst (λ (w : Walk). entered_passes (built commands) w.stopped ≡ true) at_end inside)
    (and_from _ _ (and_from _ _ is.passes behind)
    (subst (λ (w : Walk). (settle_passes (built commands).top.rules (built commands).top.args_override_self w.held
    && (list_all default_passes (built commands).top.rules && is_valid (built commands).top (finished (built commands).top.rules w.held)
    (is_some (entered (built commands) w.stopped)))) ≡ true) at_end
    (subst (λ has. (settle_passes (built commands).top.rules (built commands).top.args_override_self nothing_held
    && (list_all default_passes (built commands).top.rules && is_valid (built commands).top (finished (built commands).top.rules nothing_held) has)) ≡ true)
    (sym has_job) top_ends_well))))

-- ---- what the words ask for

-- the words are taken, and ask for this
pub record AreRead (words : List Text) (asked : ProgramCommand) : Type 0 where
  pub taken : takes commands words ≡ true
  pub read : (c : Command) → AsksFor (subcommand_of commands words) c → command_view c ≡ asked

-- what `clap` has for `--no-checkpoint` says whether the log is restored
abbrev pub TellsRestore : Option Text → Bool → Type 0
TellsRestore text use_checkpoints = (r : Bool) → IsFlag text (not r) → r ≡ use_checkpoints

pub given_restore : (use_checkpoints : Bool) (text : Option Text) → text ≡ Some (bool_text (not use_checkpoints)) → TellsRestore text use_checkpoints
given_restore true text e = λ r flag. not-false r (flag.2 e)
given_restore false text e = λ r flag. not-true r (flag.1 e)

pub no_restore : (text : Option Text) → text ≡ None → TellsRestore text true
no_restore text e = λ r flag. not-false r (flag.0 e)

asks : (sub : Option (Text × List Row)) (name : Text) (rows : List Row) (c : Command) (use_checkpoints : Bool) (asked : ProgramCommand)
    → sub ≡ Some (name, rows) → TellsRestore (one_of (codes "no-checkpoint") rows) use_checkpoints → asked_by name rows use_checkpoints ≡ asked
    → AsksFor sub c → command_view c ≡ asked
asks sub name rows c use_checkpoints asked found tells is h =
    let seen = subst (λ s. AsksFor s c) found h in
    seen.2 ∙ ap (asked_by name rows) (tells seen.0 seen.1) ∙ is

-- the words of a job are read by its rules
pub job_read : (program job : Text) (items : List Item) (s : Shape) (use_checkpoints : Bool) (asked : ProgramCommand) → IsJob job s → ArePlain items
    → items_taken s items ≡ true → TellsRestore (one_of (codes "no-checkpoint") (item_rows s.rules items)) use_checkpoints
    → asked_by s.name (item_rows s.rules items) use_checkpoints ≡ asked → AreRead (program ∷ job ∷ map word_of items) asked
job_read program job items s use_checkpoints asked is plain taken tells reads = record {
  taken = job_taken program job (map word_of items) s is (items_are_taken s items plain ∙ taken);
  read = λ c h. asks _ s.name (item_rows s.rules items) c use_checkpoints asked
      (job_found program job (map word_of items) s is ∙ ap (λ rows. Some (s.name, rows)) (rows_of_items s.rules items plain)) tells reads h;
}
