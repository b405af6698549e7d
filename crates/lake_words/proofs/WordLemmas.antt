-- What `clap` finds in words that ask for a script.
use Rattle.std.proofs.Common.{◌≡◌, ℕ, List, [], ◌∷◌, Bool, true, false, refl, ap, ◌∙◌, codes}
use Rattle.std.proofs.lemmas.Bool.{not-true, not-false}
use Rattle.clap.specs.Words.{is_simple, is_simple_and_free, subcommand_of, takes}
use Rattle.clap.proofs.OnLiterals.{clap_on_literals}
use Rattle.lake_words.specs.declared.command.Command.{Command}
use Rattle.lake_words.specs.declared.command.Command.TheVariants.{Check, Explain, Script, Table}
use Rattle.lake_words.specs.Asked.{AsksFor, Spells, command_view, restoring, replaying, script}
use Rattle.lake_words.specs.Words.{commands}

pub commands_simple : is_simple commands ≡ true
unfolding clap_on_literals
commands_simple = refl

pub commands_free : is_simple_and_free commands ≡ true
unfolding clap_on_literals
commands_free = refl

pub spelled_takes : (words : List (List ℕ)) (c : Command) → Spells words c → takes commands words ≡ true
unfolding clap_on_literals
spelled_takes words c restoring = refl
spelled_takes words c replaying = refl

-- the command that is seen as a script is one
script_is : (c : Command) (use_checkpoints : Bool) → command_view c ≡ script use_checkpoints → c ≡ Script use_checkpoints
script_is (Script r) use_checkpoints e = cc
script_is (Table t) use_checkpoints e = cc
script_is (Check folder) use_checkpoints e = cc
script_is (Explain asked) use_checkpoints e = cc

restoring_asks : (name : List ℕ) (c : Command) → AsksFor (subcommand_of commands (name ∷ codes "script" ∷ [])) c → c ≡ Script true
unfolding clap_on_literals
restoring_asks name c h = script_is c _ h.2 ∙ ap Script (not-false _ (h.1.2 refl))

replaying_asks : (name : List ℕ) (c : Command) → AsksFor (subcommand_of commands (name ∷ codes "script" ∷ codes "--no-checkpoint" ∷ [])) c → c ≡ Script false
unfolding clap_on_literals
replaying_asks name c h = script_is c _ h.2 ∙ ap Script (not-true _ (h.1.1 refl))

pub spelled_asks : (words : List (List ℕ)) (c d : Command) → Spells words d → AsksFor (subcommand_of commands words) c → c ≡ d
spelled_asks words c d (restoring {name = name}) h = restoring_asks name c h
spelled_asks words c d (replaying {name = name}) h = replaying_asks name c h
