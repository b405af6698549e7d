-- The words for verbs and kinds.
use Rattle.std.specs.Prelude.{ℕ, List, [], ◌∷◌, Option, codes, find}
use Rattle.std.specs.Str.{bytes_eq}
use Rattle.script_lines.specs.declared.verb.Verb.{Verb}
use Rattle.script_lines.specs.declared.verb.Verb.TheVariants.{Create, Append, Close, Checkpoint, Snapshot, History, Tail, Show, Hex, Tries, Fault, Start, Until, Step, Finish, Die, Land, Foreign}
use Rattle.script_lines.specs.declared.kind.Kind.{Kind}
use Rattle.script_lines.specs.declared.kind.Kind.TheVariants.{Pass, Lost, Mute, Late, Twice}

-- the first word of a line
abbrev pub verb_name : Verb → List ℕ
verb_name Create = codes "create"
verb_name Append = codes "append"
verb_name Close = codes "close"
verb_name Checkpoint = codes "checkpoint"
verb_name Snapshot = codes "snapshot"
verb_name History = codes "history"
verb_name Tail = codes "tail"
verb_name Show = codes "show"
verb_name Hex = codes "hex"
verb_name Tries = codes "tries"
verb_name Fault = codes "fault"
verb_name Start = codes "start"
verb_name Until = codes "until"
verb_name Step = codes "step"
verb_name Finish = codes "finish"
verb_name Die = codes "die"
verb_name Land = codes "land"
verb_name Foreign = codes "foreign"

-- all verbs
abbrev pub verbs : List Verb
verbs = Create ∷ Append ∷ Close ∷ Checkpoint ∷ Snapshot ∷ History ∷ Tail ∷ Show ∷ Hex ∷ Tries ∷ Fault ∷ Start ∷ Until ∷ Step ∷ Finish ∷ Die ∷ Land ∷ Foreign ∷ []

-- the verb with that name, if there is one
abbrev pub verb_of : List ℕ → Option Verb
verb_of word = find (λ v. bytes_eq (verb_name v) word) verbs

-- the word for a kind
abbrev pub kind_name : Kind → List ℕ
kind_name Pass = codes "pass"
kind_name Lost = codes "lost"
kind_name Mute = codes "mute"
kind_name Late = codes "late"
kind_name Twice = codes "twice"

-- all kinds
abbrev pub kinds : List Kind
kinds = Pass ∷ Lost ∷ Mute ∷ Late ∷ Twice ∷ []

-- the kind with that name, if there is one
abbrev pub kind_named : List ℕ → Option Kind
kind_named word = find (λ k. bytes_eq (kind_name k) word) kinds
