-- What more is told of a call of a folder that failed, of a job's refusal and of a script's bad line than what it is.
use Rattle.std.specs.Prelude.{◌≡◌, ◌++◌, ℕ, Bool, true, false, List, [], Option, Some, None, codes, nat_lt, if◌then◌else◌}
use Rattle.std.specs.Fmt.{decimal}
use Rattle.outcomes.specs.Lines.{with_newline}
use Rattle.batch_core.specs.declared.fault.SinkFault.TheVariants as sink
use Rattle.commit_core.specs.declared.fault.CreateFault.TheVariants as creating
use Rattle.json_lines.specs.FlawTexts.{flaw_text}
use Rattle.json_lines.specs.declared.flaw.Flaw.{Flaw}
use Rattle.lake_script.specs.declared.reply.LineReply.{LineReply}
use Rattle.lake_script.specs.declared.reply.LineReply.TheVariants.{NotCreated, SinkRefused}
use Rattle.lake_words.specs.Asked.{Work}
use Rattle.lake_words.specs.Asked as words
use Rattle.schema_tree.specs.declared.fault.SchemaFault.TheVariants as schemas
use Rattle.table_folder.specs.declared.reason.Reason.{Reason}
use Rattle.table_folder.specs.declared.reason.Reason.TheVariants as reasons
use Rattle.lake_hints.specs.ErrorOutputs.{AreInTurn, IsTextBehind}
use Rattle.lake_hints.specs.Meanings.{IsMeaning}
use Rattle.row_core.specs.declared.fault.RowFault.{RowFault}
use Rattle.row_core.specs.declared.fault.RowFault.TheVariants as row_faults

-- a hint is a line; where there is none nothing is told
abbrev pub hint_line : Option (List ℕ) → List ℕ
hint_line None = []
hint_line (Some hint) = with_newline (codes "hint: " ++ hint)

-- what to do about a call of a folder that failed
abbrev pub remedy_in : Reason → Option (List ℕ)
remedy_in reasons.Missing = Some (codes "there is no such folder or file; a table's folder is made with mkdir, and the table in it with lake create")
remedy_in reasons.NotAFolder = Some (codes "it is no folder")
remedy_in reasons.Denied = Some (codes "whoever runs this may not read or write it")
remedy_in reasons.Full = Some (codes "the disk is full: make room and run the same command again")
remedy_in reasons.ReadOnly = Some (codes "the file system can't be written to")
remedy_in reasons.TooLarge = Some (codes "a file may have 1 GiB at most")
remedy_in reasons.NotText = Some (codes "a name in the folder isn't UTF-8")
remedy_in reasons.Taken = Some (codes "another process put it meanwhile: run the same command again")
remedy_in reasons.Gone = Some (codes "it was there when the folder was listed: run the same command again")
remedy_in reasons.NoLinks = Some (codes "the file system has no hard links, which writing a table needs")
remedy_in reasons.NotAFile = Some (codes "what lies under this name is no plain file: move it away and run the same command again")
remedy_in reasons.TooManyLeftovers = Some (codes "100,000 files that killed runs have left lie in its folder: remove .new-0, .new-1 and so on while no process writes to the table")
remedy_in reasons.Other = None

abbrev pub hint_of : Reason → List ℕ
hint_of reason = hint_line (remedy_in reason)

-- the log's versions have come to an end
abbrev pub last_version : List ℕ
last_version = codes "the log has its last version, 999,999,999,999, and takes no further commit"

-- the limit that an append passes with that number and so many rows, and else the log's
abbrev pub append_limit : (number rows : ℕ) → List ℕ
append_limit number rows =
    if nat_lt 999_999_999_999 number then codes "the number is above 999,999,999,999"
    else if nat_lt 65_536 rows then codes "there are over 65,536 rows; hand them in as several batches"
    else last_version

-- the limit of numbers, of rows or of versions that a job passes, which had so many rows
abbrev pub count_limit : Work → (rows : ℕ) → List ℕ
count_limit (words.append application number at tries said) rows = append_limit number rows
count_limit work rows = last_version

-- the limit that a job passes, by its reply
abbrev pub limit_in : LineReply → Work → (rows : ℕ) → Option (List ℕ)
limit_in (SinkRefused sink.FileTooLarge) work rows = Some (codes "the file of these rows would pass 64 MiB; fewer rows make a smaller one")
limit_in (SinkRefused sink.TooLarge) work rows = Some (count_limit work rows)
limit_in reply work rows = None

-- a reply says that a schema's text is no JSON
abbrev pub is_no_json : LineReply → Bool
is_no_json (NotCreated (creating.BadSchema schemas.BadJson)) = true
is_no_json reply = false

-- the text of the schema of a table that is to be created
abbrev pub schema_in : Work → Option (List ℕ)
schema_in (words.create id schema at) = Some schema
schema_in work = None

-- of a schema's text that is no JSON a flaw is told
abbrev pub IsSchemaHint : (is_no_json : Bool) → (schema : Option (List ℕ)) → List ℕ → Type 0
IsSchemaHint true (Some schema) text = (flaw : Flaw) × (text ≡ with_newline (codes "hint: the schema's text " ++ flaw_text flaw))
IsSchemaHint is_no_json schema text = text ≡ []

-- the code of a row's fault
abbrev pub row_code : RowFault → List ℕ
row_code (row_faults.Missing path) = codes "V1"
row_code (row_faults.WrongKind path) = codes "V2"
row_code (row_faults.OutOfRange path) = codes "V3"
row_code (row_faults.Unsupported path) = codes "V4"
row_code (row_faults.Unknown name) = codes "V5"

-- that of the row for which a reply refuses a batch
abbrev pub row_code_in : LineReply → Option (List ℕ)
row_code_in (SinkRefused (sink.BadRow index fault)) = Some (row_code fault)
row_code_in reply = None

-- what a row's fault means, where there is one
abbrev pub IsRowMeaning : Option (List ℕ) → List ℕ → Type 0
IsRowMeaning None text = text ≡ []
IsRowMeaning (Some code) text = IsMeaning code text

-- what more is told of a refusal of a job, which had so many rows: what the fault of a row means, the limit that it passes,
-- or a flaw of the schema's text
abbrev pub IsRefusalHint : LineReply → Work → (rows : ℕ) → List ℕ → Type 0
IsRefusalHint reply work rows = AreInTurn (IsRowMeaning (row_code_in reply)) (IsTextBehind (hint_line (limit_in reply work rows)) (IsSchemaHint (is_no_json reply) (schema_in work)))

-- a script's line of that number is bad, and why
abbrev pub IsBadLineHint : (number : ℕ) → List ℕ → Type 0
IsBadLineHint number text = (why : List ℕ) × (text ≡ with_newline (codes "line " ++ (decimal number ++ (codes ": " ++ why))))
