-- A run that is repeated: its commit's name was taken, and no call of the folder failed.
use Rattle.std.proofs.Common.{◌≡◌, ◌⊎◌, ◌<◌, ◌-◌, ◌++◌, ◌∙◌, [], append_assoc, append-nil, arith, inl, inr, ℕ, suc, Bool, true, List, length, Option, Some, None, Result, Ok, Err, IfErr, IfSome, refl, sym, ap, subst}
use Rattle.std.specs.Prelude.{IsErrAnd}
use Rattle.store_core.specs.Calls.{HasRisen}
use Rattle.store_core.specs.Objects.{Objects}
use Rattle.table_folder.specs.Traces.{FolderCall, MakeNone, Traced}
use Rattle.table_folder.specs.declared.fault.LoadFault.{LoadFault}
use Rattle.table_folder.specs.declared.fault.LoadFault.TheVariants as loads
use Rattle.table_folder.specs.declared.fault.SaveFault.TheVariants as saves
use Rattle.table_folder.specs.declared.reason.Reason.TheVariants.{Taken}
use Rattle.table_folder.proofs.Callers.{traced_on}
use Rattle.script_lines.specs.Lines.{Statement, append, checkpoint, close, create, foreign, look, tail, task}
use Rattle.lake_script.specs.declared.inputs.TheConstants.{MOST_BYTES}
use Rattle.lake_script.specs.declared.reply.LineReply.{LineReply}
use Rattle.lake_words.specs.Asked.{Work}
use Rattle.lake_words.specs.Asked as words
use Rattle.lake_command.specs.Again.{ComesOfRuns, IsRunOf, RanAsAsked, tries_in}
use Rattle.lake_command.specs.Again as come
use Rattle.lake_command.specs.Failures.{FailureComesOfACall, CountsFolderFault, HasCause, IsByFolder, IsCaused, IsLoading, IsOfInput, IsCommitTaken, Leaves}
use Rattle.lake_command.specs.Folders.{IsAskedBy, IsPutter, IsInputOf, reads_input}
use Rattle.lake_command.specs.Looks.{Looks}
use Rattle.lake_command.specs.declared.failure.Failure.{Failure}
use Rattle.lake_command.specs.declared.failure.Failure.TheVariants.{Loading, Saving}

-- that a commit is not saved since its name is taken is a failure of the folder
pub taken_by_folder : (result : Result LineReply Failure) → IsCommitTaken result → IfErr result (λ failure. IsByFolder failure)
taken_by_folder (Err (Saving (saves.NotSaved name reason))) taken = tt
taken_by_folder _ taken = absurd taken

-- it may be told where calls of loading failed since, or none
taken_counts : (result : Result LineReply Failure) (old new : ℕ) → IsCommitTaken result → HasRisen old new ⊎ (new ≡ old) → CountsFolderFault result old new
taken_counts (Err (Saving (saves.NotSaved name reason))) old new taken (inl risen) = inl risen
taken_counts (Err (Saving (saves.NotSaved name reason))) old new taken (inr same) = inr (same, taken.0)
taken_counts _ old new taken counts = absurd taken

-- which is what a table that isn't loaded leaves of the count
load_counts : (fault : LoadFault) (old new : ℕ) → CountsFolderFault {X = LineReply} (Err (Loading fault)) old new → HasRisen old new ⊎ (new ≡ old)
load_counts (loads.NotLoaded name reason) old new risen = inl risen
load_counts loads.Memory old new same = inr same

-- so it may be told where the table isn't loaded anew
pub left_counts : (result outcome : Result LineReply Failure) (old mid new : ℕ) → IsCommitTaken result → mid ≡ old → IsErrAnd outcome (λ failure. IsLoading failure) → CountsFolderFault outcome mid new → CountsFolderFault result old new
left_counts result (Err (Loading fault)) old mid new taken level is counts =
    taken_counts result old new taken (subst (λ (n : ℕ). HasRisen n new ⊎ (new ≡ n)) level (load_counts fault mid new counts))
left_counts result _ old mid new taken level is counts = absurd is

-- where a call failed at a file or at the folder, the count rose
pub unread_risen : (outcome : Result LineReply Failure) (old mid new : ℕ) → mid ≡ old → IsErrAnd outcome (λ failure. IsLoading failure) → (IsErrAnd outcome (λ failure. failure ≡ Loading loads.Memory) → ⊥) → CountsFolderFault outcome mid new
    → HasRisen old new
unread_risen (Err (Loading (loads.NotLoaded name reason))) old mid new level is room counts = subst (λ (n : ℕ). HasRisen n new) level counts
unread_risen (Err (Loading loads.Memory)) old mid new level is room counts = absurd (room refl)
unread_risen _ old mid new level is room counts = absurd is

-- where no memory was left to load the table, it stayed
pub short_level : (outcome : Result LineReply Failure) (old mid new : ℕ) → mid ≡ old → IsErrAnd outcome (λ failure. failure ≡ Loading loads.Memory) → CountsFolderFault outcome mid new → new ≡ old
short_level (Ok reply) old mid new level is counts = absurd is
short_level (Err failure) old mid new level is counts = (subst (λ (f : Failure). CountsFolderFault {X = LineReply} (Err f) mid new) is counts) ∙ level

-- the table isn't loaded then
pub short_unread : (outcome : Result LineReply Failure) → IsErrAnd outcome (λ failure. failure ≡ Loading loads.Memory) → IsErrAnd outcome (λ failure. IsLoading failure)
short_unread (Ok reply) is = absurd is
short_unread (Err failure) is = subst (λ (f : Failure). IsLoading f) (sym is) tt

-- where a commit's name was taken and the job isn't run again, it rose: the counts of faults that are compared are those of the folder
pub taken_risen : (outcome : Result LineReply Failure) (old mid new before after : ℕ) → before ≡ mid → after ≡ new → mid ≡ old → CountsFolderFault outcome mid new → (IsCommitTaken outcome → after ≡ before → HasRisen before after) → IsCommitTaken outcome → HasRisen old new
taken_risen (Err (Saving (saves.NotSaved name reason))) old mid new before after is_before is_after level counts failed taken = subst (λ (n : ℕ). HasRisen n new) level (by_count counts)
  where
    by_count : HasRisen mid new ⊎ ((new ≡ mid) × (reason ≡ Taken)) → HasRisen mid new
    by_count (inl risen) = risen
    by_count (inr same) = subst (λ (n : ℕ). HasRisen n new) is_before (subst (λ (n : ℕ). HasRisen before n) is_after (failed taken (is_after ∙ same.0 ∙ sym is_before)))
taken_risen _ old mid new before after is_before is_after level counts failed taken = absurd taken

-- ---- causes

-- a failure of the folder has its cause where a line was asked for
folder_causes : (result : Result LineReply Failure) (work : Work) (text : Option (List ℕ)) (is_broken : Bool) (statement : Statement) → IsAskedBy work text statement → IfErr result (λ failure. IsByFolder failure)
    → IfErr result (λ failure. HasCause failure work text is_broken)
folder_causes (Ok reply) work text is_broken statement asked by = tt
folder_causes (Err failure) work text is_broken statement asked by = inr (by, (statement, asked))

-- what a text that is too long never leads to
never_long : (text : Option (List ℕ)) (P : Type 0) → IfSome text (λ bytes. MOST_BYTES < length bytes → ⊥) → IfSome text (λ bytes. MOST_BYTES < length bytes → P)
never_long None P never = tt
never_long (Some bytes) P never = λ long. absurd (never long)

-- a call that gave this failure failed so
pub fails_with : (result : Result LineReply Failure) (failure : Failure) → IsErrAnd result (λ f. f ≡ failure) → result ≡ Err failure
fails_with (Ok reply) failure is = absurd is
fails_with (Err f) failure is = ap Err is

-- what the input fails by leaves the folder alone
input_leaves_it : (failure : Failure) (work : Work) (text : Option (List ℕ)) (is_broken : Bool) (objects : Objects) → IsOfInput failure work text is_broken → Leaves failure work text objects objects
input_leaves_it (Saving fault) work text is_broken objects of = absurd of
input_leaves_it _ work text is_broken objects of = refl

pub input_leaves : (result : Result LineReply Failure) (failure : Failure) (work : Work) (text : Option (List ℕ)) (is_broken : Bool) (objects : Objects) → result ≡ Err failure → IsOfInput failure work text is_broken
    → IfErr result (λ f. Leaves f work text objects objects)
input_leaves result failure work text is_broken objects is of =
    subst (λ (r : Result LineReply Failure). IfErr r (λ f. Leaves f work text objects objects)) (sym is) (input_leaves_it failure work text is_broken objects of)

-- it comes of no call
no_call : (failure : Failure) (work : Work) (text : Option (List ℕ)) (is_broken : Bool) (count : ℕ) → IsOfInput failure work text is_broken → FailureComesOfACall {X = LineReply} (Err failure) count count
no_call (Saving fault) work text is_broken count of = absurd of
no_call _ work text is_broken count of = tt

pub input_alone : (result : Result LineReply Failure) (failure : Failure) (work : Work) (text : Option (List ℕ)) (is_broken : Bool) (count : ℕ) → result ≡ Err failure → IsOfInput failure work text is_broken → FailureComesOfACall result count count
input_alone result failure work text is_broken count is of =
    subst (λ (r : Result LineReply Failure). FailureComesOfACall r count count) (sym is) (no_call failure work text is_broken count of)

-- it leaves the folder's count
same_count : (failure : Failure) (work : Work) (text : Option (List ℕ)) (is_broken : Bool) (count : ℕ) → IsOfInput failure work text is_broken → CountsFolderFault {X = LineReply} (Err failure) count count
same_count (Saving fault) work text is_broken count of = absurd of
same_count (Loading fault) work text is_broken count of = absurd of
same_count _ work text is_broken count of = refl

-- and it is the cause itself, where the text was read well
pub input_causes : (result : Result LineReply Failure) (failure : Failure) (work : Work) (text : Option (List ℕ)) (is_broken : Bool) (count : ℕ) → result ≡ Err failure → IsOfInput failure work text is_broken
    → (reads_input work ≡ true → is_broken ≡ true → ⊥) → (reads_input work ≡ true → IfSome text (λ bytes. MOST_BYTES < length bytes → ⊥)) → IsCaused result work text is_broken count count
input_causes result failure work text is_broken count is of whole short = record {
  cause = subst (λ (r : Result LineReply Failure). IfErr r (λ f. HasCause f work text is_broken)) (sym is) (inl of);
  broken = λ reads broken. absurd (whole reads broken);
  too_long = λ reads. never_long text _ (short reads);
  counts = subst (λ (r : Result LineReply Failure). CountsFolderFault r count count) (sym is) (same_count failure work text is_broken count of);
}

-- so is the folder's, behind a line that was asked for
pub folder_caused : (result : Result LineReply Failure) (work : Work) (text : Option (List ℕ)) (is_broken : Bool) (statement : Statement) (old new : ℕ) → IsAskedBy work text statement → IfErr result (λ failure. IsByFolder failure)
    → (reads_input work ≡ true → is_broken ≡ true → ⊥) → (reads_input work ≡ true → IfSome text (λ bytes. MOST_BYTES < length bytes → ⊥)) → CountsFolderFault result old new → IsCaused result work text is_broken old new
folder_caused result work text is_broken statement old new asked by whole short counts = record {
  cause = folder_causes result work text is_broken statement asked by;
  broken = λ reads broken. absurd (whole reads broken);
  too_long = λ reads. never_long text _ (short reads);
  counts = counts;
}

-- ---- runs

-- a commit that is not saved is no table that can't be read
pub taken_is_loaded : (result : Result LineReply Failure) → IsCommitTaken result → IsErrAnd result (λ failure. IsLoading failure) → ⊥
taken_is_loaded (Err (Saving fault)) taken is = is
taken_is_loaded (Err (Loading fault)) taken is = taken
taken_is_loaded _ taken is = absurd taken

-- one run more in front of those that have a version less
pub run_before : (work : Work) (text : List ℕ) (use_checkpoints : Bool) (old new left : ℕ) (first outcome : Result LineReply Failure) (statement : Statement) (calls more : List FolderCall) → 1 < left
    → IsAskedBy work (Some text) statement → IsRunOf use_checkpoints left statement first calls → IsCommitTaken first
    → (IsErrAnd outcome (λ failure. IsLoading failure) → ⊥) → ComesOfRuns work text use_checkpoints old new (left - 1) outcome more → ComesOfRuns work text use_checkpoints old new left outcome (calls ++ more)
run_before work text use_checkpoints old new left first outcome statement calls more some asked run taken loaded runs =
    let one : left ≡ suc (left - 1) = omega arith in
    subst (λ (n : ℕ). ComesOfRuns work text use_checkpoints old new n outcome (calls ++ more)) (sym one)
    (come.again (left - 1) statement first outcome calls more (omega arith) asked (subst (λ (n : ℕ). IsRunOf use_checkpoints n statement first calls) one run) taken loaded runs)

-- a run that couldn't read the folder made no file
pub unread_makes_none : (use_checkpoints : Bool) (tries : ℕ) (statement : Statement) (outcome : Result LineReply Failure) (calls : List FolderCall) → IsRunOf use_checkpoints tries statement outcome calls → IsErrAnd outcome (λ failure. IsLoading failure) → MakeNone calls
unread_makes_none use_checkpoints tries statement _ _ (come.told reply added calls saved run is) loading = absurd loading
unread_makes_none use_checkpoints tries statement _ _ (come.unsaved reply added fault calls saved run among is) loading = absurd loading
unread_makes_none use_checkpoints tries statement _ _ (come.unread fault calls none) loading = none

-- Where runs have come: by these calls of the folder so far, behind those of the run before, to one that was refused by the last of
-- these; and what comes of the runs that are left comes of all, however many faults the folder has counted by then.
pub record HasRun (made : List FolderCall → Type 0) (work : Work) (text : List ℕ) (use_checkpoints : Bool) (old tries left : ℕ) (before : List FolderCall) (refused : Result LineReply Failure) : Type 0 where
  pub so_far : List FolderCall
  pub is_made : made so_far
  pub statement : Statement
  pub calls : List FolderCall
  pub asked : IsAskedBy work (Some text) statement
  pub run : IsRunOf use_checkpoints left statement refused calls
  pub whole : (new : ℕ) (outcome : Result LineReply Failure) (more : List FolderCall) → (IsErrAnd outcome (λ failure. IsLoading failure) → ⊥) → ComesOfRuns work text use_checkpoints old new left outcome (calls ++ more)
      → ComesOfRuns work text use_checkpoints old new tries outcome (before ++ (so_far ++ more))

-- nothing was run behind it yet
pub first_run : (made : List FolderCall → Type 0) (work : Work) (text : List ℕ) (use_checkpoints : Bool) (old tries : ℕ) (refused : Result LineReply Failure) (statement : Statement) (calls : List FolderCall)
    → made [] → IsAskedBy work (Some text) statement → IsRunOf use_checkpoints tries statement refused calls → HasRun made work text use_checkpoints old tries tries calls refused
first_run made work text use_checkpoints old tries refused statement calls none asked run = record {
  so_far = [];
  is_made = none;
  statement = statement;
  calls = calls;
  asked = asked;
  run = run;
  whole = λ new outcome more loaded runs. runs;
}

module _ {F : Type 0} (makes : F → FolderCall → F → Type 0) (work : Work) (text : List ℕ) (use_checkpoints : Bool) (old tries left : ℕ) (before : List FolderCall) (refused : Result LineReply Failure) (first now : F)
    (been : HasRun (λ calls. Traced makes first calls now) work text use_checkpoints old tries left before refused) (taken : IsCommitTaken refused) where
  -- the last that was refused is told, where no try is left
  pub refused_last : (new : ℕ) → left ≡ 1 → (more : List FolderCall) × Traced makes first more now × ComesOfRuns work text use_checkpoints old new tries refused (before ++ more)
  refused_last new none =
      let behind = subst (λ (calls : List FolderCall). ComesOfRuns work text use_checkpoints old new left refused calls) (sym (append-nil been.calls)) (come.last left been.statement refused been.calls been.asked been.run (λ is. inl none)) in (
        been.so_far ++ [],
        traced_on makes first now now been.so_far [] been.is_made refl,
        been.whole new refused [] (taken_is_loaded refused taken) behind,
      )

  -- or where a call failed behind it, and none made a file
  pub refused_unread : (end : F) (new : ℕ) (behind : List FolderCall) → 1 < left → Traced makes now behind end → MakeNone behind → HasRisen old new
      → (more : List FolderCall) × Traced makes first more end × ComesOfRuns work text use_checkpoints old new tries refused (before ++ more)
  refused_unread end new behind some traced none risen =
      let one : left ≡ suc (left - 1) = omega arith in
      let run = subst (λ (n : ℕ). IsRunOf use_checkpoints n been.statement refused been.calls) one been.run in
      let told = subst (λ (n : ℕ). ComesOfRuns work text use_checkpoints old new n refused (been.calls ++ behind)) (sym one) (come.unreadable (left - 1) been.statement refused been.calls behind (omega arith) been.asked run taken none risen) in (
        been.so_far ++ behind,
        traced_on makes first now end been.so_far behind been.is_made traced,
        been.whole new refused behind (taken_is_loaded refused taken) told,
      )

  -- or memory ran out behind it, and this is told
  pub short_behind : (end : F) (new : ℕ) (behind : List FolderCall) → 1 < left → Traced makes now behind end → MakeNone behind
      → (more : List FolderCall) × Traced makes first more end × ComesOfRuns work text use_checkpoints old new tries (Err (Saving saves.Memory)) (before ++ more)
  short_behind end new behind some traced none =
      let one : left ≡ suc (left - 1) = omega arith in
      let run = subst (λ (n : ℕ). IsRunOf use_checkpoints n been.statement refused been.calls) one been.run in
      let told = subst (λ (n : ℕ). ComesOfRuns work text use_checkpoints old new n (Err (Saving saves.Memory)) (been.calls ++ behind)) (sym one) (come.no_room (left - 1) been.statement refused been.calls behind (omega arith) been.asked run taken none) in (
        been.so_far ++ behind,
        traced_on makes first now end been.so_far behind been.is_made traced,
        been.whole new (Err (Saving saves.Memory)) behind (λ is. is) told,
      )

  -- one more is run and told
  pub told_last : (end : F) (new : ℕ) (outcome : Result LineReply Failure) (statement : Statement) → 1 < left → IsAskedBy work (Some text) statement → (IsErrAnd outcome (λ failure. IsLoading failure) → ⊥) → (IsCommitTaken outcome → HasRisen old new)
      → (calls : List FolderCall) × Traced makes now calls end × IsRunOf use_checkpoints (left - 1) statement outcome calls
      → (more : List FolderCall) × Traced makes first more end × ComesOfRuns work text use_checkpoints old new tries outcome (before ++ more)
  told_last end new outcome statement some asked loaded risen run =
      let behind : ComesOfRuns work text use_checkpoints old new (left - 1) outcome run.0 = come.last (left - 1) statement outcome run.0 asked run.2 (λ is. inr (risen is)) in (
        been.so_far ++ run.0,
        traced_on makes first now end been.so_far run.0 been.is_made run.1,
        been.whole new outcome run.0 loaded (run_before work text use_checkpoints old new left refused outcome been.statement been.calls run.0 some been.asked been.run taken loaded behind),
      )

  -- one more is run, and was refused too
  pub more_run : (end : F) (outcome : Result LineReply Failure) (statement : Statement) → 1 < left → IsAskedBy work (Some text) statement
      → (calls : List FolderCall) × Traced makes now calls end × IsRunOf use_checkpoints (left - 1) statement outcome calls
      → HasRun (λ calls. Traced makes first calls end) work text use_checkpoints old tries (left - 1) before outcome
  more_run end outcome statement some asked run = record {
    so_far = been.so_far ++ run.0;
    is_made = traced_on makes first now end been.so_far run.0 been.is_made run.1;
    statement = statement;
    calls = run.0;
    asked = asked;
    run = run.2;
    whole = λ new told more loaded runs.
        subst (λ (calls : List FolderCall). ComesOfRuns work text use_checkpoints old new tries told (before ++ calls)) (sym (append_assoc been.so_far run.0 more))
        (been.whole new told (run.0 ++ more) loaded (run_before work text use_checkpoints old new left refused told been.statement been.calls (run.0 ++ more) some been.asked been.run taken loaded runs));
  }

-- where the input fails nothing is run
pub input_told : (made : List FolderCall → Type 0) (result : Result LineReply Failure) (failure : Failure) (work : Work) (text : Option (List ℕ)) (is_broken use_checkpoints : Bool) (old new : ℕ) → result ≡ Err failure → IsOfInput failure work text is_broken
    → RanAsAsked made work text is_broken use_checkpoints old new result
input_told made result failure work text is_broken use_checkpoints old new is of =
    subst (λ (r : Result LineReply Failure). RanAsAsked made work text is_broken use_checkpoints old new r) (sym is) (come.refused failure of)

-- what else holds of the calls, and where no fault was counted before
pub ran_so : (made other : List FolderCall → Type 0) (work : Work) (text : Option (List ℕ)) (is_broken use_checkpoints : Bool) (from old new : ℕ) (outcome : Result LineReply Failure) → old ≡ from → ((calls : List FolderCall) → made calls → other calls)
    → RanAsAsked made work text is_broken use_checkpoints old new outcome → RanAsAsked other work text is_broken use_checkpoints from new outcome
ran_so made other work text is_broken use_checkpoints from old new _ same weaker (come.refused failure of) = come.refused failure of
ran_so made other work text is_broken use_checkpoints from old new _ same weaker (come.not_there reply is told) = come.not_there reply is told
ran_so made other work text is_broken use_checkpoints from old new _ same weaker (come.runs bytes outcome calls is traced comes) =
    come.runs bytes outcome calls is (weaker calls traced) (subst (λ (n : ℕ). ComesOfRuns work bytes use_checkpoints n new (tries_in work) outcome calls) same comes)
ran_so made other work text is_broken use_checkpoints from old new _ same weaker (come.looks bytes statement outcome calls is asked none failed traced looks) = come.looks bytes statement outcome calls is asked none failed (weaker calls traced) looks

-- ---- which lines put something

pub puts_or_not : (statement : Statement) → IsPutter statement ⊎ (IsPutter statement → ⊥)
puts_or_not (create id at schema) = inl tt
puts_or_not (task (append application number at items)) = inl tt
puts_or_not (task (close application at)) = inl tt
puts_or_not (task checkpoint) = inl tt
puts_or_not (task (tail max offset)) = inr (λ puts. puts)
puts_or_not (look asked) = inr (λ puts. puts)
puts_or_not (foreign version action) = inr (λ puts. puts)
puts_or_not _ = inr (λ puts. puts)

-- a job that puts something asks for lines that do
pub puts_still : (work : Work) (text other : Option (List ℕ)) (statement more : Statement) → IsAskedBy work text statement → IsPutter statement → IsAskedBy work other more → IsPutter more
puts_still (words.create id schema at) text other statement more asked puts again = subst IsPutter (sym again) tt
puts_still (words.append application number at tries said) text other statement more asked puts again = subst IsPutter (sym again.4) tt
puts_still (words.close application at tries) text other statement more asked puts again = subst IsPutter (sym again) tt
puts_still (words.load workers at tries) text other statement more asked puts again = absurd asked
puts_still (words.tail max offset) text other statement more asked puts again = absurd (subst IsPutter asked puts)
puts_still words.snapshot text other statement more asked puts again = absurd (subst IsPutter asked puts)
puts_still words.checkpoint text other statement more asked puts again = subst IsPutter (sym again) tt
puts_still words.history text other statement more asked puts again = absurd (subst IsPutter asked puts)

-- what wasn't saved was to be put
pub taken_puts : (outcome : Result LineReply Failure) (statement : Statement) → ((IsPutter statement → ⊥) → IfErr outcome (λ failure. IsLoading failure)) → IsCommitTaken outcome → IsPutter statement
taken_puts (Err (Saving fault)) statement reads taken = by_case (puts_or_not statement)
  where
    by_case : IsPutter statement ⊎ (IsPutter statement → ⊥) → IsPutter statement
    by_case (inl puts) = puts
    by_case (inr none) = absurd (reads none)
taken_puts _ statement reads taken = absurd taken

-- one run, of a line that puts something or of one that doesn't, which isn't to be run again
pub run_once : {F : Type 0} (makes : F → FolderCall → F → Type 0) (work : Work) (known : Option (List ℕ)) (text : List ℕ) (is_broken use_checkpoints : Bool) (old new tries : ℕ) (statement : Statement) (outcome : Result LineReply Failure) (first now : F)
    → tries ≡ tries_in work → IsInputOf work known text → IsAskedBy work (Some text) statement → (IsPutter statement → (calls : List FolderCall) × Traced makes first calls now × IsRunOf use_checkpoints tries statement outcome calls)
    → ((IsPutter statement → ⊥) → IfErr outcome (λ failure. IsLoading failure)) → ((IsPutter statement → ⊥) → (calls : List FolderCall) × Traced makes first calls now × Looks use_checkpoints statement outcome calls) → (IsCommitTaken outcome → HasRisen old new) → RanAsAsked (λ calls. Traced makes first calls now) work known is_broken use_checkpoints old new outcome
run_once {F} makes work known text is_broken use_checkpoints old new tries statement outcome first now same is asked ran reads looks risen = by_line (puts_or_not statement)
  where
    by_line : IsPutter statement ⊎ (IsPutter statement → ⊥) → RanAsAsked (λ calls. Traced makes first calls now) work known is_broken use_checkpoints old new outcome
    by_line (inl puts) =
        let one = ran puts in
        let comes : ComesOfRuns work text use_checkpoints old new tries outcome one.0 = come.last tries statement outcome one.0 asked one.2 (λ is. inr (risen is)) in
        come.runs text outcome one.0 is one.1 (subst (λ (n : ℕ). ComesOfRuns work text use_checkpoints old new n outcome one.0) same comes)
    by_line (inr none) = let looked = looks none in come.looks text statement outcome looked.0 is asked none (reads none) looked.1 looked.2
