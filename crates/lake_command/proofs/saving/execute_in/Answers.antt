use Rattle.lake_command.proofs.saving.execute_in.Goals as goal

pub returns-in-Job-Tail-clause-told : goal.returns-in-Job-Tail-clause-told
returns-in-Job-Tail-clause-told g c = λ steady well.
    let job = rw c.in-Job-Tail.is at c.in-Job-Tail.field-0-is in
    rw (c.in-Job-Tail.is, job, c.read_in.ensures.untouched steady) (c.read_in.ensures.told steady well)

pub returns-in-Snapshot-clause-told : goal.returns-in-Snapshot-clause-told
returns-in-Snapshot-clause-told g c = λ steady well. rw (c.in-Snapshot.is, c.snapshot_in.ensures.untouched steady) (c.snapshot_in.ensures.told steady well)

pub returns-in-History-clause-told : goal.returns-in-History-clause-told
returns-in-History-clause-told g c = λ steady well. rw (c.in-History.is, c.history_in.ensures.untouched steady) (c.history_in.ensures.told steady well)

-- ---- a line that puts nothing

pub returns-in-Job-Tail-clause-ran : goal.returns-in-Job-Tail-clause-ran
returns-in-Job-Tail-clause-ran g c = λ puts. absurd (let job = rw c.in-Job-Tail.is at c.in-Job-Tail.field-0-is in rw (c.in-Job-Tail.is, job) at puts)

pub returns-in-Snapshot-clause-ran : goal.returns-in-Snapshot-clause-ran
returns-in-Snapshot-clause-ran g c = λ puts. absurd (rw c.in-Snapshot.is at puts)

pub returns-in-History-clause-ran : goal.returns-in-History-clause-ran
returns-in-History-clause-ran g c = λ puts. absurd (rw c.in-History.is at puts)

-- ---- and what it looked for

pub returns-in-Job-Tail-clause-looked : goal.returns-in-Job-Tail-clause-looked
returns-in-Job-Tail-clause-looked g c = λ none.
    let job = rw c.in-Job-Tail.is at c.in-Job-Tail.field-0-is in
    rw (c.in-Job-Tail.is, job) c.read_in.ensures.looked

pub returns-in-Snapshot-clause-looked : goal.returns-in-Snapshot-clause-looked
returns-in-Snapshot-clause-looked g c = λ none. rw c.in-Snapshot.is c.snapshot_in.ensures.looked

pub returns-in-History-clause-looked : goal.returns-in-History-clause-looked
returns-in-History-clause-looked g c = λ none. rw c.in-History.is c.history_in.ensures.looked
