use Rattle.folder_check.proofs.reader.FolderReader.why.Goals as goal

pub returns-in-TooLarge-clause-large : goal.returns-in-TooLarge-clause-large
returns-in-TooLarge-clause-large g c = λ objects large. (c.in-TooLarge.version, rw c.in-TooLarge.is at large)
