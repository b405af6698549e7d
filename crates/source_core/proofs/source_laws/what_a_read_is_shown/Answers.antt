use Rattle.std.proofs.Common.{[]}
use Rattle.session_core.specs.Talks.{list_names, told_names}
use Rattle.source_core.proofs.ListedOnce.{sorted_once}
use Rattle.source_core.proofs.SourceLaws.{all_reads, shown_then}
use Rattle.source_core.proofs.source_laws.what_a_read_is_shown.Goals as goal

pub returns-clause-reads : goal.returns-clause-reads
returns-clause-reads c = λ job before talk asked. all_reads job before [] talk asked

pub returns-clause-shown : goal.returns-clause-shown
returns-clause-shown c = λ job before gets names listed old new asked same known files grown talked.
    (same, shown_then job before listed known files (list_names, told_names names) [] gets old new asked.1 (same, tt) grown talked)

pub returns-clause-once : goal.returns-clause-once
returns-clause-once c = λ objects ordered name. sorted_once name _ ordered
