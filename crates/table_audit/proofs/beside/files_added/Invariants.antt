use Rattle.std.proofs.Common.{◌≡◌, ℕ, List, filter, map, string_bytes, take}
use Rattle.std.specs.BTreeSet.{contains_text}
use Rattle.std.specs.List.{list_any}
use Rattle.table_audit.specs.Audits.{ReadInTurn, is_commit_name}
use Rattle.table_audit.specs.Beside.{name_adds}
use Rattle.table_audit.specs.Calls.{ReaderCall, ReaderTraced}
use Rattle.table_audit.proofs.beside.files_added.Given as goal

-- the files of the commits among the names that were seen are added
abbrev pub invariant-loop-name : goal.invariant-loop-name
invariant-loop-name g l = record {
  untouched : g.R.ObjectReader.is_steady l.fn.reader → g.R.ObjectReader.objects l.reader ≡ g.R.ObjectReader.objects l.fn.reader;
  steady : g.R.ObjectReader.is_steady l.fn.reader → g.R.ObjectReader.is_steady l.reader;
  reliable : g.R.ObjectReader.is_reliable l.fn.reader → g.R.ObjectReader.is_reliable l.reader;
  called : (calls : List ReaderCall) × ReaderTraced g.R.ObjectReader.makes l.fn.reader calls l.reader × ReadInTurn (filter is_commit_name (map string_bytes (take l.name-index l.names))) calls;
  added : g.R.ObjectReader.is_steady l.fn.reader → (file : List ℕ) → contains_text l.files file ≡ list_any (name_adds (g.R.ObjectReader.objects l.fn.reader) file) (map string_bytes (take l.name-index l.names));
}
