use Rattle.std.proofs.Common.{◌≡◌, List, map, take}
use Rattle.std.specs.List.{AllByRecursion}
use Rattle.schema_tree.specs.Schema.{tree_of}
use Rattle.table_store.specs.Groups.{AreFilesOf}
use Rattle.table_audit.specs.Audits.{ReadInTurn, names_of_files}
use Rattle.table_audit.specs.Calls.{ReaderCall, ReaderTraced}
use Rattle.table_audit.specs.Entries.{HasFile}
use Rattle.table_audit.proofs.GroupParts.{file_of, number_of}
use Rattle.table_audit.proofs.SmallParts.{HasSmall}
use Rattle.table_audit.proofs.group.wrong_files.Given as goal

-- the files of the numbers that were seen are added, and stand
abbrev pub invariant-loop-i : goal.invariant-loop-i
invariant-loop-i g l = record {
  untouched : g.R.ObjectReader.is_steady l.fn.reader → g.R.ObjectReader.objects l.reader ≡ g.R.ObjectReader.objects l.fn.reader;
  steady : g.R.ObjectReader.is_steady l.fn.reader → g.R.ObjectReader.is_steady l.reader;
  reliable : g.R.ObjectReader.is_reliable l.fn.reader → g.R.ObjectReader.is_reliable l.reader;
  named : AreFilesOf (map number_of (take l.i l.txns)) (map file_of (take l.i l.adds));
  called : (calls : List ReaderCall) × ReaderTraced g.R.ObjectReader.makes l.fn.reader calls l.reader × ReadInTurn (take l.i (names_of_files (map file_of l.adds))) calls;
  stand : g.R.ObjectReader.is_steady l.fn.reader → AllByRecursion (HasFile (g.R.ObjectReader.objects l.fn.reader) (tree_of l.fn.schema)) (map number_of (take l.i l.txns));
  small : g.R.ObjectReader.is_steady l.fn.reader → AllByRecursion (HasSmall (g.R.ObjectReader.objects l.fn.reader) (tree_of l.fn.schema)) (map number_of (take l.i l.txns));
}
