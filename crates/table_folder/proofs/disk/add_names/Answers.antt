use Rattle.std.proofs.Common.{◌∙◌, ap, sym, subst, All, IsTrue, String, Vec, map}
use Rattle.std.specs.Prelude.{string_bytes}
use Rattle.std.specs.Global.{Global}
use Rattle.table_folder.specs.Names.{is_listed}
use Rattle.table_folder.proofs.NameLemmas.{All-names_more}
use Rattle.table_folder.proofs.disk.add_names.Goals as goal
use Rattle.table_folder.proofs.disk.add_names.Goals.{in-Some-2+in_ok-push, in_default}

pub loop-file-preserved : goal.loop-file-preserved
loop-file-preserved g c = elim c.match-branch-4.branch [
  | in-Some-2+in_ok-push w ↦ All-names_more (λ name. IsTrue (is_listed c.args.listed name)) _ _ w.in-Some-2.name (ap (λ (names : Vec (String Global) Global). names.items) w.names-is ∙ w.in_ok-push.ensures.items) c.loop-file.invariant (rw w.in-Some-2.is at c.in_ok-name.ensures)
  | in_default w ↦ subst (λ (names : Vec (String Global) Global). All (λ name. IsTrue (is_listed c.args.listed name)) (map string_bytes names.items)) (sym w.names-is) c.loop-file.invariant
]
