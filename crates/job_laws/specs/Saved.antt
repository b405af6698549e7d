-- What stands once what a line put is saved beside objects that it wasn't done over.
use Rattle.store_core.specs.Objects.{Objects, names_of}
use Rattle.table_folder.specs.Copies.{to_save, with_copies}

-- the objects, with those besides that stand behind a line and didn't before it
abbrev pub with_added : (before after objects : Objects) → Objects
with_added before after objects = with_copies after objects (to_save (names_of before) (names_of after))
