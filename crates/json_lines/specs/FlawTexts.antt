-- What is said of a text that is no JSON object.
use Rattle.std.specs.Prelude.{ℕ, List, ◌++◌, codes}
use Rattle.std.specs.Fmt.{decimal}
use Rattle.json_lines.specs.declared.flaw.Flaw.{Flaw}
use Rattle.json_lines.specs.declared.flaw.Flaw.TheVariants.{Empty, NoText, CutShort, NoJson, NoJsonBelow, NoObject, Unknown}

-- the printed form
abbrev pub flaw_text : Flaw → List ℕ
flaw_text Empty = codes "is empty"
flaw_text (NoText byte) = codes "isn't UTF-8 at byte " ++ decimal byte
flaw_text CutShort = codes "ends too early"
flaw_text (NoJson byte) = codes "can't be read as JSON near byte " ++ decimal byte
flaw_text (NoJsonBelow line byte) = codes "can't be read as JSON near byte " ++ (decimal byte ++ (codes " of its line " ++ decimal line))
flaw_text NoObject = codes "is JSON, but no object"
flaw_text Unknown = codes "is no JSON object"
