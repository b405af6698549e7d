use Rattle.std.proofs.Common.{◌≡◌, length, map, take}
use Rattle.json_lines.proofs.Objects.{parts_of, Read}
use Rattle.json_lines.proofs.objects_in.Given as goal

abbrev pub invariant-loop-line : goal.invariant-loop-line
invariant-loop-line l = record {
  counted : l.number ≡ length l.yielded;
  texts : map (λ object. object.now) l.objects.items ≡ take (length l.yielded) (parts_of l.text);
  read : Read (take (length l.yielded) (parts_of l.text)) l.objects.items;
}
