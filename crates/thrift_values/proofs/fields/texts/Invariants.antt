use Rattle.std.proofs.Common.{◌≡◌, drop}
use Rattle.thrift_values.specs.Tree.{trees_of}
use Rattle.thrift_values.specs.View.{views, texts_view}
use Rattle.thrift_values.specs.Fields.{all_as, as_text}
use Rattle.thrift_values.proofs.FieldKinds.{with_texts}
use Rattle.thrift_values.proofs.fields.texts.Given as goal

abbrev pub invariant-loop-member : goal.invariant-loop-member
invariant-loop-member g l = with_texts (texts_view l.texts.items) (all_as as_text (trees_of (views (drop l.member-index l.member-items)))) ≡ all_as as_text (trees_of (views l.member-items))
