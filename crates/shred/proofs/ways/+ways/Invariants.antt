use Rattle.std.proofs.Common.{◌≡◌, ◌++◌, drop}
use Rattle.shred.specs.Shape.{fields_of}
use Rattle.shred.specs.Ways.{ways_from, under}
use Rattle.shred.specs.Views.{field_views, way_view, way_views}
use Rattle.shred.proofs.ways.+ways.Given as goal

-- the ways that are put and those of the fields that are left are all ways
abbrev pub invariant-put_fields-loop-place : goal.invariant-put_fields-loop-place
invariant-put_fields-loop-place l = record {
  put : way_views l.found.items ++ under (way_view l.fn.above.items) (ways_from l.place (fields_of (field_views (drop l.place l.fields)))) ≡ way_views l.fn.found.items ++ under (way_view l.fn.above.items) (ways_from 0 (fields_of (field_views l.fields)));
  kept : way_view l.above.items ≡ way_view l.fn.above.items;
}
