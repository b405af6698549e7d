use Rattle.std.proofs.Common.{rules, ◌≡◌, true, w64, to_z, of_z}
use Rattle.std.proofs.lemmas.Int.{to_z-of_z}
use Rattle.parquet_pages.specs.declared.usual.UsualHeader.{UsualHeader}
use Rattle.parquet_pages.proofs.UsualFields.{kind_in_front, usual_in_front}
use Rattle.parquet_pages.proofs.usual.usual_header.Goals as goal

pub returns-clause-spelled : goal.returns-clause-spelled
returns-clause-spelled c =
    let begins : c.is_next.result ≡ true = search rules in
    let inner : c.is_next-2.result ≡ true = search rules in
    let outer : c.is_next-else-not-is_next-2.result ≡ true = search rules in
    let usual : UsualHeader = record {
      page_type = c.in_ok-page_type.page_type;
      uncompressed = c.in_ok-uncompressed.uncompressed;
      compressed = c.in_ok-compressed.compressed;
      num_values = c.in_ok-num_values.num_values;
      encoding = c.in_ok-encoding.encoding;
      level_encoding = c.in_ok-level_encoding.level_encoding;
      repetition = c.in_ok-repetition.repetition;
    } in
    let is_page_type : to_z w64 (of_z w64 c.in_ok-page_type.page_type) ≡ c.in_ok-page_type.page_type =
    to_z-of_z w64 c.in_ok-page_type.page_type (search rules) in
    let is_uncompressed : to_z w64 (of_z w64 c.in_ok-uncompressed.uncompressed) ≡ c.in_ok-uncompressed.uncompressed =
    to_z-of_z w64 c.in_ok-uncompressed.uncompressed (search rules) in
    let is_compressed : to_z w64 (of_z w64 c.in_ok-compressed.compressed) ≡ c.in_ok-compressed.compressed =
    to_z-of_z w64 c.in_ok-compressed.compressed (search rules) in
    let is_num_values : to_z w64 (of_z w64 c.in_ok-num_values.num_values) ≡ c.in_ok-num_values.num_values =
    to_z-of_z w64 c.in_ok-num_values.num_values (search rules) in
    let is_encoding : to_z w64 (of_z w64 c.in_ok-encoding.encoding) ≡ c.in_ok-encoding.encoding =
    to_z-of_z w64 c.in_ok-encoding.encoding (search rules) in
    let is_level_encoding : to_z w64 (of_z w64 c.in_ok-level_encoding.level_encoding) ≡ c.in_ok-level_encoding.level_encoding =
    to_z-of_z w64 c.in_ok-level_encoding.level_encoding (search rules) in
    let is_repetition : to_z w64 (of_z w64 c.in_ok-repetition.repetition) ≡ c.in_ok-repetition.repetition =
    to_z-of_z w64 c.in_ok-repetition.repetition (search rules) in
    rw (is_page_type, is_uncompressed, is_compressed, is_num_values, is_encoding, is_level_encoding, is_repetition) (usual_in_front usual c.args.cursor.now c.next_number.new.cursor c.next_number-2.new.cursor c.next_number-3.new.cursor
    c.is_next.new.cursor c.is_next-2.new.cursor c.is_next-else-not-is_next-2.new.cursor
    c.in_ok-page_type.ensures c.in_ok-uncompressed.ensures c.in_ok-compressed.ensures (c.is_next.ensures begins)
    (kind_in_front usual c.is_next.new.cursor c.next_number-4.new.cursor c.next_number-5.new.cursor
    c.next_number-6.new.cursor c.next_number-7.new.cursor c.is_next-2.new.cursor c.in_ok-num_values.ensures
    c.in_ok-encoding.ensures c.in_ok-level_encoding.ensures c.in_ok-repetition.ensures (c.is_next-2.ensures inner))
    (c.is_next-else-not-is_next-2.ensures outer))
