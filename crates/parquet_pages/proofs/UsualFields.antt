-- Fields that are read one after another stand in the bytes.
use Rattle.std.proofs.Common.{◌≡◌, ℕ, ℤ, pos, ◌+ℤ◌, ◌≤ℤ◌, Bool, List, [], ◌∷◌, ◌++◌, Ok, Err, refl, ap, ◌∙◌, sym, append_assoc, arith}
use Rattle.lake_bytes.specs.Reading.{ReadsFront}
use Rattle.thrift_core.specs.Reading.{struct_at}
use Rattle.thrift_core.specs.Spelling.{SpellsFields, apart, id_rises}
use Rattle.thrift_core.specs.Tree.{Fields, no_fields, field, integer, struct}
use Rattle.thrift_core.specs.Wire.{announced}
use Rattle.thrift_values.specs.declared.fault.ThriftFault.{ThriftFault}
use Rattle.thrift_core.specs.declared.wire.WireType.TheVariants as wire
use Rattle.thrift_core.proofs.Callers.{struct_at_again}
use Rattle.parquet_footer.specs.declared.fault.FileFault.TheVariants.{BadPage}
use Rattle.parquet_pages.specs.Headers.{Header, header_of}
use Rattle.parquet_pages.specs.Reading.{header_at}
use Rattle.parquet_pages.specs.Usual.{kind_fields, usual_tree, SpellsNext, SpellsUsual}
use Rattle.parquet_pages.specs.declared.usual.UsualHeader.{UsualHeader}

-- fields behind one of this id stand in front
abbrev pub FieldsInFront : ℤ → List ℕ → Fields → List ℕ → Type 0
FieldsInFront last old fs rest = ReadsFront (SpellsFields last) old fs rest

pub fields_end : (last : ℤ) (old rest : List ℕ) → old ≡ 0 ∷ rest → FieldsInFront last old no_fields rest
fields_end last old rest is = record { front = 0 ∷ []; spelled = refl; split = is }

pub number_in_front : (last id : ℤ) (old mid rest : List ℕ) (z : ℤ) (fs : Fields) → id ≡ last +ℤ pos 1
    → id ≤ℤ pos 32767 → ReadsFront SpellsNext old z mid → FieldsInFront id mid fs rest
    → FieldsInFront last old (field id (integer z) fs) rest
unfolding announced
number_in_front last id old mid rest z fs is low one behind =
    let digits = one.spelled.digits in
    record {
      front = one.front ++ behind.front;
      spelled = (
        5,
        record {
          front = one.front;
          back = behind.front;
          first = record {
            front = 21 ∷ [];
            back = digits;
            first = id_rises 1 (omega arith) (omega arith) is low refl;
            second = apart wire.Int32 (omega arith) (record { fits = omega arith; is = refl }) one.spelled.number;
            whole = one.spelled.begins;
          };
          second = behind.spelled;
          whole = refl;
        },
      );
      split = one.split ∙ ap (λ (t : List ℕ). one.front ++ t) behind.split
          ∙ sym (append_assoc one.front behind.front rest);
    }

pub struct_in_front : (last id : ℤ) (old mid after rest : List ℕ) (inner fs : Fields) → id ≡ last +ℤ pos 2
    → id ≤ℤ pos 32767 → old ≡ 44 ∷ mid → FieldsInFront (pos 0) mid inner after → FieldsInFront id after fs rest
    → FieldsInFront last old (field id (struct inner) fs) rest
unfolding announced
struct_in_front last id old mid after rest inner fs is low begins one behind =
    record {
      front = 44 ∷ (one.front ++ behind.front);
      spelled = (
        12,
        record {
          front = 44 ∷ one.front;
          back = behind.front;
          first = record {
            front = 44 ∷ [];
            back = one.front;
            first = id_rises 2 (omega arith) (omega arith) is low refl;
            second = apart wire.Struct (omega arith) (record { fits = omega arith; is = refl }) (refl, one.spelled);
            whole = refl;
          };
          second = behind.spelled;
          whole = refl;
        },
      );
      split = begins ∙ ap (λ (t : List ℕ). 44 ∷ t) (one.split ∙ ap (λ (t : List ℕ). one.front ++ t) behind.split
          ∙ sym (append_assoc one.front behind.front rest));
    }

pub kind_in_front : (u : UsualHeader) (l0 l1 l2 l3 l4 rest : List ℕ) → ReadsFront SpellsNext l0 u.num_values l1
    → ReadsFront SpellsNext l1 u.encoding l2 → ReadsFront SpellsNext l2 u.level_encoding l3
    → ReadsFront SpellsNext l3 u.repetition l4 → l4 ≡ 0 ∷ rest → FieldsInFront (pos 0) l0 (kind_fields u) rest
kind_in_front u l0 l1 l2 l3 l4 rest a b c d end =
    number_in_front (pos 0) (pos 1) l0 l1 rest u.num_values _ refl (omega arith) a
    (number_in_front (pos 1) (pos 2) l1 l2 rest u.encoding _ refl (omega arith) b
    (number_in_front (pos 2) (pos 3) l2 l3 rest u.level_encoding _ refl (omega arith) c
    (number_in_front (pos 3) (pos 4) l3 l4 rest u.repetition no_fields refl (omega arith) d (fields_end (pos 4) l4 rest end))))

pub usual_in_front : (u : UsualHeader) (l0 l1 l2 l3 l4 after rest : List ℕ) → ReadsFront SpellsNext l0 u.page_type l1
    → ReadsFront SpellsNext l1 u.uncompressed l2 → ReadsFront SpellsNext l2 u.compressed l3 → l3 ≡ 44 ∷ l4
    → FieldsInFront (pos 0) l4 (kind_fields u) after → after ≡ 0 ∷ rest → ReadsFront SpellsUsual l0 u rest
usual_in_front u l0 l1 l2 l3 l4 after rest a b c begins kind end =
    let all = number_in_front (pos 0) (pos 1) l0 l1 rest u.page_type _ refl (omega arith) a
    (number_in_front (pos 1) (pos 2) l1 l2 rest u.uncompressed _ refl (omega arith) b
    (number_in_front (pos 2) (pos 3) l2 l3 rest u.compressed _ refl (omega arith) c
    (struct_in_front (pos 3) (pos 5) l3 l4 after rest (kind_fields u) no_fields refl (omega arith) begins kind
    (fields_end (pos 5) after rest end)))) in
    record {
      front = all.front;
      spelled = record { spelled = (refl, all.spelled); nesting = omega arith; values = omega arith };
      split = all.split;
    }

-- A usual header that stands in front is read there.
pub usual_is_read : (has_levels : Bool) (given rest : List ℕ) (u : UsualHeader) (header : Header)
    → ReadsFront SpellsUsual given u rest → header_of has_levels (usual_tree u) ≡ Ok header
    → header_at has_levels given ≡ Ok (header, rest)
unfolding header_at
usual_is_read has_levels given rest u header f says =
    let read : struct_at given ≡ Ok (usual_tree u, rest) =
    ap struct_at f.split ∙ struct_at_again f.front (usual_tree u) rest f.spelled in
    rw (read, says) refl

pub usual_is_refused : (has_levels : Bool) (given rest : List ℕ) (u : UsualHeader) (fault : ThriftFault)
    → ReadsFront SpellsUsual given u rest → header_of has_levels (usual_tree u) ≡ Err fault
    → header_at has_levels given ≡ Err (BadPage fault)
unfolding header_at
usual_is_refused has_levels given rest u fault f says =
    let read : struct_at given ≡ Ok (usual_tree u, rest) =
    ap struct_at f.split ∙ struct_at_again f.front (usual_tree u) rest f.spelled in
    rw (read, says) refl
