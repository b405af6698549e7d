-- What is read of a struct in front of bytes stands there, and takes a byte at least.
use Rattle.std.proofs.Common.{◌≡◌, ℕ, ◌<◌, ℤ, pos, List, length, Ok, Err, ap, ◌∙◌, arith, length-append}
use Rattle.outcomes.specs.Bytes.{IsBytes}
use Rattle.thrift_core.specs.Reading.{struct_at}
use Rattle.thrift_core.specs.Spelling.{SpellsFields, SpellsStruct}
use Rattle.thrift_core.specs.Tree.{Tree, boolean, integer, binary, list, map, struct, skipped, Fields, no_fields, field}
use Rattle.thrift_values.specs.declared.fault.ThriftFault.{ThriftFault}
use Rattle.thrift_core.proofs.Callers.{struct_at_again, struct_at_found}
use Rattle.file_laws.specs.Places.{BeginsWithStruct, HasNoStruct}
use Rattle.file_laws.proofs.Steps.{never}

pub no_struct : (bytes : List ℕ) (fault : ThriftFault) → struct_at bytes ≡ Err fault → HasNoStruct bytes fault
no_struct bytes fault e = record {
  none = λ front rest tree parts spelled.
      never (tree, rest) fault (struct_at bytes) (ap struct_at parts ∙ struct_at_again front tree rest spelled) e;
  first = e;
}

pub begins : (bytes : List ℕ) (tree : Tree) (behind : List ℕ) → IsBytes bytes → struct_at bytes ≡ Ok (tree, behind) → BeginsWithStruct bytes tree behind
begins bytes tree behind fits e =
    let s = struct_at_found bytes tree behind fits e in
    record { front = s.front; spelled = s.spelled; parts = s.split }

fields_take : (fs : Fields) (last : ℤ) (bytes : List ℕ) → SpellsFields last bytes fs → 0 < length bytes
fields_take no_fields last bytes e = omega (arith, ap length e)
fields_take (field id v fs) last bytes turn =
    let more = fields_take fs id turn.1.back turn.1.second in
    omega (arith, more, ap length turn.1.whole, length-append turn.1.front turn.1.back)

pub struct_takes : (bytes : List ℕ) (tree : Tree) → SpellsStruct bytes tree → 0 < length bytes
struct_takes bytes (struct fs) s = fields_take fs (pos 0) bytes s.spelled.1
struct_takes bytes (boolean b) s = absurd cc
struct_takes bytes (integer z) s = absurd s.spelled
struct_takes bytes (binary text) s = absurd cc
struct_takes bytes (list ts) s = absurd cc
struct_takes bytes (map es) s = absurd cc
struct_takes bytes skipped s = absurd cc
