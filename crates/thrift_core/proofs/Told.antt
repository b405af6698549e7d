-- What a reading of a struct tells: what was read is spelled, and what is spelled was read.
use Rattle.std.proofs.Common.{◌≡◌, ℕ, ◌+◌, max, List, ◌++◌, Result, Ok, Err, IfOk, sym, ap, subst, ◌∙◌, arith}
use Rattle.std.proofs.lemmas.List.{append_cancel_right}
use Rattle.lake_bytes.specs.Reading.{ReadsFront}
use Rattle.outcomes.specs.Bytes.{IsBytes}
use Rattle.thrift_values.specs.Tree.{Tree, depth, nodes}
use Rattle.thrift_core.specs.Spelling.{Spells, SpellsStruct}
use Rattle.thrift_core.specs.Reading.{ThriftGives, value_ahead, struct_at}
use Rattle.thrift_values.specs.View.{view}
use Rattle.thrift_values.specs.declared.fault.ReadError.{ReadError}
use Rattle.thrift_core.specs.declared.source.Source.{Source}
use Rattle.thrift_values.specs.declared.value.TValue.{TValue}
use Rattle.thrift_core.specs.declared.wire.WireType.{WireType}
use Rattle.thrift_core.proofs.Takes.{ok_is}
use Rattle.thrift_core.proofs.Found.{struct_at_found}
use Rattle.thrift_core.proofs.AgainHeaders.{at}
use Rattle.thrift_core.proofs.Again.{value_ahead_again, struct_at_again}

pub is_found : {A : Type 0} (old : List ℕ) (result : Result (TValue A) ReadError) (new : List ℕ) → IsBytes old → ThriftGives view (struct_at old) old result new → IfOk result (λ tree. ReadsFront SpellsStruct old (view tree) new)
is_found old (Ok tree) new fits e = let f = struct_at_found old (view tree) new fits e in record { front = f.front; spelled = f.spelled; split = f.split }
is_found old (Err e) new fits h = tt

pub is_read : {A : Type 0} (old : List ℕ) (result : Result (TValue A) ReadError) (new : List ℕ) → ThriftGives view (struct_at old) old result new → (front rest : List ℕ) (t : Tree) → SpellsStruct front t → old ≡ front ++ rest → ThriftGives view (Ok (t, rest)) old result new
is_read old result new e front rest t spelled is = subst (λ r. ThriftGives view r old result new) (ap struct_at is ∙ struct_at_again front t rest spelled) e

-- no two fronts of the same bytes spell values of one type
pub one_tree : (type : WireType) (a b x y : List ℕ) (s t : Tree) → Spells type a s → Spells type b t → a ++ x ≡ b ++ y → (a ≡ b) × (s ≡ t) × (x ≡ y)
one_tree type a b x y s t p q same =
    let most = max (depth s) (depth t) in
    let one : value_ahead most type (at (nodes s + nodes t) (a ++ x)) ≡ Ok (s, at (nodes t) x) = value_ahead_again most type a s x (nodes t) p (omega arith) in
    let two : value_ahead most type (at (nodes t + nodes s) (b ++ y)) ≡ Ok (t, at (nodes s) y) = value_ahead_again most type b t y (nodes s) q (omega arith) in
    let turned : nodes s + nodes t ≡ nodes t + nodes s = omega arith in
    let read : value_ahead most type (at (nodes s + nodes t) (a ++ x)) ≡ Ok (t, at (nodes s) y) = rw (same, turned) two in
    let is = ok_is (s, at (nodes t) x) (t, at (nodes s) y) (sym one ∙ read) in
    let left : x ≡ y = ap (λ (r : Tree × Source). r.1.cursor) is in
    (append_cancel_right a b x (same ∙ ap (λ (r : List ℕ). b ++ r) (sym left)), ap (λ (r : Tree × Source). r.0) is, left)
