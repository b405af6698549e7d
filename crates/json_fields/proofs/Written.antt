-- An object whose fields are written in the order of their names, and the text that a written value makes.
use Rattle.std.proofs.Common.{◌≡◌, ℕ, Bool, true, false, List, [], ◌∷◌, ◌++◌, map, Option, Some, None, option_map, option_and_then, IfSome, refl, sym, ap, ap₂, subst, ◌∙◌, arith, append_assoc, append-nil}
use Rattle.std.specs.Prelude.{◌&&◌}
use Rattle.std.specs.List.{AllByRecursion, list_all}
use Rattle.std.specs.Str.{IsUtf8}
use Rattle.std.specs.Cmp.Lexicographic.{slice_cmp}
use Rattle.std.specs.Ordering.{match_ordering, nat_cmp}
use Rattle.std.specs.declared.cmp.Ordering.{Ordering}
use Rattle.std.specs.declared.cmp.Ordering.TheVariants.{Less, Equal, Greater}
use Rattle.std.proofs.lemmas.Bool.{and_parts}
use Rattle.json.specs.Token.{Token, key, begin_object, end_object}
use Rattle.json.specs.Lex.{tokens}
use Rattle.json.specs.Print.{print}
use Rattle.json.specs.Json as json
use Rattle.json.specs.Tree as tree
use Rattle.json.specs.Tree.{json_tokens, members_tokens}
use Rattle.serde_json.specs.Data.{Data, null, boolean, number, string, array, object, Items, no_items, item, Members, no_members, member, put, depth, items_depth, members_depth}
use Rattle.serde_json.specs.Read.{of_members}
use Rattle.serde_json.specs.Written.{blank_members, compact_text, outline, items_outline, members_outline}
use Rattle.serde_json.proofs.Texts.{print-outline}
use Rattle.json_fields.specs.Printing.{Field, put_if, put_fields, fields_object}
use Rattle.json_fields.specs.Writing.{ReadsAgain, IsWritten, member_tokens, fields_tokens, AreWritten, IsTextOf}
use Rattle.json_fields.proofs.ReadBack.{tokens_read}

-- ---- names in order

-- the name is above the other, in order of bytes
abbrev is_above : List ℕ → List ℕ → Bool
is_above name other = match_ordering (slice_cmp nat_cmp name other) false false true

-- each name is above those before it
abbrev pub rise : List (List ℕ) → Bool
rise [] = true
rise (name ∷ names) = list_all (λ later. is_above later name) names && rise names

abbrev names_of : List Field → List (List ℕ)
names_of fs = map (λ f. f.0) fs

-- the members that are printed, in the order in which the fields stand
abbrev member_if : List ℕ → Option Data → Members → Members
member_if name None ms = ms
member_if name (Some d) ms = member name d ms

abbrev members_in_turn : List Field → Members
members_in_turn [] = no_members
members_in_turn (f ∷ fs) = member_if f.0 f.1 (members_in_turn fs)

goes_behind : (o : Ordering) (before same behind : Members) → match_ordering o false false true ≡ true → match_ordering o before same behind ≡ behind
goes_behind Less before same behind h = absurd cc
goes_behind Equal before same behind h = absurd cc
goes_behind Greater before same behind h = refl

put_if_above : (name : List ℕ) (o : Option Data) (l : List ℕ) (e : Data) (ms : Members) → is_above name l ≡ true → put_if name o (member l e ms) ≡ member l e (put_if name o ms)
put_if_above name None l e ms h = refl
put_if_above name (Some d) l e ms h = goes_behind (slice_cmp nat_cmp name l) (member name d (member l e ms)) (member l d ms) (member l e (put name d ms)) h

-- a member stays the first where all names are above it
stays_first : (l : List ℕ) (e : Data) (fs : List Field) (ms : Members) → list_all (λ later. is_above later l) (names_of fs) ≡ true → put_fields (member l e ms) fs ≡ member l e (put_fields ms fs)
stays_first l e [] ms h = refl
stays_first l e (f ∷ fs) ms h =
    let parts = and_parts (is_above f.0 l) (list_all (λ later. is_above later l) (names_of fs)) h in
    ap (λ (all : Members). put_fields all fs) (put_if_above f.0 f.1 l e ms parts.0) ∙ stays_first l e fs (put_if f.0 f.1 ms) parts.1

first_in_turn : (name : List ℕ) (o : Option Data) (fs : List Field) → list_all (λ later. is_above later name) (names_of fs) ≡ true → put_fields no_members fs ≡ members_in_turn fs
    → put_fields (put_if name o no_members) fs ≡ member_if name o (members_in_turn fs)
first_in_turn name None fs h rest = rest
first_in_turn name (Some d) fs h rest = stays_first name d fs no_members h ∙ ap (member name d) rest

-- fields whose names rise stand in the object as they are listed
in_turn : (fs : List Field) → rise (names_of fs) ≡ true → put_fields no_members fs ≡ members_in_turn fs
in_turn [] h = refl
in_turn (f ∷ fs) h =
    let parts = and_parts (list_all (λ later. is_above later f.0) (names_of fs)) (rise (names_of fs)) h in
    first_in_turn f.0 f.1 fs parts.0 (in_turn fs parts.1)

-- ---- tokens

tokens_if : (name : List ℕ) (o : Option Data) (ms : Members) (rest : List Token) → members_tokens (members_outline ms) ≡ rest → members_tokens (members_outline (member_if name o ms)) ≡ member_tokens name o ++ rest
tokens_if name None ms rest is = is
tokens_if name (Some d) ms rest is = ap (λ (ts : List Token). key name ∷ (json_tokens (outline d) ++ ts)) is

members_written : (fs : List Field) → members_tokens (members_outline (members_in_turn fs)) ≡ fields_tokens fs ++ end_object ∷ []
members_written [] = refl
members_written (f ∷ fs) =
    tokens_if f.0 f.1 (members_in_turn fs) (fields_tokens fs ++ end_object ∷ []) (members_written fs) ∙ sym (append_assoc (member_tokens f.0 f.1) (fields_tokens fs) (end_object ∷ []))

abbrev AllRead : List Field → Type 0
AllRead fs = AllByRecursion (λ f. IfSome f.1 ReadsAgain) fs

read_if : (name : List ℕ) (o : Option Data) (fs : List Field) (ms : Members) → IfSome o ReadsAgain → of_members (members_outline (members_in_turn fs)) (put_if name o ms) ≡ Some (put_fields (put_if name o ms) fs)
    → of_members (members_outline (member_if name o (members_in_turn fs))) ms ≡ Some (put_fields (put_if name o ms) fs)
read_if name None fs ms h rest = rest
read_if name (Some d) fs ms h rest = ap (option_and_then (λ (e : Data). of_members (members_outline (members_in_turn fs)) (put name e ms))) h.same ∙ rest

members_read : (fs : List Field) (ms : Members) → AllRead fs → of_members (members_outline (members_in_turn fs)) ms ≡ Some (put_fields ms fs)
members_read [] ms h = refl
members_read (f ∷ fs) ms h = read_if f.0 f.1 fs ms h.0 (members_read fs (put_if f.0 f.1 ms) h.1)

integers_if : (name : List ℕ) (o : Option Data) (ms : Members) → IfSome o ReadsAgain → blank_members (members_outline ms) ≡ members_outline ms → blank_members (members_outline (member_if name o ms)) ≡ members_outline (member_if name o ms)
integers_if name None ms h rest = rest
integers_if name (Some d) ms h rest = ap₂ (json.member name) h.integers rest

members_integers : (fs : List Field) → AllRead fs → blank_members (members_outline (members_in_turn fs)) ≡ members_outline (members_in_turn fs)
members_integers [] h = refl
members_integers (f ∷ fs) h = integers_if f.0 f.1 (members_in_turn fs) h.0 (members_integers fs h.1)

-- ---- fields

-- one field was written
pub one_written : (name : List ℕ) (d : Data) (old named new : List Token) → named ≡ old ++ key name ∷ [] → IsWritten d named new → AreWritten ((name, Some d) ∷ []) old new
one_written name d old named new is w = record {
  appends = w.appends ∙ ap (λ (ts : List Token). ts ++ json_tokens (outline d)) is ∙ append_assoc old (key name ∷ []) (json_tokens (outline d)) ∙ ap (λ (ts : List Token). old ++ key name ∷ ts) (sym (append-nil (json_tokens (outline d))));
  reads = (w.reads, tt);
}

-- an absent field was written
pub none_written : (name : List ℕ) (ts : List Token) → AreWritten ((name, None) ∷ []) ts ts
none_written name ts = record { appends = sym (append-nil ts); reads = (tt, tt) }

-- a field was written, and the others behind it
pub also : {f : Field} {fs : List Field} {old one all : List Token} → AreWritten (f ∷ []) old one → AreWritten fs one all → AreWritten (f ∷ fs) old all
also {f = f} {fs = fs} {old = old} first others = record {
  appends =
      others.appends ∙ ap (λ (ts : List Token). ts ++ fields_tokens fs) (first.appends ∙ ap (λ (ts : List Token). old ++ ts) (append-nil (member_tokens f.0 f.1)))
      ∙ append_assoc old (member_tokens f.0 f.1) (fields_tokens fs);
  reads = (first.reads.0, others.reads);
}

-- ---- objects

object_tokens : (fs : List Field) (old begun inside new : List Token) → begun ≡ old ++ begin_object ∷ [] → inside ≡ begun ++ fields_tokens fs → new ≡ inside ++ end_object ∷ []
    → new ≡ old ++ begin_object ∷ (fields_tokens fs ++ end_object ∷ [])
object_tokens fs old begun inside new begins fields ends =
    let written : inside ≡ (old ++ begin_object ∷ []) ++ fields_tokens fs = fields ∙ ap (λ (ts : List Token). ts ++ fields_tokens fs) begins in
    ends ∙ ap (λ (ts : List Token). ts ++ end_object ∷ []) written ∙ append_assoc (old ++ begin_object ∷ []) (fields_tokens fs) (end_object ∷ [])
    ∙ append_assoc old (begin_object ∷ []) (fields_tokens fs ++ end_object ∷ [])

-- an object was written, whose fields stand in the order of their names
pub object_written : (fs : List Field) (old begun inside new : List Token) → rise (names_of fs) ≡ true
    → begun ≡ old ++ begin_object ∷ [] → AreWritten fs begun inside → new ≡ inside ++ end_object ∷ [] → IsWritten (fields_object fs) old new
object_written fs old begun inside new names begins w ends =
    let all = members_in_turn fs in
    let is : put_fields no_members fs ≡ all = in_turn fs names in
    let same : of_members (members_outline all) no_members ≡ Some all = members_read fs no_members w.reads ∙ ap Some is in
    let whole : IsWritten (object all) old new = record {
      appends = object_tokens fs old begun inside new begins w.appends ends ∙ ap (λ (ts : List Token). old ++ begin_object ∷ ts) (sym (members_written fs));
      reads = record { same = ap (option_map object) same; integers = ap json.object (members_integers fs w.reads) };
    } in
    subst (λ (ms : Members). IsWritten (object ms) old new) (sym is) whole

-- ---- texts

mutual
  outline_depth : (d : Data) → tree.depth (outline d) ≡ depth d
  outline_depth null = refl
  outline_depth (boolean b) = refl
  outline_depth (number n) = refl
  outline_depth (string s) = refl
  outline_depth (array ds) = let inside = items_outline_depth ds in omega arith
  outline_depth (object ms) = let inside = members_outline_depth ms in omega arith

  items_outline_depth : (ds : Items) → tree.items_depth (items_outline ds) ≡ items_depth ds
  items_outline_depth no_items = refl
  items_outline_depth (item d ds) = let first = outline_depth d in let rest = items_outline_depth ds in omega arith

  members_outline_depth : (ms : Members) → tree.members_depth (members_outline ms) ≡ members_depth ms
  members_outline_depth no_members = refl
  members_outline_depth (member k d ms) = let first = outline_depth d in let rest = members_outline_depth ms in omega arith

-- the tokens of a value that was written print as its text
pub written_text : (d : Data) (ts : List Token) → IsWritten d [] ts → print ts ≡ compact_text d
written_text d ts w = ap print w.appends ∙ print-outline d

pub is_text : (d : Data) (ts : List Token) → IsWritten d [] ts → tokens (print ts) ≡ ts → IsUtf8 (print ts) → IsTextOf (compact_text d) d
is_text d ts w lexed utf8 =
    let text = written_text d ts w in
    let found : tokens (compact_text d) ≡ json_tokens (outline d) = sym (ap tokens text) ∙ lexed ∙ w.appends in
    record {
      order = (outline d, found, w.reads.integers);
      compact = sym (ap print found ∙ print-outline d);
      exact = λ none. refl;
      utf8 = subst IsUtf8 text utf8;
      reads = λ shallow. tokens_read d (compact_text d) found (let deep = outline_depth d in omega (arith, shallow)) w.reads.same;
    }
