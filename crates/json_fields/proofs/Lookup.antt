-- A field that was put into an object is found there.
use Rattle.std.proofs.Common.{◌≡◌, ℕ, Bool, true, false, cond, bytes_eq, List, [], ◌∷◌, Option, Some, None, option_map, Ok, refl, sym, ap, ◌∙◌, true≢false}
use Rattle.std.specs.Prelude.{IfSome}
use Rattle.std.proofs.lemmas.Slice.Eq.{bytes_eq-Decides}
use Rattle.serde_json.specs.Data.{Data, Members, no_members, put}
use Rattle.serde_json.specs.Find.{get_member}
use Rattle.serde_json.proofs.Views.{get_member-put, get_member-put_other}
use Rattle.json_fields.specs.Fields.{optional, needed, defaulted}
use Rattle.json_fields.specs.KindLaws.{StandsFor, texts_stand}
use Rattle.json_fields.specs.Kinds.{texts}
use Rattle.json_fields.specs.Printing.{Field, put_if, put_fields, fields_object, over, printed_over, printed_at, texts_data, unless_empty}

pub over_none : (o : Option Data) → over None o ≡ o
over_none None = refl
over_none (Some d) = refl

either_way : {A : Type 0} (b : Bool) (x : A) → x ≡ cond b x x
either_way true x = refl
either_way false x = refl

get-put : (name n : List ℕ) (d : Data) (ms : Members) (b : Bool) → bytes_eq name n ≡ b → get_member name (put n d ms) ≡ cond b (Some d) (get_member name ms)
get-put name n d ms true e = rw ((bytes_eq-Decides name n).0 e) (get_member-put n d ms)
get-put name n d ms false e = get_member-put_other name n d ms (λ same. true≢false (sym ((bytes_eq-Decides name n).1 same) ∙ e))

get-put_if : (name n : List ℕ) (o : Option Data) (ms : Members) → get_member name (put_if n o ms) ≡ cond (bytes_eq name n) (over (get_member name ms) o) (get_member name ms)
get-put_if name n None ms = either_way (bytes_eq name n) (get_member name ms)
get-put_if name n (Some d) ms = get-put name n d ms (bytes_eq name n) refl

get-put_fields : (name : List ℕ) (fs : List Field) (ms : Members) → get_member name (put_fields ms fs) ≡ printed_over (get_member name ms) name fs
get-put_fields name [] ms = refl
get-put_fields name (f ∷ fs) ms = get-put_fields name fs (put_if f.0 f.1 ms) ∙ ap (λ o. printed_over o name fs) (get-put_if name f.0 f.1 ms)

at : (name : List ℕ) (fs : List Field) (o : Option Data) → printed_at name fs ≡ o → get_member name (put_fields no_members fs) ≡ o
at name fs o is = get-put_fields name fs no_members ∙ is

-- ---- a field is read again, whatever its kind

pub needed_again : {A : Type 0} (kind : Data → Option A) (name : List ℕ) (fs : List Field) (d : Data) (x : A) → printed_at name fs ≡ Some d → StandsFor kind d x → needed kind name (fields_object fs) ≡ Ok x
unfolding needed optional
needed_again kind name fs d x is s = rw (at name fs (Some d) is, s.is_there, s.is) refl

pub defaulted_again : {A : Type 0} (kind : Data → Option A) (name : List ℕ) (other : A) (fs : List Field) (d : Data) (x : A) → printed_at name fs ≡ Some d → StandsFor kind d x
    → defaulted kind name other (fields_object fs) ≡ Ok x
unfolding defaulted optional
defaulted_again kind name other fs d x is s = rw (at name fs (Some d) is, s.is_there, s.is) refl

pub defaulted_missing : {A : Type 0} (kind : Data → Option A) (name : List ℕ) (other : A) (fs : List Field) → printed_at name fs ≡ None → defaulted kind name other (fields_object fs) ≡ Ok other
unfolding defaulted optional
defaulted_missing kind name other fs is = rw (at name fs None is) refl

pub optional_again : {A : Type 0} (kind : Data → Option A) (name : List ℕ) (fs : List Field) (write : A → Data) (o : Option A) → printed_at name fs ≡ option_map write o → IfSome o (λ x. StandsFor kind (write x) x)
    → optional kind name (fields_object fs) ≡ Ok o
unfolding optional
optional_again kind name fs write None is s = rw (at name fs None is) refl
optional_again kind name fs write (Some x) is s = rw (at name fs (Some (write x)) is, s.is_there, s.is) refl

stand_if : {A : Type 0} (kind : Data → Option A) (write : A → Data) (P : A → Type 0) → ((x : A) → P x → StandsFor kind (write x) x) → (o : Option A) → IfSome o P → IfSome o (λ x. StandsFor kind (write x) x)
stand_if kind write P stands None h = tt
stand_if kind write P stands (Some x) h = stands x h

-- a field that may be absent, where each value of its kind stands again
pub optional_of_kind : {A : Type 0} (kind : Data → Option A) (write : A → Data) (P : A → Type 0) → ((x : A) → P x → StandsFor kind (write x) x)
    → (name : List ℕ) (fs : List Field) (o : Option A) → IfSome o P → printed_at name fs ≡ option_map write o → optional kind name (fields_object fs) ≡ Ok o
optional_of_kind kind write P stands name fs o h is = optional_again kind name fs write o is (stand_if kind write P stands o h)

-- a list that isn't printed where it is empty
pub unless_empty_again : (name : List ℕ) (fs : List Field) (ts : List (List ℕ)) → printed_at name fs ≡ unless_empty ts → defaulted texts name [] (fields_object fs) ≡ Ok ts
unless_empty_again name fs [] is = defaulted_missing texts name [] fs is
unless_empty_again name fs (t ∷ ts) is = defaulted_again texts name [] fs (texts_data (t ∷ ts)) (t ∷ ts) is (texts_stand (t ∷ ts))
