-- What is found in a JSON object is less deep than the object.
use Rattle.std.proofs.Common.{◌≡◌, ℕ, ◌≤◌, ◌<◌, List, Option, Some, None, Ordering, Less, Equal, Greater, sym, arith, nat_cmp}
use Rattle.std.specs.Ordering.{match_ordering}
use Rattle.std.specs.Cmp.Lexicographic.{slice_cmp}
use Rattle.serde_json.specs.Data.{Data, null, boolean, number, string, array, object, Members, no_members, member, depth, members_depth}
use Rattle.serde_json.specs.Find.{get, get_member}

abbrev AtMost : ℕ → Option Data → Type 0
AtMost n None = Unit {0}
AtMost n (Some d) = depth d ≤ n

at_most_more : (o : Option Data) (m n : ℕ) → m ≤ n → AtMost m o → AtMost n o
at_most_more None m n le h = tt
at_most_more (Some d) m n le h = omega arith

in_turn : (o : Ordering) (e : Data) (r : Option Data) (n : ℕ) → depth e ≤ n → AtMost n r → AtMost n (match_ordering o r (Some e) r)
in_turn Less e r n he hr = hr
in_turn Equal e r n he hr = he
in_turn Greater e r n he hr = hr

get_member_depth : (k : List ℕ) (ms : Members) → AtMost (members_depth ms) (get_member k ms)
get_member_depth k no_members = tt
get_member_depth k (member l e ms) =
    in_turn (slice_cmp nat_cmp k l) e (get_member k ms) (members_depth (member l e ms)) (omega arith) (at_most_more (get_member k ms) (members_depth ms) (members_depth (member l e ms)) (omega arith) (get_member_depth k ms))

-- what stands in an object is less deep
abbrev Below : ℕ → Option Data → Type 0
Below n None = Unit {0}
Below n (Some d) = depth d < n

below_more : (o : Option Data) (m n : ℕ) → m < n → AtMost m o → Below n o
below_more None m n lt h = tt
below_more (Some d) m n lt h = omega arith

get_depth : (k : List ℕ) (d : Data) → Below (depth d) (get k d)
get_depth k null = tt
get_depth k (boolean b) = tt
get_depth k (number n) = tt
get_depth k (string s) = tt
get_depth k (array ds) = tt
get_depth k (object ms) = below_more (get_member k ms) (members_depth ms) (depth (object ms)) (omega arith) (get_member_depth k ms)

below_of : (o : Option Data) (d : Data) (n : ℕ) → o ≡ Some d → Below n o → depth d < n
below_of o d n is h = rw is at h

-- a member is less deep than what holds it
pub member_below : (name : List ℕ) (body d : Data) → Some d ≡ get name body → depth d < depth body
member_below name body d is = below_of (get name body) d (depth body) (sym is) (get_depth name body)

pub member_depth : (name : List ℕ) (body d : Data) → Some d ≡ get name body → depth d ≤ depth body
member_depth name body d is = let below = member_below name body d is in omega arith
