-- A talk that goes on over what is visible of a folder: what is heard for one call more.
use Rattle.std.proofs.Common.{◌≡◌, ◌∙◌, ℕ, List, [], ◌∷◌, ◌++◌, Option, Some, None, Result, Ok, Err, IsErrAnd, refl, sym, ap, subst, append_assoc, append-nil}
use Rattle.std.specs.Prelude.{MatchOption, MatchResult}
use Rattle.store_core.specs.Listed.{listed}
use Rattle.store_core.specs.declared.names.Names.{Names}
use Rattle.session_core.specs.Talks.{Asked, Talk, Told, told_view}
use Rattle.session_core.specs.declared.asking.Reply.{Reply}
use Rattle.session_core.specs.declared.asking.Reply.TheVariants as replies
use Rattle.table_folder.specs.Traces.{FolderCall}
use Rattle.folder_session.specs.Beside.{TellsNames}
use Rattle.folder_session.specs.Visible.{HearsAllVisible, HearsVisible, given_after, given_behind}

-- which names are still given behind one call more
pub given_more : (given : Option (List (List ℕ))) (talk : Talk) (asked : Asked) (told : Told) → given_behind given (talk ++ (asked, told) ∷ []) ≡ given_after (given_behind given talk) asked
given_more given [] asked told = refl
given_more given (call ∷ talk) asked told = given_more (given_after given call.0) talk asked told

-- which calls were made for a talk with one call more
pub heard_also : (front : Option ℕ) (given : Option (List (List ℕ))) (talk : Talk) (asked : Asked) (told : Told) (calls more : List FolderCall)
    → HearsAllVisible front given talk calls → HearsVisible front (given_behind given talk) asked told more → HearsAllVisible front given (talk ++ (asked, told) ∷ []) (calls ++ more)
heard_also front given [] asked told calls more none one = (more, [], one, refl, (λ i. none i ++ more) ∙ sym (append-nil more))
heard_also front given (call ∷ talk) asked told calls more is one =
    (is.0, is.1 ++ more, is.2, heard_also front (given_after given call.0) talk asked told is.1 more is.3 one, ap (λ (c : List FolderCall). c ++ more) is.4 ∙ append_assoc is.0 is.1 more)

-- names that rise are told, and of others that memory ran out
pub tells_listed : (found : Option Names) (reply : Reply) (names : List (List ℕ)) (P : Type 0) → MatchOption found P (λ shared. listed shared ≡ names) → MatchOption found (reply ≡ replies.Memory) (λ shared. reply ≡ replies.Names shared)
    → TellsNames names (told_view reply)
tells_listed None reply names P rising is = subst (λ (r : Reply). TellsNames names (told_view r)) (sym is) tt
tells_listed (Some shared) reply names P rising is = subst (λ (r : Reply). TellsNames names (told_view r)) (sym is) rising

-- what is so of a fault, where there is one
pub on_fault : {X E : Type 0} (P : E → Type 0) (Q : X → Type 0) (R : Type 0) (result : Result X E) → IsErrAnd result P → R → MatchResult result Q (λ fault. R)
on_fault P Q R (Ok x) is so = absurd is
on_fault P Q R (Err fault) is so = so
