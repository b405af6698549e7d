-- A line's moment fits where a commit keeps one.
use Rattle.std.proofs.Common.{◌≡◌, ℕ, ◌<◌, ◌≤◌, ◌^◌, ◌&&◌, ◌||◌, List, Option, Some, None, refl, subst, sym, ◌∙◌, arith, inl, inr, option_map, if◌then◌else◌, nat_le}
use Rattle.std.proofs.lemmas.Bool.{cases_Bool, cond-true, cond-false, and_parts, leb-true}
use Rattle.script_lines.specs.declared.verb.Verb.{Verb}
use Rattle.script_lines.specs.declared.verb.Verb.TheVariants as verb
use Rattle.outcomes.specs.Options.{◌>>=◌}
use Rattle.script_lines.specs.Names.{verb_of}
use Rattle.script_lines.specs.Fields.{word_and_rest, script_number, number_between, moment_of, max_of, json_array_in}
use Rattle.delta_actions.specs.Commit.{is_blank}
use Rattle.script_lines.specs.Lines.{Statement, append_head, append_from, close_from, tail_from, Task, IsTimelyTask, IsTimely, append, close, checkpoint, tail, bare_task, task_from, task_of, task_split, create, task, look, show, tries, fault, start, step, land, world, foreign, asks, asked, bare_statement, statement_from, statement_split, statement_of, create_from, start_from, step_from, foreign_from, text_of, is_comment, reading_of}

kept_high : (low high : ℕ) (found : Option ℕ) (n : ℕ) → (found >>= λ m. if nat_le low m && nat_le m high then Some m else None) ≡ Some n → n ≤ high
kept_high low high None n h = cc
kept_high low high (Some m) n h =
    elim (cases_Bool (nat_le low m && nat_le m high)) [
      | inl t ↦
          let same : Some m ≡ Some n = sym (cond-true _ _ _ t) ∙ h in
          let is : m ≡ n = cc in
          subst (λ k. k ≤ high) is (leb-true _ _ (and_parts _ _ t).1)
      | inr f ↦ let wrong : None ≡ Some n = sym (cond-false _ _ _ f) ∙ h in cc
    ]

-- a moment is below the bound of a count
moment_small : (text : List ℕ) (n : ℕ) → moment_of text ≡ Some n → n < 2 ^ 63
unfolding number_between
moment_small text n h = let high = kept_high 0 999_999_999_999_999 (script_number text) n h in omega arith

some_timely : (v w : Statement) → IsTimely v → Some v ≡ Some w → IsTimely w
some_timely v w t h = let is : v ≡ w = cc in subst IsTimely is t

bind_timely : {A : Type 0} (x : Option A) (f : A → Option Statement) → ((a : A) (w : Statement) → x ≡ Some a → f a ≡ Some w → IsTimely w) → (w : Statement) → (x >>= f) ≡ Some w → IsTimely w
bind_timely None f all w h = cc
bind_timely (Some a) f all w h = all a w refl h

map_timely : {A : Type 0} (x : Option A) (f : A → Statement) → ((a : A) → IsTimely (f a)) → (w : Statement) → option_map f x ≡ Some w → IsTimely w
map_timely None f all w h = cc
map_timely (Some a) f all w h = some_timely (f a) w (all a) h

-- what every way to an answer gives, the answer has
bind_all : {A B : Type 0} (P : B → Type 0) (x : Option A) (f : A → Option B) → ((a : A) (b : B) → x ≡ Some a → f a ≡ Some b → P b) → (b : B) → (x >>= f) ≡ Some b → P b
bind_all P None f all b h = cc
bind_all P (Some a) f all b h = all a b refl h

some_all : {B : Type 0} (P : B → Type 0) (v b : B) → P v → Some v ≡ Some b → P b
some_all P v b t h = let is : v ≡ b = cc in subst P is t

task_timely : (x : Option Task) → ((t : Task) → x ≡ Some t → IsTimelyTask t) → (w : Statement) → option_map task x ≡ Some w → IsTimely w
task_timely None all w h = cc
task_timely (Some t) all w h = some_timely (task t) w (all t refl) h

head_timely : (text : List ℕ) (head : List ℕ × ℕ × ℕ × List ℕ) → append_head text ≡ Some head → head.2 < 2 ^ 63
unfolding append_head
head_timely text head h =
    bind_all (λ head. head.2 < 2 ^ 63) (word_and_rest text) _
    (λ application u _ h1. bind_all (λ head. head.2 < 2 ^ 63) (word_and_rest application.1) _
    (λ digits v _ h2. bind_all (λ head. head.2 < 2 ^ 63) (script_number digits.0) _
    (λ number x _ h3. bind_all (λ head. head.2 < 2 ^ 63) (word_and_rest digits.1) _
    (λ moment y _ h4. bind_all (λ head. head.2 < 2 ^ 63) (moment_of moment.0) _
    (λ at z is h5. some_all (λ head. head.2 < 2 ^ 63) (application.0, number, at, moment.1) z (moment_small moment.0 at is) h5) y h4) x h3) v h2) u h1) head h

append_timely : (text : List ℕ) (t : Task) → append_from text ≡ Some t → IsTimelyTask t
unfolding append_from
append_timely text t h =
    bind_all IsTimelyTask (append_head text) _
    (λ head u is h1. bind_all IsTimelyTask (json_array_in head.3) _
    (λ rows v _ h2. some_all IsTimelyTask (append head.0 head.1 head.2 rows) v (head_timely text head is) h2) u h1) t h

close_timely : (text : List ℕ) (t : Task) → close_from text ≡ Some t → IsTimelyTask t
unfolding close_from
close_timely text t h =
    bind_all IsTimelyTask (word_and_rest text) _
    (λ application u _ h1. bind_all IsTimelyTask (moment_of application.1) _
    (λ at v is h2. some_all IsTimelyTask (close application.0 at) v (moment_small application.1 at is) h2) u h1) t h

tail_timely : (text : List ℕ) (t : Task) → tail_from text ≡ Some t → IsTimelyTask t
unfolding tail_from
tail_timely text t h =
    bind_all IsTimelyTask (word_and_rest text) _
    (λ digits u _ h1. bind_all IsTimelyTask (max_of digits.0) _
    (λ max v _ h2. some_all IsTimelyTask (tail max digits.1) v tt h2) u h1) t h

create_timely : (text : List ℕ) (w : Statement) → create_from text ≡ Some w → IsTimely w
unfolding create_from
create_timely text w h =
    bind_timely (word_and_rest text) _
    (λ id u _ h1. bind_timely (word_and_rest id.1) _
    (λ moment v _ h2. bind_timely (moment_of moment.0) _
    (λ at x is h3. some_timely (create id.0 at moment.1) x (moment_small moment.0 at is) h3) v h2) u h1) w h

bare_task_timely : (v : Verb) (t : Task) → bare_task v ≡ Some t → IsTimelyTask t
bare_task_timely verb.Create t h = cc
bare_task_timely verb.Append t h = cc
bare_task_timely verb.Close t h = cc
bare_task_timely verb.Checkpoint t h = some_all IsTimelyTask checkpoint t tt h
bare_task_timely verb.Snapshot t h = cc
bare_task_timely verb.History t h = cc
bare_task_timely verb.Tail t h = cc
bare_task_timely verb.Show t h = cc
bare_task_timely verb.Hex t h = cc
bare_task_timely verb.Tries t h = cc
bare_task_timely verb.Fault t h = cc
bare_task_timely verb.Start t h = cc
bare_task_timely verb.Until t h = cc
bare_task_timely verb.Step t h = cc
bare_task_timely verb.Finish t h = cc
bare_task_timely verb.Die t h = cc
bare_task_timely verb.Land t h = cc
bare_task_timely verb.Foreign t h = cc

task_from_timely : (v : Verb) (text : List ℕ) (t : Task) → task_from v text ≡ Some t → IsTimelyTask t
task_from_timely verb.Create text t h = cc
task_from_timely verb.Append text t h = append_timely text t h
task_from_timely verb.Close text t h = close_timely text t h
task_from_timely verb.Checkpoint text t h = cc
task_from_timely verb.Snapshot text t h = cc
task_from_timely verb.History text t h = cc
task_from_timely verb.Tail text t h = tail_timely text t h
task_from_timely verb.Show text t h = cc
task_from_timely verb.Hex text t h = cc
task_from_timely verb.Tries text t h = cc
task_from_timely verb.Fault text t h = cc
task_from_timely verb.Start text t h = cc
task_from_timely verb.Until text t h = cc
task_from_timely verb.Step text t h = cc
task_from_timely verb.Finish text t h = cc
task_from_timely verb.Die text t h = cc
task_from_timely verb.Land text t h = cc
task_from_timely verb.Foreign text t h = cc

split_task_timely : (text : List ℕ) (split : Option (List ℕ × List ℕ)) (t : Task) → task_split text split ≡ Some t → IsTimelyTask t
split_task_timely text None t h = bind_all IsTimelyTask (verb_of text) bare_task (λ v u _ h1. bare_task_timely v u h1) t h
split_task_timely text (Some p) t h = bind_all IsTimelyTask (verb_of p.0) (λ v. task_from v p.1) (λ v u _ h1. task_from_timely v p.1 u h1) t h

spelled_timely : (text : List ℕ) (t : Task) → task_of text ≡ Some t → IsTimelyTask t
unfolding task_of
spelled_timely text t h = split_task_timely text (word_and_rest text) t h

start_timely : (text : List ℕ) (w : Statement) → start_from text ≡ Some w → IsTimely w
unfolding start_from
start_timely text w h =
    bind_timely (word_and_rest text) _ (λ actor u _ h1. bind_timely (task_of actor.1) _ (λ job x is h2. some_timely (world (start actor.0 job)) x (spelled_timely actor.1 job is) h2) u h1) w h

step_timely : (text : List ℕ) (w : Statement) → step_from text ≡ Some w → IsTimely w
unfolding step_from
step_timely text w h =
    bind_timely (word_and_rest text) _ (λ actor u _ h1. bind_timely _ _ (λ kind x _ h2. some_timely (world (step actor.0 kind)) x tt h2) u h1) w h

foreign_timely : (text : List ℕ) (w : Statement) → foreign_from text ≡ Some w → IsTimely w
unfolding foreign_from
foreign_timely text w h =
    bind_timely (word_and_rest text) _ (λ digits u _ h1. bind_timely _ _ (λ version x _ h2. some_timely (foreign version digits.1) x tt h2) u h1) w h

bare_timely : (v : Verb) (w : Statement) → bare_statement v ≡ Some w → IsTimely w
bare_timely verb.Create w h = cc
bare_timely verb.Append w h = cc
bare_timely verb.Close w h = cc
bare_timely verb.Checkpoint w h = some_timely _ w tt h
bare_timely verb.Snapshot w h = some_timely _ w tt h
bare_timely verb.History w h = some_timely _ w tt h
bare_timely verb.Tail w h = cc
bare_timely verb.Show w h = cc
bare_timely verb.Hex w h = cc
bare_timely verb.Tries w h = cc
bare_timely verb.Fault w h = cc
bare_timely verb.Start w h = cc
bare_timely verb.Until w h = cc
bare_timely verb.Step w h = cc
bare_timely verb.Finish w h = cc
bare_timely verb.Die w h = cc
bare_timely verb.Land w h = cc
bare_timely verb.Foreign w h = cc

from_timely : (v : Verb) (text : List ℕ) (w : Statement) → statement_from v text ≡ Some w → IsTimely w
from_timely verb.Create text w h = create_timely text w h
from_timely verb.Append text w h = task_timely _ (append_timely text) w h
from_timely verb.Close text w h = task_timely _ (close_timely text) w h
from_timely verb.Checkpoint text w h = cc
from_timely verb.Snapshot text w h = cc
from_timely verb.History text w h = cc
from_timely verb.Tail text w h = task_timely _ (tail_timely text) w h
from_timely verb.Show text w h = map_timely _ (λ version. look (show version)) (λ _. tt) w h
from_timely verb.Hex text w h = some_timely _ w tt h
from_timely verb.Tries text w h = map_timely _ tries (λ _. tt) w h
from_timely verb.Fault text w h = map_timely _ (λ kind. world (fault kind)) (λ _. tt) w h
from_timely verb.Start text w h = start_timely text w h
from_timely verb.Until text w h = some_timely _ w tt h
from_timely verb.Step text w h = step_timely text w h
from_timely verb.Finish text w h = some_timely _ w tt h
from_timely verb.Die text w h = some_timely _ w tt h
from_timely verb.Land text w h = map_timely _ (λ put. world (land put)) (λ _. tt) w h
from_timely verb.Foreign text w h = foreign_timely text w h

split_timely : (text : List ℕ) (split : Option (List ℕ × List ℕ)) (w : Statement) → statement_split text split ≡ Some w → IsTimely w
split_timely text None w h = bind_timely _ bare_statement (λ v u _ h1. bare_timely v u h1) w h
split_timely text (Some p) w h = bind_timely _ (λ v. statement_from v p.1) (λ v u _ h1. from_timely v p.1 u h1) w h

statement_timely : (text : List ℕ) (w : Statement) → statement_of text ≡ Some w → IsTimely w
unfolding statement_of
statement_timely text w h = split_timely text (word_and_rest text) w h

asked_timely : (x : Option Statement) → ((u : Statement) → x ≡ Some u → IsTimely u) → (w : Statement) → asked x ≡ asks w → IsTimely w
asked_timely None all w h = cc
asked_timely (Some u) all w h = let is : u ≡ w = cc in subst IsTimely is (all u refl)

-- what a line asks for has a moment that fits
pub reading_timely : (bytes : List ℕ) (w : Statement) → asks w ≡ reading_of bytes → IsTimely w
unfolding reading_of
reading_timely bytes w h =
    elim (cases_Bool (is_blank bytes || is_comment bytes)) [
      | inl t ↦ let wrong = h ∙ cond-true _ _ _ t in cc
      | inr f ↦ asked_timely _ (λ u e. bind_timely (text_of bytes) statement_of (λ text v _ h1. statement_timely text v h1) u e) w (sym (h ∙ cond-false _ _ _ f))
    ]
