-- What a reader gave and has left, and what a writer was given.
use Rattle.std.proofs.Common.{◌≡◌, ℕ, ◌+◌, ◌-◌, ◌<◌, ◌≤◌, ◌++◌, [], List, Option, None, Some, length, IfSome, refl, ap, subst, sym, ◌∙◌, arith, length-append, length-drop, take, drop, append_assoc, append-nil}
use Rattle.std.specs.Io.KnownBytes.{Consumes, Appends, Keeps, append_known}
use Rattle.std.proofs.Math.Seq.{take-length}
use Rattle.std.proofs.lemmas.List.{take-append-drop}
use Rattle.lake_script.specs.Streams.{WritesFront}
use Rattle.lake_script.specs.Told.{Finishes}
use Rattle.lake_script.specs.declared.engine.End.{End}
use Rattle.lake_script.specs.declared.engine.End.TheVariants.{Done, BadLine, NotRead, NotWritten}

-- what is known is as long as what was taken of it
pub length-consumed : (old new : Option (List ℕ)) (text : List ℕ) (n : ℕ) → Consumes old new text → n ≤ length text → IfSome old (λ known. n ≤ length known)
length-consumed None new text n h e = tt
length-consumed (Some xs) None text n h e = absurd h
length-consumed (Some xs) (Some ys) text n h e = omega (arith, ap length h, length-append text ys)

-- and as long as that and what is left together
pub length-consumed_rest : (old new : Option (List ℕ)) (text : List ℕ) (most : ℕ) → Consumes old new text → IfSome new (λ known. most < length text + length known) → IfSome old (λ known. most < length known)
length-consumed_rest None new text most h e = tt
length-consumed_rest (Some xs) None text most h e = absurd h
length-consumed_rest (Some xs) (Some ys) text most h e = omega (arith, ap length h, length-append text ys)

pub Appends-none : (old : Option (List ℕ)) → Appends old old []
Appends-none None = tt
Appends-none (Some xs) = sym (append-nil xs)

pub Appends-both : (old mid new : Option (List ℕ)) (a b : List ℕ) → Appends old mid a → Appends mid new b → Appends old new (a ++ b)
Appends-both None mid new a b h e = tt
Appends-both (Some xs) None new a b h e = absurd h
Appends-both (Some xs) (Some ys) None a b h e = absurd e
Appends-both (Some xs) (Some ys) (Some zs) a b h e = e ∙ ap (λ u. u ++ b) h ∙ append_assoc xs a b

-- nothing behind what is known leaves it as it is
pub nothing_known : (contents : Option (List ℕ)) → append_known contents [] ≡ contents
nothing_known None = refl
nothing_known (Some bytes) = ap Some (append-nil bytes)

-- what was added so far, with what comes later, is the whole
pub record Towards (old now : Option (List ℕ)) (later whole : List ℕ) : Type 0 where
  pub front : List ℕ
  pub added : Appends old now front
  pub joins : front ++ later ≡ whole

pub towards_all : (old : Option (List ℕ)) (whole : List ℕ) → Towards old old whole whole
towards_all old whole = record { front = []; added = Appends-none old; joins = refl }

pub towards_done : (old now : Option (List ℕ)) (whole : List ℕ) → Towards old now [] whole → Appends old now whole
towards_done old now whole t = subst (λ u. Appends old now u) (sym (append-nil t.front) ∙ t.joins) t.added

-- what was added so far stands in the whole
pub towards_stands : (old now : Option (List ℕ)) (later whole : List ℕ) → Towards old now later whole → WritesFront old now whole
towards_stands None now later whole t = tt
towards_stands (Some xs) None later whole t = absurd t.added
towards_stands (Some xs) (Some ys) later whole t =
    (later, ap (λ u. u ++ later) t.added ∙ (append_assoc xs t.front later ∙ ap (λ u. xs ++ u) t.joins))

-- a write takes a front of what comes later
pub towards_more : (old now new : Option (List ℕ)) (rest whole : List ℕ) (n : ℕ) → Towards old now rest whole → Appends now new (take n rest) → Towards old new (take (length rest - n) (drop n rest)) whole
towards_more old now new rest whole n t added =
    let all = ap (λ k. take k (drop n rest)) (sym (length-drop n rest)) ∙ take-length (drop n rest) in
    record {
      front = t.front ++ take n rest;
      added = Appends-both old now new t.front (take n rest) t.added added;
      joins = ap (λ u. (t.front ++ take n rest) ++ u) all ∙ (append_assoc t.front (take n rest) (drop n rest) ∙ (ap (λ u. t.front ++ u) (take-append-drop n rest) ∙ t.joins));
    }

-- what keeps its bytes has had none added
pub Appends-kept : (now new : Option (List ℕ)) → Keeps now new → Appends now new []
Appends-kept None new h = tt
Appends-kept (Some xs) None h = absurd h
Appends-kept (Some xs) (Some ys) h = h ∙ sym (append-nil xs)

-- a write that fails leaves what was added
pub kept_stands : (old now new : Option (List ℕ)) (later whole : List ℕ) → Towards old now later whole → Keeps now new → WritesFront old new whole
kept_stands old now new later whole t kept =
    towards_stands old new later whole (record {
      front = t.front ++ [];
      added = Appends-both old now new t.front [] t.added (Appends-kept now new kept);
      joins = ap (λ u. u ++ later) (append-nil t.front) ∙ t.joins;
    })

-- what stands in what was said so far stands in the whole
pub stands_in_whole : (old now new : Option (List ℕ)) (later whole : List ℕ) → Towards old now later whole → WritesFront now new [] → WritesFront old new whole
stands_in_whole None now new later whole t s = tt
stands_in_whole (Some xs) None new later whole t s = absurd t.added
stands_in_whole (Some xs) (Some ys) None later whole t s = absurd s
stands_in_whole (Some xs) (Some ys) (Some zs) later whole t s =
    (s.0 ++ later, sym (append_assoc zs s.0 later) ∙ (ap (λ u. u ++ later) (s.1 ∙ append-nil ys ∙ t.added) ∙ (append_assoc xs t.front later ∙ ap (λ u. xs ++ u) t.joins)))

-- What holds of a text where a run finishes holds of the text that was to be read, where that is the one.
pub finishes_with : (end : End) (known : Option (List ℕ)) (text : List ℕ) (P : List ℕ → Type 0) → IfSome known (λ all. text ≡ all) → Finishes end (λ bad. P text) → Finishes end (λ bad. IfSome known P)
finishes_with NotRead known text P is holds = tt
finishes_with NotWritten known text P is holds = tt
finishes_with Done None text P is holds = tt
finishes_with Done (Some all) text P is holds = subst P is holds
finishes_with (BadLine number) None text P is holds = tt
finishes_with (BadLine number) (Some all) text P is holds = subst P is holds
