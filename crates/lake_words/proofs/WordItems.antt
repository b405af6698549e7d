-- What `clap` reads where the words are flags that are written out, and plain words.
use Rattle.std.proofs.Common.{◌≡◌, ℕ, ◌&&◌, ◌||◌, Bool, true, false, List, [], ◌∷◌, ◌++◌, map, Option, Some, None, refl, ap, ap₂, ◌∙◌}
use Rattle.std.proofs.lemmas.Bool.{and_from}
use Rattle.std.specs.Prelude.{is_some}
use Rattle.std.specs.List.{list_all, fold}
use Rattle.clap.specs.Walk.{Held, Row, Rule, Step, Text, Waiting, Walk, after_step, finished, idle, nothing_held, option, plain_word, positional, rows_after, subcommand_met, value, walk_from, walked, walked_from, word_met}
use Rattle.clap.specs.Simple.{Shape}
use Rattle.clap.specs.Takes.{default_passes, is_valid, level_passes, settle_passes, step_passes, turn_passes, walk_passes, word_passes}
use Rattle.lake_words.specs.Spelling.{IsArgumentValue}

-- a word of a command line
pub data Item : Type 0 where
  flag : Text → Item
  plain : Text → Item

abbrev pub word_of : Item → Text
word_of (flag word) = word
word_of (plain word) = word

-- the words that are called plain are
abbrev pub ArePlain : List Item → Type 0
ArePlain [] = Unit {0}
ArePlain (flag word ∷ items) = ArePlain items
ArePlain (plain word ∷ items) = IsArgumentValue word × ArePlain items

-- ---- one plain word

-- what a plain word is: the value of the option before it, or of a place
abbrev pub plain_met : List Rule → Bool → Waiting → Text → Held → Held × Step
plain_met c true waiting word h = (h, value)
plain_met c false waiting word h = plain_word c waiting word h

-- no word is a subcommand where there is none
no_subcommand : (waiting : Waiting) (word : Text) → subcommand_met [] waiting word ≡ None
no_subcommand idle word = refl
no_subcommand (option id) word = refl
no_subcommand positional word = refl

pub plain_is_met : (c : List Rule) (trailing : Bool) (waiting : Waiting) (position : ℕ) (word : Text) (h : Held)
    → IsArgumentValue word → word_met c [] trailing waiting position word h ≡ plain_met c trailing waiting word h
plain_is_met c true waiting position word h e = refl
plain_is_met c false waiting position [] h e = rw (no_subcommand waiting []) refl
plain_is_met c false waiting position (x ∷ xs) h e = rw (no_subcommand waiting (x ∷ xs), e, e) refl

-- the walk after one more plain word
abbrev pub plain_walked : List Rule → Option (Text × List Text) → Walk → Text → Walk
plain_walked c (Some p) w word = record w { stopped = Some (p.0, p.1 ++ word ∷ []) }
plain_walked c None w word =
    let met = plain_met c w.is_trailing w.waiting word w.held in
    after_step c word w met.0 met.1

plain_is_walked : (c : List Rule) (stopped : Option (Text × List Text)) (w : Walk) (word : Text)
    → IsArgumentValue word → walked_from c [] stopped w word ≡ plain_walked c stopped w word
plain_is_walked c (Some p) w word e = refl
plain_is_walked c None w word e =
    ap (λ (met : Held × Step). after_step c word w met.0 met.1) (plain_is_met c w.is_trailing w.waiting w.position word w.held e)

-- a plain word is no call for help, and no unknown option
plain_word_passes : (s : Shape) (trailing : Bool) (waiting : Waiting) (word : Text) (h : Held)
    → IsArgumentValue word → word_passes s [] trailing waiting word h ≡ true
plain_word_passes s true waiting word h e = refl
plain_word_passes s false waiting [] h e = rw (no_subcommand waiting []) refl
plain_word_passes s false waiting (x ∷ xs) h e = rw (no_subcommand waiting (x ∷ xs), e, e) refl

abbrev pub plain_passes : Shape → Walk → Text → Bool
plain_passes s w word =
    let met = plain_met s.rules w.is_trailing w.waiting word w.held in
    is_some w.stopped || step_passes s w.position met.0 met.1

plain_is_passed : (s : Shape) (w : Walk) (word : Text) → IsArgumentValue word → turn_passes s [] w word ≡ plain_passes s w word
plain_is_passed s w word e =
    ap₂ (λ (passes : Bool) (met : Held × Step). is_some w.stopped || (passes && step_passes s w.position met.0 met.1))
    (plain_word_passes s w.is_trailing w.waiting word w.held e)
    (plain_is_met s.rules w.is_trailing w.waiting w.position word w.held e)

-- ---- the words of a subcommand

abbrev pub item_walked : List Rule → Walk → Item → Walk
item_walked c w (flag word) = walked c [] w word
item_walked c w (plain word) = plain_walked c w.stopped w word

abbrev pub item_passes : Shape → Walk → Item → Bool
item_passes s w (flag word) = turn_passes s [] w word
item_passes s w (plain word) = plain_passes s w word

-- the walk takes each word
pub items_pass : Shape → Walk → List Item → Bool
items_pass s w [] = true
items_pass s w (item ∷ items) = item_passes s w item && items_pass s (item_walked s.rules w item) items

-- the same, item after item
pub data TakesAll (s : Shape) : Walk → List Item → Type 0 where
  no_more : {w : Walk} → TakesAll s w []
  next : {w : Walk} {item : Item} {items : List Item} → item_passes s w item ≡ true → TakesAll s (item_walked s.rules w item) items → TakesAll s w (item ∷ items)

takes_all : (s : Shape) (w : Walk) (items : List Item) → TakesAll s w items → items_pass s w items ≡ true
unfolding items_pass
takes_all s w items no_more = refl
takes_all s w items (next first rest) = and_from _ _ first (takes_all s _ _ rest)

-- the words are read as the items are
pub items_walked : (c : List Rule) (items : List Item) (w : Walk) → ArePlain items
    → fold (walked c []) w (map word_of items) ≡ fold (item_walked c) w items
unfolding walked
items_walked c [] w p = refl
items_walked c (flag word ∷ items) w p = items_walked c items (walked c [] w word) p
items_walked c (plain word ∷ items) w p =
    ap (λ v. fold (walked c []) v (map word_of items)) (plain_is_walked c w.stopped w word p.0) ∙ items_walked c items (plain_walked c w.stopped w word) p.1

pub items_passed : (s : Shape) (items : List Item) (w : Walk) → ArePlain items
    → walk_passes s [] w (map word_of items) ≡ items_pass s w items
unfolding walk_passes walked items_pass
items_passed s [] w p = refl
items_passed s (flag word ∷ items) w p = ap (λ rest. turn_passes s [] w word && rest) (items_passed s items (walked s.rules [] w word) p)
items_passed s (plain word ∷ items) w p =
    ap₂ (λ (a b : Bool). a && b) (plain_is_passed s w word p.0)
    (ap (λ v. walk_passes s [] v (map word_of items)) (plain_is_walked s.rules w.stopped w word p.0) ∙ items_passed s items (plain_walked s.rules w.stopped w word) p.1)

-- the rows of a subcommand
abbrev pub item_rows : List Rule → List Item → List Row
item_rows c items = finished c (fold (item_walked c) (walk_from nothing_held) items).held

pub rows_of_items : (c : List Rule) (items : List Item) → ArePlain items → rows_after c [] (map word_of items) ≡ item_rows c items
rows_of_items c items p = ap (λ (w : Walk). finished c w.held) (items_walked c items (walk_from nothing_held) p)

-- a subcommand takes the words
abbrev pub items_taken : Shape → List Item → Bool
items_taken s items =
    let end = (fold (item_walked s.rules) (walk_from nothing_held) items).held in
    items_pass s (walk_from nothing_held) items && (settle_passes s.rules s.args_override_self end
    && (list_all default_passes s.rules && is_valid s (finished s.rules end) false))

pub items_are_taken : (s : Shape) (items : List Item) → ArePlain items
    → level_passes s [] nothing_held (map word_of items) false ≡ items_taken s items
items_are_taken s items p =
    ap₂ (λ (passes : Bool) (w : Walk). passes && (settle_passes s.rules s.args_override_self w.held
    && (list_all default_passes s.rules && is_valid s (finished s.rules w.held) false)))
    (items_passed s items (walk_from nothing_held) p)
    (items_walked s.rules items (walk_from nothing_held) p)

-- where the walk takes them, and what they leave is complete
pub all_taken : (s : Shape) (items : List Item) → TakesAll s (walk_from nothing_held) items
    → settle_passes s.rules s.args_override_self (fold (item_walked s.rules) (walk_from nothing_held) items).held ≡ true
    → (list_all default_passes s.rules && is_valid s (item_rows s.rules items) false) ≡ true → items_taken s items ≡ true
all_taken s items passes settles valid = and_from _ _ (takes_all s _ items passes) (and_from _ _ settles valid)
