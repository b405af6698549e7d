-- Levels that are passed, and loops over the readers of levels.
use Rattle.std.proofs.Common.{◌≡◌, ℕ, zero, suc, ◌+◌, ◌-◌, ◌<◌, ◌≤◌, min, length, get_or, take, drop, set, replicate, List, [], ◌∷◌, ◌++◌, map, Option, option_map, option_to_list, refl, sym, ap, ◌∙◌, append_assoc, arith}
use Rattle.std.proofs.lemmas.List.{append-nil, drop_more, take_more, map_more, map-append, map-set, set-get_or, set_at, get_or_at, get_or-map, length-map, length-take-le, length-replicate, drop-drop, drop-map, drop_all, take_all, drop-append-le, drop-replicate, replicate-append-replicate}
use Rattle.row_core.specs.declared.value.Value.{Value}
use Rattle.shred.specs.Columns as columns
use Rattle.shred.specs.Columns.{Column}
use Rattle.shred.specs.Parts.{Part}
use Rattle.shred.specs.Views.{cell_view, cells_view}
use Rattle.shred.specs.declared.columns.Cell.{Cell}
use Rattle.row_assembly.specs.Assembly.{heads, first_cell}
use Rattle.row_assembly.specs.Levels.{test_cell, test_cells, tests_of, kept_of, AreLong, AreEqual}
use Rattle.row_assembly.proofs.RowLoops.{cells_put, filter_push}

-- ---- one reader

map-replicate : {A B : Type 0} (f : A → B) (n : ℕ) (x : A) → map f (replicate n x) ≡ replicate n (f x)
map-replicate f zero x = refl
map-replicate f (suc n) x = ap (λ ys. f x ∷ ys) (map-replicate f n x)

-- passing some levels of a run, and then the others
pub passed_on : (top level count step left : ℕ) (vs : List ℕ) → step ≤ count → step ≤ left → drop (left - step) (test_cells top (replicate (count - step) level ++ vs)) ≡ drop left (test_cells top (replicate count level ++ vs))
passed_on top level count step left vs fewer less =
    let all = replicate count level ++ vs in
    let enough : step ≤ length (replicate count level) = let long = length-replicate count level in omega (arith, long, fewer) in
    let behind : drop step all ≡ replicate (count - step) level ++ vs = drop-append-le step (replicate count level) vs enough ∙ ap (λ xs. xs ++ vs) (drop-replicate step count level) in
    let total : step + (left - step) ≡ left = omega (arith, less) in
    ap (λ xs. drop (left - step) (test_cells top xs)) (sym behind) ∙ (ap (drop (left - step)) (sym (drop-map (test_cell top) step all)) ∙ (drop-drop (left - step) step (test_cells top all) ∙ ap (λ n. drop n (test_cells top all)) total))

abbrev Begins : ℕ → List columns.Cell → Type 0
Begins n cells = (c : columns.Cell) × (rest : List columns.Cell) × (cells ≡ replicate n c ++ rest)

-- the levels of a run are equal
pub begins_equal : (top level count n : ℕ) (vs : List ℕ) → n ≤ count → Begins n (test_cells top (replicate count level ++ vs))
begins_equal top level count n vs less =
    let c = test_cell top level in
    let total : n + (count - n) ≡ count = omega (arith, less) in
    let split : replicate count c ≡ replicate n c ++ replicate (count - n) c = ap (λ m. replicate m c) (sym total) ∙ sym (replicate-append-replicate n (count - n) c) in
    let all : test_cells top (replicate count level ++ vs) ≡ replicate n c ++ (replicate (count - n) c ++ test_cells top vs) = map-append (test_cell top) (replicate count level) vs
    ∙ (ap (λ xs. xs ++ test_cells top vs) (map-replicate (test_cell top) count level ∙ split) ∙ append_assoc (replicate n c) (replicate (count - n) c) (test_cells top vs)) in
    (c, replicate (count - n) c ++ test_cells top vs, all)

-- ---- lists that begin with equal cells

equal_less : (n m : ℕ) (css : List (List columns.Cell)) → n ≤ m → AreEqual m css → AreEqual n css
equal_less n m [] less equal = tt
equal_less n m (cs ∷ css) less equal =
    let c = equal.0.0 in
    let total : n + (m - n) ≡ m = omega (arith, less) in
    let split : replicate m c ≡ replicate n c ++ replicate (m - n) c = ap (λ k. replicate k c) (sym total) ∙ sym (replicate-append-replicate n (m - n) c) in
    ((c, replicate (m - n) c ++ equal.0.1, equal.0.2 ∙ (ap (λ xs. xs ++ equal.0.1) split ∙ append_assoc (replicate n c) (replicate (m - n) c) equal.0.1)), equal_less n m css less equal.1)

equal_push : (n : ℕ) (css : List (List columns.Cell)) (cs : List columns.Cell) → AreEqual n css → Begins n cs → AreEqual n (css ++ cs ∷ [])
equal_push n [] cs equal begins = (begins, tt)
equal_push n (ds ∷ css) cs equal begins = (equal.0, equal_push n css cs equal.1 begins)

begins_same : (n : ℕ) (cs ds : List columns.Cell) → ds ≡ cs → Begins n cs → Begins n ds
begins_same n cs ds same begins = (begins.0, begins.1, same ∙ begins.2)

-- one more begins with equal cells
pub equal_on : (css : List (List columns.Cell)) (i m count : ℕ) (cs : List columns.Cell) → i < length css → cs ≡ get_or css i cs → AreEqual m (take i css) → Begins (min m count) cs → AreEqual (min m count) (take (i + 1) css)
equal_on css i m count cs h at equal begins =
    let less : min m count ≤ m = omega arith in
    let more : take (i + 1) css ≡ take i css ++ cs ∷ [] = take_more css i cs h ∙ ap (λ x. take i css ++ x ∷ []) (sym at) in
    rw more (equal_push (min m count) (take i css) cs (equal_less (min m count) m (take i css) less equal) begins)

long_at : (n : ℕ) (css : List (List columns.Cell)) (i : ℕ) (cs : List columns.Cell) → AreLong n css → i < length css → cs ≡ get_or css i cs → length cs ≡ n
long_at n [] i cs long h at = absurd (omega (arith, h))
long_at n (ds ∷ css) zero cs long h at = ap length at ∙ long.0
long_at n (ds ∷ css) (suc i) cs long h at = long_at n css i cs long.1 (omega (arith, h)) at

-- where a list is empty there are no rows
pub none_at : (n : ℕ) (css : List (List columns.Cell)) (i : ℕ) (cs : List columns.Cell) → AreLong n css → i < length css → cs ≡ get_or css i cs → cs ≡ [] → n ≡ 0
none_at n css i cs long h at none = sym (long_at n css i cs long h at) ∙ ap length none

-- ---- a loop that changes each element

-- the element that is changed
pub element_at : {R C : Type 0} (view : R → C) (now : List R) (css : List C) (i : ℕ) (x : R) → map view now ≡ css → i < length now → x ≡ get_or now i x → view x ≡ get_or css i (view x)
element_at view now css i x same h at = ap view at ∙ (sym (get_or-map view now i x (view x) h) ∙ ap (λ ys. get_or ys i (view x)) same)

-- what is seen of it stays
pub set_same : {R C : Type 0} (view : R → C) (now : List R) (css : List C) (i : ℕ) (x y : R) → map view now ≡ css → i < length now → x ≡ get_or now i x → view y ≡ view x → map view (set now i y) ≡ css
set_same view now css i x y same h at kept =
    let here : view y ≡ get_or (map view now) i (view x) = kept ∙ element_at view now (map view now) i x refl h at in
    map-set view now i y ∙ (ap (set (map view now) i) here ∙ (set-get_or (map view now) i (view x) ∙ same))

-- what is seen of it changes as it should
pub changed_on : {R C : Type 0} (view : R → C) (f : C → C) (now : List R) (css : List C) (i : ℕ) (x y : R) → i < length now → i < length css → x ≡ get_or now i x → view y ≡ f (view x) → map view now ≡ map f (take i css) ++ drop i css
    → map view (set now i y) ≡ map f (take (i + 1) css) ++ drop (i + 1) css
changed_on view f now css i x y h k at given so_far =
    let front = map f (take i css) in
    let c = get_or css i (view x) in
    let rest = drop (i + 1) css in
    let less : i ≤ length css = omega (arith, k) in
    let long : length front ≡ i = length-map (take i css) f ∙ length-take-le i css less in
    let all : map view now ≡ front ++ c ∷ rest = so_far ∙ ap (λ xs. front ++ xs) (drop_more css i (view x) k) in
    let mine : view x ≡ c = element_at view now (front ++ c ∷ rest) i x all h at ∙ get_or_at front c rest (view x) i long in
    let changed : view y ≡ f c = given ∙ ap f mine in
    let more : map f (take (i + 1) css) ≡ front ++ f c ∷ [] = map_more f css i (view x) k in
    map-set view now i y ∙ (ap (λ xs. set xs i (view y)) all ∙ (set_at front c rest (view y) i long ∙ (ap (λ z. front ++ z ∷ rest) changed ∙ (sym (append_assoc front (f c ∷ []) rest) ∙ ap (λ xs. xs ++ rest) (sym more)))))

pub all_changed : {C : Type 0} (f : C → C) (xs css : List C) (i : ℕ) → length css ≤ i → xs ≡ map f (take i css) ++ drop i css → xs ≡ map f css
all_changed f xs css i h so_far = so_far ∙ (ap (λ ys. map f (take i css) ++ ys) (drop_all i css h) ∙ (append-nil (map f (take i css)) ∙ ap (map f) (take_all i css h)))

-- ---- one cell of each reader

pub heads_on : (css : List (List columns.Cell)) (i : ℕ) (cs : List columns.Cell) (before now : List (Cell Value)) (r : Option (Cell Value)) → i < length css → cs ≡ get_or css i cs → option_map cell_view r ≡ first_cell cs → now ≡ before ++ option_to_list r
    → cells_view before ≡ heads (take i css) → cells_view now ≡ heads (take (i + 1) css)
heads_on css i cs before now r h at given put so_far =
    let more : take (i + 1) css ≡ take i css ++ cs ∷ [] = take_more css i cs h ∙ ap (λ x. take i css ++ x ∷ []) (sym at) in
    let all : heads (take (i + 1) css) ≡ heads (take i css) ++ option_to_list (first_cell cs) = ap heads more ∙ filter_push first_cell (take i css) cs in
    let mine : cells_view now ≡ cells_view before ++ option_to_list (option_map cell_view r) = ap cells_view put ∙ cells_put before r in
    mine ∙ (ap (λ xs. xs ++ option_to_list (option_map cell_view r)) so_far ∙ (ap (λ o. heads (take i css) ++ option_to_list o) given ∙ sym all))

-- ---- parts, one after another

tests_none : (tops : List ℕ) → tests_of tops [] ≡ []
tests_none [] = refl
tests_none (top ∷ tops) = refl

kept_none : (tops : List ℕ) → kept_of tops [] ≡ []
kept_none [] = refl
kept_none (top ∷ tops) = refl

-- no part is left
pub tests_end : (tops : List ℕ) (parts : List Part) (front total : List (List columns.Cell)) → parts ≡ [] → front ++ tests_of tops parts ≡ total → front ≡ total
tests_end tops parts front total none so_far = sym (append-nil front) ∙ (ap (λ xs. front ++ xs) (sym (ap (tests_of tops) none ∙ tests_none tops)) ∙ so_far)

pub kept_end : (tops : List ℕ) (parts : List Part) (front total : List Column) → parts ≡ [] → front ++ kept_of tops parts ≡ total → front ≡ total
kept_end tops parts front total none so_far = sym (append-nil front) ∙ (ap (λ xs. front ++ xs) (sym (ap (kept_of tops) none ∙ kept_none tops)) ∙ so_far)
