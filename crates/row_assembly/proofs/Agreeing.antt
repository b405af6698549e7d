-- Where the cells of a row agree, each with the one before it, the row can be made.
use Rattle.std.proofs.Common.{◌≡◌, ◌==◌, ℕ, ◌+◌, ◌<◌, ◌≤◌, min, List, [], ◌∷◌, ◌++◌, Bool, true, false, Some, Result, Ok, inl, inr, refl, sym, ap, subst, ◌∙◌, append_assoc, arith}
use Rattle.std.proofs.lemmas.Bool.{cases_lt, false≢true}
use Rattle.std.proofs.lemmas.Bool.Decides.{nat_tests}
use Rattle.std.proofs.lemmas.List.{append-nil, map-append, map-id}
use Rattle.outcomes.specs.Results.{◌>>=◌, refused_as}
use Rattle.row_core.specs.Rows.{Value, null, truth, structure, values_of}
use Rattle.shred.specs.Shape.{Shape, leaf, struct, Fields, no_fields, field}
use Rattle.shred.specs.Ways.{Step, under, ways, ways_from, level_inside, highest, highest_from}
use Rattle.shred.specs.Columns.{Cell, absent_cell}
use Rattle.shred.proofs.Callers.{absent_cells}
use Rattle.row_assembly.specs.Faults.{Fault, inside}
use Rattle.row_assembly.specs.Assembly.{Made, begins_absent, is_absent, passed, field_made, made, made_fields}
use Rattle.row_assembly.specs.Levels.{row_tested, test_cell}
use Rattle.row_assembly.specs.Neighbours.{shared_steps, levels_behind, leaf_levels, HeadsAgree}
use Rattle.row_assembly.proofs.Rests.{level_same, absent_is}
use Rattle.row_assembly.proofs.MadeComplete.{absent_there, passed_complete}

-- ---- levels along a way

step_up : (optional : Bool) (level top : ℕ) → level_inside optional level ≤ top → level ≤ top
step_up true level top h = omega (arith, h)
step_up false level top h = h

levels_up : (way : List Step) (level : ℕ) → level ≤ highest_from level way
levels_up [] level = omega arith
levels_up (step ∷ way) level = step_up step.optional level (highest_from (level_inside step.optional level) way) (levels_up way (level_inside step.optional level))

one_deeper : (above : List Step) (step : Step) (level : ℕ) → highest_from level (above ++ step ∷ []) ≡ level_inside step.optional (highest_from level above)
one_deeper [] step level = refl
one_deeper (s ∷ above) step level = one_deeper above step (level_inside s.optional level)

up_to_leaf : (above way : List Step) (level : ℕ) → highest_from level above ≤ highest_from level (above ++ way)
up_to_leaf [] way level = levels_up way level
up_to_leaf (s ∷ above) way level = up_to_leaf above way (level_inside s.optional level)

shared_on : (optional : Bool) (level top shared : ℕ) → top ≤ level_inside optional level + shared → top ≤ level + level_inside optional shared
shared_on true level top shared h = omega (arith, h)
shared_on false level top shared h = h

-- two leaves below a shape share the steps above it
shared_above : (above way other : List Step) (level : ℕ) → highest_from level above ≤ level + shared_steps (above ++ way) (above ++ other)
shared_above [] way other level = omega arith
shared_above (s ∷ above) way other level =
    rw (level_same s.place) (shared_on s.optional level (highest_from (level_inside s.optional level) above) (shared_steps (above ++ way) (above ++ other)) (shared_above above way other (level_inside s.optional level)))

shares : (above way other : List Step) → highest above ≤ shared_steps (above ++ way) (above ++ other)
shares above way other = let more = shared_above above way other 0 in omega (arith, more)

-- ---- cells of leaves that share some steps

-- up to this level, each is as the one before
abbrev Same : ℕ → ℕ → List Cell → Type 0
Same n before [] = Unit {0}
Same n before (c ∷ cells) = (min before n ≡ min c.level n) × Same n before cells

abbrev AtLeast : ℕ → List Cell → Type 0
AtLeast n [] = Unit {0}
AtLeast n (c ∷ cells) = (n ≤ c.level) × AtLeast n cells

same_from : (n p q : ℕ) (cells : List Cell) → min p n ≡ min q n → Same n q cells → Same n p cells
same_from n p q [] h same = tt
same_from n p q (c ∷ cells) h same = (h ∙ same.0, same_from n p q cells h same.1)

up_to : (n shared p q : ℕ) → n ≤ shared → min p shared ≡ min q shared → min p n ≡ min q n
up_to n shared p q less h = omega (arith, less, h)

-- the cells agree as those of the leaves below this way, so many of a shape's ways
abbrev Below : List Step → List Step → List (List Step) → ℕ → List Cell → Type 0
Below above before ws p cells = HeadsAgree p (levels_behind before (under above ws)) cells

all_same : (n : ℕ) (above way : List Step) (ws : List (List Step)) (p : ℕ) (cells : List Cell) → n ≤ highest above → Below above (above ++ way) ws p cells → Same n p cells
all_same n above way [] p [] less agree = tt
all_same n above way [] p (c ∷ cells) less agree = absurd agree
all_same n above way (w ∷ ws) p [] less agree = absurd agree
all_same n above way (w ∷ ws) p (c ∷ cells) less agree =
    let enough = shares above way w in
    let one = up_to n (shared_steps (above ++ way) (above ++ w)) p c.level (omega (arith, less, enough)) agree.0.same in
    (one, same_from n p c.level cells one (all_same n above w ws c.level cells less agree.2))

deep_from : (n p : ℕ) (cells : List Cell) → n ≤ p → Same n p cells → AtLeast n cells
deep_from n p [] h same = tt
deep_from n p (c ∷ cells) h same = (omega (arith, h, same.0), deep_from n p cells h same.1)

-- where the first cell has a level, up to the steps above, the others have it too
all_deep : (n : ℕ) (above before : List Step) (ws : List (List Step)) (p : ℕ) (c : Cell) (cells : List Cell) → n ≤ highest above → n ≤ c.level → Below above before ws p (c ∷ cells) → AtLeast n (c ∷ cells)
all_deep n above before [] p c cells less deep agree = absurd agree
all_deep n above before (w ∷ ws) p c cells less deep agree = (deep, deep_from n c.level cells deep (all_same n above w ws c.level cells less agree.2))

-- ---- nulls

null_here : (top level : ℕ) (c : Cell) → level < top → c ≡ test_cell top c.level → c.level ≡ level → c ≡ absent_cell level
null_here top level c less is at =
    let differs : (level == top) ≡ false = grind (arith, nat_tests, less) in
    is ∙ (ap (test_cell top) at ∙ rw differs refl)

nulls_from : (level : ℕ) (above before : List Step) (ws : List (List Step)) (p : ℕ) (cells : List Cell) → level < highest above → Below above before ws p cells → Same (level + 1) level cells → cells ≡ absent_cells level ws
nulls_from level above before [] p [] less agree same = refl
nulls_from level above before [] p (c ∷ cells) less agree same = absurd agree
nulls_from level above before (w ∷ ws) p [] less agree same = absurd agree
nulls_from level above before (w ∷ ws) p (c ∷ cells) less agree same =
    let more = up_to_leaf above w 0 in
    let at : c.level ≡ level = omega (arith, same.0) in
    let one = null_here (highest (above ++ w)) level c (omega (arith, less, more)) agree.1 at in
    ap (λ d. d ∷ cells) one ∙ ap (λ cs. absent_cell level ∷ cs) (nulls_from level above (above ++ w) ws c.level cells less agree.2 same.1)

-- a field whose first cell is that of a null has nulls alone
nulls : (level : ℕ) (above before : List Step) (ws : List (List Step)) (p : ℕ) (cells rest : List Cell) → level < highest above → Below above before ws p cells → begins_absent level (cells ++ rest) ≡ true → cells ≡ absent_cells level ws
nulls level above before [] p [] rest less agree begins = refl
nulls level above before [] p (c ∷ cells) rest less agree begins = absurd agree
nulls level above before (w ∷ ws) p [] rest less agree begins = absurd agree
nulls level above before (w ∷ ws) p (c ∷ cells) rest less agree begins =
    let at : c.level ≡ level = ap (λ d. d.level) (absent_is level c begins) in
    let first : min level (level + 1) ≡ min c.level (level + 1) = omega (arith, at) in
    let same = all_same (level + 1) above w ws c.level cells (omega (arith, less)) agree.2 in
    nulls_from level above before (w ∷ ws) p (c ∷ cells) less agree (first, same_from (level + 1) level c.level cells first same)

not_at : (top level : ℕ) (c : Cell) → level < top → c ≡ test_cell top c.level → is_absent level c ≡ false → c.level ≡ level → ⊥
not_at top level c less is begins at = false≢true (sym begins ∙ (ap (is_absent level) (null_here top level c less is at) ∙ absent_there level))

above_from : (m n : ℕ) → n ≤ m → (m ≡ n → ⊥) → n + 1 ≤ m
above_from m n h never = elim (cases_lt n m) [ inl more ↦ omega (arith, more) | inr less ↦ absurd (never (omega (arith, h, less))) ]

-- the cells of another field are deeper
there : (level : ℕ) (above before : List Step) (ws : List (List Step)) (p : ℕ) (cells rest : List Cell) → level < highest above → Below above before ws p cells → AtLeast level cells → begins_absent level (cells ++ rest) ≡ false → AtLeast (level + 1) cells
there level above before ws p [] rest less agree deep begins = tt
there level above before [] p (c ∷ cells) rest less agree deep begins = absurd agree
there level above before (w ∷ ws) p (c ∷ cells) rest less agree deep begins =
    let more = up_to_leaf above w 0 in
    let deeper = above_from c.level level deep.0 (not_at (highest (above ++ w)) level c (omega (arith, less, more)) agree.1 begins) in
    all_deep (level + 1) above before (w ∷ ws) p c cells (omega (arith, less)) deeper agree

-- ---- the value is made

-- what is made leaves these cells
abbrev Leaves : {A : Type 0} → List Cell → Result (A × List Cell) Fault → Type 0
Leaves {A} rest r = (v : A) × (r ≡ Ok (v, rest))

optional_made : (n : Bool) (s : Shape) (level : ℕ) (above before : List Step) (p : ℕ) (cells rest : List Cell) → highest above ≡ level + 1 → Below above before (ways s) p cells → AtLeast level cells → begins_absent level (cells ++ rest) ≡ n
    → (AtLeast (highest above) cells → Leaves rest (made s (highest above) (cells ++ rest))) → Leaves rest (field_made true (passed s) (made s) level (cells ++ rest))
optional_made true s level above before p cells rest top agree deep begins inner =
    let are = nulls level above before (ways s) p cells rest (omega (arith, top)) agree begins in
    let pass : passed s level (cells ++ rest) ≡ Ok rest = ap (λ cs. passed s level (cs ++ rest)) are ∙ passed_complete s level rest in
    (null, rw (begins, pass) refl)
optional_made false s level above before p cells rest top agree deep begins inner =
    let below = there level above before (ways s) p cells rest (omega (arith, top)) agree deep begins in
    let given = inner (subst (λ n. AtLeast n cells) (sym top) below) in
    (given.0, rw begins (ap (λ n. made s n (cells ++ rest)) (sym top) ∙ given.1))

field_made_there : (optional : Bool) (s : Shape) (level : ℕ) (above before : List Step) (p : ℕ) (cells rest : List Cell) → highest above ≡ level_inside optional level → Below above before (ways s) p cells → AtLeast level cells
    → (AtLeast (highest above) cells → Leaves rest (made s (highest above) (cells ++ rest))) → Leaves rest (field_made optional (passed s) (made s) level (cells ++ rest))
field_made_there true s level above before p cells rest top agree deep inner = optional_made (begins_absent level (cells ++ rest)) s level above before p cells rest top agree deep refl inner
field_made_there false s level above before p cells rest top agree deep inner =
    let given = inner (subst (λ n. AtLeast n cells) (sym top) deep) in
    (given.0, ap (λ n. made s n (cells ++ rest)) (sym top) ∙ given.1)

leaf_made : (top level : ℕ) (c : Cell) (rest : List Cell) → level ≡ top → c ≡ test_cell top level → Leaves rest (made leaf level (c ∷ rest))
leaf_made top level c rest same is =
    let full : c ≡ (let d : Cell = record { level = level; value = Some (truth true) } in d) = is ∙ (ap (λ n. test_cell n level) (sym same) ∙ rw (level_same level) refl) in
    (truth true, ap (λ d. made leaf level (d ∷ rest)) full ∙ rw (level_same level) refl)

-- ---- the leaves of a field and those behind it

-- the cells of the first leaves, and those behind them
record Parted (ws others : List (List Step)) (p : ℕ) (before : List Step) (cells : List Cell) : Type 0 where
  front : List Cell
  back : List Cell
  last : ℕ
  way : List Step
  are : cells ≡ front ++ back
  first : HeadsAgree p (levels_behind before ws) front
  second : HeadsAgree last (levels_behind way others) back

parted : (ws others : List (List Step)) (p : ℕ) (before : List Step) (cells : List Cell) → HeadsAgree p (levels_behind before (ws ++ others)) cells → Parted ws others p before cells
parted [] others p before cells agree = record { front = []; back = cells; last = p; way = before; are = refl; first = tt; second = agree }
parted (w ∷ ws) others p before [] agree = absurd agree
parted (w ∷ ws) others p before (c ∷ cells) agree =
    let it = parted ws others c.level w cells agree.2 in
    record { front = c ∷ it.front; back = it.back; last = it.last; way = it.way; are = ap (λ cs. c ∷ cs) it.are; first = (agree.0, agree.1, it.first); second = it.second }

deep_both : (n : ℕ) (front back : List Cell) → AtLeast n (front ++ back) → AtLeast n front × AtLeast n back
deep_both n [] back deep = (tt, deep)
deep_both n (c ∷ front) back deep = let both = deep_both n front back deep.1 in ((deep.0, both.0), both.1)

under_twice : (above : List Step) (step : Step) (ws : List (List Step)) → under above (under (step ∷ []) ws) ≡ under (above ++ step ∷ []) ws
under_twice above step [] = refl
under_twice above step (w ∷ ws) = ap (λ x. x ∷ under above (under (step ∷ []) ws)) (sym (append_assoc above (step ∷ []) w)) ∙ ap (λ xs. ((above ++ step ∷ []) ++ w) ∷ xs) (under_twice above step ws)

under_both : (above : List Step) (step : Step) (ws others : List (List Step)) → under above (under (step ∷ []) ws ++ others) ≡ under (above ++ step ∷ []) ws ++ under above others
under_both above step ws others = map-append (λ way. above ++ way) (under (step ∷ []) ws) others ∙ ap (λ xs. xs ++ under above others) (under_twice above step ws)

struct_made : (r : Made (List Value)) (rest : List Cell) → Leaves rest r → Leaves rest (r >>= λ given. Ok (structure (values_of given.0), given.1))
struct_made r rest it = (structure (values_of it.0), rw it.1 refl)

both_made : (name : List ℕ) (r : Made Value) (next : List Cell → Made (List Value)) (back rest : List Cell) → Leaves back r → Leaves rest (next back) → Leaves rest (refused_as (inside name) r >>= λ first. next first.1 >>= λ others. Ok (first.0 ∷ others.0, others.1))
both_made name r next back rest one more = (one.0 ∷ more.0, rw (one.1, more.1) refl)

moved : {A : Type 0} (make : List Cell → Made A) (cells other rest : List Cell) → cells ≡ other → Leaves rest (make other) → Leaves rest (make cells)
moved make cells other rest same it = (it.0, ap make same ∙ it.1)

mutual
  value_made : (s : Shape) (above before : List Step) (p : ℕ) (cells rest : List Cell) → Below above before (ways s) p cells → AtLeast (highest above) cells → Leaves rest (made s (highest above) (cells ++ rest))
  value_made leaf above before p [] rest agree deep = absurd agree
  value_made leaf above before p (c ∷ []) rest agree deep =
      let top : highest (above ++ []) ≡ highest above = ap highest (append-nil above) in
      let at : c.level ≡ highest above = omega (arith, top, deep.0, agree.0.within) in
      leaf_made (highest (above ++ [])) (highest above) c rest (sym top) (agree.1 ∙ ap (test_cell (highest (above ++ []))) at)
  value_made leaf above before p (c ∷ d ∷ cells) rest agree deep = absurd agree.2
  value_made (struct fs) above before p cells rest agree deep =
      struct_made (made_fields fs (highest above) (cells ++ rest)) rest (values_made fs 0 above before p cells rest agree deep)

  values_made : (fs : Fields) (place : ℕ) (above before : List Step) (p : ℕ) (cells rest : List Cell) → Below above before (ways_from place fs) p cells → AtLeast (highest above) cells → Leaves rest (made_fields fs (highest above) (cells ++ rest))
  values_made no_fields place above before p [] rest agree deep = ([], refl)
  values_made no_fields place above before p (c ∷ cells) rest agree deep = absurd agree
  values_made (field name optional s fs) place above before p cells rest agree deep =
      let step : Step = record { place = place; optional = optional } in
      let here = above ++ step ∷ [] in
      let others = ways_from (place + 1) fs in
      let it = parted (under here (ways s)) (under above others) p before cells (subst (λ ws. HeadsAgree p (levels_behind before ws) cells) (under_both above step (ways s) others) agree) in
      let both = deep_both (highest above) it.front it.back (subst (AtLeast (highest above)) it.are deep) in
      let one = field_made_there optional s (highest above) here before p it.front (it.back ++ rest) (one_deeper above step 0) it.first both.0 (λ d. value_made s here before p it.front (it.back ++ rest) it.first d) in
      let more = values_made fs (place + 1) above it.way it.last it.back rest it.second both.1 in
      let split : cells ++ rest ≡ it.front ++ (it.back ++ rest) = ap (λ cs. cs ++ rest) it.are ∙ append_assoc it.front it.back rest in
      moved (made_fields (field name optional s fs) (highest above)) (cells ++ rest) (it.front ++ (it.back ++ rest)) rest split
      (both_made name (field_made optional (passed s) (made s) (highest above) (it.front ++ (it.back ++ rest))) (made_fields fs (highest above)) (it.back ++ rest) rest one more)

deep_none : (cells : List Cell) → AtLeast 0 cells
deep_none [] = tt
deep_none (c ∷ cells) = (omega arith, deep_none cells)

-- cells that agree are those of a row
pub agreeing_made : (shape : Shape) (cells : List Cell) → HeadsAgree 0 (leaf_levels shape) cells → row_tested shape cells ≡ Ok tt
agreeing_made shape cells agree =
    let from : Below [] [] (ways shape) 0 cells = subst (λ ws. HeadsAgree 0 (levels_behind [] ws) cells) (sym (map-id (ways shape))) agree in
    let given = value_made shape [] [] 0 cells [] from (deep_none cells) in
    let all : made shape 0 cells ≡ Ok (given.0, []) = ap (made shape 0) (sym (append-nil cells)) ∙ given.1 in
    rw all refl
