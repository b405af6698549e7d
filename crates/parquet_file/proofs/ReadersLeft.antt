-- Readers whose columns are left, one after another: they are opened, filled, and give parts.
use Rattle.std.proofs.Common.{◌≡◌, ℕ, zero, suc, ◌+◌, ◌<◌, ◌≤◌, min, length, get_or, take, drop, set, List, [], ◌∷◌, ◌++◌, map, Result, Ok, Err, refl, sym, ap, subst, ◌∙◌, append_assoc, arith}
use Rattle.std.specs.List.{AllByRecursion}
use Rattle.std.proofs.lemmas.List.{append-nil, drop-set-lt, drop_all, drop_more, take_all, take_more_set}
use Rattle.std.proofs.lemmas.List.Elements.{All-from_recursion, All-push, recursion_from_All}
use Rattle.outcomes.specs.Results.{◌>>=◌}
use Rattle.thrift_core.specs.Fields.{each}
use Rattle.row_core.specs.declared.value.Value.{Value}
use Rattle.shred.specs.Columns.{Column}
use Rattle.shred.specs.Parts.{cut_off}
use Rattle.shred.specs.declared.columns.ColumnPart.{ColumnPart}
use Rattle.row_assembly.specs.Parts.{fronts, rests}
use Rattle.parquet_footer.specs.declared.fault.FileError.{FileError}
use Rattle.parquet_footer.specs.declared.fault.FileError.TheVariants as errors
use Rattle.parquet_footer.specs.declared.fault.FileFault.{FileFault}
use Rattle.parquet_footer.proofs.Callers.{bind_ok, ok_is}
use Rattle.parquet_pages.specs.Held.{AreLeft, Fills}
use Rattle.page_cells.specs.Outcome.{FindsWhere}
use Rattle.parquet_pages.specs.Pages.{Leaf, highest}
use Rattle.parquet_pages.specs.Parts.{IsPartOf, cut_cells}
use Rattle.parquet_pages.specs.declared.reader.ColumnReader.{ColumnReader}
use Rattle.parquet_schema.specs.Leaves.{LeafIn}
use Rattle.parquet_file.specs.File.{leaf_of}
use Rattle.parquet_file.specs.Internal.{levels_of, AreAllLeft, AreAtHand, ArePartsOf, HasLevels}

-- A reader that can't be filled is out of memory.
pub not_filled : (l : Leaf) (c : Column) (e : FileError) (r : ColumnReader) → Fills l c (Err e) r → e ≡ errors.Memory
not_filled l c errors.Memory r h = refl
not_filled l c (errors.Fault fault) r h = absurd h

-- what finds something fails only for want of memory
pub only_memory : {X : Type 0} (P : X → Type 0) (e : FileError) → FindsWhere P (Err e) → e ≡ errors.Memory
only_memory P errors.Memory h = refl
only_memory P (errors.Fault fault) h = absurd h

-- what is read is no fault
pub never_both : {A E : Type 0} (read : Result A E) (x : A) (e : E) → read ≡ Ok x → read ≡ Err e → ⊥
never_both read x e given refused = let is : Ok x ≡ Err e = sym given ∙ refused in absurd cc

-- ---- readers are opened

left_push : (ls : List LeafIn) (rs : List ColumnReader) (cs : List Column) (l : LeafIn) (r : ColumnReader) (c : Column)
    → AreAllLeft ls rs cs → AreLeft (leaf_of l) r c
    → AreAllLeft (ls ++ (l ∷ [])) (rs ++ (r ∷ [])) (cs ++ (c ∷ []))
left_push [] [] [] l r c h one = (one, tt)
left_push [] [] (d ∷ cs) l r c h one = absurd h
left_push [] (q ∷ rs) cs l r c h one = absurd h
left_push (k ∷ ls) [] cs l r c h one = absurd h
left_push (k ∷ ls) (q ∷ rs) [] l r c h one = absurd h
left_push (k ∷ ls) (q ∷ rs) (d ∷ cs) l r c h one = (h.0, left_push ls rs cs l r c h.1 one)

-- The readers so far have the columns of the leaves so far, and the rest is read.
pub record OpenSoFar (leaves : List LeafIn) (rs : List ColumnReader) (rest : Result (List Column) FileFault)
    (columns : List Column) : Type 0 where
  pub done : List Column
  pub behind : List Column
  pub all : columns ≡ done ++ behind
  pub read : rest ≡ Ok behind
  pub left : AreAllLeft leaves rs done

-- the column of the next leaf, whose reader may be put behind the others
pub record OpenNext (leaves : List LeafIn) (rs : List ColumnReader) (l : LeafIn) (here : Result Column FileFault)
    (rest : Result (List Column) FileFault) (columns : List Column) : Type 0 where
  pub column : Column
  pub read : here ≡ Ok column
  pub go : (r : ColumnReader) → AreLeft (leaf_of l) r column
      → OpenSoFar (leaves ++ (l ∷ [])) (rs ++ (r ∷ [])) rest columns

pub open_next : (leaves : List LeafIn) (rs : List ColumnReader) (l : LeafIn) (here : Result Column FileFault)
    (whole rest : Result (List Column) FileFault) (columns : List Column)
    → whole ≡ (here >>= λ y. rest >>= λ ys. Ok (y ∷ ys)) → OpenSoFar leaves rs whole columns
    → OpenNext leaves rs l here rest columns
open_next leaves rs l here whole rest columns is k =
    let a = bind_ok here (λ y. rest >>= λ ys. Ok (y ∷ ys)) k.behind (sym is ∙ k.read) in
    let b = bind_ok rest (λ ys. Ok (a.0 ∷ ys)) k.behind a.2 in
    let more : a.0 ∷ b.0 ≡ k.behind = ok_is {E = FileFault} (a.0 ∷ b.0) k.behind b.2 in
    record {
      column = a.0;
      read = a.1;
      go = λ r one. record {
        done = k.done ++ (a.0 ∷ []);
        behind = b.0;
        all = k.all ∙ (ap (λ xs. k.done ++ xs) (sym more) ∙ sym (append_assoc k.done (a.0 ∷ []) b.0));
        read = b.1;
        left = left_push leaves rs k.done l r a.0 k.left one;
      };
    }

-- all are open
open_end : (leaves : List LeafIn) (rs : List ColumnReader) (rest : Result (List Column) FileFault)
    (columns : List Column) → rest ≡ Ok [] → OpenSoFar leaves rs rest columns → AreAllLeft leaves rs columns
open_end leaves rs rest columns none k =
    let nothing : k.behind ≡ [] = ok_is {E = FileFault} k.behind [] (sym k.read ∙ none) in
    let all : k.done ≡ columns = sym (k.all ∙ (ap (λ xs. k.done ++ xs) nothing ∙ append-nil k.done)) in
    subst (AreAllLeft leaves rs) all k.left

pub open_all : {L : Type 0} (view : L → LeafIn) (ls : List L) (i : ℕ) (rs : List ColumnReader)
    (read : LeafIn → Result Column FileFault) (columns : List Column) → length ls ≤ i
    → OpenSoFar (map view (take i ls)) rs (each read (map view (drop i ls))) columns
    → AreAllLeft (map view ls) rs columns
open_all view ls i rs read columns ended k =
    let none : map view (drop i ls) ≡ [] = ap (map view) (drop_all i ls ended) in
    let whole : map view (take i ls) ≡ map view ls = ap (map view) (take_all i ls ended) in
    subst (λ ks. AreAllLeft ks rs columns) whole
    (open_end (map view (take i ls)) rs (each read (map view (drop i ls))) columns (ap (each read) none) k)

-- ---- readers are filled

-- the leaf and the column of a reader, in whose place another one may be put that has the same column left
pub record Place (leaves : List LeafIn) (rs : List ColumnReader) (cs : List Column) (i : ℕ) (r : ColumnReader)
    : Type 0 where
  pub leaf : LeafIn
  pub column : Column
  pub left : AreLeft (leaf_of leaf) r column
  pub put : (new : ColumnReader) → AreLeft (leaf_of leaf) new column → AreAllLeft leaves (set rs i new) cs
  pub levels : AllByRecursion HasLevels cs → HasLevels column

pub place_at : (leaves : List LeafIn) (rs : List ColumnReader) (cs : List Column) (i : ℕ) (r : ColumnReader)
    → i < length rs → AreAllLeft leaves rs cs → Place leaves rs cs i (get_or rs i r)
place_at [] [] [] i r lt h = absurd (omega (arith, lt))
place_at [] [] (c ∷ cs) i r lt h = absurd h
place_at [] (q ∷ rs) cs i r lt h = absurd h
place_at (l ∷ ls) [] cs i r lt h = absurd h
place_at (l ∷ ls) (q ∷ rs) [] i r lt h = absurd h
place_at (l ∷ ls) (q ∷ rs) (c ∷ cs) zero r lt h = record {
  leaf = l;
  column = c;
  left = h.0;
  put = λ new k. (k, h.1);
  levels = λ all. all.0;
}
place_at (l ∷ ls) (q ∷ rs) (c ∷ cs) (suc i) r lt h =
    let p = place_at ls rs cs i r (omega (arith, lt)) h.1 in
    record {
      leaf = p.leaf;
      column = p.column;
      left = p.left;
      put = λ new k. (h.0, p.put new k);
      levels = λ all. p.levels all.1;
    }

fewer_at_hand : (fewer rows : ℕ) (rs : List ColumnReader) → fewer ≤ rows → AreAtHand rows rs → AreAtHand fewer rs
fewer_at_hand fewer rows rs less h = λ k d lt. let at = h k d lt in omega (arith, at, less)

-- one more reader has its cells at hand
pub at_hand_on : (rows count fewer : ℕ) (rs : List ColumnReader) (i : ℕ) (r : ColumnReader) → i < length rs
    → fewer ≡ min rows count → count ≡ r.count → AreAtHand rows (take i rs)
    → AreAtHand fewer (take (i + 1) (set rs i r))
at_hand_on rows count fewer rs i r lt is counted h =
    let less : fewer ≤ rows = omega (arith, is) in
    let mine : fewer ≤ r.count = omega (arith, is, counted) in
    rw (take_more_set rs i r lt)
    (All-push (λ (x : ColumnReader). fewer ≤ x.count) (take i rs) r (fewer_at_hand fewer rows (take i rs) less h) mine)

-- a column with levels has cells at hand
pub some_at_hand : (count : ℕ) (c : Column) → (count ≡ 0 → c.levels ≡ []) → HasLevels c → 0 < count
some_at_hand zero c none has = let long = ap length (none refl) in absurd (omega (arith, long, has))
some_at_hand (suc n) c none has = omega arith

-- ---- parts are taken

-- Of each leaf's column this was taken, and the column behind it is left.
abbrev pub AreTaken : (first most count : ℕ) → List LeafIn → List (ColumnPart Value) → List ColumnReader → List Column
    → Type 0
AreTaken first most count [] [] [] [] = Unit {0}
AreTaken first most count (l ∷ ls) (p ∷ ps) (r ∷ rs) (c ∷ cs) =
    IsPartOf (leaf_of l) first most p (cut_cells (leaf_of l) 0 count c)
    × AreLeft (leaf_of l) r (cut_off count (highest (leaf_of l)) c) × AreTaken first most count ls ps rs cs
AreTaken first most count _ _ _ _ = ⊥

taken_push : (first most count : ℕ) (ls : List LeafIn) (ps : List (ColumnPart Value)) (rs : List ColumnReader)
    (cs : List Column) (l : LeafIn) (p : ColumnPart Value) (r : ColumnReader) (c : Column)
    → AreTaken first most count ls ps rs cs → IsPartOf (leaf_of l) first most p (cut_cells (leaf_of l) 0 count c)
    → AreLeft (leaf_of l) r (cut_off count (highest (leaf_of l)) c)
    → AreTaken first most count (ls ++ (l ∷ [])) (ps ++ (p ∷ [])) (rs ++ (r ∷ [])) (cs ++ (c ∷ []))
taken_push first most count [] [] [] [] l p r c h part left = (part, left, tt)
taken_push first most count [] [] [] (d ∷ cs) l p r c h part left = absurd h
taken_push first most count [] [] (s ∷ rs) cs l p r c h part left = absurd h
taken_push first most count [] (q ∷ ps) rs cs l p r c h part left = absurd h
taken_push first most count (k ∷ ls) [] rs cs l p r c h part left = absurd h
taken_push first most count (k ∷ ls) (q ∷ ps) [] cs l p r c h part left = absurd h
taken_push first most count (k ∷ ls) (q ∷ ps) (s ∷ rs) [] l p r c h part left = absurd h
taken_push first most count (k ∷ ls) (q ∷ ps) (s ∷ rs) (d ∷ cs) l p r c h part left =
    (h.0, h.1, taken_push first most count ls ps rs cs l p r c h.2 part left)

taken_parts : (first most count : ℕ) (ls : List LeafIn) (ps : List (ColumnPart Value)) (rs : List ColumnReader)
    (cs : List Column) → AreTaken first most count ls ps rs cs
    → ArePartsOf first most ls ps (fronts count (levels_of ls) cs) × AreAllLeft ls rs (rests count (levels_of ls) cs)
taken_parts first most count [] [] [] [] h = (tt, tt)
taken_parts first most count [] [] [] (d ∷ cs) h = absurd h
taken_parts first most count [] [] (s ∷ rs) cs h = absurd h
taken_parts first most count [] (q ∷ ps) rs cs h = absurd h
taken_parts first most count (k ∷ ls) [] rs cs h = absurd h
taken_parts first most count (k ∷ ls) (q ∷ ps) [] cs h = absurd h
taken_parts first most count (k ∷ ls) (q ∷ ps) (s ∷ rs) [] h = absurd h
taken_parts first most count (k ∷ ls) (q ∷ ps) (s ∷ rs) (d ∷ cs) h =
    let others = taken_parts first most count ls ps rs cs h.2 in
    ((h.0, others.0), (h.1, others.1))

-- The readers in front have given their parts, and those behind have their cells at hand.
pub record TakenSoFar (first most count : ℕ) (leaves : List LeafIn) (given : List Column)
    (parts : List (ColumnPart Value)) (front behind : List ColumnReader) : Type 0 where
  pub done : List LeafIn
  pub others : List LeafIn
  pub taken : List Column
  pub left : List Column
  pub all_leaves : leaves ≡ done ++ others
  pub all_given : given ≡ taken ++ left
  pub are : AreTaken first most count done parts front taken
  pub whole : AreAllLeft others behind left
  pub at_hand : AreAtHand count behind

pub none_taken : (first most count : ℕ) (leaves : List LeafIn) (given : List Column) (rs : List ColumnReader)
    → AreAllLeft leaves rs given → AreAtHand count rs → TakenSoFar first most count leaves given [] [] rs
none_taken first most count leaves given rs h at = record {
  done = [];
  others = leaves;
  taken = [];
  left = given;
  all_leaves = refl;
  all_given = refl;
  are = tt;
  whole = h;
  at_hand = at;
}

-- the leaf and the column of the next reader, whose part may be put behind the others
pub record TakeNext (first most count : ℕ) (leaves : List LeafIn) (given : List Column)
    (parts : List (ColumnPart Value)) (front : List ColumnReader) (r : ColumnReader) (behind : List ColumnReader)
    : Type 0 where
  pub leaf : LeafIn
  pub column : Column
  pub left : AreLeft (leaf_of leaf) r column
  pub at_hand : count ≤ r.count
  pub go : (p : ColumnPart Value) (new : ColumnReader)
      → IsPartOf (leaf_of leaf) first most p (cut_cells (leaf_of leaf) 0 count column)
      → AreLeft (leaf_of leaf) new (cut_off count (highest (leaf_of leaf)) column)
      → TakenSoFar first most count leaves given (parts ++ (p ∷ [])) (front ++ (new ∷ [])) behind

take_from : (first most count : ℕ) (leaves : List LeafIn) (given : List Column) (parts : List (ColumnPart Value))
    (front : List ColumnReader) (r : ColumnReader) (behind : List ColumnReader) (done others : List LeafIn)
    (taken left : List Column) → leaves ≡ done ++ others → given ≡ taken ++ left
    → AreTaken first most count done parts front taken → AreAllLeft others (r ∷ behind) left
    → AreAtHand count (r ∷ behind) → TakeNext first most count leaves given parts front r behind
take_from first most count leaves given parts front r behind done [] taken left e f are h at = absurd h
take_from first most count leaves given parts front r behind done (l ∷ ls) taken [] e f are h at = absurd h
take_from first most count leaves given parts front r behind done (l ∷ ls) taken (c ∷ cs) e f are h at =
    let all = recursion_from_All (λ (x : ColumnReader). count ≤ x.count) (r ∷ behind) at in
    record {
      leaf = l;
      column = c;
      left = h.0;
      at_hand = all.0;
      go = λ p new part rest. record {
        done = done ++ (l ∷ []);
        others = ls;
        taken = taken ++ (c ∷ []);
        left = cs;
        all_leaves = e ∙ sym (append_assoc done (l ∷ []) ls);
        all_given = f ∙ sym (append_assoc taken (c ∷ []) cs);
        are = taken_push first most count done parts front taken l p new c are part rest;
        whole = h.1;
        at_hand = All-from_recursion (λ (x : ColumnReader). count ≤ x.count) behind all.1;
      };
    }

pub take_next : (first most count : ℕ) (leaves : List LeafIn) (given : List Column) (parts : List (ColumnPart Value))
    (rs : List ColumnReader) (i : ℕ) (r : ColumnReader) → i < length rs
    → TakenSoFar first most count leaves given parts (take i rs) (drop i rs)
    → TakeNext first most count leaves given parts (take i rs) (get_or rs i r) (drop (i + 1) rs)
take_next first most count leaves given parts rs i r lt k =
    let here = drop_more rs i r lt in
    take_from first most count leaves given parts (take i rs) (get_or rs i r) (drop (i + 1) rs) k.done k.others k.taken
    k.left k.all_leaves k.all_given k.are
    (subst (λ (xs : List ColumnReader). AreAllLeft k.others xs k.left) here k.whole)
    (subst (AreAtHand count) here k.at_hand)

-- the next reader is put where it was
pub taken_put : (first most count : ℕ) (leaves : List LeafIn) (given : List Column) (parts : List (ColumnPart Value))
    (rs : List ColumnReader) (i : ℕ) (new : ColumnReader) → i < length rs
    → TakenSoFar first most count leaves given parts (take i rs ++ (new ∷ [])) (drop (i + 1) rs)
    → TakenSoFar first most count leaves given parts (take (i + 1) (set rs i new)) (drop (i + 1) (set rs i new))
taken_put first most count leaves given parts rs i new lt k =
    let past : i < i + 1 = omega arith in
    rw (take_more_set rs i new lt, drop-set-lt (i + 1) rs i new past) k

taken_end : (first most count : ℕ) (leaves : List LeafIn) (given : List Column) (parts : List (ColumnPart Value))
    (front : List ColumnReader) (done others : List LeafIn) (taken left : List Column) → leaves ≡ done ++ others
    → given ≡ taken ++ left → AreTaken first most count done parts front taken → AreAllLeft others [] left
    → AreTaken first most count leaves parts front given
taken_end first most count leaves given parts front done [] taken [] e f are h =
    rw (e ∙ append-nil done, f ∙ append-nil taken) are
taken_end first most count leaves given parts front done [] taken (c ∷ cs) e f are h = absurd h
taken_end first most count leaves given parts front done (l ∷ ls) taken left e f are h = absurd h

-- all are taken
pub all_taken : (first most count : ℕ) (leaves : List LeafIn) (given : List Column) (parts : List (ColumnPart Value))
    (rs : List ColumnReader) (i : ℕ) → length rs ≤ i
    → TakenSoFar first most count leaves given parts (take i rs) (drop i rs)
    → ArePartsOf first most leaves parts (fronts count (levels_of leaves) given)
    × AreAllLeft leaves rs (rests count (levels_of leaves) given)
all_taken first most count leaves given parts rs i most_at k =
    let front : take i rs ≡ rs = take_all i rs most_at in
    let behind : drop i rs ≡ [] = drop_all i rs most_at in
    let ended = taken_end first most count leaves given parts (take i rs) k.done k.others k.taken k.left k.all_leaves
    k.all_given k.are (subst (λ (xs : List ColumnReader). AreAllLeft k.others xs k.left) behind k.whole) in
    taken_parts first most count leaves parts rs given
    (subst (λ (xs : List ColumnReader). AreTaken first most count leaves parts xs given) front ended)
