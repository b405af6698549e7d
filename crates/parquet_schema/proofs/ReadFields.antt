-- Fields that are read one after another.
use Rattle.std.proofs.Common.{◌≡◌, ℕ, suc, ◌+◌, ◌-◌, ◌<◌, ◌≤◌, List, [], ◌∷◌, ◌++◌, Option, Some, None, option_map, Err, refl, sym, ap, ◌∙◌, append_assoc, arith}
use Rattle.std.proofs.lemmas.List.{append-nil}
use Rattle.outcomes.specs.Options.{◌>>=◌}
use Rattle.parquet_footer.specs.Metadata.{SchemaElement}
use Rattle.parquet_schema.specs.FileTree.{FileField}
use Rattle.parquet_schema.specs.Outcome.{Takes}
use Rattle.parquet_schema.specs.Reading.{field_at, fields_at}
use Rattle.parquet_footer.specs.declared.fault.FileError.{FileError}
use Rattle.parquet_footer.specs.declared.fault.FileError.TheVariants as errors

-- what is read, behind these fields
abbrev pub behind : List FileField → Option (List FileField × List SchemaElement) → Option (List FileField × List SchemaElement)
behind front read = option_map (λ r. (front ++ r.0, r.1)) read

-- one field and the others
abbrev pub one_and : FileField × List SchemaElement → Option (List FileField × List SchemaElement) → Option (List FileField × List SchemaElement)
one_and first others = others >>= λ r. Some (first.0 ∷ r.0, r.1)

pub read_more : (deep count : ℕ) (es : List SchemaElement) → fields_at (suc deep) (suc count) es ≡ (field_at (fields_at deep) es >>= λ first. one_and first (fields_at (suc deep) count first.1))
unfolding fields_at
read_more deep count es = refl

pub read_none : (deep : ℕ) (es : List SchemaElement) → fields_at (suc deep) 0 es ≡ Some ([], es)
unfolding fields_at
read_none deep es = refl

behind_one : (front : List FileField) (f : FileField) (left : List SchemaElement) (rest : Option (List FileField × List SchemaElement)) → behind front (one_and (f, left) rest) ≡ behind (front ++ f ∷ []) rest
behind_one front f left None = refl
behind_one front f left (Some r) = ap (λ (fs : List FileField). Some (fs, r.1)) (sym (append_assoc front (f ∷ []) r.0))

behind_nothing : (rest : Option (List FileField × List SchemaElement)) → behind [] rest ≡ rest
behind_nothing None = refl
behind_nothing (Some r) = refl

turn : (deep counter count : ℕ) → 0 < deep → counter < count → (es : List SchemaElement) → fields_at deep (count - counter) es ≡ (field_at (fields_at (deep - 1)) es >>= λ first. one_and first (fields_at deep (count - (counter + 1)) first.1))
turn deep counter count here h es =
    let d : deep ≡ suc (deep - 1) = omega arith in
    let n : count - counter ≡ suc (count - (counter + 1)) = omega arith in
    ap (λ k. fields_at k (count - counter) es) d ∙ (ap (λ k. fields_at (suc (deep - 1)) k es) n ∙ (read_more (deep - 1) (count - (counter + 1)) es ∙ ap (λ k. field_at (fields_at (deep - 1)) es >>= λ first. one_and first (fields_at k (count - (counter + 1)) first.1)) (sym d)))

-- one more field is read
pub one_read : (deep counter count : ℕ) (front : List FileField) (f : FileField) (es left : List SchemaElement) (total : Option (List FileField × List SchemaElement)) → 0 < deep → counter < count → field_at (fields_at (deep - 1)) es ≡ Some (f, left)
    → behind front (fields_at deep (count - counter) es) ≡ total → behind (front ++ f ∷ []) (fields_at deep (count - (counter + 1)) left) ≡ total
one_read deep counter count front f es left total here h read so_far =
    let one : fields_at deep (count - counter) es ≡ one_and (f, left) (fields_at deep (count - (counter + 1)) left) = turn deep counter count here h es ∙ rw read refl in
    sym (ap (behind front) one ∙ behind_one front f left (fields_at deep (count - (counter + 1)) left)) ∙ so_far

-- one field is refused
pub one_refused : {X : Type 0} (view : X → FileField) {Y : Type 0} (views : Y → List FileField) (e : FileError) (deep counter count : ℕ) (front : List FileField) (es left left_then : List SchemaElement) (total : Option (List FileField × List SchemaElement)) → 0 < deep → counter < count
    → Takes view (Err e) (field_at (fields_at (deep - 1)) es) left → behind front (fields_at deep (count - counter) es) ≡ total → Takes views (Err e) total left_then
one_refused view views errors.Memory deep counter count front es left left_then total here h refused so_far = tt
one_refused view views (errors.Fault fault) deep counter count front es left left_then total here h refused so_far =
    let one : fields_at deep (count - counter) es ≡ None = turn deep counter count here h es ∙ rw (refused.1) refl in
    (refused.0, sym so_far ∙ ap (behind front) one)

-- all fields are read
pub all_read_in : (deep counter count : ℕ) (front : List FileField) (es : List SchemaElement) (total : Option (List FileField × List SchemaElement)) → 0 < deep → count ≤ counter → behind front (fields_at deep (count - counter) es) ≡ total → total ≡ Some (front, es)
all_read_in deep counter count front es total here h so_far =
    let d : deep ≡ suc (deep - 1) = omega arith in
    let n : count - counter ≡ 0 = omega arith in
    let end : fields_at deep (count - counter) es ≡ Some ([], es) = ap (λ k. fields_at k (count - counter) es) d ∙ (ap (λ k. fields_at (suc (deep - 1)) k es) n ∙ read_none (deep - 1) es) in
    sym so_far ∙ (ap (behind front) end ∙ ap (λ (fs : List FileField). Some (fs, es)) (append-nil front))
