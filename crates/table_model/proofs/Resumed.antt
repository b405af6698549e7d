-- Reads that go on where the last one ended hand out the log.
use Rattle.std.proofs.Common.{◌≡◌, ℕ, ◌+◌, ◌-◌, ◌<◌, ◌≤◌, true, List, [], ◌∷◌, ◌++◌, length, take, drop, refl, sym, ap, subst, ◌∙◌, append_assoc, arith, inl, inr}
use Rattle.std.specs.Prelude.{sum_by}
use Rattle.std.proofs.lemmas.List.{append-nil, take_all}
use Rattle.std.proofs.lemmas.List.Sums.{sum_by-cons}
use Rattle.row_core.specs.Rows.{Row}
use Rattle.table_model.specs.Table.{Entry, rows}
use Rattle.table_model.specs.Reads.{Answer, handed, beyond, bad_place, position, is_offset, end, read, IsPart}
use Rattle.table_model.specs.Resumed.{ResumedReads, answer_rows, next_after, with_earlier, reads_on, HandOut, growth, beginning}
use Rattle.table_model.specs.declared.reading.Offset.{Offset}
use Rattle.table_model.proofs.Places.{position_end}
use Rattle.table_model.proofs.Read.{length-rows, as_many}
use Rattle.table_model.proofs.Grown.{place_stays, position_stays, beginning_is_offset}
use Rattle.table_model.proofs.PartLemmas.{read_is_part, no_part, parts_join, part_between, front_of_rows}

-- ---- the table in the end

pub final_grows : (reads : List (ℕ × List Entry)) (offset : Offset) (entries : List Entry) → (reads_on reads offset entries).final ≡ entries ++ growth reads
final_grows [] offset entries = sym (append-nil entries)
final_grows (r ∷ later) offset entries =
    final_grows later (next_after offset (read r.0 offset (entries ++ r.1))) (entries ++ r.1) ∙ append_assoc entries r.1 (growth later)

-- ---- reads of any reader

-- the limits of several reads together
abbrev limits : List (ℕ × List Entry) → ℕ
limits reads = sum_by (λ r. r.0) reads

pub final_grows_any : (reads : List (ℕ × List Entry)) (offset : Offset) (entries : List Entry) (all : ResumedReads) → HandOut reads offset entries all → all.final ≡ entries ++ growth reads
final_grows_any [] offset entries all is = ap (λ (h : ResumedReads). h.final) is ∙ sym (append-nil entries)
final_grows_any (r ∷ later) offset entries all h =
    ap (λ (k : ResumedReads). k.final) h.5 ∙ final_grows_any later h.1 (entries ++ r.1) h.2 h.4 ∙ append_assoc entries r.1 (growth later)

pub handed_out : (reads : List (ℕ × List Entry)) (offset : Offset) (entries : List Entry) (all : ResumedReads) → is_offset offset entries ≡ true → HandOut reads offset entries all
    → IsPart (sum_by (λ r. r.0) reads) offset all.out all.next all.final
handed_out [] offset entries all good is = subst (λ (h : ResumedReads). IsPart 0 offset h.out h.next h.final) (sym is) (no_part 0 offset entries good)
handed_out (r ∷ later) offset entries all good h =
    let table = entries ++ r.1 in
    let rest = h.2 in
    let grown = final_grows_any later h.1 table rest h.4 in
    let others : IsPart (limits later) h.1 rest.out rest.next (table ++ growth later) =
    subst (λ (es : List Entry). IsPart (limits later) h.1 rest.out rest.next es) grown (handed_out later h.1 table rest h.3.ends h.4) in
    let both : IsPart (r.0 + limits later) offset (h.0 ++ rest.out) rest.next rest.final =
    subst (λ (es : List Entry). IsPart (r.0 + limits later) offset (h.0 ++ rest.out) rest.next es) (sym grown) (parts_join r.0 (limits later) offset h.1 rest.next table (growth later) h.0 rest.out h.3 others) in
    subst (λ (k : ResumedReads). IsPart (limits (r ∷ later)) offset k.out k.next k.final) (sym h.5)
    (subst (λ (n : ℕ). IsPart n offset (h.0 ++ rest.out) rest.next rest.final) (sym (sum_by-cons (λ (x : ℕ × List Entry). x.0) r later)) both)

pub any_from_beginning : (reads : List (ℕ × List Entry)) (entries : List Entry) (all : ResumedReads) → HandOut reads beginning entries all → all.out ≡ take (position all.next all.final) (rows all.final)
any_from_beginning reads entries all h = front_of_rows (limits reads) all.next all.final all.out (handed_out reads beginning entries all (beginning_is_offset entries) h)

-- ---- the function's reads are such reads

one_read : (max : ℕ) (offset : Offset) (table : List Entry) (later : List (ℕ × List Entry)) (answer : Answer) → is_offset offset table ≡ true → read max offset table ≡ answer
    → ((p : Offset) → is_offset p table ≡ true → HandOut later p table (reads_on later p table))
    → (out : List Row) × (next : Offset) × (rest : ResumedReads) × IsPart max offset out next table × HandOut later next table rest
    × (with_earlier (answer_rows answer) (reads_on later (next_after offset answer) table) ≡ with_earlier out rest)
one_read max offset table later (handed out next) good is others =
    let part = read_is_part max offset next table out is in (out, next, reads_on later next table, part, others next part.ends, refl)
one_read max offset table later (beyond next) good is others = ([], offset, reads_on later offset table, no_part max offset table good, others offset good, refl)
one_read max offset table later (bad_place version) good is others = ([], offset, reads_on later offset table, no_part max offset table good, others offset good, refl)

pub function_hands_out : (reads : List (ℕ × List Entry)) (offset : Offset) (entries : List Entry) → is_offset offset entries ≡ true → HandOut reads offset entries (reads_on reads offset entries)
function_hands_out [] offset entries good = refl
function_hands_out (r ∷ later) offset entries good =
    let table = entries ++ r.1 in
    let others : (p : Offset) → is_offset p table ≡ true → HandOut later p table (reads_on later p table) = λ p. λ h. function_hands_out later p table h in
    one_read r.0 offset table later (read r.0 offset table) (place_stays offset entries r.1 good) refl others

all_reads : (reads : List (ℕ × List Entry)) (offset : Offset) (entries : List Entry) → is_offset offset entries ≡ true
    → IsPart (limits reads) offset (reads_on reads offset entries).out (reads_on reads offset entries).next (reads_on reads offset entries).final
all_reads reads offset entries good = handed_out reads offset entries (reads_on reads offset entries) good (function_hands_out reads offset entries good)

-- as many rows stand before the first offset as in the beginning
first_position : (reads : List (ℕ × List Entry)) (offset : Offset) (entries : List Entry) → is_offset offset entries ≡ true → position offset (reads_on reads offset entries).final ≡ position offset entries
first_position reads offset entries good = ap (λ (es : List Entry). position offset es) (final_grows reads offset entries) ∙ position_stays offset entries (growth reads) good

-- ---- the law

pub log_between : (reads : List (ℕ × List Entry)) (offset : Offset) (entries : List Entry) → is_offset offset entries ≡ true
    → (reads_on reads offset entries).out ≡ take (position (reads_on reads offset entries).next (reads_on reads offset entries).final - position offset entries) (drop (position offset entries) (rows (reads_on reads offset entries).final))
log_between reads offset entries good =
    let h = reads_on reads offset entries in
    part_between (limits reads) offset h.next h.final h.out (all_reads reads offset entries good)
    ∙ ap (λ (n : ℕ). take (position h.next h.final - n) (drop n (rows h.final))) (first_position reads offset entries good)

pub onward_in_the_log : (reads : List (ℕ × List Entry)) (offset : Offset) (entries : List Entry) → is_offset offset entries ≡ true
    → (position offset entries ≤ position (reads_on reads offset entries).next (reads_on reads offset entries).final) × (is_offset (reads_on reads offset entries).next (reads_on reads offset entries).final ≡ true)
onward_in_the_log reads offset entries good =
    let all = all_reads reads offset entries good in (omega (arith, all.onward, first_position reads offset entries good), all.ends)

pub log_from_beginning : (reads : List (ℕ × List Entry)) (entries : List Entry)
    → (reads_on reads beginning entries).out ≡ take (position (reads_on reads beginning entries).next (reads_on reads beginning entries).final) (rows (reads_on reads beginning entries).final)
log_from_beginning reads entries = any_from_beginning reads entries (reads_on reads beginning entries) (function_hands_out reads beginning entries (beginning_is_offset entries))

-- ---- to the end

to_the_last_row : (reads : List (ℕ × List Entry)) (entries : List Entry) → position (reads_on reads beginning entries).next (reads_on reads beginning entries).final ≡ length (rows (reads_on reads beginning entries).final)
    → (reads_on reads beginning entries).out ≡ rows (reads_on reads beginning entries).final
to_the_last_row reads entries last =
    let h = reads_on reads beginning entries in
    log_from_beginning reads entries ∙ take_all (position h.next h.final) (rows h.final) (omega (arith, last))

pub all_at_end : (reads : List (ℕ × List Entry)) (entries : List Entry) → (reads_on reads beginning entries).next ≡ end (reads_on reads beginning entries).final
    → (reads_on reads beginning entries).out ≡ rows (reads_on reads beginning entries).final
all_at_end reads entries e =
    let h = reads_on reads beginning entries in
    to_the_last_row reads entries (ap (λ (p : Offset). position p h.final) e ∙ position_end h.final ∙ sym (length-rows h.final))

reads_on-append : (reads more : List (ℕ × List Entry)) (offset : Offset) (entries : List Entry)
    → reads_on (reads ++ more) offset entries ≡ with_earlier (reads_on reads offset entries).out (reads_on more (reads_on reads offset entries).next (reads_on reads offset entries).final)
reads_on-append [] more offset entries = refl
reads_on-append (r ∷ later) more offset entries =
    let table = entries ++ r.1 in
    let answer = read r.0 offset table in
    let so_far = reads_on later (next_after offset answer) table in
    let rest = reads_on more so_far.next so_far.final in
    let joined : (answer_rows answer ++ (so_far.out ++ rest.out)) ≡ ((answer_rows answer ++ so_far.out) ++ rest.out) = sym (append_assoc (answer_rows answer) so_far.out rest.out) in
    let front : ResumedReads → ResumedReads = λ h. with_earlier (answer_rows answer) h in
    let with : List Row → ResumedReads = λ rs. record { out = rs; next = rest.next; final = rest.final } in
    ap front (reads_on-append later more (next_after offset answer) table) ∙ ap with joined

-- a last read that had less to hand out than it was asked for
pub all_after_short : (earlier : List (ℕ × List Entry)) (max : ℕ) (more entries : List Entry) (out : List Row) (next : Offset)
    → read max (reads_on earlier beginning entries).next ((reads_on earlier beginning entries).final ++ more) ≡ handed out next → length out < max
    → (reads_on (earlier ++ (max, more) ∷ []) beginning entries).out ≡ rows (reads_on (earlier ++ (max, more) ∷ []) beginning entries).final
all_after_short earlier max more entries out next is short =
    let so_far = reads_on earlier beginning entries in
    let table = so_far.final ++ more in
    let h = reads_on (earlier ++ (max, more) ∷ []) beginning entries in
    let joined = reads_on-append earlier ((max, more) ∷ []) beginning entries in
    let ends : h.next ≡ next = ap (λ (k : ResumedReads). k.next) joined ∙ ap (λ (a : Answer). next_after so_far.next a) is in
    let grown : h.final ≡ table = ap (λ (k : ResumedReads). k.final) joined in
    let last : position next table ≡ length (rows table) = elim (as_many max so_far.next next table out is) [
      | inl full ↦ absurd (omega (arith, full, short))
      | inr done ↦ done
    ] in
    let reached : position h.next h.final ≡ length (rows h.final) =
    ap (λ (p : Offset). position p h.final) ends ∙ ap (λ (es : List Entry). position next es) grown ∙ last ∙ ap (λ (es : List Entry). length (rows es)) (sym grown) in
    to_the_last_row (earlier ++ (max, more) ∷ []) entries reached
