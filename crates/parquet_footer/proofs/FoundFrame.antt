-- The two parts that are found in a file frame it.
use Rattle.std.proofs.Common.{◌≡◌, ℕ, ◌+◌, ◌-◌, ◌^◌, ◌<◌, ◌≤◌, not, ◌&&◌, ltb, cond, List, ◌++◌, length, take, drop, Ok, Err, sym, ap, subst, ◌∙◌, append_assoc, arith, length-take, length-drop}
use Rattle.std.specs.Int.{w32, to_le_bytes}
use Rattle.std.specs.Str.{bytes_eq}
use Rattle.std.proofs.lemmas.Bool.{ltb-false, and_parts, not-false, not-true}
use Rattle.std.proofs.lemmas.List.{take-append-drop, take-take, drop-drop}
use Rattle.std.proofs.lemmas.Nat.{le_bytes_4}
use Rattle.std.proofs.lemmas.Slice.Eq.{bytes_eq-Decides}
use Rattle.outcomes.specs.Bytes.{IsBytes}
use Rattle.lake_bytes.specs.declared.fault.ByteFault.TheVariants.{Short}
use Rattle.thrift_values.specs.declared.fault.ThriftFault.TheVariants.{Bytes}
use Rattle.parquet_footer.specs.Frame.{magic, framed, is_framed, front_of, footer_length, frame_of}
use Rattle.parquet_footer.specs.declared.fault.FileFault.TheVariants.{BadMagic, BadFooter, TooLarge}
use Rattle.parquet_footer.proofs.FoundSteps.{ok_is, passed, bytes_before, bytes_behind, four_below}

pub record IsFramed (bytes front footer : List ℕ) : Type 0 where
  pub pages : List ℕ
  pub begins : front ≡ magic ++ pages
  pub frame : bytes ≡ framed pages footer
  pub length_fits : length footer < 2 ^ 32
  pub front_fits : IsBytes front
  pub footer_fits : IsBytes footer

-- the bytes in five parts, by the footer's length
parts_found : (bytes : List ℕ) → IsBytes bytes → 12 ≤ length bytes → take 4 bytes ≡ magic → drop (length bytes - 4) bytes ≡ magic → footer_length bytes ≤ length bytes - 12
    → IsFramed bytes (take (length bytes - 8 - footer_length bytes) bytes) (drop (length bytes - 8 - footer_length bytes) (front_of bytes))
parts_found bytes fits long begins ends inside =
    let place = length bytes - 8 - footer_length bytes in
    let front = take place bytes in
    let before = front_of bytes in
    let footer = drop place before in
    let behind = drop (length bytes - 8) bytes in
    let number = take 4 behind in
    let in_front : 4 ≤ place = omega arith in
    let first : take 4 front ≡ magic = take-take 4 place bytes in_front ∙ begins in
    let pages : magic ++ drop 4 front ≡ front = ap (λ (t : List ℕ). t ++ drop 4 front) (sym first) ∙ take-append-drop 4 front in
    let up_to : take place before ≡ front = take-take place (length bytes - 8) bytes (omega arith) in
    let both : front ++ footer ≡ before = ap (λ (t : List ℕ). t ++ footer) (sym up_to) ∙ take-append-drop place before in
    let last : length bytes - 8 + 4 ≡ length bytes - 4 = omega arith in
    let end : drop 4 behind ≡ magic = drop-drop 4 (length bytes - 8) bytes ∙ ap (λ (n : ℕ). drop n bytes) last ∙ ends in
    let marked : number ++ magic ≡ behind = ap (λ (t : List ℕ). number ++ t) (sym end) ∙ take-append-drop 4 behind in
    let size : length footer ≡ footer_length bytes = omega (arith, inside, length-drop place before, length-take (length bytes - 8) bytes) in
    let number_fits : IsBytes number = bytes_before 4 behind (bytes_behind (length bytes - 8) bytes fits) in
    let four : length number ≡ 4 = omega (arith, length-take 4 behind, length-drop (length bytes - 8) bytes) in
    let stated : to_le_bytes w32 (length footer) ≡ number = le_bytes_4 number (length footer) four number_fits size in
    let whole : (front ++ footer) ++ (number ++ magic) ≡ bytes = ap (λ (t : List ℕ). t ++ (number ++ magic)) both ∙ ap (λ (t : List ℕ). before ++ t) marked ∙ take-append-drop (length bytes - 8) bytes in
    let counted : front ++ (footer ++ (to_le_bytes w32 (length footer) ++ magic)) ≡ bytes = ap (λ (t : List ℕ). front ++ (footer ++ (t ++ magic))) stated ∙ sym (append_assoc front footer (number ++ magic)) ∙ whole in
    record {
      pages = drop 4 front;
      begins = sym pages;
      frame = sym (ap (λ (t : List ℕ). t ++ (footer ++ (to_le_bytes w32 (length footer) ++ magic))) pages ∙ counted);
      length_fits = rw size (four_below number number_fits);
      front_fits = bytes_before place bytes fits;
      footer_fits = bytes_behind place before (bytes_before (length bytes - 8) bytes fits);
    }

pub frame_found : (bytes front footer : List ℕ) → IsBytes bytes → frame_of bytes ≡ Ok (front, footer) → IsFramed bytes front footer
unfolding frame_of
frame_found bytes front footer fits e =
    let place = length bytes - 8 - footer_length bytes in
    let parts : List ℕ × List ℕ = (take place bytes, drop place (front_of bytes)) in
    let second = cond (ltb (length bytes - 12) (footer_length bytes)) (Err (BadFooter (Bytes Short))) (Ok parts) in
    let first = cond (not (is_framed bytes)) (Err BadMagic) second in
    let a = passed (ltb 67108864 (length bytes)) TooLarge first (front, footer) e in
    let b = passed (not (is_framed bytes)) BadMagic second (front, footer) a.1 in
    let c = passed (ltb (length bytes - 12) (footer_length bytes)) (BadFooter (Bytes Short)) (Ok parts) (front, footer) b.1 in
    let marks = bytes_eq (take 4 bytes) magic && bytes_eq (drop (length bytes - 4) bytes) magic in
    let m = and_parts (not (ltb (length bytes) 12)) marks (not-false _ b.0) in
    let n = and_parts (bytes_eq (take 4 bytes) magic) (bytes_eq (drop (length bytes - 4) bytes) magic) m.1 in
    let long : 12 ≤ length bytes = ltb-false (length bytes) 12 (not-true _ m.0) in
    let inside : footer_length bytes ≤ length bytes - 12 = ltb-false (length bytes - 12) (footer_length bytes) c.0 in
    subst (λ (p : List ℕ × List ℕ). IsFramed bytes p.0 p.1) (ok_is parts (front, footer) c.1)
    (parts_found bytes fits long ((bytes_eq-Decides (take 4 bytes) magic).0 n.0) ((bytes_eq-Decides (drop (length bytes - 4) bytes) magic).0 n.1) inside)

pub size_kept : (bytes : List ℕ) (parts : List ℕ × List ℕ) → frame_of bytes ≡ Ok parts → length bytes ≤ 67108864
unfolding frame_of
size_kept bytes parts e = ltb-false 67108864 (length bytes) (passed (ltb 67108864 (length bytes)) TooLarge _ parts e).0
