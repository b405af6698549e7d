-- The parts of a framed file are found again from its end.
use Rattle.std.proofs.Common.{◌≡◌, ℕ, ◌+◌, ◌-◌, ◌^◌, ◌<◌, ◌≤◌, true, false, ltb, List, ◌++◌, length, take, drop, Ok, refl, sym, ap, ◌∙◌, append_assoc, arith, length-append}
use Rattle.std.specs.Int.{w32, to_le_bytes, from_le_bytes}
use Rattle.std.proofs.lemmas.Bool.{le-ltb, and_from, not_from_false}
use Rattle.std.proofs.lemmas.List.{take_at, drop_at}
use Rattle.std.proofs.lemmas.Slice.Eq.{bytes_eq-Decides}
use Rattle.std.proofs.lemmas.Nat.{from_le_bytes-to_le_bytes_4}
use Rattle.parquet_footer.specs.Frame.{magic, framed, is_framed, front_of, footer_length, frame_of}

-- What is found in a framed file, from its end: the magic bytes, the bytes before the footer with the magic bytes in front, and the footer by its length.
pub record Parts (bytes pages footer : List ℕ) : Type 0 where
  pub begins : take 4 bytes ≡ magic
  pub front : take (length pages + 4) bytes ≡ magic ++ pages
  pub long : length bytes ≡ length footer + length pages + 12
  pub marked : drop (length bytes - 4) bytes ≡ magic
  pub before : front_of bytes ≡ (magic ++ pages) ++ footer
  pub counted : footer_length bytes ≡ length footer

-- ---- bytes in four parts, of which the last two are four bytes each

record InFour (front footer number end bytes : List ℕ) : Type 0 where
  long : length bytes ≡ length front + length footer + 8
  before : take (length bytes - 8) bytes ≡ front ++ footer
  behind : drop (length bytes - 8) bytes ≡ number ++ end
  last : drop (length bytes - 4) bytes ≡ end

in_four : (front footer number end bytes : List ℕ) → length number ≡ 4 → length end ≡ 4 → bytes ≡ front ++ (footer ++ (number ++ end)) → InFour front footer number end bytes
in_four front footer number end bytes four final whole =
    let both : bytes ≡ (front ++ footer) ++ (number ++ end) = whole ∙ sym (append_assoc front footer (number ++ end)) in
    let three : bytes ≡ ((front ++ footer) ++ number) ++ end = both ∙ sym (append_assoc (front ++ footer) number end) in
    let size : length (front ++ footer) ≡ length front + length footer = length-append front footer in
    let long : length bytes ≡ length front + length footer + 8 = omega (arith, ap length both, length-append (front ++ footer) (number ++ end), size, length-append number end) in
    record {
      long = long;
      before = ap (take (length bytes - 8)) both ∙ take_at (front ++ footer) (number ++ end) (length bytes - 8) (omega (arith, long, size));
      behind = ap (drop (length bytes - 8)) both ∙ drop_at (front ++ footer) (number ++ end) (length bytes - 8) (omega (arith, long, size));
      last = ap (drop (length bytes - 4)) three ∙ drop_at ((front ++ footer) ++ number) end (length bytes - 4) (omega (arith, long, size, length-append (front ++ footer) number));
    }

-- ---- the frame

pub parts_again : (pages footer : List ℕ) → length footer < 2 ^ 32 → Parts (framed pages footer) pages footer
parts_again pages footer fits =
    let number = to_le_bytes w32 (length footer) in
    let front = magic ++ pages in
    let p = in_four front footer number magic (framed pages footer) refl refl refl in
    let size : length front ≡ length pages + 4 = omega (arith, length-append magic pages) in
    record {
      begins = refl;
      front = take_at front (footer ++ (number ++ magic)) (length pages + 4) size;
      long = omega (arith, p.long, size);
      marked = p.last;
      before = p.before;
      counted = ap (λ (t : List ℕ). from_le_bytes w32 (take 4 t)) p.behind ∙ from_le_bytes-to_le_bytes_4 (length footer) fits;
    }

pub frame_again : (bytes pages footer : List ℕ) → Parts bytes pages footer → length bytes ≤ 67108864 → frame_of bytes ≡ Ok (magic ++ pages, footer)
unfolding frame_of
frame_again bytes pages footer p few =
    let small : ltb 67108864 (length bytes) ≡ false = le-ltb _ _ few in
    let long : ltb (length bytes) 12 ≡ false = le-ltb _ _ (omega (arith, p.long)) in
    let marked : is_framed bytes ≡ true = and_from _ _ (not_from_false _ long) (and_from _ _ ((bytes_eq-Decides (take 4 bytes) magic).1 p.begins) ((bytes_eq-Decides (drop (length bytes - 4) bytes) magic).1 p.marked)) in
    let fits : ltb (length bytes - 12) (footer_length bytes) ≡ false = le-ltb _ _ (omega (arith, p.long, p.counted)) in
    let place : length bytes - 8 - footer_length bytes ≡ length pages + 4 = omega (arith, p.long, p.counted) in
    let behind : drop (length pages + 4) (front_of bytes) ≡ footer = rw p.before (drop_at (magic ++ pages) footer (length pages + 4) (omega (arith, length-append magic pages))) in
    rw (small, marked, fits, place, p.front, behind) refl
