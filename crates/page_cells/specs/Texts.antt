-- What is asked of the texts and the bytes among values.
use Rattle.std.specs.Prelude.{length, Bool, true, false, nat_lt}
use Rattle.std.specs.Str.{is_utf8}
use Rattle.row_core.specs.Conforms.{max_bytes}
use Rattle.row_core.specs.Rows.{Value, text, bytes}

-- a text is UTF-8
abbrev pub is_proper : Value → Bool
is_proper (text s) = is_utf8 s
is_proper v = true

-- a text or bytes of over 1 MiB
abbrev pub is_too_long : Value → Bool
is_too_long (text s) = nat_lt max_bytes (length s)
is_too_long (bytes s) = nat_lt max_bytes (length s)
is_too_long v = false
