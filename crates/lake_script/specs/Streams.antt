-- What an input has left, and what an output holds.
use Rattle.std.specs.Prelude.{◌≡◌, ◌++◌, ℕ, Bool, List, Option, None, Some, ⊤}
use Rattle.std.specs.Io.KnownBytes.{append_known, Consumes}
use Rattle.lake_script.specs.declared.inputs.Input.{Input}
use Rattle.lake_script.specs.declared.outputs.Output.{Output}

-- the bytes that an input will give, where its reader tells them
abbrev pub unread : {R : Type 0} → (R → Option (List ℕ)) → Input R → Option (List ℕ)
unread remaining input = remaining input.reader

-- an input's last read failed
abbrev pub read_failed : {R : Type 0} → Input R → Bool
read_failed input = input.is_broken

-- bytes went from an input to the end of a text
abbrev pub Moves : Option (List ℕ) → Option (List ℕ) → List ℕ → List ℕ → Type 0
Moves old new before after = (bytes : List ℕ) × Consumes old new bytes × (after ≡ before ++ bytes)

-- the bytes that wait in an output to be written
abbrev pub waiting : {W : Type 0} → Output W → List ℕ
waiting output = output.pending.items

-- a write of an output failed
abbrev pub write_failed : {W : Type 0} → Output W → Bool
write_failed output = output.is_broken

-- the bytes that an output's writer holds, and those that wait to be written, where the writer tells its own
abbrev pub held : {W : Type 0} → (W → Option (List ℕ)) → Output W → Option (List ℕ)
held contents output = append_known (contents output.writer) (waiting output)

-- what a writer holds now is a front of what it held with these bytes behind it
abbrev pub WritesFront : Option (List ℕ) → Option (List ℕ) → List ℕ → Type 0
WritesFront None now bytes = ⊤
WritesFront (Some before) None bytes = ⊥
WritesFront (Some before) (Some now) bytes = (rest : List ℕ) × (now ++ rest ≡ before ++ bytes)
